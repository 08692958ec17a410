use Rattle.std.proofs.Common.{◌≡◌, ◌≤◌, length, map, take}
use Rattle.theory_checking.specs.Sets.{nametype_sets}
use Rattle.csp_parse.specs.Declarations.{declaration_of}
use Rattle.csp_inference.proofs.counts.nametype_count.Given as goal

abbrev pub invariant-loop-declaration : goal.invariant-loop-declaration
invariant-loop-declaration g l = record {
  within : l.count ≤ l.declaration-index;
  counted : l.count ≡ length (nametype_sets (map declaration_of (take l.declaration-index l.declarations)));
}
