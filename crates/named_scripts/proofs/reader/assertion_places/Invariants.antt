use Rattle.std.proofs.Common.{◌≡◌, ◌++◌, drop, map}
use Rattle.csp_lex.specs.Places.{place_of}
use Rattle.csp_parse.specs.Declarations.{declaration_of}
use Rattle.named_scripts.specs.Naming.{assertion_places}
use Rattle.named_scripts.proofs.reader.assertion_places.Given as goal

abbrev pub invariant-loop-declaration : goal.invariant-loop-declaration
invariant-loop-declaration g l =
    map place_of l.places.items ++ assertion_places (map declaration_of (drop l.declaration-index l.declaration-items)) ≡ assertion_places (map declaration_of l.declaration-items)
