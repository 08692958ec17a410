-- Scripts that are the same have equal parts, and equal parts make the same writes.
use Rattle.std.proofs.Common.{sym, ◌∙◌, ap}
use Rattle.std.specs.List.{fold}
use Rattle.csp_term.specs.contracts.script.ScriptPartsHash.TheImpl.Laws as laws
use Rattle.csp_term.proofs.Equality.{script_tells}
use Rattle.csp_term.proofs.laws.hash_script.Goals as goal

pub returns : goal.returns
returns g c other same =
    let equal = (script_tells g.row.A g.A.Allocator g.A.Allocator-dict g.A.Destruct-dict).complete c.parts.result.now other (c.parts.ensures.value ∙ sym same) in
    c.hash.ensures ∙ ap (fold g.H.Hasher.write c.args.hasher.now) (laws.respects_eq-law g.row.A g.A.Allocator g.A.Allocator-dict g.A.Destruct-dict c.parts.result.now other equal)
