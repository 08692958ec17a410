-- The set of the table, if there is one.
use Rattle.std.proofs.Common.{Result, length, slice_get, refl, sym, ◌∙◌, ap, subst}
use Rattle.std.proofs.lemmas.Option.{slice_get_past, slice_get_read}
use Rattle.theory_syntax.specs.Value as pure
use Rattle.theory_syntax.proofs.Places.{get_some}
use Rattle.theory_semantics.specs.Meaning.Evaluation.{Cause, set_at}
use Rattle.csp_expression.specs.Evaluation.{Gives, members_listed}
use Rattle.csp_expression.proofs.Forming.{get_none}
use Rattle.csp_expression.proofs.ranges.nametype.Goals as goal

pub returns-in-Some : goal.returns-in-Some
returns-in-Some g c =
    let table = c.deref.result.now in
    let n = c.args.nametype.0 in
    let look = c.in-Some.ensures.lookup in
    let at = ap (λ xs. slice_get xs n) (sym c.deref.ensures.value) ∙ slice_get_read table (length table) n c.in-Some.set.now refl look.3.0 look.1 in
    let P : Result pure.Value Cause → Type 0 = λ r. Gives c.copy_of.result r in
    subst P (sym (ap set_at (get_some members_listed c.args.types.now.nametypes.items n c.in-Some.set.now at))) c.copy_of.ensures

pub returns-in-None : goal.returns-in-None
returns-in-None g c =
    let table = c.deref.result.now in
    let n = c.args.nametype.0 in
    let look = c.in-None.ensures.lookup in
    let at = ap (λ xs. slice_get xs n) (sym c.deref.ensures.value) ∙ slice_get_past table n look.3 in
    ap set_at (get_none members_listed c.args.types.now.nametypes.items n at)
