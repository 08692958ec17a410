-- The object is written in three pieces.
use Rattle.std.proofs.Common.{ℕ, List, [], ◌∷◌, codes, ap, subst, ◌∙◌}
use Rattle.std.specs.List.{concat}
use Rattle.program.specs.Given.{sent}
use Rattle.program.specs.Running.{IsGiven}
use Rattle.program.proofs.Giving.{given}
use Rattle.explain_program.proofs.Refusing.{in_pieces}
use Rattle.explain_program.proofs.stop.report_by_object.Goals as goal

pub returns-clause-line : goal.returns-clause-line
returns-clause-line g c =
    let err = sent g.E.Sink.taken g.E.Sink.has_failed c.args.err.now c.push_each.new.sink in
    let P : List ℕ → Type 0 = λ text. IsGiven err text in
    let pieces = λ (word : List ℕ). concat (codes "{\"answer\":\"refused\",\"refusal\":\"" ∷ word ∷ codes "\"}\n" ∷ []) in
    subst P (ap pieces c.stop_word.ensures ∙ in_pieces c.args.why) (given err (pieces c.stop_word.result.now) c.push_each.result c.push_each.ensures.whole c.push_each.ensures.beginning)
