-- The line has the word of the cause.
use Rattle.std.proofs.Common.{ℕ, List, [], ◌∷◌, subst}
use Rattle.std.specs.Prelude.{codes}
use Rattle.std.specs.List.{concat}
use Rattle.program.specs.Given.{sent}
use Rattle.program.specs.Running.{IsGiven}
use Rattle.program.proofs.Giving.{given}
use Rattle.graph_program.proofs.stop.report_fault.Goals as goal

pub returns-clause-line : goal.returns-clause-line
returns-clause-line g c =
    let out = sent g.E.Sink.taken g.E.Sink.has_failed c.args.err.now c.push_each.new.sink in
    let T : List ℕ → Type 0 = λ word. IsGiven out (concat (codes "refused fault " ∷ word ∷ codes "\n" ∷ [])) in
    subst T c.word.ensures (given out (concat (codes "refused fault " ∷ c.word.result.now ∷ codes "\n" ∷ [])) c.push_each.result c.push_each.ensures.whole c.push_each.ensures.beginning)
