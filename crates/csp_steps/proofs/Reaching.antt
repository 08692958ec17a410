-- The step by the values of all fields.
use Rattle.std.proofs.Common.{◌≡◌, ℕ, List, [], ◌∷◌, ◌++◌, map, sym, ◌∙◌, ap}
use Rattle.std.proofs.lemmas.List.{append-nil, map-append}
use Rattle.std.specs.declared.vec.Vec.{Vec}
use Rattle.theory_syntax.specs.Value as pure
use Rattle.theory_syntax.specs.Process.{Process, Script}
use Rattle.theory_semantics.specs.Meaning.Events.{Communication}
use Rattle.theory_semantics.specs.Meaning.Substitution.{Bindings, put}
use Rattle.theory_semantics.specs.Meaning.Unfolding.{settled}
use Rattle.csp_steps.specs.declared.rule_step.RuleStep.{RuleStep}
use Rattle.csp_steps.specs.Answering.{answered_of, within_limits}
use Rattle.csp_steps.specs.Communicating.{IsFurther, behind_values}

-- the end of the fields
abbrev pub last_one : Bindings → List Communication
last_one bs = record { values = []; bindings = bs } ∷ []

pub reached : {A : Type 0} (script : Script) (c : ℕ) (p : Process) (vs : List pure.Value) (bs : Bindings) (before after : Vec (RuleStep A) A) (s : RuleStep A) → after.items ≡ before.items ++ s ∷ [] →
    answered_of s ≡ (pure.Ev (record { channel = c; fields = vs }), within_limits (settled script (put bs p))) → IsFurther script c p before after (behind_values vs (last_one bs))
reached script c p vs bs before after s pushed is =
    ap (map answered_of) pushed ∙ map-append answered_of before.items (s ∷ [])
    ∙ ap (λ z. map answered_of before.items ++ z ∷ []) (is ∙ ap (λ ws. (pure.Ev (record { channel = c; fields = ws }), within_limits (settled script (put bs p)))) (sym (append-nil vs)))
