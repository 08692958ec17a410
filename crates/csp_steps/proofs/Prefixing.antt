-- The steps of a prefix by what was found of its fields.
use Rattle.std.proofs.Common.{◌≡◌, ℕ, List, [], ◌∷◌, ◌++◌, map, ◌↔◌, slice_get, Some, None, Result, Ok, Err, ok_or, refl, sym, ◌∙◌, ap, subst}
use Rattle.std.specs.Result.{result_err}
use Rattle.std.specs.declared.vec.Vec.{Vec}
use Rattle.theory_syntax.specs.Value as pure
use Rattle.theory_syntax.specs.Process.{Field, Prefix, Process, Script}
use Rattle.theory_semantics.specs.Meaning.Evaluation.{Cause, IllKinded, ◌and_then◌}
use Rattle.theory_semantics.specs.Meaning.Events.{Communication, communications, prefix_communications}
use Rattle.theory_semantics.specs.Meaning.Stepping.{Steps, communication_steps, prefix_steps, settled_steps}
use Rattle.theory_semantics.specs.Meaning.Substitution.{Bindings, behind, put, put_fields}
use Rattle.theory_semantics.specs.Meaning.Transitions as rule
use Rattle.csp_expression.specs.Cause.{cause_of}
use Rattle.theory_semantics.specs.Laws.Statements.{IsOneOf}
use Rattle.theory_semantics.proofs.Stepping.{exact}
use Rattle.csp_steps.specs.declared.rule_step.RuleStep.{RuleStep}
use Rattle.csp_expression.specs.declared.no_value.NoValue.{NoValue}
use Rattle.csp_expression.specs.declared.no_value.NoValue.TheVariants as eval
use Rattle.csp_steps.specs.Answering.{Answered, Answers, IsAnswered, answered_of, kept}
use Rattle.csp_steps.specs.Communicating.{Finds, behind_values, kept_settled}
use Rattle.csp_steps.proofs.Answered.{answered_by}
use Rattle.csp_steps.proofs.Beginning.{reaching, same_cause, same_communications, same_steps}
use Rattle.csp_steps.proofs.Twice.{both_nothing}

behind_nothing : (ms : List Communication) → behind_values [] ms ≡ ms
behind_nothing [] = refl
behind_nothing (m ∷ ms) = ap (λ ns. m ∷ ns) (behind_nothing ms)

module _ (s : Script) (c : ℕ) (fs : List Field) (p : Process) where
  -- a prefix of what is no channel
  pub no_channel : slice_get s.channels c ≡ None → result_err (prefix_communications s c fs) ≡ Some IllKinded
  no_channel none = ap (λ o. result_err (ok_or o IllKinded and_then λ sets. communications s.types [] fs sets)) none

-- what is answered of settled steps
pub kept_of_settled : (s : Script) (ss : Steps) → map kept (settled_steps s ss) ≡ map (kept_settled s) ss
kept_of_settled s [] = refl
kept_of_settled s (t ∷ ss) = ap (λ bs. kept_settled s t ∷ bs) (kept_of_settled s ss)

-- what is found over the bindings answers the prefix with their values put in
module _ (s : Script) (c : ℕ) (fs : List Field) (p : Process) (bs : Bindings) {A : Type 0} (sets : List (List pure.Value)) (at : slice_get s.channels c ≡ Some sets) (nothing : Vec (RuleStep A) A) where
  abbrev gs : List Field
  gs = put_fields bs fs

  abbrev q : Process
  q = put (behind bs fs) p

  over_sets : prefix_communications s c gs ≡ communications s.types [] gs sets
  over_sets = ap (λ o. ok_or o IllKinded and_then λ ss. communications s.types [] gs ss) at

  same_reached : reaching q (communications s.types [] gs sets) ≡ reaching p (communications s.types bs fs sets)
  same_reached = same_communications s.types bs [] bs (both_nothing bs) fs sets p

  steps_found : nothing.items ≡ [] → (after : Vec (RuleStep A) A) → Finds s c p [] nothing (communications s.types bs fs sets) (Ok after) → IsAnswered s (Prefix c gs q) (map answered_of after.items)
  steps_found empty after found =
      let m = same_steps c q p (communications s.types [] gs sets) found.0 (same_reached ∙ ap (reaching p) found.1) in
      let allowed : prefix_communications s c gs ≡ Ok m.0 = over_sets ∙ m.1 in
      let are : map answered_of after.items ≡ map kept (settled_steps s (communication_steps c q m.0)) =
      found.2 ∙ ap (λ ss. map answered_of ss ++ map (kept_settled s) (communication_steps c p (behind_values [] found.0))) empty ∙ ap (λ ms. map (kept_settled s) (communication_steps c p ms)) (behind_nothing found.0)
      ∙ ap (map (kept_settled s)) (sym m.2) ∙ sym (kept_of_settled s (communication_steps c q m.0)) in
      let Q : pure.Action → Process → Result (List Communication) Cause → Type 0 = λ x u r. rule.RuleStep s (Prefix c gs q) x u ↔ IsOneOf (settled_steps s (prefix_steps c q r)) x u in
      let P : List Answered → Type 0 = λ ss. IsAnswered s (Prefix c gs q) ss in
      subst P (sym are) (answered_by s (Prefix c gs q) (settled_steps s (communication_steps c q m.0)) (ap result_err allowed) (λ x u. subst (Q x u) allowed (exact s (Prefix c gs q) x u)))

  pub answered_fields : nothing.items ≡ [] → (r : Result (Vec (RuleStep A) A) NoValue) → Finds s c p [] nothing (communications s.types bs fs sets) r → Answers s (Prefix c gs q) r
  answered_fields empty (Ok after) found = steps_found empty after found
  answered_fields empty (Err (eval.Cause e)) is = ap result_err (over_sets ∙ same_cause c q p (communications s.types [] gs sets) (cause_of e) (same_reached ∙ ap (reaching p) is))
  answered_fields empty (Err eval.Memory) is = tt
