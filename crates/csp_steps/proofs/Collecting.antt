-- What is made of each step in turn, added behind what was there.
use Rattle.std.proofs.Common.{◌≡◌, ℕ, ◌+◌, ◌≤◌, ◌<◌, List, [], ◌∷◌, ◌++◌, length, map, take, get_or, Option, refl, sym, ◌∙◌, ap, subst}
use Rattle.std.proofs.lemmas.List.{append-nil, append_assoc, map-append, take_all, take_more}
use Rattle.theory_syntax.specs.Value.{Action}
use Rattle.theory_syntax.specs.Process.{Process}
use Rattle.csp_value.specs.Action.{action_of}
use Rattle.csp_steps.specs.declared.rule_step.RuleStep.{RuleStep}
use Rattle.csp_steps.specs.Answering.{Answered, answered_of, target_of}
use Rattle.csp_steps.specs.Composing.{each_answer}
use Rattle.csp_steps.proofs.Composing.{each_more}

-- one step more
pub one_pushed : {A : Type 0} (now more : List (RuleStep A)) (s : RuleStep A) (made : List Answered) → answered_of s ∷ [] ≡ made → more ≡ now ++ s ∷ [] → map answered_of more ≡ map answered_of now ++ made
one_pushed now more s made is pushed = ap (map answered_of) pushed ∙ map-append answered_of now (s ∷ []) ∙ ap (λ bs. map answered_of now ++ bs) is

module _ {A : Type 0} (f : Action → Option Process → List Answered) (before : List Answered) where
  -- so far, by these steps
  abbrev pub Collected : List (RuleStep A) → List (RuleStep A) → Type 0
  Collected steps taken = map answered_of steps ≡ before ++ each_answer f (map answered_of taken)

  pub none_collected : (steps : List (RuleStep A)) → map answered_of steps ≡ before → Collected steps []
  none_collected steps same = same ∙ sym (append-nil before)

  pub one_collected : (steps more taken : List (RuleStep A)) (s : RuleStep A) → Collected steps taken → map answered_of more ≡ map answered_of steps ++ f (action_of s.action) (target_of s.target) → Collected more (taken ++ s ∷ [])
  one_collected steps more taken s so_far one =
      let made = f (action_of s.action) (target_of s.target) in
      one ∙ ap (λ bs. bs ++ made) so_far ∙ append_assoc before (each_answer f (map answered_of taken)) made
      ∙ ap (λ bs. before ++ bs) (sym (each_more f (map answered_of taken) (answered_of s)) ∙ ap (each_answer f) (sym (map-append answered_of taken (s ∷ []))))

  -- one step more of a list
  pub one_taken : (steps more items : List (RuleStep A)) (i : ℕ) (s : RuleStep A) → i < length items → s ≡ get_or items i s → Collected steps (take i items) → map answered_of more ≡ map answered_of steps ++ f (action_of s.action) (target_of s.target) → Collected more (take (i + 1) items)
  one_taken steps more items i s within read so_far one = subst (λ ss. Collected more ss) (sym (take_more items i s within ∙ ap (λ u. take i items ++ u ∷ []) (sym read))) (one_collected steps more (take i items) s so_far one)

  pub all_taken : (steps items : List (RuleStep A)) (i : ℕ) → length items ≤ i → Collected steps (take i items) → Collected steps items
  all_taken steps items i done so_far = subst (λ ss. Collected steps ss) (take_all i items done) so_far

-- ---- behind nothing

pub from_none : {A : Type 0} (none steps : List (RuleStep A)) (bs : List Answered) → none ≡ [] → map answered_of steps ≡ map answered_of none ++ bs → map answered_of steps ≡ bs
from_none none steps bs empty added = added ∙ ap (λ xs. map answered_of xs ++ bs) empty

pub both_from_none : {A : Type 0} (none mid steps : List (RuleStep A)) (bs cs : List Answered) → none ≡ [] → map answered_of mid ≡ map answered_of none ++ bs → map answered_of steps ≡ map answered_of mid ++ cs → map answered_of steps ≡ bs ++ cs
both_from_none none mid steps bs cs empty first second = second ∙ ap (λ xs. xs ++ cs) (from_none none mid bs empty first)

-- what was yielded is all
pub yielded_all : {X : Type 0} (xs all : List X) → map (λ y. y) xs ≡ all → xs ≡ all
yielded_all {X} xs all is = sym (same xs) ∙ is
  where
    same : (ys : List X) → map (λ y. y) ys ≡ ys
    same [] = refl
    same (y ∷ ys) = ap (λ zs. y ∷ zs) (same ys)
