-- What two steps by numbers do together.
use Rattle.std.proofs.Common.{◌≡◌, ◌++◌, Bool, true, false, cond, ◌&&◌, List, [], ◌∷◌, refl, ap, ap₂, ◌∙◌}
use Rattle.theory_syntax.specs.Value.{Event, Ev, event_eq}
use Rattle.theory_shapes.specs.Combining.{each_to, jointly}
use Rattle.theory_shapes.specs.Moves.{both_changes}
use Rattle.csp_rows.specs.declared.numbers.ActionId.{ActionId}
use Rattle.csp_rows.specs.declared.numbers.ActionId.TheVariants as by_number
use Rattle.csp_rows.specs.declared.changes.Change.{Change}
use Rattle.csp_rows.specs.declared.step.Step.{Step}
use Rattle.csp_rows.specs.Numbering.{AreBitsOf, IsNumbered, Numbering, action_at}
use Rattle.csp_rows.specs.Runs.{Told, steps_of, told_of}
use Rattle.csp_rows.specs.Adding.{is_marked, is_same}

and_false : (b c : Bool) → c ≡ false → (b && c) ≡ false
and_false true c e = e
and_false false c e = refl

module _ (z : Numbering) (test : Event → Bool) (bits : List Bool) (are : AreBitsOf z test bits) where
  pub one_made : (o r : Told) (a b : ActionId) → IsNumbered z.events a → IsNumbered z.events b → is_same a b ≡ true → is_marked bits a ≡ true →
      jointly test both_changes (action_at z a) o (action_at z b) r ≡ (action_at z a, both_changes o r) ∷ []
  one_made o r (by_number.Event n) (by_number.Event m) nn mm same marked =
      ap₂ (λ (b : Bool) (c : Bool). cond (b && c) ((Ev (z.event n.0), both_changes o r) ∷ []) []) (z.apart n.0 m.0 nn mm ∙ same) (are n.0 nn ∙ marked)
  one_made o r (by_number.Event n) by_number.Tau nn mm same marked = absurd (cc same)
  one_made o r (by_number.Event n) by_number.Tick nn mm same marked = absurd (cc same)
  one_made o r by_number.Tau b nn mm same marked = absurd (cc same)
  one_made o r by_number.Tick b nn mm same marked = absurd (cc same)

  pub none_same : (o r : Told) (a b : ActionId) → IsNumbered z.events a → IsNumbered z.events b → is_same a b ≡ false → jointly test both_changes (action_at z a) o (action_at z b) r ≡ []
  none_same o r (by_number.Event n) (by_number.Event m) nn mm away =
      ap (λ (b : Bool). cond (b && test (z.event n.0)) ((Ev (z.event n.0), both_changes o r) ∷ []) []) (z.apart n.0 m.0 nn mm ∙ away)
  none_same o r (by_number.Event n) by_number.Tau nn mm away = refl
  none_same o r (by_number.Event n) by_number.Tick nn mm away = refl
  none_same o r by_number.Tau b nn mm away = refl
  none_same o r by_number.Tick b nn mm away = refl

  none_marked : (o r : Told) (a b : ActionId) → IsNumbered z.events a → is_marked bits a ≡ false → jointly test both_changes (action_at z a) o (action_at z b) r ≡ []
  none_marked o r (by_number.Event n) (by_number.Event m) nn out =
      ap (λ (b : Bool). cond b ((Ev (z.event n.0), both_changes o r) ∷ []) []) (and_false (event_eq (z.event n.0) (z.event m.0)) (test (z.event n.0)) (are n.0 nn ∙ out))
  none_marked o r (by_number.Event n) by_number.Tau nn out = refl
  none_marked o r (by_number.Event n) by_number.Tick nn out = refl
  none_marked o r by_number.Tau b nn out = refl
  none_marked o r by_number.Tick b nn out = refl

  pub none_with_each : (pool : List Change) (o : Told) (a : ActionId) (rs : List Step) → IsNumbered z.events a → is_marked bits a ≡ false → each_to (jointly test both_changes (action_at z a) o) (steps_of z pool rs) ≡ []
  none_with_each pool o a [] nn out = refl
  none_with_each pool o a (r ∷ rs) nn out = ap₂ ◌++◌ (none_marked o (told_of z pool r.changes) a r.action nn out) (none_with_each pool o a rs nn out)
