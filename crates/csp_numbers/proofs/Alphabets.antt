-- The events of a checked script, as they are listed.
use Rattle.std.proofs.Common.{◌≡◌, ℕ, ◌<◌, ◌≤◌, ◌^◌, List, length, Some, sym, ◌∙◌, ap, subst, arith}
use Rattle.std.specs.declared.vec.Vec.{Vec}
use Rattle.theory_syntax.specs.Value as pure
use Rattle.theory_syntax.specs.Process.{Script}
use Rattle.theory_semantics.specs.Kinds.Scripts.{IsCheckedScript}
use Rattle.theory_semantics.specs.Meaning.Offers.{RisesBy}
use Rattle.theory_shapes.specs.Alphabet.{alphabet}
use Rattle.theory_shapes.proofs.Numbered.{checked_rises}
use Rattle.csp_value.specs.declared.action.Event.{Event}
use Rattle.csp_numbers.specs.Numbers.{AreListedWithin, AreNumbered, AreWithin, events_of}

module _ {A : Type 0} (script : Script) (checked : IsCheckedScript script) (es : List pure.Event) (all : es ≡ alphabet script) (most : ℕ) (few : most < 2 ^ 32) (events : Vec (Event A) A) (listed : AreListedWithin most es (Some events)) where
  same : events_of events.items ≡ alphabet script
  same = listed.0 ∙ all

  pub script_numbered : AreNumbered (events_of events.items)
  script_numbered =
      let long : length (events_of events.items) ≡ length es = ap length listed.0 in
      record {
        rising = subst (RisesBy pure.event_cmp) (sym same) (checked_rises script checked);
        few = omega (arith, long, listed.1, few);
      }

  pub script_listed : AreWithin most (alphabet script) (Some (events_of events.items))
  script_listed = (same, subst (λ xs. length xs ≤ most) all listed.1)
