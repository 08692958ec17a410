-- The derived `==` is true exactly where two sets of events stand for the same.
use denote.RattleType
use mir.Syntax
use Rattle.std.proofs.Common.{Bool, sym, ap, ◌∙◌}
use Rattle.std.specs.declared.alloc.Allocator as allocator
use Rattle.std.specs.Ordering.{is_eq}
use Rattle.theory_syntax.specs.Order.{event_set_cmp}
use Rattle.theory_syntax.proofs.Equalities.{is_eq-Equal}
use Rattle.theory_syntax.proofs.ProcessOrder.{event_set_same, event_set_refl}
use Rattle.csp_events.specs.declared.event_set.EventSet.{EventSet}
use Rattle.csp_events.specs.contracts.event_set.EventSetPartialEq.TheImpl as impl
use Rattle.csp_events.specs.contracts.event_set.EventSetOrd.TheImpl.Laws as laws
use Rattle.csp_events.specs.Events.{event_set_of}
use Rattle.csp_events.proofs.EventOrder.{cmp, ordered}
use Rattle.csp_value.proofs.Sameness.{Tells}

module _ (R : RattleType.RattleType) (A : allocator.Ghosts R.Denot) (ad dd : Syntax.Dict) where
  abbrev pub event_set_eq : EventSet R.Denot → EventSet R.Denot → Bool
  event_set_eq = (impl.ghosts R A ad dd).eq

  pub event_set_tells : Tells event_set_eq (event_set_of {A = R.Denot})
  event_set_tells = record {
    sound = λ x y e.
        event_set_same (event_set_of x) (event_set_of y)
        (sym (ordered R A ad dd x y) ∙ is_eq-Equal (cmp R A ad dd x y) (sym (laws.matches_eq-law R A ad dd x y) ∙ e));
    complete = λ x y e.
        laws.matches_eq-law R A ad dd x y ∙ ap is_eq (ordered R A ad dd x y ∙ ap (event_set_cmp (event_set_of x)) (sym e) ∙ event_set_refl (event_set_of x));
  }
