-- The derived order of events and actions is the order of what they stand for.
use denote.RattleType
use mir.Syntax
use Rattle.std.proofs.Common.{◌≡◌, refl, ap}
use Rattle.std.specs.declared.alloc.Allocator as allocator
use Rattle.std.specs.declared.clone.Clone as clone
use Rattle.std.specs.declared.cmp.Ordering.{Ordering}
use Rattle.std.specs.Ordering.{nat_cmp, ordering_then}
use Rattle.theory_syntax.specs.Value as pure
use Rattle.csp_value.specs.declared.handle.AllocHandle as handle
use Rattle.csp_value.specs.declared.action.Event.{Event}
use Rattle.csp_value.specs.declared.action.Action.{Action}
use Rattle.csp_value.specs.declared.action.Action.TheVariants as variant
use Rattle.csp_value.specs.contracts.action.EventOrd.TheImpl as event_impl
use Rattle.csp_value.specs.contracts.action.ActionOrd.TheImpl as action_impl
use Rattle.csp_value.specs.Action.{event_of, action_of}
use Rattle.csp_value.specs.Value.{value_of}
use Rattle.csp_value.proofs.Slices.{slices_ordered}
use Rattle.csp_value.proofs.ValueOrder.{ordered}

module _ (R : RattleType.RattleType) (H : handle.Ghosts R.Denot) (hd : Syntax.Dict) (A : allocator.Ghosts R.Denot) (ad : Syntax.Dict) (C : clone.Ghosts R.Denot) (cd : Syntax.Dict) where
  abbrev pub event_order : Event R.Denot → Event R.Denot → Ordering
  event_order = (event_impl.ghosts R H hd A ad C cd).cmp

  abbrev pub action_order : Action R.Denot → Action R.Denot → Ordering
  action_order = (action_impl.ghosts R H hd A ad C cd).cmp

  pub event_ordered : (e f : Event R.Denot) → event_order e f ≡ pure.event_cmp (event_of e) (event_of f)
  event_ordered e f = ap (ordering_then (nat_cmp e.channel.0 f.channel.0)) (slices_ordered _ pure.value_cmp value_of (ordered R A ad ad) e.fields.items f.fields.items)

  pub action_ordered : (x y : Action R.Denot) → action_order x y ≡ pure.action_cmp (action_of x) (action_of y)
  action_ordered variant.Tau variant.Tau = refl
  action_ordered variant.Tau variant.Tick = refl
  action_ordered variant.Tau (variant.Event f) = refl
  action_ordered variant.Tick variant.Tau = refl
  action_ordered variant.Tick variant.Tick = refl
  action_ordered variant.Tick (variant.Event f) = refl
  action_ordered (variant.Event e) variant.Tau = refl
  action_ordered (variant.Event e) variant.Tick = refl
  action_ordered (variant.Event e) (variant.Event f) = event_ordered e f
