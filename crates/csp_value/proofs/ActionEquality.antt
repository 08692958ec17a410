-- The derived `==` of events and actions is true exactly where two of them stand for the same.
use denote.RattleType
use mir.Syntax
use Rattle.std.proofs.Common.{◌≡◌, Bool, true, nat_eq, refl, ap, []}
use Rattle.std.proofs.lemmas.Bool.{and_from}
use Rattle.std.specs.declared.alloc.Allocator as allocator
use Rattle.std.specs.declared.clone.Clone as clone
use Rattle.theory_syntax.specs.Value as pure
use Rattle.theory_syntax.proofs.Truths.{and_first, and_second}
use Rattle.csp_value.specs.declared.handle.AllocHandle as handle
use Rattle.csp_value.specs.declared.action.Event.{Event}
use Rattle.csp_value.specs.declared.action.Action.{Action}
use Rattle.csp_value.specs.declared.action.Action.TheVariants as variant
use Rattle.csp_value.specs.contracts.action.EventPartialEq.TheImpl as event_impl
use Rattle.csp_value.specs.contracts.action.ActionPartialEq.TheImpl as action_impl
use Rattle.csp_value.specs.Action.{event_of, action_of}
use Rattle.csp_value.specs.Value.{value_of}
use Rattle.csp_value.proofs.Equality.{value_tells}
use Rattle.csp_value.proofs.Sameness.{Tells, nat_tells, lists_tell}

abbrev event_of_action : pure.Action → pure.Event
event_of_action (pure.Ev e) = e
event_of_action _ = record { channel = 0; fields = [] }

module _ (R : RattleType.RattleType) (H : handle.Ghosts R.Denot) (hd : Syntax.Dict) (A : allocator.Ghosts R.Denot) (ad : Syntax.Dict) (C : clone.Ghosts R.Denot) (cd : Syntax.Dict) where
  abbrev pub event_eq : Event R.Denot → Event R.Denot → Bool
  event_eq = (event_impl.ghosts R H hd A ad C cd).eq

  event_sound : (x y : Event R.Denot) → event_eq x y ≡ true → event_of x ≡ event_of y
  event_sound x y e =
      let n = nat_tells.sound x.channel.0 y.channel.0 (and_first (nat_eq x.channel.0 y.channel.0) _ e) in
      let vs = (lists_tell _ value_of (value_tells R A ad ad)).sound x.fields.items y.fields.items (and_second (nat_eq x.channel.0 y.channel.0) _ e) in
      λ k. record { channel = n k; fields = vs k }

  event_complete : (x y : Event R.Denot) → event_of x ≡ event_of y → event_eq x y ≡ true
  event_complete x y e =
      and_from (nat_eq x.channel.0 y.channel.0) _
      (nat_tells.complete x.channel.0 y.channel.0 (ap (λ f. f.channel) e))
      ((lists_tell _ value_of (value_tells R A ad ad)).complete x.fields.items y.fields.items (ap (λ f. f.fields) e))

  pub event_tells : Tells event_eq (event_of {A = R.Denot})
  event_tells = record { sound = event_sound; complete = event_complete }

  abbrev pub action_eq : Action R.Denot → Action R.Denot → Bool
  action_eq = (action_impl.ghosts R H hd A ad C cd).eq

  action_sound : (x y : Action R.Denot) → action_eq x y ≡ true → action_of x ≡ action_of y
  action_sound variant.Tau variant.Tau e = refl
  action_sound variant.Tick variant.Tick e = refl
  action_sound (variant.Event a) (variant.Event b) e = ap pure.Ev (event_sound a b e)
  action_sound variant.Tau variant.Tick e = absurd (cc e)
  action_sound variant.Tau (variant.Event b) e = absurd (cc e)
  action_sound variant.Tick variant.Tau e = absurd (cc e)
  action_sound variant.Tick (variant.Event b) e = absurd (cc e)
  action_sound (variant.Event a) variant.Tau e = absurd (cc e)
  action_sound (variant.Event a) variant.Tick e = absurd (cc e)

  action_complete : (x y : Action R.Denot) → action_of x ≡ action_of y → action_eq x y ≡ true
  action_complete variant.Tau variant.Tau e = refl
  action_complete variant.Tick variant.Tick e = refl
  action_complete (variant.Event a) (variant.Event b) e = event_complete a b (ap event_of_action e)
  action_complete variant.Tau variant.Tick e = absurd (cc e)
  action_complete variant.Tau (variant.Event b) e = absurd (cc e)
  action_complete variant.Tick variant.Tau e = absurd (cc e)
  action_complete variant.Tick (variant.Event b) e = absurd (cc e)
  action_complete (variant.Event a) variant.Tau e = absurd (cc e)
  action_complete (variant.Event a) variant.Tick e = absurd (cc e)

  pub action_tells : Tells action_eq (action_of {A = R.Denot})
  action_tells = record { sound = action_sound; complete = action_complete }
