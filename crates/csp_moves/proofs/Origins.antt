-- The origins that those of the code stand for, and what they tell along a way.
use Rattle.std.proofs.Common.{◌≡◌, Bool, true, false, Contains, List, sym, ◌∙◌, ap, Option, Some, None}
use Rattle.std.specs.Option.{is_some}
use Rattle.std.specs.declared.boxed.Box.{Box}
use Rattle.theory_syntax.specs.Process.{Script}
use Rattle.csp_value.specs.Action.{event_of}
use Rattle.csp_value.specs.declared.action.Event.{Event}
use Rattle.csp_term.specs.declared.name.EquationId.{EquationId}
use Rattle.theory_origins.specs.Origin as pure
use Rattle.theory_origins.specs.Ways.{TellsBy, Way}
use Rattle.csp_moves.specs.declared.origin.Origin.{Origin}
use Rattle.csp_moves.specs.declared.origin.Origin.TheFolds.{fold-roll-Origin}
use Rattle.csp_moves.specs.declared.origin.Origin.TheOpen as layer
use Rattle.csp_moves.specs.declared.origin.Origin.TheVariants as views
use Rattle.csp_moves.specs.declared.passage.Passage.{Passage}
use Rattle.csp_moves.specs.declared.passage.Side.{Side}
use Rattle.csp_moves.specs.Along.{TellsAlong}
use Rattle.csp_moves.specs.Finding.{origin_found}
use Rattle.csp_moves.specs.Origin.{origin_of, origin_step}
use Rattle.csp_moves.specs.Passage.{passage_of, side_of}

module _ (A : Type 0) where
  pub of_does : (e : Event A) → origin_of (views.Does e) ≡ pure.Does (event_of e)
  of_does e = ap origin_of (sym (views.rolls-Does e)) ∙ fold-roll-Origin A pure.Origin origin_step (layer.Does e)

  pub of_ends : origin_of {A = A} views.Ends ≡ pure.Ends
  of_ends = ap (origin_of {A = A}) (sym views.rolls-Ends) ∙ fold-roll-Origin A pure.Origin origin_step layer.Ends

  pub of_unfolds : (n : EquationId) → origin_of {A = A} (views.Unfolds n) ≡ pure.Unfolds n.0
  of_unfolds n = ap (origin_of {A = A}) (sym (views.rolls-Unfolds n)) ∙ fold-roll-Origin A pure.Origin origin_step (layer.Unfolds n)

  pub of_chooses : (s : Side) → origin_of {A = A} (views.Chooses s) ≡ pure.Chooses (side_of s)
  of_chooses s = ap (origin_of {A = A}) (sym (views.rolls-Chooses s)) ∙ fold-roll-Origin A pure.Origin origin_step (layer.Chooses s)

  pub of_slides : origin_of {A = A} views.Slides ≡ pure.Slides
  of_slides = ap (origin_of {A = A}) (sym views.rolls-Slides) ∙ fold-roll-Origin A pure.Origin origin_step layer.Slides

  pub of_below : (p : Passage A) (o : Box (Origin A) A) → origin_of (views.Below p o) ≡ pure.Below (passage_of p) (origin_of o.value)
  of_below p o = ap origin_of (sym (views.rolls-Below p o)) ∙ fold-roll-Origin A pure.Origin origin_step (layer.Below p o)

  pub of_together : (l r : Box (Origin A) A) → origin_of (views.Together l r) ≡ pure.Together (origin_of l.value) (origin_of r.value)
  of_together l r = ap origin_of (sym (views.rolls-Together l r)) ∙ fold-roll-Origin A pure.Origin origin_step (layer.Together l r)

-- ---- what is found along the ways

module _ {A : Type 0} (s : Script) (ways : List Way) (way : Way) where
  pub found_along : Contains ways way → (f : Option (Origin A)) (b : Bool) → b ≡ is_some f → b ≡ true → TellsBy s way (origin_found f) → TellsAlong s ways (origin_found f)
  found_along has (Some o) b is found h = (way, has, h)
  found_along has None b is found h = let e : true ≡ false = sym found ∙ is in absurd (cc e)

  pub none_along : (f : Option (Origin A)) (b : Bool) → b ≡ is_some f → b ≡ false → TellsBy s way (origin_found f) → TellsBy s way None
  none_along (Some o) b is found h = let e : false ≡ true = sym found ∙ is in absurd (cc e)
  none_along None b is found h = h
