-- The side of an assertion that is asked for.
use Rattle.std.proofs.Common.{◌≡◌, ◌∙◌, ◌<◌, ℕ, zero, suc, Bool, true, false, List, [], ◌∷◌, Option, Some, None, length, map, get_or, refl, sym, ap, subst, arith}
use Rattle.std.specs.Prelude.{IfSome, option_map, slice_get}
use Rattle.theory_syntax.specs.Process.{Process, Property, RefinementOf, DeadlockFree, DivergenceFree, specification_of, Assertion, Script}
use Rattle.theory_semantics.specs.Kinds.Scripts.{IsTermOf}
use Rattle.theory_search.specs.Terms.{IsAssertionOf}
use Rattle.theory_unfolding.specs.Assertions.{settled_assertion, settled_property}
use Rattle.theory_unfolding.proofs.SettledSides.{sides_stay}
use Rattle.walk_program.specs.Asking.{IsAsked, IsStart, Request, side_of}
use Rattle.walk_program.specs.Stops.{LacksSide}

-- the assertion at a place, as the code reads it
stands_at : {S : Type 0} (of : S → Assertion) (items : List S) (i : ℕ) (a : S) → i < length items → a ≡ get_or items i a → slice_get (map of items) i ≡ Some (of a)
stands_at of [] i a within read = absurd (omega (arith, within))
stands_at of (x ∷ xs) zero a within read = ap (λ y. Some (of y)) (sym read)
stands_at of (x ∷ xs) (suc i) a within read = stands_at of xs i a (omega (arith, within)) read

-- a side of an assertion of the script is a term of it
side_term : (script : Script) (specification : Bool) (a : Assertion) (o : Option Process) → side_of specification a ≡ o → IsAssertionOf script a → IfSome o (IsTermOf script)
side_term script true a o is sides = subst (λ p. IfSome p (IsTermOf script)) is sides.specification
side_term script false a o is sides = subst (λ p. IfSome p (IsTermOf script)) is sides.implementation

-- settled or not, an assertion has a specification or none
unsettled : (script : Script) (p : Property) → specification_of (settled_property script p) ≡ None → specification_of p ≡ None
unsettled script (RefinementOf model spec) none = absurd (cc none)
unsettled script DeadlockFree none = refl
unsettled script DivergenceFree none = refl

lacks_specification : (script : Script) (specification : Bool) (a : Assertion) → side_of specification (settled_assertion script a) ≡ None → (specification ≡ true) × (specification_of a.property ≡ None)
lacks_specification script true a none = (refl, unsettled script a.property none)
lacks_specification script false a none = absurd (cc none)

pub none_of : {X Y : Type 0} (f : X → Y) (o : Option X) → ((x : X) → o ≡ Some x → ⊥) → option_map f o ≡ None
none_of f None never = refl
none_of f (Some x) never = absurd (never x refl)

-- ---- of the code's assertion at the place that is asked for

module _ {S : Type 0} (of : S → Assertion) (request : Request) (script : Script) (items : List S) (place : ℕ) (written : S) (asked : Assertion) (all : map of items ≡ script.assertions)
    (number : request.number ≡ suc place) (within : place < length items) (read : written ≡ get_or items place written) (is : asked ≡ settled_assertion script (of written)) where
  pub is_asked : IsAsked request script (of written)
  is_asked = record { place = place; is_number = number; stands = subst (λ xs. slice_get xs place ≡ Some (of written)) all (stands_at of items place written within read) }

  pub is_start : (start : Process) → side_of request.specification asked ≡ Some start → IsStart request script start
  is_start start side = record { assertion = of written; asked = is_asked; side = ap (side_of request.specification) (sym is) ∙ side }

  pub is_term : (start : Process) → side_of request.specification asked ≡ Some start → IsAssertionOf script (of written) → IsTermOf script start
  is_term start side sides = side_term script request.specification asked (Some start) side (subst (IsAssertionOf script) (sym is) (sides_stay script (of written) sides))

  pub lacks_side : side_of request.specification asked ≡ None → LacksSide request script
  lacks_side none =
      let lacks = lacks_specification script request.specification (of written) (ap (side_of request.specification) (sym is) ∙ none) in
      record { assertion = of written; asked = is_asked; of_specification = lacks.0; none = lacks.1 }
