-- The acceptances that lists of the code stand for.
use Rattle.std.specs.Prelude.{List, Vec, map}
use Rattle.theory_syntax.specs.Value as pure
use Rattle.csp_value.specs.declared.action.Action.{Action}
use Rattle.csp_value.specs.Action.{action_of}

abbrev pub offers_listed : {A : Type 0} → List (Vec (Action A) A) → List (List pure.Action)
offers_listed offers = map (λ offer. map action_of offer.items) offers
