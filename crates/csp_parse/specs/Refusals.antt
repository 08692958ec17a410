-- Refusals, as the definitions have them.
use Rattle.std.specs.Prelude.{◌≡◌, List, [], ◌∷◌}
use Rattle.theory_text.specs.Height as text
use Rattle.theory_text.specs.Place as places
use Rattle.theory_text.specs.Token.{PlacedToken}
use Rattle.csp_lex.specs.declared.places.Place.{Place}
use Rattle.csp_lex.specs.Places.{place_of}
use Rattle.csp_parse.specs.declared.refusals.GrammarFault.{GrammarFault}
use Rattle.csp_parse.specs.declared.refusals.GrammarFault.TheVariants as fault
use Rattle.csp_parse.specs.declared.refusals.Refused.{Refused}
use Rattle.csp_parse.specs.declared.refusals.Refused.TheVariants as refused
use Rattle.csp_parse.specs.declared.stops.Stopped.{Stopped}
use Rattle.csp_parse.specs.declared.stops.Stopped.TheVariants as stop

abbrev pub fault_of : GrammarFault → text.GrammarFault
fault_of fault.UnexpectedToken = text.UnexpectedToken
fault_of fault.Nested = text.Nested
fault_of fault.UnexpectedEnd = text.UnexpectedEnd
fault_of fault.MixedOperators = text.MixedOperators

-- the refusal that a stop is, before these tokens or at this end
pub data IsRefusalAt (end : places.Place) : List PlacedToken → Stopped → Refused → Type 0 where
  unexpected : (t : PlacedToken) (ts : List PlacedToken) (f : GrammarFault) (p : Place) → fault_of f ≡ text.token_fault t.token → place_of p ≡ t.place → IsRefusalAt end (t ∷ ts) stop.Here (refused.Grammar f p)
  too_high : (t : PlacedToken) (ts : List PlacedToken) (f : GrammarFault) (p : Place) → fault_of f ≡ text.Nested → place_of p ≡ t.place → IsRefusalAt end (t ∷ ts) stop.High (refused.Grammar f p)
  at_end : (e : Stopped) (f : GrammarFault) (p : Place) → ¬ (e ≡ stop.Memory) → fault_of f ≡ text.UnexpectedEnd → place_of p ≡ end → IsRefusalAt end [] e (refused.Grammar f p)
  memory : (ts : List PlacedToken) → IsRefusalAt end ts stop.Memory refused.Memory
