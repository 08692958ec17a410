-- What the reader of a script says, read and refused.
use Rattle.std.specs.Prelude.{List, [], Result, Ok, Err, ⊤}
use Rattle.theory_text.specs.Place.{Place}
use Rattle.theory_text.specs.Token.{PlacedToken}
use Rattle.theory_text.specs.Height.{IsGrammarRefusal}
use Rattle.csp_lex.specs.Places.{place_of}
use Rattle.theory_reader.specs.Programs.{Here, High}
use Rattle.theory_reader.specs.Scripts.{ReadsScript}
use Rattle.csp_parse.specs.declared.declarations.Raw.{Raw}
use Rattle.csp_parse.specs.declared.parsers.Parser.{Parser}
use Rattle.csp_parse.specs.declared.refusals.Refused.{Refused}
use Rattle.csp_parse.specs.declared.refusals.Refused.TheVariants as refused
use Rattle.csp_parse.specs.declared.stops.Stopped.{Stopped}
use Rattle.csp_parse.specs.declared.stops.Stopped.TheVariants as stop
use Rattle.csp_parse.specs.Declarations.{script_of}
use Rattle.csp_parse.specs.Reading.{left_of, standing_of}
use Rattle.csp_parse.specs.Refusals.{fault_of}

-- the script is read from where the tokens stand, or reading stops; refused memory says nothing
abbrev pub GivesScript : {A : Type 0} → Parser A → Result (Raw A) Stopped → Parser A → Type 0
GivesScript old (Ok raw) new = ReadsScript [] (standing_of old) (Ok (script_of raw, standing_of new))
GivesScript old (Err stop.Here) new = ReadsScript [] (standing_of old) (Err (Here, left_of new))
GivesScript old (Err stop.High) new = ReadsScript [] (standing_of old) (Err (High, left_of new))
GivesScript old (Err stop.Memory) new = ⊤

-- the refusal is that of the tokens; refused memory says nothing
abbrev pub IsRefusalOf : List PlacedToken → Place → Refused → Type 0
IsRefusalOf tokens end refused.Memory = ⊤
IsRefusalOf tokens end (refused.Grammar fault place) = IsGrammarRefusal tokens end (fault_of fault) (place_of place)
