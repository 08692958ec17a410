-- What is put behind the tokens of a writer.
use Rattle.std.specs.Prelude.{◌≡◌, ℕ, List, [], ◌∷◌, ◌++◌, map, Result, OnOk}
use Rattle.json.specs.Token.{Token, begin_object, end_object, string}
use Rattle.json.specs.Written.{Written}
use Rattle.theory_objects.specs.Fields.{Field, field_tokens}

-- These tokens were put behind those that stood there. Where memory was refused, nothing is said.
abbrev pub PutsTokens : {T E : Type 0} → Result T E → Written → Written → List Token → Type 0
PutsTokens result old new tokens = OnOk result ((new.before ≡ old.before) × (new.tokens ≡ old.tokens ++ tokens))

-- so were these fields
abbrev pub Puts : {T E : Type 0} → Result T E → Written → Written → List Field → Type 0
Puts result old new fields = PutsTokens result old new (field_tokens fields)

-- texts, as tokens
abbrev pub string_tokens : List (List ℕ) → List Token
string_tokens texts = map (λ t. string t) texts

-- an object, as tokens, and objects one behind the other
abbrev pub object_tokens : List Field → List Token
object_tokens fields = begin_object ∷ (field_tokens fields ++ end_object ∷ [])

abbrev pub objects_tokens : List (List Field) → List Token
objects_tokens [] = []
objects_tokens (fs ∷ objects) = object_tokens fs ++ objects_tokens objects
