-- Objects by their fields, and the lines that they stand in.
use Rattle.std.specs.Prelude.{ℕ, List, [], ◌∷◌, ◌++◌, codes, decimal}
use Rattle.json.specs.Json.{Json, number, string, array, object, Items, no_items, item, Members, no_members, member}
use Rattle.json.specs.Token.{Token, key}
use Rattle.json.specs.Tree.{json_tokens}
use Rattle.json.specs.Print.{print}

-- a name, with what it is said to be
pub record Field : Type 0 where
  pub name : List ℕ
  pub value : Json

abbrev pub number_field : List ℕ → ℕ → Field
number_field name n = record { name = name; value = number (decimal n) }

abbrev pub text_field : List ℕ → List ℕ → Field
text_field name text = record { name = name; value = string text }

-- texts, one behind the other
abbrev pub text_items : List (List ℕ) → Items
text_items [] = no_items
text_items (t ∷ ts) = item (string t) (text_items ts)

abbrev pub texts_field : List ℕ → List (List ℕ) → Field
texts_field name texts = record { name = name; value = array (text_items texts) }

-- the fields as members, in this order
abbrev pub members_of : List Field → Members
members_of [] = no_members
members_of (f ∷ fs) = member f.name f.value (members_of fs)

abbrev pub object_of : List Field → Json
object_of fields = object (members_of fields)

-- an object, and objects one behind the other
abbrev pub object_field : List ℕ → List Field → Field
object_field name fields = record { name = name; value = object_of fields }

abbrev pub object_items : List (List Field) → Items
object_items [] = no_items
object_items (fs ∷ objects) = item (object_of fs) (object_items objects)

abbrev pub objects_field : List ℕ → List (List Field) → Field
objects_field name objects = record { name = name; value = array (object_items objects) }

-- the object without spaces, with a line end behind it
abbrev pub object_line : List Field → List ℕ
object_line fields = print (json_tokens (object_of fields)) ++ codes "\n"

-- the tokens of fields, without the braces
abbrev pub field_tokens : List Field → List Token
field_tokens [] = []
field_tokens (f ∷ fs) = key f.name ∷ (json_tokens f.value ++ field_tokens fs)
