-- Texts with their scripts, their names, and where their assertions stand.
use Rattle.std.specs.Prelude.{◌≡◌, ℕ, List, [], ◌∷◌, map}
use Rattle.theory_syntax.specs.Process.{Script}
use Rattle.theory_syntax.specs.Types.{Types}
use Rattle.theory_text.specs.Place.{Place}
use Rattle.theory_text.specs.Raw.{RawScript, RawDatatype, RawNametype, RawChannels, RawEquation, RawAssertion}
use Rattle.theory_text.specs.Reading.{IsRead}
use Rattle.theory_checking.specs.Checked.{IsCheckedTree}
use Rattle.theory_notation.specs.Names.{Names, names_in, with_types}
use Rattle.csp_lex.specs.Places.{place_of}
use Rattle.csp_print.specs.Names.{names_of}
use Rattle.named_scripts.specs.declared.reader.NamedScript.{NamedScript}

-- the names of a script, and the place of each of its assertions
pub record Labels : Type 0 where
  pub names : Names
  pub places : List Place

-- where the assertions of a tree begin
abbrev pub assertion_places : RawScript → List Place
assertion_places [] = []
assertion_places (RawDatatype n cs ∷ others) = assertion_places others
assertion_places (RawNametype n d ∷ others) = assertion_places others
assertion_places (RawChannels ns ds ∷ others) = assertion_places others
assertion_places (RawEquation n ps p ∷ others) = assertion_places others
assertion_places (RawAssertion place negated property p ∷ others) = place ∷ assertion_places others

-- those of a tree, with the types of its script, by which values are told
abbrev pub labels_in : Types → RawScript → Labels
labels_in types tree = record { names = with_types types (names_in tree); places = assertion_places tree }

-- those of a script that is read
abbrev pub labels_of : {A : Type 0} → NamedScript A → Labels
labels_of named = record { names = names_of named.names; places = map place_of named.places.items }

-- The text is checked: this is its script, and these are the labels of its tree.
pub record IsNamedText (bytes : List ℕ) (script : Script) (labels : Labels) : Type 0 where
  pub tree : RawScript
  pub read : IsRead bytes tree
  pub checked : IsCheckedTree tree script
  pub named : labels ≡ labels_in script.types tree

-- the file of this name holds such a text
pub record IsNamedFile (may_hold : List ℕ → List ℕ → Type 0) (name : List ℕ) (script : Script) (labels : Labels) : Type 0 where
  pub text : List ℕ
  pub held : may_hold name text
  pub of_text : IsNamedText text script labels
