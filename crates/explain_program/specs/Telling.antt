-- What is told of assertions, in words or by objects, with how large their searches were and what they took where that is
-- asked for.
use Rattle.std.specs.Prelude.{◌≡◌, ℕ, zero, suc, Bool, true, false, List, [], ◌∷◌, ◌++◌, Option, Some, None, slice_get}
use Rattle.theory_syntax.specs.Process.{Property, Assertion, Script}
use Rattle.theory_search.specs.Answer.{as_written}
use Rattle.theory_search.specs.Outcome.{Outcome}
use Rattle.theory_text.specs.Place.{Place}
use Rattle.theory_explanation.specs.Accounts.{Account, told_text}
use Rattle.theory_explanation.specs.Counting.{count_text}
use Rattle.theory_explanation.specs.Telling.{IsAccount, IsTold}
use Rattle.theory_unfolding.specs.Assertions.{settled_assertion}
use Rattle.theory_objects.specs.Answers.{Answered, answer_fields, cost_fields, size_fields}
use Rattle.theory_objects.specs.Fields.{Field, object_line}
use Rattle.explain_settings.specs.declared.format.Format.{Format}
use Rattle.explain_settings.specs.declared.format.Format.TheVariants as formats
use Rattle.explain_program.specs.Asking.{Request, style_for}
use Rattle.explain_program.specs.Costs.{cost_text}
use Rattle.named_scripts.specs.Naming.{Labels}
use Rattle.explain_program.specs.Sizes.{IsSizeFor}
use Rattle.explain_program.specs.declared.search_size.SearchSize.{SearchSize}

-- ---- in words

-- how large the search was, and what it took, in words, if there was one
abbrev pub size_text : Property → Option SearchSize → List ℕ
size_text property (Some size) = count_text property size.pairs size.nodes ++ cost_text size.cost
size_text property None = []

-- the same where it is asked for
abbrev pub size_asked : Bool → Property → Option SearchSize → List ℕ
size_asked true property size = size_text property size
size_asked false property size = []

-- Behind what is told of the assertion with this number and outcome stands how large the search for the outcome was, and what
-- it took: no definition says what that is.
pub record IsToldWithSize (request : Request) (script : Script) (labels : Labels) (n : ℕ) (written a : Assertion) (o : Outcome) (text : List ℕ) : Type 0 where
  pub told : List ℕ
  pub is_told : IsTold (style_for request labels.names) script n written a o told
  pub size : Option SearchSize
  pub is_size : IsSizeFor script a request.bounds o size
  pub whole : text ≡ told ++ size_text a.property size

-- what is told with the size, and what without it
abbrev pub IsToldBy : Bool → Request → Script → Labels → ℕ → Assertion → Assertion → Outcome → List ℕ → Type 0
IsToldBy true request script labels n written a o text = IsToldWithSize request script labels n written a o text
IsToldBy false request script labels n written a o text = IsTold (style_for request labels.names) script n written a o text

-- ---- by an object

-- how large the search was, and what it took, as fields, if there was one
abbrev pub sizes_of : Property → Option SearchSize → List Field
sizes_of property (Some size) = size_fields property size.pairs size.nodes ++ cost_fields size.cost.milliseconds size.cost.kilobytes
sizes_of property None = []

-- the same where it is asked for
abbrev pub sizes_asked : Bool → Property → Option SearchSize → List Field
sizes_asked true property size = sizes_of property size
sizes_asked false property size = []

-- where the assertion of the number stands, if it is one of the text's
abbrev pub place_at : List Place → ℕ → Option Place
place_at places zero = None
place_at places (suc before) = slice_get places before

abbrev pub answered : Labels → ℕ → Assertion → Outcome → Account → List ℕ → Answered
answered labels n written found account words = record { number = n; place = place_at labels.places n; assertion = written; found = found; account = account; words = words }

-- The text is the line of the object of the assertion with this number and outcome, by what is found of it but for a `not`, with
-- an account of that, and the words that tell of both.
pub record IsObjectOf (request : Request) (script : Script) (labels : Labels) (n : ℕ) (written a : Assertion) (o : Outcome) (text : List ℕ) : Type 0 where
  pub found : Outcome
  pub is_found : o ≡ as_written written.negated found
  pub account : Account
  pub is_account : IsAccount (style_for request labels.names) script written a found account
  pub words : List ℕ
  pub are_words : words ≡ told_text (style_for request labels.names) script n written a found account
  pub size : Option SearchSize
  pub is_size : IsSizeFor script a request.bounds o size
  pub line : text ≡ object_line (answer_fields labels.names (answered labels n written found account words) (sizes_asked request.count written.property size))

-- ---- as is asked

abbrev pub IsToldIn : Format → Request → Script → Labels → ℕ → Assertion → Assertion → Outcome → List ℕ → Type 0
IsToldIn formats.Text request script labels n written a o text = IsToldBy request.count request script labels n written a o text
IsToldIn formats.Json request script labels n written a o text = IsObjectOf request script labels n written a o text

-- the text tells of the assertion with this number and outcome, which is written as the first one, what the request asks for
abbrev pub IsToldAsAsked : Request → Script → Labels → ℕ → Assertion → Assertion → Outcome → List ℕ → Type 0
IsToldAsAsked request = IsToldIn request.format request

-- The text tells of the assertions with these outcomes, one behind the other, numbered from n. Each is asked with its sides
-- settled; where names do a tau that is the assertion itself.
abbrev pub TellsEach : Request → Script → Labels → ℕ → List Assertion → List Outcome → List ℕ → Type 0
TellsEach request script labels n [] [] text = text ≡ []
TellsEach request script labels n [] (o ∷ os) text = ⊥
TellsEach request script labels n (a ∷ others) [] text = ⊥
TellsEach request script labels n (a ∷ others) (o ∷ os) text =
    (first : List ℕ) × (rest : List ℕ) × (text ≡ first ++ rest) × IsToldAsAsked request script labels n a (settled_assertion script a) o first × TellsEach request script labels (suc n) others os rest
