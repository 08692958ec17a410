-- The objects of refusals.
use Rattle.std.specs.Prelude.{ℕ, List, [], ◌∷◌, ◌++◌, codes}
use Rattle.theory_text.specs.Place.{Place}
use Rattle.theory_objects.specs.Answers.{place_fields}
use Rattle.theory_objects.specs.Fields.{Field, text_field}

-- The word or the number of a refusal, as `refcheck` has it.
abbrev pub refusal_fields : List ℕ → List Field
refusal_fields refusal = text_field (codes "answer") (codes "refused") ∷ text_field (codes "refusal") refusal ∷ []

-- of a file that cannot be read, its name and the reason
abbrev pub unread_fields : (name reason : List ℕ) → List Field
unread_fields name reason = refusal_fields (codes "file") ++ (text_field (codes "file") name ∷ text_field (codes "reason") reason ∷ [])

-- what may be meant, if anything is told of that
abbrev pub help_fields : List ℕ → List Field
help_fields [] = []
help_fields (c ∷ help) = text_field (codes "help") (c ∷ help) ∷ []

-- Of a text, the name of its file, the place, the number and the rule, what may be meant, and what is told of it in words: the
-- line with a mark under the place, and again what may be meant.
abbrev pub text_fields : (name number rule : List ℕ) → Place → (help words : List ℕ) → List Field
text_fields name number rule place help words =
    refusal_fields number ++ (text_field (codes "file") name ∷ (place_fields place ++ (text_field (codes "rule") rule ∷ (help_fields help ++ (text_field (codes "words") words ∷ [])))))
