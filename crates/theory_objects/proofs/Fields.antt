-- The tokens of an object are those of its fields, in braces.
use Rattle.std.proofs.Common.{◌≡◌, List, [], ◌∷◌, ◌++◌, refl, ap, ◌∙◌, sym, append_assoc}
use Rattle.json.specs.Token.{Token, begin_object, end_object, key}
use Rattle.json.specs.Tree.{json_tokens, members_tokens}
use Rattle.theory_objects.specs.Fields.{Field, field_tokens, members_of, object_of}

pub tokens_of_both : (fs gs : List Field) → field_tokens (fs ++ gs) ≡ field_tokens fs ++ field_tokens gs
tokens_of_both [] gs = refl
tokens_of_both (f ∷ fs) gs = ap (λ ts. key f.name ∷ (json_tokens f.value ++ ts)) (tokens_of_both fs gs) ∙ ap (λ ts. key f.name ∷ ts) (sym (append_assoc (json_tokens f.value) (field_tokens fs) (field_tokens gs)))

pub tokens_of_members : (fs : List Field) → members_tokens (members_of fs) ≡ field_tokens fs ++ end_object ∷ []
tokens_of_members [] = refl
tokens_of_members (f ∷ fs) = ap (λ ts. key f.name ∷ (json_tokens f.value ++ ts)) (tokens_of_members fs) ∙ ap (λ ts. key f.name ∷ ts) (sym (append_assoc (json_tokens f.value) (field_tokens fs) (end_object ∷ [])))

pub tokens_of_object : (fs : List Field) → json_tokens (object_of fs) ≡ begin_object ∷ (field_tokens fs ++ end_object ∷ [])
tokens_of_object fs = ap (λ ts. begin_object ∷ ts) (tokens_of_members fs)
