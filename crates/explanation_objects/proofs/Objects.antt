-- Objects that are put, and arrays of them.
use Rattle.std.proofs.Common.{◌≡◌, ℕ, List, [], ◌∷◌, ◌++◌, Result, refl, sym, ap, subst, ◌∙◌, append-nil, append_assoc}
use Rattle.json.specs.Token.{begin_array, begin_object, end_array, end_object, key}
use Rattle.json.specs.Tree.{items_tokens, json_tokens}
use Rattle.json.specs.Written.{Written, Writes}
use Rattle.theory_objects.specs.Fields.{Field, field_tokens, object_field, object_items, object_of, objects_field}
use Rattle.theory_objects.proofs.Fields.{tokens_of_object}
use Rattle.explanation_objects.specs.Putting.{Puts, PutsTokens, object_tokens, objects_tokens}
use Rattle.explanation_objects.proofs.Putting.{HasPut, further, token}

-- fields in braces
pub in_braces : {E : Type 0} (r : Result (Unit {0}) E) (old one two new : Written) (fields : List Field) → HasPut old one (begin_object ∷ []) → HasPut one two (field_tokens fields) → Writes r two new end_object →
    PutsTokens r old new (object_tokens fields)
in_braces r old one two new fields opened put closed =
    further r old one new (begin_object ∷ []) (field_tokens fields ++ end_object ∷ []) opened
    (further r one two new (field_tokens fields) (end_object ∷ []) put (token r two new end_object closed))

tokens_of_field : (name : List ℕ) (fields : List Field) → field_tokens (object_field name fields ∷ []) ≡ key name ∷ object_tokens fields
tokens_of_field name fields = ap (λ ts. key name ∷ ts) (append-nil (json_tokens (object_of fields)) ∙ tokens_of_object fields)

-- a field that is an object
pub named_object : {E : Type 0} (r : Result (Unit {0}) E) (old one two three new : Written) (name : List ℕ) (fields : List Field) → HasPut old one (key name ∷ []) → HasPut one two (begin_object ∷ []) →
    HasPut two three (field_tokens fields) → Writes r three new end_object → Puts r old new (object_field name fields ∷ [])
named_object r old one two three new name fields named opened put closed =
    subst (PutsTokens r old new) (sym (tokens_of_field name fields))
    (further r old one new (key name ∷ []) (object_tokens fields) named (in_braces r one two three new fields opened put closed))

tokens_of_objects : (os : List (List Field)) → items_tokens (object_items os) ≡ objects_tokens os ++ end_array ∷ []
tokens_of_objects [] = refl
tokens_of_objects (fs ∷ os) =
    ap (λ ts. ts ++ items_tokens (object_items os)) (tokens_of_object fs) ∙ ap (λ ts. object_tokens fs ++ ts) (tokens_of_objects os)
    ∙ sym (append_assoc (object_tokens fs) (objects_tokens os) (end_array ∷ []))

-- a field that is objects
pub listed_objects : {E : Type 0} (r : Result (Unit {0}) E) (old one two three new : Written) (name : List ℕ) (os : List (List Field)) → HasPut old one (key name ∷ []) → HasPut one two (begin_array ∷ []) →
    HasPut two three (objects_tokens os) → Writes r three new end_array → Puts r old new (objects_field name os ∷ [])
listed_objects r old one two three new name os named opened put closed =
    subst (PutsTokens r old new) (sym (ap (λ ts. key name ∷ (begin_array ∷ ts)) (append-nil (items_tokens (object_items os)) ∙ tokens_of_objects os)))
    (further r old one new (key name ∷ []) (begin_array ∷ (objects_tokens os ++ end_array ∷ [])) named
    (further r one two new (begin_array ∷ []) (objects_tokens os ++ end_array ∷ []) opened (further r two three new (objects_tokens os) (end_array ∷ []) put (token r three new end_array closed))))
