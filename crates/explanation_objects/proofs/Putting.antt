-- Tokens and fields that are put one behind the other.
use Rattle.std.proofs.Common.{◌≡◌, ℕ, List, [], ◌∷◌, ◌++◌, Result, Ok, Err, OnOk, refl, sym, ap, subst, ◌∙◌, append-nil, append_assoc, map}
use Rattle.std.specs.Prelude.{if◌then◌else◌}
use Rattle.std.specs.Result.{is_ok}
use Rattle.json.specs.Token.{Token, begin_array, end_array, key, string}
use Rattle.json.specs.Tree.{items_tokens}
use Rattle.json.specs.Written.{Written, Writes}
use Rattle.theory_syntax.specs.Value.{Action, Tau, Tick, Ev}
use Rattle.theory_semantics.specs.Meaning.Runs.{trace}
use Rattle.theory_notation.specs.Names.{Names}
use Rattle.theory_objects.specs.Answers.{action_texts}
use Rattle.theory_objects.specs.Fields.{Field, field_tokens, text_items, texts_field}
use Rattle.theory_objects.proofs.Fields.{tokens_of_both}
use Rattle.explanation_objects.specs.Putting.{Puts, PutsTokens, string_tokens}

-- these tokens were put
abbrev pub HasPut : Written → Written → List Token → Type 0
HasPut old new tokens = (new.before ≡ old.before) × (new.tokens ≡ old.tokens ++ tokens)

-- one token
pub token : {E : Type 0} (r : Result (Unit {0}) E) (old new : Written) (t : Token) → Writes r old new t → PutsTokens r old new (t ∷ [])
token (Ok u) old new t writes = (writes.room.0, writes.ok)
token (Err e) old new t writes = tt

-- tokens, and behind them others
pub further : {T E : Type 0} (r : Result T E) (old mid new : Written) (ts us : List Token) → HasPut old mid ts → PutsTokens r mid new us → PutsTokens r old new (ts ++ us)
further (Ok t) old mid new ts us first second = (second.0 ∙ first.0, second.1 ∙ ap (λ xs. xs ++ us) first.1 ∙ append_assoc old.tokens ts us)
further (Err e) old mid new ts us first second = tt

-- fields, and behind them others
pub both : {T E : Type 0} (r : Result T E) (old mid new : Written) (fs gs : List Field) → HasPut old mid (field_tokens fs) → Puts r mid new gs → Puts r old new (fs ++ gs)
both r old mid new fs gs first second = subst (PutsTokens r old new) (sym (tokens_of_both fs gs)) (further r old mid new (field_tokens fs) (field_tokens gs) first second)

-- so where both were well
pub put_both : (old mid new : Written) (fs gs : List Field) → HasPut old mid (field_tokens fs) → HasPut mid new (field_tokens gs) → HasPut old new (field_tokens (fs ++ gs))
put_both old mid new fs gs first second =
    subst (HasPut old new) (sym (tokens_of_both fs gs)) (second.0 ∙ first.0, second.1 ∙ ap (λ xs. xs ++ field_tokens gs) first.1 ∙ append_assoc old.tokens (field_tokens fs) (field_tokens gs))

-- nothing
pub nothing : (w : Written) → HasPut w w []
nothing w = (refl, sym (append-nil w.tokens))

-- a text that was pushed behind another one
pub pushed : {T E : Type 0} (r : Result T E) (old new x : List ℕ) → new ≡ (if is_ok r then old ++ x else old) → OnOk r (new ≡ old ++ x)
pushed (Ok t) old new x is = is
pushed (Err e) old new x is = tt

-- ---- arrays of texts

tokens_of_texts : (ts : List (List ℕ)) → items_tokens (text_items ts) ≡ string_tokens ts ++ end_array ∷ []
tokens_of_texts [] = refl
tokens_of_texts (t ∷ ts) = ap (λ xs. string t ∷ xs) (tokens_of_texts ts)

tokens_of_field : (name : List ℕ) (texts : List (List ℕ)) → field_tokens (texts_field name texts ∷ []) ≡ key name ∷ (begin_array ∷ (string_tokens texts ++ end_array ∷ []))
tokens_of_field name texts = ap (λ ts. key name ∷ (begin_array ∷ ts)) (append-nil (items_tokens (text_items texts)) ∙ tokens_of_texts texts)

-- the name, and the texts in brackets
pub listed : {E : Type 0} (r : Result (Unit {0}) E) (old one two three new : Written) (name : List ℕ) (texts : List (List ℕ)) → HasPut old one (key name ∷ []) → HasPut one two (begin_array ∷ []) →
    HasPut two three (string_tokens texts) → Writes r three new end_array → Puts r old new (texts_field name texts ∷ [])
listed r old one two three new name texts named opened put closed =
    subst (PutsTokens r old new) (sym (tokens_of_field name texts))
    (further r old one new (key name ∷ []) (begin_array ∷ (string_tokens texts ++ end_array ∷ [])) named
    (further r one two new (begin_array ∷ []) (string_tokens texts ++ end_array ∷ []) opened (further r two three new (string_tokens texts) (end_array ∷ []) put (token r three new end_array closed))))

-- the first action of a path, and the others
pub seen_first : (names : Names) (x : Action) (path : List Action) →
    string_tokens (action_texts names (trace (x ∷ path))) ≡ string_tokens (action_texts names (trace (x ∷ []))) ++ string_tokens (action_texts names (trace path))
seen_first names Tau path = refl
seen_first names Tick path = refl
seen_first names (Ev e) path = refl

-- ---- loops

-- one more of what is left is put
pub goes_on : (start now new : Written) (x left rest all : List Token) → (now.before ≡ start.before) × (now.tokens ++ left ≡ start.tokens ++ all) → left ≡ x ++ rest → HasPut now new x →
    (new.before ≡ start.before) × (new.tokens ++ rest ≡ start.tokens ++ all)
goes_on start now new x left rest all kept is put =
    (put.0 ∙ kept.0, ap (λ ts. ts ++ rest) put.1 ∙ append_assoc now.tokens x rest ∙ ap (λ ts. now.tokens ++ ts) (sym is) ∙ kept.1)

-- nothing is left
pub comes_to_end : (start now : Written) (left all : List Token) → (now.before ≡ start.before) × (now.tokens ++ left ≡ start.tokens ++ all) → left ≡ [] → HasPut start now all
comes_to_end start now left all kept none = (kept.0, sym (append-nil now.tokens) ∙ ap (λ ts. now.tokens ++ ts) (sym none) ∙ kept.1)
