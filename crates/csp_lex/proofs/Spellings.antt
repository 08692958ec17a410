-- Keywords as bytes and as characters.
use Rattle.std.proofs.Common.{◌≡◌, ℕ, ◌+◌, ◌<◌, Bool, false, List, [], ◌∷◌, length, get_or, take, refl, sym, ap, inl, inr, ◌∙◌}
use Rattle.std.proofs.lemmas.Bool.{cases_Bool}
use Rattle.std.proofs.lemmas.List.{take_more}
use Rattle.std.proofs.lemmas.List.Folds.{list_any-append}
use Rattle.std.proofs.lemmas.Slice.Eq.{bytes_eq-Decides}
use Rattle.std.proofs.lemmas.Str.{encodes-chars}
use Rattle.std.specs.Char.{encode_utf8}
use Rattle.std.specs.List.{list_any}
use Rattle.std.specs.Str.{IsUtf8, chars, bytes_eq, encode_utf8_all}
use Rattle.theory_text.specs.Token.{Keyword, keyword_spelling, DatatypeWord, NametypeWord, ChannelWord, AssertWord, IfWord, ThenWord, ElseWord, AndWord, OrWord, NotWord, TrueWord, FalseWord, BoolWord, StopWord, SkipWord, HeadWord, TailWord, NullWord, ElemWord, MemberWord, UnionWord, InterWord, DiffWord, CardWord}

-- a keyword's characters are its bytes
spelling_in_ascii : (k : Keyword) → (chars (keyword_spelling k) ≡ keyword_spelling k) × (encode_utf8_all (keyword_spelling k) ≡ keyword_spelling k)
unfolding chars encode_utf8
spelling_in_ascii DatatypeWord = (refl, refl)
spelling_in_ascii NametypeWord = (refl, refl)
spelling_in_ascii ChannelWord = (refl, refl)
spelling_in_ascii AssertWord = (refl, refl)
spelling_in_ascii IfWord = (refl, refl)
spelling_in_ascii ThenWord = (refl, refl)
spelling_in_ascii ElseWord = (refl, refl)
spelling_in_ascii AndWord = (refl, refl)
spelling_in_ascii OrWord = (refl, refl)
spelling_in_ascii NotWord = (refl, refl)
spelling_in_ascii TrueWord = (refl, refl)
spelling_in_ascii FalseWord = (refl, refl)
spelling_in_ascii BoolWord = (refl, refl)
spelling_in_ascii StopWord = (refl, refl)
spelling_in_ascii SkipWord = (refl, refl)
spelling_in_ascii HeadWord = (refl, refl)
spelling_in_ascii TailWord = (refl, refl)
spelling_in_ascii NullWord = (refl, refl)
spelling_in_ascii ElemWord = (refl, refl)
spelling_in_ascii MemberWord = (refl, refl)
spelling_in_ascii UnionWord = (refl, refl)
spelling_in_ascii InterWord = (refl, refl)
spelling_in_ascii DiffWord = (refl, refl)
spelling_in_ascii CardWord = (refl, refl)

pub keyword_written : (k : Keyword) (text : List ℕ) → keyword_spelling k ≡ text → chars text ≡ keyword_spelling k
keyword_written k text e = ap chars (sym e) ∙ (spelling_in_ascii k).0

pub keyword_not_written : (k : Keyword) (text : List ℕ) → IsUtf8 text → ¬ (keyword_spelling k ≡ text) → bytes_eq (keyword_spelling k) (chars text) ≡ false
keyword_not_written k text utf8 differs = elim (cases_Bool (bytes_eq (keyword_spelling k) (chars text))) [
  | inl e ↦
      let same = (bytes_eq-Decides (keyword_spelling k) (chars text)).0 e in
      absurd (differs (sym (spelling_in_ascii k).1 ∙ ap encode_utf8_all same ∙ encodes-chars text utf8))
  | inr e ↦ e
]

-- one more member that does not pass
pub none_more : {X : Type 0} (p : X → Bool) (xs : List X) (i : ℕ) (d : X) → i < length xs → list_any p (take i xs) ≡ false → p (get_or xs i d) ≡ false → list_any p (take (i + 1) xs) ≡ false
none_more p xs i d within none one =
    ap (list_any p) (take_more xs i d within) ∙ list_any-append p (take i xs) (get_or xs i d ∷ []) ∙ rw (none, one) refl
