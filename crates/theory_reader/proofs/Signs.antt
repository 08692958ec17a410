-- What the tests of the next token tell.
use Rattle.std.proofs.Common.{◌≡◌, ◌∙◌, true, refl, sym, ap, Option, Some}
use Rattle.std.proofs.lemmas.Slice.Eq.{bytes_eq-Decides}
use Rattle.theory_text.specs.Token.{Keyword, keyword_spelling, Sign, sign_spelling}
use Rattle.theory_text.specs.Spelling.{lexeme_of}
use Rattle.theory_text.proofs.Fronts.{same_bytes}
use Rattle.theory_text.proofs.Spelling.{keyword_computed, sign_computed}
use Rattle.theory_reader.specs.Programs.{Seen, SeenWord, SeenSign, SeenName}
use Rattle.theory_reader.specs.Reader.{is_sign, is_word, is_name}

pub is_same_sign : (s : Sign) → is_sign s (Some (SeenSign s)) ≡ true
unfolding is_sign
is_same_sign s = (bytes_eq-Decides (sign_spelling s) (sign_spelling s)).1 refl

pub is_same_word : (k : Keyword) → is_word k (Some (SeenWord k)) ≡ true
unfolding is_word
is_same_word k = (bytes_eq-Decides (keyword_spelling k) (keyword_spelling k)).1 refl

pub sign_is_seen : (s : Sign) (n : Option Seen) → is_sign s n ≡ true → n ≡ Some (SeenSign s)
unfolding is_sign
sign_is_seen s (Some (SeenSign u)) e = let same = sym (sign_computed u) ∙ ap lexeme_of (sym (same_bytes (sign_spelling s) (sign_spelling u) e)) ∙ sign_computed s in cc same
sign_is_seen s _ e = absurd (cc e)

pub word_is_seen : (k : Keyword) (n : Option Seen) → is_word k n ≡ true → n ≡ Some (SeenWord k)
unfolding is_word
word_is_seen k (Some (SeenWord l)) e = let same = sym (keyword_computed l) ∙ ap lexeme_of (sym (same_bytes (keyword_spelling k) (keyword_spelling l) e)) ∙ keyword_computed k in cc same
word_is_seen k _ e = absurd (cc e)

pub name_is_seen : (n : Option Seen) → is_name n ≡ true → n ≡ Some SeenName
unfolding is_name
name_is_seen (Some SeenName) e = refl
name_is_seen _ e = absurd (cc e)
