-- The longest lexeme at a place, by computing.
use Rattle.std.proofs.Common.{◌≡◌, ℕ, zero, suc, ◌<◌, ◌≤◌, Bool, true, ◌&&◌, ◌||◌, List, [], ◌∷◌, length, take, refl, inl, inr, ◌⊎◌, codes, arith, nat_lt, is_none, subst}
use Rattle.std.proofs.lemmas.Bool.{or_cases, ltb-true, ltb-false, cases_Bool, and_parts}
use Rattle.std.specs.Char.{encode_utf8}
use Rattle.unicode_ident.proofs.Computing.{unicode_ident}
use Rattle.theory_text.specs.Place.{first_place}
use Rattle.theory_text.specs.Token.{CloseSharedSign, SlidingSign, SignToken, NameToken, NumberToken, Spells, Lexeme, TokenLexeme, ToLineEnd, ToMark, IsLexeme, IsLongest, StartsWithNoLexeme, IsDivided, IsRefusedHere, LargeNumber, IsTextRefusal}
use Rattle.theory_text.specs.Spelling.{lexeme_of}
use Rattle.theory_text.proofs.Spelling.{lexeme_is}

pub no_lexeme : (cs : List ℕ) → is_none (lexeme_of cs) ≡ true → (y : Lexeme) → ¬ (IsLexeme cs y)
no_lexeme cs none y s = let e = subst (λ o. is_none o ≡ true) (lexeme_is cs y s) none in absurd (cc e)

-- no beginning of more than n and at most k characters is a lexeme
abbrev pub none_longer : List ℕ → ℕ → ℕ → Bool
none_longer cs n zero = true
none_longer cs n (suc k) = (nat_lt k n || is_none (lexeme_of (take (suc k) cs))) && none_longer cs n k

top : (m k : ℕ) → m ≤ suc k → (m ≡ suc k) ⊎ (m ≤ k)
top m k h = elim (cases_Bool (nat_lt k m)) [ inl g ↦ inl (omega (arith, ltb-true k m g, h)) | inr g ↦ inr (ltb-false k m g) ]

at_top : (cs : List ℕ) (n k m : ℕ) (y : Lexeme) → (nat_lt k n || is_none (lexeme_of (take (suc k) cs))) ≡ true → n < m → m ≡ suc k → ¬ (IsLexeme (take m cs) y)
at_top cs n k m y h above e s = elim (or_cases (nat_lt k n) (is_none (lexeme_of (take (suc k) cs))) h) [
  | inl g ↦ absurd (omega (arith, ltb-true k n g, above, e))
  | inr g ↦ no_lexeme (take (suc k) cs) g y (subst (λ i. IsLexeme (take i cs) y) e s)
]

longer : (cs : List ℕ) (n k m : ℕ) (y : Lexeme) → none_longer cs n k ≡ true → n < m → m ≤ k → ¬ (IsLexeme (take m cs) y)
longer cs n zero m y h above within s = absurd (omega (arith, above, within))
longer cs n (suc k) m y h above within s =
    let b = and_parts (nat_lt k n || is_none (lexeme_of (take (suc k) cs))) (none_longer cs n k) h in
    elim (top m k within) [ inl e ↦ at_top cs n k m y b.0 above e s | inr g ↦ longer cs n k m y b.1 above g s ]

pub longest_is : (cs : List ℕ) (n : ℕ) (x : Lexeme) → n ≤ length cs → IsLexeme (take n cs) x → none_longer cs n (length cs) ≡ true → IsLongest cs n x
longest_is cs n x within s h = record { within = within; spelled = s; longest = λ m y. longer cs n (length cs) m y h }

pub nothing_is : (cs : List ℕ) → is_none (lexeme_of []) ≡ true → none_longer cs 0 (length cs) ≡ true → StartsWithNoLexeme cs
nothing_is cs e h zero y within s = no_lexeme [] e y s
nothing_is cs e h (suc m) y within s = longer cs 0 (length cs) (suc m) y h (omega arith) within s

pub comment_longest : IsLongest (codes "{-1}") 2 ToMark
unfolding unicode_ident
comment_longest = longest_is (codes "{-1}") 2 ToMark (omega arith) IsLexeme.to_mark refl

pub line_longest : IsLongest (codes "--1") 2 ToLineEnd
unfolding unicode_ident
line_longest = longest_is (codes "--1") 2 ToLineEnd (omega arith) IsLexeme.to_line_end refl

pub shared_longest : IsLongest (codes "|]]") 2 (TokenLexeme (SignToken CloseSharedSign))
unfolding unicode_ident
shared_longest = longest_is (codes "|]]") 2 (TokenLexeme (SignToken CloseSharedSign)) (omega arith) (IsLexeme.token (Spells.sign CloseSharedSign)) refl

pub sliding_longest : IsLongest (codes "[>=") 2 (TokenLexeme (SignToken SlidingSign))
unfolding unicode_ident
sliding_longest = longest_is (codes "[>=") 2 (TokenLexeme (SignToken SlidingSign)) (omega arith) (IsLexeme.token (Spells.sign SlidingSign)) refl

pub primed_longest : IsLongest (codes "or' ") 3 (TokenLexeme (NameToken (codes "or'")))
unfolding unicode_ident
primed_longest = longest_is (codes "or' ") 3 (TokenLexeme (NameToken (codes "or'"))) (omega arith)
    (IsLexeme.token (Spells.name 111 (114 ∷ []) (39 ∷ []) refl refl refl refl)) refl

pub tilde_is_nothing : StartsWithNoLexeme (codes "~")
unfolding unicode_ident
tilde_is_nothing = nothing_is (codes "~") refl refl

pub large_refused : IsTextRefusal (codes "2147483648") LargeNumber first_place
unfolding unicode_ident encode_utf8
large_refused = IsTextRefusal.here [] (codes "2147483648") [] LargeNumber (omega arith) (refl, refl) (IsDivided.stop [] (codes "2147483648"))
    (IsRefusedHere.large_number 10 2147483648 (longest_is (codes "2147483648") 10 (TokenLexeme (NumberToken 2147483648)) (omega arith) (IsLexeme.token (Spells.number 50 (codes "147483648") refl)) refl) (omega arith))
