-- Words and numbers, from the runs of characters that they are.
use Rattle.std.proofs.Common.{◌≡◌, ℕ, suc, ◌+◌, ◌-◌, ◌*◌, ◌<◌, ◌≤◌, leb, true, false, nat_eq, List, [], ◌∷◌, ◌++◌, length, drop, get_or, refl, sym, ap, subst, ◌∙◌, Some, arith, drop-cons}
use Rattle.std.proofs.lemmas.Bool.{leb-true, and_parts}
use Rattle.std.proofs.lemmas.Str.{encode_ascii}
use Rattle.std.specs.List.{list_all}
use Rattle.std.specs.Str.{encode_utf8_all, all_ascii_digits}
use Rattle.std.specs.Char.{is_ascii_digit}
use Rattle.unicode_ident.specs.Ident.{is_xid_start, is_xid_continue}
use Rattle.theory_text.specs.Fronts.{StartsWith, StopsAt}
use Rattle.theory_text.specs.Token.{Keyword, KeywordToken, keyword_spelling, is_keyword, NameToken, NumberToken, digits_value, Token, TokenLexeme, Spells, IsLongest, IsInRange, IsPiece, greatest_number, IsRefusedHere, LargeNumber}
use Rattle.theory_text.proofs.Fronts.{IsWord, word_longest, word_spells, run_longest}
use Rattle.csp_lex.specs.declared.cursors.Cursor.{Cursor}
use Rattle.csp_lex.specs.Cursors.{left_of, RunsOver}
use Rattle.csp_lex.proofs.Steps.{passes_then}

module _ {from by to : Cursor} (starts : StartsWith is_xid_start (left_of from)) (run : RunsOver is_xid_continue from by) (primes : RunsOver (λ c. nat_eq c 39) by to) where
  word_is : IsWord run.run primes.run (left_of to)
  word_is = record {
    starts = subst (StartsWith is_xid_start) (run.passes.characters ∙ ap (λ zs. run.run ++ zs) primes.passes.characters) starts;
    run_all = run.all;
    run_stops = subst (StopsAt is_xid_continue) primes.passes.characters run.stops;
    primes_all = primes.all;
    primes_stop = primes.stops;
  }

  -- what both runs pass over is the longest lexeme, as a token that it spells
  pub word_piece : (t : Token) → Spells (run.run ++ primes.run) t → IsInRange t → IsPiece (left_of from) (length (run.run ++ primes.run)) (Some t)
  word_piece t spells range =
      let both_passed = passes_then run.passes primes.passes in
      subst (λ cs. IsPiece cs (length (run.run ++ primes.run)) (Some t)) (sym both_passed.characters) (IsPiece.token (word_longest run.run primes.run (left_of to) t word_is spells) range)

  pub name_piece : is_keyword (run.run ++ primes.run) ≡ false → IsPiece (left_of from) (length (run.run ++ primes.run)) (Some (NameToken (run.run ++ primes.run)))
  name_piece free = word_piece (NameToken (run.run ++ primes.run)) (word_spells run.run primes.run (left_of to) word_is free) tt

  pub keyword_piece : (k : Keyword) → run.run ++ primes.run ≡ keyword_spelling k → IsPiece (left_of from) (length (run.run ++ primes.run)) (Some (KeywordToken k))
  keyword_piece k e = word_piece (KeywordToken k) (subst (λ cs. Spells cs (KeywordToken k)) (sym e) (Spells.keyword k)) tt

digits_value_grows : (n : ℕ) (cs : List ℕ) → n ≤ digits_value n cs
digits_value_grows n [] = omega arith
digits_value_grows n (c ∷ cs) = omega (arith, digits_value_grows (n * 10 + (c - 48)) cs)

-- digits that are past the limit already
pub large_already : (limit n i : ℕ) (cs : List ℕ) → i < length cs → limit < n * 10 + (get_or cs i 0 - 48) → limit < digits_value n (drop i cs)
large_already limit n i cs within past =
    let e = ap (digits_value n) (drop-cons cs i 0 within) in
    omega (arith, past, e, digits_value_grows (n * 10 + (get_or cs i 0 - 48)) (drop (suc i) cs))

-- digits are bytes
pub digits_are_bytes : (cs : List ℕ) → list_all is_ascii_digit cs ≡ true → (encode_utf8_all cs ≡ cs) × (all_ascii_digits cs ≡ true)
digits_are_bytes [] all = (refl, refl)
digits_are_bytes (c ∷ cs) all =
    let b = and_parts (is_ascii_digit c) (list_all is_ascii_digit cs) all in
    let ih = digits_are_bytes cs b.1 in
    let small : c < 128 = omega (arith, leb-true c 57 (and_parts (leb 48 c) (leb c 57) b.0).1) in
    (rw (encode_ascii c small) (ap (λ zs. c ∷ zs) ih.0), rw (b.0) ih.1)

module _ {from to : Cursor} (starts : StartsWith is_ascii_digit (left_of from)) (run : RunsOver is_ascii_digit from to) where
  number_longest : IsLongest (left_of from) (length run.run) (TokenLexeme (NumberToken (digits_value 0 run.run)))
  number_longest =
      subst (λ cs. IsLongest cs (length run.run) (TokenLexeme (NumberToken (digits_value 0 run.run)))) (sym run.passes.characters)
      (run_longest run.run (left_of to) (subst (StartsWith is_ascii_digit) run.passes.characters starts) run.all run.stops)

  pub number_piece : (n : ℕ) → n ≡ digits_value 0 run.run → n ≤ greatest_number → IsPiece (left_of from) (length run.run) (Some (NumberToken n))
  number_piece n e within = IsPiece.token (subst (λ v. IsLongest (left_of from) (length run.run) (TokenLexeme (NumberToken v))) (sym e) number_longest) within

  pub number_refused : greatest_number < digits_value 0 run.run → IsRefusedHere (left_of from) LargeNumber
  number_refused past = IsRefusedHere.large_number (length run.run) (digits_value 0 run.run) number_longest past
