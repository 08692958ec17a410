-- When the front of some characters is the longest lexeme that begins them.
use Rattle.std.proofs.Common.{◌≡◌, ◌≢◌, ℕ, zero, suc, ◌<◌, ◌≤◌, leb, Bool, true, false, not, cond, ◌||◌, List, [], ◌∷◌, ◌++◌, length, take, drop, refl, sym, ap, subst, inl, inr, ◌∙◌, Some, None, arith, nat_eq, nat_lt, codes, append_assoc, length-append, take-append-drop, length-take-le}
use Rattle.std.proofs.lemmas.Bool.{cases_Bool, both_ways, or_cases, cases_lt, leb-true, ltb-true, eqb-true, ne_eqb, and_parts}
use Rattle.std.specs.List.{list_all, list_any}
use Rattle.std.proofs.Math.Dec.{eqb-suc-zero}
use Rattle.std.proofs.Math.Seq.{take-append_seam, take-nil}
use Rattle.std.proofs.lemmas.Slice.Eq.{bytes_eq-Decides}
use Rattle.std.specs.Char.{is_ascii_digit}
use Rattle.std.specs.Cmp.Lexicographic.{unequal}
use Rattle.std.specs.Str.{bytes_eq, all_ascii_digits}
use Rattle.unicode_ident.specs.Ident.{is_xid_start, is_xid_continue}
use Rattle.unicode_ident.proofs.Computing.{unicode_ident}
use Rattle.unicode_ident.proofs.IdentLemmas.{is_xid_start-is_xid_continue}
use Rattle.theory_text.specs.Token.{keywords, keyword_spelling, is_keyword, Token, NameToken, Sign, SignToken, ToLineEnd, ToMark, sign_spelling, all_continue, all_primes, is_white, Spells, Lexeme, TokenLexeme, White, NumberToken, digits_value, IsLexeme, IsLongest, StartsWithNoLexeme}
use Rattle.theory_text.specs.Spelling.{lexeme_of, ends_name, mark_of, sign_of, signs}
use Rattle.theory_text.specs.Fronts.{StartsWith, StopsAt, StartsPlainly}
use Rattle.theory_text.proofs.Spelling.{lexeme_is, digit_starts_no_name}

pub same_bytes : (xs ys : List ℕ) → bytes_eq xs ys ≡ true → xs ≡ ys
same_bytes xs ys h = (bytes_eq-Decides xs ys).0 h

-- a longer front of some characters than xs
pub record LongerFront (xs rest : List ℕ) (m : ℕ) : Type 0 where
  pub next : ℕ
  pub more : List ℕ
  pub others : List ℕ
  pub rest_is : rest ≡ next ∷ more ++ others
  pub front_is : take m (xs ++ rest) ≡ xs ++ next ∷ more

front_of_rest : (rest : List ℕ) (m : ℕ) → 0 < m → m ≤ length rest → LongerFront [] rest m
front_of_rest [] m above within = absurd (omega (arith, above, within))
front_of_rest (y ∷ ys) zero above within = absurd (omega (arith, above))
front_of_rest (y ∷ ys) (suc m) above within = record { next = y; more = take m ys; others = drop m ys; rest_is = ap (λ zs. y ∷ zs) (sym (take-append-drop m ys)); front_is = refl }

pub longer_front : (xs rest : List ℕ) (m : ℕ) → length xs < m → m ≤ length (xs ++ rest) → LongerFront xs rest m
longer_front [] rest m above within = front_of_rest rest m (omega (arith, above)) within
longer_front (x ∷ xs) rest zero above within = absurd (omega (arith, above))
longer_front (x ∷ xs) rest (suc m) above within =
    let l = longer_front xs rest m (omega (arith, above)) (omega (arith, within)) in
    record { next = l.next; more = l.more; others = l.others; rest_is = l.rest_is; front_is = ap (λ zs. x ∷ zs) l.front_is }

-- xs and some more of the rest is no lexeme
abbrev pub GoesNoFurther : List ℕ → List ℕ → Type 0
GoesNoFurther xs rest = (y : ℕ) (ys zs : List ℕ) → rest ≡ y ∷ ys ++ zs → (x : Lexeme) → ¬ (IsLexeme (xs ++ y ∷ ys) x)

pub longest_front : (xs rest : List ℕ) (x : Lexeme) → IsLexeme xs x → GoesNoFurther xs rest → IsLongest (xs ++ rest) (length xs) x
longest_front xs rest x spelled further = record {
  within = omega (arith, length-append xs rest);
  spelled = subst (λ zs. IsLexeme zs x) (sym (take-append_seam xs rest)) spelled;
  longest = λ m y above within s.
      let l = longer_front xs rest m above within in further l.next l.more l.others l.rest_is y (subst (λ zs. IsLexeme zs y) l.front_is s);
}

pub none_is_no_lexeme : (cs : List ℕ) → lexeme_of cs ≡ None → (x : Lexeme) → ¬ (IsLexeme cs x)
none_is_no_lexeme cs none x s = let e = sym (lexeme_is cs x s) ∙ none in absurd (cc e)

-- the first character of some characters, or 0
abbrev head_of : List ℕ → ℕ
head_of [] = 0
head_of (c ∷ cs) = c

-- characters that begin otherwise are others
other_head : (xs : List ℕ) (c : ℕ) (cs : List ℕ) → not (nat_eq (head_of xs) c) ≡ true → bytes_eq xs (c ∷ cs) ≡ false
other_head [] c cs h = refl
other_head (x ∷ xs) c cs h = elim (cases_Bool (nat_eq x c)) [ inl e ↦ absurd (both_ways (not (nat_eq x c)) (ap not e) h) | inr e ↦ rw e refl ]

-- NAMES

primes_broken : (primes : List ℕ) (y : ℕ) (ys : List ℕ) → nat_eq y 39 ≡ false → all_primes (primes ++ y ∷ ys) ≡ false
primes_broken [] y ys h = rw h refl
primes_broken (p ∷ primes) y ys h = elim (cases_Bool (nat_eq p 39)) [ inl e ↦ rw e (primes_broken primes y ys h) | inr e ↦ rw e refl ]

-- where a name's last part goes on with what is no `'`
ends_at_primes : (primes : List ℕ) (y : ℕ) (ys : List ℕ) → all_primes primes ≡ true → StopsAt is_xid_continue (primes ++ y ∷ ys) → nat_eq y 39 ≡ false → ends_name (primes ++ y ∷ ys) ≡ false
ends_at_primes [] y ys all stops h = rw (stops, h) refl
ends_at_primes (p ∷ primes) y ys all stops h = rw (stops, (and_parts (nat_eq p 39) (all_primes primes) all).0) (primes_broken primes y ys h)

-- where a whole name does
name_broken : (cs primes : List ℕ) (y : ℕ) (ys : List ℕ) → all_continue cs ≡ true → all_primes primes ≡ true → StopsAt is_xid_continue (primes ++ y ∷ ys) → nat_eq y 39 ≡ false
    → ends_name (cs ++ (primes ++ y ∷ ys)) ≡ false
name_broken [] primes y ys goes all stops h = ends_at_primes primes y ys all stops h
name_broken (c ∷ cs) primes y ys goes all stops h =
    let b = and_parts (is_xid_continue c) (all_continue cs) goes in rw (b.0) (name_broken cs primes y ys b.1 all stops h)

-- of some members one passes the one test, and all pass the other
pub one_of_all : {X : Type 0} (p q : X → Bool) (xs : List X) → list_any p xs ≡ true → list_all q xs ≡ true → (x : X) × (p x ≡ true) × (q x ≡ true)
one_of_all p q [] some all = absurd (cc some)
one_of_all p q (x ∷ xs) some all =
    let b = and_parts (q x) (list_all q xs) all in
    elim (or_cases (p x) (list_any p xs) some) [ inl e ↦ (x, e, b.0) | inr e ↦ one_of_all p q xs e b.1 ]

abbrev rest_of : List ℕ → List ℕ
rest_of [] = []
rest_of (c ∷ cs) = cs

keywords_go_on : list_all (λ k. ends_name (rest_of (keyword_spelling k))) keywords ≡ true
unfolding unicode_ident
keywords_go_on = refl

-- a keyword goes on as a name does
keyword_goes_on : (c : ℕ) (cs : List ℕ) → is_keyword (c ∷ cs) ≡ true → ends_name cs ≡ true
keyword_goes_on c cs h =
    let k = one_of_all (λ k. bytes_eq (keyword_spelling k) (c ∷ cs)) (λ k. ends_name (rest_of (keyword_spelling k))) keywords h keywords_go_on in
    subst (λ zs. ends_name (rest_of zs) ≡ true) (same_bytes (keyword_spelling k.0) (c ∷ cs) k.1) k.2

no_name : (c : ℕ) (cs : List ℕ) → is_xid_start c ≡ true → ends_name cs ≡ false → lexeme_of (c ∷ cs) ≡ None
no_name c cs starts broken = elim (cases_Bool (is_keyword (c ∷ cs))) [
  | inl e ↦ absurd (both_ways (ends_name cs) broken (keyword_goes_on c cs e))
  | inr e ↦ rw (starts, e, broken) refl
]

stops_alike : (p : ℕ → Bool) (xs : List ℕ) (y : ℕ) (ys zs : List ℕ) → StopsAt p (xs ++ y ∷ ys) → StopsAt p (xs ++ y ∷ zs)
stops_alike p [] y ys zs h = h
stops_alike p (x ∷ xs) y ys zs h = h

-- a name is the longest lexeme where nothing behind it would go on with it
pub name_longest : (c : ℕ) (cs primes rest : List ℕ) (t : Token) → is_xid_start c ≡ true → all_continue cs ≡ true → all_primes primes ≡ true → StopsAt is_xid_continue (primes ++ rest) → StopsAt (λ d. nat_eq d 39) rest
    → Spells (c ∷ cs ++ primes) t → IsLongest ((c ∷ cs ++ primes) ++ rest) (length (c ∷ cs ++ primes)) (TokenLexeme t)
name_longest c cs primes rest t starts goes all stops ends spells =
    longest_front (c ∷ cs ++ primes) rest (TokenLexeme t) (IsLexeme.token spells)
    (λ y ys zs e.
    let stop = stops_alike is_xid_continue primes y (ys ++ zs) ys (subst (λ ws. StopsAt is_xid_continue (primes ++ ws)) e stops) in
    let end : nat_eq y 39 ≡ false = subst (StopsAt (λ d. nat_eq d 39)) e ends in
    let broken = name_broken cs primes y ys goes all stop end in
    none_is_no_lexeme (c ∷ cs ++ primes ++ y ∷ ys) (no_name c (cs ++ primes ++ y ∷ ys) starts (ap ends_name (append_assoc cs primes (y ∷ ys)) ∙ broken)))

continue_all : (cs : List ℕ) → list_all is_xid_continue cs ≡ true → all_continue cs ≡ true
continue_all [] h = refl
continue_all (c ∷ cs) h = let b = and_parts (is_xid_continue c) (list_all is_xid_continue cs) h in rw (b.0) (continue_all cs b.1)

primes_all : (cs : List ℕ) → list_all (λ c. nat_eq c 39) cs ≡ true → all_primes cs ≡ true
primes_all [] h = refl
primes_all (c ∷ cs) h = let b = and_parts (nat_eq c 39) (list_all (λ c. nat_eq c 39) cs) h in rw (b.0) (primes_all cs b.1)

-- The characters of a word: a run of what goes on in a name, and one of `'`.
pub record IsWord (run primes rest : List ℕ) : Type 0 where
  pub starts : StartsWith is_xid_start (run ++ (primes ++ rest))
  pub run_all : list_all is_xid_continue run ≡ true
  pub run_stops : StopsAt is_xid_continue (primes ++ rest)
  pub primes_all : list_all (λ c. nat_eq c 39) primes ≡ true
  pub primes_stop : StopsAt (λ c. nat_eq c 39) rest

starts_and_stops : (cs : List ℕ) → StartsWith is_xid_start cs → ¬ (StopsAt is_xid_continue cs)
starts_and_stops [] starts stops = absurd starts
starts_and_stops (c ∷ cs) starts stops = both_ways (is_xid_continue c) stops (is_xid_start-is_xid_continue c starts)

pub word_longest : (run primes rest : List ℕ) (t : Token) → IsWord run primes rest → Spells (run ++ primes) t → IsLongest ((run ++ primes) ++ rest) (length (run ++ primes)) (TokenLexeme t)
word_longest [] primes rest t word spells = absurd (starts_and_stops (primes ++ rest) word.starts word.run_stops)
word_longest (c ∷ run) primes rest t word spells =
    name_longest c run primes rest t word.starts (continue_all run (and_parts (is_xid_continue c) (list_all is_xid_continue run) word.run_all).1) (primes_all primes word.primes_all) word.run_stops word.primes_stop spells

pub word_spells : (run primes rest : List ℕ) → IsWord run primes rest → is_keyword (run ++ primes) ≡ false → Spells (run ++ primes) (NameToken (run ++ primes))
word_spells [] primes rest word free = absurd (starts_and_stops (primes ++ rest) word.starts word.run_stops)
word_spells (c ∷ run) primes rest word free =
    Spells.name c run primes word.starts (continue_all run (and_parts (is_xid_continue c) (list_all is_xid_continue run) word.run_all).1) (primes_all primes word.primes_all) free

-- NUMBERS

digits_broken : (cs : List ℕ) (y : ℕ) (ys : List ℕ) → is_ascii_digit y ≡ false → all_ascii_digits (cs ++ y ∷ ys) ≡ false
digits_broken [] y ys h = rw h refl
digits_broken (c ∷ cs) y ys h = elim (cases_Bool (is_ascii_digit c)) [ inl e ↦ rw e (digits_broken cs y ys h) | inr e ↦ rw e refl ]

-- no sign begins with this character
abbrev begins_none : List Sign → ℕ → Bool
begins_none ss c = list_all (λ s. not (nat_eq (head_of (sign_spelling s)) c)) ss

all_weaker : {X : Type 0} (p q : X → Bool) (xs : List X) → ((x : X) → q x ≡ true → p x ≡ true) → list_all q xs ≡ true → list_all p xs ≡ true
all_weaker p q [] weaker all = refl
all_weaker p q (x ∷ xs) weaker all = let b = and_parts (q x) (list_all q xs) all in rw (weaker x b.0) (all_weaker p q xs weaker b.1)

differs_from_digit : (c d : ℕ) → is_ascii_digit c ≡ true → (nat_lt d 48 || nat_lt 57 d) ≡ true → not (nat_eq d c) ≡ true
differs_from_digit c d digit outside =
    let b = and_parts (leb 48 c) (leb c 57) digit in
    let low = leb-true 48 c b.0 in
    let high = leb-true c 57 b.1 in
    let differ : d ≢ c = λ e. elim (or_cases (nat_lt d 48) (nat_lt 57 d) outside) [ inl k ↦ absurd (omega (arith, ltb-true d 48 k)) | inr k ↦ absurd (omega (arith, ltb-true 57 d k)) ] in
    rw (ne_eqb d c differ) refl

-- digits begin no sign
digit_begins_none : (c : ℕ) → is_ascii_digit c ≡ true → begins_none signs c ≡ true
digit_begins_none c digit =
    all_weaker (λ s. not (nat_eq (head_of (sign_spelling s)) c)) (λ s. nat_lt (head_of (sign_spelling s)) 48 || nat_lt 57 (head_of (sign_spelling s))) signs
    (λ s. differs_from_digit c (head_of (sign_spelling s)) digit) refl

sign_elsewhere : (ss : List Sign) (c : ℕ) (cs : List ℕ) → begins_none ss c ≡ true → sign_of ss (c ∷ cs) ≡ None
sign_elsewhere [] c cs h = refl
sign_elsewhere (s ∷ ss) c cs h =
    let b = and_parts (not (nat_eq (head_of (sign_spelling s)) c)) (begins_none ss c) h in rw (other_head (sign_spelling s) c cs b.0) (sign_elsewhere ss c cs b.1)

mark_elsewhere : (c : ℕ) (cs : List ℕ) → begins_none signs c ≡ true → not (nat_eq 45 c) ≡ true → not (nat_eq 123 c) ≡ true → mark_of (c ∷ cs) ≡ None
mark_elsewhere c cs none dash brace = rw (other_head (codes "--") c cs dash, other_head (codes "{-") c cs brace) (sign_elsewhere signs c cs none)

digit_no_white : (c : ℕ) → is_ascii_digit c ≡ true → is_white c ≡ false
digit_no_white c digit =
    let b = and_parts (leb 48 c) (leb c 57) digit in
    let low = leb-true 48 c b.0 in
    rw (ne_eqb c 32 (λ e. absurd (omega arith)), ne_eqb c 9 (λ e. absurd (omega arith)), ne_eqb c 13 (λ e. absurd (omega arith)), ne_eqb c 10 (λ e. absurd (omega arith))) refl

no_number : (c : ℕ) (cs : List ℕ) → is_ascii_digit c ≡ true → all_ascii_digits (c ∷ cs) ≡ false → lexeme_of (c ∷ cs) ≡ None
no_number c cs digit broken =
    rw (digit_starts_no_name c digit, broken, digit_no_white c digit) (mark_elsewhere c cs (digit_begins_none c digit) (differs_from_digit c 45 digit refl) (differs_from_digit c 123 digit refl))

-- a number is the longest lexeme where no digit stands behind it
pub number_longest : (c : ℕ) (cs rest : List ℕ) → all_ascii_digits (c ∷ cs) ≡ true → StopsAt is_ascii_digit rest → IsLongest ((c ∷ cs) ++ rest) (length (c ∷ cs)) (TokenLexeme (NumberToken (digits_value 0 (c ∷ cs))))
number_longest c cs rest all stops =
    longest_front (c ∷ cs) rest (TokenLexeme (NumberToken (digits_value 0 (c ∷ cs)))) (IsLexeme.token (Spells.number c cs all))
    (λ y ys zs e.
    let end : is_ascii_digit y ≡ false = subst (StopsAt is_ascii_digit) e stops in
    none_is_no_lexeme (c ∷ cs ++ y ∷ ys) (no_number c (cs ++ y ∷ ys) (and_parts (is_ascii_digit c) (all_ascii_digits cs) all).0 (digits_broken (c ∷ cs) y ys end)))

digits_all : (cs : List ℕ) → list_all is_ascii_digit cs ≡ true → all_ascii_digits cs ≡ true
digits_all [] h = refl
digits_all (c ∷ cs) h = let b = and_parts (is_ascii_digit c) (list_all is_ascii_digit cs) h in rw (b.0) (digits_all cs b.1)

starts_or_stops : (p : ℕ → Bool) (cs : List ℕ) → StartsWith p cs → ¬ (StopsAt p cs)
starts_or_stops p [] starts stops = absurd starts
starts_or_stops p (c ∷ cs) starts stops = both_ways (p c) stops starts

pub run_longest : (run rest : List ℕ) → StartsWith is_ascii_digit (run ++ rest) → list_all is_ascii_digit run ≡ true → StopsAt is_ascii_digit rest → IsLongest (run ++ rest) (length run) (TokenLexeme (NumberToken (digits_value 0 run)))
run_longest [] rest starts all stops = absurd (starts_or_stops is_ascii_digit rest starts stops)
run_longest (c ∷ run) rest starts all stops = number_longest c run rest (digits_all (c ∷ run) all) stops

-- WHITE SPACE

white_alone : (c n y : ℕ) (ys : List ℕ) → lexeme_of (n ∷ y ∷ ys) ≡ None → nat_eq c n ≡ true → lexeme_of (c ∷ y ∷ ys) ≡ None
white_alone c n y ys known h = subst (λ x. lexeme_of (x ∷ y ∷ ys) ≡ None) (sym (eqb-true c n h)) known

white_then : (n y : ℕ) (ys : List ℕ) → lexeme_of (n ∷ y ∷ ys) ≡ cond (nat_eq (suc (length ys)) 0) (Some White) None → lexeme_of (n ∷ y ∷ ys) ≡ None
white_then n y ys e = e ∙ rw (eqb-suc-zero (length ys)) refl

no_white : (c y : ℕ) (ys : List ℕ) → is_white c ≡ true → lexeme_of (c ∷ y ∷ ys) ≡ None
unfolding unicode_ident
no_white c y ys h = elim (or_cases (nat_eq c 32 || nat_eq c 9 || nat_eq c 13) (nat_eq c 10) h) [
  | inr k ↦ white_alone c 10 y ys (white_then 10 y ys refl) k
  | inl k ↦ elim (or_cases (nat_eq c 32 || nat_eq c 9) (nat_eq c 13) k) [
    | inr l ↦ white_alone c 13 y ys (white_then 13 y ys refl) l
    | inl l ↦ elim (or_cases (nat_eq c 32) (nat_eq c 9) l) [ inl m ↦ white_alone c 32 y ys (white_then 32 y ys refl) m | inr m ↦ white_alone c 9 y ys (white_then 9 y ys refl) m ]
  ]
]

pub white_longest : (c : ℕ) (rest : List ℕ) → is_white c ≡ true → IsLongest (c ∷ rest) 1 White
white_longest c rest h =
    longest_front (c ∷ []) rest White (IsLexeme.white c h) (λ y ys zs e. none_is_no_lexeme (c ∷ y ∷ ys) (no_white c y ys h))

-- SIGNS AND COMMENTS

plain_is_mark : (c : ℕ) (cs : List ℕ) → StartsPlainly (c ∷ cs) → lexeme_of (c ∷ cs) ≡ mark_of (c ∷ cs)
plain_is_mark c cs plain = rw (plain.0, plain.1, plain.2) refl

found_as : (xs cs : List ℕ) (x y : Lexeme) → IsLexeme xs x → bytes_eq xs cs ≡ true → Some x ≡ Some y → IsLexeme cs y
found_as xs cs x y s h e = let same : x ≡ y = cc e in subst (IsLexeme cs) same (subst (λ zs. IsLexeme zs x) (same_bytes xs cs h) s)

sign_found : (ss : List Sign) (cs : List ℕ) (x : Lexeme) → sign_of ss cs ≡ Some x → IsLexeme cs x
sign_found [] cs x e = absurd (cc e)
sign_found (s ∷ ss) cs x e = elim (cases_Bool (bytes_eq (sign_spelling s) cs)) [
  | inl h ↦ found_as (sign_spelling s) cs (TokenLexeme (SignToken s)) x (IsLexeme.token (Spells.sign s)) h (rw h at e)
  | inr h ↦ sign_found ss cs x (rw h at e)
]

pub mark_found : (cs : List ℕ) (x : Lexeme) → mark_of cs ≡ Some x → IsLexeme cs x
mark_found cs x e = elim (cases_Bool (bytes_eq (codes "--") cs)) [
  | inl h ↦ found_as (codes "--") cs ToLineEnd x IsLexeme.to_line_end h (rw h at e)
  | inr h ↦ elim (cases_Bool (bytes_eq (codes "{-") cs)) [
    | inl k ↦ found_as (codes "{-") cs ToMark x IsLexeme.to_mark k (rw (h, k) at e)
    | inr k ↦ sign_found signs cs x (rw (h, k) at e)
  ]
]

other_length : (xs cs : List ℕ) → nat_lt (length xs) 4 ≡ true → 3 < length cs → bytes_eq xs cs ≡ false
other_length xs cs short long = unequal nat_eq xs cs (λ e. absurd (omega (arith, ltb-true (length xs) 4 short, long, e)))

sign_shorter : (ss : List Sign) (cs : List ℕ) → list_all (λ s. nat_lt (length (sign_spelling s)) 4) ss ≡ true → 3 < length cs → sign_of ss cs ≡ None
sign_shorter [] cs short long = refl
sign_shorter (s ∷ ss) cs short long =
    let b = and_parts (nat_lt (length (sign_spelling s)) 4) (list_all (λ s. nat_lt (length (sign_spelling s)) 4) ss) short in
    rw (other_length (sign_spelling s) cs b.0 long) (sign_shorter ss cs b.1 long)

mark_shorter : (cs : List ℕ) → 3 < length cs → mark_of cs ≡ None
mark_shorter cs long = rw (other_length (codes "--") cs refl long, other_length (codes "{-") cs refl long) (sign_shorter signs cs refl long)

-- a front of what starts plainly is a lexeme only where it is a mark
plain_front : (cs : List ℕ) (m : ℕ) → StartsPlainly cs → mark_of (take m cs) ≡ None → (x : Lexeme) → ¬ (IsLexeme (take m cs) x)
plain_front [] m plain none x s = none_is_no_lexeme (take m []) (ap lexeme_of (take-nil m)) x s
plain_front (c ∷ cs) zero plain none x s = none_is_no_lexeme [] refl x s
plain_front (c ∷ cs) (suc m) plain none x s = none_is_no_lexeme (c ∷ take m cs) (plain_is_mark c (take m cs) plain ∙ none) x s

-- no front of m characters is a mark, for these m
abbrev pub NoMarkOf : List ℕ → ℕ → Type 0
NoMarkOf cs m = m ≤ length cs → mark_of (take m cs) ≡ None

no_mark_from : (cs : List ℕ) (n m : ℕ) → ((k : ℕ) → n < k → k < 4 → NoMarkOf cs k) → n < m → m ≤ length cs → mark_of (take m cs) ≡ None
no_mark_from cs n m none above within = elim (cases_lt m 4) [
  | inl h ↦ none m above h within
  | inr h ↦ mark_shorter (take m cs) (omega (arith, h, length-take-le m cs within))
]

-- a mark is the longest lexeme where no more characters, up to three, are one
pub mark_longest : (cs : List ℕ) (n : ℕ) (x : Lexeme) → StartsPlainly cs → n ≤ length cs → mark_of (take n cs) ≡ Some x → ((k : ℕ) → n < k → k < 4 → NoMarkOf cs k) → IsLongest cs n x
mark_longest cs n x plain within found none = record {
  within = within;
  spelled = mark_found (take n cs) x found;
  longest = λ m y above short. plain_front cs m plain (no_mark_from cs n m none above short) y;
}

pub no_mark_begins : (cs : List ℕ) → StartsPlainly cs → ((k : ℕ) → 0 < k → k < 4 → NoMarkOf cs k) → StartsWithNoLexeme cs
no_mark_begins cs plain none zero x within s = none_is_no_lexeme [] refl x s
no_mark_begins cs plain none (suc m) x within s = plain_front cs (suc m) plain (no_mark_from cs 0 (suc m) none (omega arith) within) x s
