-- Expressions of the grammar are read, whatever their heights, where the tokens behind them do not go on with them.
use Rattle.std.proofs.Common.{◌≡◌, ◌∙◌, ℕ, ◌<◌, Bool, true, false, cond, List, [], ◌∷◌, ◌++◌, refl, sym, ap, subst, Option, Some, None, arith, append_assoc, append-nil, inl, inr}
use Rattle.std.specs.Prelude.{option_map, Ok, Err}
use Rattle.theory_syntax.specs.Expression.{Unary, Negate, Not, Length, Binary, And, Or}
use Rattle.theory_text.specs.Token.{Token, Keyword, Sign, KeywordToken, SignToken, NameToken, NumberToken, PlacedToken, AndWord, OrWord, NotWord, TrueWord, FalseWord, BoolWord, HeadWord, TailWord, NullWord, ElemWord, MemberWord, UnionWord, InterWord, DiffWord, CardWord, SameSign, DiffersSign, AtMostSign, AtLeastSign, LessSign, GreaterSign, PlusSign, MinusSign, TimesSign, PercentSign, CaretSign, HashSign, RangeSign, DotSign, CommaSign, OpenRoundSign, CloseRoundSign, OpenBraceSign, CloseBraceSign}
use Rattle.theory_text.specs.Height.{Nest}
use Rattle.theory_text.specs.Raw.{RawName, RawExpression, RawNumber, RawTruth, RawBooleans, RawUse, RawApply, RawCombine, RawSequence, RawSet, RawRange, RawConstructor, RawExpressions, no_raw_expressions, raw_expression_and}
use Rattle.theory_text.specs.Grammar.{IsWord, word, IsSign, sign, IsName, name, IsNumber, number, IsAdding, IsMultiplying, IsComparing, IsUnaryWord, IsBinaryWord, IsExpression, IsConjunction, IsNegation, IsComparison, IsSum, IsProduct, IsAtom, AreSums, AreExpressions, AreDotted}
use Rattle.theory_reader.proofs.Tightness.{tightness, Stops, stops_at, parts3, parts4, parts5, parts6}
use Rattle.theory_reader.specs.Forms.{Level, Disjunction, Conjunction, Negation, Comparison, Sum, Product, Atom, stronger, Form, OfSign, OfWord, OfName, AtLevel, Behind, ChainOf, Chained, Compared, Operation, OfNegation, OfAtom, AtomOfWord, Constant, AtomOfSign, Signed, Bracketed, TwoArguments, Round, Enclosed, Sequence, OfSet, Members, Range, Dotted, Listed, ExpressionFrom, Tree, raw_list}
use Rattle.theory_reader.specs.Programs.{Seen, SeenWord, SeenSign, SeenName, seen, seen_of, first, Standing, Outcome, Halt, Here, and_then, pass_from_to, give, refuse, pass, form, run_to}
use Rattle.theory_reader.specs.Reader.{is_sign, is_word, is_name, comparison_of, operator_at, unary_word, binary_word, name_from, chained_by, compared_by, atom_by, atom_of_word_by, dotted_by, listed_by, denied, behind_name, enclosed_from_name, no_items, some_items, no_members, members_from, body, reads_to}
use Rattle.theory_reader.proofs.Laws.{reads_to_is}
use Rattle.theory_reader.proofs.Local.{at, rest}
use Rattle.std.proofs.lemmas.Bool.{cases_Bool}
use Rattle.theory_reader.proofs.Signs.{is_same_sign, sign_is_seen, is_same_word, word_is_seen, name_is_seen}

abbrev pub Tokens : Type 0
Tokens = List PlacedToken

-- the reader without the limit of heights
abbrev pub free : (f : Form) → Standing → Outcome (Tree f)
free = reads_to false

-- this is read, and these tokens are left
abbrev pub Gets : {A : Type 0} → Outcome A → A → Tokens → Type 0
Gets o x r = (m : Nest) × (o ≡ Ok (x, at r m))

abbrev pub next : Tokens → Option Seen
next r = option_map seen_of (first r)

pub passes : (t : PlacedToken) (r : Tokens) (n : Nest) → Gets (pass_from_to false (t ∷ r) n) tt r
passes t [] n = (n, refl)
passes t (u ∷ us) n = (_, refl)

pub gets_sign : (s : Sign) {b : Tokens} → IsSign s b → (r : Tokens) (n : Nest) → Gets (free (OfSign s) (at (b ++ r) n)) tt r
unfolding body is_sign
gets_sign s (sign t e) r n =
    let (m, p) = passes t r n in (
      m,
      reads_to_is false (OfSign s) (at (t ∷ r) n)
          ∙ ap (λ b. run_to false free (cond b (pass (give tt)) refuse) (at (t ∷ r) n)) (ap (λ k. is_sign s (Some (seen k))) e ∙ is_same_sign s)
          ∙ ap (λ o. and_then o (λ x q. Ok (x, q))) p,
    )

pub gets_word : (k : Keyword) {b : Tokens} → IsWord k b → (r : Tokens) (n : Nest) → Gets (free (OfWord k) (at (b ++ r) n)) tt r
unfolding body is_word
gets_word k (word t e) r n =
    let (m, p) = passes t r n in (
      m,
      reads_to_is false (OfWord k) (at (t ∷ r) n)
          ∙ ap (λ b. run_to false free (cond b (pass (give tt)) refuse) (at (t ∷ r) n)) (ap (λ x. is_word k (Some (seen x))) e ∙ is_same_word k)
          ∙ ap (λ o. and_then o (λ x q. Ok (x, q))) p,
    )

pub gets_name : {b : Tokens} {v : RawName} → IsName b v → (r : Tokens) (n : Nest) → Gets (free OfName (at (b ++ r) n)) v r
unfolding body
gets_name (name t cs e) r n =
    let (m, p) = passes t r n in (
      m,
      reads_to_is false OfName (at (t ∷ r) n)
          ∙ ap (λ k. run_to false free (name_from (record t { token = k }) (seen k)) (at (t ∷ r) n)) e
          ∙ ap (λ o. and_then o (λ x q. Ok (record { spelling = cs; place = t.place }, q))) p,
    )

pub alone : {Y : Type 0} (o : Outcome Y) → and_then o (λ y s. Ok (y, s)) ≡ o
alone (Ok p) = refl
alone (Err e) = refl

pub assoc : {A B C : Type 0} (o : Outcome A) (f : A → Standing → Outcome B) (g : B → Standing → Outcome C) → and_then (and_then o f) g ≡ and_then o (λ x q. and_then (f x q) g)
assoc (Ok p) f g = refl
assoc (Err e) f g = refl

-- LEVELS

abbrev pub bound : Level → ℕ
bound Disjunction = 7
bound Conjunction = 8
bound Negation = 9
bound Comparison = 9
bound Sum = 10
bound Product = 11
bound Atom = 12

-- an expression of the level is read, where the tokens behind do not go on with it
abbrev pub Whole : Level → Tokens → RawExpression → Type 0
Whole l a x = (r : Tokens) → Stops (bound l) r → (n : Nest) → Gets (free (AtLevel l) (at (a ++ r) n)) x r

-- behind the first operands of a chain the reader goes on with what they are
abbrev pub Goes : Level → Tokens → RawExpression → Type 0
Goes l a x = (r : Tokens) → Stops (bound (stronger l)) r → (n : Nest) → (m : Nest) × (free (ChainOf l (stronger l)) (at (a ++ r) n) ≡ free (Chained l x) (at r m))

pub loose_product : (k : Token) → tightness k < 11 → operator_at Product (Some (seen k)) ≡ None
loose_product (SignToken TimesSign) h = absurd (omega (arith, h))
loose_product (SignToken PercentSign) h = absurd (omega (arith, h))
loose_product _ h = refl

pub loose_sum : (k : Token) → tightness k < 10 → operator_at Sum (Some (seen k)) ≡ None
loose_sum (SignToken PlusSign) h = absurd (omega (arith, h))
loose_sum (SignToken MinusSign) h = absurd (omega (arith, h))
loose_sum (SignToken CaretSign) h = absurd (omega (arith, h))
loose_sum _ h = refl

pub loose_comparison : (k : Token) → tightness k < 9 → comparison_of (Some (seen k)) ≡ None
loose_comparison (SignToken SameSign) h = absurd (omega (arith, h))
loose_comparison (SignToken DiffersSign) h = absurd (omega (arith, h))
loose_comparison (SignToken LessSign) h = absurd (omega (arith, h))
loose_comparison (SignToken AtMostSign) h = absurd (omega (arith, h))
loose_comparison (SignToken GreaterSign) h = absurd (omega (arith, h))
loose_comparison (SignToken AtLeastSign) h = absurd (omega (arith, h))
loose_comparison _ h = refl

pub loose_conjunction : (k : Token) → tightness k < 8 → operator_at Conjunction (Some (seen k)) ≡ None
loose_conjunction (KeywordToken AndWord) h = absurd (omega (arith, h))
loose_conjunction _ h = refl

pub loose_disjunction : (k : Token) → tightness k < 7 → operator_at Disjunction (Some (seen k)) ≡ None
loose_disjunction (KeywordToken OrWord) h = absurd (omega (arith, h))
loose_disjunction _ h = refl

-- where a chain stops no operator of its level is next
pub loose : (l : Level) (r : Tokens) → Stops (bound l) r → operator_at l (next r) ≡ None
loose Product [] s = refl
loose Sum [] s = refl
loose Conjunction [] s = refl
loose Disjunction [] s = refl
loose Product (t ∷ ts) s = loose_product t.token s
loose Sum (t ∷ ts) s = loose_sum t.token s
loose Conjunction (t ∷ ts) s = loose_conjunction t.token s
loose Disjunction (t ∷ ts) s = loose_disjunction t.token s
loose _ r s = refl

pub loose_compared : (r : Tokens) → Stops 9 r → comparison_of (next r) ≡ None
loose_compared [] s = refl
loose_compared (t ∷ ts) s = loose_comparison t.token s

pub chain_ends : (l : Level) (x : RawExpression) (r : Tokens) (m : Nest) → Stops (bound l) r → free (Chained l x) (at r m) ≡ Ok (x, at r m)
unfolding body
chain_ends l x r m s = reads_to_is false (Chained l x) (at r m) ∙ ap (λ o. run_to false free (chained_by l x o) (at r m)) (loose l r s)

pub one_operand : (l : Level) (a : Tokens) (x : RawExpression) → Whole (stronger l) a x → Goes l a x
unfolding body
one_operand l a x h r s n =
    let (m, e) = h r s n in
    (m, reads_to_is false (ChainOf l (stronger l)) (at (a ++ r) n) ∙ ap (λ o. and_then o (λ y q. and_then (free (Chained l y) q) (λ z p. Ok (z, p)))) e ∙ alone (free (Chained l x) (at r m)))

pub operated : (l : Level) (o : Binary) (x y : RawExpression) (t : PlacedToken) (c : Tokens) → Whole l c y → (r : Tokens) → Stops (bound l) r → (n : Nest) → Gets (free (Operation o x l) (at (t ∷ (c ++ r)) n)) (RawCombine o x y) r
unfolding body
operated l o x y t c h r s n =
    let (m, p) = passes t (c ++ r) n in
    let (k, e) = h r s m in
    (k, reads_to_is false (Operation o x l) (at (t ∷ (c ++ r)) n) ∙ ap (λ z. and_then z (λ _ q. and_then (free (AtLevel l) q) (λ f p. Ok (RawCombine o x f, p)))) p ∙ ap (λ z. and_then z (λ f p. Ok (RawCombine o x f, p))) e)

pub more_operands : (l : Level) (o : Binary) (a c : Tokens) (x y : RawExpression) (t : PlacedToken) → Goes l a x → operator_at l (Some (seen t.token)) ≡ Some o → tightness t.token < bound (stronger l) → Whole (stronger l) c y →
    Goes l (a ++ t ∷ [] ++ c) (RawCombine o x y)
unfolding body
more_operands l o a c x y t h is stops k r s n =
    let (m, e) = h (t ∷ (c ++ r)) stops n in
    let (i, f) = operated (stronger l) o x y t c k r s m in (
      i,
      ap (λ z. free (ChainOf l (stronger l)) (at z n)) (parts3 a (t ∷ []) c r) ∙ e
          ∙ reads_to_is false (Chained l x) (at (t ∷ (c ++ r)) m) ∙ ap (λ z. run_to false free (chained_by l x z) (at (t ∷ (c ++ r)) m)) is
          ∙ ap (λ z. and_then z (λ w q. and_then (free (Chained l w) q) (λ v p. Ok (v, p)))) f ∙ alone (free (Chained l (RawCombine o x y)) (at r i)),
    )

pub product_whole : (a : Tokens) (x : RawExpression) → Goes Product a x → Whole Product a x
unfolding body
product_whole a x h r s n = let (m, e) = h r (omega (arith, s)) n in (m, reads_to_is false (AtLevel Product) (at (a ++ r) n) ∙ alone _ ∙ e ∙ chain_ends Product x r m s)

pub sum_whole : (a : Tokens) (x : RawExpression) → Goes Sum a x → Whole Sum a x
unfolding body
sum_whole a x h r s n = let (m, e) = h r (omega (arith, s)) n in (m, reads_to_is false (AtLevel Sum) (at (a ++ r) n) ∙ alone _ ∙ e ∙ chain_ends Sum x r m s)

pub conjunction_whole : (a : Tokens) (x : RawExpression) → Goes Conjunction a x → Whole Conjunction a x
unfolding body
conjunction_whole a x h r s n = let (m, e) = h r (omega (arith, s)) n in (m, reads_to_is false (AtLevel Conjunction) (at (a ++ r) n) ∙ alone _ ∙ e ∙ chain_ends Conjunction x r m s)

pub disjunction_whole : (a : Tokens) (x : RawExpression) → Goes Disjunction a x → Whole Disjunction a x
unfolding body
disjunction_whole a x h r s n = let (m, e) = h r (omega (arith, s)) n in (m, reads_to_is false (AtLevel Disjunction) (at (a ++ r) n) ∙ alone _ ∙ e ∙ chain_ends Disjunction x r m s)

pub uncompared : (a : Tokens) (x : RawExpression) → Whole Sum a x → Whole Comparison a x
unfolding body
uncompared a x h r s n =
    let (m, e) = h r (omega (arith, s)) n in (
      m,
      reads_to_is false (AtLevel Comparison) (at (a ++ r) n) ∙ ap (λ o. and_then o (λ y q. and_then (free (Compared y) q) (λ z p. Ok (z, p)))) e ∙ alone (free (Compared x) (at r m))
          ∙ reads_to_is false (Compared x) (at r m) ∙ ap (λ o. run_to false free (compared_by x o) (at r m)) (loose_compared r s),
    )

pub compared : (o : Binary) (a c : Tokens) (x y : RawExpression) (t : PlacedToken) → Whole Sum a x → comparison_of (Some (seen t.token)) ≡ Some o → tightness t.token < 10 → Whole Sum c y → Whole Comparison (a ++ t ∷ [] ++ c) (RawCombine o x y)
unfolding body
compared o a c x y t h is stops k r s n =
    let (m, e) = h (t ∷ (c ++ r)) stops n in
    let (i, f) = operated Sum o x y t c k r (omega (arith, s)) m in (
      i,
      ap (λ z. free (AtLevel Comparison) (at z n)) (parts3 a (t ∷ []) c r)
          ∙ reads_to_is false (AtLevel Comparison) (at (a ++ t ∷ (c ++ r)) n) ∙ ap (λ o. and_then o (λ y q. and_then (free (Compared y) q) (λ z p. Ok (z, p)))) e ∙ alone (free (Compared x) (at (t ∷ (c ++ r)) m))
          ∙ reads_to_is false (Compared x) (at (t ∷ (c ++ r)) m) ∙ ap (λ z. run_to false free (compared_by x z) (at (t ∷ (c ++ r)) m)) is ∙ alone _ ∙ f,
    )

pub adding_is : {b : Tokens} {o : Binary} → IsAdding b o → (t : PlacedToken) × (b ≡ t ∷ []) × (operator_at Sum (Some (seen t.token)) ≡ Some o) × (tightness t.token < 11)
adding_is (IsAdding.plus (sign t e)) = (t, refl, ap (λ k. operator_at Sum (Some (seen k))) e, rw e (omega arith))
adding_is (IsAdding.minus (sign t e)) = (t, refl, ap (λ k. operator_at Sum (Some (seen k))) e, rw e (omega arith))
adding_is (IsAdding.caret (sign t e)) = (t, refl, ap (λ k. operator_at Sum (Some (seen k))) e, rw e (omega arith))

pub multiplying_is : {b : Tokens} {o : Binary} → IsMultiplying b o → (t : PlacedToken) × (b ≡ t ∷ []) × (operator_at Product (Some (seen t.token)) ≡ Some o) × (tightness t.token < 12)
multiplying_is (IsMultiplying.times (sign t e)) = (t, refl, ap (λ k. operator_at Product (Some (seen k))) e, rw e (omega arith))
multiplying_is (IsMultiplying.percent (sign t e)) = (t, refl, ap (λ k. operator_at Product (Some (seen k))) e, rw e (omega arith))

pub comparing_is : {b : Tokens} {o : Binary} → IsComparing b o → (t : PlacedToken) × (b ≡ t ∷ []) × (comparison_of (Some (seen t.token)) ≡ Some o) × (tightness t.token < 10)
comparing_is (IsComparing.same (sign t e)) = (t, refl, ap (λ k. comparison_of (Some (seen k))) e, rw e (omega arith))
comparing_is (IsComparing.differs (sign t e)) = (t, refl, ap (λ k. comparison_of (Some (seen k))) e, rw e (omega arith))
comparing_is (IsComparing.less (sign t e)) = (t, refl, ap (λ k. comparison_of (Some (seen k))) e, rw e (omega arith))
comparing_is (IsComparing.at_most (sign t e)) = (t, refl, ap (λ k. comparison_of (Some (seen k))) e, rw e (omega arith))
comparing_is (IsComparing.greater (sign t e)) = (t, refl, ap (λ k. comparison_of (Some (seen k))) e, rw e (omega arith))
comparing_is (IsComparing.at_least (sign t e)) = (t, refl, ap (λ k. comparison_of (Some (seen k))) e, rw e (omega arith))

-- WHAT BEGINS NO EXPRESSION

abbrev pub Stuck : Form → Tokens → Type 0
Stuck f ts = (n : Nest) → free f (at ts n) ≡ Err (Here, ts)

pub stuck_at : (ts : Tokens) (k : Seen) → next ts ≡ Some k → ((n : Nest) → run_to false free (atom_by (Some k)) (at ts n) ≡ Err (Here, ts)) → Stuck OfAtom ts
unfolding body
stuck_at ts k e h n = reads_to_is false OfAtom (at ts n) ∙ ap (λ o. run_to false free (atom_by o) (at ts n)) e ∙ h n

pub stuck_atom : (ts : Tokens) → Stuck OfAtom ts → Stuck (AtLevel Atom) ts
unfolding body
stuck_atom ts h n = rw (reads_to_is false (AtLevel Atom) (at ts n), h n) refl

pub stuck_product : (ts : Tokens) → Stuck (AtLevel Atom) ts → Stuck (AtLevel Product) ts
unfolding body
stuck_product ts h n = rw (reads_to_is false (AtLevel Product) (at ts n), reads_to_is false (ChainOf Product Atom) (at ts n), h n) refl

pub stuck_sum : (ts : Tokens) → Stuck OfAtom ts → Stuck (AtLevel Sum) ts
unfolding body
stuck_sum ts h n = rw (reads_to_is false (AtLevel Sum) (at ts n), reads_to_is false (ChainOf Sum Product) (at ts n), stuck_product ts (stuck_atom ts h) n) refl

pub stuck_comparison : (ts : Tokens) → Stuck OfAtom ts → Stuck (AtLevel Comparison) ts
unfolding body
stuck_comparison ts h n = rw (reads_to_is false (AtLevel Comparison) (at ts n), stuck_sum ts h n) refl

pub stuck_negation : (ts : Tokens) → is_word NotWord (next ts) ≡ false → Stuck OfAtom ts → Stuck (AtLevel Negation) ts
unfolding body is_word
stuck_negation ts not h n = rw (reads_to_is false (AtLevel Negation) (at ts n), reads_to_is false OfNegation (at ts n), not, stuck_comparison ts h n) refl

pub stuck_expression : (ts : Tokens) → is_word NotWord (next ts) ≡ false → Stuck OfAtom ts → Stuck (AtLevel Disjunction) ts
unfolding body
stuck_expression ts not h n =
    rw (
      reads_to_is false (AtLevel Disjunction) (at ts n),
      reads_to_is false (ChainOf Disjunction Conjunction) (at ts n),
      reads_to_is false (AtLevel Conjunction) (at ts n),
      reads_to_is false (ChainOf Conjunction Negation) (at ts n),
      stuck_negation ts not h n,
    ) refl

pub gets_nothing : {A : Type 0} {o : Outcome A} {x : A} {r : Tokens} {e : Halt × Tokens} → Gets o x r → o ≡ Err e → ⊥
gets_nothing (m, h) k = let both = sym h ∙ k in absurd (cc both)

pub not_not : (ts r : Tokens) (n : Nest) (x : RawExpression) → Gets (free (AtLevel Comparison) (at ts n)) x r → is_word NotWord (next ts) ≡ false
unfolding body
not_not ts r n x h = elim (cases_Bool (is_word NotWord (next ts))) [
  | inl e ↦ absurd (gets_nothing h (stuck_comparison ts (stuck_at ts (SeenWord NotWord) (word_is_seen NotWord (next ts) e)
      (λ m. rw (reads_to_is false (AtomOfWord NotWord) (at ts m), reads_to_is false (Constant NotWord) (at ts m)) refl)) n))
  | inr e ↦ e
]

pub not_greater : (ts r : Tokens) (n : Nest) (x : RawExpression) → Gets (free (AtLevel Sum) (at ts n)) x r → is_sign GreaterSign (next ts) ≡ false
unfolding body
not_greater ts r n x h = elim (cases_Bool (is_sign GreaterSign (next ts))) [
  | inl e ↦ absurd (gets_nothing h (stuck_sum ts (stuck_at ts (SeenSign GreaterSign) (sign_is_seen GreaterSign (next ts) e) (λ m. rw (reads_to_is false (AtomOfSign GreaterSign) (at ts m)) refl)) n))
  | inr e ↦ e
]

pub no_word_seen : (ts : Tokens) (s : Sign) → next ts ≡ Some (SeenSign s) → is_word NotWord (next ts) ≡ false
unfolding is_word
no_word_seen ts s e = ap (is_word NotWord) e

pub not_closed : (ts r : Tokens) (n : Nest) (x : RawExpression) → Gets (free (AtLevel Disjunction) (at ts n)) x r → is_sign CloseBraceSign (next ts) ≡ false
unfolding body
not_closed ts r n x h = elim (cases_Bool (is_sign CloseBraceSign (next ts))) [
  | inl e ↦
      let seen_it = sign_is_seen CloseBraceSign (next ts) e in
      absurd (gets_nothing h (stuck_expression ts (no_word_seen ts CloseBraceSign seen_it) (stuck_at ts (SeenSign CloseBraceSign) seen_it (λ m. rw (reads_to_is false (AtomOfSign CloseBraceSign) (at ts m)) refl)) n))
  | inr e ↦ e
]

-- NEGATIONS

pub negation_by : (ts : Tokens) (n : Nest) (b : Bool) → is_word NotWord (next ts) ≡ b → free (AtLevel Negation) (at ts n) ≡ run_to false free (cond b denied (form (AtLevel Comparison))) (at ts n)
unfolding body
negation_by ts n b e = reads_to_is false (AtLevel Negation) (at ts n) ∙ alone (free OfNegation (at ts n)) ∙ reads_to_is false OfNegation (at ts n) ∙ ap (λ x. run_to false free (cond x denied (form (AtLevel Comparison))) (at ts n)) e

pub unnegated : (a : Tokens) (x : RawExpression) → Whole Comparison a x → Whole Negation a x
unnegated a x h r s n =
    let (m, e) = h r s n in
    (m, negation_by (a ++ r) n false (not_not (a ++ r) r n x (m, e)) ∙ alone (free (AtLevel Comparison) (at (a ++ r) n)) ∙ e)

pub negated : {a : Tokens} (b : Tokens) (x : RawExpression) → IsWord NotWord a → Whole Negation b x → Whole Negation (a ++ b) (RawApply Not x)
unfolding body
negated b x (word t is) h r s n =
    let (m, e) = gets_word NotWord (word t is) (b ++ r) n in
    let (k, f) = h r s m in
    let deeper : free OfNegation (at (b ++ r) m) ≡ Ok (x, at r k) = sym (alone (free OfNegation (at (b ++ r) m))) ∙ sym (reads_to_is false (AtLevel Negation) (at (b ++ r) m)) ∙ f in
    (k, negation_by (t ∷ (b ++ r)) n true (ap (λ z. is_word NotWord (Some (seen z))) is ∙ is_same_word NotWord) ∙ rw (e, deeper) refl)

-- LISTS

-- a list of the trees' form
abbrev pub list_of : RawExpressions → List RawExpression
list_of no_raw_expressions = []
list_of (raw_expression_and e es) = e ∷ list_of es

pub list_back : (es : RawExpressions) → raw_list (list_of es) ≡ es
list_back no_raw_expressions = refl
list_back (raw_expression_and e es) = ap (raw_expression_and e) (list_back es)

pub data Items (l : Level) : Tokens → RawExpressions → Type 0 where
  one_item : (a : Tokens) (e : RawExpression) → Whole l a e → Items l a (raw_expression_and e no_raw_expressions)
  more_items : (a b c : Tokens) (e : RawExpression) (es : RawExpressions) → Whole l a e → IsSign CommaSign b → Items l c es → Items l (a ++ b ++ c) (raw_expression_and e es)

pub behind : {A B : Type 0} (o : Outcome A) (f : A → Standing → Outcome B) → and_then o (λ x q. and_then (f x q) (λ y p. Ok (y, p))) ≡ and_then o f
behind (Ok p) f = alone (f p.0 p.1)
behind (Err e) f = refl

-- an item, and the others behind it and those before
abbrev pub items_from : Level → List RawExpression → Tokens → Nest → Outcome (List RawExpression)
items_from l before ts n = and_then (free (AtLevel l) (at ts n)) (λ x. free (Listed l (before ++ x ∷ [])))

pub listed_by_next : (l : Level) (es : List RawExpression) (ts : Tokens) (n : Nest) (b : Bool) → is_sign CommaSign (next ts) ≡ b → free (Listed l es) (at ts n) ≡ run_to false free (listed_by l es b) (at ts n)
unfolding body
listed_by_next l es ts n b e = reads_to_is false (Listed l es) (at ts n) ∙ ap (λ x. run_to false free (listed_by l es x) (at ts n)) e

pub comma_next : {b : Tokens} → IsSign CommaSign b → (r : Tokens) → is_sign CommaSign (next (b ++ r)) ≡ true
comma_next (sign t e) r = ap (λ k. is_sign CommaSign (Some (seen k))) e ∙ is_same_sign CommaSign

pub items_get : (l : Level) (low : 1 < bound l) {a : Tokens} {es : RawExpressions} → Items l a es → (before : List RawExpression) (r : Tokens) → Stops (bound l) r → is_sign CommaSign (next r) ≡ false → (n : Nest) →
    Gets (items_from l before (a ++ r) n) (before ++ list_of es) r
unfolding body
items_get l low (one_item a e h) before r s ends n =
    let (m, f) = h r s n in
    (m, ap (λ o. and_then o (λ x. free (Listed l (before ++ x ∷ [])))) f ∙ listed_by_next l (before ++ e ∷ []) r m false ends)
items_get l low (more_items a b c e es h k hs) before r s ends n =
    let (m, f) = h (b ++ (c ++ r)) (stops_at (bound l) (c ++ r) k low) n in
    let (i, g) = gets_sign CommaSign k (c ++ r) m in
    let (j, more) = items_get l low hs (before ++ e ∷ []) r s ends i in (
      j,
      ap (λ z. items_from l before z n) (parts3 a b c r) ∙ ap (λ o. and_then o (λ x. free (Listed l (before ++ x ∷ [])))) f
          ∙ listed_by_next l (before ++ e ∷ []) (b ++ (c ++ r)) m true (comma_next k (c ++ r))
          ∙ ap (λ o. and_then o (λ x q. and_then (free (Listed l ((before ++ e ∷ []) ++ x ∷ [])) q) (λ y p. Ok (y, p)))) (reads_to_is false (Behind CommaSign l) (at (b ++ (c ++ r)) m)
          ∙ ap (λ o. and_then o (λ _ q. and_then (free (AtLevel l) q) (λ y p. Ok (y, p)))) g ∙ alone (free (AtLevel l) (at (c ++ r) i)))
          ∙ behind (free (AtLevel l) (at (c ++ r) i)) (λ x. free (Listed l ((before ++ e ∷ []) ++ x ∷ [])))
          ∙ more ∙ ap (λ z. Ok (z, at r j)) (append_assoc before (e ∷ []) (list_of es)),
    )

-- FIELDS

pub data Dots : Tokens → RawExpressions → Type 0 where
  no_dots : Dots [] no_raw_expressions
  more_dots : (a b c : Tokens) (e : RawExpression) (es : RawExpressions) → IsSign DotSign a → Whole Atom b e → Dots c es → Dots (a ++ b ++ c) (raw_expression_and e es)

pub dotted_by_next : (es : List RawExpression) (ts : Tokens) (n : Nest) (b : Bool) → is_sign DotSign (next ts) ≡ b → free (Dotted es) (at ts n) ≡ run_to false free (dotted_by es b) (at ts n)
unfolding body
dotted_by_next es ts n b e = reads_to_is false (Dotted es) (at ts n) ∙ ap (λ x. run_to false free (dotted_by es x) (at ts n)) e

pub dot_next : {b : Tokens} → IsSign DotSign b → (r : Tokens) → is_sign DotSign (next (b ++ r)) ≡ true
dot_next (sign t e) r = ap (λ k. is_sign DotSign (Some (seen k))) e ∙ is_same_sign DotSign

-- the tokens behind a field do not go on with it
pub dot_stops : {a : Tokens} {es : RawExpressions} → Dots a es → (r : Tokens) → Stops 12 r → Stops 12 (a ++ r)
dot_stops no_dots r s = s
dot_stops (more_dots a b c e es k h hs) r s = subst (Stops 12) (sym (parts3 a b c r)) (stops_at 12 (b ++ (c ++ r)) k (omega arith))

pub dots_get : {a : Tokens} {es : RawExpressions} → Dots a es → (before : List RawExpression) (r : Tokens) → Stops 12 r → is_sign DotSign (next r) ≡ false → (n : Nest) → Gets (free (Dotted before) (at (a ++ r) n)) (before ++ list_of es) r
unfolding body
dots_get no_dots before r s ends n = (n, dotted_by_next before r n false ends ∙ ap (λ z. Ok (z, at r n)) (sym (append-nil before)))
dots_get (more_dots a b c e es k h hs) before r s ends n =
    let (m, f) = gets_sign DotSign k (b ++ (c ++ r)) n in
    let (i, g) = h (c ++ r) (dot_stops hs r s) m in
    let (j, more) = dots_get hs (before ++ e ∷ []) r s ends i in (
      j,
      ap (λ z. free (Dotted before) (at z n)) (parts3 a b c r) ∙ dotted_by_next before (a ++ (b ++ (c ++ r))) n true (dot_next k (b ++ (c ++ r)))
          ∙ ap (λ o. and_then o (λ x q. and_then (free (Dotted (before ++ x ∷ [])) q) (λ y p. Ok (y, p)))) (reads_to_is false (Behind DotSign Atom) (at (a ++ (b ++ (c ++ r))) n)
          ∙ ap (λ o. and_then o (λ _ q. and_then (free (AtLevel Atom) q) (λ y p. Ok (y, p)))) f ∙ alone (free (AtLevel Atom) (at (b ++ (c ++ r)) m)) ∙ g)
          ∙ alone (free (Dotted (before ++ e ∷ [])) (at (c ++ r) i)) ∙ more ∙ ap (λ z. Ok (z, at r j)) (append_assoc before (e ∷ []) (list_of es)),
    )

-- ATOMS

pub atom_at : (t : PlacedToken) (r : Tokens) (n : Nest) (k : Token) {x : RawExpression} {q : Tokens} → t.token ≡ k → Gets (run_to false free (atom_by (Some (seen k))) (at (t ∷ r) n)) x q → Gets (free (AtLevel Atom) (at (t ∷ r) n)) x q
unfolding body
atom_at t r n k e (m, h) =
    (m, reads_to_is false (AtLevel Atom) (at (t ∷ r) n) ∙ alone (free OfAtom (at (t ∷ r) n)) ∙ reads_to_is false OfAtom (at (t ∷ r) n) ∙ ap (λ x. run_to false free (atom_by (Some (seen x))) (at (t ∷ r) n)) e ∙ h)

pub number_gets : {a : Tokens} {v : ℕ} → IsNumber a v → Whole Atom a (RawNumber v)
number_gets (number t v e) r s n = let (m, p) = passes t r n in atom_at t r n (NumberToken v) e (m, ap (λ o. and_then o (λ _ q. Ok (RawNumber v, q))) p)

pub use_gets : {a : Tokens} {v : RawName} → IsName a v → Whole Atom a (RawUse v)
use_gets (name t cs e) r s n = let (m, p) = gets_name (name t cs e) r n in atom_at t r n (NameToken cs) e (m, ap (λ o. and_then o (λ v q. Ok (RawUse v, q))) p)

pub true_gets : {a : Tokens} → IsWord TrueWord a → Whole Atom a (RawTruth true)
unfolding body
true_gets (word t e) r s n =
    let (m, p) = gets_word TrueWord (word t e) r n in
    atom_at t r n (KeywordToken TrueWord) e (m, rw (reads_to_is false (AtomOfWord TrueWord) (at (t ∷ r) n), reads_to_is false (Constant TrueWord) (at (t ∷ r) n), p) refl)

pub false_gets : {a : Tokens} → IsWord FalseWord a → Whole Atom a (RawTruth false)
unfolding body
false_gets (word t e) r s n =
    let (m, p) = gets_word FalseWord (word t e) r n in
    atom_at t r n (KeywordToken FalseWord) e (m, rw (reads_to_is false (AtomOfWord FalseWord) (at (t ∷ r) n), reads_to_is false (Constant FalseWord) (at (t ∷ r) n), p) refl)

pub bool_gets : {a : Tokens} → IsWord BoolWord a → Whole Atom a RawBooleans
unfolding body
bool_gets (word t e) r s n =
    let (m, p) = gets_word BoolWord (word t e) r n in
    atom_at t r n (KeywordToken BoolWord) e (m, rw (reads_to_is false (AtomOfWord BoolWord) (at (t ∷ r) n), reads_to_is false (Constant BoolWord) (at (t ∷ r) n), p) refl)

-- a sign or word, and what it begins
pub behind_gets : (s : Sign) (l : Level) {a : Tokens} (b : Tokens) (x : RawExpression) → IsSign s a → Whole l b x → (r : Tokens) → Stops (bound l) r → (n : Nest) → Gets (free (Behind s l) (at (a ++ (b ++ r)) n)) x r
unfolding body
behind_gets s l {a = a} b x k h r stops n =
    let (m, e) = gets_sign s k (b ++ r) n in
    let (i, f) = h r stops m in
    (i, rw (reads_to_is false (Behind s l) (at (a ++ (b ++ r)) n), e, f) refl)

pub negate_gets : {a : Tokens} (b : Tokens) (x : RawExpression) → IsSign MinusSign a → Whole Atom b x → Whole Atom (a ++ b) (RawApply Negate x)
unfolding body
negate_gets b x (sign t e) h r s n =
    let (m, p) = behind_gets MinusSign Atom b x (sign t e) h r s n in
    atom_at t (b ++ r) n (SignToken MinusSign) e (m, rw (reads_to_is false (AtomOfSign MinusSign) (at (t ∷ (b ++ r)) n), reads_to_is false (Signed MinusSign Negate) (at (t ∷ (b ++ r)) n), p) refl)

pub length_gets : {a : Tokens} (b : Tokens) (x : RawExpression) → IsSign HashSign a → Whole Atom b x → Whole Atom (a ++ b) (RawApply Length x)
unfolding body
length_gets b x (sign t e) h r s n =
    let (m, p) = behind_gets HashSign Atom b x (sign t e) h r s n in
    atom_at t (b ++ r) n (SignToken HashSign) e (m, rw (reads_to_is false (AtomOfSign HashSign) (at (t ∷ (b ++ r)) n), reads_to_is false (Signed HashSign Length) (at (t ∷ (b ++ r)) n), p) refl)

pub bracketed_gets : {a c : Tokens} (b : Tokens) (x : RawExpression) → IsSign OpenRoundSign a → Whole Disjunction b x → IsSign CloseRoundSign c → (r : Tokens) (n : Nest) → Gets (free Bracketed (at (a ++ (b ++ (c ++ r))) n)) x r
unfolding body
bracketed_gets {a = a} {c = c} b x k h l r n =
    let (m, e) = behind_gets OpenRoundSign Disjunction b x k h (c ++ r) (stops_at 7 r l (omega arith)) n in
    let (i, f) = gets_sign CloseRoundSign l r m in
    (i, rw (reads_to_is false Bracketed (at (a ++ (b ++ (c ++ r))) n), e, f) refl)

pub two_get : {a c y : Tokens} (b d : Tokens) (x z : RawExpression) → IsSign OpenRoundSign a → Whole Disjunction b x → IsSign CommaSign c → Whole Disjunction d z → IsSign CloseRoundSign y → (r : Tokens) (n : Nest) →
    Gets (free TwoArguments (at (a ++ (b ++ (c ++ (d ++ (y ++ r))))) n)) (x, z) r
unfolding body
two_get {a = a} {c = c} {y = y} b d x z k h l i o r n =
    let (m, e) = behind_gets OpenRoundSign Disjunction b x k h (c ++ (d ++ (y ++ r))) (stops_at 7 (d ++ (y ++ r)) l (omega arith)) n in
    let (m1, e1) = behind_gets CommaSign Disjunction d z l i (y ++ r) (stops_at 7 r o (omega arith)) m in
    let (m2, e2) = gets_sign CloseRoundSign o r m1 in
    (m2, rw (reads_to_is false TwoArguments (at (a ++ (b ++ (c ++ (d ++ (y ++ r))))) n), e, e1, e2) refl)

pub unary_is : {a : Tokens} {o : Unary} → IsUnaryWord a o → (t : PlacedToken) × (k : Keyword) × (a ≡ t ∷ []) × (t.token ≡ KeywordToken k) × (unary_word k ≡ Some o)
unary_is (IsUnaryWord.head_word (word t e)) = (t, HeadWord, refl, e, refl)
unary_is (IsUnaryWord.tail_word (word t e)) = (t, TailWord, refl, e, refl)
unary_is (IsUnaryWord.null_word (word t e)) = (t, NullWord, refl, e, refl)
unary_is (IsUnaryWord.card_word (word t e)) = (t, CardWord, refl, e, refl)

pub binary_is : {a : Tokens} {o : Binary} → IsBinaryWord a o → (t : PlacedToken) × (k : Keyword) × (a ≡ t ∷ []) × (t.token ≡ KeywordToken k) × (unary_word k ≡ None) × (binary_word k ≡ Some o)
binary_is (IsBinaryWord.elem_word (word t e)) = (t, ElemWord, refl, e, refl, refl)
binary_is (IsBinaryWord.member_word (word t e)) = (t, MemberWord, refl, e, refl, refl)
binary_is (IsBinaryWord.union_word (word t e)) = (t, UnionWord, refl, e, refl, refl)
binary_is (IsBinaryWord.inter_word (word t e)) = (t, InterWord, refl, e, refl, refl)
binary_is (IsBinaryWord.diff_word (word t e)) = (t, DiffWord, refl, e, refl, refl)

pub word_by : (k : Keyword) (s : Standing) (o : Option Unary) (u : Option Binary) → unary_word k ≡ o → binary_word k ≡ u → free (AtomOfWord k) s ≡ run_to false free (atom_of_word_by k o u) s
unfolding body
word_by k s o u e h = reads_to_is false (AtomOfWord k) s ∙ ap (λ x. run_to false free (atom_of_word_by k x (binary_word k)) s) e ∙ ap (λ x. run_to false free (atom_of_word_by k o x) s) h

pub of_one_gets : {b d : Tokens} (o : Unary) (t : PlacedToken) (k : Keyword) (c : Tokens) (x : RawExpression) → t.token ≡ KeywordToken k → unary_word k ≡ Some o → IsSign OpenRoundSign b → Whole Disjunction c x → IsSign CloseRoundSign d →
    (r : Tokens) (n : Nest) → Gets (free (AtLevel Atom) (at (t ∷ (b ++ (c ++ (d ++ r)))) n)) (RawApply o x) r
of_one_gets {b = b} {d = d} o t k c x is to i h j r n =
    let (m, e) = gets_word k (word t is) (b ++ (c ++ (d ++ r))) n in
    let (m1, e1) = bracketed_gets c x i h j r m in
    atom_at t (b ++ (c ++ (d ++ r))) n (KeywordToken k) is (m1, alone _ ∙ word_by k (at (t ∷ (b ++ (c ++ (d ++ r)))) n) (Some o) (binary_word k) to refl ∙ rw (e, e1) refl)

pub of_two_gets : {b d y : Tokens} (o : Binary) (t : PlacedToken) (k : Keyword) (c w : Tokens) (x z : RawExpression) → t.token ≡ KeywordToken k → unary_word k ≡ None → binary_word k ≡ Some o → IsSign OpenRoundSign b → Whole Disjunction c x →
    IsSign CommaSign d → Whole Disjunction w z → IsSign CloseRoundSign y → (r : Tokens) (n : Nest) → Gets (free (AtLevel Atom) (at (t ∷ (b ++ (c ++ (d ++ (w ++ (y ++ r)))))) n)) (RawCombine o x z) r
of_two_gets {b = b} {d = d} {y = y} o t k c w x z is neither to i h l g j r n =
    let (m, e) = gets_word k (word t is) (b ++ (c ++ (d ++ (w ++ (y ++ r))))) n in
    let (m1, e1) = two_get c w x z i h l g j r m in
    atom_at t (b ++ (c ++ (d ++ (w ++ (y ++ r))))) n (KeywordToken k) is (m1, alone _ ∙ word_by k (at (t ∷ (b ++ (c ++ (d ++ (w ++ (y ++ r)))))) n) None (Some o) neither to ∙ rw (e, e1) refl)

-- SEQUENCES AND SETS

pub sign_next : (s : Sign) {b : Tokens} → IsSign s b → (u : Sign) (r : Tokens) → is_sign u (next (b ++ r)) ≡ is_sign u (Some (SeenSign s))
sign_next s (sign t e) u r = ap (λ k. is_sign u (Some (seen k))) e

pub items_first : (l : Level) {b : Tokens} {es : RawExpressions} → Items l b es → 1 < bound l → (r : Tokens) → Stops (bound l) r → (n : Nest) → (x : RawExpression) × (q : Tokens) × Gets (free (AtLevel l) (at (b ++ r) n)) x q
items_first l (one_item a e h) low r s n = (e, r, h r s n)
items_first l (more_items a b c e es h k hs) low r s n =
    (e, b ++ (c ++ r), subst (λ z. Gets (free (AtLevel l) (at z n)) e (b ++ (c ++ r))) (sym (parts3 a b c r)) (h (b ++ (c ++ r)) (stops_at (bound l) (c ++ r) k low) n))

pub sequence_by : {a : Tokens} → IsSign LessSign a → (r : Tokens) (n : Nest) (b : Bool) {x : RawExpression} {q : Tokens} → is_sign GreaterSign (next r) ≡ b →
    ((m : Nest) → Gets (run_to false free (cond b no_items some_items) (at r m)) x q) → Gets (free (AtLevel Atom) (at (a ++ r) n)) x q
unfolding body
sequence_by (sign t is) r n b e k =
    let (m, p) = gets_sign LessSign (sign t is) r n in
    let (i, f) = k m in
    atom_at t r n (SignToken LessSign) is (
      i,
      alone _ ∙ reads_to_is false (AtomOfSign LessSign) (at (t ∷ r) n) ∙ alone _ ∙ reads_to_is false Sequence (at (t ∷ r) n)
          ∙ ap (λ o. and_then o (λ _ s. run_to false free (cond (is_sign GreaterSign (option_map seen_of (first s.left))) no_items some_items) s)) p
          ∙ ap (λ c. run_to false free (cond c no_items some_items) (at r m)) e ∙ f,
    )

pub no_items_get : {a b : Tokens} → IsSign LessSign a → IsSign GreaterSign b → Whole Atom (a ++ b) (RawSequence no_raw_expressions)
no_items_get {b = b} (sign t is) k r s n =
    sequence_by (sign t is) (b ++ r) n true (sign_next GreaterSign k GreaterSign r ∙ is_same_sign GreaterSign) (λ m. let (i, p) = gets_sign GreaterSign k r m in (i, rw p refl))

pub items_sequence : {a c : Tokens} (b : Tokens) (es : RawExpressions) → IsSign LessSign a → Items Sum b es → IsSign GreaterSign c → Whole Atom (a ++ b ++ c) (RawSequence es)
unfolding is_sign
items_sequence {a = a} {c = c} b es (sign t is) h k r s n =
    let stops : Stops 10 (c ++ r) = stops_at 10 r k (omega arith) in
    let ends : is_sign CommaSign (next (c ++ r)) ≡ false = sign_next GreaterSign k CommaSign r in
    subst (λ z. Gets (free (AtLevel Atom) (at z n)) (RawSequence es) r) (sym (parts3 a b c r))
    (sequence_by (sign t is) (b ++ (c ++ r)) n false (let one = items_first Sum h (omega arith) (c ++ r) stops n in not_greater (b ++ (c ++ r)) one.1 n one.0 one.2) (λ m.
    let (i, p) = items_get Sum (omega arith) h [] (c ++ r) stops ends m in
    let (j, q) = gets_sign GreaterSign k r i in (
      j,
      sym (assoc (free (AtLevel Sum) (at (b ++ (c ++ r)) m)) (λ x. free (Listed Sum (x ∷ []))) (λ xs z. and_then (free (OfSign GreaterSign) z) (λ _ w. Ok (RawSequence (raw_list xs), w))))
          ∙ ap (λ o. and_then o (λ xs z. and_then (free (OfSign GreaterSign) z) (λ _ w. Ok (RawSequence (raw_list xs), w)))) p
          ∙ ap (λ o. and_then o (λ _ w. Ok (RawSequence (raw_list (list_of es)), w))) q ∙ ap (λ xs. Ok (RawSequence xs, at r j)) (list_back es),
    )))

pub set_by : {a : Tokens} → IsSign OpenBraceSign a → (r : Tokens) (n : Nest) (b : Bool) {x : RawExpression} {q : Tokens} → is_sign CloseBraceSign (next r) ≡ b →
    ((m : Nest) → Gets (run_to false free (cond b no_members (form Members)) (at r m)) x q) → Gets (free (AtLevel Atom) (at (a ++ r) n)) x q
unfolding body
set_by (sign t is) r n b e k =
    let (m, p) = gets_sign OpenBraceSign (sign t is) r n in
    let (i, f) = k m in
    atom_at t r n (SignToken OpenBraceSign) is (
      i,
      alone _ ∙ reads_to_is false (AtomOfSign OpenBraceSign) (at (t ∷ r) n) ∙ alone _ ∙ reads_to_is false OfSet (at (t ∷ r) n)
          ∙ ap (λ o. and_then o (λ _ s. run_to false free (cond (is_sign CloseBraceSign (option_map seen_of (first s.left))) no_members (form Members)) s)) p
          ∙ ap (λ c. run_to false free (cond c no_members (form Members)) (at r m)) e ∙ f,
    )

pub no_members_get : {a b : Tokens} → IsSign OpenBraceSign a → IsSign CloseBraceSign b → Whole Atom (a ++ b) (RawSet no_raw_expressions)
no_members_get {b = b} (sign t is) k r s n =
    set_by (sign t is) (b ++ r) n true (sign_next CloseBraceSign k CloseBraceSign r ∙ is_same_sign CloseBraceSign) (λ m. let (i, p) = gets_sign CloseBraceSign k r m in (i, rw p refl))

-- what is behind the first member
pub members_by : (ts q : Tokens) (n m : Nest) (x : RawExpression) (b : Bool) → free (AtLevel Disjunction) (at ts n) ≡ Ok (x, at q m) → is_sign RangeSign (next q) ≡ b →
    free Members (at ts n) ≡ run_to false free (cond b (form (Range x)) (members_from x)) (at q m)
unfolding body
members_by ts q n m x b e is =
    reads_to_is false Members (at ts n)
    ∙ ap (λ o. and_then o (λ y s. run_to false free (cond (is_sign RangeSign (option_map seen_of (first s.left))) (form (Range y)) (members_from y)) s)) e
    ∙ ap (λ c. run_to false free (cond c (form (Range x)) (members_from x)) (at q m)) is

pub range_gets : {a c y : Tokens} (b d : Tokens) (x z : RawExpression) → IsSign OpenBraceSign a → Whole Disjunction b x → IsSign RangeSign c → Whole Disjunction d z → IsSign CloseBraceSign y → Whole Atom (a ++ b ++ c ++ d ++ y) (RawRange x z)
unfolding body
range_gets {a = a} {c = c} {y = y} b d x z (sign t is) h k i l r s n =
    let first_stops : Stops 7 (c ++ (d ++ (y ++ r))) = stops_at 7 (d ++ (y ++ r)) k (omega arith) in
    subst (λ w. Gets (free (AtLevel Atom) (at w n)) (RawRange x z) r) (sym (parts5 a b c d y r))
    (set_by (sign t is) (b ++ (c ++ (d ++ (y ++ r)))) n false (not_closed (b ++ (c ++ (d ++ (y ++ r)))) (c ++ (d ++ (y ++ r))) n x (h (c ++ (d ++ (y ++ r))) first_stops n)) (λ m.
    let (m1, e1) = h (c ++ (d ++ (y ++ r))) first_stops m in
    let (m2, e2) = behind_gets RangeSign Disjunction d z k i (y ++ r) (stops_at 7 r l (omega arith)) m1 in
    let (m3, e3) = gets_sign CloseBraceSign l r m2 in (
      m3,
      alone _ ∙ members_by (b ++ (c ++ (d ++ (y ++ r)))) (c ++ (d ++ (y ++ r))) m m1 x true e1 (sign_next RangeSign k RangeSign (d ++ (y ++ r)) ∙ is_same_sign RangeSign)
          ∙ alone _ ∙ rw (reads_to_is false (Range x) (at (c ++ (d ++ (y ++ r))) m1), e2, e3) refl,
    )))

-- the closing brace of a set, behind its members
abbrev pub closes_set : List RawExpression → Standing → Outcome RawExpression
closes_set xs z = and_then (free (OfSign CloseBraceSign) z) (λ _ w. Ok (RawSet (raw_list xs), w))

pub members_items : {b : Tokens} {es : RawExpressions} → Items Disjunction b es → (r : Tokens) → Stops 7 r → is_sign RangeSign (next r) ≡ false → (n : Nest) →
    free Members (at (b ++ r) n) ≡ and_then (items_from Disjunction [] (b ++ r) n) closes_set
unfolding is_sign
members_items (one_item a e h) r s ends n =
    let (m, f) = h r s n in
    members_by (a ++ r) r n m e false f ends ∙ sym (ap (λ o. and_then (and_then o (λ x. free (Listed Disjunction (x ∷ [])))) closes_set) f)
members_items (more_items a b c e es h k hs) r s ends n =
    let (m, f) = h (b ++ (c ++ r)) (stops_at 7 (c ++ r) k (omega arith)) n in
    subst (λ z. free Members (at z n) ≡ and_then (items_from Disjunction [] z n) closes_set) (sym (parts3 a b c r))
    (members_by (a ++ (b ++ (c ++ r))) (b ++ (c ++ r)) n m e false f (sign_next CommaSign k RangeSign (c ++ r)) ∙ sym (ap (λ o. and_then (and_then o (λ x. free (Listed Disjunction (x ∷ [])))) closes_set) f))

pub members_get : {a c : Tokens} (b : Tokens) (es : RawExpressions) → IsSign OpenBraceSign a → Items Disjunction b es → IsSign CloseBraceSign c → Whole Atom (a ++ b ++ c) (RawSet es)
unfolding is_sign
members_get {a = a} {c = c} b es (sign t is) h k r s n =
    let stops : Stops 7 (c ++ r) = stops_at 7 r k (omega arith) in
    subst (λ z. Gets (free (AtLevel Atom) (at z n)) (RawSet es) r) (sym (parts3 a b c r))
    (set_by (sign t is) (b ++ (c ++ r)) n false (let one = items_first Disjunction h (omega arith) (c ++ r) stops n in not_closed (b ++ (c ++ r)) one.1 n one.0 one.2) (λ m.
    let (i, p) = items_get Disjunction (omega arith) h [] (c ++ r) stops (sign_next CloseBraceSign k CommaSign r) m in
    let (j, q) = gets_sign CloseBraceSign k r i in (
      j,
      alone _ ∙ members_items h (c ++ r) stops (sign_next CloseBraceSign k RangeSign r) m ∙ ap (λ o. and_then o closes_set) p
          ∙ ap (λ o. and_then o (λ _ w. Ok (RawSet (raw_list (list_of es)), w))) q ∙ ap (λ xs. Ok (RawSet xs, at r j)) (list_back es),
    )))

-- ROUND BRACKETS

pub round_gets : {a c : Tokens} (b : Tokens) (x : RawExpression) → IsSign OpenRoundSign a → IsSign CloseRoundSign c → (r : Tokens) → ((m : Nest) → Gets (free Enclosed (at (b ++ (c ++ r)) m)) x (c ++ r)) → (n : Nest) →
    Gets (free (AtLevel Atom) (at (a ++ (b ++ (c ++ r))) n)) x r
unfolding body
round_gets {c = c} b x (sign t is) k r inner n =
    let (m, p) = gets_sign OpenRoundSign (sign t is) (b ++ (c ++ r)) n in
    let (i, q) = inner m in
    let (j, e) = gets_sign CloseRoundSign k r i in
    atom_at t (b ++ (c ++ r)) n (SignToken OpenRoundSign) is (j, rw (reads_to_is false (AtomOfSign OpenRoundSign) (at (t ∷ (b ++ (c ++ r))) n), reads_to_is false Round (at (t ∷ (b ++ (c ++ r))) n), p, q, e) refl)

pub enclosed_by : (ts : Tokens) (n : Nest) (b : Bool) → is_name (next ts) ≡ b → free Enclosed (at ts n) ≡ run_to false free (cond b enclosed_from_name (form (AtLevel Disjunction))) (at ts n)
unfolding body
enclosed_by ts n b e = reads_to_is false Enclosed (at ts n) ∙ ap (λ x. run_to false free (cond x enclosed_from_name (form (AtLevel Disjunction))) (at ts n)) e

-- a name is read, and what is behind it
pub named_by : (t : PlacedToken) (cs : List ℕ) (us : Tokens) (n m : Nest) (b : Bool) → t.token ≡ NameToken cs → free OfName (at (t ∷ us) n) ≡ Ok (record { spelling = cs; place = t.place }, at us m) → is_sign DotSign (next us) ≡ b →
    free Enclosed (at (t ∷ us) n) ≡ run_to false free (behind_name (record { spelling = cs; place = t.place }) b) (at us m)
unfolding is_name
named_by t cs us n m b is p e =
    enclosed_by (t ∷ us) n true (ap (λ k. is_name (Some (seen k))) is)
    ∙ ap (λ o. and_then o (λ v s. run_to false free (behind_name v (is_sign DotSign (option_map seen_of (first s.left)))) s)) p
    ∙ ap (λ c. run_to false free (behind_name (record { spelling = cs; place = t.place }) c) (at us m)) e

pub constructed_gets : {a b y : Tokens} (c d x : Tokens) (v : RawName) (e : RawExpression) (es : RawExpressions) → IsSign OpenRoundSign a → IsName b v → IsSign DotSign c → Whole Atom d e → Dots x es → IsSign CloseRoundSign y →
    Whole Atom (a ++ b ++ c ++ d ++ x ++ y) (RawConstructor v (raw_expression_and e es))
unfolding is_sign
constructed_gets {a = a} {y = y} c d x v e es k (name t cs is) l h hs o r s n =
    let fields = more_dots c d x e es l h hs in
    let shape : (c ++ d ++ x) ++ (y ++ r) ≡ c ++ (d ++ (x ++ (y ++ r))) = parts3 c d x (y ++ r) in
    subst (λ z. Gets (free (AtLevel Atom) (at z n)) (RawConstructor v (raw_expression_and e es)) r) (ap (λ z. a ++ (t ∷ z)) shape ∙ sym (parts6 a (t ∷ []) c d x y r))
    (round_gets (t ∷ (c ++ d ++ x)) (RawConstructor v (raw_expression_and e es)) k o r (λ m.
    let (i, p) = gets_name (name t cs is) ((c ++ d ++ x) ++ (y ++ r)) m in
    let (j, q) = dots_get fields [] (y ++ r) (stops_at 12 r o (omega arith)) (sign_next CloseRoundSign o DotSign r) i in (
      j,
      named_by t cs ((c ++ d ++ x) ++ (y ++ r)) m i true is p (ap (λ z. is_sign DotSign (next z)) shape ∙ dot_next l (d ++ (x ++ (y ++ r))))
          ∙ ap (λ z. and_then z (λ fs w. Ok (RawConstructor v (raw_list fs), w))) q ∙ ap (λ fs. Ok (RawConstructor v (raw_expression_and e fs), at (y ++ r) j)) (list_back es),
    )) n)

-- an expression in brackets that begins with a name
pub chain_is : (l : Level) (s : Standing) → free (AtLevel l) s ≡ and_then (free (ChainOf l (stronger l)) s) (λ x q. Ok (x, q)) → free (AtLevel l) s ≡ and_then (free (AtLevel (stronger l)) s) (λ x. free (Chained l x))
unfolding body
chain_is l s e = e ∙ alone (free (ChainOf l (stronger l)) s) ∙ reads_to_is false (ChainOf l (stronger l)) s ∙ behind (free (AtLevel (stronger l)) s) (λ x. free (Chained l x))

pub two_steps : {A B C : Type 0} (o : Outcome A) (f : A → Standing → Outcome B) (g : B → Standing → Outcome C) →
    and_then o (λ x q. and_then (f x q) (λ y p. and_then (g y p) (λ z w. Ok (z, w)))) ≡ and_then (and_then o f) g
two_steps (Ok p) f g = behind (f p.0 p.1) g
two_steps (Err e) f g = refl

pub three_steps : {A B C D : Type 0} (o : Outcome A) (f : A → Standing → Outcome B) (g : B → Standing → Outcome C) (h : C → Standing → Outcome D) →
    and_then o (λ x q. and_then (f x q) (λ y p. and_then (g y p) (λ z w. and_then (h z w) (λ u v. Ok (u, v))))) ≡ and_then (and_then (and_then o f) g) h
three_steps (Ok p) f g h = two_steps (f p.0 p.1) g h
three_steps (Err e) f g h = refl

pub four_steps : {A B C D E : Type 0} (o : Outcome A) (f : A → Standing → Outcome B) (g : B → Standing → Outcome C) (h : C → Standing → Outcome D) (k : D → Standing → Outcome E) →
    and_then o (λ x q. and_then (f x q) (λ y p. and_then (g y p) (λ z w. and_then (h z w) (λ u v. and_then (k u v) (λ a b. Ok (a, b)))))) ≡ and_then (and_then (and_then (and_then o f) g) h) k
four_steps (Ok p) f g h k = three_steps (f p.0 p.1) g h k
four_steps (Err e) f g h k = refl

pub no_not : (t : PlacedToken) (cs : List ℕ) (us : Tokens) → t.token ≡ NameToken cs → is_word NotWord (next (t ∷ us)) ≡ false
unfolding is_word
no_not t cs us e = ap (λ k. is_word NotWord (Some (seen k))) e

-- an expression that begins with a name is the name and what is behind an atom
pub from_name : (t : PlacedToken) (cs : List ℕ) (us : Tokens) (n m : Nest) → t.token ≡ NameToken cs → free (AtLevel Atom) (at (t ∷ us) n) ≡ Ok (RawUse (record { spelling = cs; place = t.place }), at us m) →
    free (AtLevel Disjunction) (at (t ∷ us) n) ≡ free (ExpressionFrom (RawUse (record { spelling = cs; place = t.place }))) (at us m)
unfolding body
from_name t cs us n m is atom =
    let s = at (t ∷ us) n in
    let u = RawUse (record { spelling = cs; place = t.place }) in
    let product : free (AtLevel Product) s ≡ free (Chained Product u) (at us m) = chain_is Product s (reads_to_is false (AtLevel Product) s) ∙ ap (λ o. and_then o (λ x. free (Chained Product x))) atom in
    let sum : free (AtLevel Sum) s ≡ and_then (free (Chained Product u) (at us m)) (λ x. free (Chained Sum x)) = chain_is Sum s (reads_to_is false (AtLevel Sum) s) ∙ ap (λ o. and_then o (λ x. free (Chained Sum x))) product in
    let comparison : free (AtLevel Comparison) s ≡ and_then (and_then (free (Chained Product u) (at us m)) (λ x. free (Chained Sum x))) (λ x. free (Compared x)) =
    reads_to_is false (AtLevel Comparison) s ∙ behind (free (AtLevel Sum) s) (λ x. free (Compared x)) ∙ ap (λ o. and_then o (λ x. free (Compared x))) sum in
    let negation : free (AtLevel Negation) s ≡ free (AtLevel Comparison) s = negation_by (t ∷ us) n false (no_not t cs us is) ∙ alone (free (AtLevel Comparison) s) in
    let conjunction = chain_is Conjunction s (reads_to_is false (AtLevel Conjunction) s) ∙ ap (λ o. and_then o (λ x. free (Chained Conjunction x))) (negation ∙ comparison) in
    chain_is Disjunction s (reads_to_is false (AtLevel Disjunction) s) ∙ ap (λ o. and_then o (λ x. free (Chained Disjunction x))) conjunction
    ∙ sym (four_steps (free (Chained Product u) (at us m)) (λ x. free (Chained Sum x)) (λ x. free (Compared x)) (λ x. free (Chained Conjunction x)) (λ x. free (Chained Disjunction x)))
    ∙ sym (reads_to_is false (ExpressionFrom u) (at us m))

pub dot_token : (k : Token) → seen k ≡ SeenSign DotSign → k ≡ SignToken DotSign
dot_token (SignToken s) e = let same : s ≡ DotSign = cc e in ap SignToken same
dot_token (KeywordToken w) e = absurd (cc e)
dot_token (NameToken cs) e = absurd (cc e)
dot_token (NumberToken v) e = absurd (cc e)

pub dot_loose : (us : Tokens) → next us ≡ Some (SeenSign DotSign) → Stops 7 us
dot_loose [] e = absurd (cc e)
dot_loose (w ∷ ws) e = let same = dot_token w.token (cc e) in rw same (omega arith)

-- before a dot nothing is behind an atom
pub stops_at_dot : (x : RawExpression) (us : Tokens) (m : Nest) → Stops 7 us → free (ExpressionFrom x) (at us m) ≡ Ok (x, at us m)
unfolding body
stops_at_dot x us m s =
    rw (
      reads_to_is false (ExpressionFrom x) (at us m),
      chain_ends Product x us m (omega (arith, s)),
      chain_ends Sum x us m (omega (arith, s)),
      reads_to_is false (Compared x) (at us m) ∙ ap (λ o. run_to false free (compared_by x o) (at us m)) (loose_compared us (omega (arith, s))),
      chain_ends Conjunction x us m (omega (arith, s)),
      chain_ends Disjunction x us m s,
    ) refl

pub name_token : (k : Token) → seen k ≡ SeenName → (cs : List ℕ) × (k ≡ NameToken cs)
name_token (NameToken cs) e = (cs, refl)
name_token (SignToken s) e = absurd (cc e)
name_token (KeywordToken w) e = absurd (cc e)
name_token (NumberToken v) e = absurd (cc e)

pub same_left : {x y : RawExpression} {q p : Tokens} {m n : Nest} {o : Outcome RawExpression} → o ≡ Ok (x, at q m) → o ≡ Ok (y, at p n) → q ≡ p
same_left e f = ap rest (sym e ∙ f)

pub enclosed_name : (t : PlacedToken) (cs : List ℕ) (us r : Tokens) (n : Nest) (x : RawExpression) → t.token ≡ NameToken cs → Gets (free (AtLevel Disjunction) (at (t ∷ us) n)) x r → is_sign DotSign (next r) ≡ false → Gets (free Enclosed (at (t ∷ us) n)) x r
unfolding gets_name atom_at
enclosed_name t cs us r n x is (k, h) ends =
    let v : RawName = record { spelling = cs; place = t.place } in
    let (m, p) = gets_name (name t cs is) us n in
    let used : free (AtLevel Atom) (at (t ∷ us) n) ≡ Ok (RawUse v, at us m) = (atom_at t us n (NameToken cs) is (m, ap (λ o. and_then o (λ w q. Ok (RawUse w, q))) p)).1 in
    let same = from_name t cs us n m is used in
    elim (cases_Bool (is_sign DotSign (next us))) [
      | inl e ↦
          let dot = sign_is_seen DotSign (next us) e in
          let here = same ∙ stops_at_dot (RawUse v) us m (dot_loose us dot) in
          let left : r ≡ us = same_left h here in
          let both = sym (ap (λ z. is_sign DotSign (next z)) left ∙ e) ∙ ends in absurd (cc both)
      | inr e ↦ (k, named_by t cs us n m false is p e ∙ alone (free (ExpressionFrom (RawUse v)) (at us m)) ∙ sym same ∙ h)
    ]

pub enclosed_first : (ts r : Tokens) (n : Nest) (x : RawExpression) → next ts ≡ Some SeenName → Gets (free (AtLevel Disjunction) (at ts n)) x r → is_sign DotSign (next r) ≡ false → Gets (free Enclosed (at ts n)) x r
enclosed_first [] r n x e h ends = absurd (cc e)
enclosed_first (t ∷ us) r n x e h ends = let (cs, is) = name_token t.token (cc e) in enclosed_name t cs us r n x is h ends

pub enclosed_gets : (ts r : Tokens) (n : Nest) (x : RawExpression) → Gets (free (AtLevel Disjunction) (at ts n)) x r → is_sign DotSign (next r) ≡ false → Gets (free Enclosed (at ts n)) x r
enclosed_gets ts r n x h ends = elim (cases_Bool (is_name (next ts))) [
  | inl e ↦ enclosed_first ts r n x (name_is_seen (next ts) e) h ends
  | inr e ↦ (h.0, enclosed_by ts n false e ∙ alone (free (AtLevel Disjunction) (at ts n)) ∙ h.1)
]

pub bracketed_atom : {a c : Tokens} (b : Tokens) (x : RawExpression) → IsSign OpenRoundSign a → Whole Disjunction b x → IsSign CloseRoundSign c → Whole Atom (a ++ b ++ c) x
unfolding is_sign
bracketed_atom {a = a} {c = c} b x k h l r s n =
    subst (λ z. Gets (free (AtLevel Atom) (at z n)) x r) (sym (parts3 a b c r))
    (round_gets b x k l r (λ m. enclosed_gets (b ++ (c ++ r)) (c ++ r) m x (h (c ++ r) (stops_at 7 r l (omega arith)) m) (sign_next CloseRoundSign l DotSign r)) n)

-- EVERY EXPRESSION

pub and_is : {b : Tokens} → IsWord AndWord b → (t : PlacedToken) × (b ≡ t ∷ []) × (operator_at Conjunction (Some (seen t.token)) ≡ Some And) × (tightness t.token < 9)
and_is (word t e) = (t, refl, ap (λ k. operator_at Conjunction (Some (seen k))) e, rw e (omega arith))

pub or_is : {b : Tokens} → IsWord OrWord b → (t : PlacedToken) × (b ≡ t ∷ []) × (operator_at Disjunction (Some (seen t.token)) ≡ Some Or) × (tightness t.token < 8)
or_is (word t e) = (t, refl, ap (λ k. operator_at Disjunction (Some (seen k))) e, rw e (omega arith))

mutual
  pub expression_goes : {a : Tokens} {e : RawExpression} → IsExpression a e → Goes Disjunction a e
  expression_goes (IsExpression.conjunction {a = a} {e = e} h) = one_operand Disjunction a e (conjunction_whole a e (conjunction_goes h))
  expression_goes (IsExpression.or {a = a} {b = b} {c = c} {e = e} {f = f} h k i) =
      let (t, is, op, low) = or_is k in
      subst (λ z. Goes Disjunction (a ++ z ++ c) (RawCombine Or e f)) (sym is) (more_operands Disjunction Or a c e f t (expression_goes h) op low (conjunction_whole c f (conjunction_goes i)))

  pub conjunction_goes : {a : Tokens} {e : RawExpression} → IsConjunction a e → Goes Conjunction a e
  conjunction_goes (IsConjunction.negation {a = a} {e = e} h) = one_operand Conjunction a e (negation_gets h)
  conjunction_goes (IsConjunction.and {a = a} {b = b} {c = c} {e = e} {f = f} h k i) =
      let (t, is, op, low) = and_is k in
      subst (λ z. Goes Conjunction (a ++ z ++ c) (RawCombine And e f)) (sym is) (more_operands Conjunction And a c e f t (conjunction_goes h) op low (negation_gets i))

  pub negation_gets : {a : Tokens} {e : RawExpression} → IsNegation a e → Whole Negation a e
  negation_gets (IsNegation.comparison {a = a} {e = e} h) = unnegated a e (comparison_gets h)
  negation_gets (IsNegation.not {b = b} {e = e} k h) = negated b e k (negation_gets h)

  pub comparison_gets : {a : Tokens} {e : RawExpression} → IsComparison a e → Whole Comparison a e
  comparison_gets (IsComparison.sum {a = a} {e = e} h) = uncompared a e (sum_whole a e (sum_goes h))
  comparison_gets (IsComparison.compare {a = a} {b = b} {c = c} {o = o} {e = e} {f = f} h k i) =
      let (t, is, op, low) = comparing_is k in
      subst (λ z. Whole Comparison (a ++ z ++ c) (RawCombine o e f)) (sym is) (compared o a c e f t (sum_whole a e (sum_goes h)) op low (sum_whole c f (sum_goes i)))

  pub sum_goes : {a : Tokens} {e : RawExpression} → IsSum a e → Goes Sum a e
  sum_goes (IsSum.product {a = a} {e = e} h) = one_operand Sum a e (product_whole a e (product_goes h))
  sum_goes (IsSum.add {a = a} {b = b} {c = c} {o = o} {e = e} {f = f} h k i) =
      let (t, is, op, low) = adding_is k in
      subst (λ z. Goes Sum (a ++ z ++ c) (RawCombine o e f)) (sym is) (more_operands Sum o a c e f t (sum_goes h) op low (product_whole c f (product_goes i)))

  pub product_goes : {a : Tokens} {e : RawExpression} → IsProduct a e → Goes Product a e
  product_goes (IsProduct.atom {a = a} {e = e} h) = one_operand Product a e (atom_gets h)
  product_goes (IsProduct.multiply {a = a} {b = b} {c = c} {o = o} {e = e} {f = f} h k i) =
      let (t, is, op, low) = multiplying_is k in
      subst (λ z. Goes Product (a ++ z ++ c) (RawCombine o e f)) (sym is) (more_operands Product o a c e f t (product_goes h) op low (atom_gets i))

  pub atom_gets : {a : Tokens} {e : RawExpression} → IsAtom a e → Whole Atom a e
  atom_gets (IsAtom.number h) = number_gets h
  atom_gets (IsAtom.name h) = use_gets h
  atom_gets (IsAtom.true_word h) = true_gets h
  atom_gets (IsAtom.false_word h) = false_gets h
  atom_gets (IsAtom.bool_word h) = bool_gets h
  atom_gets (IsAtom.negate {b = b} {e = e} k h) = negate_gets b e k (atom_gets h)
  atom_gets (IsAtom.length_of {b = b} {e = e} k h) = length_gets b e k (atom_gets h)
  atom_gets (IsAtom.bracketed {b = b} {e = e} k h l) = bracketed_atom b e k (disjunction_whole b e (expression_goes h)) l
  atom_gets (IsAtom.no_items k l) = no_items_get k l
  atom_gets (IsAtom.items {b = b} {es = es} k h l) = items_sequence b es k (sums_items h) l
  atom_gets (IsAtom.no_members k l) = no_members_get k l
  atom_gets (IsAtom.members {b = b} {es = es} k h l) = members_get b es k (expressions_items h) l
  atom_gets (IsAtom.range {b = b} {d = d} {e = e} {f = f} k h l i o) = range_gets b d e f k (disjunction_whole b e (expression_goes h)) l (disjunction_whole d f (expression_goes i)) o
  atom_gets (IsAtom.of_one {a = a} {b = b} {c = c} {d = d} {o = o} {e = e} k l h i) = λ r s n.
      let (t, w, is, at_word, op) = unary_is k in
      subst (λ z. Gets (free (AtLevel Atom) (at z n)) (RawApply o e) r) (ap (λ z. z ++ (b ++ (c ++ (d ++ r)))) (sym is) ∙ sym (parts4 a b c d r))
      (of_one_gets o t w c e at_word op l (disjunction_whole c e (expression_goes h)) i r n)
  atom_gets (IsAtom.of_two {a = a} {b = b} {c = c} {d = d} {x = x} {y = y} {o = o} {e = e} {f = f} k l h i j g) = λ r s n.
      let (t, w, is, at_word, none, op) = binary_is k in
      subst (λ z. Gets (free (AtLevel Atom) (at z n)) (RawCombine o e f) r) (ap (λ z. z ++ (b ++ (c ++ (d ++ (x ++ (y ++ r)))))) (sym is) ∙ sym (parts6 a b c d x y r))
      (of_two_gets o t w c x e f at_word none op l (disjunction_whole c e (expression_goes h)) i (disjunction_whole x f (expression_goes j)) g r n)
  atom_gets (IsAtom.constructed {c = c} {d = d} {x = x} {n = v} {e = e} {es = es} k h l i hs o) = constructed_gets c d x v e es k h l (atom_gets i) (dotted_dots hs) o

  pub sums_items : {a : Tokens} {es : RawExpressions} → AreSums a es → Items Sum a es
  sums_items (AreSums.one_sum {a = a} {e = e} h) = one_item a e (sum_whole a e (sum_goes h))
  sums_items (AreSums.more_sums {a = a} {b = b} {c = c} {e = e} {es = es} h k hs) = more_items a b c e es (sum_whole a e (sum_goes h)) k (sums_items hs)

  pub expressions_items : {a : Tokens} {es : RawExpressions} → AreExpressions a es → Items Disjunction a es
  expressions_items (AreExpressions.one_expression {a = a} {e = e} h) = one_item a e (disjunction_whole a e (expression_goes h))
  expressions_items (AreExpressions.more_expressions {a = a} {b = b} {c = c} {e = e} {es = es} h k hs) = more_items a b c e es (disjunction_whole a e (expression_goes h)) k (expressions_items hs)

  pub dotted_dots : {a : Tokens} {es : RawExpressions} → AreDotted a es → Dots a es
  dotted_dots AreDotted.no_dotted = no_dots
  dotted_dots (AreDotted.dotted {a = a} {b = b} {c = c} {e = e} {es = es} k h hs) = more_dots a b c e es k (atom_gets h) (dotted_dots hs)

-- every expression of the grammar is read
pub expression_read : (a : Tokens) (e : RawExpression) → IsExpression a e → Whole Disjunction a e
expression_read a e h = disjunction_whole a e (expression_goes h)

pub expressions_whole : (ts : Tokens) (e : RawExpression) → IsExpression ts e → (n : Nest) → (m : Nest) × (free (AtLevel Disjunction) (at ts n) ≡ Ok (e, at [] m))
expressions_whole ts e h n = let (m, p) = expression_read ts e h [] (omega arith) n in (m, ap (λ z. free (AtLevel Disjunction) (at z n)) (sym (append-nil ts)) ∙ p)
