-- What an operand begins with is read where an expression is, and in brackets.
use Rattle.theory_reader.proofs.SoundExpressions.{seen_sign}
use Rattle.theory_reader.proofs.Laws.{reads_to_is}
use Rattle.theory_reader.proofs.Signs.{is_same_sign, name_is_seen, sign_is_seen, word_is_seen}
use Rattle.theory_text.specs.Place.{first_place}
use Rattle.theory_reader.specs.Reader.{atom_by, atom_of_sign, begins_process, behind_start_name, binary_word, chained_by, compared_by, comparison_of, guarded_by, inner_by, inner_from_name_by, inner_of_dotted_by, inner_of_name_by, is_name, is_operator, is_prefix, operator_at, process_by, replicator_at, replicator_sign, start_by, start_from_inner, start_from_name_by, unary_word, body, constant, is_sign, is_word}
use Rattle.theory_text.specs.Height.{Nest}
use Rattle.theory_reader.specs.Programs.{Halt, Outcome, Seen, SeenName, SeenSign, SeenWord, Standing, and_then, run_to, refuse, pass, seen, give}
use Rattle.theory_text.specs.Raw.{ExternalReplicator, InterleavingReplicator, InternalReplicator, RawExpression, RawName, Replicator, RawUse, RawConstructor}
use Rattle.theory_reader.specs.Forms.{AtLevel, Atom, AtomOfSign, AtomOfWord, BracketedInner, ChainOf, Chained, Compared, Comparison, Conjunction, Constant, Disjunction, Dotted, Enclosed, ExpressionFrom, GuardOf, InnerExpression, InnerFrom, InnerFromName, InnerName, InnerOfDotted, InnerOfName, InnerTree, Level, Negation, OfAtom, OfInner, OfName, OfNegation, OfProcess, OfSign, OfStart, Product, Round, StartBehindName, StartExpression, StartFromAtom, StartFromName, StartName, StartOfBrackets, StartOfExpression, StartOfName, StartTree, Sum, raw_list}
use Rattle.theory_text.specs.Token.{ArrowSign, BoxSign, CloseRoundSign, DotSign, GuardSign, IfWord, InputSign, InternalSign, Keyword, NameToken, NotWord, OpenRoundSign, OutputSign, PlacedToken, Sign, SignToken, SkipWord, StopWord, TripleBarSign}
use Rattle.std.proofs.Common.{◌≡◌, ◌∙◌, ℕ, zero, suc, ◌<◌, Bool, true, false, cond, List, [], ◌∷◌, length, refl, sym, ap, subst, Option, Some, None, is_some, arith, inl, inr}
use Rattle.std.proofs.lemmas.Bool.{cases_Bool}
use Rattle.std.specs.Prelude.{◌⊎◌, ◌||◌, Ok, Err}
use Rattle.theory_text.specs.Grammar.{name, sign}
use Rattle.theory_reader.proofs.CompleteExpressions.{Tokens, free, next, Stuck, chain_is, enclosed_by, four_steps, gets_name, gets_sign, name_token, named_by, negation_by, stuck_at, stuck_expression, alone, behind}
use Rattle.theory_reader.proofs.Local.{at, rest}

-- STEPS THAT ARE READ

pub then_ok : {A B : Type 0} (o : Outcome A) (f : A → Standing → Outcome B) (y : B) (q : Standing) → and_then o f ≡ Ok (y, q) → (x : A) × (p : Standing) × (o ≡ Ok (x, p)) × (f x p ≡ Ok (y, q))
then_ok (Ok p) f y q h = (p.0, p.1, refl, h)
then_ok (Err e) f y q h = absurd (cc h)

pub not_ok : {A : Type 0} {o : Outcome A} {x : A} {q : Standing} {e : Halt × Tokens} → o ≡ Ok (x, q) → o ≡ Err e → ⊥
not_ok h k = let both = sym h ∙ k in absurd (cc both)

pub ok_parts : {A : Type 0} (x y : A) (q p : Standing) → ◌≡◌ {A = Outcome A} (Ok (x, q)) (Ok (y, p)) → (x ≡ y) × (q ≡ p)
ok_parts {A} x y q p h = let pair : ◌≡◌ {A = A × Standing} (x, q) (y, p) = cc h in (ap (λ z. z.0) pair, ap (λ z. z.1) pair)

pub same_ok : {A : Type 0} {o : Outcome A} {x y : A} {q p : Standing} → o ≡ Ok (x, q) → o ≡ Ok (y, p) → (x ≡ y) × (q ≡ p)
same_ok {x = x} {y = y} {q = q} {p = p} h k = ok_parts x y q p (sym h ∙ k)

pub sign_ok : (s : Sign) (q p : Standing) → free (OfSign s) q ≡ Ok (tt {0}, p) → is_sign s (next q.left) ≡ true
unfolding body
sign_ok s q p h = elim (cases_Bool (is_sign s (next q.left))) [
  | inl e ↦ e
  | inr e ↦ absurd (not_ok h (reads_to_is false (OfSign s) q ∙ ap (λ b. run_to false free (cond b (pass (give (tt {0}))) refuse) q) e))
]

pub or_cases : (a b : Bool) → (a || b) ≡ true → (a ≡ true) ⊎ (b ≡ true)
or_cases true b e = inl refl
or_cases false b e = inr e

pub or_none : (a b : Bool) → (a || b) ≡ false → (a ≡ false) × (b ≡ false)
or_none true b e = absurd (cc e)
or_none false b e = (refl, e)

pub none_of : {A : Type 0} (o : Option A) → is_some o ≡ false → o ≡ None
none_of None e = refl
none_of (Some x) e = absurd (cc e)

-- where no operator is next, an expression ends
pub no_operator_from : (x : RawExpression) (q : Standing) → is_operator (next q.left) ≡ false → free (ExpressionFrom x) q ≡ Ok (x, q)
unfolding body
no_operator_from x q e =
    let k = next q.left in
    let (abcd, disjunction) = or_none (is_some (comparison_of k) || is_some (operator_at Product k) || is_some (operator_at Sum k) || is_some (operator_at Conjunction k)) (is_some (operator_at Disjunction k)) e in
    let (abc, conjunction) = or_none (is_some (comparison_of k) || is_some (operator_at Product k) || is_some (operator_at Sum k)) (is_some (operator_at Conjunction k)) abcd in
    let (ab, sum) = or_none (is_some (comparison_of k) || is_some (operator_at Product k)) (is_some (operator_at Sum k)) abc in
    let (comparison, product) = or_none (is_some (comparison_of k)) (is_some (operator_at Product k)) ab in
    let chain : (l : Level) → operator_at l k ≡ None → free (Chained l x) q ≡ Ok (x, q) = λ l none. reads_to_is false (Chained l x) q ∙ ap (λ o. run_to false free (chained_by l x o) q) none in
    rw (
      reads_to_is false (ExpressionFrom x) q,
      chain Product (none_of (operator_at Product k) product),
      chain Sum (none_of (operator_at Sum k) sum),
      reads_to_is false (Compared x) q ∙ ap (λ o. run_to false free (compared_by x o) q) (none_of (comparison_of k) comparison),
      chain Conjunction (none_of (operator_at Conjunction k) conjunction),
      chain Disjunction (none_of (operator_at Disjunction k) disjunction),
    ) refl

-- an expression is its first atom and what is behind it
pub from_first : (ts : Tokens) (n : Nest) (x : RawExpression) (q : Standing) → is_word NotWord (next ts) ≡ false → free (AtLevel Atom) (at ts n) ≡ Ok (x, q) → free (AtLevel Disjunction) (at ts n) ≡ free (ExpressionFrom x) q
unfolding body
from_first ts n x q not atom =
    let s = at ts n in
    let product : free (AtLevel Product) s ≡ free (Chained Product x) q = chain_is Product s (reads_to_is false (AtLevel Product) s) ∙ ap (λ o. and_then o (λ x. free (Chained Product x))) atom in
    let sum : free (AtLevel Sum) s ≡ and_then (free (Chained Product x) q) (λ x. free (Chained Sum x)) = chain_is Sum s (reads_to_is false (AtLevel Sum) s) ∙ ap (λ o. and_then o (λ x. free (Chained Sum x))) product in
    let comparison : free (AtLevel Comparison) s ≡ and_then (and_then (free (Chained Product x) q) (λ x. free (Chained Sum x))) (λ x. free (Compared x)) =
    reads_to_is false (AtLevel Comparison) s ∙ behind (free (AtLevel Sum) s) (λ x. free (Compared x)) ∙ ap (λ o. and_then o (λ x. free (Compared x))) sum in
    let negation : free (AtLevel Negation) s ≡ free (AtLevel Comparison) s = negation_by ts n false not ∙ alone (free (AtLevel Comparison) s) in
    let conjunction = chain_is Conjunction s (reads_to_is false (AtLevel Conjunction) s) ∙ ap (λ o. and_then o (λ x. free (Chained Conjunction x))) (negation ∙ comparison) in
    chain_is Disjunction s (reads_to_is false (AtLevel Disjunction) s) ∙ ap (λ o. and_then o (λ x. free (Chained Disjunction x))) conjunction
    ∙ sym (four_steps (free (Chained Product x) q) (λ x. free (Chained Sum x)) (λ x. free (Compared x)) (λ x. free (Chained Conjunction x)) (λ x. free (Chained Disjunction x)))
    ∙ sym (reads_to_is false (ExpressionFrom x) q)

first_fails : (ts : Tokens) (n : Nest) (e : Halt × Tokens) → is_word NotWord (next ts) ≡ false → free (AtLevel Atom) (at ts n) ≡ Err e → free (AtLevel Disjunction) (at ts n) ≡ Err e
unfolding body is_word
first_fails ts n e not h =
    rw (
      reads_to_is false (AtLevel Disjunction) (at ts n),
      reads_to_is false (ChainOf Disjunction Conjunction) (at ts n),
      reads_to_is false (AtLevel Conjunction) (at ts n),
      reads_to_is false (ChainOf Conjunction Negation) (at ts n),
      reads_to_is false (AtLevel Negation) (at ts n),
      reads_to_is false OfNegation (at ts n),
      not,
      reads_to_is false (AtLevel Comparison) (at ts n),
      reads_to_is false (AtLevel Sum) (at ts n),
      reads_to_is false (ChainOf Sum Product) (at ts n),
      reads_to_is false (AtLevel Product) (at ts n),
      reads_to_is false (ChainOf Product Atom) (at ts n),
      h,
    ) refl

atom_ok : (ts : Tokens) (n : Nest) (e : RawExpression) (q : Standing) (o : Outcome RawExpression) → is_word NotWord (next ts) ≡ false → free (AtLevel Disjunction) (at ts n) ≡ Ok (e, q) → free (AtLevel Atom) (at ts n) ≡ o →
    (x : RawExpression) × (p : Standing) × (free (AtLevel Atom) (at ts n) ≡ Ok (x, p)) × (free (ExpressionFrom x) p ≡ Ok (e, q))
atom_ok ts n e q (Ok r) not h is = (r.0, r.1, is, sym (from_first ts n r.0 r.1 not is) ∙ h)
atom_ok ts n e q (Err f) not h is = absurd (not_ok h (first_fails ts n f not is))

-- WHAT BEGINS NO EXPRESSION

stuck_word : (k : Keyword) (ts : Tokens) → next ts ≡ Some (SeenWord k) → is_word NotWord (Some (SeenWord k)) ≡ false → unary_word k ≡ None → binary_word k ≡ None → constant k ≡ refuse → Stuck (AtLevel Disjunction) ts
unfolding body
stuck_word k ts e not one two none = stuck_expression ts (ap (is_word NotWord) e ∙ not) (stuck_at ts (SeenWord k) e
    (λ n. rw (reads_to_is false (AtomOfWord k) (at ts n), one, two, reads_to_is false (Constant k) (at ts n), none) refl))

stuck_sign : (s : Sign) (ts : Tokens) → next ts ≡ Some (SeenSign s) → atom_of_sign s ≡ refuse → Stuck (AtLevel Disjunction) ts
unfolding body is_word
stuck_sign s ts e none = stuck_expression ts (ap (is_word NotWord) e) (stuck_at ts (SeenSign s) e (λ n. rw (reads_to_is false (AtomOfSign s) (at ts n), none) refl))

stuck_stop : (ts : Tokens) → is_word StopWord (next ts) ≡ true → Stuck (AtLevel Disjunction) ts
unfolding is_word
stuck_stop ts e = stuck_word StopWord ts (word_is_seen StopWord (next ts) e) refl refl refl refl

stuck_skip : (ts : Tokens) → is_word SkipWord (next ts) ≡ true → Stuck (AtLevel Disjunction) ts
unfolding is_word
stuck_skip ts e = stuck_word SkipWord ts (word_is_seen SkipWord (next ts) e) refl refl refl refl

stuck_if : (ts : Tokens) → is_word IfWord (next ts) ≡ true → Stuck (AtLevel Disjunction) ts
unfolding is_word
stuck_if ts e = stuck_word IfWord ts (word_is_seen IfWord (next ts) e) refl refl refl refl

-- the sign of the operator over a set that is next
replicator_next : (k : Option Seen) → is_some (replicator_at k) ≡ true → (o : Replicator) × (replicator_at k ≡ Some o) × (k ≡ Some (SeenSign (replicator_sign o)))
replicator_next (Some (SeenSign BoxSign)) e = (ExternalReplicator, refl, refl)
replicator_next (Some (SeenSign InternalSign)) e = (InternalReplicator, refl, refl)
replicator_next (Some (SeenSign TripleBarSign)) e = (InterleavingReplicator, refl, refl)
replicator_next _ e = absurd (cc e)

no_atom_over : (o : Replicator) → atom_of_sign (replicator_sign o) ≡ refuse
no_atom_over ExternalReplicator = refl
no_atom_over InternalReplicator = refl
no_atom_over InterleavingReplicator = refl

stuck_over : (ts : Tokens) → is_some (replicator_at (next ts)) ≡ true → Stuck (AtLevel Disjunction) ts
stuck_over ts e = let (o, is, seen) = replicator_next (next ts) e in stuck_sign (replicator_sign o) ts seen (no_atom_over o)

pub stuck_process : (ts : Tokens) → begins_process (next ts) ≡ true → Stuck (AtLevel Disjunction) ts
stuck_process ts e = elim (or_cases (is_some (replicator_at (next ts))) (is_word IfWord (next ts)) e) [
  | inl h ↦ stuck_over ts h
  | inr h ↦ stuck_if ts h
]

-- TURNS

pub start_by_next : (q : Standing) (a b c d : Bool) → is_word StopWord (next q.left) ≡ a → is_word SkipWord (next q.left) ≡ b → is_name (next q.left) ≡ c → is_sign OpenRoundSign (next q.left) ≡ d → free OfStart q ≡ run_to false free (start_by a b c d) q
unfolding body
start_by_next q a b c d e f g h =
    let k = next q.left in
    reads_to_is false OfStart q ∙ ap (λ x. run_to false free (start_by x (is_word SkipWord k) (is_name k) (is_sign OpenRoundSign k)) q) e ∙ ap (λ x. run_to false free (start_by a x (is_name k) (is_sign OpenRoundSign k)) q) f
    ∙ ap (λ x. run_to false free (start_by a b x (is_sign OpenRoundSign k)) q) g ∙ ap (λ x. run_to false free (start_by a b c x) q) h

pub behind_name_by : (v : RawName) (q : Standing) (b c : Bool) → is_sign OpenRoundSign (next q.left) ≡ b → is_prefix (next q.left) ≡ c → free (StartBehindName v) q ≡ run_to false free (behind_start_name v b c) q
unfolding body
behind_name_by v q b c e f =
    reads_to_is false (StartBehindName v) q ∙ ap (λ x. run_to false free (behind_start_name v x (is_prefix (next q.left))) q) e ∙ ap (λ x. run_to false free (behind_start_name v b x) q) f

pub from_name_by : (v : RawName) (q : Standing) (b : Bool) → (is_operator (next q.left) || is_sign GuardSign (next q.left)) ≡ b → free (StartFromName v) q ≡ run_to false free (start_from_name_by v b) q
unfolding body
from_name_by v q b e = reads_to_is false (StartFromName v) q ∙ ap (λ x. run_to false free (start_from_name_by v x) q) e

pub guard_by_next : (x : RawExpression) (q : Standing) (b : Bool) → is_sign GuardSign (next q.left) ≡ b → free (GuardOf x) q ≡ run_to false free (guarded_by x b) q
unfolding body
guard_by_next x q b e = reads_to_is false (GuardOf x) q ∙ ap (λ z. run_to false free (guarded_by x z) q) e

pub inner_by_next : (q : Standing) (b c : Bool) → begins_process (next q.left) ≡ b → is_name (next q.left) ≡ c → free OfInner q ≡ run_to false free (inner_by b c) q
unfolding body
inner_by_next q b c e f = reads_to_is false OfInner q ∙ ap (λ x. run_to false free (inner_by x (is_name (next q.left))) q) e ∙ ap (λ x. run_to false free (inner_by b x) q) f

pub process_by_next : (q : Standing) (b : Bool) (o : Option Replicator) → is_word IfWord (next q.left) ≡ b → replicator_at (next q.left) ≡ o → free OfProcess q ≡ run_to false free (process_by b o) q
unfolding body
process_by_next q b o e f = reads_to_is false OfProcess q ∙ ap (λ x. run_to false free (process_by x (replicator_at (next q.left))) q) e ∙ ap (λ x. run_to false free (process_by b x) q) f

pub inner_name_by : (v : RawName) (q : Standing) (b : Bool) → is_sign CloseRoundSign (next q.left) ≡ b → free (InnerFromName v) q ≡ run_to false free (inner_from_name_by v b) q
unfolding body
inner_name_by v q b e = reads_to_is false (InnerFromName v) q ∙ ap (λ x. run_to false free (inner_from_name_by v x) q) e

pub inner_of_name_by_next : (s q : Standing) (v : RawName) (b : Bool) → free OfName s ≡ Ok (v, q) → is_sign DotSign (next q.left) ≡ b → free InnerOfName s ≡ run_to false free (inner_of_name_by v b) q
unfolding body
inner_of_name_by_next s q v b h e = rw (reads_to_is false InnerOfName s, h) refl ∙ ap (λ x. run_to false free (inner_of_name_by v x) q) e

pub inner_of_dotted_next : (v : RawName) (s q : Standing) (es : List RawExpression) (b : Bool) → free (Dotted []) s ≡ Ok (es, q) → is_prefix (next q.left) ≡ b → free (InnerOfDotted v) s ≡ run_to false free (inner_of_dotted_by v es b) q
unfolding body
inner_of_dotted_next v s q es b h e = rw (reads_to_is false (InnerOfDotted v) s, h) refl ∙ ap (λ x. run_to false free (inner_of_dotted_by v es x) q) e

-- EXPRESSIONS THAT END AT A GUARD OR A CLOSING BRACKET

abbrev pub Closed : Tokens → Type 0
Closed r = is_sign CloseRoundSign (next r) ≡ true

abbrev pub Shut : Tokens → Type 0
Shut r = Closed r ⊎ (is_sign GuardSign (next r) ≡ true)

-- what an operand begins with is read where the expression is
abbrev pub Starts : Standing → RawExpression → Standing → Type 0
Starts s e q = (free OfStart s ≡ free (GuardOf e) q) ⊎ ((v : RawName) × (e ≡ RawUse v) × Closed q.left × (free OfStart s ≡ Ok (StartName v, q)))

abbrev Inside : Standing → RawExpression → Standing → Type 0
Inside s e q = (free OfInner s ≡ Ok (InnerExpression e, q)) ⊎ ((v : RawName) × (e ≡ RawUse v) × (free OfInner s ≡ Ok (InnerName v, q)))

not_shut : (u : Sign) (k : Option Seen) → k ≡ Some (SeenSign u) → is_sign CloseRoundSign (Some (SeenSign u)) ≡ false → is_sign GuardSign (Some (SeenSign u)) ≡ false → (is_sign CloseRoundSign k ≡ true) ⊎ (is_sign GuardSign k ≡ true) → ⊥
not_shut u k e f g h = elim h [
  | inl c ↦ let both = sym (sym (ap (is_sign CloseRoundSign) e) ∙ c) ∙ f in absurd (cc both)
  | inr c ↦ let both = sym (sym (ap (is_sign GuardSign) e) ∙ c) ∙ g in absurd (cc both)
]

-- behind a name no sign is next at which the expression would end
not_here : (u : Sign) (v : RawName) (q p : Standing) (e : RawExpression) → next q.left ≡ Some (SeenSign u) → is_operator (Some (SeenSign u)) ≡ false → is_sign CloseRoundSign (Some (SeenSign u)) ≡ false → is_sign GuardSign (Some (SeenSign u)) ≡ false →
    free (ExpressionFrom (RawUse v)) q ≡ Ok (e, p) → Shut p.left → ⊥
not_here u v q p e is none c g h shut =
    let (x, same) = same_ok h (no_operator_from (RawUse v) q (ap is_operator is ∙ none)) in
    not_shut u (next q.left) is c g (subst (λ z. Shut z.left) same shut)

prefix_sign : (k : Option Seen) → is_prefix k ≡ true → (u : Sign) × (k ≡ Some (SeenSign u)) × (is_operator (Some (SeenSign u)) ≡ false) × (is_sign CloseRoundSign (Some (SeenSign u)) ≡ false) × (is_sign GuardSign (Some (SeenSign u)) ≡ false)
unfolding is_sign
prefix_sign k e = elim (or_cases (is_sign DotSign k || is_sign OutputSign k || is_sign InputSign k) (is_sign ArrowSign k) e) [
  | inr h ↦ (ArrowSign, sign_is_seen ArrowSign k h, refl, refl, refl)
  | inl h ↦ elim (or_cases (is_sign DotSign k || is_sign OutputSign k) (is_sign InputSign k) h) [
    | inr i ↦ (InputSign, sign_is_seen InputSign k i, refl, refl, refl)
    | inl i ↦ elim (or_cases (is_sign DotSign k) (is_sign OutputSign k) i) [
      | inr j ↦ (OutputSign, sign_is_seen OutputSign k j, refl, refl, refl)
      | inl j ↦ (DotSign, sign_is_seen DotSign k j, refl, refl, refl)
    ]
  ]
]

abbrev Named : Outcome StartTree → RawName → RawExpression → Standing → Type 0
Named o v e q = (o ≡ free (GuardOf e) q) ⊎ ((e ≡ RawUse v) × Closed q.left × (o ≡ Ok (StartName v, q)))

-- behind a name, perhaps in brackets
named_start : (v : RawName) (q p : Standing) (e : RawExpression) → free (ExpressionFrom (RawUse v)) q ≡ Ok (e, p) → Shut p.left → Named (free (StartFromName v) q) v e p
named_start v q p e h shut = elim (cases_Bool (is_operator (next q.left) || is_sign GuardSign (next q.left))) [
  | inl b ↦ inl (from_name_by v q true b ∙ rw h (alone (free (GuardOf e) p)))
  | inr b ↦
      let (none, unguarded) = or_none (is_operator (next q.left)) (is_sign GuardSign (next q.left)) b in
      let (x, same) = same_ok h (no_operator_from (RawUse v) q none) in
      let here : Shut q.left = subst (λ z. Shut z.left) same shut in
      elim here [
        | inl c ↦ inr (x, subst (λ z. Closed z.left) (sym same) c, from_name_by v q false b ∙ ap (λ z. Ok (StartName v, z)) (sym same))
        | inr g ↦ let both = sym unguarded ∙ g in absurd (cc both)
      ]
]

named_behind : (v : RawName) (q p : Standing) (e : RawExpression) → free (ExpressionFrom (RawUse v)) q ≡ Ok (e, p) → Shut p.left → Named (free (StartBehindName v) q) v e p
unfolding is_sign
named_behind v q p e h shut = elim (cases_Bool (is_sign OpenRoundSign (next q.left))) [
  | inl b ↦ absurd (not_here OpenRoundSign v q p e (sign_is_seen OpenRoundSign (next q.left) b) refl refl refl h shut)
  | inr b ↦ elim (cases_Bool (is_prefix (next q.left))) [
    | inl c ↦ let (u, is, none, close, guard) = prefix_sign (next q.left) c in absurd (not_here u v q p e is none close guard h shut)
    | inr c ↦ let same : free (StartBehindName v) q ≡ free (StartFromName v) q = behind_name_by v q false false b c ∙ alone (free (StartFromName v) q) in
        elim (named_start v q p e h shut) [
          | inl i ↦ inl (same ∙ i)
          | inr i ↦ inr (i.0, i.1, same ∙ i.2)
        ]
  ]
]

-- a name is first
pub name_first : (ts : Tokens) → is_name (next ts) ≡ true → (t : PlacedToken) × (us : Tokens) × (cs : List ℕ) × (ts ≡ t ∷ us) × (t.token ≡ NameToken cs)
unfolding is_name
name_first [] e = absurd (cc e)
name_first (t ∷ us) e = let (cs, is) = name_token t.token (cc (name_is_seen (next (t ∷ us)) e)) in (t, us, cs, refl, is)

sign_first : (s : Sign) (ts : Tokens) → is_sign s (next ts) ≡ true → (t : PlacedToken) × (us : Tokens) × (ts ≡ t ∷ us) × (t.token ≡ SignToken s)
sign_first s [] e = let gone = sign_is_seen s None e in absurd (cc gone)
sign_first s (t ∷ us) e = (t, us, refl, seen_sign t.token s (sign_is_seen s (next (t ∷ us)) e))

-- a name is no other token
pub name_tests : (t : PlacedToken) (cs : List ℕ) (us : Tokens) → t.token ≡ NameToken cs →
    (is_word StopWord (next (t ∷ us)) ≡ false) × (is_word SkipWord (next (t ∷ us)) ≡ false) × (is_name (next (t ∷ us)) ≡ true) × (begins_process (next (t ∷ us)) ≡ false) × (is_word NotWord (next (t ∷ us)) ≡ false)
unfolding is_word is_name
name_tests t cs us e =
    let is : next (t ∷ us) ≡ Some SeenName = ap (λ k. Some (seen k)) e in
    (ap (is_word StopWord) is, ap (is_word SkipWord) is, ap is_name is, ap begins_process is, ap (is_word NotWord) is)

-- a name, and what is behind it
pub start_of_name : (t : PlacedToken) (cs : List ℕ) (us : Tokens) (n m : Nest) → t.token ≡ NameToken cs → free OfName (at (t ∷ us) n) ≡ Ok (record { spelling = cs; place = t.place }, at us m) →
    free OfStart (at (t ∷ us) n) ≡ free (StartBehindName (record { spelling = cs; place = t.place })) (at us m)
unfolding body
start_of_name t cs us n m is h =
    let (stop, skip, named, process, not) = name_tests t cs us is in
    let s = at (t ∷ us) n in
    start_by_next s false false true _ stop skip named refl ∙ alone (free StartOfName s) ∙ rw (reads_to_is false StartOfName s, h) (alone (free (StartBehindName (record { spelling = cs; place = t.place })) (at us m)))

used_atom : (t : PlacedToken) (cs : List ℕ) (us : Tokens) (n m : Nest) → t.token ≡ NameToken cs → free OfName (at (t ∷ us) n) ≡ Ok (record { spelling = cs; place = t.place }, at us m) → free (AtLevel Atom) (at (t ∷ us) n) ≡ Ok (RawUse (record { spelling = cs; place = t.place }), at us m)
unfolding body
used_atom t cs us n m is h =
    let s = at (t ∷ us) n in
    reads_to_is false (AtLevel Atom) s ∙ alone (free OfAtom s) ∙ reads_to_is false OfAtom s ∙ ap (λ k. run_to false free (atom_by (Some (seen k))) s) is ∙ rw h refl

name_starts : (t : PlacedToken) (cs : List ℕ) (us : Tokens) (n : Nest) (e : RawExpression) (q : Standing) → t.token ≡ NameToken cs → free (AtLevel Disjunction) (at (t ∷ us) n) ≡ Ok (e, q) → Shut q.left → Starts (at (t ∷ us) n) e q
name_starts t cs us n e q is h shut =
    let v : RawName = record { spelling = cs; place = t.place } in
    let (m, p) = gets_name (name t cs is) us n in
    let (stop, skip, named, process, not) = name_tests t cs us is in
    let from = sym (from_first (t ∷ us) n (RawUse v) (at us m) not (used_atom t cs us n m is p)) ∙ h in
    let same = start_of_name t cs us n m is p in
    elim (named_behind v (at us m) q e from shut) [
      | inl i ↦ inl (same ∙ i)
      | inr i ↦ inr (v, i.0, i.1, same ∙ i.2)
    ]

-- ROUND BRACKETS

round_is : (t : PlacedToken) (us : Tokens) (n m : Nest) → t.token ≡ SignToken OpenRoundSign → free (OfSign OpenRoundSign) (at (t ∷ us) n) ≡ Ok (tt {0}, at us m) →
    free (AtLevel Atom) (at (t ∷ us) n) ≡ and_then (free Enclosed (at us m)) (λ x q. and_then (free (OfSign CloseRoundSign) q) (λ _ p. Ok (x, p)))
unfolding body
round_is t us n m is h =
    let s = at (t ∷ us) n in
    reads_to_is false (AtLevel Atom) s ∙ alone (free OfAtom s) ∙ reads_to_is false OfAtom s ∙ ap (λ k. run_to false free (atom_by (Some (seen k))) s) is ∙ alone (free (AtomOfSign OpenRoundSign) s)
    ∙ reads_to_is false (AtomOfSign OpenRoundSign) s ∙ alone (free Round s) ∙ reads_to_is false Round s ∙ ap (λ o. and_then o (λ _ r. and_then (free Enclosed r) (λ x q. and_then (free (OfSign CloseRoundSign) q) (λ _ p. Ok (x, p))))) h

-- an opening bracket is no other token
open_tests : (t : PlacedToken) (us : Tokens) → t.token ≡ SignToken OpenRoundSign →
    (is_word StopWord (next (t ∷ us)) ≡ false) × (is_word SkipWord (next (t ∷ us)) ≡ false) × (is_name (next (t ∷ us)) ≡ false) × (is_sign OpenRoundSign (next (t ∷ us)) ≡ true) × (begins_process (next (t ∷ us)) ≡ false) × (is_word NotWord (next (t ∷ us)) ≡ false)
unfolding is_word is_name
open_tests t us e =
    let is : next (t ∷ us) ≡ Some (SeenSign OpenRoundSign) = ap (λ k. Some (seen k)) e in
    (ap (is_word StopWord) is, ap (is_word SkipWord) is, ap is_name is, ap (is_sign OpenRoundSign) is ∙ is_same_sign OpenRoundSign, ap begins_process is, ap (is_word NotWord) is)

pub start_of_brackets : (t : PlacedToken) (us : Tokens) (n m : Nest) (i : InnerTree) (q p : Standing) → t.token ≡ SignToken OpenRoundSign → free (OfSign OpenRoundSign) (at (t ∷ us) n) ≡ Ok (tt {0}, at us m) → free OfInner (at us m) ≡ Ok (i, q) →
    free (OfSign CloseRoundSign) q ≡ Ok (tt {0}, p) → free OfStart (at (t ∷ us) n) ≡ run_to false free (start_from_inner i) p
unfolding body
start_of_brackets t us n m i q p is opens inner closes =
    let (stop, skip, named, opened, process, not) = open_tests t us is in
    let s = at (t ∷ us) n in
    start_by_next s false false false true stop skip named opened ∙ alone (free StartOfBrackets s) ∙ rw (reads_to_is false StartOfBrackets s, reads_to_is false BracketedInner s, opens, inner, closes) refl

in_brackets : (t : PlacedToken) (us : Tokens) (n m : Nest) (x e : RawExpression) (q p r : Standing) → t.token ≡ SignToken OpenRoundSign → free (OfSign OpenRoundSign) (at (t ∷ us) n) ≡ Ok (tt {0}, at us m) →
    Inside (at us m) x q → free (OfSign CloseRoundSign) q ≡ Ok (tt {0}, p) → free (ExpressionFrom x) p ≡ Ok (e, r) → Shut r.left → Starts (at (t ∷ us) n) e r
unfolding body
in_brackets t us n m x e q p r is opens inside closes from shut = elim inside [
  | inl i ↦ inl (start_of_brackets t us n m (InnerExpression x) q p is opens i closes ∙ alone (free (StartFromAtom x) p) ∙ rw (reads_to_is false (StartFromAtom x) p, from) (alone (free (GuardOf e) r)))
  | inr i ↦
      let same = start_of_brackets t us n m (InnerName i.0) q p is opens i.2 closes ∙ alone (free (StartFromName i.0) p) in
      elim (named_start i.0 p r e (ap (λ z. free (ExpressionFrom z) p) (sym i.1) ∙ from) shut) [
        | inl k ↦ inl (same ∙ k)
        | inr k ↦ inr (i.0, k.0, k.1, same ∙ k.2)
      ]
]

-- what is between brackets, where what it begins with is read as an expression is
guard_ends : (e : RawExpression) (q : Standing) → Closed q.left → free (GuardOf e) q ≡ Ok (StartExpression e, q)
unfolding is_sign
guard_ends e q c = guard_by_next e q false (ap (is_sign GuardSign) (sign_is_seen CloseRoundSign (next q.left) c))

inner_started : (v : RawName) (e : RawExpression) (q : Standing) (o : Outcome StartTree) (i : Outcome InnerTree) → Closed q.left → i ≡ and_then o (λ t. free (InnerFrom t)) → Named o v e q → (i ≡ Ok (InnerExpression e, q)) ⊎ ((e ≡ RawUse v) × (i ≡ Ok (InnerName v, q)))
unfolding body
inner_started v e q o i c is h = elim h [
  | inl k ↦ inl (is ∙ rw (k, guard_ends e q c, reads_to_is false (InnerFrom (StartExpression e)) q) refl)
  | inr k ↦ inr (k.0, is ∙ rw (k.2, reads_to_is false (InnerFrom (StartName v)) q, inner_name_by v q true c) refl)
]

named_inside : (t : PlacedToken) (cs : List ℕ) (us : Tokens) (n : Nest) (e : RawExpression) (q : Standing) → t.token ≡ NameToken cs → free Enclosed (at (t ∷ us) n) ≡ Ok (e, q) → Closed q.left → Inside (at (t ∷ us) n) e q
unfolding body is_sign
named_inside t cs us n e q is h c =
    let v : RawName = record { spelling = cs; place = t.place } in
    let (m, p) = gets_name (name t cs is) us n in
    let (stop, skip, named, process, not) = name_tests t cs us is in
    let s = at (t ∷ us) n in
    let inner : free OfInner s ≡ free InnerOfName s = inner_by_next s false true process named ∙ alone (free InnerOfName s) in
    elim (cases_Bool (is_sign DotSign (next us))) [
      | inl d ↦
          let (es, r, dots, made) = then_ok (free (Dotted []) (at us m)) (λ fs w. Ok (RawConstructor v (raw_list fs), w)) e q (sym (named_by t cs us n m true is p d) ∙ h) in
          let (tree, same) = ok_parts (RawConstructor v (raw_list es)) e r q made in
          let ends : is_prefix (next r.left) ≡ false = ap (λ z. is_prefix (next z.left)) same ∙ ap is_prefix (sign_is_seen CloseRoundSign (next q.left) c) in
          let begun_dotted : free OfInner s ≡ free (InnerOfDotted v) (at us m) = inner ∙ inner_of_name_by_next s (at us m) v true p d ∙ alone (free (InnerOfDotted v) (at us m)) in
          let read : free OfInner s ≡ Ok (InnerExpression e, q) = begun_dotted ∙ inner_of_dotted_next v (at us m) r es false dots ends ∙ ap (λ z. Ok (InnerExpression z, r)) tree ∙ ap (λ z. Ok (InnerExpression e, z)) same in
          inl read
      | inr d ↦
          let from : free (ExpressionFrom (RawUse v)) (at us m) ≡ Ok (e, q) = sym (named_by t cs us n m false is p d ∙ alone (free (ExpressionFrom (RawUse v)) (at us m))) ∙ h in
          let started = inner ∙ inner_of_name_by_next s (at us m) v false p d ∙ behind (free (StartBehindName v) (at us m)) (λ x. free (InnerFrom x)) in
          elim (inner_started v e q (free (StartBehindName v) (at us m)) (free OfInner s) c started (named_behind v (at us m) q e from (inl c))) [
            | inl i ↦ inl i
            | inr i ↦ inr (v, i.0, i.1)
          ]
    ]

inside : (ts : Tokens) (n : Nest) (e : RawExpression) (q : Standing) → (free (AtLevel Disjunction) (at ts n) ≡ Ok (e, q) → Starts (at ts n) e q) → free Enclosed (at ts n) ≡ Ok (e, q) → Closed q.left → Inside (at ts n) e q
inside ts n e q starts h c = elim (cases_Bool (is_name (next ts))) [
  | inl b ↦ let (t, us, cs, same, is) = name_first ts b in subst (λ z. Inside (at z n) e q) (sym same) (named_inside t cs us n e q is (ap (λ z. free Enclosed (at z n)) (sym same) ∙ h) c)
  | inr b ↦
      let read : free (AtLevel Disjunction) (at ts n) ≡ Ok (e, q) = sym (enclosed_by ts n false b ∙ alone (free (AtLevel Disjunction) (at ts n))) ∙ h in
      elim (cases_Bool (begins_process (next ts))) [
        | inl d ↦ absurd (not_ok read (stuck_process ts d n))
        | inr d ↦
            let started = inner_by_next (at ts n) false false d b ∙ behind (free OfStart (at ts n)) (λ x. free (InnerFrom x)) in
            elim (starts read) [
              | inl k ↦ elim (inner_started (record { spelling = []; place = first_place }) e q (free OfStart (at ts n)) (free OfInner (at ts n)) c started (inl k)) [
                | inl i ↦ inl i
                | inr i ↦ inr (record { spelling = []; place = first_place }, i.0, i.1)
              ]
              | inr k ↦ elim (inner_started k.0 e q (free OfStart (at ts n)) (free OfInner (at ts n)) c started (inr (k.1, k.2, k.3))) [
                | inl i ↦ inl i
                | inr i ↦ inr (k.0, i.0, i.1)
              ]
            ]
      ]
]

expression_starts : (ts : Tokens) (n : Nest) (e : RawExpression) (q : Standing) → is_word StopWord (next ts) ≡ false → is_word SkipWord (next ts) ≡ false → is_name (next ts) ≡ false → is_sign OpenRoundSign (next ts) ≡ false →
    free (AtLevel Disjunction) (at ts n) ≡ Ok (e, q) → free OfStart (at ts n) ≡ free (GuardOf e) q
unfolding body
expression_starts ts n e q a b c d h =
    start_by_next (at ts n) false false false false a b c d ∙ alone (free StartOfExpression (at ts n)) ∙ rw (reads_to_is false StartOfExpression (at ts n), h) (alone (free (GuardOf e) q))

starts_within : (k : ℕ) (ts : Tokens) → length ts < k → (n : Nest) (e : RawExpression) (q : Standing) → free (AtLevel Disjunction) (at ts n) ≡ Ok (e, q) → Shut q.left → Starts (at ts n) e q
starts_within zero ts small n e q h shut = absurd (omega (arith, small))
starts_within (suc k) ts small n e q h shut = elim (cases_Bool (is_word StopWord (next ts))) [
  | inl a ↦ absurd (not_ok h (stuck_stop ts a n))
  | inr a ↦ elim (cases_Bool (is_word SkipWord (next ts))) [
    | inl b ↦ absurd (not_ok h (stuck_skip ts b n))
    | inr b ↦ elim (cases_Bool (is_name (next ts))) [
      | inl c ↦ let (t, us, cs, same, is) = name_first ts c in subst (λ z. Starts (at z n) e q) (sym same) (name_starts t cs us n e q is (ap (λ z. free (AtLevel Disjunction) (at z n)) (sym same) ∙ h) shut)
      | inr c ↦ elim (cases_Bool (is_sign OpenRoundSign (next ts))) [
        | inr d ↦ inl (expression_starts ts n e q a b c d h)
        | inl d ↦
            let (t, us, same, is) = sign_first OpenRoundSign ts d in
            let here : free (AtLevel Disjunction) (at (t ∷ us) n) ≡ Ok (e, q) = ap (λ z. free (AtLevel Disjunction) (at z n)) (sym same) ∙ h in
            let (stop, skip, named, opened, process, not) = open_tests t us is in
            let (m, opens) = gets_sign OpenRoundSign (sign t is) us n in
            let (x, p, atom, from) = atom_ok (t ∷ us) n e q (free (AtLevel Atom) (at (t ∷ us) n)) not here refl in
            let (y, r, enclosed, rest) = then_ok (free Enclosed (at us m)) (λ x q. and_then (free (OfSign CloseRoundSign) q) (λ _ p. Ok (x, p))) x p (sym (round_is t us n m is opens) ∙ atom) in
            let (_, w, closes, made) = then_ok (free (OfSign CloseRoundSign) r) (λ _ p. Ok (y, p)) x p rest in
            let (tree, left) = ok_parts y x w p made in
            let closed = sign_ok CloseRoundSign r w closes in
            let within : length us < k = omega (arith, small, ap length same) in
            let inner = inside us m x r (λ g. starts_within k us within m x r g (inl closed)) (enclosed ∙ ap (λ z. Ok (z, r)) tree) closed in
            subst (λ z. Starts (at z n) e q) (sym same) (in_brackets t us n m x e r p q is opens inner (closes ∙ ap (λ z. Ok (tt {0}, z)) left) from shut)
      ]
    ]
  ]
]

-- what an operand begins with is read where an expression is that ends at a guard or a closing bracket
pub expression_begins : (ts : Tokens) (n : Nest) (e : RawExpression) (q : Standing) → free (AtLevel Disjunction) (at ts n) ≡ Ok (e, q) → Shut q.left → Starts (at ts n) e q
expression_begins ts n e q h shut = starts_within (suc (length ts)) ts (omega arith) n e q h shut
