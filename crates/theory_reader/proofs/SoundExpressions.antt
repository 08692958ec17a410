-- What is read as an expression is one, and where reading stops the tokens that are passed begin one.
use Rattle.std.proofs.Common.{◌≡◌, ◌∙◌, Bool, true, false, cond, ◌&&◌, List, [], ◌∷◌, ◌++◌, refl, sym, ap, subst, Option, Some, None, append_assoc, append-nil, inl, inr}
use Rattle.std.specs.Prelude.{◌⊎◌, option_map, nat_lt, Ok, Err}
use Rattle.theory_syntax.specs.Expression as pure
use Rattle.theory_syntax.specs.Expression.{Unary, Negate, Not, Length, Head, IsNull, Card, IsElement, IsMember, Union, Intersection, Difference, Binary, Add, Subtract, Multiply, Modulus, Concatenate, Equals, Differs, LessThan, AtMost, GreaterThan, AtLeast, And, Or}
use Rattle.theory_text.specs.Place.{first_place}
use Rattle.theory_text.specs.Token.{Token, Keyword, Sign, KeywordToken, SignToken, NameToken, NumberToken, PlacedToken, AndWord, OrWord, NotWord, TrueWord, FalseWord, BoolWord, HeadWord, TailWord, NullWord, ElemWord, MemberWord, UnionWord, InterWord, DiffWord, CardWord, HashSign, SameSign, DiffersSign, AtMostSign, AtLeastSign, LessSign, GreaterSign, PlusSign, MinusSign, TimesSign, PercentSign, CaretSign, CommaSign, DotSign, RangeSign, OpenRoundSign, CloseRoundSign, OpenBraceSign, CloseBraceSign}
use Rattle.theory_text.specs.Height.{Nest, nesting, after_token, nest_height, greatest_height}
use Rattle.theory_text.specs.Raw.{RawName, RawExpression, RawNumber, RawUse, RawApply, RawCombine, RawSequence, RawSet, RawRange, RawTruth, RawBooleans, RawConstructor, RawExpressions, raw_expression_and}
use Rattle.theory_text.specs.Grammar.{IsUnaryWord, IsBinaryWord, IsWord, word, IsSign, sign, IsName, name, number, IsAdding, IsMultiplying, IsComparing, IsExpression, IsConjunction, IsNegation, IsComparison, IsSum, IsProduct, IsAtom, AreSums, AreExpressions, AreDotted}
use Rattle.theory_reader.specs.Forms.{Level, Disjunction, Conjunction, Negation, Comparison, Sum, Product, Atom, stronger, OfSign, OfWord, OfName, NameBehind, AtLevel, Behind, ChainOf, Chained, Compared, Operation, OfNegation, OfAtom, Constant, AtomOfWord, AtomOfSign, Bracketed, TwoArguments, Round, Enclosed, Signed, Sequence, OfSet, Members, Range, Dotted, Listed, ExpressionFrom, raw_list}
use Rattle.theory_reader.specs.Programs.{SeenWord, SeenSign, seen, seen_of, first, Standing, Outcome, Here, High, and_then, count_to, pass_from_to, Program, give, refuse, pass, form, ◌>>=◌, ◌>>◌, Oracle, run_to}
use Rattle.theory_reader.specs.Reader.{is_sign, is_word, comparison_of, operator_at, name_at, name_from, expression, chained_by, compared_by, is_name, unary_word, binary_word, atom_by, atom_of_word_by, constant, atom_of_sign, behind_name, enclosed_from_name, characters, denied, dotted_by, listed_by, no_items, some_items, no_members, members_from, body}
use Rattle.theory_reader.specs.Refused.{GoesOn}
use Rattle.theory_reader.proofs.Local.{at}
use Rattle.theory_reader.proofs.Signs.{sign_is_seen, word_is_seen}

abbrev pub Tokens : Type 0
Tokens = List PlacedToken

abbrev pub Says : {A : Type 0} → (Tokens → A → Type 0) → Tokens → Outcome A → Type 0
Says Is ts (Ok p) = (a : Tokens) × (ts ≡ a ++ p.1.left) × Is a p.0
Says Is ts (Err e) = (a : Tokens) × (ts ≡ a ++ e.1) × GoesOn Is a

-- A part is read behind the front, and then the rest. Whatever the part is, tokens behind it make the whole.
pub says_then : {A B : Type 0} (IsA : Tokens → A → Type 0) (IsB : Tokens → B → Type 0) (front us : Tokens) (o : Outcome A) (f : A → Standing → Outcome B) → Says IsA us o →
    ((x : A) (c : Tokens) → IsA c x → GoesOn IsB (front ++ c)) → ((x : A) (a : Tokens) (q : Standing) → IsA a x → Says IsB ((front ++ a) ++ q.left) (f x q)) → Says IsB (front ++ us) (and_then o f)
says_then IsA IsB front us (Ok p) f (a, e, h) after rest = subst (λ z. Says IsB z (f p.0 p.1)) (append_assoc front a p.1.left ∙ ap (λ z. front ++ z) (sym e)) (rest p.0 a p.1 h)
says_then IsA IsB front us (Err q) f (a, e, (more, x, h)) after rest =
    let (d, y, k) = after x (a ++ more) h in (
      front ++ a,
      ap (λ z. front ++ z) e ∙ sym (append_assoc front a q.1),
      (
        more ++ d,
        y,
        subst (λ z. IsB z y) (ap (λ z. z ++ d) (sym (append_assoc front a more)) ∙ append_assoc (front ++ a) more d) k,
      ),
    )

-- the last part
pub says_last : {A B : Type 0} (IsA : Tokens → A → Type 0) (IsB : Tokens → B → Type 0) (g : A → B) (front us : Tokens) (o : Outcome A) → Says IsA us o → ((x : A) (c : Tokens) → IsA c x → IsB (front ++ c) (g x)) →
    Says IsB (front ++ us) (and_then o (λ x q. Ok (g x, q)))
says_last IsA IsB g front us o h last =
    says_then IsA IsB front us o (λ x q. Ok (g x, q)) h (λ x c k. ([], g x, subst (λ z. IsB z (g x)) (sym (append-nil (front ++ c))) (last x c k))) (λ x a q k. (front ++ a, refl, last x a k))

-- a token is passed, and the next one is counted
pub counted_by : {B : Type 0} (IsB : Tokens → B → Type 0) (c : Bool) (front ts : Tokens) (q : Standing) (f : Standing → Outcome B) → GoesOn IsB front → Says IsB (front ++ ts) (f q) →
    Says IsB (front ++ ts) (and_then (cond c (Err (High, ts)) (Ok (tt {0}, q))) (λ _. f))
counted_by IsB true front ts q f go h = (front, refl, go)
counted_by IsB false front ts q f go h = h

pub counted_says : {B : Type 0} (IsB : Tokens → B → Type 0) (limited : Bool) (front ts : Tokens) (n : Nest) (f : Standing → Outcome B) → GoesOn IsB front → ((q : Standing) → q.left ≡ ts → Says IsB (front ++ ts) (f q)) →
    Says IsB (front ++ ts) (and_then (count_to limited n ts) (λ _. f))
counted_says IsB limited front [] n f go rest = rest (at [] n) refl
counted_says IsB limited front (t ∷ ts) n f go rest = counted_by IsB (limited && nat_lt greatest_height (nest_height (after_token (nesting t.token) n))) front (t ∷ ts) (at (t ∷ ts) (after_token (nesting t.token) n)) f go (rest (at (t ∷ ts) (after_token (nesting t.token) n)) refl)

pub passed_says : {B : Type 0} (IsB : Tokens → B → Type 0) (limited : Bool) (front : Tokens) (t : PlacedToken) (ts : Tokens) (n : Nest) (f : Standing → Outcome B) → GoesOn IsB (front ++ t ∷ []) → ((q : Standing) → q.left ≡ ts → Says IsB ((front ++ t ∷ []) ++ ts) (f q)) →
    Says IsB (front ++ t ∷ ts) (and_then (pass_from_to limited (t ∷ ts) n) (λ _. f))
passed_says IsB limited front t ts n f go rest =
    subst (λ z. Says IsB z (and_then (count_to limited n ts) (λ _. f))) (append_assoc front (t ∷ []) ts) (counted_says IsB limited (front ++ t ∷ []) ts n f go rest)

-- THE FORMS

abbrev pub IsAt : Level → Tokens → RawExpression → Type 0
IsAt Disjunction = IsExpression
IsAt Conjunction = IsConjunction
IsAt Negation = IsNegation
IsAt Comparison = IsComparison
IsAt Sum = IsSum
IsAt Product = IsProduct
IsAt Atom = IsAtom

abbrev pub Pair : {X : Type 0} → (Tokens → Type 0) → (Tokens → X → Type 0) → Tokens → X → Type 0
Pair Is Has ts x = (a : Tokens) × (b : Tokens) × (ts ≡ a ++ b) × Is a × Has b x

pub placed_sign : Sign → PlacedToken
placed_sign s = record { token = SignToken s; place = first_place; from = 0; to = 0 }

unfoldable pub placed_word : Keyword → PlacedToken
placed_word k = record { token = KeywordToken k; place = first_place; from = 0; to = 0 }

pub placed_number : PlacedToken
placed_number = record { token = NumberToken 0; place = first_place; from = 0; to = 0 }

pub placed_name : PlacedToken
placed_name = record { token = NameToken []; place = first_place; from = 0; to = 0 }

pub a_name : IsName (placed_name ∷ []) (record { spelling = []; place = first_place })
unfolding placed_name
a_name = name placed_name [] refl

pub a_sign : (s : Sign) → IsSign s (placed_sign s ∷ [])
unfolding placed_sign
a_sign s = sign (placed_sign s) refl

pub a_word : (k : Keyword) → IsWord k (placed_word k ∷ [])
unfolding placed_word
a_word k = word (placed_word k) refl

pub zero_atom : IsAtom (placed_number ∷ []) (RawNumber 0)
unfolding placed_number
zero_atom = IsAtom.number (number placed_number 0 refl)

-- an atom is an expression of each level
pub at_each : (l : Level) (ts : Tokens) (e : RawExpression) → IsAtom ts e → IsAt l ts e
at_each Atom ts e h = h
at_each Product ts e h = IsProduct.atom h
at_each Sum ts e h = IsSum.product (IsProduct.atom h)
at_each Comparison ts e h = IsComparison.sum (IsSum.product (IsProduct.atom h))
at_each Negation ts e h = IsNegation.comparison (IsComparison.sum (IsSum.product (IsProduct.atom h)))
at_each Conjunction ts e h = IsConjunction.negation (IsNegation.comparison (IsComparison.sum (IsSum.product (IsProduct.atom h))))
at_each Disjunction ts e h = IsExpression.conjunction (IsConjunction.negation (IsNegation.comparison (IsComparison.sum (IsSum.product (IsProduct.atom h)))))

-- an operand is an expression of its operators' level
pub up : (l : Level) (ts : Tokens) (e : RawExpression) → IsAt (stronger l) ts e → IsAt l ts e
up Atom ts e h = h
up Product ts e h = IsProduct.atom h
up Sum ts e h = IsSum.product h
up Comparison ts e h = IsComparison.sum h
up Negation ts e h = IsNegation.comparison h
up Conjunction ts e h = IsConjunction.negation h
up Disjunction ts e h = IsExpression.conjunction h

-- what an oracle says of the forms that these forms are made of
abbrev pub SaysSigns : Oracle → Type 0
SaysSigns o = (s : Sign) (q : Standing) → Says (λ ts _. IsSign s ts) q.left (o (OfSign s) q)

abbrev pub SaysWords : Oracle → Type 0
SaysWords o = (k : Keyword) (q : Standing) → Says (λ ts _. IsWord k ts) q.left (o (OfWord k) q)

abbrev pub SaysLevels : Oracle → Type 0
SaysLevels o = (l : Level) (q : Standing) → Says (IsAt l) q.left (o (AtLevel l) q)

abbrev pub Extends : Level → RawExpression → Tokens → RawExpression → Type 0
Extends l e ts x = (a : Tokens) → IsAt l a e → IsAt l (a ++ ts) x

abbrev pub SaysChains : Oracle → Type 0
SaysChains o = (l : Level) (e : RawExpression) (q : Standing) → Says (Extends l e) q.left (o (Chained l e) q)

-- a sign is read
pub seen_sign : (k : Token) (s : Sign) → Some (seen k) ≡ Some (SeenSign s) → k ≡ SignToken s
seen_sign (SignToken u) s e = let same : u ≡ s = cc e in ap SignToken same
seen_sign (KeywordToken w) s e = absurd (cc e)
seen_sign (NameToken cs) s e = absurd (cc e)
seen_sign (NumberToken v) s e = absurd (cc e)

pub sign_by : (limited : Bool) (o : Oracle) (s : Sign) (ts : Tokens) (n : Nest) (b : Bool) → is_sign s (option_map seen_of (first ts)) ≡ b → Says (λ us _. IsSign s us) ts (run_to limited o (cond b (pass (give (tt {0}))) refuse) (at ts n))
sign_by limited o s ts n false e = ([], refl, (placed_sign s ∷ [], tt {0}, a_sign s))
sign_by limited o s [] n true e = let gone = sign_is_seen s None e in absurd (cc gone)
sign_by limited o s (t ∷ ts) n true e =
    let is : IsSign s (t ∷ []) = sign t (seen_sign t.token s (sign_is_seen s (Some (seen t.token)) e)) in
    passed_says (λ us _. IsSign s us) limited [] t ts n (run_to limited o (give (tt {0}))) ([], tt {0}, is) (λ q same. (t ∷ [], ap (λ z. t ∷ z) (sym same), is))

pub says_sign : (limited : Bool) (o : Oracle) (s : Sign) (q : Standing) → Says (λ ts _. IsSign s ts) q.left (run_to limited o (body (OfSign s)) q)
unfolding body
says_sign limited o s q = sign_by limited o s q.left q.nest (is_sign s (option_map seen_of (first q.left))) refl

pub says_behind : (limited : Bool) (o : Oracle) (s : Sign) (l : Level) → SaysSigns o → SaysLevels o → (q : Standing) → Says (Pair (IsSign s) (IsAt l)) q.left (run_to limited o (body (Behind s l)) q)
unfolding body
says_behind limited o s l signs levels q =
    says_then (λ ts _. IsSign s ts) (Pair (IsSign s) (IsAt l)) [] q.left (o (OfSign s) q) (λ _. run_to limited o (form (AtLevel l))) (signs s q)
    (λ x c h. (placed_number ∷ [], RawNumber 0, (c, placed_number ∷ [], refl, h, at_each l (placed_number ∷ []) (RawNumber 0) zero_atom)))
    (λ x a p h. says_last (IsAt l) (Pair (IsSign s) (IsAt l)) (λ e. e) a p.left (o (AtLevel l) p) (levels l p) (λ e b k. (a, b, refl, h, k)))

-- CHAINS

abbrev pub OperatesWith : PlacedToken → Binary → RawExpression → Level → Tokens → RawExpression → Type 0
OperatesWith t o e l ts x = (b : Tokens) × (f : RawExpression) × (ts ≡ t ∷ b) × IsAt l b f × (x ≡ RawCombine o e f)

abbrev pub SaysOperations : Oracle → Type 0
SaysOperations u = (o : Binary) (e : RawExpression) (l : Level) (t : PlacedToken) (ts : Tokens) (n : Nest) → Says (OperatesWith t o e l) (t ∷ ts) (u (Operation o e l) (at (t ∷ ts) n))

pub says_operation : (limited : Bool) (u : Oracle) → SaysLevels u → (o : Binary) (e : RawExpression) (l : Level) (t : PlacedToken) (ts : Tokens) (n : Nest) →
    Says (OperatesWith t o e l) (t ∷ ts) (run_to limited u (body (Operation o e l)) (at (t ∷ ts) n))
unfolding body
says_operation limited u levels o e l t ts n =
    passed_says (OperatesWith t o e l) limited [] t ts n (λ q. and_then (u (AtLevel l) q) (λ f p. Ok (RawCombine o e f, p)))
    (placed_number ∷ [], RawCombine o e (RawNumber 0), (placed_number ∷ [], RawNumber 0, refl, at_each l (placed_number ∷ []) (RawNumber 0) zero_atom, refl))
    (λ q same. subst (λ z. Says (OperatesWith t o e l) (t ∷ z) (and_then (u (AtLevel l) q) (λ f p. Ok (RawCombine o e f, p)))) same
    (says_last (IsAt l) (OperatesWith t o e l) (λ f. RawCombine o e f) (t ∷ []) q.left (u (AtLevel l) q) (levels l q) (λ f b k. (b, f, refl, k, refl))))

-- a token that is an operator of this level, and what it makes of two operands
pub operator_by : (l : Level) (t : PlacedToken) (k : Token) → t.token ≡ k → (o : Binary) (a b : Tokens) (e f : RawExpression) → operator_at l (Some (seen k)) ≡ Some o → IsAt l a e → IsAt (stronger l) b f → IsAt l (a ++ t ∷ b) (RawCombine o e f)
operator_by Disjunction t (KeywordToken OrWord) is o a b e f op h k = let same : Or ≡ o = cc op in subst (λ z. IsExpression (a ++ t ∷ b) (RawCombine z e f)) same (subst (λ z. IsExpression z (RawCombine Or e f)) (append_assoc a (t ∷ []) b) (IsExpression.or h (word t is) k))
operator_by Conjunction t (KeywordToken AndWord) is o a b e f op h k = let same : And ≡ o = cc op in subst (λ z. IsConjunction (a ++ t ∷ b) (RawCombine z e f)) same (subst (λ z. IsConjunction z (RawCombine And e f)) (append_assoc a (t ∷ []) b) (IsConjunction.and h (word t is) k))
operator_by Sum t (SignToken PlusSign) is o a b e f op h k = let same : Add ≡ o = cc op in subst (λ z. IsSum (a ++ t ∷ b) (RawCombine z e f)) same (subst (λ z. IsSum z (RawCombine Add e f)) (append_assoc a (t ∷ []) b) (IsSum.add h (IsAdding.plus (sign t is)) k))
operator_by Sum t (SignToken MinusSign) is o a b e f op h k = let same : Subtract ≡ o = cc op in subst (λ z. IsSum (a ++ t ∷ b) (RawCombine z e f)) same (subst (λ z. IsSum z (RawCombine Subtract e f)) (append_assoc a (t ∷ []) b) (IsSum.add h (IsAdding.minus (sign t is)) k))
operator_by Sum t (SignToken CaretSign) is o a b e f op h k = let same : Concatenate ≡ o = cc op in subst (λ z. IsSum (a ++ t ∷ b) (RawCombine z e f)) same (subst (λ z. IsSum z (RawCombine Concatenate e f)) (append_assoc a (t ∷ []) b) (IsSum.add h (IsAdding.caret (sign t is)) k))
operator_by Product t (SignToken TimesSign) is o a b e f op h k = let same : Multiply ≡ o = cc op in subst (λ z. IsProduct (a ++ t ∷ b) (RawCombine z e f)) same (subst (λ z. IsProduct z (RawCombine Multiply e f)) (append_assoc a (t ∷ []) b) (IsProduct.multiply h (IsMultiplying.times (sign t is)) k))
operator_by Product t (SignToken PercentSign) is o a b e f op h k = let same : Modulus ≡ o = cc op in subst (λ z. IsProduct (a ++ t ∷ b) (RawCombine z e f)) same (subst (λ z. IsProduct z (RawCombine Modulus e f)) (append_assoc a (t ∷ []) b) (IsProduct.multiply h (IsMultiplying.percent (sign t is)) k))
operator_by _ t k is o a b e f op h i = absurd (cc op)

pub operator_makes : (l : Level) (t : PlacedToken) (o : Binary) (a b : Tokens) (e f : RawExpression) → operator_at l (Some (seen t.token)) ≡ Some o → IsAt l a e → IsAt (stronger l) b f → IsAt l (a ++ t ∷ b) (RawCombine o e f)
operator_makes l t o a b e f is h k = operator_by l t t.token refl o a b e f is h k

pub longer : (l : Level) (t : PlacedToken) (o : Binary) (a c : Tokens) (e x : RawExpression) → operator_at l (Some (seen t.token)) ≡ Some o → IsAt l a e → OperatesWith t o e (stronger l) c x → IsAt l (a ++ c) x
longer l t o a c e x is h (b, f, split, k, made) = subst (λ z. IsAt l (a ++ z) x) (sym split) (subst (λ z. IsAt l (a ++ t ∷ b) z) (sym made) (operator_makes l t o a b e f is h k))

pub nothing_operates : (l : Level) (o : Binary) → operator_at l None ≡ Some o → ⊥
nothing_operates Disjunction o e = absurd (cc e)
nothing_operates Conjunction o e = absurd (cc e)
nothing_operates Sum o e = absurd (cc e)
nothing_operates Product o e = absurd (cc e)
nothing_operates _ o e = absurd (cc e)

pub chained_from : (limited : Bool) (u : Oracle) (l : Level) (e : RawExpression) → SaysOperations u → SaysChains u → (ts : Tokens) (n : Nest) (x : Option Binary) → operator_at l (option_map seen_of (first ts)) ≡ x →
    Says (Extends l e) ts (run_to limited u (chained_by l e x) (at ts n))
chained_from limited u l e operations chains ts n None is = ([], refl, λ a h. subst (λ z. IsAt l z e) (sym (append-nil a)) h)
chained_from limited u l e operations chains [] n (Some o) is = absurd (nothing_operates l o is)
chained_from limited u l e operations chains (t ∷ ts) n (Some o) is =
    says_then (OperatesWith t o e (stronger l)) (Extends l e) [] (t ∷ ts) (u (Operation o e (stronger l)) (at (t ∷ ts) n)) (λ x. run_to limited u (form (Chained l x))) (operations o e (stronger l) t ts n)
    (λ x c h. ([], x, λ a k. subst (λ z. IsAt l (a ++ z) x) (sym (append-nil c)) (longer l t o a c e x is k h)))
    (λ x c q h. says_last (Extends l x) (Extends l e) (λ y. y) c q.left (u (Chained l x) q) (chains l x q)
    (λ y b k. λ a i. subst (λ z. IsAt l z y) (append_assoc a c b) (k (a ++ c) (longer l t o a c e x is i h))))

-- COMPARISONS AND NEGATIONS

abbrev pub ExtendsSum : RawExpression → Tokens → RawExpression → Type 0
ExtendsSum e ts x = (a : Tokens) → IsSum a e → IsComparison (a ++ ts) x

pub comparing_by : (t : PlacedToken) (k : Token) → t.token ≡ k → (o : Binary) → comparison_of (Some (seen k)) ≡ Some o → IsComparing (t ∷ []) o
comparing_by t (SignToken SameSign) is o e = let same : Equals ≡ o = cc e in subst (IsComparing (t ∷ [])) same (IsComparing.same (sign t is))
comparing_by t (SignToken DiffersSign) is o e = let same : Differs ≡ o = cc e in subst (IsComparing (t ∷ [])) same (IsComparing.differs (sign t is))
comparing_by t (SignToken LessSign) is o e = let same : LessThan ≡ o = cc e in subst (IsComparing (t ∷ [])) same (IsComparing.less (sign t is))
comparing_by t (SignToken AtMostSign) is o e = let same : AtMost ≡ o = cc e in subst (IsComparing (t ∷ [])) same (IsComparing.at_most (sign t is))
comparing_by t (SignToken GreaterSign) is o e = let same : GreaterThan ≡ o = cc e in subst (IsComparing (t ∷ [])) same (IsComparing.greater (sign t is))
comparing_by t (SignToken AtLeastSign) is o e = let same : AtLeast ≡ o = cc e in subst (IsComparing (t ∷ [])) same (IsComparing.at_least (sign t is))
comparing_by t _ is o e = absurd (cc e)

pub compared_longer : (t : PlacedToken) (o : Binary) (a c : Tokens) (e x : RawExpression) → comparison_of (Some (seen t.token)) ≡ Some o → IsSum a e → OperatesWith t o e Sum c x → IsComparison (a ++ c) x
compared_longer t o a c e x is h (b, f, split, k, made) =
    subst (λ z. IsComparison (a ++ z) x) (sym split) (subst (λ z. IsComparison (a ++ t ∷ b) z) (sym made)
    (subst (λ z. IsComparison z (RawCombine o e f)) (append_assoc a (t ∷ []) b) (IsComparison.compare h (comparing_by t t.token refl o is) k)))

pub compared_from : (limited : Bool) (u : Oracle) (e : RawExpression) → SaysOperations u → (ts : Tokens) (n : Nest) (x : Option Binary) → comparison_of (option_map seen_of (first ts)) ≡ x →
    Says (ExtendsSum e) ts (run_to limited u (compared_by e x) (at ts n))
compared_from limited u e operations ts n None is = ([], refl, λ a h. subst (λ z. IsComparison z e) (sym (append-nil a)) (IsComparison.sum h))
compared_from limited u e operations [] n (Some o) is = absurd (cc is)
compared_from limited u e operations (t ∷ ts) n (Some o) is =
    says_last (OperatesWith t o e Sum) (ExtendsSum e) (λ x. x) [] (t ∷ ts) (u (Operation o e Sum) (at (t ∷ ts) n)) (operations o e Sum t ts n) (λ x c h. λ a k. compared_longer t o a c e x is k h)

-- BRACKETS

abbrev pub Brackets : Tokens → RawExpression → Type 0
Brackets ts x = (a : Tokens) × (b : Tokens) × (c : Tokens) × (ts ≡ (a ++ b) ++ c) × IsSign OpenRoundSign a × IsExpression b x × IsSign CloseRoundSign c

abbrev pub SaysBehind : Oracle → Type 0
SaysBehind u = (s : Sign) (l : Level) (q : Standing) → Says (Pair (IsSign s) (IsAt l)) q.left (u (Behind s l) q)

pub says_bracketed : (limited : Bool) (u : Oracle) → SaysSigns u → SaysBehind u → (q : Standing) → Says Brackets q.left (run_to limited u (body Bracketed) q)
unfolding body
says_bracketed limited u signs behinds q =
    says_then (Pair (IsSign OpenRoundSign) IsExpression) Brackets [] q.left (u (Behind OpenRoundSign Disjunction) q) (λ x. run_to limited u (form (OfSign CloseRoundSign) >> give x)) (behinds OpenRoundSign Disjunction q)
    (λ x c (a, b, e, k, h). (placed_sign CloseRoundSign ∷ [], x, (a, b, placed_sign CloseRoundSign ∷ [], ap (λ z. z ++ placed_sign CloseRoundSign ∷ []) e, k, h, a_sign CloseRoundSign)))
    (λ x c p (a, b, e, k, h). says_last (λ ts _. IsSign CloseRoundSign ts) Brackets (λ _. x) c p.left (u (OfSign CloseRoundSign) p) (signs CloseRoundSign p) (λ _ d l. (a, b, d, ap (λ z. z ++ d) e, k, h, l)))

-- two expressions in brackets
abbrev pub TwoBrackets : Tokens → RawExpression × RawExpression → Type 0
TwoBrackets ts p = (a : Tokens) × (b : Tokens) × (c : Tokens) × (d : Tokens) × (y : Tokens) × (ts ≡ (((a ++ b) ++ c) ++ d) ++ y) × IsSign OpenRoundSign a × IsExpression b p.0 × IsSign CommaSign c × IsExpression d p.1 × IsSign CloseRoundSign y

pub zero_expression : IsExpression (placed_number ∷ []) (RawNumber 0)
zero_expression = at_each Disjunction (placed_number ∷ []) (RawNumber 0) zero_atom

-- three more tokens, one at a time
pub three_more : (x : Tokens) (u v w : PlacedToken) → x ++ u ∷ v ∷ w ∷ [] ≡ ((x ++ u ∷ []) ++ v ∷ []) ++ w ∷ []
three_more x u v w = sym (append_assoc (x ++ u ∷ []) (v ∷ []) (w ∷ []) ∙ append_assoc x (u ∷ []) (v ∷ w ∷ []))

pub says_two : (limited : Bool) (u : Oracle) → SaysSigns u → SaysBehind u → (q : Standing) → Says TwoBrackets q.left (run_to limited u (body TwoArguments) q)
unfolding body
says_two limited u signs behinds q =
    says_then (Pair (IsSign OpenRoundSign) IsExpression) TwoBrackets [] q.left (u (Behind OpenRoundSign Disjunction) q)
    (λ x. run_to limited u (form (Behind CommaSign Disjunction) >>= λ y. (form (OfSign CloseRoundSign) >> give (x, y)))) (behinds OpenRoundSign Disjunction q)
    (λ x c (a, b, e, k, h). (
      placed_sign CommaSign ∷ placed_number ∷ placed_sign CloseRoundSign ∷ [],
      (x, RawNumber 0),
      (
        a,
        b,
        placed_sign CommaSign ∷ [],
        placed_number ∷ [],
        placed_sign CloseRoundSign ∷ [],
        ap (λ z. z ++ placed_sign CommaSign ∷ placed_number ∷ placed_sign CloseRoundSign ∷ []) e ∙ three_more (a ++ b) (placed_sign CommaSign) placed_number (placed_sign CloseRoundSign),
        k,
        h,
        a_sign CommaSign,
        zero_expression,
        a_sign CloseRoundSign,
      ),
    ))
    (λ x c p (a, b, e, k, h). says_then (Pair (IsSign CommaSign) IsExpression) TwoBrackets c p.left (u (Behind CommaSign Disjunction) p) (λ y. run_to limited u (form (OfSign CloseRoundSign) >> give (x, y))) (behinds CommaSign Disjunction p)
    (λ y d (f, g, i, l, m). (
      placed_sign CloseRoundSign ∷ [],
      (x, y),
      (
        a,
        b,
        f,
        g,
        placed_sign CloseRoundSign ∷ [],
        ap (λ z. z ++ placed_sign CloseRoundSign ∷ []) (ap (λ z. c ++ z) i ∙ ap (λ z. z ++ (f ++ g)) e ∙ sym (append_assoc (a ++ b) f g)),
        k,
        h,
        l,
        m,
        a_sign CloseRoundSign,
      ),
    ))
    (λ y d o (f, g, i, l, m). says_last (λ ts _. IsSign CloseRoundSign ts) TwoBrackets (λ _. (x, y)) (c ++ d) o.left (u (OfSign CloseRoundSign) o) (signs CloseRoundSign o) (λ _ w n.
    (a, b, f, g, w, ap (λ z. z ++ w) (ap (λ z. c ++ z) i ∙ ap (λ z. z ++ (f ++ g)) e ∙ sym (append_assoc (a ++ b) f g)), k, h, l, m, n))))

-- ATOMS OF A SIGN

abbrev pub OnAtom : Sign → Unary → Tokens → RawExpression → Type 0
OnAtom s o ts x = (e : RawExpression) × Pair (IsSign s) IsAtom ts e × (x ≡ RawApply o e)

pub says_signed : (limited : Bool) (u : Oracle) → SaysBehind u → (s : Sign) (o : Unary) (q : Standing) → Says (OnAtom s o) q.left (run_to limited u (body (Signed s o)) q)
unfolding body
says_signed limited u behinds s o q =
    says_last (Pair (IsSign s) IsAtom) (OnAtom s o) (λ e. RawApply o e) [] q.left (u (Behind s Atom) q) (behinds s Atom q) (λ e c h. (e, h, refl))

-- LISTS

pub data Tail (l : Level) : Tokens → List RawExpression → Type 0 where
  no_tail : Tail l [] []
  more_tail : (a b c : Tokens) (e : RawExpression) (es : List RawExpression) → IsSign CommaSign a → IsAt l b e → Tail l c es → Tail l (a ++ b ++ c) (e ∷ es)

abbrev pub Adds : Level → List RawExpression → Tokens → List RawExpression → Type 0
Adds l es ts xs = (ys : List RawExpression) × (xs ≡ es ++ ys) × Tail l ts ys

abbrev pub SaysLists : Oracle → Type 0
SaysLists u = (l : Level) (es : List RawExpression) (q : Standing) → Says (Adds l es) q.left (u (Listed l es) q)

pub listed_from : (limited : Bool) (u : Oracle) (l : Level) (es : List RawExpression) → SaysBehind u → SaysLists u → (ts : Tokens) (n : Nest) (b : Bool) → Says (Adds l es) ts (run_to limited u (listed_by l es b) (at ts n))
listed_from limited u l es behinds lists ts n false = ([], refl, ([], sym (append-nil es), no_tail))
listed_from limited u l es behinds lists ts n true =
    says_then (Pair (IsSign CommaSign) (IsAt l)) (Adds l es) [] ts (u (Behind CommaSign l) (at ts n)) (λ x. run_to limited u (form (Listed l (es ++ x ∷ [])))) (behinds CommaSign l (at ts n))
    (λ x c (a, b, e, k, h). ([], es ++ x ∷ [], (x ∷ [], refl, subst (λ z. Tail l z (x ∷ [])) (ap (λ z. z ++ []) (sym e)) (more_tail a b [] x [] k h no_tail))))
    (λ x c p (a, b, e, k, h). says_last (Adds l (es ++ x ∷ [])) (Adds l es) (λ xs. xs) c p.left (u (Listed l (es ++ x ∷ [])) p) (lists l (es ++ x ∷ []) p)
    (λ xs d (ys, is, t). (x ∷ ys, is ∙ append_assoc es (x ∷ []) ys, subst (λ z. Tail l (z ++ d) (x ∷ ys)) (sym e) (more_tail a b d x ys k h t))))

pub cond_says : {B : Type 0} (IsB : Tokens → B → Type 0) (ts : Tokens) (limited : Bool) (u : Oracle) (c : Bool) (p q : Program B) (s : Standing) → Says IsB ts (run_to limited u p s) → Says IsB ts (run_to limited u q s) → Says IsB ts (run_to limited u (cond c p q) s)
cond_says IsB ts limited u true p q s h k = h
cond_says IsB ts limited u false p q s h k = k

-- what is behind the first item makes a list of them
pub sums_of : {c : Tokens} {ys : List RawExpression} → Tail Sum c ys → (a : Tokens) (e : RawExpression) → IsSum a e → AreSums (a ++ c) (raw_list (e ∷ ys))
sums_of no_tail a e h = subst (λ z. AreSums z (raw_list (e ∷ []))) (sym (append-nil a)) (AreSums.one_sum h)
sums_of (more_tail b d c f ys k i t) a e h =
    subst (λ z. AreSums z (raw_list (e ∷ f ∷ ys))) (append_assoc a b (d ++ c) ∙ ap (λ z. a ++ z) (sym (append_assoc b d c))) (AreSums.more_sums h k (sums_of t d f i))

pub expressions_of : {c : Tokens} {ys : List RawExpression} → Tail Disjunction c ys → (a : Tokens) (e : RawExpression) → IsExpression a e → AreExpressions (a ++ c) (raw_list (e ∷ ys))
expressions_of no_tail a e h = subst (λ z. AreExpressions z (raw_list (e ∷ []))) (sym (append-nil a)) (AreExpressions.one_expression h)
expressions_of (more_tail b d c f ys k i t) a e h =
    subst (λ z. AreExpressions z (raw_list (e ∷ f ∷ ys))) (append_assoc a b (d ++ c) ∙ ap (λ z. a ++ z) (sym (append_assoc b d c))) (AreExpressions.more_expressions h k (expressions_of t d f i))

-- SEQUENCES

pub sequence_of : (a b d c : Tokens) (e : RawExpression) (ys : List RawExpression) → IsSign LessSign a → IsSum b e → Tail Sum d ys → IsSign GreaterSign c → IsAtom (((a ++ b) ++ d) ++ c) (RawSequence (raw_list (e ∷ ys)))
sequence_of a b d c e ys k h t l = subst (λ z. IsAtom (z ++ c) (RawSequence (raw_list (e ∷ ys)))) (sym (append_assoc a b d)) (IsAtom.items k (sums_of t b e h) l)

pub says_sequence : (limited : Bool) (u : Oracle) → SaysSigns u → SaysLevels u → SaysLists u → (q : Standing) → Says IsAtom q.left (run_to limited u (body Sequence) q)
unfolding body
says_sequence limited u signs levels lists q =
    says_then (λ ts _. IsSign LessSign ts) IsAtom [] q.left (u (OfSign LessSign) q) (λ _ p. run_to limited u (cond (is_sign GreaterSign (option_map seen_of (first p.left))) no_items some_items) p) (signs LessSign q)
    (λ _ a k. (placed_sign GreaterSign ∷ [], RawSequence (raw_list []), IsAtom.no_items k (a_sign GreaterSign)))
    (λ _ a p k. cond_says IsAtom (a ++ p.left) limited u (is_sign GreaterSign (option_map seen_of (first p.left))) no_items some_items p
    (says_last (λ ts _. IsSign GreaterSign ts) IsAtom (λ _. RawSequence (raw_list [])) a p.left (u (OfSign GreaterSign) p) (signs GreaterSign p) (λ _ c l. IsAtom.no_items k l))
    (says_then IsSum IsAtom a p.left (u (AtLevel Sum) p) (λ e. run_to limited u (form (Listed Sum (e ∷ [])) >>= λ es. (form (OfSign GreaterSign) >> give (RawSequence (raw_list es))))) (levels Sum p)
    (λ e b h. (
      placed_sign GreaterSign ∷ [],
      RawSequence (raw_list (e ∷ [])),
      subst (λ z. IsAtom (z ++ placed_sign GreaterSign ∷ []) (RawSequence (raw_list (e ∷ [])))) (append-nil (a ++ b))
          (sequence_of a b [] (placed_sign GreaterSign ∷ []) e [] k h no_tail (a_sign GreaterSign)),
    ))
    (λ e b o h. says_then (Adds Sum (e ∷ [])) IsAtom (a ++ b) o.left (u (Listed Sum (e ∷ [])) o) (λ es. run_to limited u (form (OfSign GreaterSign) >> give (RawSequence (raw_list es)))) (lists Sum (e ∷ []) o)
    (λ es d (ys, is, t). (placed_sign GreaterSign ∷ [], RawSequence (raw_list (e ∷ ys)), sequence_of a b d (placed_sign GreaterSign ∷ []) e ys k h t (a_sign GreaterSign)))
    (λ es d m (ys, is, t). says_last (λ ts _. IsSign GreaterSign ts) IsAtom (λ _. RawSequence (raw_list es)) ((a ++ b) ++ d) m.left (u (OfSign GreaterSign) m) (signs GreaterSign m)
    (λ _ c l. subst (λ z. IsAtom (((a ++ b) ++ d) ++ c) (RawSequence (raw_list z))) (sym is) (sequence_of a b d c e ys k h t l))))))

-- SETS

abbrev pub OnBrace : Tokens → RawExpression → Type 0
OnBrace ts x = (a : Tokens) → IsSign OpenBraceSign a → IsAtom (a ++ ts) x

abbrev pub OnMember : RawExpression → Tokens → RawExpression → Type 0
OnMember e ts x = (a b : Tokens) → IsSign OpenBraceSign a → IsExpression b e → IsAtom ((a ++ b) ++ ts) x

pub set_of : (a b d c : Tokens) (e : RawExpression) (ys : List RawExpression) → IsSign OpenBraceSign a → IsExpression b e → Tail Disjunction d ys → IsSign CloseBraceSign c → IsAtom (a ++ ((b ++ d) ++ c)) (RawSet (raw_list (e ∷ ys)))
set_of a b d c e ys k h t l = subst (λ z. IsAtom z (RawSet (raw_list (e ∷ ys)))) (append_assoc a (b ++ d) c) (IsAtom.members k (expressions_of t b e h) l)

pub range_of : (a b c m d y : Tokens) (e f : RawExpression) → c ≡ m ++ d → IsSign OpenBraceSign a → IsExpression b e → IsSign RangeSign m → IsExpression d f → IsSign CloseBraceSign y → IsAtom ((a ++ b) ++ (c ++ y)) (RawRange e f)
range_of a b c m d y e f is i j k h l =
    subst (λ z. IsAtom z (RawRange e f)) (ap (λ z. z ++ y) (append_assoc (a ++ b) m d ∙ ap (λ z. (a ++ b) ++ z) (sym is)) ∙ append_assoc (a ++ b) c y) (IsAtom.range i j k h l)

pub says_range : (limited : Bool) (u : Oracle) → SaysSigns u → SaysBehind u → (e : RawExpression) (q : Standing) → Says (OnMember e) q.left (run_to limited u (body (Range e)) q)
unfolding body
says_range limited u signs behinds e q =
    says_then (Pair (IsSign RangeSign) IsExpression) (OnMember e) [] q.left (u (Behind RangeSign Disjunction) q) (λ f. run_to limited u (form (OfSign CloseBraceSign) >> give (RawRange e f))) (behinds RangeSign Disjunction q)
    (λ f c (m, d, is, k, h). (placed_sign CloseBraceSign ∷ [], RawRange e f, λ a b i j. range_of a b c m d (placed_sign CloseBraceSign ∷ []) e f is i j k h (a_sign CloseBraceSign)))
    (λ f c p (m, d, is, k, h). says_last (λ ts _. IsSign CloseBraceSign ts) (OnMember e) (λ _. RawRange e f) c p.left (u (OfSign CloseBraceSign) p) (signs CloseBraceSign p) (λ _ y l. λ a b i j. range_of a b c m d y e f is i j k h l))

pub says_members : (limited : Bool) (u : Oracle) → SaysSigns u → SaysLevels u → SaysLists u → ((e : RawExpression) (q : Standing) → Says (OnMember e) q.left (u (Range e) q)) → (q : Standing) → Says OnBrace q.left (run_to limited u (body Members) q)
unfolding body
says_members limited u signs levels lists ranges q =
    says_then IsExpression OnBrace [] q.left (u (AtLevel Disjunction) q) (λ e p. run_to limited u (cond (is_sign RangeSign (option_map seen_of (first p.left))) (form (Range e)) (members_from e)) p) (levels Disjunction q)
    (λ e b h. (
      placed_sign CloseBraceSign ∷ [],
      RawSet (raw_list (e ∷ [])),
      λ a k. subst (λ z. IsAtom (a ++ (z ++ placed_sign CloseBraceSign ∷ [])) (RawSet (raw_list (e ∷ [])))) (append-nil b)
          (set_of a b [] (placed_sign CloseBraceSign ∷ []) e [] k h no_tail (a_sign CloseBraceSign)),
    ))
    (λ e b p h. cond_says OnBrace (b ++ p.left) limited u (is_sign RangeSign (option_map seen_of (first p.left))) (form (Range e)) (members_from e) p
    (says_last (OnMember e) OnBrace (λ x. x) b p.left (u (Range e) p) (ranges e p) (λ x c m. λ a k. subst (λ z. IsAtom z x) (append_assoc a b c) (m a b k h)))
    (says_then (Adds Disjunction (e ∷ [])) OnBrace b p.left (u (Listed Disjunction (e ∷ [])) p) (λ es. run_to limited u (form (OfSign CloseBraceSign) >> give (RawSet (raw_list es)))) (lists Disjunction (e ∷ []) p)
    (λ es d (ys, is, t). (placed_sign CloseBraceSign ∷ [], RawSet (raw_list (e ∷ ys)), λ a k. set_of a b d (placed_sign CloseBraceSign ∷ []) e ys k h t (a_sign CloseBraceSign)))
    (λ es d m (ys, is, t). says_last (λ ts _. IsSign CloseBraceSign ts) OnBrace (λ _. RawSet (raw_list es)) (b ++ d) m.left (u (OfSign CloseBraceSign) m) (signs CloseBraceSign m)
    (λ _ c l. λ a k. subst (λ z. IsAtom (a ++ ((b ++ d) ++ c)) (RawSet (raw_list z))) (sym is) (set_of a b d c e ys k h t l)))))

pub says_set : (limited : Bool) (u : Oracle) → SaysSigns u → ((q : Standing) → Says OnBrace q.left (u Members q)) → (q : Standing) → Says IsAtom q.left (run_to limited u (body OfSet) q)
unfolding body
says_set limited u signs members q =
    says_then (λ ts _. IsSign OpenBraceSign ts) IsAtom [] q.left (u (OfSign OpenBraceSign) q) (λ _ p. run_to limited u (cond (is_sign CloseBraceSign (option_map seen_of (first p.left))) no_members (form Members)) p) (signs OpenBraceSign q)
    (λ _ a k. (placed_sign CloseBraceSign ∷ [], RawSet (raw_list []), IsAtom.no_members k (a_sign CloseBraceSign)))
    (λ _ a p k. cond_says IsAtom (a ++ p.left) limited u (is_sign CloseBraceSign (option_map seen_of (first p.left))) no_members (form Members) p
    (says_last (λ ts _. IsSign CloseBraceSign ts) IsAtom (λ _. RawSet (raw_list [])) a p.left (u (OfSign CloseBraceSign) p) (signs CloseBraceSign p) (λ _ c l. IsAtom.no_members k l))
    (says_last OnBrace IsAtom (λ x. x) a p.left (u Members p) (members p) (λ x c m. m a k)))

-- NAMES, AND FIELDS BEHIND THEM

pub name_from_says : (limited : Bool) (u : Oracle) (t : PlacedToken) (ts : Tokens) (n : Nest) (k : Token) → t.token ≡ k → Says IsName (t ∷ ts) (run_to limited u (name_from t (seen k)) (at (t ∷ ts) n))
name_from_says limited u t ts n (NameToken cs) is =
    let v : RawName = record { spelling = characters t.token; place = t.place } in
    let named : IsName (t ∷ []) v = subst (λ k. IsName (t ∷ []) (record { spelling = characters k; place = t.place })) (sym is) (name t cs is) in
    passed_says IsName limited [] t ts n (run_to limited u (give v)) ([], v, named) (λ q same. (t ∷ [], ap (λ z. t ∷ z) (sym same), named))
name_from_says limited u t ts n (SignToken s) is = ([], refl, (placed_name ∷ [], record { spelling = []; place = first_place }, a_name))
name_from_says limited u t ts n (KeywordToken w) is = ([], refl, (placed_name ∷ [], record { spelling = []; place = first_place }, a_name))
name_from_says limited u t ts n (NumberToken v) is = ([], refl, (placed_name ∷ [], record { spelling = []; place = first_place }, a_name))

pub name_at_says : (limited : Bool) (u : Oracle) (ts : Tokens) (n : Nest) → Says IsName ts (run_to limited u (name_at (first ts)) (at ts n))
name_at_says limited u [] n = ([], refl, (placed_name ∷ [], record { spelling = []; place = first_place }, a_name))
name_at_says limited u (t ∷ ts) n = name_from_says limited u t ts n t.token refl

abbrev pub Fields : Tokens → List RawExpression → Tokens → List RawExpression → Type 0
Fields us es ts xs = (ys : List RawExpression) × (xs ≡ es ++ ys) × AreDotted ts (raw_list ys) × (is_sign DotSign (option_map seen_of (first us)) ≡ true → (y : RawExpression) × (zs : List RawExpression) × (ys ≡ y ∷ zs))

abbrev pub SaysDots : Oracle → Type 0
SaysDots u = (es : List RawExpression) (q : Standing) → Says (Fields q.left es) q.left (u (Dotted es) q)

pub not_both : {b : Bool} → b ≡ false → b ≡ true → ⊥
not_both e f = let both = sym e ∙ f in cc both

pub dotted_from : (limited : Bool) (u : Oracle) (es : List RawExpression) → SaysBehind u → SaysDots u → (ts : Tokens) (n : Nest) (b : Bool) → is_sign DotSign (option_map seen_of (first ts)) ≡ b → Says (Fields ts es) ts (run_to limited u (dotted_by es b) (at ts n))
dotted_from limited u es behinds dots ts n false e = ([], refl, ([], sym (append-nil es), AreDotted.no_dotted, λ f. absurd (not_both e f)))
dotted_from limited u es behinds dots ts n true e =
    says_then (Pair (IsSign DotSign) IsAtom) (Fields ts es) [] ts (u (Behind DotSign Atom) (at ts n)) (λ x. run_to limited u (form (Dotted (es ++ x ∷ [])))) (behinds DotSign Atom (at ts n))
    (λ x c (a, b, is, k, h). ([], es ++ x ∷ [], (x ∷ [], refl, subst (λ z. AreDotted z (raw_list (x ∷ []))) (ap (λ z. z ++ []) (sym is)) (AreDotted.dotted k h AreDotted.no_dotted), λ _. (x, [], refl))))
    (λ x c p (a, b, is, k, h). says_last (Fields p.left (es ++ x ∷ [])) (Fields ts es) (λ xs. xs) c p.left (u (Dotted (es ++ x ∷ [])) p) (dots (es ++ x ∷ []) p)
    (λ xs d (ys, same, t, some). (x ∷ ys, same ∙ append_assoc es (x ∷ []) ys, subst (λ z. AreDotted (z ++ d) (raw_list (x ∷ ys))) (sym is) (AreDotted.dotted k h t), λ _. (x, ys, refl))))

-- WHAT IS BEHIND AN ATOM

abbrev pub FromAtom : RawExpression → Tokens → RawExpression → Type 0
FromAtom e ts x = (a : Tokens) → IsAtom a e → IsExpression (a ++ ts) x

pub of_conjunction : {ts : Tokens} {e : RawExpression} → IsConjunction ts e → IsExpression ts e
of_conjunction h = IsExpression.conjunction h

pub of_comparison : {ts : Tokens} {e : RawExpression} → IsComparison ts e → IsExpression ts e
of_comparison h = of_conjunction (IsConjunction.negation (IsNegation.comparison h))

pub of_sum : {ts : Tokens} {e : RawExpression} → IsSum ts e → IsExpression ts e
of_sum h = of_comparison (IsComparison.sum h)

-- one more part behind an atom
pub goes : {e x : RawExpression} (c : Tokens) → FromAtom e c x → GoesOn (FromAtom e) c
goes {x = x} c h = ([], x, λ a k. subst (λ z. IsExpression (a ++ z) x) (sym (append-nil c)) (h a k))

pub conjoined : (a c d f g : Tokens) (e x y z v : RawExpression) → Extends Product e c x → Extends Sum x d y → ExtendsSum y f z → Extends Conjunction z g v → IsAtom a e → IsConjunction (a ++ (((c ++ d) ++ f) ++ g)) v
conjoined a c d f g e x y z v m i j l k =
    let sums : IsSum (a ++ (c ++ d)) y = subst (λ w. IsSum w y) (append_assoc a c d) (i (a ++ c) (IsSum.product (m a (IsProduct.atom k)))) in
    let compares : IsComparison (a ++ ((c ++ d) ++ f)) z = subst (λ w. IsComparison w z) (append_assoc a (c ++ d) f) (j (a ++ (c ++ d)) sums) in
    subst (λ w. IsConjunction w v) (append_assoc a ((c ++ d) ++ f) g) (l (a ++ ((c ++ d) ++ f)) (IsConjunction.negation (IsNegation.comparison compares)))

pub says_from : (limited : Bool) (u : Oracle) → SaysChains u → ((e : RawExpression) (q : Standing) → Says (ExtendsSum e) q.left (u (Compared e) q)) → (e : RawExpression) (q : Standing) → Says (FromAtom e) q.left (run_to limited u (body (ExpressionFrom e)) q)
unfolding body
says_from limited u chains compares e q =
    says_then (Extends Product e) (FromAtom e) [] q.left (u (Chained Product e) q)
    (λ x. run_to limited u (form (Chained Sum x) >>= λ y. (form (Compared y) >>= λ z. (form (Chained Conjunction z) >>= λ v. form (Chained Disjunction v))))) (chains Product e q)
    (λ x c m. goes c (λ a k. of_sum (IsSum.product (m a (IsProduct.atom k)))))
    (λ x c p m. says_then (Extends Sum x) (FromAtom e) c p.left (u (Chained Sum x) p) (λ y. run_to limited u (form (Compared y) >>= λ z. (form (Chained Conjunction z) >>= λ v. form (Chained Disjunction v)))) (chains Sum x p)
    (λ y d i. goes (c ++ d) (λ a k. subst (λ z. IsExpression z y) (append_assoc a c d) (of_sum (i (a ++ c) (IsSum.product (m a (IsProduct.atom k)))))))
    (λ y d o i. says_then (ExtendsSum y) (FromAtom e) (c ++ d) o.left (u (Compared y) o) (λ z. run_to limited u (form (Chained Conjunction z) >>= λ v. form (Chained Disjunction v))) (compares y o)
    (λ z f j. goes ((c ++ d) ++ f) (λ a k. subst (λ w. IsExpression w z) (append_assoc a (c ++ d) f) (of_comparison (j (a ++ (c ++ d)) (subst (λ w. IsSum w y) (append_assoc a c d) (i (a ++ c) (IsSum.product (m a (IsProduct.atom k)))))))))
    (λ z f r j. says_then (Extends Conjunction z) (FromAtom e) ((c ++ d) ++ f) r.left (u (Chained Conjunction z) r) (λ v. run_to limited u (form (Chained Disjunction v))) (chains Conjunction z r)
    (λ v g l. goes (((c ++ d) ++ f) ++ g) (λ a k. of_conjunction (conjoined a c d f g e x y z v m i j l k)))
    (λ v g t l. says_last (Extends Disjunction v) (FromAtom e) (λ w. w) (((c ++ d) ++ f) ++ g) t.left (u (Chained Disjunction v) t) (chains Disjunction v t)
    (λ w b n. λ a k. subst (λ s. IsExpression s w) (append_assoc a (((c ++ d) ++ f) ++ g) b) (n (a ++ (((c ++ d) ++ f) ++ g)) (of_conjunction (conjoined a c d f g e x y z v m i j l k))))))))

-- WHAT IS BETWEEN ROUND BRACKETS

abbrev pub Constructs : Tokens → RawExpression → Type 0
Constructs ts x = (b : Tokens) × (d : Tokens) × (v : RawName) × (y : RawExpression) × (zs : List RawExpression) × (ts ≡ b ++ d) × IsName b v × AreDotted d (raw_list (y ∷ zs)) × (x ≡ RawConstructor v (raw_list (y ∷ zs)))

abbrev pub IsEnclosed : Tokens → RawExpression → Type 0
IsEnclosed ts x = IsExpression ts x ⊎ Constructs ts x

pub shape : (a b c d f : Tokens) → (((a ++ b) ++ c) ++ d) ++ f ≡ a ++ (b ++ ((c ++ d) ++ f))
shape a b c d f = append_assoc ((a ++ b) ++ c) d f ∙ append_assoc (a ++ b) c (d ++ f) ∙ append_assoc a b (c ++ (d ++ f)) ∙ ap (λ z. a ++ (b ++ z)) (sym (append_assoc c d f))

pub constructed_atom : {a b d y : Tokens} {v : RawName} {es : RawExpressions} → AreDotted d es → (e : RawExpression) (fs : RawExpressions) → es ≡ raw_expression_and e fs → IsSign OpenRoundSign a → IsName b v → IsSign CloseRoundSign y →
    IsAtom ((a ++ (b ++ d)) ++ y) (RawConstructor v es)
constructed_atom AreDotted.no_dotted e fs is k n l = absurd (cc is)
constructed_atom {a = a} {b = b} {y = y} {v = v} (AreDotted.dotted {a = c} {b = d} {c = f} {e = g} {es = gs} i j hs) e fs is k n l =
    subst (λ z. IsAtom (z ++ y) (RawConstructor v (raw_expression_and g gs))) (shape a b c d f) (IsAtom.constructed k n i j hs l)

pub round_atom : (a b c : Tokens) (x : RawExpression) → IsSign OpenRoundSign a → IsEnclosed b x → IsSign CloseRoundSign c → IsAtom ((a ++ b) ++ c) x
round_atom a b c x k (inl h) l = IsAtom.bracketed k h l
round_atom a b c x k (inr (n, d, v, y, zs, is, h, hs, made)) l =
    subst (λ z. IsAtom ((a ++ b) ++ c) z) (sym made) (subst (λ z. IsAtom ((a ++ z) ++ c) (RawConstructor v (raw_list (y ∷ zs)))) (sym is) (constructed_atom hs y (raw_list zs) refl k h l))

pub says_round : (limited : Bool) (u : Oracle) → SaysSigns u → ((q : Standing) → Says IsEnclosed q.left (u Enclosed q)) → (q : Standing) → Says IsAtom q.left (run_to limited u (body Round) q)
unfolding body
says_round limited u signs encloses q =
    says_then (λ ts _. IsSign OpenRoundSign ts) IsAtom [] q.left (u (OfSign OpenRoundSign) q) (λ _. run_to limited u (form Enclosed >>= λ x. (form (OfSign CloseRoundSign) >> give x))) (signs OpenRoundSign q)
    (λ _ a k. (
      placed_number ∷ placed_sign CloseRoundSign ∷ [],
      RawNumber 0,
      subst (λ z. IsAtom z (RawNumber 0)) (append_assoc a (placed_number ∷ []) (placed_sign CloseRoundSign ∷ []))
          (IsAtom.bracketed k zero_expression (a_sign CloseRoundSign)),
    ))
    (λ _ a p k. says_then IsEnclosed IsAtom a p.left (u Enclosed p) (λ x. run_to limited u (form (OfSign CloseRoundSign) >> give x)) (encloses p)
    (λ x b h. (placed_sign CloseRoundSign ∷ [], x, round_atom a b (placed_sign CloseRoundSign ∷ []) x k h (a_sign CloseRoundSign)))
    (λ x b o h. says_last (λ ts _. IsSign CloseRoundSign ts) IsAtom (λ _. x) (a ++ b) o.left (u (OfSign CloseRoundSign) o) (signs CloseRoundSign o) (λ _ c l. round_atom a b c x k h l)))

pub behind_name_says : (limited : Bool) (u : Oracle) → SaysDots u → ((e : RawExpression) (q : Standing) → Says (FromAtom e) q.left (u (ExpressionFrom e) q)) → (v : RawName) (b : Tokens) → IsName b v → (p : Standing) (c : Bool) →
    is_sign DotSign (option_map seen_of (first p.left)) ≡ c → Says IsEnclosed (b ++ p.left) (run_to limited u (behind_name v c) p)
behind_name_says limited u dots froms v b h p true e =
    says_last (Fields p.left []) IsEnclosed (λ fs. RawConstructor v (raw_list fs)) b p.left (u (Dotted []) p) (dots [] p) (λ xs d (ys, same, t, some). let (y, zs, is) = some e in
    inr (b, d, v, y, zs, refl, h, subst (λ z. AreDotted d (raw_list z)) is t, ap (λ z. RawConstructor v (raw_list z)) (same ∙ is)))
behind_name_says limited u dots froms v b h p false e =
    says_last (FromAtom (RawUse v)) IsEnclosed (λ x. x) b p.left (u (ExpressionFrom (RawUse v)) p) (froms (RawUse v) p) (λ x d m. inl (m b (IsAtom.name h)))

pub says_enclosed : (limited : Bool) (u : Oracle) → ((q : Standing) → Says IsName q.left (u OfName q)) → SaysLevels u → SaysDots u → ((e : RawExpression) (q : Standing) → Says (FromAtom e) q.left (u (ExpressionFrom e) q)) → (q : Standing) →
    Says IsEnclosed q.left (run_to limited u (body Enclosed) q)
unfolding body
says_enclosed limited u names levels dots froms q =
    cond_says IsEnclosed q.left limited u (is_name (option_map seen_of (first q.left))) enclosed_from_name (form (AtLevel Disjunction)) q
    (says_then IsName IsEnclosed [] q.left (u OfName q) (λ v p. run_to limited u (behind_name v (is_sign DotSign (option_map seen_of (first p.left)))) p) (names q)
    (λ v b h. ([], RawUse v, inl (subst (λ z. IsExpression z (RawUse v)) (sym (append-nil b)) (at_each Disjunction b (RawUse v) (IsAtom.name h)))))
    (λ v b p h. behind_name_says limited u dots froms v b h p (is_sign DotSign (option_map seen_of (first p.left))) refl))
    (says_last IsExpression IsEnclosed (λ x. x) [] q.left (u (AtLevel Disjunction) q) (levels Disjunction q) (λ x b h. inl h))

-- ATOMS OF A WORD

pub unary_makes : (k : Keyword) (o : Unary) (a : Tokens) → unary_word k ≡ Some o → IsWord k a → IsUnaryWord a o
unary_makes HeadWord o a e w = let same : Head ≡ o = cc e in subst (IsUnaryWord a) same (IsUnaryWord.head_word w)
unary_makes TailWord o a e w = let same : pure.Tail ≡ o = cc e in subst (IsUnaryWord a) same (IsUnaryWord.tail_word w)
unary_makes NullWord o a e w = let same : IsNull ≡ o = cc e in subst (IsUnaryWord a) same (IsUnaryWord.null_word w)
unary_makes CardWord o a e w = let same : Card ≡ o = cc e in subst (IsUnaryWord a) same (IsUnaryWord.card_word w)
unary_makes _ o a e w = absurd (cc e)

pub binary_makes : (k : Keyword) (o : Binary) (a : Tokens) → binary_word k ≡ Some o → IsWord k a → IsBinaryWord a o
binary_makes ElemWord o a e w = let same : IsElement ≡ o = cc e in subst (IsBinaryWord a) same (IsBinaryWord.elem_word w)
binary_makes MemberWord o a e w = let same : IsMember ≡ o = cc e in subst (IsBinaryWord a) same (IsBinaryWord.member_word w)
binary_makes UnionWord o a e w = let same : Union ≡ o = cc e in subst (IsBinaryWord a) same (IsBinaryWord.union_word w)
binary_makes InterWord o a e w = let same : Intersection ≡ o = cc e in subst (IsBinaryWord a) same (IsBinaryWord.inter_word w)
binary_makes DiffWord o a e w = let same : Difference ≡ o = cc e in subst (IsBinaryWord a) same (IsBinaryWord.diff_word w)
binary_makes _ o a e w = absurd (cc e)

pub one_atom : (a ts : Tokens) (o : Unary) (x : RawExpression) → IsUnaryWord a o → Brackets ts x → IsAtom (a ++ ts) (RawApply o x)
one_atom a ts o x w (b, c, d, is, k, h, l) =
    subst (λ z. IsAtom z (RawApply o x)) (append_assoc (a ++ b) c d ∙ append_assoc a b (c ++ d) ∙ ap (λ z. a ++ z) (sym (append_assoc b c d) ∙ sym is)) (IsAtom.of_one w k h l)

pub deep : (a b c d f y : Tokens) → ((((a ++ b) ++ c) ++ d) ++ f) ++ y ≡ a ++ ((((b ++ c) ++ d) ++ f) ++ y)
deep a b c d f y = ap (λ z. z ++ y) (ap (λ z. z ++ f) (ap (λ z. z ++ d) (append_assoc a b c) ∙ append_assoc a (b ++ c) d) ∙ append_assoc a ((b ++ c) ++ d) f) ∙ append_assoc a (((b ++ c) ++ d) ++ f) y

pub two_atom : (a ts : Tokens) (o : Binary) (p : RawExpression × RawExpression) → IsBinaryWord a o → TwoBrackets ts p → IsAtom (a ++ ts) (RawCombine o p.0 p.1)
two_atom a ts o p w (b, c, d, f, y, is, k, h, l, i, m) = subst (λ z. IsAtom z (RawCombine o p.0 p.1)) (deep a b c d f y ∙ ap (λ z. a ++ z) (sym is)) (IsAtom.of_two w k h l i m)

pub zero_brackets : Brackets (placed_sign OpenRoundSign ∷ placed_number ∷ placed_sign CloseRoundSign ∷ []) (RawNumber 0)
zero_brackets = (placed_sign OpenRoundSign ∷ [], placed_number ∷ [], placed_sign CloseRoundSign ∷ [], refl, a_sign OpenRoundSign, zero_expression, a_sign CloseRoundSign)

pub zero_two : TwoBrackets (placed_sign OpenRoundSign ∷ placed_number ∷ placed_sign CommaSign ∷ placed_number ∷ placed_sign CloseRoundSign ∷ []) (RawNumber 0, RawNumber 0)
zero_two = (placed_sign OpenRoundSign ∷ [], placed_number ∷ [], placed_sign CommaSign ∷ [], placed_number ∷ [], placed_sign CloseRoundSign ∷ [], refl, a_sign OpenRoundSign, zero_expression, a_sign CommaSign, zero_expression, a_sign CloseRoundSign)

pub atom_of_word_says : (limited : Bool) (u : Oracle) → SaysWords u → ((q : Standing) → Says Brackets q.left (u Bracketed q)) → ((q : Standing) → Says TwoBrackets q.left (u TwoArguments q)) → ((k : Keyword) (q : Standing) → Says IsAtom q.left (u (Constant k) q)) →
    (k : Keyword) (q : Standing) (o : Option Unary) (b : Option Binary) → unary_word k ≡ o → binary_word k ≡ b → Says IsAtom q.left (run_to limited u (atom_of_word_by k o b) q)
atom_of_word_says limited u words ones twos constants k q (Some o) b e f =
    says_then (λ ts _. IsWord k ts) IsAtom [] q.left (u (OfWord k) q) (λ _. run_to limited u (form Bracketed >>= λ x. give (RawApply o x))) (words k q)
    (λ _ a w. (placed_sign OpenRoundSign ∷ placed_number ∷ placed_sign CloseRoundSign ∷ [], RawApply o (RawNumber 0), one_atom a (placed_sign OpenRoundSign ∷ placed_number ∷ placed_sign CloseRoundSign ∷ []) o (RawNumber 0) (unary_makes k o a e w) zero_brackets))
    (λ _ a p w. says_last Brackets IsAtom (λ x. RawApply o x) a p.left (u Bracketed p) (ones p) (λ x c h. one_atom a c o x (unary_makes k o a e w) h))
atom_of_word_says limited u words ones twos constants k q None (Some o) e f =
    says_then (λ ts _. IsWord k ts) IsAtom [] q.left (u (OfWord k) q) (λ _. run_to limited u (form TwoArguments >>= λ x. give (RawCombine o x.0 x.1))) (words k q)
    (λ _ a w. (
      placed_sign OpenRoundSign ∷ placed_number ∷ placed_sign CommaSign ∷ placed_number ∷ placed_sign CloseRoundSign ∷ [],
      RawCombine o (RawNumber 0) (RawNumber 0),
      two_atom a (placed_sign OpenRoundSign ∷ placed_number ∷ placed_sign CommaSign ∷ placed_number ∷ placed_sign CloseRoundSign ∷ []) o (RawNumber 0, RawNumber 0) (binary_makes k o a f w) zero_two,
    ))
    (λ _ a p w. says_last TwoBrackets IsAtom (λ x. RawCombine o x.0 x.1) a p.left (u TwoArguments p) (twos p) (λ x c h. two_atom a c o x (binary_makes k o a f w) h))
atom_of_word_says limited u words ones twos constants k q None None e f = says_last IsAtom IsAtom (λ x. x) [] q.left (u (Constant k) q) (constants k q) (λ x c h. h)

pub no_atom_yet : (ts : Tokens) → Says IsAtom ts (Err (Here, ts))
no_atom_yet ts = ([], refl, (placed_number ∷ [], RawNumber 0, zero_atom))

pub constant_says : (limited : Bool) (u : Oracle) → SaysWords u → (k : Keyword) (q : Standing) → Says IsAtom q.left (run_to limited u (constant k) q)
constant_says limited u words TrueWord q = says_last (λ ts _. IsWord TrueWord ts) IsAtom (λ _. RawTruth true) [] q.left (u (OfWord TrueWord) q) (words TrueWord q) (λ _ c h. IsAtom.true_word h)
constant_says limited u words FalseWord q = says_last (λ ts _. IsWord FalseWord ts) IsAtom (λ _. RawTruth false) [] q.left (u (OfWord FalseWord) q) (words FalseWord q) (λ _ c h. IsAtom.false_word h)
constant_says limited u words BoolWord q = says_last (λ ts _. IsWord BoolWord ts) IsAtom (λ _. RawBooleans) [] q.left (u (OfWord BoolWord) q) (words BoolWord q) (λ _ c h. IsAtom.bool_word h)
constant_says limited u words _ q = no_atom_yet q.left

-- ATOMS, NEGATIONS AND LEVELS

pub negate_atom : {ts : Tokens} {x : RawExpression} → OnAtom MinusSign Negate ts x → IsAtom ts x
negate_atom {ts = ts} (e, (a, b, is, k, h), made) = subst (λ z. IsAtom ts z) (sym made) (subst (λ z. IsAtom z (RawApply Negate e)) (sym is) (IsAtom.negate k h))

pub length_atom : {ts : Tokens} {x : RawExpression} → OnAtom HashSign Length ts x → IsAtom ts x
length_atom {ts = ts} (e, (a, b, is, k, h), made) = subst (λ z. IsAtom ts z) (sym made) (subst (λ z. IsAtom z (RawApply Length e)) (sym is) (IsAtom.length_of k h))

pub atom_of_sign_says : (limited : Bool) (u : Oracle) → ((s : Sign) (o : Unary) (q : Standing) → Says (OnAtom s o) q.left (u (Signed s o) q)) → ((q : Standing) → Says IsAtom q.left (u Round q)) → ((q : Standing) → Says IsAtom q.left (u Sequence q)) →
    ((q : Standing) → Says IsAtom q.left (u OfSet q)) → (s : Sign) (q : Standing) → Says IsAtom q.left (run_to limited u (atom_of_sign s) q)
atom_of_sign_says limited u signeds rounds sequences sets MinusSign q = says_last (OnAtom MinusSign Negate) IsAtom (λ x. x) [] q.left (u (Signed MinusSign Negate) q) (signeds MinusSign Negate q) (λ x c h. negate_atom h)
atom_of_sign_says limited u signeds rounds sequences sets HashSign q = says_last (OnAtom HashSign Length) IsAtom (λ x. x) [] q.left (u (Signed HashSign Length) q) (signeds HashSign Length q) (λ x c h. length_atom h)
atom_of_sign_says limited u signeds rounds sequences sets OpenRoundSign q = says_last IsAtom IsAtom (λ x. x) [] q.left (u Round q) (rounds q) (λ x c h. h)
atom_of_sign_says limited u signeds rounds sequences sets LessSign q = says_last IsAtom IsAtom (λ x. x) [] q.left (u Sequence q) (sequences q) (λ x c h. h)
atom_of_sign_says limited u signeds rounds sequences sets OpenBraceSign q = says_last IsAtom IsAtom (λ x. x) [] q.left (u OfSet q) (sets q) (λ x c h. h)
atom_of_sign_says limited u signeds rounds sequences sets _ q = no_atom_yet q.left

pub atom_says : (limited : Bool) (u : Oracle) → ((q : Standing) → Says IsName q.left (u OfName q)) → ((k : Keyword) (q : Standing) → Says IsAtom q.left (u (AtomOfWord k) q)) → ((s : Sign) (q : Standing) → Says IsAtom q.left (u (AtomOfSign s) q)) →
    (t : PlacedToken) (ts : Tokens) (n : Nest) (k : Token) → t.token ≡ k → Says IsAtom (t ∷ ts) (run_to limited u (atom_by (Some (seen k))) (at (t ∷ ts) n))
atom_says limited u names words signs t ts n (NumberToken v) is =
    let h : IsAtom (t ∷ []) (RawNumber v) = IsAtom.number (number t v is) in
    passed_says IsAtom limited [] t ts n (run_to limited u (give (RawNumber v))) ([], RawNumber v, h) (λ q same. (t ∷ [], ap (λ z. t ∷ z) (sym same), h))
atom_says limited u names words signs t ts n (KeywordToken k) is = says_last IsAtom IsAtom (λ x. x) [] (t ∷ ts) (u (AtomOfWord k) (at (t ∷ ts) n)) (words k (at (t ∷ ts) n)) (λ x c h. h)
atom_says limited u names words signs t ts n (SignToken s) is = says_last IsAtom IsAtom (λ x. x) [] (t ∷ ts) (u (AtomOfSign s) (at (t ∷ ts) n)) (signs s (at (t ∷ ts) n)) (λ x c h. h)
atom_says limited u names words signs t ts n (NameToken cs) is = says_last IsName IsAtom (λ v. RawUse v) [] (t ∷ ts) (u OfName (at (t ∷ ts) n)) (names (at (t ∷ ts) n)) (λ v c h. IsAtom.name h)

pub atoms_say : (limited : Bool) (u : Oracle) → ((q : Standing) → Says IsName q.left (u OfName q)) → ((k : Keyword) (q : Standing) → Says IsAtom q.left (u (AtomOfWord k) q)) → ((s : Sign) (q : Standing) → Says IsAtom q.left (u (AtomOfSign s) q)) →
    (ts : Tokens) (n : Nest) → Says IsAtom ts (run_to limited u (body OfAtom) (at ts n))
unfolding body
atoms_say limited u names words signs [] n = no_atom_yet []
atoms_say limited u names words signs (t ∷ ts) n = atom_says limited u names words signs t ts n t.token refl

pub says_negation : (limited : Bool) (u : Oracle) → SaysWords u → SaysLevels u → ((q : Standing) → Says IsNegation q.left (u OfNegation q)) → (q : Standing) → Says IsNegation q.left (run_to limited u (body OfNegation) q)
unfolding body
says_negation limited u words levels negations q =
    cond_says IsNegation q.left limited u (is_word NotWord (option_map seen_of (first q.left))) denied (form (AtLevel Comparison)) q
    (says_then (λ ts _. IsWord NotWord ts) IsNegation [] q.left (u (OfWord NotWord) q) (λ _. run_to limited u (form OfNegation >>= λ x. give (RawApply Not x))) (words NotWord q)
    (λ _ a w. (placed_number ∷ [], RawApply Not (RawNumber 0), IsNegation.not w (at_each Negation (placed_number ∷ []) (RawNumber 0) zero_atom)))
    (λ _ a p w. says_last IsNegation IsNegation (λ x. RawApply Not x) a p.left (u OfNegation p) (negations p) (λ x c h. IsNegation.not w h)))
    (says_last IsComparison IsNegation (λ x. x) [] q.left (u (AtLevel Comparison) q) (levels Comparison q) (λ x c h. IsNegation.comparison h))

abbrev pub ChainMeans : Level → Level → Tokens → RawExpression → Type 0
ChainMeans l o ts x = o ≡ stronger l → IsAt l ts x

pub says_chain : (limited : Bool) (u : Oracle) (l o : Level) → SaysLevels u → SaysChains u → (q : Standing) → Says (ChainMeans l o) q.left (run_to limited u (body (ChainOf l o)) q)
unfolding body
says_chain limited u l o levels chains q =
    says_then (IsAt o) (ChainMeans l o) [] q.left (u (AtLevel o) q) (λ e. run_to limited u (form (Chained l e))) (levels o q)
    (λ e c h. ([], e, λ is. subst (λ z. IsAt l z e) (sym (append-nil c)) (up l c e (subst (λ k. IsAt k c e) is h))))
    (λ e a p h. says_last (Extends l e) (ChainMeans l o) (λ x. x) a p.left (u (Chained l e) p) (chains l e p) (λ x b k is. k a (up l a e (subst (λ z. IsAt z a e) is h))))

pub level_says : (limited : Bool) (u : Oracle) → ((l o : Level) (q : Standing) → Says (ChainMeans l o) q.left (u (ChainOf l o) q)) → SaysLevels u → ((e : RawExpression) (q : Standing) → Says (ExtendsSum e) q.left (u (Compared e) q)) →
    ((q : Standing) → Says IsNegation q.left (u OfNegation q)) → ((q : Standing) → Says IsAtom q.left (u OfAtom q)) → (l : Level) (q : Standing) → Says (IsAt l) q.left (run_to limited u (expression l) q)
level_says limited u chains levels compares negations atoms Atom q = says_last IsAtom IsAtom (λ x. x) [] q.left (u OfAtom q) (atoms q) (λ x c h. h)
level_says limited u chains levels compares negations atoms Negation q = says_last IsNegation IsNegation (λ x. x) [] q.left (u OfNegation q) (negations q) (λ x c h. h)
level_says limited u chains levels compares negations atoms Comparison q =
    says_then IsSum IsComparison [] q.left (u (AtLevel Sum) q) (λ e. run_to limited u (form (Compared e))) (levels Sum q)
    (λ e c h. ([], e, subst (λ z. IsComparison z e) (sym (append-nil c)) (IsComparison.sum h)))
    (λ e a p h. says_last (ExtendsSum e) IsComparison (λ x. x) a p.left (u (Compared e) p) (compares e p) (λ x c m. m a h))
level_says limited u chains levels compares negations atoms Disjunction q = says_last (ChainMeans Disjunction Conjunction) IsExpression (λ x. x) [] q.left (u (ChainOf Disjunction Conjunction) q) (chains Disjunction Conjunction q) (λ x c h. h refl)
level_says limited u chains levels compares negations atoms Conjunction q = says_last (ChainMeans Conjunction Negation) IsConjunction (λ x. x) [] q.left (u (ChainOf Conjunction Negation) q) (chains Conjunction Negation q) (λ x c h. h refl)
level_says limited u chains levels compares negations atoms Sum q = says_last (ChainMeans Sum Product) IsSum (λ x. x) [] q.left (u (ChainOf Sum Product) q) (chains Sum Product q) (λ x c h. h refl)
level_says limited u chains levels compares negations atoms Product q = says_last (ChainMeans Product Atom) IsProduct (λ x. x) [] q.left (u (ChainOf Product Atom) q) (chains Product Atom q) (λ x c h. h refl)

pub says_name_behind : (limited : Bool) (u : Oracle) (s : Sign) → SaysSigns u → ((q : Standing) → Says IsName q.left (u OfName q)) → (q : Standing) → Says (Pair (IsSign s) IsName) q.left (run_to limited u (body (NameBehind s)) q)
unfolding body
says_name_behind limited u s signs names q =
    says_then (λ ts _. IsSign s ts) (Pair (IsSign s) IsName) [] q.left (u (OfSign s) q) (λ _. run_to limited u (form OfName)) (signs s q)
    (λ _ c h. (placed_name ∷ [], record { spelling = []; place = first_place }, (c, placed_name ∷ [], refl, h, a_name)))
    (λ _ a p h. says_last IsName (Pair (IsSign s) IsName) (λ e. e) a p.left (u OfName p) (names p) (λ e b k. (a, b, refl, h, k)))

pub seen_word : (k : Token) (w : Keyword) → Some (seen k) ≡ Some (SeenWord w) → k ≡ KeywordToken w
seen_word (KeywordToken v) w e = let same : v ≡ w = cc e in ap KeywordToken same
seen_word (SignToken s) w e = absurd (cc e)
seen_word (NameToken cs) w e = absurd (cc e)
seen_word (NumberToken v) w e = absurd (cc e)

pub word_says : (limited : Bool) (u : Oracle) (w : Keyword) (ts : Tokens) (n : Nest) (b : Bool) → is_word w (option_map seen_of (first ts)) ≡ b → Says (λ us _. IsWord w us) ts (run_to limited u (cond b (pass (give (tt {0}))) refuse) (at ts n))
word_says limited u w ts n false e = ([], refl, (placed_word w ∷ [], tt {0}, a_word w))
word_says limited u w [] n true e = let gone = word_is_seen w None e in absurd (cc gone)
word_says limited u w (t ∷ ts) n true e =
    let is : IsWord w (t ∷ []) = word t (seen_word t.token w (word_is_seen w (Some (seen t.token)) e)) in
    passed_says (λ us _. IsWord w us) limited [] t ts n (run_to limited u (give (tt {0}))) ([], tt {0}, is) (λ q same. (t ∷ [], ap (λ z. t ∷ z) (sym same), is))

pub some_field : (us : Tokens) (es : List RawExpression) → GoesOn (Fields us es) []
some_field us es =
    (placed_sign DotSign ∷ placed_number ∷ [], es ++ RawNumber 0 ∷ [], (RawNumber 0 ∷ [], refl, AreDotted.dotted (a_sign DotSign) zero_atom AreDotted.no_dotted, λ _. (RawNumber 0, [], refl)))

unfoldable pub a_zero : Tokens
a_zero = placed_number ∷ []
