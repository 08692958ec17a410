-- The order of expressions and processes tells different ones apart, and ties each with itself.
use Rattle.std.proofs.Common.{◌≡◌, ℕ, List, [], ◌∷◌, refl, sym, ◌∙◌, ap, ap₂}
use Rattle.std.specs.declared.cmp.Ordering.{Ordering}
use Rattle.std.specs.declared.cmp.Ordering.TheVariants.{Equal}
use Rattle.std.specs.Ordering.{nat_cmp, ordering_then}
use Rattle.std.specs.FinMap.{nat_cmp-IsAntisymmetric, slice_cmp-IsAntisymmetric}
use Rattle.std.specs.Cmp.{nat_cmp_is}
use Rattle.std.specs.Cmp.Lexicographic.{slice_cmp}
use Rattle.theory_syntax.specs.Expression.{Unary, Negate, Not, Length, Head, Tail, IsNull, Card, Binary, Add, Subtract, Multiply, Modulus, Concatenate, Equals, Differs, LessThan, AtMost, GreaterThan, AtLeast, And, Or, IsElement, IsMember, Union, Intersection, Difference, Expression, Literal, Name, Apply, Combine, SequenceOf, SetOf, Range, Booleans, Datatype, Nametype, ConstructorOf, Expressions, no_expressions, expression_and}
use Rattle.theory_syntax.specs.Process.{Field, Given, Input, InputFrom, EventExpression, EventSet, Enumeration, Productions, EventUnion, EventIntersection, EventDifference, RenamingPair, Process, Stop, Skip, Omega, Call, Prefix, Guard, If, ExternalChoice, InternalChoice, Sequential, Interleaving, Interrupt, GeneralisedParallel, AlphabetisedParallel, Hiding, Renaming, ReplicatedExternalChoice, ReplicatedInternalChoice, ReplicatedInterleaving, SlidingChoice}
use Rattle.theory_syntax.specs.Order.{unary_place, binary_place, expression_cmp, expressions_cmp, field_cmp, event_expression_cmp, event_set_cmp, pair_cmp, process_cmp}
use Rattle.theory_syntax.proofs.Equalities.{then_first, then_second, value_same, value_refl}

nat_refl : (n : ℕ) → nat_cmp n n ≡ Equal
nat_refl n = sym (nat_cmp_is n n Equal refl)

slice_refl : {X : Type 0} (R : X → X → Ordering) → ((x : X) → R x x ≡ Equal) → (xs : List X) → slice_cmp R xs xs ≡ Equal
slice_refl R each [] = refl
slice_refl R each (x ∷ xs) = ap₂ ordering_then (each x) (slice_refl R each xs)

-- ---- ties are the same

module _ {A B C : Type 0} (f : A → B → C) {a b : A} {c d : B} where
  two : (r s : Ordering) → (r ≡ Equal → a ≡ b) → (s ≡ Equal → c ≡ d) → ordering_then r s ≡ Equal → f a c ≡ f b d
  two r s first second e = ap₂ f (first (then_first r s e)) (second (then_second r s e))

module _ {A B C D : Type 0} (f : A → B → C → D) {a b : A} {c d : B} {g h : C} where
  three : (r s t : Ordering) → (r ≡ Equal → a ≡ b) → (s ≡ Equal → c ≡ d) → (t ≡ Equal → g ≡ h) → ordering_then r (ordering_then s t) ≡ Equal → f a c g ≡ f b d h
  three r s t first second third e =
      let x = first (then_first r (ordering_then s t) e) in
      let y = two (f b) s t second third (then_second r (ordering_then s t) e) in
      ap (λ z. f z c g) x ∙ y

module _ {A B C D E : Type 0} (f : A → B → C → D → E) {a b : A} {c d : B} {g h : C} {k l : D} where
  four : (r s t u : Ordering) → (r ≡ Equal → a ≡ b) → (s ≡ Equal → c ≡ d) → (t ≡ Equal → g ≡ h) → (u ≡ Equal → k ≡ l) → ordering_then r (ordering_then s (ordering_then t u)) ≡ Equal → f a c g k ≡ f b d h l
  four r s t u first second third fourth e =
      let x = first (then_first r (ordering_then s (ordering_then t u)) e) in
      let y = three (f b) s t u second third fourth (then_second r (ordering_then s (ordering_then t u)) e) in
      ap (λ z. f z c g k) x ∙ y

unary_same : (a b : Unary) → nat_cmp (unary_place a) (unary_place b) ≡ Equal → a ≡ b
unary_same Negate Negate is = refl
unary_same Not Not is = refl
unary_same Length Length is = refl
unary_same Head Head is = refl
unary_same Tail Tail is = refl
unary_same IsNull IsNull is = refl
unary_same Card Card is = refl
unary_same _ _ is = absurd (cc is)

binary_same : (a b : Binary) → nat_cmp (binary_place a) (binary_place b) ≡ Equal → a ≡ b
binary_same Add Add is = refl
binary_same Subtract Subtract is = refl
binary_same Multiply Multiply is = refl
binary_same Modulus Modulus is = refl
binary_same Concatenate Concatenate is = refl
binary_same Equals Equals is = refl
binary_same Differs Differs is = refl
binary_same LessThan LessThan is = refl
binary_same AtMost AtMost is = refl
binary_same GreaterThan GreaterThan is = refl
binary_same AtLeast AtLeast is = refl
binary_same And And is = refl
binary_same Or Or is = refl
binary_same IsElement IsElement is = refl
binary_same IsMember IsMember is = refl
binary_same Union Union is = refl
binary_same Intersection Intersection is = refl
binary_same Difference Difference is = refl
binary_same _ _ is = absurd (cc is)

mutual
  pub expression_same : (e f : Expression) → expression_cmp e f ≡ Equal → e ≡ f
  expression_same (Literal v) (Literal w) is = ap Literal (value_same v w is)
  expression_same (Name m) (Name n) is = ap Name (nat_cmp-IsAntisymmetric m n is)
  expression_same (Apply op e) (Apply oq f) is = two Apply (nat_cmp (unary_place op) (unary_place oq)) (expression_cmp e f) (unary_same op oq) (expression_same e f) is
  expression_same (Combine op e g) (Combine oq f h) is = three Combine (nat_cmp (binary_place op) (binary_place oq)) (expression_cmp e f) (expression_cmp g h) (binary_same op oq) (expression_same e f) (expression_same g h) is
  expression_same (SequenceOf es) (SequenceOf fs) is = ap SequenceOf (expressions_same es fs is)
  expression_same (SetOf es) (SetOf fs) is = ap SetOf (expressions_same es fs is)
  expression_same (Range e g) (Range f h) is = two Range (expression_cmp e f) (expression_cmp g h) (expression_same e f) (expression_same g h) is
  expression_same Booleans Booleans is = refl
  expression_same (Datatype m) (Datatype n) is = ap Datatype (nat_cmp-IsAntisymmetric m n is)
  expression_same (Nametype m) (Nametype n) is = ap Nametype (nat_cmp-IsAntisymmetric m n is)
  expression_same (ConstructorOf m es) (ConstructorOf n fs) is = two ConstructorOf (nat_cmp m n) (expressions_cmp es fs) (nat_cmp-IsAntisymmetric m n) (expressions_same es fs) is
  expression_same _ _ is = absurd (cc is)

  pub expressions_same : (es fs : Expressions) → expressions_cmp es fs ≡ Equal → es ≡ fs
  expressions_same no_expressions no_expressions is = refl
  expressions_same (expression_and e es) (expression_and f fs) is = two expression_and (expression_cmp e f) (expressions_cmp es fs) (expression_same e f) (expressions_same es fs) is
  expressions_same _ _ is = absurd (cc is)

field_same : (f g : Field) → field_cmp f g ≡ Equal → f ≡ g
field_same (Given e) (Given f) is = ap Given (expression_same e f is)
field_same (Input m) (Input n) is = ap Input (nat_cmp-IsAntisymmetric m n is)
field_same (InputFrom m e) (InputFrom n f) is = two InputFrom (nat_cmp m n) (expression_cmp e f) (nat_cmp-IsAntisymmetric m n) (expression_same e f) is
field_same _ _ is = absurd (cc is)

event_expression_same : (e f : EventExpression) → event_expression_cmp e f ≡ Equal → e ≡ f
event_expression_same e f is =
    let c = nat_cmp-IsAntisymmetric e.channel f.channel (then_first (nat_cmp e.channel f.channel) (expressions_cmp e.fields f.fields) is) in
    let v = expressions_same e.fields f.fields (then_second (nat_cmp e.channel f.channel) (expressions_cmp e.fields f.fields) is) in
    λ i. record { channel = c i; fields = v i }

pub event_set_same : (a b : EventSet) → event_set_cmp a b ≡ Equal → a ≡ b
event_set_same (Enumeration es) (Enumeration fs) is = ap Enumeration (slice_cmp-IsAntisymmetric event_expression_same es fs is)
event_set_same (Productions es) (Productions fs) is = ap Productions (slice_cmp-IsAntisymmetric event_expression_same es fs is)
event_set_same (EventUnion a b) (EventUnion c d) is = two EventUnion (event_set_cmp a c) (event_set_cmp b d) (event_set_same a c) (event_set_same b d) is
event_set_same (EventIntersection a b) (EventIntersection c d) is = two EventIntersection (event_set_cmp a c) (event_set_cmp b d) (event_set_same a c) (event_set_same b d) is
event_set_same (EventDifference a b) (EventDifference c d) is = two EventDifference (event_set_cmp a c) (event_set_cmp b d) (event_set_same a c) (event_set_same b d) is
event_set_same _ _ is = absurd (cc is)

pair_same : (r s : RenamingPair) → pair_cmp r s ≡ Equal → r ≡ s
pair_same r s is =
    let f = event_expression_same r.from s.from (then_first (event_expression_cmp r.from s.from) (event_expression_cmp r.to s.to) is) in
    let t = event_expression_same r.to s.to (then_second (event_expression_cmp r.from s.from) (event_expression_cmp r.to s.to) is) in
    λ i. record { from = f i; to = t i }

pub process_same : (p q : Process) → process_cmp p q ≡ Equal → p ≡ q
process_same Stop Stop is = refl
process_same Skip Skip is = refl
process_same Omega Omega is = refl
process_same (Call m es) (Call n fs) is = two Call (nat_cmp m n) (expressions_cmp es fs) (nat_cmp-IsAntisymmetric m n) (expressions_same es fs) is
process_same (Prefix m fs p) (Prefix n gs r) is = three Prefix (nat_cmp m n) (slice_cmp field_cmp fs gs) (process_cmp p r) (nat_cmp-IsAntisymmetric m n) (slice_cmp-IsAntisymmetric field_same fs gs) (process_same p r) is
process_same (Guard e p) (Guard f r) is = two Guard (expression_cmp e f) (process_cmp p r) (expression_same e f) (process_same p r) is
process_same (If e p q) (If f r s) is = three If (expression_cmp e f) (process_cmp p r) (process_cmp q s) (expression_same e f) (process_same p r) (process_same q s) is
process_same (ExternalChoice p q) (ExternalChoice r s) is = two ExternalChoice (process_cmp p r) (process_cmp q s) (process_same p r) (process_same q s) is
process_same (InternalChoice p q) (InternalChoice r s) is = two InternalChoice (process_cmp p r) (process_cmp q s) (process_same p r) (process_same q s) is
process_same (Sequential p q) (Sequential r s) is = two Sequential (process_cmp p r) (process_cmp q s) (process_same p r) (process_same q s) is
process_same (Interleaving p q) (Interleaving r s) is = two Interleaving (process_cmp p r) (process_cmp q s) (process_same p r) (process_same q s) is
process_same (Interrupt p q) (Interrupt r s) is = two Interrupt (process_cmp p r) (process_cmp q s) (process_same p r) (process_same q s) is
process_same (GeneralisedParallel p a q) (GeneralisedParallel r c s) is = three GeneralisedParallel (process_cmp p r) (event_set_cmp a c) (process_cmp q s) (process_same p r) (event_set_same a c) (process_same q s) is
process_same (AlphabetisedParallel p a b q) (AlphabetisedParallel r c d s) is = four AlphabetisedParallel (process_cmp p r) (event_set_cmp a c) (event_set_cmp b d) (process_cmp q s) (process_same p r) (event_set_same a c) (event_set_same b d) (process_same q s) is
process_same (Hiding p a) (Hiding r c) is = two Hiding (process_cmp p r) (event_set_cmp a c) (process_same p r) (event_set_same a c) is
process_same (Renaming p rs) (Renaming r ss) is = two Renaming (process_cmp p r) (slice_cmp pair_cmp rs ss) (process_same p r) (slice_cmp-IsAntisymmetric pair_same rs ss) is
process_same (ReplicatedExternalChoice m e p) (ReplicatedExternalChoice n f r) is = three ReplicatedExternalChoice (nat_cmp m n) (expression_cmp e f) (process_cmp p r) (nat_cmp-IsAntisymmetric m n) (expression_same e f) (process_same p r) is
process_same (ReplicatedInternalChoice m e p) (ReplicatedInternalChoice n f r) is = three ReplicatedInternalChoice (nat_cmp m n) (expression_cmp e f) (process_cmp p r) (nat_cmp-IsAntisymmetric m n) (expression_same e f) (process_same p r) is
process_same (ReplicatedInterleaving m e p) (ReplicatedInterleaving n f r) is = three ReplicatedInterleaving (nat_cmp m n) (expression_cmp e f) (process_cmp p r) (nat_cmp-IsAntisymmetric m n) (expression_same e f) (process_same p r) is
process_same (SlidingChoice p q) (SlidingChoice r s) is = two SlidingChoice (process_cmp p r) (process_cmp q s) (process_same p r) (process_same q s) is
process_same _ _ is = absurd (cc is)

-- ---- each ties with itself

mutual
  pub expression_refl : (e : Expression) → expression_cmp e e ≡ Equal
  expression_refl (Literal v) = value_refl v
  expression_refl (Name m) = nat_refl m
  expression_refl (Apply op e) = ap₂ ordering_then (nat_refl (unary_place op)) (expression_refl e)
  expression_refl (Combine op e g) = ap₂ ordering_then (nat_refl (binary_place op)) (ap₂ ordering_then (expression_refl e) (expression_refl g))
  expression_refl (SequenceOf es) = expressions_refl es
  expression_refl (SetOf es) = expressions_refl es
  expression_refl (Range e g) = ap₂ ordering_then (expression_refl e) (expression_refl g)
  expression_refl Booleans = refl
  expression_refl (Datatype m) = nat_refl m
  expression_refl (Nametype m) = nat_refl m
  expression_refl (ConstructorOf m es) = ap₂ ordering_then (nat_refl m) (expressions_refl es)

  pub expressions_refl : (es : Expressions) → expressions_cmp es es ≡ Equal
  expressions_refl no_expressions = refl
  expressions_refl (expression_and e es) = ap₂ ordering_then (expression_refl e) (expressions_refl es)

field_refl : (f : Field) → field_cmp f f ≡ Equal
field_refl (Given e) = expression_refl e
field_refl (Input m) = nat_refl m
field_refl (InputFrom m e) = ap₂ ordering_then (nat_refl m) (expression_refl e)

event_expression_refl : (e : EventExpression) → event_expression_cmp e e ≡ Equal
event_expression_refl e = ap₂ ordering_then (nat_refl e.channel) (expressions_refl e.fields)

pub event_set_refl : (a : EventSet) → event_set_cmp a a ≡ Equal
event_set_refl (Enumeration es) = slice_refl event_expression_cmp event_expression_refl es
event_set_refl (Productions es) = slice_refl event_expression_cmp event_expression_refl es
event_set_refl (EventUnion a b) = ap₂ ordering_then (event_set_refl a) (event_set_refl b)
event_set_refl (EventIntersection a b) = ap₂ ordering_then (event_set_refl a) (event_set_refl b)
event_set_refl (EventDifference a b) = ap₂ ordering_then (event_set_refl a) (event_set_refl b)

pair_refl : (r : RenamingPair) → pair_cmp r r ≡ Equal
pair_refl r = ap₂ ordering_then (event_expression_refl r.from) (event_expression_refl r.to)

pub process_refl : (p : Process) → process_cmp p p ≡ Equal
process_refl Stop = refl
process_refl Skip = refl
process_refl Omega = refl
process_refl (Call m es) = ap₂ ordering_then (nat_refl m) (expressions_refl es)
process_refl (Prefix m fs p) = ap₂ ordering_then (nat_refl m) (ap₂ ordering_then (slice_refl field_cmp field_refl fs) (process_refl p))
process_refl (Guard e p) = ap₂ ordering_then (expression_refl e) (process_refl p)
process_refl (If e p q) = ap₂ ordering_then (expression_refl e) (ap₂ ordering_then (process_refl p) (process_refl q))
process_refl (ExternalChoice p q) = ap₂ ordering_then (process_refl p) (process_refl q)
process_refl (InternalChoice p q) = ap₂ ordering_then (process_refl p) (process_refl q)
process_refl (Sequential p q) = ap₂ ordering_then (process_refl p) (process_refl q)
process_refl (Interleaving p q) = ap₂ ordering_then (process_refl p) (process_refl q)
process_refl (Interrupt p q) = ap₂ ordering_then (process_refl p) (process_refl q)
process_refl (GeneralisedParallel p a q) = ap₂ ordering_then (process_refl p) (ap₂ ordering_then (event_set_refl a) (process_refl q))
process_refl (AlphabetisedParallel p a b q) = ap₂ ordering_then (process_refl p) (ap₂ ordering_then (event_set_refl a) (ap₂ ordering_then (event_set_refl b) (process_refl q)))
process_refl (Hiding p a) = ap₂ ordering_then (process_refl p) (event_set_refl a)
process_refl (Renaming p rs) = ap₂ ordering_then (process_refl p) (slice_refl pair_cmp pair_refl rs)
process_refl (ReplicatedExternalChoice m e p) = ap₂ ordering_then (nat_refl m) (ap₂ ordering_then (expression_refl e) (process_refl p))
process_refl (ReplicatedInternalChoice m e p) = ap₂ ordering_then (nat_refl m) (ap₂ ordering_then (expression_refl e) (process_refl p))
process_refl (ReplicatedInterleaving m e p) = ap₂ ordering_then (nat_refl m) (ap₂ ordering_then (expression_refl e) (process_refl p))
process_refl (SlidingChoice p q) = ap₂ ordering_then (process_refl p) (process_refl q)
