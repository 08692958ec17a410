-- A set uses nametypes above alone, and constructors above with as many fields as they have.
use Rattle.std.specs.Prelude.{⊤, flat_map, replicate, slice_get, cond, option_and_then, IfSome}
use Rattle.std.proofs.lemmas.Bool.{eqb-true}
use Rattle.std.proofs.lemmas.Grind.{flat_map-append}
use Rattle.std.proofs.lemmas.List.{append_assoc, map-append}
use Rattle.std.proofs.Common.{◌≡◌, ℕ, zero, suc, ◌+◌, ◌<◌, ◌≤◌, nat_eq, Bool, true, false, not, List, [], ◌∷◌, ◌++◌, append-nil, pos, length, length-append, map, Option, Some, None, refl, sym, ap, ◌∙◌, subst, arith}
use Rattle.theory_syntax.specs.Value.{Integer, Truth, Constructor, Sequence, Set, no_values, value_and}
use Rattle.theory_syntax.specs.Expression.{Expression, Literal, Name, Apply, Combine, SequenceOf, SetOf, Range, Booleans, Datatype, Nametype, ConstructorOf, Expressions, no_expressions, expression_and}
use Rattle.theory_syntax.specs.Types.{Types}
use Rattle.theory_semantics.specs.Kinds.Kind.{Kind, IntKind, BoolKind, DatatypeKind, SequenceKind, SetKind, Kinds, Each}
use Rattle.theory_semantics.specs.Kinds.Values.{AreValuesInTurn}
use Rattle.theory_semantics.specs.Kinds.Expressions.{HasKind, AllHaveKind, HaveKinds}
use Rattle.theory_semantics.proofs.Misfits.{each_append}
use Rattle.theory_text.specs.Raw.{RawName, RawExpression, RawNumber, RawTruth, RawBooleans, RawUse, RawApply, RawCombine, RawSequence, RawSet, RawRange, RawConstructor, RawExpressions, no_raw_expressions, raw_expression_and, RawDomain, RawClause, RawDeclaration, RawDatatype, RawNametype, RawChannels, RawEquation, RawAssertion, RawScript}
use Rattle.theory_checking.specs.Names.{Class, DatatypeName, ConstructorName, NametypeName, ChannelName, EquationName, Meaning, Declared, Bound, declared_as, names_of, environment_above, meaning, constructor_fields, fields_of_constructor}
use Rattle.theory_checking.specs.Resolving.{of_two, as_expression, as_constructor, constructor_count, is_count, lacks_fields, constructor_with, number_of, expression_of, expressions_of}
use Rattle.theory_checking.specs.Sets.{behind_each, set_expression, clause_sets, nametypes_declared, clauses_declared, channels_declared, nametype_sets, constructor_sets, channel_sets, IsSetOf}
use Rattle.theory_checking.proofs.AskingExpressions.{some_mapped}
use Rattle.theory_checking.proofs.Meant.{number_within, meant_number, constructor_counted}
use Rattle.theory_checking.proofs.ScriptThere.{behind_one_more}
use Rattle.theory_checking.proofs.Unrefused.{got_more}
use Rattle.theory_checking.proofs.WellKinded.{Agrees}

abbrev pub size : Expressions → ℕ
size no_expressions = 0
size (expression_and e es) = suc (size es)

-- nametypes below m, and constructors with these numbers of fields
abbrev mutual
  pub Sized : ℕ → List ℕ → Expression → Type 0
  Sized m ls (Literal (Integer z)) = ⊤
  Sized m ls (Literal (Truth b)) = ⊤
  Sized m ls (Literal (Constructor c no_values)) = slice_get ls c ≡ Some 0
  Sized m ls (Literal v) = ⊥
  Sized m ls (Name n) = ⊤
  Sized m ls (Apply op e) = Sized m ls e
  Sized m ls (Combine op e f) = Sized m ls e × Sized m ls f
  Sized m ls (SequenceOf es) = AllSized m ls es
  Sized m ls (SetOf es) = AllSized m ls es
  Sized m ls (Range e f) = Sized m ls e × Sized m ls f
  Sized m ls Booleans = ⊤
  Sized m ls (Datatype d) = ⊤
  Sized m ls (Nametype n) = n < m
  Sized m ls (ConstructorOf c es) = (slice_get ls c ≡ Some (size es)) × AllSized m ls es

  pub AllSized : ℕ → List ℕ → Expressions → Type 0
  AllSized m ls no_expressions = ⊤
  AllSized m ls (expression_and e es) = Sized m ls e × AllSized m ls es

abbrev pub SetSized : ℕ → List ℕ → Option Expression → Type 0
SetSized m ls e = IfSome e (λ set. Sized m ls set)

-- ---- so only their kinds count, where they have so many fields

abbrev pub AgreesFor : Kinds → Kinds → ℕ → ℕ → Type 0
AgreesFor a b c p = (ks : List Kind) → length ks ≡ p → slice_get a.constructors c ≡ Some ks → slice_get b.constructors c ≡ Some ks

module _ (t : Types) (a b : Kinds) (m : ℕ) (ls : List ℕ) (names : (n : ℕ) → n < m → Agrees a b n) (fields : (c p : ℕ) → slice_get ls c ≡ Some p → AgreesFor a b c p) where
  bare : (ks : List Kind) → AreValuesInTurn t a no_values ks → (length ks ≡ 0) × AreValuesInTurn t b no_values ks
  bare [] h = (refl, tt)
  bare (k ∷ ks) h = absurd h

  given_size : (es : Expressions) (ks : List Kind) → HaveKinds t a [] es ks → length ks ≡ size es
  given_size no_expressions [] h = refl
  given_size (expression_and e es) (k ∷ ks) h = ap suc (given_size es ks h.1)
  given_size _ _ h = absurd h

  mutual
    pub sized_moves : (e : Expression) (k : Kind) → Sized m ls e → HasKind t a [] e k → HasKind t b [] e k
    sized_moves (Literal (Integer z)) IntKind s h = tt
    sized_moves (Literal (Truth x)) BoolKind s h = tt
    sized_moves (Literal (Constructor c no_values)) (DatatypeKind d) s h = let none = bare h.1.0 h.1.2 in (h.0, (h.1.0, fields c 0 s h.1.0 none.0 h.1.1, none.1))
    sized_moves (Literal (Constructor c (value_and v vs))) k s h = absurd s
    sized_moves (Literal (Sequence vs)) k s h = absurd s
    sized_moves (Literal (Set vs)) k s h = absurd s
    sized_moves (Name n) k s h = h
    sized_moves (Apply op e) k s h = (h.0, h.1, sized_moves e h.0 s h.2)
    sized_moves (Combine op e f) k s h = (h.0, h.1, h.2, sized_moves e h.0 s.0 h.3, sized_moves f h.1 s.1 h.4)
    sized_moves (SequenceOf es) (SequenceKind k) s h = all_move es k s h
    sized_moves (SetOf es) (SetKind k) s h = all_move es k s h
    sized_moves (Range e f) (SetKind IntKind) s h = (sized_moves e IntKind s.0 h.0, sized_moves f IntKind s.1 h.1)
    sized_moves Booleans (SetKind BoolKind) s h = tt
    sized_moves (Datatype d) (SetKind (DatatypeKind c)) s h = h
    sized_moves (Nametype n) (SetKind k) s h = names n s k h
    sized_moves (ConstructorOf c es) (DatatypeKind d) s h =
        (h.0, (h.1.0, fields c (size es) s.0 h.1.0 (given_size es h.1.0 h.1.2) h.1.1, given_move es h.1.0 s.1 h.1.2))
    sized_moves _ _ s h = absurd h

    all_move : (es : Expressions) (k : Kind) → AllSized m ls es → AllHaveKind t a [] es k → AllHaveKind t b [] es k
    all_move no_expressions k s h = tt
    all_move (expression_and e es) k s h = (sized_moves e k s.0 h.0, all_move es k s.1 h.1)

    given_move : (es : Expressions) (ks : List Kind) → AllSized m ls es → HaveKinds t a [] es ks → HaveKinds t b [] es ks
    given_move no_expressions [] s h = tt
    given_move (expression_and e es) (k ∷ ks) s h = (sized_moves e k s.0 h.0, given_move es ks s.1 h.1)
    given_move _ _ s h = absurd h

  pub sized_kept : (e : Option Expression) → SetSized m ls e → (k : Kind) → IsSetOf t a e k → IsSetOf t b e k
  sized_kept None s k h = tt
  sized_kept (Some e) s k h = sized_moves e (SetKind k) s h

-- ---- sets of declarations

-- there are no more nametypes, and constructors have so many fields
pub record Table (m : ℕ) (ls : List ℕ) (raw : RawScript) : Type 0 where
  pub nametypes : length (names_of NametypeName raw) ≤ m
  pub constructors : (c p : ℕ) → fields_of_constructor raw c ≡ Some p → slice_get ls c ≡ Some p

names_more : (class : Class) (above ds : RawScript) → length (names_of class (above ++ ds)) ≡ length (names_of class above) + length (names_of class ds)
names_more class above ds =
    ap length (ap (map (λ n. n.spelling)) (flat_map-append (declared_as class) above ds) ∙ map-append (λ n. n.spelling) (flat_map (declared_as class) above) (flat_map (declared_as class) ds))
    ∙ length-append (names_of class above) (names_of class ds)

-- what declarations have they have below too
pub fields_below : (above ds : RawScript) (c p : ℕ) → fields_of_constructor above c ≡ Some p → fields_of_constructor (above ++ ds) c ≡ Some p
fields_below above ds c p e =
    ap (λ z. slice_get z c) (flat_map-append constructor_fields above ds) ∙ got_more (flat_map constructor_fields above) (flat_map constructor_fields ds) c p e

pub table_above : (m : ℕ) (ls : List ℕ) (above ds : RawScript) → Table m ls (above ++ ds) → Table m ls above
table_above m ls above ds table = record {
  nametypes =
      let e : length (names_of NametypeName (above ++ ds)) ≡ length (names_of NametypeName above) + length (names_of NametypeName ds) = names_more NametypeName above ds in
      let le : length (names_of NametypeName (above ++ ds)) ≤ m = table.nametypes in omega (arith, e, le);
  constructors = λ c p e. table.constructors c p (fields_below above ds c p e);
}

parts : {A B C : Type 0} (f : A → B → C) (o : Option A) (p : Option B) (z : C) → of_two f o p ≡ Some z → (x : A) × (y : B) × (o ≡ Some x) × (p ≡ Some y) × (f x y ≡ z)
parts f (Some x) (Some y) z e = (x, y, refl, refl, cc e)
parts f None p z e = absurd (cc e)
parts f (Some x) None z e = absurd (cc e)

not_none : (b : Bool) (e f : Expression) → cond b None (Some e) ≡ Some f → e ≡ f
not_none true e f i = absurd (cc i)
not_none false e f i = cc i

counted_so : (k : ℕ) (o : Option ℕ) → is_count k o ≡ true → o ≡ Some k
counted_so k (Some p) e = ap Some (eqb-true p k e)
counted_so k None e = absurd (cc e)

module _ (m : ℕ) (ls : List ℕ) (above : RawScript) (table : Table m ls above) where
  abbrev lookup : RawName → Option Meaning
  lookup n = meaning (environment_above above) n

  abbrev Is : RawName → Expression → Option Meaning → Type 0
  Is n e o = cond (lacks_fields (option_and_then (fields_of_constructor above) (as_constructor o))) None (as_expression o) ≡ Some e

  moved : (e f : Expression) → e ≡ f → Sized m ls e → Sized m ls f
  moved e f same h = subst (Sized m ls) same h

  bare_sized : (n : RawName) (c : ℕ) (e : Expression) → lookup n ≡ Some (Declared ConstructorName c) → (o : Option ℕ) → fields_of_constructor above c ≡ o →
      cond (lacks_fields o) None (Some (Literal (Constructor c no_values))) ≡ Some e → Sized m ls e
  bare_sized n c e means None count i =
      let there = constructor_counted (environment_above above) n c (ap as_constructor means) in
      absurd (let f : Some there.0 ≡ None = sym there.1 ∙ ap (λ z. option_and_then (fields_of_constructor above) (as_constructor z)) means ∙ count in cc f)
  bare_sized n c e means (Some zero) count i = moved (Literal (Constructor c no_values)) e (cc i) (table.constructors c 0 count)
  bare_sized n c e means (Some (suc p)) count i = go (nat_eq (suc p) 0) refl i
    where
      go : (b : Bool) → nat_eq (suc p) 0 ≡ b → cond (not b) None (Some (Literal (Constructor c no_values))) ≡ Some e → Sized m ls e
      go true is j = absurd (let f : suc p ≡ 0 = eqb-true (suc p) 0 is in cc f)
      go false is j = absurd (cc j)

  use_sized : (n : RawName) (e : Expression) → Is n e (lookup n) → Sized m ls e
  use_sized n e is = by (lookup n) refl is
    where
      by : (o : Option Meaning) → lookup n ≡ o → Is n e o → Sized m ls e
      by None k i = absurd (cc i)
      by (Some (Bound x)) k i = moved (Name x) e (not_none false (Name x) e i) tt
      by (Some (Declared DatatypeName x)) k i = moved (Datatype x) e (not_none false (Datatype x) e i) tt
      by (Some (Declared ConstructorName x)) k i = bare_sized n x e k (fields_of_constructor above x) refl i
      by (Some (Declared NametypeName x)) k i =
          let small : x < length (names_of NametypeName above) = number_within (names_of NametypeName above) n.spelling x (meant_number (environment_above above) n NametypeName x k) in
          let le : length (names_of NametypeName above) ≤ m = table.nametypes in moved (Nametype x) e (not_none false (Nametype x) e i) (omega (arith, small, le))
      by (Some (Declared ChannelName x)) k i = absurd (cc i)
      by (Some (Declared EquationName x)) k i = absurd (cc i)

  constructor_sized : (n : RawName) (k c : ℕ) → constructor_with (environment_above above) n k ≡ Some c → slice_get ls c ≡ Some k
  constructor_sized n k c is = go (is_count k (constructor_count (environment_above above) n)) refl is
    where
      go : (b : Bool) → is_count k (constructor_count (environment_above above) n) ≡ b → cond b (as_constructor (lookup n)) None ≡ Some c → slice_get ls c ≡ Some k
      go true e i = table.constructors c k (sym (ap (option_and_then (fields_of_constructor above)) i) ∙ counted_so k (constructor_count (environment_above above) n) e)
      go false e i = absurd (cc i)

  as_many : (rs : RawExpressions) (es : Expressions) → expressions_of (environment_above above) rs ≡ Some es → number_of rs ≡ size es
  as_many no_raw_expressions es is = let none : no_expressions ≡ es = cc is in ap size none
  as_many (raw_expression_and r rs) es is =
      let p = parts expression_and (expression_of (environment_above above) r) (expressions_of (environment_above above) rs) es is in ap suc (as_many rs p.1 p.3) ∙ ap size p.4

  mutual
    pub expression_sized : (r : RawExpression) (e : Expression) → expression_of (environment_above above) r ≡ Some e → Sized m ls e
    expression_sized (RawNumber n) e is = moved (Literal (Integer (pos n))) e (cc is) tt
    expression_sized (RawTruth b) e is = moved (Literal (Truth b)) e (cc is) tt
    expression_sized RawBooleans e is = moved Booleans e (cc is) tt
    expression_sized (RawUse n) e is = use_sized n e is
    expression_sized (RawApply op r) e is = let p = some_mapped _ (expression_of (environment_above above) r) e is in moved _ e p.2 (expression_sized r p.0 p.1)
    expression_sized (RawCombine op r s) e is =
        let p = parts _ (expression_of (environment_above above) r) (expression_of (environment_above above) s) e is in moved _ e p.4 (expression_sized r p.0 p.2, expression_sized s p.1 p.3)
    expression_sized (RawSequence rs) e is = let p = some_mapped _ (expressions_of (environment_above above) rs) e is in moved _ e p.2 (expressions_sized rs p.0 p.1)
    expression_sized (RawSet rs) e is = let p = some_mapped _ (expressions_of (environment_above above) rs) e is in moved _ e p.2 (expressions_sized rs p.0 p.1)
    expression_sized (RawRange r s) e is =
        let p = parts _ (expression_of (environment_above above) r) (expression_of (environment_above above) s) e is in moved _ e p.4 (expression_sized r p.0 p.2, expression_sized s p.1 p.3)
    expression_sized (RawConstructor n rs) e is =
        let p = parts ConstructorOf (constructor_with (environment_above above) n (number_of rs)) (expressions_of (environment_above above) rs) e is in
        moved (ConstructorOf p.0 p.1) e p.4 (constructor_sized n (number_of rs) p.0 p.2 ∙ ap Some (as_many rs p.1 p.3), expressions_sized rs p.1 p.3)

    expressions_sized : (rs : RawExpressions) (es : Expressions) → expressions_of (environment_above above) rs ≡ Some es → AllSized m ls es
    expressions_sized no_raw_expressions es is = let none : no_expressions ≡ es = cc is in subst (AllSized m ls) none tt
    expressions_sized (raw_expression_and r rs) es is =
        let p = parts _ (expression_of (environment_above above) r) (expressions_of (environment_above above) rs) es is in
        subst (AllSized m ls) p.4 (expression_sized r p.0 p.2, expressions_sized rs p.1 p.3)

  pub set_sized : (d : RawDomain) → SetSized m ls (set_expression above d)
  set_sized d = go (set_expression above d) refl
    where
      go : (o : Option Expression) → set_expression above d ≡ o → SetSized m ls o
      go None e = tt
      go (Some x) e = expression_sized d.set x e

  fields_sized : (domains : List RawDomain) → Each (SetSized m ls) (map (set_expression above) domains)
  fields_sized [] = tt
  fields_sized (d ∷ ds) = (set_sized d, fields_sized ds)

  clauses_sized : (clauses : List RawClause) → Each (Each (SetSized m ls)) (map (clause_sets above) clauses)
  clauses_sized [] = tt
  clauses_sized (x ∷ xs) = (fields_sized x.fields, clauses_sized xs)

  copies_sized : (names : List RawName) (domains : List RawDomain) → Each (Each (SetSized m ls)) (replicate (length names) (map (set_expression above) domains))
  copies_sized [] ds = tt
  copies_sized (n ∷ ns) ds = (fields_sized ds, copies_sized ns ds)

  pub nametypes_sized : (d : RawDeclaration) → Each (SetSized m ls) (nametypes_declared above d)
  nametypes_sized (RawNametype name domain) = (set_sized domain, tt)
  nametypes_sized (RawDatatype name cs) = tt
  nametypes_sized (RawChannels names domains) = tt
  nametypes_sized (RawEquation name ns p) = tt
  nametypes_sized (RawAssertion place n a p) = tt

  pub constructors_sized : (d : RawDeclaration) → Each (Each (SetSized m ls)) (clauses_declared above d)
  constructors_sized (RawDatatype name cs) = clauses_sized cs
  constructors_sized (RawNametype name domain) = tt
  constructors_sized (RawChannels names domains) = tt
  constructors_sized (RawEquation name ns p) = tt
  constructors_sized (RawAssertion place n a p) = tt

  pub channels_sized : (d : RawDeclaration) → Each (Each (SetSized m ls)) (channels_declared above d)
  channels_sized (RawChannels names domains) = copies_sized names domains
  channels_sized (RawDatatype name cs) = tt
  channels_sized (RawNametype name domain) = tt
  channels_sized (RawEquation name ns p) = tt
  channels_sized (RawAssertion place n a p) = tt

-- the sets of declarations that have the table
pub record AllSetsSized (m : ℕ) (ls : List ℕ) (raw : RawScript) : Type 0 where
  pub nametypes : Each (SetSized m ls) (nametype_sets raw)
  pub constructors : Each (Each (SetSized m ls)) (constructor_sets raw)
  pub channels : Each (Each (SetSized m ls)) (channel_sets raw)

module _ {A : Type 0} (m : ℕ) (ls : List ℕ) (f : RawScript → RawDeclaration → List A) (P : A → Type 0) (one : (above : RawScript) → Table m ls above → (d : RawDeclaration) → Each P (f above d)) where
  each_sized : (above ds : RawScript) → Table m ls (above ++ ds) → Each P (behind_each f above ds)
  each_sized above [] table = tt
  each_sized above (d ∷ ds) table =
      each_append P (f above d) (behind_each f (above ++ d ∷ []) ds) (one above (table_above m ls above (d ∷ ds) table) d)
      (each_sized (above ++ d ∷ []) ds (subst (Table m ls) (sym (append_assoc above (d ∷ []) ds)) table))

  -- one more declaration need not have it
  last_sized : (above last : RawScript) → length last ≤ 1 → Table m ls above → Each P (behind_each f [] (above ++ last))
  last_sized above [] le table = subst (λ z. Each P (behind_each f [] z)) (sym (append-nil above)) (each_sized [] above table)
  last_sized above (d ∷ []) le table = subst (Each P) (sym (behind_one_more f above d)) (each_append P (behind_each f [] above) (f above d) (each_sized [] above table) (one above table d))
  last_sized above (d ∷ x ∷ xs) le table = absurd (omega (arith, le))

pub first_sized : (m : ℕ) (ls : List ℕ) (above last : RawScript) → length last ≤ 1 → Table m ls above → AllSetsSized m ls (above ++ last)
first_sized m ls above last le table = record {
  nametypes = last_sized m ls nametypes_declared (SetSized m ls) (nametypes_sized m ls) above last le table;
  constructors = last_sized m ls clauses_declared (Each (SetSized m ls)) (constructors_sized m ls) above last le table;
  channels = last_sized m ls channels_declared (Each (SetSized m ls)) (channels_sized m ls) above last le table;
}

pub all_sized : (m : ℕ) (ls : List ℕ) (raw : RawScript) → Table m ls raw → AllSetsSized m ls raw
all_sized m ls raw table = subst (AllSetsSized m ls) (append-nil raw) (first_sized m ls raw [] (omega arith) table)

-- as many as there are nametypes
pub nametypes_counted : (above ds : RawScript) → length (behind_each nametypes_declared above ds) ≡ length (names_of NametypeName ds)
nametypes_counted above [] = refl
nametypes_counted above (RawNametype name domain ∷ ds) = ap suc (nametypes_counted (above ++ RawNametype name domain ∷ []) ds)
nametypes_counted above (RawDatatype name cs ∷ ds) = nametypes_counted (above ++ RawDatatype name cs ∷ []) ds
nametypes_counted above (RawChannels names domains ∷ ds) = nametypes_counted (above ++ RawChannels names domains ∷ []) ds
nametypes_counted above (RawEquation name ns p ∷ ds) = nametypes_counted (above ++ RawEquation name ns p ∷ []) ds
nametypes_counted above (RawAssertion place n a p ∷ ds) = nametypes_counted (above ++ RawAssertion place n a p ∷ []) ds

-- the table of declarations themselves
pub own_table : (raw : RawScript) → Table (length (nametype_sets raw)) (flat_map constructor_fields raw) raw
own_table raw = record {
  nametypes = let e : length (nametype_sets raw) ≡ length (names_of NametypeName raw) = nametypes_counted [] raw in omega (arith, e);
  constructors = λ c p e. e;
}
