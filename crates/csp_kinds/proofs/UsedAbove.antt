-- A set uses what is declared above it alone.
use Rattle.std.specs.Prelude.{cond, option_map}
use Rattle.std.proofs.Common.{◌≡◌, ◌<◌, ℕ, Bool, true, false, List, [], ◌∷◌, ◌++◌, length, pos, Option, Some, None, refl, subst}
use Rattle.theory_syntax.specs.Expression.{Expression, Literal, Name, Booleans, Datatype, Nametype, ConstructorOf, Expressions, no_expressions}
use Rattle.theory_syntax.specs.Value.{Integer, Truth, Constructor, no_values}
use Rattle.theory_semantics.specs.Kinds.Kind.{Each}
use Rattle.theory_semantics.proofs.Misfits.{each_append}
use Rattle.theory_text.specs.Raw.{RawName, RawExpression, RawNumber, RawTruth, RawBooleans, RawUse, RawApply, RawCombine, RawSequence, RawSet, RawRange, RawConstructor, RawExpressions, no_raw_expressions, raw_expression_and, RawScript}
use Rattle.theory_checking.specs.Names.{Class, DatatypeName, ConstructorName, NametypeName, ChannelName, EquationName, Meaning, Declared, Bound, names_of, environment_above, meaning}
use Rattle.theory_checking.specs.Resolving.{of_two, as_expression, as_constructor, constructor_count, is_count, lacks_fields, constructor_with, number_of, expression_of, expressions_of}
use Rattle.theory_checking.specs.Sets.{nametypes_in, nametypes_in_all, constructors_in, constructors_in_all, datatypes_in, datatypes_in_all}
use Rattle.theory_checking.proofs.Meant.{number_within, meant_number, constructor_meant}

-- what holds of the nametypes, of the constructors and of the datatypes in use
pub record Uses (N C D : ℕ → Type 0) (ns cs ds : List ℕ) : Type 0 where
  pub nametypes : Each N ns
  pub constructors : Each C cs
  pub datatypes : Each D ds

abbrev pub UsedIn : (N C D : ℕ → Type 0) → Expression → Type 0
UsedIn N C D e = Uses N C D (nametypes_in e) (constructors_in e) (datatypes_in e)

abbrev pub UsedInAll : (N C D : ℕ → Type 0) → Expressions → Type 0
UsedInAll N C D es = Uses N C D (nametypes_in_all es) (constructors_in_all es) (datatypes_in_all es)

-- ---- two parts

each_left : {A : Type 0} (P : A → Type 0) (xs ys : List A) → Each P (xs ++ ys) → Each P xs
each_left P [] ys h = tt
each_left P (x ∷ xs) ys h = (h.0, each_left P xs ys h.1)

each_right : {A : Type 0} (P : A → Type 0) (xs ys : List A) → Each P (xs ++ ys) → Each P ys
each_right P [] ys h = h
each_right P (x ∷ xs) ys h = each_right P xs ys h.1

module _ (N C D : ℕ → Type 0) where
  nothing_used : Uses N C D [] [] []
  nothing_used = record { nametypes = tt; constructors = tt; datatypes = tt }

  module _ (ns cs ds ms bs es : List ℕ) where
    both_used : Uses N C D ns cs ds → Uses N C D ms bs es → Uses N C D (ns ++ ms) (cs ++ bs) (ds ++ es)
    both_used h k = record {
      nametypes = each_append N ns ms h.nametypes k.nametypes;
      constructors = each_append C cs bs h.constructors k.constructors;
      datatypes = each_append D ds es h.datatypes k.datatypes;
    }

    left_used : Uses N C D (ns ++ ms) (cs ++ bs) (ds ++ es) → Uses N C D ns cs ds
    left_used h = record { nametypes = each_left N ns ms h.nametypes; constructors = each_left C cs bs h.constructors; datatypes = each_left D ds es h.datatypes }

    right_used : Uses N C D (ns ++ ms) (cs ++ bs) (ds ++ es) → Uses N C D ms bs es
    right_used h = record { nametypes = each_right N ns ms h.nametypes; constructors = each_right C cs bs h.constructors; datatypes = each_right D ds es h.datatypes }

  -- those of two expressions, and of an expression and further ones
  abbrev pub UsedInBoth : Expression → Expression → Type 0
  UsedInBoth e f = Uses N C D (nametypes_in e ++ nametypes_in f) (constructors_in e ++ constructors_in f) (datatypes_in e ++ datatypes_in f)

  abbrev pub UsedInMore : Expression → Expressions → Type 0
  UsedInMore e es = Uses N C D (nametypes_in e ++ nametypes_in_all es) (constructors_in e ++ constructors_in_all es) (datatypes_in e ++ datatypes_in_all es)

  module _ (e f : Expression) where
    pub in_both : UsedIn N C D e → UsedIn N C D f → UsedInBoth e f
    in_both = both_used (nametypes_in e) (constructors_in e) (datatypes_in e) (nametypes_in f) (constructors_in f) (datatypes_in f)

    pub in_left : UsedInBoth e f → UsedIn N C D e
    in_left = left_used (nametypes_in e) (constructors_in e) (datatypes_in e) (nametypes_in f) (constructors_in f) (datatypes_in f)

    pub in_right : UsedInBoth e f → UsedIn N C D f
    in_right = right_used (nametypes_in e) (constructors_in e) (datatypes_in e) (nametypes_in f) (constructors_in f) (datatypes_in f)

  module _ (e : Expression) (es : Expressions) where
    pub in_more : UsedIn N C D e → UsedInAll N C D es → UsedInMore e es
    in_more = both_used (nametypes_in e) (constructors_in e) (datatypes_in e) (nametypes_in_all es) (constructors_in_all es) (datatypes_in_all es)

    pub in_first : UsedInMore e es → UsedIn N C D e
    in_first = left_used (nametypes_in e) (constructors_in e) (datatypes_in e) (nametypes_in_all es) (constructors_in_all es) (datatypes_in_all es)

    pub in_others : UsedInMore e es → UsedInAll N C D es
    in_others = right_used (nametypes_in e) (constructors_in e) (datatypes_in e) (nametypes_in_all es) (constructors_in_all es) (datatypes_in_all es)

-- ---- expressions as they are written

mapped : {A B : Type 0} (f : A → B) (o : Option A) (z : B) → option_map f o ≡ Some z → (x : A) × (o ≡ Some x) × (f x ≡ z)
mapped f (Some x) z e = (x, refl, cc e)
mapped f None z e = absurd (cc e)

parts : {A B C : Type 0} (f : A → B → C) (o : Option A) (p : Option B) (z : C) → of_two f o p ≡ Some z → (x : A) × (y : B) × (o ≡ Some x) × (p ≡ Some y) × (f x y ≡ z)
parts f (Some x) (Some y) z e = (x, y, refl, refl, cc e)
parts f None p z e = absurd (cc e)
parts f (Some x) None z e = absurd (cc e)

not_cut : {A : Type 0} (b : Bool) (o : Option A) (x : A) → cond b None o ≡ Some x → o ≡ Some x
not_cut true o x e = absurd (cc e)
not_cut false o x e = e

not_lost : {A : Type 0} (b : Bool) (o : Option A) (x : A) → cond b o None ≡ Some x → o ≡ Some x
not_lost true o x e = e
not_lost false o x e = absurd (cc e)

-- a number of a name of the class that is declared above
abbrev pub IsAbove : RawScript → Class → ℕ → Type 0
IsAbove above class k = k < length (names_of class above)

module _ (above : RawScript) where
  abbrev pub IsUsedAbove : Expression → Type 0
  IsUsedAbove e = UsedIn (IsAbove above NametypeName) (IsAbove above ConstructorName) (IsAbove above DatatypeName) e

  abbrev pub AreUsedAbove : Expressions → Type 0
  AreUsedAbove es = UsedInAll (IsAbove above NametypeName) (IsAbove above ConstructorName) (IsAbove above DatatypeName) es

  none_used : Uses (IsAbove above NametypeName) (IsAbove above ConstructorName) (IsAbove above DatatypeName) [] [] []
  none_used = nothing_used (IsAbove above NametypeName) (IsAbove above ConstructorName) (IsAbove above DatatypeName)

  moved : (e f : Expression) → e ≡ f → IsUsedAbove e → IsUsedAbove f
  moved e f same h = subst IsUsedAbove same h

  declared_above : (n : RawName) (class : Class) (k : ℕ) → meaning (environment_above above) n ≡ Some (Declared class k) → IsAbove above class k
  declared_above n class k means = number_within (names_of class above) n.spelling k (meant_number (environment_above above) n class k means)

  meant_above : (n : RawName) (o : Option Meaning) (e : Expression) → meaning (environment_above above) n ≡ o → as_expression o ≡ Some e → IsUsedAbove e
  meant_above n (Some (Bound k)) e means is = moved (Name k) e (cc is) none_used
  meant_above n (Some (Declared ConstructorName k)) e means is =
      moved (Literal (Constructor k no_values)) e (cc is) (record { nametypes = tt; constructors = (declared_above n ConstructorName k means, tt); datatypes = tt })
  meant_above n (Some (Declared DatatypeName k)) e means is = moved (Datatype k) e (cc is) (record { nametypes = tt; constructors = tt; datatypes = (declared_above n DatatypeName k means, tt) })
  meant_above n (Some (Declared NametypeName k)) e means is = moved (Nametype k) e (cc is) (record { nametypes = (declared_above n NametypeName k means, tt); constructors = tt; datatypes = tt })
  meant_above n (Some (Declared ChannelName k)) e means is = absurd (cc is)
  meant_above n (Some (Declared EquationName k)) e means is = absurd (cc is)
  meant_above n None e means is = absurd (cc is)

  constructor_above : (n : RawName) (k c : ℕ) → constructor_with (environment_above above) n k ≡ Some c → IsAbove above ConstructorName c
  constructor_above n k c is =
      declared_above n ConstructorName c (constructor_meant (meaning (environment_above above) n) c
      (not_lost (is_count k (constructor_count (environment_above above) n)) (as_constructor (meaning (environment_above above) n)) c is))

  mutual
    pub resolved_above : (r : RawExpression) (e : Expression) → expression_of (environment_above above) r ≡ Some e → IsUsedAbove e
    resolved_above (RawNumber n) e is = moved (Literal (Integer (pos n))) e (cc is) none_used
    resolved_above (RawTruth b) e is = moved (Literal (Truth b)) e (cc is) none_used
    resolved_above RawBooleans e is = moved Booleans e (cc is) none_used
    resolved_above (RawUse n) e is =
        meant_above n (meaning (environment_above above) n) e refl
        (not_cut (lacks_fields (constructor_count (environment_above above) n)) (as_expression (meaning (environment_above above) n)) e is)
    resolved_above (RawApply op r) e is = let p = mapped _ (expression_of (environment_above above) r) e is in moved _ e p.2 (resolved_above r p.0 p.1)
    resolved_above (RawCombine op r s) e is =
        let p = parts _ (expression_of (environment_above above) r) (expression_of (environment_above above) s) e is in
        moved _ e p.4 (in_both (IsAbove above NametypeName) (IsAbove above ConstructorName) (IsAbove above DatatypeName) p.0 p.1 (resolved_above r p.0 p.2) (resolved_above s p.1 p.3))
    resolved_above (RawSequence rs) e is = let p = mapped _ (expressions_of (environment_above above) rs) e is in moved _ e p.2 (all_resolved_above rs p.0 p.1)
    resolved_above (RawSet rs) e is = let p = mapped _ (expressions_of (environment_above above) rs) e is in moved _ e p.2 (all_resolved_above rs p.0 p.1)
    resolved_above (RawRange r s) e is =
        let p = parts _ (expression_of (environment_above above) r) (expression_of (environment_above above) s) e is in
        moved _ e p.4 (in_both (IsAbove above NametypeName) (IsAbove above ConstructorName) (IsAbove above DatatypeName) p.0 p.1 (resolved_above r p.0 p.2) (resolved_above s p.1 p.3))
    resolved_above (RawConstructor n rs) e is =
        let p = parts ConstructorOf (constructor_with (environment_above above) n (number_of rs)) (expressions_of (environment_above above) rs) e is in
        let fields = all_resolved_above rs p.1 p.3 in
        moved (ConstructorOf p.0 p.1) e p.4
        (record { nametypes = fields.nametypes; constructors = (constructor_above n (number_of rs) p.0 p.2, fields.constructors); datatypes = fields.datatypes })

    all_resolved_above : (rs : RawExpressions) (es : Expressions) → expressions_of (environment_above above) rs ≡ Some es → AreUsedAbove es
    all_resolved_above no_raw_expressions es is = let none : no_expressions ≡ es = cc is in subst AreUsedAbove none none_used
    all_resolved_above (raw_expression_and r rs) es is =
        let p = parts _ (expression_of (environment_above above) r) (expressions_of (environment_above above) rs) es is in
        subst AreUsedAbove p.4 (in_more (IsAbove above NametypeName) (IsAbove above ConstructorName) (IsAbove above DatatypeName) p.0 p.1 (resolved_above r p.0 p.2) (all_resolved_above rs p.1 p.3))
