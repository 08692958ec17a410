-- The members of a tree's sets rise.
use Rattle.std.specs.Prelude.{cond, unwrap_or, option_map, option_and_then, IfSome, IfOk}
use Rattle.std.specs.Result.{result_ok}
use Rattle.std.specs.Ordering.{nat_cmp}
use Rattle.std.proofs.Common.{◌≡◌, ℕ, Bool, true, false, List, [], ◌∷◌, ◌++◌, map, pos, Option, Some, None, Result, Ok, Err, refl, subst}
use Rattle.theory_syntax.specs.Value.{Value, Integer, Truth, Constructor, no_values, value_cmp}
use Rattle.theory_syntax.specs.Expression.{Expression, Literal, Name, Booleans, Datatype, Nametype, ConstructorOf, Expressions, no_expressions}
use Rattle.theory_semantics.specs.Meaning.Evaluation.{Cause}
use Rattle.theory_semantics.specs.Meaning.Events.{elements}
use Rattle.theory_semantics.specs.Meaning.Offers.{RisesBy}
use Rattle.theory_semantics.specs.Kinds.Kind.{Each}
use Rattle.theory_semantics.proofs.Misfits.{each_append}
use Rattle.theory_text.specs.Raw.{RawExpression, RawNumber, RawTruth, RawBooleans, RawUse, RawApply, RawCombine, RawSequence, RawSet, RawRange, RawConstructor, RawExpressions, no_raw_expressions, raw_expression_and, RawDomain, RawClause, RawDatatype, RawNametype, RawChannels, RawEquation, RawAssertion, RawScript}
use Rattle.theory_checking.specs.Names.{DatatypeName, ConstructorName, NametypeName, ChannelName, EquationName, Meaning, Declared, Bound, Environment, environment_above, meaning}
use Rattle.theory_checking.specs.Resolving.{of_two, every, as_expression, lacks_fields, constructor_count, constructor_with, number_of, expression_of, expressions_of}
use Rattle.theory_checking.specs.Sets.{behind_each, set_expression, clause_sets, datatypes_of, Members, no_members, has_members, types_with, members_with, with_some, field_members_with, TypeItem, NametypeItem, DatatypeItem, types_declared, with_nametype, with_constructors, with_members, members_above}
use Rattle.theory_checking.specs.Faults.{NoneRefused}
use Rattle.theory_checking.specs.Rules.{IsRedeclared, all_declared}
use Rattle.theory_checking.proofs.ConstructorRows.{datatypes_rise}
use Rattle.theory_checking.proofs.Tidy.{IsTidySet, HasTidyLiterals, HaveTidyLiterals, elements_tidy}

-- ---- expressions as they are written

moved : (e f : Expression) → e ≡ f → HasTidyLiterals e → HasTidyLiterals f
moved e f same h = subst HasTidyLiterals same h

meant_tidy : (o : Option Meaning) (e : Expression) → as_expression o ≡ Some e → HasTidyLiterals e
meant_tidy (Some (Bound k)) e is = moved (Name k) e (cc is) tt
meant_tidy (Some (Declared ConstructorName k)) e is = moved (Literal (Constructor k no_values)) e (cc is) tt
meant_tidy (Some (Declared DatatypeName k)) e is = moved (Datatype k) e (cc is) tt
meant_tidy (Some (Declared NametypeName k)) e is = moved (Nametype k) e (cc is) tt
meant_tidy (Some (Declared ChannelName k)) e is = absurd (cc is)
meant_tidy (Some (Declared EquationName k)) e is = absurd (cc is)
meant_tidy None e is = absurd (cc is)

use_tidy : (b : Bool) (o : Option Meaning) (e : Expression) → cond b None (as_expression o) ≡ Some e → HasTidyLiterals e
use_tidy true o e is = absurd (cc is)
use_tidy false o e is = meant_tidy o e is

mapped : {A B : Type 0} (f : A → B) (o : Option A) (z : B) → option_map f o ≡ Some z → (x : A) × (o ≡ Some x) × (f x ≡ z)
mapped f (Some x) z e = (x, refl, cc e)
mapped f None z e = absurd (cc e)

parts : {A B C : Type 0} (f : A → B → C) (o : Option A) (p : Option B) (z : C) → of_two f o p ≡ Some z → (x : A) × (y : B) × (o ≡ Some x) × (p ≡ Some y) × (f x y ≡ z)
parts f (Some x) (Some y) z e = (x, y, refl, refl, cc e)
parts f None p z e = absurd (cc e)
parts f (Some x) None z e = absurd (cc e)

module _ (env : Environment) where
  mutual
    resolved_tidy : (r : RawExpression) (e : Expression) → expression_of env r ≡ Some e → HasTidyLiterals e
    resolved_tidy (RawNumber n) e is = moved (Literal (Integer (pos n))) e (cc is) tt
    resolved_tidy (RawTruth b) e is = moved (Literal (Truth b)) e (cc is) tt
    resolved_tidy RawBooleans e is = moved Booleans e (cc is) tt
    resolved_tidy (RawUse n) e is = use_tidy (lacks_fields (constructor_count env n)) (meaning env n) e is
    resolved_tidy (RawApply op r) e is = let p = mapped _ (expression_of env r) e is in moved _ e p.2 (resolved_tidy r p.0 p.1)
    resolved_tidy (RawCombine op r s) e is = let p = parts _ (expression_of env r) (expression_of env s) e is in moved _ e p.4 (resolved_tidy r p.0 p.2, resolved_tidy s p.1 p.3)
    resolved_tidy (RawSequence rs) e is = let p = mapped _ (expressions_of env rs) e is in moved _ e p.2 (all_resolved_tidy rs p.0 p.1)
    resolved_tidy (RawSet rs) e is = let p = mapped _ (expressions_of env rs) e is in moved _ e p.2 (all_resolved_tidy rs p.0 p.1)
    resolved_tidy (RawRange r s) e is = let p = parts _ (expression_of env r) (expression_of env s) e is in moved _ e p.4 (resolved_tidy r p.0 p.2, resolved_tidy s p.1 p.3)
    resolved_tidy (RawConstructor n rs) e is =
        let p = parts _ (constructor_with env n (number_of rs)) (expressions_of env rs) e is in moved (ConstructorOf p.0 p.1) e p.4 (all_resolved_tidy rs p.1 p.3)

    all_resolved_tidy : (rs : RawExpressions) (es : Expressions) → expressions_of env rs ≡ Some es → HaveTidyLiterals es
    all_resolved_tidy no_raw_expressions es is = let none : no_expressions ≡ es = cc is in subst HaveTidyLiterals none tt
    all_resolved_tidy (raw_expression_and r rs) es is =
        let p = parts _ (expression_of env r) (expressions_of env rs) es is in subst HaveTidyLiterals p.4 (resolved_tidy r p.0 p.2, all_resolved_tidy rs p.1 p.3)

-- the literals of a set, if its names are fine
abbrev IsTidyIfThere : Option Expression → Type 0
IsTidyIfThere o = IfSome o HasTidyLiterals

abbrev IsTidyItem : TypeItem → Type 0
IsTidyItem (NametypeItem e) = IsTidyIfThere e
IsTidyItem (DatatypeItem cs) = Each (Each IsTidyIfThere) cs

set_tidy : (above : RawScript) (d : RawDomain) → IsTidyIfThere (set_expression above d)
set_tidy above d = go (set_expression above d) refl
  where
    go : (o : Option Expression) → set_expression above d ≡ o → IsTidyIfThere o
    go None is = tt
    go (Some e) is = resolved_tidy (environment_above above) d.set e is

fields_tidy : (above : RawScript) (ds : List RawDomain) → Each IsTidyIfThere (map (set_expression above) ds)
fields_tidy above [] = tt
fields_tidy above (d ∷ ds) = (set_tidy above d, fields_tidy above ds)

clauses_tidy : (above : RawScript) (cs : List RawClause) → Each (Each IsTidyIfThere) (map (clause_sets above) cs)
clauses_tidy above [] = tt
clauses_tidy above (c ∷ cs) = (fields_tidy above c.fields, clauses_tidy above cs)

items_tidy : (above ds : RawScript) → Each IsTidyItem (behind_each types_declared above ds)
items_tidy above [] = tt
items_tidy above (RawNametype name domain ∷ ds) = (set_tidy above domain, items_tidy (above ++ RawNametype name domain ∷ []) ds)
items_tidy above (RawDatatype name cs ∷ ds) = (clauses_tidy above cs, items_tidy (above ++ RawDatatype name cs ∷ []) ds)
items_tidy above (RawChannels names domains ∷ ds) = items_tidy (above ++ RawChannels names domains ∷ []) ds
items_tidy above (RawEquation name ns p ∷ ds) = items_tidy (above ++ RawEquation name ns p ∷ []) ds
items_tidy above (RawAssertion place m p q ∷ ds) = items_tidy (above ++ RawAssertion place m p q ∷ []) ds

-- ---- the members of the sets so far

pub record AreTidyMembers (ms : Members) : Type 0 where
  pub nametypes : Each (λ m. IfSome m IsTidySet) ms.nametypes
  pub constructors : Each (λ m. IfSome m (Each IsTidySet)) ms.constructors

lists_tidy : {A : Type 0} (P : List A → Type 0) → P [] → (ms : List (Option (List A))) → Each (λ m. IfSome m P) ms → Each P (map (λ m. unwrap_or m []) ms)
lists_tidy P none [] h = tt
lists_tidy P none (Some xs ∷ ms) h = (h.0, lists_tidy P none ms h.1)
lists_tidy P none (None ∷ ms) h = (none, lists_tidy P none ms h.1)

if_then : {A B : Type 0} (P : A → Type 0) (Q : B → Type 0) (f : A → Option B) (o : Option A) → IfSome o P → ((x : A) → P x → IfSome (f x) Q) → IfSome (option_and_then f o) Q
if_then P Q f (Some x) h g = g x h
if_then P Q f None h g = tt

some_tidy : (vs : List Value) → IsTidySet vs → IfSome (with_some vs) IsTidySet
some_tidy [] h = tt
some_tidy (v ∷ vs) h = h

every_tidy : {A B : Type 0} (P : A → Type 0) (Q : B → Type 0) (f : A → Option B) (xs : List A) → Each P xs → ((x : A) → P x → IfSome (f x) Q) → IfSome (every f xs) (Each Q)
every_tidy P Q f [] h g = tt
every_tidy {B = B} P Q f (x ∷ xs) h g = both (f x) (every f xs) (g x h.0) (every_tidy P Q f xs h.1 g)
  where
    both : (o : Option B) (os : Option (List B)) → IfSome o Q → IfSome os (Each Q) → IfSome (of_two ◌∷◌ o os) (Each Q)
    both (Some y) (Some ys) i j = (i, j)
    both None os i j = tt
    both (Some y) None i j = tt

module _ (dts : List (List ℕ)) (rise : Each (RisesBy nat_cmp) dts) where
  members_tidy : (ms : Members) (e : Expression) → AreTidyMembers ms → HasTidyLiterals e → IfSome (members_with dts ms e) IsTidySet
  members_tidy ms e h lits =
      go (has_members dts ms e) (elements (types_with dts ms) e)
      (elements_tidy (types_with dts ms)
      (record { datatypes = rise; nametypes = lists_tidy IsTidySet (tt, tt) ms.nametypes h.nametypes; constructors = lists_tidy (Each IsTidySet) tt ms.constructors h.constructors }) e lits)
    where
      go : (b : Bool) (r : Result (List Value) Cause) → IfOk r IsTidySet → IfSome (cond b (result_ok r) None) IsTidySet
      go true (Ok vs) k = k
      go true (Err c) k = tt
      go false r k = tt

  field_tidy : (ms : Members) (e : Option Expression) → AreTidyMembers ms → IsTidyIfThere e → IfSome (field_members_with dts ms e) IsTidySet
  field_tidy ms e h lits =
      if_then IsTidySet IsTidySet with_some (option_and_then (members_with dts ms) e) (if_then HasTidyLiterals IsTidySet (members_with dts ms) e lits (λ x k. members_tidy ms x h k)) some_tidy

  constructors_tidy : (ms : Members) (cs : List (List (Option Expression))) → AreTidyMembers ms → Each (Each IsTidyIfThere) cs → Each (λ m. IfSome m (Each IsTidySet)) (map (every (field_members_with dts ms)) cs)
  constructors_tidy ms [] h k = tt
  constructors_tidy ms (es ∷ cs) h k =
      (every_tidy IsTidyIfThere IsTidySet (field_members_with dts ms) es k.0 (λ e lits. field_tidy ms e h lits), constructors_tidy ms cs h k.1)

  table_tidy : (ms : Members) (xs : List TypeItem) → AreTidyMembers ms → Each IsTidyItem xs → AreTidyMembers (with_members dts ms xs)
  table_tidy ms [] h k = h
  table_tidy ms (NametypeItem e ∷ xs) h k =
      table_tidy (with_nametype (option_and_then (members_with dts ms) e) ms) xs
      (record {
        nametypes = each_append (λ m. IfSome m IsTidySet) ms.nametypes (option_and_then (members_with dts ms) e ∷ []) h.nametypes
            (if_then HasTidyLiterals IsTidySet (members_with dts ms) e k.0 (λ x lits. members_tidy ms x h lits), tt);
        constructors = h.constructors;
      }) k.1
  table_tidy ms (DatatypeItem cs ∷ xs) h k =
      table_tidy (with_constructors (map (every (field_members_with dts ms)) cs) ms) xs
      (record {
        nametypes = h.nametypes;
        constructors = each_append (λ m. IfSome m (Each IsTidySet)) ms.constructors (map (every (field_members_with dts ms)) cs) h.constructors (constructors_tidy ms cs h k.0);
      }) k.1

-- the members of a set of the tree rise
pub tree_members_rise : (raw above : RawScript) (d : RawDomain) (e : Expression) (vs : List Value) → NoneRefused IsRedeclared (all_declared raw) → set_expression above d ≡ Some e →
    members_with (datatypes_of raw) (members_above raw above) e ≡ Some vs → RisesBy value_cmp vs
tree_members_rise raw above d e vs once is members =
    let rise : Each (RisesBy nat_cmp) (datatypes_of raw) = datatypes_rise raw once in
    let table = table_tidy (datatypes_of raw) rise no_members (behind_each types_declared [] above) (record { nametypes = tt; constructors = tt }) (items_tidy [] above) in
    let tidy = members_tidy (datatypes_of raw) rise (members_above raw above) e table (resolved_tidy (environment_above above) d.set e is) in
    let Q : Option (List Value) → Type 0 = λ o. IfSome o IsTidySet in
    (subst Q members tidy).1
