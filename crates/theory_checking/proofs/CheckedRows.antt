-- The refusals of small trees.
use Rattle.std.proofs.lemmas.Bool.{ltb-true, lt-ltb}
use Rattle.std.specs.Prelude.{IsFalse, codes}
use Rattle.std.proofs.Common.{◌≡◌, ℕ, ◌≤◌, true, false, List, [], ◌∷◌, take, nat_lt, ◌<◌, pos, Some, None, refl, sym, ap, ◌∙◌, subst, arith}
use Rattle.theory_syntax.specs.Value.{Value, Integer}
use Rattle.theory_syntax.specs.Expression.{Expression, Literal, Name, Range, SequenceOf, SetOf, no_expressions, expression_and}
use Rattle.theory_syntax.specs.Process.{Process, Call, Script, Equation, ByTau}
use Rattle.theory_syntax.specs.Types.{Types}
use Rattle.theory_semantics.specs.Meaning.Evaluation.{numbers_from}
use Rattle.theory_semantics.specs.Kinds.Kind.{Kind, IntKind, BoolKind, DatatypeKind, SequenceKind, SetKind, Kinds, scope_of}
use Rattle.theory_semantics.specs.Kinds.Expressions.{HaveKinds}
use Rattle.theory_semantics.specs.Kinds.Scripts.{IsWellKindedEquation}
use Rattle.theory_text.specs.Raw.{RawName, RawScript}
use Rattle.theory_checking.specs.Names.{Meaning, Declared, Bound, EquationName, spellings, has_spelling, environment_of, binding}
use Rattle.theory_checking.specs.Scripts.{IsScriptOf}
use Rattle.theory_checking.specs.Sets.{types_of}
use Rattle.theory_checking.specs.Sites.{Use, Site, Used, Parameter, FieldSet, ChannelHead, AsEquation, AsExpression, sites}
use Rattle.theory_checking.specs.Faults.{KindFault, UnknownName, DeclaredTwice, WrongKind, WrongCount, BadFieldSet, TooManyEvents, fault_number, IsFirstRefused}
use Rattle.theory_checking.specs.Rules.{IsRedeclared, redeclared, IsRefusedSite, unknown, parameter_declared, parameter_again, wrong_class, arguments, field_kind, no_member, too_many_events, SomeFit, suits, all_declared, bare_constructor}
use Rattle.theory_checking.specs.Fitting.{FitKinds, FitsItem, EquationItem, IsMisfit, misfit}
use Rattle.theory_checking.specs.Refusals.{IsRefusedAt, IsKindRefusal, in_first_pass, in_second_pass, in_third_pass}
use Rattle.theory_checking.specs.Laws.Trees.{at, named, unknown_process, unknown_in_freedom, declared_parameter, channel_as_process, too_few_arguments, empty_field_set, channel_twice, growing_parameter, many_events, large_field_set}
use Rattle.theory_checking.proofs.FirstRefused.{none_refused}

pub new : (before : List RawName) (n : RawName) → has_spelling (spellings before) n.spelling ≡ false → (f : KindFault) → ¬ (IsRedeclared before n f)
new before n e f (redeclared h) = absurd (let both : false ≡ true = sym e ∙ h in cc both)

-- the first of all is refused
pub at_once : {A : Type 0} (R : List A → A → KindFault → Type 0) (x : A) (more : List A) (f : KindFault) → R [] x f →
    ((g : KindFault) → R [] x g → fault_number f ≤ fault_number g) → IsFirstRefused R (x ∷ more) x f
at_once R x more f refused lowest = record { before = []; after = more; stands = refl; refused = refused; lowest = lowest; none_before = none_refused R [] tt }

-- the one behind the first
pub behind_one : {A : Type 0} (R : List A → A → KindFault → Type 0) (w x : A) (more : List A) (f : KindFault) → ((g : KindFault) → ¬ (R [] w g)) →
    R (w ∷ []) x f → ((g : KindFault) → R (w ∷ []) x g → fault_number f ≤ fault_number g) → IsFirstRefused R (w ∷ x ∷ more) x f
behind_one R w x more f fine refused lowest =
    record { before = w ∷ []; after = more; stands = refl; refused = refused; lowest = lowest; none_before = none_refused R (w ∷ []) (fine, tt) }

pub unknown_row : IsKindRefusal unknown_process UnknownName (at 1 8)
unknown_row = in_second_pass (none_refused IsRedeclared [] tt) (at_once IsRefusedAt (Used (environment_of unknown_process) (AsEquation 0) (named (codes "P") 1 8)) [] UnknownName (unknown refl) lowest)
  where
    lowest : (g : KindFault) → IsRefusedSite (Used (environment_of unknown_process) (AsEquation 0) (named (codes "P") 1 8)) g → 1 ≤ fault_number g
    lowest g (unknown h) = omega arith
    lowest g (wrong_class h s) = omega arith
    lowest g (arguments h s) = omega arith

pub freedom_row : IsKindRefusal unknown_in_freedom UnknownName (at 1 12)
freedom_row = in_second_pass (none_refused IsRedeclared [] tt) (at_once IsRefusedAt (Used (environment_of unknown_in_freedom) (AsEquation 0) (named (codes "P") 1 12)) [] UnknownName (unknown refl) lowest)
  where
    lowest : (g : KindFault) → IsRefusedSite (Used (environment_of unknown_in_freedom) (AsEquation 0) (named (codes "P") 1 12)) g → 1 ≤ fault_number g
    lowest g (unknown h) = omega arith
    lowest g (wrong_class h s) = omega arith
    lowest g (arguments h s) = omega arith

-- ---- a channel's name as a parameter

abbrev tail_of_sites : List Site → List Site
tail_of_sites [] = []
tail_of_sites (x ∷ xs) = xs

lt_true : {m n : ℕ} → nat_lt m n ≡ true → m < n
lt_true {m} {n} e = ltb-true m n e

nat_lt_true : {m n : ℕ} → m < n → nat_lt m n ≡ true
nat_lt_true {m} {n} e = lt-ltb m n e

-- a channel without fields, or one whose sets have no members, is not too many
no_events : (n : RawName) (types : Types) (so_far : RawScript) (f : KindFault) → ¬ (IsRefusedSite (ChannelHead n types so_far [] (Some [])) f)
no_events n types so_far f (too_many_events some many) = omega arith

not_counted : (n : RawName) (types : Types) (so_far : RawScript) (f : KindFault) → ¬ (IsRefusedSite (ChannelHead n types so_far [] None) f)
not_counted n types so_far f h = elim h [ ]

pub parameter_row : IsKindRefusal declared_parameter DeclaredTwice (at 2 3)
parameter_row = in_second_pass
    (none_refused IsRedeclared (all_declared declared_parameter) (new [] (named (codes "n") 1 9) refl, (new (named (codes "n") 1 9 ∷ []) (named (codes "P") 2 1) refl, tt)))
    (behind_one IsRefusedAt (ChannelHead (named (codes "n") 1 9) (types_of declared_parameter) (take 1 declared_parameter) [] (Some []))
    (Parameter (environment_of declared_parameter) (named (codes "n") 2 3)) [] DeclaredTwice
    (no_events (named (codes "n") 1 9) (types_of declared_parameter) (take 1 declared_parameter)) (parameter_declared refl) lowest)
  where
    lowest : (g : KindFault) → IsRefusedSite (Parameter (environment_of declared_parameter) (named (codes "n") 2 3)) g → 2 ≤ fault_number g
    lowest g (parameter_declared h) = omega arith
    lowest g (parameter_again h) = omega arith

-- ---- a channel as a process

pub class_row : IsKindRefusal channel_as_process WrongKind (at 2 5)
class_row = in_second_pass
    (none_refused IsRedeclared (all_declared channel_as_process) (new [] (named (codes "c") 1 9) refl, (new (named (codes "c") 1 9 ∷ []) (named (codes "P") 2 1) refl, tt)))
    (behind_one IsRefusedAt (ChannelHead (named (codes "c") 1 9) (types_of channel_as_process) (take 1 channel_as_process) [] (Some []))
    (Used (environment_of channel_as_process) (AsEquation 0) (named (codes "c") 2 5)) [] WrongKind
    (no_events (named (codes "c") 1 9) (types_of channel_as_process) (take 1 channel_as_process)) (wrong_class refl refl) lowest)
  where
    lowest : (g : KindFault) → IsRefusedSite (Used (environment_of channel_as_process) (AsEquation 0) (named (codes "c") 2 5)) g → 3 ≤ fault_number g
    lowest g (unknown h) = absurd (cc h)
    lowest g (wrong_class h s) = omega arith
    lowest g (arguments h s) = omega arith

-- ---- a call with too few arguments

pub count_row : IsKindRefusal too_few_arguments WrongCount (at 2 8)
count_row = in_second_pass
    (none_refused IsRedeclared (all_declared too_few_arguments) (new [] (named (codes "P") 1 1) refl, tt))
    (behind_one IsRefusedAt (Parameter (environment_of too_few_arguments) (named (codes "n") 1 3)) (Used (environment_of too_few_arguments) (AsEquation 0) (named (codes "P") 2 8)) [] WrongCount
    fine (arguments {p = 1} refl (λ e. cc e)) lowest)
  where
    fine : (g : KindFault) → ¬ (IsRefusedSite (Parameter (environment_of too_few_arguments) (named (codes "n") 1 3)) g)
    fine g (parameter_declared h) = absurd (cc h)
    fine g (parameter_again h) = absurd (cc h)

    suited : (m : Meaning) → Some (Declared EquationName 0) ≡ Some m → IsFalse (suits (AsEquation 0) m) → ⊥
    suited m e unsuited = let same : Declared EquationName 0 ≡ m = cc e in let P : Meaning → Type 0 = λ x. IsFalse (suits (AsEquation 0) x) in absurd (let f = subst P (sym same) unsuited in cc f)

    lowest : (g : KindFault) → IsRefusedSite (Used (environment_of too_few_arguments) (AsEquation 0) (named (codes "P") 2 8)) g → 4 ≤ fault_number g
    lowest g (unknown h) = absurd (cc h)
    lowest g (wrong_class {m = m} h s) = absurd (suited m h s)
    lowest g (arguments h s) = omega arith

-- ---- the set of a field without members, and a too large one

abbrev pub some_kinds : List (List Kind) → Kinds
some_kinds cs = record { nametypes = []; constructors = []; channels = cs; parameters = [] }

pub empty_row : IsKindRefusal empty_field_set BadFieldSet (at 1 13)
empty_row = in_second_pass
    (none_refused IsRedeclared (all_declared empty_field_set) (new [] (named (codes "c") 1 9) refl, tt))
    (behind_one IsRefusedAt (ChannelHead (named (codes "c") 1 9) (types_of empty_field_set) empty_field_set [] None)
    (FieldSet (at 1 13) (types_of empty_field_set) empty_field_set (Some (SetOf no_expressions)) None) [] BadFieldSet
    (not_counted (named (codes "c") 1 9) (types_of empty_field_set) empty_field_set) (no_member fit) lowest)
  where
    fit : SomeFit (types_of empty_field_set) empty_field_set
    fit = (some_kinds ((IntKind ∷ []) ∷ []), record { nametypes = tt; constructors = tt; channels = ((tt, tt), tt) })

    lowest : (g : KindFault) → IsRefusedSite (FieldSet (at 1 13) (types_of empty_field_set) empty_field_set (Some (SetOf no_expressions)) None) g → 5 ≤ fault_number g
    lowest g (field_kind none) = absurd (none fit)
    lowest g (no_member some) = omega arith

abbrev large : Expression
large = Range (Literal (Integer (pos 0))) (Literal (Integer (pos 1024)))

pub large_row : IsKindRefusal large_field_set BadFieldSet (at 1 13)
large_row = in_second_pass
    (none_refused IsRedeclared (all_declared large_field_set) (new [] (named (codes "c") 1 9) refl, tt))
    (behind_one IsRefusedAt (ChannelHead (named (codes "c") 1 9) (types_of large_field_set) large_field_set [] None)
    (FieldSet (at 1 13) (types_of large_field_set) large_field_set (Some large) None) [] BadFieldSet
    (not_counted (named (codes "c") 1 9) (types_of large_field_set) large_field_set) (no_member fit) lowest)
  where
    fit : SomeFit (types_of large_field_set) large_field_set
    fit = (some_kinds ((IntKind ∷ []) ∷ []), record { nametypes = tt; constructors = tt; channels = (((tt, tt), tt), tt) })

    lowest : (g : KindFault) → IsRefusedSite (FieldSet (at 1 13) (types_of large_field_set) large_field_set (Some large) None) g → 5 ≤ fault_number g
    lowest g (field_kind none) = absurd (none fit)
    lowest g (no_member some) = omega arith

-- ---- a channel declared twice

pub twice_row : IsKindRefusal channel_twice DeclaredTwice (at 2 9)
twice_row = in_first_pass (behind_one IsRedeclared (named (codes "a") 1 9) (named (codes "a") 2 9) [] DeclaredTwice (new [] (named (codes "a") 1 9) refl) (redeclared refl) lowest)
  where
    lowest : (g : KindFault) → IsRedeclared (named (codes "a") 1 9 ∷ []) (named (codes "a") 2 9) g → 2 ≤ fault_number g
    lowest g (redeclared h) = omega arith

-- ---- too many events

abbrev many_members : List (List Value)
many_members = numbers_from (pos 0) 1024 ∷ numbers_from (pos 0) 5 ∷ []

pub events_row : IsKindRefusal many_events TooManyEvents (at 1 9)
events_row = in_second_pass
    (none_refused IsRedeclared (all_declared many_events) (new [] (named (codes "c") 1 9) refl, tt))
    (at_once IsRefusedAt (ChannelHead (named (codes "c") 1 9) (types_of many_events) many_events [] (Some many_members))
    (tail_of_sites (sites many_events)) TooManyEvents (too_many_events fit (lt_true refl)) lowest)
  where
    fit : SomeFit (types_of many_events) many_events
    fit = (some_kinds ((IntKind ∷ IntKind ∷ []) ∷ []), record { nametypes = tt; constructors = tt; channels = (((tt, tt), ((tt, tt), tt)), tt) })

    lowest : (g : KindFault) → IsRefusedSite (ChannelHead (named (codes "c") 1 9) (types_of many_events) many_events [] (Some many_members)) g → 6 ≤ fault_number g
    lowest g (too_many_events h m) = omega arith

-- ---- a parameter that would be of the kind of its own sequences

abbrev grown : Process
grown = Call 0 (expression_and (SequenceOf (expression_and (Name 0) no_expressions)) no_expressions)

abbrev growing : Script
growing = record {
  types = record { datatypes = []; nametypes = []; constructors = [] };
  channels = [];
  equations = record { parameters = 0 ∷ []; body = grown } ∷ [];
  assertions = [];
  channel_names = [];
  constructor_names = [];
  unfolds = ByTau;
}

growing_is : IsScriptOf growing_parameter growing
growing_is = record { datatypes = refl; nametypes = refl; constructors = refl; channels = refl; equations = refl; assertions = refl; channel_names = refl; constructor_names = refl; unfolds = refl }

no_cycle : (k : Kind) → SequenceKind k ≡ k → ⊥
no_cycle IntKind e = cc e
no_cycle BoolKind e = cc e
no_cycle (DatatypeKind d) e = cc e
no_cycle (SetKind k) e = cc e
no_cycle (SequenceKind k) e = no_cycle k (cc e)

-- the argument and the parameter have no kind
no_kind : (kinds : Kinds) (ks : List Kind) → HaveKinds growing.types kinds (scope_of (0 ∷ []) ks) (expression_and (SequenceOf (expression_and (Name 0) no_expressions)) no_expressions) ks → ⊥
no_kind kinds [] h = h
no_kind kinds (SequenceKind m ∷ []) h = no_cycle m (let e = h.0.0 in cc e)
no_kind kinds (IntKind ∷ []) h = h.0
no_kind kinds (BoolKind ∷ []) h = h.0
no_kind kinds (DatatypeKind d ∷ []) h = h.0
no_kind kinds (SetKind m ∷ []) h = h.0
no_kind kinds (k ∷ l ∷ ks) h = h.1

misfits : (kinds : Kinds) → ¬ (FitKinds growing_parameter growing kinds (EquationItem (at 1 1) 0 ∷ []))
misfits kinds fit = go fit.each.0
  where
    go : FitsItem growing kinds (EquationItem (at 1 1) 0) → ⊥
    go h =
        let same : record { parameters = 0 ∷ []; body = grown } ≡ h.0 = cc h.2 in
        let P : Equation → Type 0 = λ q. IsWellKindedEquation growing kinds q h.1 in
        let w : P (record { parameters = 0 ∷ []; body = grown }) = subst P (sym same) h.4 in
        let called = w.body in
        let those : called.0 ≡ h.1 = (let e = sym called.1 ∙ h.3 in cc e) in
        let Q : List Kind → Type 0 = λ ks. HaveKinds growing.types kinds (scope_of (0 ∷ []) h.1) (expression_and (SequenceOf (expression_and (Name 0) no_expressions)) no_expressions) ks in
        no_kind kinds h.1 (subst Q those called.2)

pub kinds_row : IsKindRefusal growing_parameter WrongKind (at 1 1)
kinds_row = in_third_pass (record {
  once = none_refused IsRedeclared (all_declared growing_parameter) (new [] (named (codes "P") 1 1) refl, tt);
  fine =
      none_refused IsRefusedAt (sites growing_parameter) (parameter_fine, (call_fine, (use_fine, tt)));
})
    growing_is (at_once (IsMisfit growing_parameter growing) (EquationItem (at 1 1) 0) [] WrongKind (misfit misfits) lowest)
  where
    parameter_fine : (g : KindFault) → ¬ (IsRefusedSite (Parameter (environment_of growing_parameter) (named (codes "n") 1 3)) g)
    parameter_fine g (parameter_declared h) = absurd (cc h)
    parameter_fine g (parameter_again h) = absurd (cc h)

    suited : (u : Use) (m n : Meaning) → Some m ≡ Some n → suits u m ≡ true → IsFalse (suits u n) → ⊥
    suited u m n e does unsuited = let same : m ≡ n = cc e in let both : true ≡ false = sym does ∙ ap (suits u) same ∙ unsuited in cc both

    call_fine : (g : KindFault) → ¬ (IsRefusedSite (Used (binding (environment_of growing_parameter) (named (codes "n") 1 3 ∷ [])) (AsEquation 1) (named (codes "P") 1 8)) g)
    call_fine g (unknown h) = absurd (cc h)
    call_fine g (wrong_class {m = m} h s) = absurd (suited (AsEquation 1) (Declared EquationName 0) m h refl s)
    call_fine g (arguments h s) = absurd (s (cc h))

    use_fine : (g : KindFault) → ¬ (IsRefusedSite (Used (binding (environment_of growing_parameter) (named (codes "n") 1 3 ∷ [])) AsExpression (named (codes "n") 1 11)) g)
    use_fine g (unknown h) = absurd (cc h)
    use_fine g (wrong_class {m = m} h s) = absurd (suited AsExpression (Bound 0) m h refl s)
    use_fine g (bare_constructor h s) = absurd (cc h)

    lowest : (g : KindFault) → IsMisfit growing_parameter growing [] (EquationItem (at 1 1) 0) g → 3 ≤ fault_number g
    lowest g (misfit h) = omega arith
