-- Sites of small trees that are fine.
use Rattle.std.specs.Prelude.{IsFalse, is_some}
use Rattle.std.proofs.lemmas.Bool.{lt-ltb}
use Rattle.std.proofs.Common.{◌≡◌, ℕ, nat_lt, Bool, true, false, List, ◌∷◌, Option, Some, None, sym, ap, ◌∙◌}
use Rattle.theory_syntax.specs.Value.{Value}
use Rattle.theory_syntax.specs.Expression.{Expression}
use Rattle.theory_syntax.specs.Types.{Types}
use Rattle.theory_text.specs.Place.{Place}
use Rattle.theory_text.specs.Raw.{RawName, RawScript}
use Rattle.theory_checking.specs.Names.{Meaning, declared_meaning, has_spelling, Environment, meaning}
use Rattle.theory_checking.specs.Resolving.{constructor_count}
use Rattle.theory_checking.specs.Sets.{number_of_events}
use Rattle.theory_checking.specs.Sites.{Use, AsExpression, AsConstructor, AsEquation, AsEvent, AsBareLeft, Used, BoundThere, Parameter, FieldSet, ChannelHead}
pub use Rattle.theory_checking.specs.Walks.{IsFine}
use Rattle.theory_checking.specs.Rules.{suits, parameter_count, field_count, SomeFit, most_events, unknown, bound_declared, parameter_declared, parameter_again, wrong_class, bare_constructor, constructor, arguments, fields, left_fields, field_kind, too_many_events}

not_both : {b : Bool} → b ≡ false → b ≡ true → ⊥
not_both e f = let both : false ≡ true = sym e ∙ f in cc both

missing : {A : Type 0} {o : Option A} {x : A} → o ≡ None → o ≡ Some x → ⊥
missing e f = let both = sym e ∙ f in cc both

same_there : {A : Type 0} {o : Option A} {x y : A} → o ≡ Some x → o ≡ Some y → x ≡ y
same_there e f = let both = sym e ∙ f in cc both

not_unsuited : (u : Use) {o : Option Meaning} {m k : Meaning} → o ≡ Some m → suits u m ≡ true → o ≡ Some k → IsFalse (suits u k) → ⊥
not_unsuited u e s f g = not_both g (ap (suits u) (sym (same_there e f)) ∙ s)

-- where it is a constructor, it has no fields
pub expression_fine : (env : Environment) (n : RawName) (m : Meaning) → meaning env n ≡ Some m → suits AsExpression m ≡ true →
    ((p : ℕ) → constructor_count env n ≡ Some p → p ≡ 0) → IsFine (Used env AsExpression n)
expression_fine env n m e s alone f (unknown h) = missing h e
expression_fine env n m e s alone f (wrong_class h r) = not_unsuited AsExpression e s h r
expression_fine env n m e s alone f (bare_constructor {p = p} h r) = r (alone p h)

pub constructor_fine : (env : Environment) (k : ℕ) (n : RawName) (m : Meaning) → meaning env n ≡ Some m → suits (AsConstructor k) m ≡ true →
    constructor_count env n ≡ Some k → IsFine (Used env (AsConstructor k) n)
constructor_fine env k n m e s c f (unknown h) = missing h e
constructor_fine env k n m e s c f (wrong_class h r) = not_unsuited (AsConstructor k) e s h r
constructor_fine env k n m e s c f (constructor h r) = r (same_there h c)

pub equation_fine : (env : Environment) (k : ℕ) (n : RawName) (m : Meaning) → meaning env n ≡ Some m → suits (AsEquation k) m ≡ true →
    parameter_count env n ≡ Some k → IsFine (Used env (AsEquation k) n)
equation_fine env k n m e s c f (unknown h) = missing h e
equation_fine env k n m e s c f (wrong_class h r) = not_unsuited (AsEquation k) e s h r
equation_fine env k n m e s c f (arguments h r) = r (same_there h c)

pub event_fine : (env : Environment) (k : ℕ) (n : RawName) (m : Meaning) → meaning env n ≡ Some m → suits (AsEvent k) m ≡ true → field_count env n ≡ Some k → IsFine (Used env (AsEvent k) n)
event_fine env k n m e s c f (unknown h) = missing h e
event_fine env k n m e s c f (wrong_class h r) = not_unsuited (AsEvent k) e s h r
event_fine env k n m e s c f (fields h r) = r (same_there h c)

-- the left channel of a renaming of two bare ones with equal numbers of fields
pub left_fine : (env : Environment) (n other : RawName) (m : Meaning) (p : ℕ) → meaning env n ≡ Some m → suits (AsBareLeft other) m ≡ true →
    field_count env n ≡ Some p → field_count env other ≡ Some p → IsFine (Used env (AsBareLeft other) n)
left_fine env n other m p e s c d f (unknown h) = missing h e
left_fine env n other m p e s c d f (wrong_class h r) = not_unsuited (AsBareLeft other) e s h r
left_fine env n other m p e s c d f (left_fields h r q) = q (d ∙ ap Some (same_there c h))

pub parameter_fine : (env : Environment) (n : RawName) → declared_meaning env.declarations n.spelling ≡ None → has_spelling env.bound n.spelling ≡ false → IsFine (Parameter env n)
parameter_fine env n e s f (parameter_declared h) = not_both (ap is_some e) h
parameter_fine env n e s f (parameter_again h) = not_both s h

pub bound_fine : (env : Environment) (n : RawName) → declared_meaning env.declarations n.spelling ≡ None → IsFine (BoundThere env n)
bound_fine env n e f (bound_declared h) = not_both (ap is_some e) h

pub field_fine : (p : Place) (types : Types) (so_far : RawScript) (e : Option Expression) (ms : List Value) → SomeFit types so_far → IsFine (FieldSet p types so_far e (Some ms))
field_fine p types so_far e ms fit f (field_kind h) = h fit

pub head_fine : (n : RawName) (types : Types) (so_far : RawScript) (before : List (Option (List (List Value)))) (sets : List (List Value)) →
    nat_lt most_events (number_of_events (Some sets ∷ before)) ≡ false → IsFine (ChannelHead n types so_far before (Some sets))
head_fine n types so_far before sets few f (too_many_events fit many) = not_both few (lt-ltb most_events (number_of_events (Some sets ∷ before)) many)

pub unmembered_fine : (n : RawName) (types : Types) (so_far : RawScript) (before : List (Option (List (List Value)))) → IsFine (ChannelHead n types so_far before None)
unmembered_fine n types so_far before f h = elim h [ ]
