-- What a single site comes to, rule by rule: it is fine, or a walk stops there with the lowest of its faults.
use Rattle.std.specs.Prelude.{◌<◌, IsFalse, is_some, flat_map, slice_get, option_and_then}
use Rattle.std.specs.Prelude.{◌↔◌}
use Rattle.std.proofs.Common.{◌≡◌, ◌≢◌, ◌≤◌, ℕ, Bool, true, false, List, [], ◌∷◌, length, Option, Some, None, refl, sym, ap, ◌∙◌, arith}
use Rattle.theory_syntax.specs.Value.{Value}
use Rattle.theory_syntax.specs.Expression.{Expression}
use Rattle.theory_syntax.specs.Types.{Types}
use Rattle.theory_text.specs.Place.{Place}
use Rattle.theory_text.specs.Raw.{RawName, RawScript}
use Rattle.theory_checking.specs.Names.{Meaning, declared_meaning, has_spelling, Environment, meaning}
use Rattle.theory_checking.specs.Resolving.{as_channel, constructor_count}
use Rattle.theory_checking.specs.Sets.{number_of_events}
use Rattle.theory_checking.specs.Sites.{Use, AsExpression, AsConstructor, AsEquation, AsEvent, AsProductions, AsBareLeft, AsBareRight, Used, BoundThere, Parameter, NametypeSet, FieldSet, ChannelHead}
use Rattle.theory_checking.specs.Faults.{KindFault, UnknownName, DeclaredTwice, WrongKind, WrongCount, BadFieldSet, TooManyEvents, fault_number}
use Rattle.theory_checking.specs.Rules.{suits, fields_declared, parameter_count, field_count, SomeFit, HasFieldSets, most_events, IsRefusedSite, unknown, bound_declared, parameter_declared, parameter_again, wrong_class, bare_constructor, constructor, arguments, fields, left_fields, right_fields, too_many_fields, other_sets, nametype_kind, field_kind, no_value, no_member, too_many_events}
use Rattle.theory_checking.specs.Walks.{IsFine, IsStoppedAt}
use Rattle.theory_checking.proofs.Counts.{fields_of_sets}
use Rattle.theory_checking.proofs.Walking.{stopped_here}

not_both : {b : Bool} → b ≡ false → b ≡ true → ⊥
not_both e f = let both : false ≡ true = sym e ∙ f in cc both

missing : {A : Type 0} {o : Option A} {x : A} → o ≡ None → o ≡ Some x → ⊥
missing e f = let both = sym e ∙ f in cc both

same_there : {A : Type 0} {o : Option A} {x y : A} → o ≡ Some x → o ≡ Some y → x ≡ y
same_there e f = let both = sym e ∙ f in cc both

unsuited : (u : Use) {o : Option Meaning} {m k : Meaning} → o ≡ Some m → suits u m ≡ true → o ≡ Some k → IsFalse (suits u k) → ⊥
unsuited u e s f g = not_both g (ap (suits u) (sym (same_there e f)) ∙ s)

-- ---- K01: a name without a meaning

pub from_one : (g : KindFault) → 1 ≤ fault_number g
from_one UnknownName = omega arith
from_one DeclaredTwice = omega arith
from_one WrongKind = omega arith
from_one WrongCount = omega arith
from_one BadFieldSet = omega arith
from_one TooManyEvents = omega arith

pub unknown_stops : (env : Environment) (u : Use) (n : RawName) → meaning env n ≡ None → IsStoppedAt (Used env u n ∷ []) UnknownName n.place
unknown_stops env u n e = stopped_here (Used env u n) [] UnknownName (unknown e) (λ g r. from_one g)

-- ---- K03: a meaning that does not suit

-- at a name with a meaning
from_three : (env : Environment) (u : Use) (n : RawName) (m : Meaning) → meaning env n ≡ Some m → (g : KindFault) → IsRefusedSite (Used env u n) g → 3 ≤ fault_number g
from_three env u n m e g (unknown h) = absurd (missing h e)
from_three env u n m e g (wrong_class h r) = omega arith
from_three env u n m e g (bare_constructor h r) = omega arith
from_three env u n m e g (constructor h r) = omega arith
from_three env u n m e g (arguments h r) = omega arith
from_three env u n m e g (fields h r) = omega arith
from_three env u n m e g (left_fields h r q) = omega arith
from_three env u n m e g (right_fields h r q) = omega arith
from_three env u n m e g (too_many_fields h r) = omega arith
from_three env u n m e g (other_sets is_left is_right s t equal unlike) = omega arith

pub class_stops : (env : Environment) (u : Use) (n : RawName) (m : Meaning) → meaning env n ≡ Some m → suits u m ≡ false → IsStoppedAt (Used env u n ∷ []) WrongKind n.place
class_stops env u n m e s = stopped_here (Used env u n) [] WrongKind (wrong_class e s) (from_three env u n m e)

-- ---- K04: another number of arguments or fields

pub bare_stops : (env : Environment) (n : RawName) (m : Meaning) (p : ℕ) → meaning env n ≡ Some m → suits AsExpression m ≡ true →
    constructor_count env n ≡ Some p → p ≢ 0 → IsStoppedAt (Used env AsExpression n ∷ []) WrongCount n.place
bare_stops env n m p e s c other = stopped_here (Used env AsExpression n) [] WrongCount (bare_constructor c other) lowest
  where
    lowest : (g : KindFault) → IsRefusedSite (Used env AsExpression n) g → 4 ≤ fault_number g
    lowest g (unknown h) = absurd (missing h e)
    lowest g (wrong_class h r) = absurd (unsuited AsExpression e s h r)
    lowest g (bare_constructor h r) = omega arith

pub constructor_stops : (env : Environment) (k : ℕ) (n : RawName) (m : Meaning) (p : ℕ) → meaning env n ≡ Some m → suits (AsConstructor k) m ≡ true →
    constructor_count env n ≡ Some p → p ≢ k → IsStoppedAt (Used env (AsConstructor k) n ∷ []) WrongCount n.place
constructor_stops env k n m p e s c other = stopped_here (Used env (AsConstructor k) n) [] WrongCount (constructor c other) lowest
  where
    lowest : (g : KindFault) → IsRefusedSite (Used env (AsConstructor k) n) g → 4 ≤ fault_number g
    lowest g (unknown h) = absurd (missing h e)
    lowest g (wrong_class h r) = absurd (unsuited (AsConstructor k) e s h r)
    lowest g (constructor h r) = omega arith

pub arguments_stop : (env : Environment) (k : ℕ) (n : RawName) (m : Meaning) (p : ℕ) → meaning env n ≡ Some m → suits (AsEquation k) m ≡ true →
    parameter_count env n ≡ Some p → p ≢ k → IsStoppedAt (Used env (AsEquation k) n ∷ []) WrongCount n.place
arguments_stop env k n m p e s c other = stopped_here (Used env (AsEquation k) n) [] WrongCount (arguments c other) lowest
  where
    lowest : (g : KindFault) → IsRefusedSite (Used env (AsEquation k) n) g → 4 ≤ fault_number g
    lowest g (unknown h) = absurd (missing h e)
    lowest g (wrong_class h r) = absurd (unsuited (AsEquation k) e s h r)
    lowest g (arguments h r) = omega arith

pub fields_stop : (env : Environment) (k : ℕ) (n : RawName) (m : Meaning) (p : ℕ) → meaning env n ≡ Some m → suits (AsEvent k) m ≡ true →
    field_count env n ≡ Some p → p ≢ k → IsStoppedAt (Used env (AsEvent k) n ∷ []) WrongCount n.place
fields_stop env k n m p e s c other = stopped_here (Used env (AsEvent k) n) [] WrongCount (fields c other) lowest
  where
    lowest : (g : KindFault) → IsRefusedSite (Used env (AsEvent k) n) g → 4 ≤ fault_number g
    lowest g (unknown h) = absurd (missing h e)
    lowest g (wrong_class h r) = absurd (unsuited (AsEvent k) e s h r)
    lowest g (fields h r) = omega arith

pub productions_stop : (env : Environment) (k : ℕ) (n : RawName) (m : Meaning) (p : ℕ) → meaning env n ≡ Some m → suits (AsProductions k) m ≡ true →
    field_count env n ≡ Some p → p < k → IsStoppedAt (Used env (AsProductions k) n ∷ []) WrongCount n.place
productions_stop env k n m p e s c more = stopped_here (Used env (AsProductions k) n) [] WrongCount (too_many_fields c more) lowest
  where
    lowest : (g : KindFault) → IsRefusedSite (Used env (AsProductions k) n) g → 4 ≤ fault_number g
    lowest g (unknown h) = absurd (missing h e)
    lowest g (wrong_class h r) = absurd (unsuited (AsProductions k) e s h r)
    lowest g (too_many_fields h r) = omega arith

pub productions_fine : (env : Environment) (k : ℕ) (n : RawName) (m : Meaning) (p : ℕ) → meaning env n ≡ Some m → suits (AsProductions k) m ≡ true →
    field_count env n ≡ Some p → k ≤ p → IsFine (Used env (AsProductions k) n)
productions_fine env k n m p e s c few f (unknown h) = missing h e
productions_fine env k n m p e s c few f (wrong_class h r) = unsuited (AsProductions k) e s h r
productions_fine env k n m p e s c few f (too_many_fields {p = q} h r) = let same : p ≡ q = same_there c h in let more : q < k = r in absurd (omega arith)

-- ---- a renaming of two bare channels

pub left_without_fields : (env : Environment) (n other : RawName) (m : Meaning) → meaning env n ≡ Some m → suits (AsBareLeft other) m ≡ true →
    field_count env n ≡ Some 0 → IsFine (Used env (AsBareLeft other) n)
left_without_fields env n other m e s c f (unknown h) = missing h e
left_without_fields env n other m e s c f (wrong_class h r) = unsuited (AsBareLeft other) e s h r
left_without_fields env n other m e s c f (left_fields h r q) = r (same_there h c)

pub left_stops : (env : Environment) (n other : RawName) (m : Meaning) (p : ℕ) → meaning env n ≡ Some m → suits (AsBareLeft other) m ≡ true →
    field_count env n ≡ Some p → p ≢ 0 → field_count env other ≢ Some p →
    IsStoppedAt (Used env (AsBareLeft other) n ∷ []) WrongCount n.place
left_stops env n other m p e s c some unlike = stopped_here (Used env (AsBareLeft other) n) [] WrongCount (left_fields c some unlike) lowest
  where
    lowest : (g : KindFault) → IsRefusedSite (Used env (AsBareLeft other) n) g → 4 ≤ fault_number g
    lowest g (unknown h) = absurd (missing h e)
    lowest g (wrong_class h r) = absurd (unsuited (AsBareLeft other) e s h r)
    lowest g (left_fields h r q) = omega arith

-- a channel has one row of field sets at most, as many as it has fields
pub one_row_of_sets : (raw : RawScript) (c : ℕ) (s t : List (List Value)) → HasFieldSets raw c s → HasFieldSets raw c t → s ≡ t
one_row_of_sets raw c s t h k = let both : Some (Some s) ≡ Some (Some t) = sym h.members ∙ k.members in cc both

sets_counted : (env : Environment) (n : RawName) (c : ℕ) (s : List (List Value)) → as_channel (meaning env n) ≡ Some c → HasFieldSets env.declarations c s → field_count env n ≡ Some (length s)
sets_counted env n c s e h = ap (option_and_then (slice_get (flat_map fields_declared env.declarations))) e ∙ fields_of_sets env.declarations c s h

no_members : {A : Type 0} (xs : List A) → length xs ≡ 0 → xs ≡ []
no_members [] e = refl
no_members (x ∷ xs) e = absurd (omega arith)

-- The right channel is fine where it has as many fields as the left one, or none, and rows of field sets of the two are equal.
pub right_fine : (env : Environment) (n left : RawName) (m : Meaning) (p : ℕ) → meaning env n ≡ Some m → suits (AsBareRight left) m ≡ true →
    field_count env n ≡ Some p → field_count env left ≡ Some p →
    ((c d : ℕ) (s t : List (List Value)) → as_channel (meaning env left) ≡ Some c → as_channel (meaning env n) ≡ Some d → HasFieldSets env.declarations c s →
    HasFieldSets env.declarations d t → s ≡ t) → IsFine (Used env (AsBareRight left) n)
right_fine env n left m p e s c d equal f (unknown h) = missing h e
right_fine env n left m p e s c d equal f (wrong_class h r) = unsuited (AsBareRight left) e s h r
right_fine env n left m p e s c d equal f (right_fields h r q) = q (d ∙ ap Some (same_there c h))
right_fine env n left m p e s c d equal f (other_sets {c = i} {d = j} {s = vs} {t = ws} is_left is_right has_left has_right like unlike) = unlike (equal i j vs ws is_left is_right has_left has_right)

pub right_without_fields : (env : Environment) (n left : RawName) (m : Meaning) → meaning env n ≡ Some m → suits (AsBareRight left) m ≡ true →
    field_count env n ≡ Some 0 → IsFine (Used env (AsBareRight left) n)
right_without_fields env n left m e s c f (unknown h) = missing h e
right_without_fields env n left m e s c f (wrong_class h r) = unsuited (AsBareRight left) e s h r
right_without_fields env n left m e s c f (right_fields h r q) = r (same_there h c)
right_without_fields env n left m e s c f (other_sets {d = j} {s = vs} {t = ws} is_left is_right has_left has_right like unlike) =
    let none : length ws ≡ 0 = same_there (sets_counted env n j ws is_right has_right) c in unlike (no_members vs (like ∙ none) ∙ sym (no_members ws none))

pub right_counts_stop : (env : Environment) (n left : RawName) (m : Meaning) (p : ℕ) → meaning env n ≡ Some m → suits (AsBareRight left) m ≡ true →
    field_count env n ≡ Some p → p ≢ 0 → field_count env left ≢ Some p →
    IsStoppedAt (Used env (AsBareRight left) n ∷ []) WrongCount n.place
right_counts_stop env n left m p e s c some unlike_counts = stopped_here (Used env (AsBareRight left) n) [] WrongCount (right_fields c some unlike_counts) lowest
  where
    lowest : (g : KindFault) → IsRefusedSite (Used env (AsBareRight left) n) g → 4 ≤ fault_number g
    lowest g (unknown h) = absurd (missing h e)
    lowest g (wrong_class h r) = absurd (unsuited (AsBareRight left) e s h r)
    lowest g (right_fields h r q) = omega arith
    lowest g (other_sets {c = i} {d = j} {s = vs} {t = ws} is_left is_right has_left has_right like unlike) =
        let right_count : length ws ≡ p = same_there (sets_counted env n j ws is_right has_right) c in
        absurd (unlike_counts (sets_counted env left i vs is_left has_left ∙ ap Some (like ∙ right_count)))

pub right_sets_stop : (env : Environment) (n left : RawName) (m : Meaning) (c d : ℕ) (vs ws : List (List Value)) → meaning env n ≡ Some m →
    as_channel (meaning env left) ≡ Some c → as_channel (meaning env n) ≡ Some d →
    HasFieldSets env.declarations c vs → HasFieldSets env.declarations d ws → length vs ≡ length ws → vs ≢ ws → IsStoppedAt (Used env (AsBareRight left) n ∷ []) WrongKind n.place
right_sets_stop env n left m c d vs ws e is_left is_right has_left has_right like unlike =
    stopped_here (Used env (AsBareRight left) n) [] WrongKind (other_sets is_left is_right has_left has_right like unlike) (from_three env (AsBareRight left) n m e)

-- equal numbers of fields are equal lengths of the rows
pub rows_as_long : (env : Environment) (n left : RawName) (p c d : ℕ) (vs ws : List (List Value)) → field_count env n ≡ Some p →
    field_count env left ≡ Some p → as_channel (meaning env left) ≡ Some c → as_channel (meaning env n) ≡ Some d →
    HasFieldSets env.declarations c vs → HasFieldSets env.declarations d ws → length vs ≡ length ws
rows_as_long env n left p c d vs ws fields_right fields_left is_left is_right has_left has_right =
    same_there (sets_counted env left c vs is_left has_left) fields_left ∙ sym (same_there (sets_counted env n d ws is_right has_right) fields_right)

-- By a table that has the field sets of each channel of which no rule refuses one: two channels with equal numbers of
-- fields are fine where one has no row there or the rows are equal, and are else refused.
module _ (env : Environment) (n left : RawName) (m : Meaning) (p c d : ℕ) (table : List (Option (List (List Value))))
    (knows : (i : ℕ) (sets : List (List Value)) → (slice_get table i ≡ Some (Some sets)) ↔ HasFieldSets env.declarations i sets)
    (means : meaning env n ≡ Some m) (fits : suits (AsBareRight left) m ≡ true) (fields_right : field_count env n ≡ Some p) (fields_left : field_count env left ≡ Some p)
    (is_left : as_channel (meaning env left) ≡ Some c) (is_right : as_channel (meaning env n) ≡ Some d) where
  by_rows : ((vs ws : List (List Value)) → slice_get table c ≡ Some (Some vs) → slice_get table d ≡ Some (Some ws) → vs ≡ ws) → IsFine (Used env (AsBareRight left) n)
  by_rows equal = right_fine env n left m p means fits fields_right fields_left rows
    where
      rows : (i j : ℕ) (vs ws : List (List Value)) → as_channel (meaning env left) ≡ Some i → as_channel (meaning env n) ≡ Some j →
          HasFieldSets env.declarations i vs → HasFieldSets env.declarations j ws → vs ≡ ws
      rows i j vs ws e f has_left has_right =
          equal vs ws (ap (slice_get table) (same_there is_left e) ∙ (knows i vs).1 has_left) (ap (slice_get table) (same_there is_right f) ∙ (knows j ws).1 has_right)

  pub equal_rows_fine : (vs ws : List (List Value)) → slice_get table c ≡ Some (Some vs) → slice_get table d ≡ Some (Some ws) → vs ≡ ws → IsFine (Used env (AsBareRight left) n)
  equal_rows_fine vs ws e f same = by_rows rows
    where
      rows : (v w : List (List Value)) → slice_get table c ≡ Some (Some v) → slice_get table d ≡ Some (Some w) → v ≡ w
      rows v w g h =
          let one : Some v ≡ Some vs = same_there g e in
          let other : Some w ≡ Some ws = same_there h f in
          let v_is : v ≡ vs = cc one in
          let w_is : w ≡ ws = cc other in v_is ∙ same ∙ sym w_is

  pub unknown_left_fine : ((vs : List (List Value)) → slice_get table c ≢ Some (Some vs)) → IsFine (Used env (AsBareRight left) n)
  unknown_left_fine none = by_rows (λ vs ws e f. absurd (none vs e))

  pub unknown_right_fine : ((ws : List (List Value)) → slice_get table d ≢ Some (Some ws)) → IsFine (Used env (AsBareRight left) n)
  unknown_right_fine none = by_rows (λ vs ws e f. absurd (none ws f))

  pub unlike_rows_stop : (vs ws : List (List Value)) → slice_get table c ≡ Some (Some vs) → slice_get table d ≡ Some (Some ws) → vs ≢ ws →
      IsStoppedAt (Used env (AsBareRight left) n ∷ []) WrongKind n.place
  unlike_rows_stop vs ws e f unlike =
      let has_left = (knows c vs).0 e in
      let has_right = (knows d ws).0 f in
      right_sets_stop env n left m c d vs ws means is_left is_right has_left has_right (rows_as_long env n left p c d vs ws fields_right fields_left is_left is_right has_left has_right) unlike

-- ---- K02: names that are bound

pub bound_stops : (env : Environment) (n : RawName) (m : Meaning) → declared_meaning env.declarations n.spelling ≡ Some m → IsStoppedAt (BoundThere env n ∷ []) DeclaredTwice n.place
bound_stops env n m e = stopped_here (BoundThere env n) [] DeclaredTwice (bound_declared (ap is_some e)) lowest
  where
    lowest : (g : KindFault) → IsRefusedSite (BoundThere env n) g → 2 ≤ fault_number g
    lowest g (bound_declared h) = omega arith

from_two : (env : Environment) (n : RawName) (g : KindFault) → IsRefusedSite (Parameter env n) g → 2 ≤ fault_number g
from_two env n g (parameter_declared h) = omega arith
from_two env n g (parameter_again h) = omega arith

pub declared_parameter_stops : (env : Environment) (n : RawName) (m : Meaning) → declared_meaning env.declarations n.spelling ≡ Some m → IsStoppedAt (Parameter env n ∷ []) DeclaredTwice n.place
declared_parameter_stops env n m e = stopped_here (Parameter env n) [] DeclaredTwice (parameter_declared (ap is_some e)) (from_two env n)

pub parameter_again_stops : (env : Environment) (n : RawName) → has_spelling env.bound n.spelling ≡ true → IsStoppedAt (Parameter env n ∷ []) DeclaredTwice n.place
parameter_again_stops env n e = stopped_here (Parameter env n) [] DeclaredTwice (parameter_again e) (from_two env n)

-- ---- sets: K03 where no kinds fit, else K05 where there are no members that count; nothing at a set in which a name is refused

pub refused_nametype_fine : (p : Place) (types : Types) (so_far : RawScript) (ms : Option (List Value)) → IsFine (NametypeSet p types so_far None ms)
refused_nametype_fine p types so_far ms f h = elim h [ ]

pub nametype_kind_stops : (p : Place) (types : Types) (so_far : RawScript) (e : Expression) (ms : Option (List Value)) → ¬ (SomeFit types so_far) →
    IsStoppedAt (NametypeSet p types so_far (Some e) ms ∷ []) WrongKind p
nametype_kind_stops p types so_far e ms none = stopped_here (NametypeSet p types so_far (Some e) ms) [] WrongKind (nametype_kind none) (lowest ms)
  where
    lowest : (vs : Option (List Value)) (g : KindFault) → IsRefusedSite (NametypeSet p types so_far (Some e) vs) g → 3 ≤ fault_number g
    lowest vs g (nametype_kind h) = omega arith
    lowest vs g (no_value h) = omega arith

pub no_value_stops : (p : Place) (types : Types) (so_far : RawScript) (e : Expression) → SomeFit types so_far → IsStoppedAt (NametypeSet p types so_far (Some e) None ∷ []) BadFieldSet p
no_value_stops p types so_far e some = stopped_here (NametypeSet p types so_far (Some e) None) [] BadFieldSet (no_value some) lowest
  where
    lowest : (g : KindFault) → IsRefusedSite (NametypeSet p types so_far (Some e) None) g → 5 ≤ fault_number g
    lowest g (nametype_kind h) = absurd (h some)
    lowest g (no_value h) = omega arith

pub nametype_fine : (p : Place) (types : Types) (so_far : RawScript) (e : Option Expression) (ms : List Value) → SomeFit types so_far → IsFine (NametypeSet p types so_far e (Some ms))
nametype_fine p types so_far e ms fit f (nametype_kind h) = h fit

pub refused_field_fine : (p : Place) (types : Types) (so_far : RawScript) (ms : Option (List Value)) → IsFine (FieldSet p types so_far None ms)
refused_field_fine p types so_far ms f h = elim h [ ]

pub field_kind_stops : (p : Place) (types : Types) (so_far : RawScript) (e : Expression) (ms : Option (List Value)) → ¬ (SomeFit types so_far) →
    IsStoppedAt (FieldSet p types so_far (Some e) ms ∷ []) WrongKind p
field_kind_stops p types so_far e ms none = stopped_here (FieldSet p types so_far (Some e) ms) [] WrongKind (field_kind none) (lowest ms)
  where
    lowest : (vs : Option (List Value)) (g : KindFault) → IsRefusedSite (FieldSet p types so_far (Some e) vs) g → 3 ≤ fault_number g
    lowest vs g (field_kind h) = omega arith
    lowest vs g (no_member h) = omega arith

pub no_member_stops : (p : Place) (types : Types) (so_far : RawScript) (e : Expression) → SomeFit types so_far → IsStoppedAt (FieldSet p types so_far (Some e) None ∷ []) BadFieldSet p
no_member_stops p types so_far e some = stopped_here (FieldSet p types so_far (Some e) None) [] BadFieldSet (no_member some) lowest
  where
    lowest : (g : KindFault) → IsRefusedSite (FieldSet p types so_far (Some e) None) g → 5 ≤ fault_number g
    lowest g (field_kind h) = absurd (h some)
    lowest g (no_member h) = omega arith

-- ---- K06: a channel with which there are too many events

pub head_stops : (n : RawName) (types : Types) (so_far : RawScript) (before : List (Option (List (List Value)))) (sets : List (List Value)) →
    SomeFit types so_far → most_events < number_of_events (Some sets ∷ before) →
    IsStoppedAt (ChannelHead n types so_far before (Some sets) ∷ []) TooManyEvents n.place
head_stops n types so_far before sets fit many = stopped_here (ChannelHead n types so_far before (Some sets)) [] TooManyEvents (too_many_events fit many) lowest
  where
    lowest : (g : KindFault) → IsRefusedSite (ChannelHead n types so_far before (Some sets)) g → 6 ≤ fault_number g
    lowest g (too_many_events h k) = omega arith

pub misfit_head_fine : (n : RawName) (types : Types) (so_far : RawScript) (before : List (Option (List (List Value)))) (own : Option (List (List Value))) →
    ¬ (SomeFit types so_far) → IsFine (ChannelHead n types so_far before own)
misfit_head_fine n types so_far before own none f (too_many_events fit many) = none fit
