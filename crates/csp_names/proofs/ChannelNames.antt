-- Names of channels and equations, and how many fields and arguments are given.
use Rattle.std.specs.Prelude.{flat_map, nat_lt, not, slice_get, option_and_then}
use Rattle.std.proofs.lemmas.Bool.{eqb-true, eqb-false, ltb-true, ltb-false}
use Rattle.std.proofs.Common.{◌≡◌, ◌<◌, ◌≤◌, ℕ, Bool, true, false, List, [], ◌∷◌, Option, Some, None, refl, sym, ap, ◌∙◌, subst}
use Rattle.theory_text.specs.Raw.{RawName}
use Rattle.csp_lex.specs.declared.places.Place.{Place}
use Rattle.csp_lex.specs.Places.{place_of}
use Rattle.theory_checking.specs.Names.{DatatypeName, ConstructorName, NametypeName, ChannelName, EquationName, Meaning, Declared, Bound, Environment, meaning}
use Rattle.theory_checking.specs.Resolving.{as_channel, as_equation}
use Rattle.theory_checking.specs.Rules.{suits, parameters_declared, fields_declared, parameter_count, field_count, unknown, wrong_class, arguments, fields, too_many_fields}
use Rattle.theory_checking.specs.Sites.{Use, AsExpression, AsConstructor, AsEquation, AsEvent, AsProductions, AsBareLeft, AsBareRight, Site, Used}
use Rattle.theory_checking.specs.Walks.{IsFine, IsStoppedAt}
use Rattle.theory_checking.proofs.FineSites.{equation_fine, event_fine}
use Rattle.theory_checking.proofs.SingleSites.{arguments_stop, class_stops, fields_stop, productions_fine, productions_stop}
use Rattle.csp_names.specs.declared.refusals.KindFault.{KindFault}
use Rattle.csp_names.specs.declared.refusals.KindFault.TheVariants as fault
use Rattle.csp_names.specs.declared.refusals.Refused.{Refused}
use Rattle.csp_names.specs.declared.refusals.Refused.TheVariants as refused
use Rattle.csp_names.specs.declared.scope.Scope.{Scope}
use Rattle.csp_names.specs.Names.{agree, suffice}
use Rattle.csp_names.specs.Refusals.{fault_of}
use Rattle.csp_names.specs.Scopes.{KnowsScript}
use Rattle.csp_names.specs.Walks.{Stops, uses_channel}

pub stops_at : (sites : List Site) (r : Refused) (f : KindFault) (p : Place) → r ≡ refused.Fault f p → IsStoppedAt sites (fault_of f) (place_of p) → Stops sites r
stops_at sites r f p is h = let P : Refused → Type 0 = Stops sites in subst P (sym is) h

-- ---- what a meaning is

pub is_channel : (m : Meaning) (c : ℕ) → Some c ≡ as_channel (Some m) → m ≡ Declared ChannelName c
is_channel (Bound k) c e = absurd (cc e)
is_channel (Declared DatatypeName k) c e = absurd (cc e)
is_channel (Declared ConstructorName k) c e = absurd (cc e)
is_channel (Declared NametypeName k) c e = absurd (cc e)
is_channel (Declared ChannelName k) c e = let same : c ≡ k = cc e in ap (Declared ChannelName) (sym same)
is_channel (Declared EquationName k) c e = absurd (cc e)

pub is_equation : (m : Meaning) (q : ℕ) → Some q ≡ as_equation (Some m) → m ≡ Declared EquationName q
is_equation (Bound k) q e = absurd (cc e)
is_equation (Declared DatatypeName k) q e = absurd (cc e)
is_equation (Declared ConstructorName k) q e = absurd (cc e)
is_equation (Declared NametypeName k) q e = absurd (cc e)
is_equation (Declared ChannelName k) q e = absurd (cc e)
is_equation (Declared EquationName k) q e = let same : q ≡ k = cc e in ap (Declared EquationName) (sym same)

channel_suits : (u : Use) (c : ℕ) → uses_channel u ≡ true → suits u (Declared ChannelName c) ≡ true
channel_suits AsExpression c is = absurd (cc is)
channel_suits (AsConstructor k) c is = absurd (cc is)
channel_suits (AsEquation k) c is = absurd (cc is)
channel_suits (AsEvent k) c is = refl
channel_suits (AsProductions k) c is = refl
channel_suits (AsBareLeft n) c is = refl
channel_suits (AsBareRight n) c is = refl

no_channel : (u : Use) (m : Meaning) → uses_channel u ≡ true → None ≡ as_channel (Some m) → suits u m ≡ false
no_channel u (Declared ChannelName k) is none = absurd (cc none)
no_channel AsExpression m is none = absurd (cc is)
no_channel (AsConstructor k) m is none = absurd (cc is)
no_channel (AsEquation k) m is none = absurd (cc is)
no_channel (AsEvent k) (Bound j) is none = refl
no_channel (AsEvent k) (Declared DatatypeName j) is none = refl
no_channel (AsEvent k) (Declared ConstructorName j) is none = refl
no_channel (AsEvent k) (Declared NametypeName j) is none = refl
no_channel (AsEvent k) (Declared EquationName j) is none = refl
no_channel (AsProductions k) (Bound j) is none = refl
no_channel (AsProductions k) (Declared DatatypeName j) is none = refl
no_channel (AsProductions k) (Declared ConstructorName j) is none = refl
no_channel (AsProductions k) (Declared NametypeName j) is none = refl
no_channel (AsProductions k) (Declared EquationName j) is none = refl
no_channel (AsBareLeft n) (Bound j) is none = refl
no_channel (AsBareLeft n) (Declared DatatypeName j) is none = refl
no_channel (AsBareLeft n) (Declared ConstructorName j) is none = refl
no_channel (AsBareLeft n) (Declared NametypeName j) is none = refl
no_channel (AsBareLeft n) (Declared EquationName j) is none = refl
no_channel (AsBareRight n) (Bound j) is none = refl
no_channel (AsBareRight n) (Declared DatatypeName j) is none = refl
no_channel (AsBareRight n) (Declared ConstructorName j) is none = refl
no_channel (AsBareRight n) (Declared NametypeName j) is none = refl
no_channel (AsBareRight n) (Declared EquationName j) is none = refl

no_equation : (k : ℕ) (m : Meaning) → None ≡ as_equation (Some m) → suits (AsEquation k) m ≡ false
no_equation k (Bound j) none = refl
no_equation k (Declared DatatypeName j) none = refl
no_equation k (Declared ConstructorName j) none = refl
no_equation k (Declared NametypeName j) none = refl
no_equation k (Declared ChannelName j) none = refl
no_equation k (Declared EquationName j) none = absurd (cc none)

module _ (env : Environment) (n : RawName) (m : Meaning) (is : meaning env n ≡ Some m) where
  pub class_of_channel : (u : Use) → uses_channel u ≡ true → None ≡ as_channel (Some m) → IsStoppedAt (Used env u n ∷ []) (fault_of fault.WrongKind) n.place
  class_of_channel u uses none = class_stops env u n m is (no_channel u m uses none)

  pub class_of_equation : (k : ℕ) → None ≡ as_equation (Some m) → IsStoppedAt (Used env (AsEquation k) n ∷ []) (fault_of fault.WrongKind) n.place
  class_of_equation k none = class_stops env (AsEquation k) n m is (no_equation k m none)

-- ---- how many fields and parameters there are

module _ {A : Type 0} (scope : Scope A) (env : Environment) (knows : KnowsScript scope env.declarations) (n : RawName) where
  pub fields_counted : (c : ℕ) (count : Option ℕ) → meaning env n ≡ Some (Declared ChannelName c) → count ≡ slice_get scope.names.now.fields.items c → field_count env n ≡ count
  fields_counted c count e is = ap (λ m. option_and_then (slice_get (flat_map fields_declared env.declarations)) (as_channel m)) e ∙ ap (λ xs. slice_get xs c) knows.fields ∙ sym is

  pub parameters_counted : (q : ℕ) (count : Option ℕ) → meaning env n ≡ Some (Declared EquationName q) → count ≡ slice_get scope.names.now.parameters.items q → parameter_count env n ≡ count
  parameters_counted q count e is = ap (λ m. option_and_then (slice_get (flat_map parameters_declared env.declarations)) (as_equation m)) e ∙ ap (λ xs. slice_get xs q) knows.parameters ∙ sym is

missing : {X : Type 0} {o : Option X} {x : X} → o ≡ None → o ≡ Some x → ⊥
missing e f = let both = sym e ∙ f in cc both

same_there : {X : Type 0} {o : Option X} {x y : X} → o ≡ Some x → o ≡ Some y → x ≡ y
same_there e f = let both = sym e ∙ f in cc both

not_both : {b : Bool} → b ≡ false → b ≡ true → ⊥
not_both e f = let both : false ≡ true = sym e ∙ f in cc both

-- ---- the sites

module _ (env : Environment) (n : RawName) (k : ℕ) where
  module _ (c : ℕ) (is : meaning env n ≡ Some (Declared ChannelName c)) where
    event_uncounted : field_count env n ≡ None → IsFine (Used env (AsEvent k) n)
    event_uncounted none f (unknown h) = missing h is
    event_uncounted none f (wrong_class h r) = not_both r (ap (suits (AsEvent k)) (sym (same_there is h)))
    event_uncounted none f (fields h r) = missing none h

    pub event_agrees : (count : Option ℕ) → field_count env n ≡ count → agree count k ≡ true → IsFine (Used env (AsEvent k) n)
    event_agrees None counted so = event_uncounted counted
    event_agrees (Some p) counted so = event_fine env k n (Declared ChannelName c) is refl (counted ∙ ap Some (eqb-true p k so))

    pub event_disagrees : (count : Option ℕ) → field_count env n ≡ count → agree count k ≡ false → IsStoppedAt (Used env (AsEvent k) n ∷ []) (fault_of fault.WrongCount) n.place
    event_disagrees None counted so = absurd (cc so)
    event_disagrees (Some p) counted so = fields_stop env k n (Declared ChannelName c) p is refl counted (eqb-false p k so)

    production_uncounted : field_count env n ≡ None → IsFine (Used env (AsProductions k) n)
    production_uncounted none f (unknown h) = missing h is
    production_uncounted none f (wrong_class h r) = not_both r (ap (suits (AsProductions k)) (sym (same_there is h)))
    production_uncounted none f (too_many_fields h r) = missing none h

    pub production_suffices : (count : Option ℕ) → field_count env n ≡ count → suffice count k ≡ true → IsFine (Used env (AsProductions k) n)
    production_suffices None counted so = production_uncounted counted
    production_suffices (Some p) counted so = productions_fine env k n (Declared ChannelName c) p is refl counted (go (nat_lt p k) refl so)
      where
        go : (b : Bool) → nat_lt p k ≡ b → not b ≡ true → k ≤ p
        go true e f = absurd (cc f)
        go false e f = ltb-false p k e

    pub production_exceeds : (count : Option ℕ) → field_count env n ≡ count → suffice count k ≡ false → IsStoppedAt (Used env (AsProductions k) n ∷ []) (fault_of fault.WrongCount) n.place
    production_exceeds None counted so = absurd (cc so)
    production_exceeds (Some p) counted so = productions_stop env k n (Declared ChannelName c) p is refl counted (go (nat_lt p k) refl so)
      where
        go : (b : Bool) → nat_lt p k ≡ b → not b ≡ false → p < k
        go true e f = ltb-true p k e
        go false e f = absurd (cc f)

  module _ (q : ℕ) (is : meaning env n ≡ Some (Declared EquationName q)) where
    call_uncounted : parameter_count env n ≡ None → IsFine (Used env (AsEquation k) n)
    call_uncounted none f (unknown h) = missing h is
    call_uncounted none f (wrong_class h r) = not_both r (ap (suits (AsEquation k)) (sym (same_there is h)))
    call_uncounted none f (arguments h r) = missing none h

    pub call_agrees : (count : Option ℕ) → parameter_count env n ≡ count → agree count k ≡ true → IsFine (Used env (AsEquation k) n)
    call_agrees None counted so = call_uncounted counted
    call_agrees (Some p) counted so = equation_fine env k n (Declared EquationName q) is refl (counted ∙ ap Some (eqb-true p k so))

    pub call_disagrees : (count : Option ℕ) → parameter_count env n ≡ count → agree count k ≡ false → IsStoppedAt (Used env (AsEquation k) n ∷ []) (fault_of fault.WrongCount) n.place
    call_disagrees None counted so = absurd (cc so)
    call_disagrees (Some p) counted so = arguments_stop env k n (Declared EquationName q) p is refl counted (eqb-false p k so)
