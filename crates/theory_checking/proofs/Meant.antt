-- What a name means is a number among the names of its class.
use Rattle.std.specs.Prelude.{◌<◌, cond, flat_map, replicate, slice_get, option_and_then, option_map}
use Rattle.std.specs.Option.{option_or}
use Rattle.std.specs.Str.{bytes_eq}
use Rattle.std.proofs.lemmas.List.{length-map}
use Rattle.std.proofs.Common.{◌≡◌, ℕ, zero, suc, ◌+◌, Bool, true, false, List, [], ◌∷◌, length, length-append, Option, Some, None, refl, sym, ap, ◌∙◌, subst, arith}
use Rattle.theory_text.specs.Raw.{RawName, RawDeclaration, RawDatatype, RawNametype, RawChannels, RawEquation, RawAssertion, RawScript}
use Rattle.theory_checking.specs.Names.{Class, DatatypeName, ConstructorName, NametypeName, ChannelName, EquationName, Meaning, Declared, Bound, declared_as, names_of, spellings, number_in, has_spelling, declared_meaning, Environment, meaning, constructor_fields}
use Rattle.theory_checking.specs.Resolving.{as_constructor, constructor_count}

-- ---- as many as there are names of the class

pub length-replicate : {A : Type 0} (n : ℕ) (x : A) → length (replicate n x) ≡ n
length-replicate zero x = refl
length-replicate (suc n) x = ap suc (length-replicate n x)

pub length-spellings : (ns : List RawName) → length (spellings ns) ≡ length ns
length-spellings ns = length-map ns (λ n. n.spelling)

pub counted : {A : Type 0} (class : Class) (f : RawDeclaration → List A) → ((d : RawDeclaration) → length (f d) ≡ length (declared_as class d)) →
    (ds : RawScript) → length (flat_map f ds) ≡ length (flat_map (declared_as class) ds)
counted class f each [] = refl
counted class f each (d ∷ ds) =
    length-append (f d) (flat_map f ds) ∙ ap (λ n. n + length (flat_map f ds)) (each d) ∙ ap (λ n. length (declared_as class d) + n) (counted class f each ds)
    ∙ sym (length-append (declared_as class d) (flat_map (declared_as class) ds))

pub constructors_counted : (raw : RawScript) → length (flat_map constructor_fields raw) ≡ length (names_of ConstructorName raw)
constructors_counted raw = counted ConstructorName constructor_fields each raw ∙ sym (length-spellings (flat_map (declared_as ConstructorName) raw))
  where
    each : (d : RawDeclaration) → length (constructor_fields d) ≡ length (declared_as ConstructorName d)
    each (RawDatatype name clauses) = length-map clauses (λ c. length c.fields) ∙ sym (length-map clauses (λ c. c.name))
    each (RawNametype name domain) = refl
    each (RawChannels names domains) = refl
    each (RawEquation name parameters body) = refl
    each (RawAssertion place n a p) = refl

-- ---- numbers

pub number_within : (ss : List (List ℕ)) (s : List ℕ) (k : ℕ) → number_in ss s ≡ Some k → k < length ss
number_within [] s k e = absurd (cc e)
number_within (t ∷ ss) s k e = go (bytes_eq t s) (number_in ss s) (λ j f. number_within ss s j f) e
  where
    go : (b : Bool) (o : Option ℕ) → ((j : ℕ) → o ≡ Some j → j < length ss) → cond b (Some 0) (option_map suc o) ≡ Some k → k < suc (length ss)
    go true o rest i = let z : 0 ≡ k = cc i in omega (arith, z)
    go false (Some j) rest i = let z : suc j ≡ k = cc i in let small : j < length ss = rest j refl in omega (arith, z, small)
    go false None rest i = absurd (cc i)

-- a meaning as a name of a class is a number in that class
pub class_number : (raw : RawScript) (s : List ℕ) (class : Class) (k : ℕ) → declared_meaning raw s ≡ Some (Declared class k) → number_in (names_of class raw) s ≡ Some k
class_number raw s class k e =
    by (number_in (names_of DatatypeName raw) s) (number_in (names_of ConstructorName raw) s) (number_in (names_of NametypeName raw) s)
    (number_in (names_of ChannelName raw) s) (number_in (names_of EquationName raw) s) refl refl refl refl refl e
  where
    told : (c : Class) (x : ℕ) → Some (Declared c x) ≡ Some (Declared class k) → number_in (names_of c raw) s ≡ Some x → number_in (names_of class raw) s ≡ Some k
    told c x is h = let same : c ≡ class = cc is in let number : x ≡ k = cc is in ap (λ z. number_in (names_of z raw) s) (sym same) ∙ h ∙ ap Some number

    by : (d c t h q : Option ℕ) → number_in (names_of DatatypeName raw) s ≡ d → number_in (names_of ConstructorName raw) s ≡ c →
        number_in (names_of NametypeName raw) s ≡ t → number_in (names_of ChannelName raw) s ≡ h →
        number_in (names_of EquationName raw) s ≡ q →
        option_or (option_map (Declared DatatypeName) d) (option_or (option_map (Declared ConstructorName) c) (option_or (option_map (Declared NametypeName) t)
        (option_or (option_map (Declared ChannelName) h) (option_map (Declared EquationName) q)))) ≡ Some (Declared class k) → number_in (names_of class raw) s ≡ Some k
    by (Some x) c t h q is_d is_c is_t is_h is_q i = told DatatypeName x i is_d
    by None (Some x) t h q is_d is_c is_t is_h is_q i = told ConstructorName x i is_c
    by None None (Some x) h q is_d is_c is_t is_h is_q i = told NametypeName x i is_t
    by None None None (Some x) q is_d is_c is_t is_h is_q i = told ChannelName x i is_h
    by None None None None (Some x) is_d is_c is_t is_h is_q i = told EquationName x i is_q
    by None None None None None is_d is_c is_t is_h is_q i = absurd (cc i)

-- and so is one that the environment tells
pub meant_number : (env : Environment) (n : RawName) (class : Class) (k : ℕ) → meaning env n ≡ Some (Declared class k) → number_in (names_of class env.declarations) n.spelling ≡ Some k
meant_number env n class k e = go (has_spelling env.bound n.spelling) (number_in env.numbered n.spelling) e
  where
    go : (b : Bool) (o : Option ℕ) → cond b (option_map Bound o) (declared_meaning env.declarations n.spelling) ≡ Some (Declared class k) →
        number_in (names_of class env.declarations) n.spelling ≡ Some k
    go true (Some x) i = absurd (let f : Bound x ≡ Declared class k = cc i in cc f)
    go true None i = absurd (cc i)
    go false o i = class_number env.declarations n.spelling class k i

-- ---- constructors

pub at_place : {A : Type 0} (xs : List A) (k : ℕ) → k < length xs → (x : A) × (slice_get xs k ≡ Some x)
at_place [] k h = absurd (omega arith)
at_place (x ∷ xs) zero h = (x, refl)
at_place (x ∷ xs) (suc k) h = at_place xs k (omega arith)

pub constructor_meant : (m : Option Meaning) (k : ℕ) → as_constructor m ≡ Some k → m ≡ Some (Declared ConstructorName k)
constructor_meant None k e = absurd (cc e)
constructor_meant (Some (Bound n)) k e = absurd (cc e)
constructor_meant (Some (Declared ConstructorName c)) k e = let same : c ≡ k = cc e in ap (λ x. Some (Declared ConstructorName x)) same
constructor_meant (Some (Declared DatatypeName c)) k e = absurd (cc e)
constructor_meant (Some (Declared NametypeName c)) k e = absurd (cc e)
constructor_meant (Some (Declared ChannelName c)) k e = absurd (cc e)
constructor_meant (Some (Declared EquationName c)) k e = absurd (cc e)

-- a constructor that a name means has a number of fields
pub constructor_counted : (env : Environment) (n : RawName) (k : ℕ) → as_constructor (meaning env n) ≡ Some k → (p : ℕ) × (constructor_count env n ≡ Some p)
constructor_counted env n k e =
    let small : k < length (names_of ConstructorName env.declarations) =
    number_within (names_of ConstructorName env.declarations) n.spelling k (meant_number env n ConstructorName k (constructor_meant (meaning env n) k e)) in
    let there = at_place (flat_map constructor_fields env.declarations) k (subst (λ z. k < z) (sym (constructors_counted env.declarations)) small) in
    (there.0, ap (option_and_then (slice_get (flat_map constructor_fields env.declarations))) e ∙ there.1)
