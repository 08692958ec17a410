-- Walks that bind no name, of two parts or over a list.
use Rattle.std.specs.Prelude.{flat_map, IfOk, IfErr}
use Rattle.std.proofs.Common.{◌≡◌, ◌<◌, ◌≤◌, ◌+◌, ℕ, suc, get_or, length, map, List, [], ◌∷◌, ◌++◌, Option, Result, Ok, Err, refl, sym, ap, ap₂, ◌∙◌, subst}
use Rattle.std.specs.declared.vec.Vec.{Vec}
use Rattle.theory_checking.specs.Names.{Environment, meaning}
use Rattle.theory_checking.specs.Resolving.{number_of, every, of_two}
use Rattle.theory_checking.specs.Sites.{Site}
use Rattle.theory_checking.specs.Walks.{AllFine}
use Rattle.theory_checking.proofs.Walking.{fine_both}
use Rattle.csp_parse.specs.declared.expressions.Expression.{Expression}
use Rattle.csp_parse.specs.Expressions.{expressions_of}
use Rattle.csp_names.specs.declared.bound_names.BoundNames.{BoundNames}
use Rattle.csp_names.specs.declared.refusals.Refused.{Refused}
use Rattle.csp_names.specs.declared.refusals.Refused.TheVariants as refused
use Rattle.csp_names.specs.declared.scope.Scope.{Scope}
use Rattle.csp_names.specs.Scopes.{KnowsScript, StandsFor}
use Rattle.csp_names.specs.Walks.{Done, Goes, Resolves, Stops}
use Rattle.csp_names.proofs.Going.{still_done, still_halts}
use Rattle.csp_names.proofs.Walking.{made, Passed, all_passed, nothing_passed, one_passed, passed_stops, stops_behind, stops_first, stops_for_room}

-- as many as the list has
pub number_of_list : {A : Type 0} (es : List (Expression A)) → length es ≡ number_of (expressions_of es)
number_of_list [] = refl
number_of_list (e ∷ es) = ap suc (number_of_list es)

module _ {A : Type 0} (scope : Scope A) (b : BoundNames A) where
  -- ---- two parts

  module _ {X Y : Type 0} (xs ys : Environment → List Site) (m : Environment → Option X) (m' : Environment → Option Y) where
    pub first_stops : {S T Z : Type 0} (ofx : S → X) (of : T → Z) (whole : Environment → Option Z) (f : Refused) → Resolves scope b xs m ofx (Err f) → Resolves scope b (λ env. xs env ++ ys env) whole of (Err f)
    first_stops ofx of whole f h env stands knows = stops_first (xs env) (ys env) f (h env stands knows)

    pub second_stops : {S T V Z : Type 0} (ofx : S → X) (ofy : V → Y) (of : T → Z) (whole : Environment → Option Z) (x : S) (f : Refused) → Resolves scope b xs m ofx (Ok x) → Resolves scope b ys m' ofy (Err f) → Resolves scope b (λ env. xs env ++ ys env) whole of (Err f)
    second_stops ofx ofy of whole x f h k env stands knows = stops_behind (xs env) (ys env) f (h env stands knows).0 (k env stands knows)

    pub both_made : {S T V Z : Type 0} (ofx : S → X) (ofy : V → Y) (of : T → Z) (g : X → Y → Z) (x : S) (y : V) (r : Result T Refused) → Resolves scope b xs m ofx (Ok x) → Resolves scope b ys m' ofy (Ok y) → IfOk r (λ t. of t ≡ g (ofx x) (ofy y)) → IfErr r (λ e. e ≡ refused.Memory) →
        Resolves scope b (λ env. xs env ++ ys env) (λ env. of_two g (m env) (m' env)) of r
    both_made ofx ofy of g x y r h k makes stops env stands knows =
        let first = h env stands knows in
        let second = k env stands knows in
        made (xs env ++ ys env) (of_two g (m env) (m' env)) of (g (ofx x) (ofy y)) r (fine_both (xs env) (ys env) first.0 second.0) (ap₂ (of_two g) first.1 second.1) makes stops

  -- ---- over a list

  module _ {I R T Y : Type 0} (raw : I → R) (g : Environment → R → List Site) (f : Environment → R → Option Y) (of : T → Y) (items : List I) where
    abbrev pub SoFar : ℕ → List T → Type 0
    SoFar i done = (env : Environment) → StandsFor scope b env → KnowsScript scope env.declarations → Passed (λ x. g env (raw x)) (λ x. f env (raw x)) of items i done

    pub none_so_far : SoFar 0 []
    none_so_far env stands knows = nothing_passed (λ x. g env (raw x)) (λ x. f env (raw x)) of items

    pub one_more_so_far : (i : ℕ) (done new : List T) (x : I) (t : T) → i < length items → x ≡ get_or items i x → SoFar i done → Resolves scope b (λ env. g env (raw x)) (λ env. f env (raw x)) of (Ok t) → new ≡ done ++ t ∷ [] → SoFar (i + 1) new
    one_more_so_far i done new x t within read so_far one pushed env stands knows =
        let h = one env stands knows in
        one_passed (λ y. g env (raw y)) (λ y. f env (raw y)) of items i done new x t within read (so_far env stands knows) h.0 h.1 pushed

    sites_in_turn : (env : Environment) (xs : List I) → flat_map (g env) (map raw xs) ≡ flat_map (λ x. g env (raw x)) xs
    sites_in_turn env [] = refl
    sites_in_turn env (x ∷ xs) = ap (λ ys. g env (raw x) ++ ys) (sites_in_turn env xs)

    meanings_in_turn : (env : Environment) (xs : List I) → every (f env) (map raw xs) ≡ every (λ x. f env (raw x)) xs
    meanings_in_turn env [] = refl
    meanings_in_turn env (x ∷ xs) = ap (of_two ◌∷◌ (f env (raw x))) (meanings_in_turn env xs)

    abbrev pub InTurn : {A : Type 0} → Result (Vec T A) Refused → Type 0
    InTurn r = Resolves scope b (λ env. flat_map (g env) (map raw items)) (λ env. every (f env) (map raw items)) (λ v. map of v.items) r

    pub all_so_far : {A : Type 0} (i : ℕ) (v : Vec T A) → length items ≤ i → SoFar i v.items → InTurn (Ok v)
    all_so_far i v over so_far env stands knows =
        let h = all_passed (λ x. g env (raw x)) (λ x. f env (raw x)) of items i v.items over (so_far env stands knows) in
        let P : List Site → Type 0 = AllFine in
        (subst P (sym (sites_in_turn env items)) h.0, meanings_in_turn env items ∙ h.1)

    pub one_stops_all : (A : Type 0) (i : ℕ) (done : List T) (x : I) (r : Refused) → i < length items → x ≡ get_or items i x → SoFar i done → Resolves scope b (λ env. g env (raw x)) (λ env. f env (raw x)) of (Err r) → InTurn {A = A} (Err r)
    one_stops_all A i done x r within read so_far one env stands knows =
        let P : List Site → Type 0 = λ xs. Stops xs r in
        subst P (sym (sites_in_turn env items)) (passed_stops (λ y. g env (raw y)) (λ y. f env (raw y)) of items i done x r within read (so_far env stands knows) (one env stands knows))

    pub room_stops_all : (A : Type 0) (r : Refused) → r ≡ refused.Memory → InTurn {A = A} (Err r)
    room_stops_all A r is env stands knows = stops_for_room (flat_map (g env) (map raw items)) r is

-- ---- a walk that binds nothing is one of those that may

pub goes_still : {A T X : Type 0} (scope : Scope A) (b : BoundNames A) (sites : Environment → List Site) (meaning : Environment → Option X) (of : T → X) (r : Result T Refused) → Resolves scope b sites meaning of r → Goes scope b b sites meaning [] [] of r
goes_still scope b sites meaning of (Ok t) h = still_done scope b sites meaning (of t) h
goes_still scope b sites meaning of (Err f) h = still_halts scope b sites f h

-- what was made of what is done
pub goes_made : {A T X : Type 0} (scope : Scope A) (old new : BoundNames A) (sites : Environment → List Site) (meaning : Environment → Option X) (met inner : List (List ℕ)) (of : T → X) (x : X) (r : Result T Refused) → Done scope old new sites meaning met inner x →
    IfOk r (λ t. of t ≡ x) → IfErr r (λ e. e ≡ refused.Memory) → Goes scope old new sites meaning met inner of r
goes_made scope old new sites meaning met inner of x (Ok t) h makes stops = subst (Done scope old new sites meaning met inner) (sym makes) h
goes_made scope old new sites meaning met inner of x (Err f) h makes stops = λ env serves. stops_for_room (sites env) f stops
