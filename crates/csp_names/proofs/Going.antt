-- Walks that bind names, part by part.
use Rattle.std.specs.Prelude.{cond}
use Rattle.std.proofs.Common.{◌≡◌, ℕ, suc, ◌+◌, Bool, true, false, List, [], ◌∷◌, ◌++◌, Option, Some, refl, sym, ap, ap₂, ◌∙◌, subst, arith}
use Rattle.std.specs.Str.{bytes_eq}
use Rattle.theory_checking.specs.Names.{Environment, number_in, with_spellings}
use Rattle.theory_checking.specs.Resolving.{of_two}
use Rattle.theory_checking.specs.Sites.{Site}
use Rattle.theory_checking.specs.Walks.{AllFine}
use Rattle.theory_checking.proofs.Spellings.{number_stays_with, with_more}
use Rattle.theory_checking.proofs.Walking.{fine_both}
use Rattle.csp_names.specs.declared.bound_names.BoundNames.{BoundNames}
use Rattle.csp_names.specs.declared.refusals.Refused.{Refused}
use Rattle.csp_names.specs.declared.scope.Scope.{Scope}
use Rattle.csp_names.specs.Scopes.{Binds, bound_spellings, HaveNumbersIn, IsInOrder, KnowsScript, occurrences, Releases, StandsFor}
use Rattle.csp_names.specs.Walks.{Done, Halts, Serves, Stops}
use Rattle.csp_names.proofs.Walking.{stops_behind, stops_first}

-- ---- spellings that are met in turn

pub numbers_of_first : (ss ts us table : List (List ℕ)) → HaveNumbersIn (with_spellings ss (ts ++ us)) table → HaveNumbersIn (with_spellings ss ts) table
numbers_of_first ss ts us table h s i e = h s i (ap (λ xs. number_in xs s) (with_more ss ts us) ∙ number_stays_with (with_spellings ss ts) us s i e)

pub numbers_behind : (ss ts us table : List (List ℕ)) → HaveNumbersIn (with_spellings ss (ts ++ us)) table → HaveNumbersIn (with_spellings (with_spellings ss ts) us) table
numbers_behind ss ts us table h s i e = h s i (ap (λ xs. number_in xs s) (with_more ss ts us) ∙ e)

-- ---- how often names are bound

pub occurrences_in_turn : (ts us : List (List ℕ)) (s : List ℕ) → occurrences (ts ++ us) s ≡ occurrences ts s + occurrences us s
occurrences_in_turn [] us s = omega arith
occurrences_in_turn (t ∷ ts) us s = go (bytes_eq t s) (occurrences_in_turn ts us s)
  where
    go : (b : Bool) → occurrences (ts ++ us) s ≡ occurrences ts s + occurrences us s →
        cond b (suc (occurrences (ts ++ us) s)) (occurrences (ts ++ us) s) ≡ cond b (suc (occurrences ts s)) (occurrences ts s) + occurrences us s
    go true h = omega (arith, h)
    go false h = h

pub binds_nothing : {A : Type 0} (b : BoundNames A) → IsInOrder b → Binds b b [] []
binds_nothing b h = record { in_order = h; spellings = refl; times = λ s. omega arith }

pub binds_both : {A : Type 0} (r s t : BoundNames A) (ms ns is js : List (List ℕ)) → Binds r s ms is → Binds s t ns js → Binds r t (ms ++ ns) (is ++ js)
binds_both r s t ms ns is js h k = record {
  in_order = k.in_order;
  spellings = k.spellings ∙ ap (λ ss. with_spellings ss ns) h.spellings ∙ sym (with_more (bound_spellings r) ms ns);
  times = λ w.
      let first = h.times w in
      let second = k.times w in
      let both = occurrences_in_turn is js w in
      omega (arith, first, second, both);
}

pub releases_nothing : {A : Type 0} (b : BoundNames A) → IsInOrder b → Releases b b []
releases_nothing b h = record { in_order = h; spellings = refl; times = λ s k e. e ∙ omega arith }

pub releases_both : {A : Type 0} (r s t : BoundNames A) (is js : List (List ℕ)) → Releases r s is → Releases s t js → Releases r t (is ++ js)
releases_both r s t is js h k = record {
  in_order = k.in_order;
  spellings = k.spellings ∙ h.spellings;
  times = λ w n e. k.times w n (h.times w (occurrences js w + n) (let both = occurrences_in_turn is js w in omega (arith, e, both)));
}

-- bindings that have ended
pub binds_released : {A : Type 0} (r s t : BoundNames A) (ms is : List (List ℕ)) → Binds r s ms is → Releases s t is → Binds r t ms []
binds_released r s t ms is h k = record {
  in_order = k.in_order;
  spellings = k.spellings ∙ h.spellings;
  times = λ w. k.times w _ (h.times w) ∙ omega arith;
}

-- ---- environments of the parts

module _ {A : Type 0} (scope : Scope A) (env : Environment) where
  pub serves_first : (old : BoundNames A) (ms ns : List (List ℕ)) → Serves scope old (ms ++ ns) env → Serves scope old ms env
  serves_first old ms ns h = record { stands = h.stands; knows = h.knows; numbers = numbers_of_first (bound_spellings old) ms ns env.numbered h.numbers }

  -- where none of the names that were met is still bound, the environment stays
  pub serves_behind : (old new : BoundNames A) (ms ns : List (List ℕ)) → Serves scope old (ms ++ ns) env → Binds old new ms [] → Serves scope new ns env
  serves_behind old new ms ns h binds =
      let P : List (List ℕ) → Type 0 = λ ss. HaveNumbersIn ss env.numbered in
      let Q : List (List ℕ) → Type 0 = λ ss. HaveNumbersIn (with_spellings ss ns) env.numbered in
      record {
        stands = record {
          texts = h.stands.texts;
          declared = h.stands.declared;
          constructors = h.stands.constructors;
          in_order = binds.in_order;
          numbered = subst P (sym binds.spellings) (numbers_of_first (bound_spellings old) ms ns env.numbered h.numbers);
          times = λ s. binds.times s ∙ omega arith ∙ h.stands.times s;
        };
        knows = h.knows;
        numbers = subst Q (sym binds.spellings) (numbers_behind (bound_spellings old) ms ns env.numbered h.numbers);
      }

-- ---- parts in turn

module _ {A : Type 0} (scope : Scope A) where
  -- a part that binds nothing
  pub still_done : {X : Type 0} (b : BoundNames A) (sites : Environment → List Site) (meaning : Environment → Option X) (x : X) → ((env : Environment) → StandsFor scope b env → KnowsScript scope env.declarations → AllFine (sites env) × (meaning env ≡ Some x)) → Done scope b b sites meaning [] [] x
  still_done b sites meaning x h = record { fine = λ env serves. h env serves.stands serves.knows; bound = binds_nothing b }

  pub still_halts : (b : BoundNames A) (sites : Environment → List Site) (f : Refused) → ((env : Environment) → StandsFor scope b env → KnowsScript scope env.declarations → Stops (sites env) f) → Halts scope b sites [] f
  still_halts b sites f h env serves = h env serves.stands serves.knows

  pub halts_first : (b : BoundNames A) (xs ys : Environment → List Site) (ms ns : List (List ℕ)) (f : Refused) → Halts scope b xs ms f → Halts scope b (λ env. xs env ++ ys env) (ms ++ ns) f
  halts_first b xs ys ms ns f h env serves = stops_first (xs env) (ys env) f (h env (serves_first scope env b ms ns serves))

  module _ {X : Type 0} (r s : BoundNames A) (xs : Environment → List Site) (meaning : Environment → Option X) (ms : List (List ℕ)) (x : X) where
    pub halts_behind : (ys : Environment → List Site) (ns : List (List ℕ)) (f : Refused) → Done scope r s xs meaning ms [] x → Halts scope s ys ns f → Halts scope r (λ env. xs env ++ ys env) (ms ++ ns) f
    halts_behind ys ns f h k env serves =
        stops_behind (xs env) (ys env) f (h.fine env (serves_first scope env r ms ns serves)).0 (k env (serves_behind scope env r s ms ns serves (h.bound serves.stands.in_order)))

    pub done_both : {Y Z : Type 0} (f : X → Y → Z) (t : BoundNames A) (ys : Environment → List Site) (meaning' : Environment → Option Y) (ns : List (List ℕ)) (y : Y) → Done scope r s xs meaning ms [] x → Done scope s t ys meaning' ns [] y →
        Done scope r t (λ env. xs env ++ ys env) (λ env. of_two f (meaning env) (meaning' env)) (ms ++ ns) [] (f x y)
    done_both f t ys meaning' ns y h k = record {
      fine = λ env serves.
          let first = h.fine env (serves_first scope env r ms ns serves) in
          let second = k.fine env (serves_behind scope env r s ms ns serves (h.bound serves.stands.in_order)) in
          (fine_both (xs env) (ys env) first.0 second.0, ap₂ (of_two f) first.1 second.1);
      bound = λ in_order. let binds = h.bound in_order in binds_both r s t ms ns [] [] binds (k.bound binds.in_order);
    }
