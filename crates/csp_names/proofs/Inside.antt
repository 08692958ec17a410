-- Parts that stand inside of bindings.
use Rattle.std.proofs.Common.{ℕ, List, [], ◌++◌, append-nil, Option, ap₂, subst}
use Rattle.theory_text.specs.Raw.{RawName}
use Rattle.theory_checking.specs.Names.{Environment, binding, spellings}
use Rattle.theory_checking.specs.Resolving.{of_two}
use Rattle.theory_checking.specs.Sites.{Site}
use Rattle.theory_checking.proofs.Walking.{fine_both}
use Rattle.csp_names.specs.declared.bound_names.BoundNames.{BoundNames}
use Rattle.csp_names.specs.declared.refusals.Refused.{Refused}
use Rattle.csp_names.specs.declared.scope.Scope.{Scope}
use Rattle.csp_names.specs.Scopes.{Binds, IsInOrder, Releases}
use Rattle.csp_names.specs.Walks.{Done, Halts}
use Rattle.csp_names.proofs.Fields.{serves_inside}
use Rattle.csp_names.proofs.Going.{binds_both, binds_released, serves_behind, serves_first}
use Rattle.csp_names.proofs.Walking.{stops_behind}

module _ {A : Type 0} (scope : Scope A) where
  -- a second part whose names are still bound behind it
  pub done_then_binds : {X Y Z : Type 0} (f : X → Y → Z) (r s t : BoundNames A) (xs ys : Environment → List Site) (m : Environment → Option X) (m' : Environment → Option Y) (ms ns inner : List (List ℕ)) (x : X) (y : Y) → Done scope r s xs m ms [] x → Done scope s t ys m' ns inner y →
      Done scope r t (λ env. xs env ++ ys env) (λ env. of_two f (m env) (m' env)) (ms ++ ns) inner (f x y)
  done_then_binds f r s t xs ys m m' ms ns inner x y h k = record {
    fine = λ env serves.
        let first = h.fine env (serves_first scope env r ms ns serves) in
        let second = k.fine env (serves_behind scope env r s ms ns serves (h.bound serves.stands.in_order)) in
        (fine_both (xs env) (ys env) first.0 second.0, ap₂ (of_two f) first.1 second.1);
    bound = λ in_order. let binds = h.bound in_order in binds_both r s t ms ns [] inner binds (k.bound binds.in_order);
  }

  -- a part behind names that are bound for it
  module _ {X : Type 0} (ns : List RawName) (old mid : BoundNames A) (xs : Environment → List Site) (m : Environment → Option X) (x : X) (before : Done scope old mid xs m (spellings ns) (spellings ns) x) where
    pub halts_inside : (ys : Environment → List Site) (bs : List (List ℕ)) (f : Refused) → Halts scope mid ys bs f → Halts scope old (λ env. xs env ++ ys (binding env ns)) (spellings ns ++ bs) f
    halts_inside ys bs f h env serves =
        let inside = serves_inside scope env old mid ns bs serves (before.bound serves.stands.in_order) in
        stops_behind (xs env) (ys (binding env ns)) f (before.fine env (serves_first scope env old (spellings ns) bs serves)).0 (h (binding env ns) inside)

    -- behind it the bindings have ended
    pub done_inside : {Y Z : Type 0} (f : X → Y → Z) (last new : BoundNames A) (ys : Environment → List Site) (m' : Environment → Option Y) (bs : List (List ℕ)) (y : Y) → Done scope mid last ys m' bs [] y → (IsInOrder last → Releases last new (spellings ns)) →
        Done scope old new (λ env. xs env ++ ys (binding env ns)) (λ env. of_two f (m env) (m' (binding env ns))) (spellings ns ++ bs) [] (f x y)
    done_inside f last new ys m' bs y h ends = record {
      fine = λ env serves.
          let first = before.fine env (serves_first scope env old (spellings ns) bs serves) in
          let second = h.fine (binding env ns) (serves_inside scope env old mid ns bs serves (before.bound serves.stands.in_order)) in
          (fine_both (xs env) (ys (binding env ns)) first.0 second.0, ap₂ (of_two f) first.1 second.1);
      bound = λ in_order.
          let first = before.bound in_order in
          let second = h.bound first.in_order in
          let P : List (List ℕ) → Type 0 = λ inner. Binds old last (spellings ns ++ bs) inner in
          binds_released old last new (spellings ns ++ bs) (spellings ns) (subst P (append-nil (spellings ns)) (binds_both old mid last (spellings ns) bs (spellings ns) [] first second)) (ends second.in_order);
    }
