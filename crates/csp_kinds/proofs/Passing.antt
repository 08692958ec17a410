-- The walk over the declarations of a tree.
use Rattle.std.specs.Prelude.{◌↔◌, map, slice_get, take}
use Rattle.std.specs.declared.vec.Vec.{Vec}
use Rattle.std.proofs.lemmas.List.{get_or-map, length-map, length-take-le, take_all}
use Rattle.std.proofs.Common.{◌≡◌, ◌+◌, ◌<◌, ◌≤◌, ℕ, List, [], ◌∷◌, ◌++◌, length, drop, get_or, Option, Some, Ok, Err, refl, sym, ap, ◌∙◌, subst, arith}
use Rattle.theory_syntax.specs.Value.{Value}
use Rattle.theory_text.specs.Raw.{RawDeclaration, RawDatatype, RawNametype, RawChannels, RawEquation, RawAssertion, RawScript}
use Rattle.theory_checking.specs.Rules.{HasFieldSets}
use Rattle.theory_checking.specs.Sites.{in_declaration, sites}
use Rattle.theory_checking.specs.Walks.{AllFine}
use Rattle.csp_value.specs.declared.field_set.FieldSet.{FieldSet}
use Rattle.csp_parse.specs.declared.declarations.Declaration.{Declaration}
use Rattle.csp_parse.specs.Declarations.{declaration_of}
use Rattle.csp_names.specs.declared.bound_names.BoundNames.{BoundNames}
use Rattle.csp_names.specs.declared.names.Names.{Names}
use Rattle.csp_names.specs.declared.refusals.Refused.{Refused}
use Rattle.csp_names.specs.declared.scope.Scope.{Scope}
use Rattle.csp_names.specs.FirstPass.{AreNamesOf}
use Rattle.csp_names.specs.Scopes.{IsBetween, KnowsScript, known_sets}
use Rattle.csp_names.specs.Walks.{Stops}
use Rattle.csp_names.proofs.Standing.{between_next, between_start, knows_script, serves_between}
use Rattle.csp_kinds.specs.declared.sets.RefusedSet.{RefusedSet}
use Rattle.csp_kinds.specs.declared.sets.Sets.{Sets}
use Rattle.csp_kinds.specs.Sets.{AreSetsOf}
use Rattle.csp_kinds.specs.declared.items.Items.{Items}
use Rattle.csp_kinds.specs.Items.{Adds, AddsItem, AreItemsOf, in_processes}
use Rattle.csp_kinds.specs.Refusals.{PassesSets}
use Rattle.csp_kinds.proofs.ItemsInTurn.{item_stops, items_with_one_more, no_items, one_more_declaration, stands_at}
use Rattle.csp_kinds.proofs.SetsPassed.{IsNotAbove, none_above, not_above_next, passed_sets_fine, sets_stop}

-- The scope knows all names of the tree, and its field sets.
pub record IsWhole {A : Type 0} (raw : RawScript) (scope : Scope A) : Type 0 where
  pub names : AreNamesOf scope.names.now raw
  pub visible : scope.visible ≡ length scope.names.now.table.entries
  pub knows : KnowsScript scope raw

pub whole_scope : {A : Type 0} (raw : RawScript) (scope : Scope A) (names : Names A) (sets : Sets A) → AreNamesOf names raw → AreSetsOf raw sets → scope.names.now ≡ names → scope.visible ≡ length names.table.entries → scope.field_sets.now ≡ sets.channels.items → IsWhole raw scope
whole_scope {A} raw scope names sets are_names are_sets is visible field_sets =
    let P : Names A → Type 0 = λ ns. AreNamesOf ns raw in
    let Q : List (Option (Vec (FieldSet A) A)) → Type 0 = λ xs. (c : ℕ) (values : List (List Value)) → (slice_get (map known_sets xs) c ≡ Some (Some values)) ↔ HasFieldSets raw c values in
    let of_tree : AreNamesOf scope.names.now raw = subst P (sym is) are_names in
    record {
      names = of_tree;
      visible = visible ∙ ap (λ ns. length ns.table.entries) (sym is);
      knows = knows_script scope raw of_tree (subst Q (sym field_sets) are_sets.channels);
    }

-- The first so many declarations are passed: their sites are fine, their items are made, and no name is bound.
pub record Passed {A : Type 0} (raw : RawScript) (first : Option RefusedSet) (n : ℕ) (bound : BoundNames A) (items : Items A) : Type 0 where
  pub items_made : AreItemsOf raw (take n raw) items
  pub between : IsBetween bound (take n raw)
  pub not_above : IsNotAbove first n

pub nothing_passed : {A : Type 0} (raw : RawScript) (first : Option RefusedSet) (bound : BoundNames A) (items : Items A) → bound.table.entries ≡ [] → items.equations.items ≡ [] → items.assertions.items ≡ [] → Passed raw first 0 bound items
nothing_passed raw first bound items none equations assertions = record {
  items_made = no_items raw items equations assertions;
  between = between_start bound none;
  not_above = none_above first;
}

-- A declaration is fine once its processes are, since its sets are not refused.
declaration_fine : {A : Type 0} (raw above below : RawScript) (d : RawDeclaration) (sets : Sets A) → AreSetsOf raw sets → raw ≡ above ++ d ∷ below → IsNotAbove sets.refused (length above + 1) → AllFine (in_processes raw d) → AllFine (in_declaration raw above d)
declaration_fine raw above below (RawDatatype name clauses) sets are stands passed fine = passed_sets_fine raw above below (RawDatatype name clauses) sets are stands refl passed
declaration_fine raw above below (RawNametype name domain) sets are stands passed fine = passed_sets_fine raw above below (RawNametype name domain) sets are stands refl passed
declaration_fine raw above below (RawChannels names domains) sets are stands passed fine = passed_sets_fine raw above below (RawChannels names domains) sets are stands refl passed
declaration_fine raw above below (RawEquation name parameters body) sets are stands passed fine = fine
declaration_fine raw above below (RawAssertion place n a p) sets are stands passed fine = fine

module _ {A : Type 0} (raw : RawScript) (sets : Sets A) (scope : Scope A) (are : AreSetsOf raw sets) (whole : IsWhole raw scope) (n : ℕ) (bound : BoundNames A) (items : Items A) (passed : Passed raw sets.refused n bound items) where
  -- the walk stops at a refused set
  pub stops_at_set : (r : Refused) → PassesSets sets.refused n (Err r) → Stops (sites raw) r
  stops_at_set r h = sets_stop raw sets n r are passed.items_made.fine h

  module _ (d : RawDeclaration) (within : n < length raw) (read : get_or raw n d ≡ d) (bound' : BoundNames A) (items' : Items A) where
    -- it stops at an equation or assertion
    pub stops_at_item : (r : Refused) → AddsItem scope bound bound' d items items' (Err r) → Stops (sites raw) r
    stops_at_item r h =
        let stands = stands_at raw n d within read in
        item_stops raw (take n raw) (drop (n + 1) raw) d r stands passed.items_made.fine (h raw (serves_between scope raw (take n raw) (drop (n + 1) raw) d whole.names whole.knows whole.visible stands bound passed.between))

    -- it goes on behind the declaration
    pub one_more_passed : PassesSets sets.refused n (Ok tt) → AddsItem scope bound bound' d items items' (Ok tt) → Passed raw sets.refused (n + 1) bound' items'
    one_more_passed goes h =
        let above = take n raw in
        let below = drop (n + 1) raw in
        let stands : raw ≡ take n raw ++ d ∷ drop (n + 1) raw = stands_at raw n d within read in
        let cut : take n raw ++ d ∷ [] ≡ take (n + 1) raw = sym (one_more_declaration raw n d within read) in
        let adds : Adds raw d items items' = h.0 raw (serves_between scope raw above below d whole.names whole.knows whole.visible stands bound passed.between) in
        let next : IsNotAbove sets.refused (n + 1) = not_above_next sets.refused n passed.not_above goes in
        let long : length (take n raw) ≡ n = length-take-le n raw (omega arith) in
        let P : ℕ → Type 0 = λ k. IsNotAbove sets.refused (k + 1) in
        let Q : RawScript → Type 0 = λ ds. AreItemsOf raw ds items' in
        let R : RawScript → Type 0 = λ ds. IsBetween bound' ds in
        let fine : AllFine (in_declaration raw above d) = declaration_fine raw above below d sets are stands (subst P (sym long) next) adds.fine in
        record {
          items_made = subst Q cut (items_with_one_more raw above d items items' passed.items_made fine adds);
          between = subst R cut (between_next bound bound' above d passed.between (h.1 passed.between.in_order));
          not_above = next;
        }

-- all are passed
pub all_passed : {A : Type 0} (raw : RawScript) (first : Option RefusedSet) (n : ℕ) (bound : BoundNames A) (items : Items A) → length raw ≤ n → Passed raw first n bound items → AreItemsOf raw raw items
all_passed raw first n bound items over passed = let P : RawScript → Type 0 = λ ds. AreItemsOf raw ds items in subst P (take_all n raw over) passed.items_made

-- ---- the declaration at a place of the tree as it is written

module _ {A : Type 0} (ds xs : List (Declaration A)) (same : xs ≡ ds) (n : ℕ) where
  pub within_tree : n < length xs → n < length (map declaration_of ds)
  within_tree h = let long = length-map ds declaration_of in let e = ap length same in omega (arith, h, long, e)

  pub read_in_tree : (d : Declaration A) → n < length xs → d ≡ get_or xs n d → get_or (map declaration_of ds) n (declaration_of d) ≡ declaration_of d
  read_in_tree d within is =
      let e = ap length same in
      get_or-map declaration_of ds n d (declaration_of d) (omega (arith, within, e)) ∙ ap declaration_of (sym (is ∙ ap (λ ys. get_or ys n d) same))

  pub behind_tree : length xs ≤ n → length (map declaration_of ds) ≤ n
  behind_tree h = let long = length-map ds declaration_of in let e = ap length same in omega (arith, h, long, e)
