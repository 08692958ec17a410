-- Equations and assertions, declaration by declaration.
use Rattle.std.proofs.Common.{◌≡◌, ℕ, ◌+◌, ◌<◌, List, [], ◌∷◌, ◌++◌, length, take, drop, get_or, map, Some, sym, ap, ◌∙◌}
use Rattle.std.proofs.lemmas.List.{drop_more, map-append, take_more, take-append-drop}
use Rattle.theory_text.specs.Raw.{RawDeclaration, RawDatatype, RawNametype, RawChannels, RawEquation, RawAssertion, RawScript}
use Rattle.theory_checking.specs.Scripts.{assertion_declared, equation_declared}
use Rattle.theory_checking.specs.Sets.{in_order}
use Rattle.theory_checking.specs.Sites.{in_declaration, sites}
use Rattle.theory_checking.specs.Walks.{AllFine}
use Rattle.theory_checking.proofs.OneMore.{flat_map_one_more}
use Rattle.theory_checking.proofs.Walking.{fine_next, stopped_in_declaration, stopped_is_not_fine}
use Rattle.csp_term.specs.Script.{assertion_of, equation_of}
use Rattle.csp_names.specs.declared.refusals.Refused.{Refused}
use Rattle.csp_names.specs.declared.refusals.Refused.TheVariants as refused
use Rattle.csp_names.specs.Walks.{Stops}
use Rattle.csp_kinds.specs.declared.items.Items.{Items}
use Rattle.csp_kinds.specs.Items.{Adds, AreItemsOf, in_processes}

-- the things so far, and one more
pub some_more : {T X : Type 0} (of : T → X) (old new : List T) (t : T) → new ≡ old ++ t ∷ [] → map Some (map of new) ≡ map Some (map of old) ++ Some (of t) ∷ []
some_more of old new t pushed = ap (λ ts. map Some (map of ts)) pushed ∙ ap (map Some) (map-append of old (t ∷ [])) ∙ map-append Some (map of old) (of t ∷ [])

-- nothing is there yet
pub no_items : {A : Type 0} (raw : RawScript) (items : Items A) → items.equations.items ≡ [] → items.assertions.items ≡ [] → AreItemsOf raw [] items
no_items raw items equations assertions = record {
  fine = tt;
  equations = ap (λ xs. map Some (map equation_of xs)) equations;
  assertions = ap (λ xs. map Some (map assertion_of xs)) assertions;
}

-- one declaration more
pub items_with_one_more : {A : Type 0} (raw above : RawScript) (d : RawDeclaration) (old new : Items A) → AreItemsOf raw above old → AllFine (in_declaration raw above d) → Adds raw d old new → AreItemsOf raw (above ++ d ∷ []) new
items_with_one_more raw above d old new are fine adds = record {
  fine = fine_next (in_declaration raw) above d are.fine fine;
  equations = adds.equations ∙ ap (λ xs. xs ++ equation_declared raw d) are.equations ∙ sym (flat_map_one_more (equation_declared raw) above d);
  assertions = adds.assertions ∙ ap (λ xs. xs ++ assertion_declared raw d) are.assertions ∙ sym (flat_map_one_more (assertion_declared raw) above d);
}

-- ---- the declaration at its place

pub one_more_declaration : (raw : RawScript) (i : ℕ) (d : RawDeclaration) → i < length raw → get_or raw i d ≡ d → take (i + 1) raw ≡ take i raw ++ d ∷ []
one_more_declaration raw i d within read = take_more raw i d within ∙ ap (λ x. take i raw ++ x ∷ []) read

pub stands_at : (raw : RawScript) (i : ℕ) (d : RawDeclaration) → i < length raw → get_or raw i d ≡ d → raw ≡ take i raw ++ d ∷ drop (i + 1) raw
stands_at raw i d within read = sym (take-append-drop i raw) ∙ ap (λ xs. take i raw ++ xs) (drop_more raw i d within ∙ ap (λ x. x ∷ drop (i + 1) raw) read)

-- Where the walk stops in a declaration's processes, it stops in the whole.
pub item_stops : (raw above below : RawScript) (d : RawDeclaration) (r : Refused) → raw ≡ above ++ d ∷ below → AllFine (in_order (in_declaration raw) above) → Stops (in_processes raw d) r → Stops (sites raw) r
item_stops raw above below d refused.Memory stands fine h = tt
item_stops raw above below (RawEquation name parameters body) (refused.Fault f p) stands fine h = stopped_in_declaration raw above below (RawEquation name parameters body) stands fine h
item_stops raw above below (RawAssertion place n a p) (refused.Fault f k) stands fine h = stopped_in_declaration raw above below (RawAssertion place n a p) stands fine h
item_stops raw above below (RawDatatype name constructors) (refused.Fault f p) stands fine h = absurd (stopped_is_not_fine [] h tt)
item_stops raw above below (RawNametype name domain) (refused.Fault f p) stands fine h = absurd (stopped_is_not_fine [] h tt)
item_stops raw above below (RawChannels names domains) (refused.Fault f p) stands fine h = absurd (stopped_is_not_fine [] h tt)
