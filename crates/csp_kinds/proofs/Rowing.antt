-- The datatypes of the declarations so far, whose constructors are numbered in a row.
use Rattle.std.specs.Prelude.{take}
use Rattle.std.proofs.lemmas.List.{map-append}
use Rattle.std.proofs.Common.{◌≡◌, ◌<◌, ℕ, ◌+◌, List, [], ◌∷◌, ◌++◌, append-nil, length, get_or, map, refl, sym, ap, ap₂, ◌∙◌}
use Rattle.theory_text.specs.Raw.{RawScript}
use Rattle.theory_checking.specs.ConstructorRows.{constructor_counts, constructors_declared}
use Rattle.theory_checking.specs.Inference.Items.{behind_all, numbers_from, rows_from}
use Rattle.theory_checking.proofs.ConstructorRows.{counts_of_one_more, rows_with_one_more}
use Rattle.csp_parse.specs.declared.declarations.Declaration.{Declaration}
use Rattle.csp_parse.specs.Declarations.{declaration_of}
use Rattle.csp_expression.specs.declared.types.Constructors.{Constructors}
use Rattle.csp_expression.specs.Evaluation.{constructors_of}
use Rattle.csp_kinds.proofs.Turns.{one_longer}

pub record AreRows (ds : RawScript) (all : List Constructors) (next : ℕ) : Type 0 where
  pub rows : map constructors_of all ≡ rows_from 0 (constructor_counts ds)
  pub next_one : next ≡ behind_all 0 (constructor_counts ds)

behind_one : (n : ℕ) (ks : List ℕ) (k : ℕ) → behind_all n (ks ++ k ∷ []) ≡ behind_all n ks + k
behind_one n [] k = refl
behind_one n (j ∷ ks) k = behind_one (n + j) ks k

module _ {A : Type 0} (ds : List (Declaration A)) (i : ℕ) (d : Declaration A) (within : i < length ds) (read : d ≡ get_or ds i d) where
  counts : constructor_counts (map declaration_of (take (i + 1) ds)) ≡ constructor_counts (map declaration_of (take i ds)) ++ constructors_declared (declaration_of d)
  counts = ap constructor_counts (one_longer declaration_of ds i d within read) ∙ counts_of_one_more (map declaration_of (take i ds)) (declaration_of d)

  pub other_row : (all : List Constructors) (next : ℕ) → constructors_declared (declaration_of d) ≡ [] → AreRows (map declaration_of (take i ds)) all next → AreRows (map declaration_of (take (i + 1) ds)) all next
  other_row all next none h =
      let same = counts ∙ ap (λ ks. constructor_counts (map declaration_of (take i ds)) ++ ks) none ∙ append-nil (constructor_counts (map declaration_of (take i ds))) in
      record { rows = h.rows ∙ ap (rows_from 0) (sym same); next_one = h.next_one ∙ ap (behind_all 0) (sym same) }

  pub one_row : (all more : List Constructors) (next behind count : ℕ) (row : Constructors) → constructors_declared (declaration_of d) ≡ count ∷ [] → more ≡ all ++ row ∷ [] → constructors_of row ≡ numbers_from next count → behind ≡ next + count →
      AreRows (map declaration_of (take i ds)) all next → AreRows (map declaration_of (take (i + 1) ds)) more behind
  one_row all more next behind count row declares pushed numbers goes h =
      let so_far = constructor_counts (map declaration_of (take i ds)) in
      let same : constructor_counts (map declaration_of (take (i + 1) ds)) ≡ constructor_counts (map declaration_of (take i ds)) ++ count ∷ [] =
      counts ∙ ap (λ ks. constructor_counts (map declaration_of (take i ds)) ++ ks) declares in
      record {
        rows =
            ap (map constructors_of) pushed ∙ map-append constructors_of all (row ∷ []) ∙ ap₂ (λ xs x. xs ++ x ∷ []) h.rows (numbers ∙ ap (λ n. numbers_from n count) h.next_one)
            ∙ sym (rows_with_one_more 0 (constructor_counts (map declaration_of (take i ds))) count) ∙ ap (rows_from 0) (sym same);
        next_one = goes ∙ ap (λ n. n + count) h.next_one ∙ sym (behind_one 0 (constructor_counts (map declaration_of (take i ds))) count) ∙ ap (behind_all 0) (sym same);
      }
