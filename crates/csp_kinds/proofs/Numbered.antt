-- How many nametypes and constructors stand above, and the constructors of the datatypes there.
use Rattle.std.specs.Prelude.{slice_get, unwrap_or}
use Rattle.std.proofs.Common.{◌≡◌, ◌<◌, ◌≤◌, ℕ, zero, suc, ◌+◌, List, [], ◌∷◌, ◌++◌, length, length-append, map, sym, ap, ◌∙◌, subst, arith}
use Rattle.std.proofs.lemmas.Grind.{flat_map-append}
use Rattle.std.proofs.lemmas.List.{length-map}
use Rattle.theory_semantics.specs.Kinds.Kind.{Each}
use Rattle.theory_semantics.proofs.Misfits.{each_map}
use Rattle.theory_text.specs.Raw.{RawDatatype, RawNametype, RawChannels, RawEquation, RawAssertion, RawScript}
use Rattle.theory_checking.specs.ConstructorRows.{constructor_counts, constructors_declared}
use Rattle.theory_checking.specs.Faults.{NoneRefused}
use Rattle.theory_checking.specs.Inference.Items.{behind_all, numbers_from, rows_from}
use Rattle.theory_checking.specs.Names.{ConstructorName, DatatypeName, NametypeName, names_of}
use Rattle.theory_checking.specs.Resolving.{every}
use Rattle.theory_checking.specs.Rules.{IsRedeclared, all_declared}
use Rattle.theory_checking.specs.Sets.{behind_each, set_expression, clause_sets, nametypes_declared, clauses_declared, nametype_sets, constructor_sets, datatypes_of, field_members_with, members_above, members_with, Members, no_members, types_declared, with_constructors, with_members, with_nametype}
use Rattle.theory_checking.proofs.ConstructorRows.{constructors_counted, datatypes_counted, datatypes_in_rows}
use Rattle.theory_checking.proofs.Meant as meant
use Rattle.theory_checking.proofs.Sizes.{sizes_of_constructors}
use Rattle.theory_checking.proofs.UsedAbove.{nametypes_counted}
use Rattle.std.specs.Prelude.{option_and_then}
use Rattle.csp_value.specs.Fields.{sets_of}
use Rattle.csp_kinds.specs.declared.table.Table.{Table}
use Rattle.csp_kinds.specs.Looking.{IsTableOf}

-- ---- as many members as sets

nametypes_behind : (dts : List (List ℕ)) (ms : Members) (above ds : RawScript) →
    length (with_members dts ms (behind_each types_declared above ds)).nametypes ≡ length ms.nametypes + length (behind_each nametypes_declared above ds)
nametypes_behind dts ms above [] = omega arith
nametypes_behind dts ms above (RawNametype name domain ∷ ds) =
    let m = option_and_then (members_with dts ms) (set_expression above domain) in
    let rest = nametypes_behind dts (with_nametype m ms) (above ++ RawNametype name domain ∷ []) ds in
    let one = length-append ms.nametypes (m ∷ []) in omega (arith, rest, one)
nametypes_behind dts ms above (RawDatatype name cs ∷ ds) =
    nametypes_behind dts (with_constructors (map (every (field_members_with dts ms)) (map (clause_sets above) cs)) ms) (above ++ RawDatatype name cs ∷ []) ds
nametypes_behind dts ms above (RawChannels names domains ∷ ds) = nametypes_behind dts ms (above ++ RawChannels names domains ∷ []) ds
nametypes_behind dts ms above (RawEquation name ns p ∷ ds) = nametypes_behind dts ms (above ++ RawEquation name ns p ∷ []) ds
nametypes_behind dts ms above (RawAssertion place n a p ∷ ds) = nametypes_behind dts ms (above ++ RawAssertion place n a p ∷ []) ds

constructors_behind : (dts : List (List ℕ)) (ms : Members) (above ds : RawScript) →
    length (with_members dts ms (behind_each types_declared above ds)).constructors ≡ length ms.constructors + length (behind_each clauses_declared above ds)
constructors_behind dts ms above [] = omega arith
constructors_behind dts ms above (RawDatatype name cs ∷ ds) =
    let new = map (every (field_members_with dts ms)) (map (clause_sets above) cs) in
    let rest = constructors_behind dts (with_constructors new ms) (above ++ RawDatatype name cs ∷ []) ds in
    let more = length-append ms.constructors new in
    let size : length new ≡ length (map (clause_sets above) cs) = length-map (map (clause_sets above) cs) (every (field_members_with dts ms)) in
    let all = length-append (map (clause_sets above) cs) (behind_each clauses_declared (above ++ RawDatatype name cs ∷ []) ds) in omega (arith, rest, more, size, all)
constructors_behind dts ms above (RawNametype name domain ∷ ds) =
    constructors_behind dts (with_nametype (option_and_then (members_with dts ms) (set_expression above domain)) ms) (above ++ RawNametype name domain ∷ []) ds
constructors_behind dts ms above (RawChannels names domains ∷ ds) = constructors_behind dts ms (above ++ RawChannels names domains ∷ []) ds
constructors_behind dts ms above (RawEquation name ns p ∷ ds) = constructors_behind dts ms (above ++ RawEquation name ns p ∷ []) ds
constructors_behind dts ms above (RawAssertion place n a p ∷ ds) = constructors_behind dts ms (above ++ RawAssertion place n a p ∷ []) ds

pub nametypes_above : (raw above : RawScript) → length (members_above raw above).nametypes ≡ length (nametype_sets above)
nametypes_above raw above = let all = nametypes_behind (datatypes_of raw) no_members [] above in omega (arith, all)

pub constructors_above : (raw above : RawScript) → length (members_above raw above).constructors ≡ length (constructor_sets above)
constructors_above raw above = let all = constructors_behind (datatypes_of raw) no_members [] above in omega (arith, all)

-- so many constructors stand in a table of the types above
pub constructors_numbered : {A : Type 0} (raw above : RawScript) (table : Table A) → IsTableOf (datatypes_of raw) (members_above raw above) table → length table.types.constructors.items ≡ length (constructor_sets above)
constructors_numbered raw above table h =
    sym (length-map table.types.constructors.items (λ c. sets_of c.sets.items)) ∙ ap (λ t. length t.constructors) h.types ∙ length-map (members_above raw above).constructors (λ m. unwrap_or m [])
    ∙ constructors_above raw above

-- ---- as many members as names

pub named_nametypes : (raw above : RawScript) → length (members_above raw above).nametypes ≡ length (names_of NametypeName above)
named_nametypes raw above = nametypes_above raw above ∙ nametypes_counted [] above

pub named_constructors : (raw above : RawScript) → length (members_above raw above).constructors ≡ length (names_of ConstructorName above)
named_constructors raw above =
    constructors_above raw above ∙ sym (length-map (constructor_sets above) length) ∙ ap length (sizes_of_constructors above) ∙ meant.constructors_counted above

-- ---- the constructors of the first datatypes

never_less : (n : ℕ) (ks : List ℕ) → n ≤ behind_all n ks
never_less n [] = omega arith
never_less n (k ∷ ks) = let le : n + k ≤ behind_all (n + k) ks = never_less (n + k) ks in omega (arith, le)

row_below : (n k m : ℕ) → n + k ≤ m → Each (λ j. j < m) (numbers_from n k)
row_below n zero m le = tt
row_below n (suc k) m le = (omega (arith, le), row_below (suc n) k m (omega (arith, le)))

rows_below : (n d : ℕ) (ks js : List ℕ) → d < length ks → Each (λ k. k < behind_all n ks) (unwrap_or (slice_get (rows_from n (ks ++ js)) d) [])
rows_below n d [] js small = absurd (omega arith)
rows_below n zero (k ∷ ks) js small = row_below n k (behind_all (n + k) ks) (never_less (n + k) ks)
rows_below n (suc d) (k ∷ ks) js small = rows_below (n + k) d ks js (omega (arith, small))

module _ (raw above below : RawScript) (stands : raw ≡ above ++ below) (once : NoneRefused IsRedeclared (all_declared raw)) where
  -- the constructors of a datatype above stand above
  pub row_above : (d : ℕ) → d < length (names_of DatatypeName above) → Each (λ k. k < length (members_above raw above).constructors) (unwrap_or (slice_get (datatypes_of raw) d) [])
  row_above d small =
      let rows : datatypes_of raw ≡ rows_from 0 (constructor_counts above ++ constructor_counts below) =
      datatypes_in_rows raw once ∙ ap (λ ds. rows_from 0 (constructor_counts ds)) stands ∙ ap (rows_from 0) (flat_map-append constructors_declared above below) in
      let size = datatypes_counted above in
      let many = constructors_counted 0 above in
      let all = named_constructors raw above in
      let here = rows_below 0 d (constructor_counts above) (constructor_counts below) (omega (arith, small, size)) in
      let P : List (List ℕ) → Type 0 = λ dts. Each (λ k. k < length (members_above raw above).constructors) (unwrap_or (slice_get dts d) []) in
      subst P (sym rows)
      (each_map (λ k. k < behind_all 0 (constructor_counts above)) (λ k. k < length (members_above raw above).constructors)
      (unwrap_or (slice_get (rows_from 0 (constructor_counts above ++ constructor_counts below)) d) []) (λ k less. omega (arith, less, many, all)) here)
