-- Where no name is declared twice, the constructors of a tree's datatypes are numbered in a row.
use Rattle.std.specs.Prelude.{flat_map, filter_map, replicate}
use Rattle.std.proofs.lemmas.Grind.{flat_map-append}
use Rattle.std.proofs.lemmas.List.{append_assoc, map-append, length-map}
use Rattle.std.specs.Ordering.{is_lt, nat_cmp}
use Rattle.std.specs.Cmp.{nat_cmp_is}
use Rattle.std.specs.declared.cmp.Ordering.TheVariants.{Less}
use Rattle.std.proofs.Common.{◌≡◌, ℕ, zero, suc, ◌+◌, List, [], ◌∷◌, ◌++◌, append-nil, length, length-append, Some, refl, sym, ap, ◌∙◌, subst, arith}
use Rattle.theory_syntax.specs.Process.{Script}
use Rattle.theory_semantics.specs.Meaning.Offers.{RisesBy}
use Rattle.theory_semantics.specs.Kinds.Kind.{Each}
use Rattle.theory_semantics.specs.Kinds.Values.{DatatypesRise}
use Rattle.theory_text.specs.Raw.{RawDeclaration, RawDatatype, RawNametype, RawChannels, RawEquation, RawAssertion, RawScript}
use Rattle.theory_checking.specs.Names.{ConstructorName, clause_names, declared_as, names_of, spellings, number_in, DatatypeName}
use Rattle.theory_checking.specs.Sets.{datatype_of, datatypes_of, types_of}
use Rattle.theory_checking.specs.Scripts.{IsScriptOf}
use Rattle.theory_checking.specs.Faults.{NoneRefused}
use Rattle.theory_checking.specs.Rules.{all_declared, IsRedeclared}
use Rattle.theory_checking.specs.DeclaredRows.{EachOnce}
use Rattle.theory_checking.specs.ConstructorRows.{constructors_declared, constructor_counts}
use Rattle.theory_checking.specs.Inference.Equations.{Numbering, AreOwners}
use Rattle.theory_checking.specs.Inference.Items.{numbers_from, rows_from, owners_from, behind_all}
use Rattle.theory_checking.proofs.Counts.{length-replicate}
use Rattle.theory_checking.proofs.Spellings.{place_of_spelling}
use Rattle.theory_checking.proofs.RowMeanings.{names_once}
use Rattle.theory_checking.proofs.ScriptThere.{at_its_place}
use Rattle.theory_checking.proofs.Owning.{rows_have_owners}

-- those of one datatype, whose spellings stand behind others and before more
numbers_between : (ss cs ts : List (List ℕ)) → EachOnce (ss ++ (cs ++ ts)) → filter_map (number_in (ss ++ (cs ++ ts))) cs ≡ numbers_from (length ss) (length cs)
numbers_between ss [] ts once = refl
numbers_between ss (c ∷ cs) ts once =
    let P : List (List ℕ) → Type 0 = EachOnce in
    first ∙ ap (λ ns. length ss ∷ ns) (ap (λ all. filter_map (number_in all) cs) (sym again) ∙ numbers_between (ss ++ c ∷ []) cs ts (subst P (sym again) once)
    ∙ ap (λ n. numbers_from n (length cs)) more)
  where
    again : (ss ++ c ∷ []) ++ (cs ++ ts) ≡ ss ++ (c ∷ (cs ++ ts))
    again = append_assoc ss (c ∷ []) (cs ++ ts)

    here : number_in (ss ++ (c ∷ (cs ++ ts))) c ≡ Some (length ss)
    here = place_of_spelling (ss ++ (c ∷ (cs ++ ts))) (length ss) c once (at_its_place ss (cs ++ ts) c)

    first : filter_map (number_in (ss ++ (c ∷ (cs ++ ts)))) (c ∷ cs) ≡ length ss ∷ filter_map (number_in (ss ++ (c ∷ (cs ++ ts)))) cs
    first = rw here refl

    more : length (ss ++ c ∷ []) ≡ suc (length ss)
    more = let e : length (ss ++ c ∷ []) ≡ length ss + 1 = length-append ss (c ∷ []) in omega (arith, e)

-- the numbers of further declarations, behind those of the constructors above
datatypes_behind : (raw : RawScript) (ss : List (List ℕ)) (ds : RawScript) → EachOnce (names_of ConstructorName raw) → names_of ConstructorName raw ≡ ss ++ names_of ConstructorName ds →
    flat_map (datatype_of raw) ds ≡ rows_from (length ss) (constructor_counts ds)
datatypes_behind raw ss [] once is = refl
datatypes_behind raw ss (RawNametype name domain ∷ ds) once is = datatypes_behind raw ss ds once is
datatypes_behind raw ss (RawChannels names domains ∷ ds) once is = datatypes_behind raw ss ds once is
datatypes_behind raw ss (RawEquation name ns p ∷ ds) once is = datatypes_behind raw ss ds once is
datatypes_behind raw ss (RawAssertion place n a p ∷ ds) once is = datatypes_behind raw ss ds once is
datatypes_behind raw ss (RawDatatype name cs ∷ ds) once is =
    ap (λ r. r ∷ flat_map (datatype_of raw) ds) row ∙ ap (λ rows. numbers_from (length ss) (length (clause_names cs)) ∷ rows)
    (datatypes_behind raw (ss ++ spellings (clause_names cs)) ds once again ∙ ap (λ n. rows_from n (constructor_counts ds)) count)
  where
    parts : names_of ConstructorName raw ≡ ss ++ (spellings (clause_names cs) ++ names_of ConstructorName ds)
    parts = is ∙ ap (λ zs. ss ++ zs) (map-append (λ n. n.spelling) (clause_names cs) (flat_map (declared_as ConstructorName) ds))

    row : filter_map (number_in (names_of ConstructorName raw)) (spellings (clause_names cs)) ≡ numbers_from (length ss) (length (clause_names cs))
    row =
        let P : List (List ℕ) → Type 0 = EachOnce in
        ap (λ all. filter_map (number_in all) (spellings (clause_names cs))) parts ∙ numbers_between ss (spellings (clause_names cs)) (names_of ConstructorName ds) (subst P parts once)
        ∙ ap (numbers_from (length ss)) (length-map (clause_names cs) (λ n. n.spelling))

    again : names_of ConstructorName raw ≡ (ss ++ spellings (clause_names cs)) ++ names_of ConstructorName ds
    again = parts ∙ sym (append_assoc ss (spellings (clause_names cs)) (names_of ConstructorName ds))

    count : length (ss ++ spellings (clause_names cs)) ≡ length ss + length (clause_names cs)
    count = length-append ss (spellings (clause_names cs)) ∙ ap (λ n. length ss + n) (length-map (clause_names cs) (λ n. n.spelling))

-- The datatypes of a tree are rows of numbers, one behind the other.
pub datatypes_in_rows : (raw : RawScript) → NoneRefused IsRedeclared (all_declared raw) → datatypes_of raw ≡ rows_from 0 (constructor_counts raw)
datatypes_in_rows raw none = datatypes_behind raw [] raw (names_once ConstructorName raw none) refl

-- the constructors of each datatype rise
row_rises : (n k : ℕ) → RisesBy nat_cmp (numbers_from n k)
row_rises n zero = tt
row_rises n (suc zero) = tt
row_rises n (suc (suc k)) = (ap is_lt (sym (nat_cmp_is n (suc n) Less (omega arith))), row_rises (suc n) (suc k))

rows_rise : (n : ℕ) (ks : List ℕ) → Each (RisesBy nat_cmp) (rows_from n ks)
rows_rise n [] = tt
rows_rise n (k ∷ ks) = (row_rises n k, rows_rise (n + k) ks)

pub datatypes_rise : (raw : RawScript) → NoneRefused IsRedeclared (all_declared raw) → DatatypesRise (types_of raw)
datatypes_rise raw none = subst (Each (RisesBy nat_cmp)) (sym (datatypes_in_rows raw none)) (rows_rise 0 (constructor_counts raw))

pub types_in_rows : (raw : RawScript) → NoneRefused IsRedeclared (all_declared raw) → (types_of raw).datatypes ≡ rows_from 0 (constructor_counts raw)
types_in_rows raw none = datatypes_in_rows raw none

pub script_types_in_rows : (raw : RawScript) (script : Script) → NoneRefused IsRedeclared (all_declared raw) → IsScriptOf raw script → script.types.datatypes ≡ rows_from 0 (constructor_counts raw)
script_types_in_rows raw script none is = is.datatypes ∙ datatypes_in_rows raw none

-- so the owners in a row are the owners, in the tree's types and in the script's
pub owners_of_tree : (raw : RawScript) (o : Numbering) → NoneRefused IsRedeclared (all_declared raw) → o.owners ≡ owners_from 0 (constructor_counts raw) → AreOwners (types_of raw) o
owners_of_tree raw o none owners = rows_have_owners (types_of raw) o (constructor_counts raw) (types_in_rows raw none) owners

pub owners_of_script : (raw : RawScript) (script : Script) (o : Numbering) → NoneRefused IsRedeclared (all_declared raw) → IsScriptOf raw script →
    o.owners ≡ owners_from 0 (constructor_counts raw) → AreOwners script.types o
owners_of_script raw script o none is owners = rows_have_owners script.types o (constructor_counts raw) (script_types_in_rows raw script none is) owners

-- ---- one more declaration

pub counts_of_one_more : (above : RawScript) (d : RawDeclaration) → constructor_counts (above ++ d ∷ []) ≡ constructor_counts above ++ constructors_declared d
counts_of_one_more above d = flat_map-append constructors_declared above (d ∷ []) ∙ ap (λ zs. constructor_counts above ++ zs) (append-nil (constructors_declared d))

pub rows_with_one_more : (n : ℕ) (ks : List ℕ) (k : ℕ) → rows_from n (ks ++ k ∷ []) ≡ rows_from n ks ++ numbers_from (behind_all n ks) k ∷ []
rows_with_one_more n [] k = refl
rows_with_one_more n (j ∷ ks) k = ap (λ rows. numbers_from n j ∷ rows) (rows_with_one_more (n + j) ks k)

pub owners_with_one_more : (d : ℕ) (ks : List ℕ) (k : ℕ) → owners_from d (ks ++ k ∷ []) ≡ owners_from d ks ++ replicate k (d + length ks)
owners_with_one_more d [] k = let e : d ≡ d + 0 = omega arith in append-nil (replicate k d) ∙ ap (replicate k) e
owners_with_one_more d (j ∷ ks) k =
    let e : suc d + length ks ≡ d + suc (length ks) = omega arith in
    ap (λ zs. replicate j d ++ zs) (owners_with_one_more (suc d) ks k ∙ ap (λ n. owners_from (suc d) ks ++ replicate k n) e)
    ∙ sym (append_assoc (replicate j d) (owners_from (suc d) ks) (replicate k (d + suc (length ks))))

-- As many owners as constructors are declared, and as many rows as datatypes.
pub owners_counted : (d : ℕ) (raw : RawScript) → length (owners_from d (constructor_counts raw)) ≡ length (names_of ConstructorName raw)
owners_counted d [] = refl
owners_counted d (RawDatatype name cs ∷ ds) =
    length-append (replicate (length (clause_names cs)) d) (owners_from (suc d) (constructor_counts ds))
    ∙ ap (λ n. n + length (owners_from (suc d) (constructor_counts ds))) (length-replicate (length (clause_names cs)) d ∙ sym (length-map (clause_names cs) (λ n. n.spelling)))
    ∙ ap (λ n. length (spellings (clause_names cs)) + n) (owners_counted (suc d) ds) ∙ sym (length-append (spellings (clause_names cs)) (names_of ConstructorName ds))
    ∙ sym (ap length (map-append (λ n. n.spelling) (clause_names cs) (flat_map (declared_as ConstructorName) ds)))
owners_counted d (RawNametype name domain ∷ ds) = owners_counted d ds
owners_counted d (RawChannels names domains ∷ ds) = owners_counted d ds
owners_counted d (RawEquation name ns p ∷ ds) = owners_counted d ds
owners_counted d (RawAssertion place n a p ∷ ds) = owners_counted d ds

pub constructors_counted : (n : ℕ) (raw : RawScript) → behind_all n (constructor_counts raw) ≡ n + length (names_of ConstructorName raw)
constructors_counted n [] = omega arith
constructors_counted n (RawDatatype name cs ∷ ds) =
    let rest : behind_all (n + length (clause_names cs)) (constructor_counts ds) ≡ n + length (clause_names cs) + length (names_of ConstructorName ds) = constructors_counted (n + length (clause_names cs)) ds in
    let count : length (names_of ConstructorName (RawDatatype name cs ∷ ds)) ≡ length (clause_names cs) + length (names_of ConstructorName ds) =
    ap length (map-append (λ n. n.spelling) (clause_names cs) (flat_map (declared_as ConstructorName) ds)) ∙ length-append (spellings (clause_names cs)) (names_of ConstructorName ds)
    ∙ ap (λ k. k + length (names_of ConstructorName ds)) (length-map (clause_names cs) (λ n. n.spelling)) in
    omega (arith, rest, count)
constructors_counted n (RawNametype name domain ∷ ds) = constructors_counted n ds
constructors_counted n (RawChannels names domains ∷ ds) = constructors_counted n ds
constructors_counted n (RawEquation name ns p ∷ ds) = constructors_counted n ds
constructors_counted n (RawAssertion place b a p ∷ ds) = constructors_counted n ds

pub datatypes_counted : (raw : RawScript) → length (constructor_counts raw) ≡ length (names_of DatatypeName raw)
datatypes_counted [] = refl
datatypes_counted (RawDatatype name cs ∷ ds) = ap suc (datatypes_counted ds)
datatypes_counted (RawNametype name domain ∷ ds) = datatypes_counted ds
datatypes_counted (RawChannels names domains ∷ ds) = datatypes_counted ds
datatypes_counted (RawEquation name ns p ∷ ds) = datatypes_counted ds
datatypes_counted (RawAssertion place n a p ∷ ds) = datatypes_counted ds
