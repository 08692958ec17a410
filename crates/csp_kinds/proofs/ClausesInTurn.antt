-- The clauses of a datatype one after the other.
use Rattle.std.specs.Prelude.{take, drop}
use Rattle.std.specs.Option.{option_or}
use Rattle.std.specs.declared.vec.Vec.{Vec}
use Rattle.std.proofs.lemmas.List.{map-append, take_all}
use Rattle.std.proofs.Common.{◌≡◌, ◌<◌, ◌≤◌, ℕ, ◌+◌, List, [], ◌∷◌, ◌++◌, append-nil, length, get_or, map, Option, None, sym, ap, ap₂, ◌∙◌, subst}
use Rattle.theory_text.specs.Raw.{RawDatatype}
use Rattle.theory_checking.specs.Resolving.{every}
use Rattle.theory_checking.specs.Sets.{clause_sets, datatypes_of, field_members_with, members_above}
use Rattle.theory_checking.specs.Sites.{in_clause_sets, in_clauses}
use Rattle.csp_parse.specs.declared.declarations.Clause.{Clause}
use Rattle.csp_parse.specs.declared.declarations.Domain.{Domain}
use Rattle.csp_parse.specs.Declarations.{clause_of, domain_of}
use Rattle.csp_parse.specs.Names.{name_of}
use Rattle.csp_value.specs.declared.field_set.FieldSet.{FieldSet}
use Rattle.csp_names.specs.Scopes.{known_sets}
use Rattle.csp_kinds.specs.declared.clauses.Clauses.{Clauses}
use Rattle.csp_kinds.specs.declared.fields.Fields.{Fields}
use Rattle.csp_kinds.specs.declared.fit.Fit.{Fit}
use Rattle.csp_kinds.specs.declared.looking.Above.{Above}
use Rattle.csp_kinds.specs.Clauses.{AreClausesOf, IsNextDatatype}
use Rattle.csp_kinds.specs.Faults.{IsFaultOf}
use Rattle.csp_kinds.specs.Fields.{AreFieldsOfClause, IsNextClause, known_fields, LooksAtClause}
use Rattle.csp_kinds.specs.Fit.{IsFitOf}
use Rattle.csp_kinds.specs.Looking.{fault_in}
use Rattle.csp_kinds.proofs.ClauseFits.{clause_begins, datatype_begins}
use Rattle.csp_kinds.proofs.ClauseSteps.{in_more_clauses}
use Rattle.csp_kinds.proofs.FieldSteps.{or_none}
use Rattle.csp_kinds.proofs.Numbered.{constructors_numbered}
use Rattle.csp_kinds.proofs.SetSites.{fault_of_both}
use Rattle.csp_kinds.proofs.Turns.{counted_so_far, cut_there, one_longer}

-- the fields that are lent of a clause are its own
pub are_of : {A : Type 0} (c : Clause A) (lent : List (Domain A)) → lent ≡ c.fields.items →
    (s : Above A) (old : Fit A) (constructor : ℕ) (fields : Fields A) (new : Fit A) → LooksAtClause s old constructor (map domain_of lent) new fields →
    (next : IsNextClause s old constructor (map domain_of c.fields.items)) → AreFieldsOfClause next.raw next.above next.name next.clauses next.c (map domain_of c.fields.items) old.some fields new
are_of {A} c lent same s old constructor fields new looks next =
    let P : List (Domain A) → Type 0 = λ ds. LooksAtClause s old constructor (map domain_of ds) new fields in (subst P same looks) next

module _ {A : Type 0} (s : Above A) (start : Fit A) (cs : List (Clause A)) (next : IsNextDatatype s start (map clause_of cs)) where
  pub no_clauses : (all : Clauses A) → all.sets.items ≡ [] → all.fault ≡ None → AreClausesOf next.raw next.above next.name [] start.some all start
  no_clauses all empty none = record {
    known = datatype_begins next.raw next.above next.name start next.known;
    sets = ap (map (known_sets {A = A})) empty;
    fault = rw none tt;
    fine = λ e was. was;
    before = λ e. e;
  }

  module _ (i : ℕ) (c : Clause A) (within : i < length cs) (read : c ≡ get_or cs i c) (all : Clauses A) (fit : Fit A)
      (so_far : AreClausesOf next.raw next.above next.name (map clause_of (take i cs)) start.some all fit) where
    longer : map clause_of (take (i + 1) cs) ≡ map clause_of (take i cs) ++ clause_of c ∷ []
    longer = one_longer clause_of cs i c within read

    pub stands : next.raw ≡ next.above ++ RawDatatype next.name (map clause_of (take i cs) ++ clause_of c ∷ map clause_of (drop (i + 1) cs)) ∷ next.below
    stands = next.stands ∙ ap (λ xs. next.above ++ RawDatatype next.name xs ∷ next.below) (cut_there clause_of cs i c within read)

    abbrev pub next_clause : (constructor : ℕ) → constructor ≡ length s.table.now.types.constructors.items + i → IsNextClause s fit constructor (map domain_of c.fields.items)
    next_clause constructor is = record {
      raw = next.raw;
      above = next.above;
      below = next.below;
      name = next.name;
      clauses = map clause_of (take i cs);
      more = map clause_of (drop (i + 1) cs);
      c = name_of c.name;
      stands = stands;
      over = next.over;
      known = clause_begins next.raw next.above next.below next.name (map clause_of (take i cs)) (map clause_of (drop (i + 1) cs)) (clause_of c) fit stands so_far.known;
      number = is ∙ ap₂ (λ m n. m + n) (constructors_numbered next.raw next.above s.table.now next.over.table) (sym (counted_so_far clause_of cs i c within read));
    }

    module _ (fields : Fields A) (new_fit : Fit A) (new : Clauses A) (own : Option (Vec (FieldSet A) A))
        (are : AreFieldsOfClause next.raw next.above next.name (map clause_of (take i cs)) (name_of c.name) (map domain_of c.fields.items) fit.some fields new_fit)
        (is_own : known_sets own ≡ known_fields fields) (pushed : new.sets.items ≡ all.sets.items ++ own ∷ [])
        (first_fault : fault_in new.fault ≡ option_or (fault_in all.fault) (fault_in fields.fault)) where
      both_fine : fault_in new.fault ≡ None → (fault_in all.fault ≡ None) × (fault_in fields.fault ≡ None)
      both_fine none = or_none (fault_in all.fault) (fault_in fields.fault) (sym first_fault ∙ none)

      sets : map known_sets new.sets.items ≡ map (every (field_members_with (datatypes_of next.raw) (members_above next.raw next.above)))
          (map (clause_sets next.above) (map clause_of (take (i + 1) cs)))
      sets =
          let f = every (field_members_with (datatypes_of next.raw) (members_above next.raw next.above)) in
          ap (map (known_sets {A = A})) pushed ∙ map-append (known_sets {A = A}) all.sets.items (own ∷ []) ∙ ap₂ (λ xs x. xs ++ x ∷ []) so_far.sets (is_own ∙ are.sets)
          ∙ sym (ap (λ xs. map f (map (clause_sets next.above) xs)) longer ∙ ap (map f) (map-append (clause_sets next.above) (map clause_of (take i cs)) (clause_of c ∷ []))
          ∙ map-append f (map (clause_sets next.above) (map clause_of (take i cs))) (clause_sets next.above (clause_of c) ∷ []))

      sites : IsFaultOf (in_clauses next.raw next.above next.name [] (map clause_of (take (i + 1) cs))) (fault_in new.fault)
      sites =
          let last = in_clause_sets next.raw next.above next.name (map clause_of (take i cs)) (name_of c.name) [] (map domain_of c.fields.items) in
          let one : IsFaultOf (in_clauses next.raw next.above next.name (map clause_of (take i cs)) (clause_of c ∷ [])) (fault_in fields.fault) =
          subst (λ xs. IsFaultOf xs (fault_in fields.fault)) (sym (append-nil last)) are.fault in
          let both = fault_of_both (in_clauses next.raw next.above next.name [] (map clause_of (take i cs))) (in_clauses next.raw next.above next.name (map clause_of (take i cs)) (clause_of c ∷ []))
          (fault_in all.fault) (fault_in fields.fault) so_far.fault one in
          subst (λ xs. IsFaultOf (in_clauses next.raw next.above next.name [] xs) (fault_in new.fault)) (sym longer)
          (subst (λ xs. IsFaultOf xs (fault_in new.fault)) (sym (in_more_clauses next.raw next.above next.name [] (map clause_of (take i cs)) (clause_of c ∷ [])))
          (subst (IsFaultOf (in_clauses next.raw next.above next.name [] (map clause_of (take i cs)) ++ in_clauses next.raw next.above next.name
          (map clause_of (take i cs)) (clause_of c ∷ []))) (sym first_fault) both))

      pub one_clause : AreClausesOf next.raw next.above next.name (map clause_of (take (i + 1) cs)) start.some new new_fit
      one_clause = record {
        known = subst (λ xs. IsFitOf next.raw (next.above ++ RawDatatype next.name xs ∷ []) new_fit) (sym longer) are.known;
        sets = sets;
        fault = sites;
        fine = λ none was. are.fine (both_fine none).1 (so_far.fine (both_fine none).0 was);
        before = λ e. so_far.before (are.before e);
      }

  pub all_clauses : (i : ℕ) (all : Clauses A) (fit : Fit A) → length cs ≤ i → AreClausesOf next.raw next.above next.name (map clause_of (take i cs)) start.some all fit →
      AreClausesOf next.raw next.above next.name (map clause_of cs) start.some all fit
  all_clauses i all fit over h = subst (λ xs. AreClausesOf next.raw next.above next.name (map clause_of xs) start.some all fit) (take_all i cs over) h
