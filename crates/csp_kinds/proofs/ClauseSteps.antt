-- One field of a constructor more is looked at.
use Rattle.std.specs.Prelude.{is_some, MatchBool}
use Rattle.std.specs.Option.{option_or}
use Rattle.std.proofs.lemmas.List.{append_assoc}
use Rattle.std.proofs.Common.{◌≡◌, ℕ, List, [], ◌∷◌, ◌++◌, append-nil, option_map, sym, ap, ◌∙◌, subst}
use Rattle.theory_text.specs.Raw.{RawName, RawDomain, RawClause, RawDatatype, RawScript}
use Rattle.theory_checking.specs.Names.{environment_above}
use Rattle.theory_checking.specs.Sets.{types_of, set_expression, datatypes_of, members_above, field_members_with}
use Rattle.theory_checking.specs.Sites.{FieldSet, in_expression, in_clause_sets, in_clauses, with_clause}
use Rattle.theory_checking.specs.Rules.{SomeFit}
use Rattle.csp_expression.specs.Evaluation.{table_of}
use Rattle.csp_value.specs.Fields.{field_values}
use Rattle.csp_kinds.specs.declared.fields.Fields.{Fields}
use Rattle.csp_kinds.specs.declared.fit.Fit.{Fit}
use Rattle.csp_kinds.specs.declared.looking.Above.{Above}
use Rattle.csp_kinds.specs.declared.looking.LookedSet.{LookedSet}
use Rattle.csp_kinds.specs.Faults.{IsFaultOf, IsRead, fault_of_set}
use Rattle.csp_kinds.specs.Fields.{AddsClauseField, TakesSet}
use Rattle.csp_kinds.specs.Fit.{IsFitOf, TakesClauseField}
use Rattle.csp_kinds.specs.Looking.{fault_in, IsLookedAt, looked_expression, looked_refusal, StandsAbove}
use Rattle.csp_kinds.proofs.FieldSteps.{found_above, mapped_some, or_none, sets_more}
use Rattle.csp_kinds.proofs.Fitting.{fit_decided}
use Rattle.csp_kinds.proofs.SetSites.{fault_of_both, field_fault, fine_fits}

-- ---- the sites of fields, and of clauses

in_more_clause_sets : (raw above : RawScript) (name : RawName) (clauses : List RawClause) (c : RawName) (before ds es : List RawDomain) →
    in_clause_sets raw above name clauses c before (ds ++ es) ≡ in_clause_sets raw above name clauses c before ds ++ in_clause_sets raw above name clauses c (before ++ ds) es
in_more_clause_sets raw above name clauses c before [] es = ap (λ zs. in_clause_sets raw above name clauses c zs es) (sym (append-nil before))
in_more_clause_sets raw above name clauses c before (d ∷ ds) es =
    ap (λ xs. FieldSet d.place (types_of raw) (with_clause above name clauses c (before ++ d ∷ [])) (set_expression above d)
    (field_members_with (datatypes_of raw) (members_above raw above) (set_expression above d)) ∷ xs)
    (ap (λ xs. in_expression (environment_above above) d.set ++ xs)
    (in_more_clause_sets raw above name clauses c (before ++ d ∷ []) ds es
    ∙ ap (λ zs. in_clause_sets raw above name clauses c (before ++ d ∷ []) ds ++ in_clause_sets raw above name clauses c zs es) (append_assoc before (d ∷ []) ds))
    ∙ sym (append_assoc (in_expression (environment_above above) d.set) (in_clause_sets raw above name clauses c (before ++ d ∷ []) ds)
    (in_clause_sets raw above name clauses c (before ++ (d ∷ ds)) es)))

pub in_more_clauses : (raw above : RawScript) (name : RawName) (before cs ds : List RawClause) →
    in_clauses raw above name before (cs ++ ds) ≡ in_clauses raw above name before cs ++ in_clauses raw above name (before ++ cs) ds
in_more_clauses raw above name before [] ds = ap (λ zs. in_clauses raw above name zs ds) (sym (append-nil before))
in_more_clauses raw above name before (c ∷ cs) ds =
    ap (λ xs. in_clause_sets raw above name before c.name [] c.fields ++ xs)
    (in_more_clauses raw above name (before ++ c ∷ []) cs ds ∙ ap (λ zs. in_clauses raw above name (before ++ c ∷ []) cs ++ in_clauses raw above name zs ds) (append_assoc before (c ∷ []) cs))
    ∙ sym (append_assoc (in_clause_sets raw above name before c.name [] c.fields) (in_clauses raw above name (before ++ c ∷ []) cs) (in_clauses raw above name (before ++ (c ∷ cs)) ds))

-- ---- one field

module _ {A : Type 0} (s : Above A) (constructor field : ℕ) (d : RawDomain) (old : Fields A) (old_fit : Fit A) (new : Fields A) (new_fit : Fit A) (l : LookedSet A)
    (is : (raw above below : RawScript) → StandsAbove raw above s → raw ≡ above ++ below → IsLookedAt raw above d l)
    (taken : TakesClauseField (table_of s.table.now.types) constructor field (looked_expression l) old_fit new_fit) (takes : TakesSet l d.place new_fit.some old new) where
  pub adds_clause_field : AddsClauseField s constructor field d old old_fit new new_fit
  adds_clause_field raw above below name clauses more c before rest fitted stands over number place so_far = record {
    known = known;
    sets = sets_more (field_members_with (datatypes_of raw) (members_above raw above)) above before d old new so_far.sets takes.set takes.pushed found;
    fault = subst (IsFaultOf (in_clause_sets raw above name clauses c [] (before ++ d ∷ []))) (sym takes.fault) sites;
    fine = λ none was. fine_fits (looked_refusal l) d.place new_fit.some (is_some takes.set)
        (or_none (fault_in old.fault) (fault_of_set (looked_refusal l) d.place new_fit.some (is_some takes.set)) (sym takes.fault ∙ none)).1;
    before = λ e. so_far.before (taken.before e);
  }
    where
      looked : IsLookedAt raw above d l
      looked = is raw above (RawDatatype name (clauses ++ record { name = c; fields = before ++ d ∷ rest } ∷ more) ∷ below) over stands

      known : IsFitOf raw (with_clause above name clauses c (before ++ d ∷ [])) new_fit
      known = taken.fit raw above below name clauses more c before rest d stands (ap (λ t. t.datatypes) over.table.types) number place looked.expression so_far.known

      found : option_map field_values takes.set ≡ field_members_with (datatypes_of raw) (members_above raw above) (set_expression above d)
      found = found_above raw above s over d l looked takes.set takes.is

      fits : MatchBool new_fit.some (SomeFit (types_of raw) (with_clause above name clauses c (before ++ d ∷ []))) (¬ (SomeFit (types_of raw) (with_clause above name clauses c (before ++ d ∷ []))))
      fits = fit_decided raw (with_clause above name clauses c (before ++ d ∷ [])) new_fit known

      one : IsFaultOf (in_clause_sets raw above name clauses c before (d ∷ [])) (fault_of_set (looked_refusal l) d.place new_fit.some (is_some takes.set))
      one =
          let read = subst (λ xs. IsRead (set_expression above d) xs (looked_refusal l)) (sym (append-nil (in_expression (environment_above above) d.set))) looked.read in
          let counts = sym (mapped_some field_values takes.set) ∙ ap is_some found in
          field_fault d.place (types_of raw) (with_clause above name clauses c (before ++ d ∷ [])) (in_expression (environment_above above) d.set ++ []) (set_expression above d)
          (field_members_with (datatypes_of raw) (members_above raw above) (set_expression above d)) (looked_refusal l) new_fit.some (is_some takes.set) read fits counts

      sites : IsFaultOf (in_clause_sets raw above name clauses c [] (before ++ d ∷ [])) (option_or (fault_in old.fault) (fault_of_set (looked_refusal l) d.place new_fit.some (is_some takes.set)))
      sites =
          subst (λ xs. IsFaultOf xs (option_or (fault_in old.fault) (fault_of_set (looked_refusal l) d.place new_fit.some (is_some takes.set))))
          (sym (in_more_clause_sets raw above name clauses c [] before (d ∷ [])))
          (fault_of_both (in_clause_sets raw above name clauses c [] before) (in_clause_sets raw above name clauses c before (d ∷ [])) (fault_in old.fault)
          (fault_of_set (looked_refusal l) d.place new_fit.some (is_some takes.set))
          so_far.fault one)
