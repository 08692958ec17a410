-- The fields of a constructor one after the other.
use Rattle.std.specs.Prelude.{take, drop}
use Rattle.std.proofs.lemmas.List.{take_all}
use Rattle.std.proofs.Common.{◌≡◌, ◌<◌, ◌≤◌, ℕ, ◌+◌, true, List, [], ◌∷◌, ◌++◌, length, get_or, map, None, refl, sym, ap, ◌∙◌, subst}
use Rattle.theory_text.specs.Raw.{RawDatatype}
use Rattle.csp_parse.specs.declared.declarations.Domain.{Domain}
use Rattle.csp_parse.specs.Declarations.{domain_of}
use Rattle.csp_kinds.specs.declared.fields.Fields.{Fields}
use Rattle.csp_kinds.specs.declared.fit.Fit.{Fit}
use Rattle.csp_kinds.specs.declared.looking.Above.{Above}
use Rattle.csp_kinds.specs.Fields.{AddsClauseField, AreFieldsOfClause, IsNextClause}
use Rattle.csp_kinds.proofs.Turns.{counted_so_far, cut_there, one_longer}

module _ {A : Type 0} (s : Above A) (start : Fit A) (constructor : ℕ) (ds : List (Domain A)) (next : IsNextClause s start constructor (map domain_of ds)) where
  pub no_clause_fields : (fields : Fields A) → fields.sets.items ≡ [] → fields.complete ≡ true → fields.fault ≡ None →
      AreFieldsOfClause next.raw next.above next.name next.clauses next.c [] start.some fields start
  no_clause_fields fields empty complete none = record {
    known = next.known;
    sets = rw (complete, empty) refl;
    fault = rw none tt;
    fine = λ e was. was;
    before = λ e. e;
  }

  module _ (i : ℕ) (d : Domain A) (within : i < length ds) (read : d ≡ get_or ds i d) (old new : Fields A) (old_fit new_fit : Fit A)
      (adds : AddsClauseField s constructor i (domain_of d) old old_fit new new_fit) where
    pub one_clause_field : AreFieldsOfClause next.raw next.above next.name next.clauses next.c (map domain_of (take i ds)) start.some old old_fit →
        AreFieldsOfClause next.raw next.above next.name next.clauses next.c (map domain_of (take (i + 1) ds)) start.some new new_fit
    one_clause_field so_far =
        subst (λ xs. AreFieldsOfClause next.raw next.above next.name next.clauses next.c xs start.some new new_fit) (sym (one_longer domain_of ds i d within read))
        (adds next.raw next.above next.below next.name next.clauses next.more next.c (map domain_of (take i ds)) (map domain_of (drop (i + 1) ds)) start.some
        (next.stands ∙ ap (λ xs. next.above ++ RawDatatype next.name (next.clauses ++ record { name = next.c; fields = xs } ∷ next.more) ∷ next.below)
        (cut_there domain_of ds i d within read)) next.over next.number
        (sym (counted_so_far domain_of ds i d within read)) so_far)

  pub all_clause_fields : (i : ℕ) (fields : Fields A) (fit : Fit A) → length ds ≤ i →
      AreFieldsOfClause next.raw next.above next.name next.clauses next.c (map domain_of (take i ds)) start.some fields fit →
      AreFieldsOfClause next.raw next.above next.name next.clauses next.c (map domain_of ds) start.some fields fit
  all_clause_fields i fields fit over h = subst (λ xs. AreFieldsOfClause next.raw next.above next.name next.clauses next.c (map domain_of xs) start.some fields fit) (take_all i ds over) h
