-- A datatype is taken up.
use Rattle.std.proofs.Common.{◌≡◌, List, [], ◌∷◌, ◌++◌, map, refl, sym, ap, ◌∙◌, subst}
use Rattle.theory_text.specs.Raw.{RawName, RawClause, RawDatatype, RawScript}
use Rattle.theory_checking.specs.Sets.{datatypes_of, members_above, with_constructors}
use Rattle.theory_checking.proofs.ScriptThere.{members_one_more}
use Rattle.csp_names.specs.Scopes.{known_sets}
use Rattle.csp_kinds.specs.declared.clauses.Clauses.{Clauses}
use Rattle.csp_kinds.specs.declared.fit.Fit.{Fit}
use Rattle.csp_kinds.specs.declared.pass.Position.{Position}
use Rattle.csp_kinds.specs.declared.pass.SetsSoFar.{SetsSoFar}
use Rattle.csp_kinds.specs.declared.table.Table.{Table}
use Rattle.csp_kinds.specs.Clauses.{AreClausesOf}
use Rattle.csp_kinds.specs.Looking.{IsTableOf}
use Rattle.csp_kinds.specs.Pass.{AreSetsSoFar, first_refusal, IsPosition}
use Rattle.csp_kinds.proofs.Passed.{same_channels}
use Rattle.csp_kinds.proofs.RefusedSets.{one_refusal_more}

module _ {A : Type 0} (raw above : RawScript) (s : SetsSoFar A) (h : AreSetsSoFar raw above s) where
  module _ (below : RawScript) (name : RawName) (clauses : List RawClause) (stands : raw ≡ above ++ RawDatatype name clauses ∷ below) (at : Position A) (position : IsPosition raw above at)
      (all : Clauses A) (fit : Fit A) (are : AreClausesOf raw above name clauses s.fit.some all fit) where
    longer_table : members_above raw (above ++ RawDatatype name clauses ∷ []) ≡ with_constructors (map known_sets all.sets.items) (members_above raw above)
    longer_table = members_one_more raw above (RawDatatype name clauses) ∙ ap (λ cs. with_constructors cs (members_above raw above)) (sym are.sets)

    pub datatype_taken : (table : Table A) → IsTableOf (datatypes_of raw) (with_constructors (map known_sets all.sets.items) (members_above raw above)) table →
        AreSetsSoFar raw (above ++ RawDatatype name clauses ∷ []) (record { table = table; fit = fit; channels = s.channels; refused = first_refusal s.refused at.passed all.fault })
    datatype_taken table longer = record {
      table = subst (λ ms. IsTableOf (datatypes_of raw) ms table) (sym longer_table) longer;
      fit = are.known;
      channels = same_channels raw above (RawDatatype name clauses) s.fit fit h.fit are.known are.before s.channels refl h.channels;
      refusal = one_refusal_more raw above below (RawDatatype name clauses) stands s.fit.some fit.some at.passed position.passed s.refused h.refusal all.fault refl are.fault are.fine;
    }
