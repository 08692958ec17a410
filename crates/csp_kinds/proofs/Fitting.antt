-- Whether some kinds fit one set more.
use Rattle.std.specs.Prelude.{MatchBool}
use Rattle.std.proofs.lemmas.Bool.{MatchBool-at_true, MatchBool-at_false}
use Rattle.std.proofs.Common.{◌≡◌, ℕ, Bool, true, false, [], ◌∷◌, ◌++◌, Option, Result, Ok, Err, refl, sym, ap, ◌∙◌, subst}
use Rattle.theory_syntax.specs.Expression.{Expression}
use Rattle.theory_syntax.specs.Types.{Types}
use Rattle.theory_text.specs.Raw.{RawNametype, RawChannels, RawScript}
use Rattle.theory_checking.specs.Sets.{types_of}
use Rattle.theory_checking.specs.Sites.{with_clause}
use Rattle.theory_checking.specs.Rules.{SomeFit}
use Rattle.theory_checking.proofs.AskingSets.{fit_fewer_clauses}
use Rattle.theory_checking.proofs.FitsAbove.{fit_above, fit_fewer}
use Rattle.csp_inference.specs.declared.misfit.Misfit.{Misfit}
use Rattle.csp_inference.specs.declared.misfit.Misfit.TheVariants as misfit
use Rattle.csp_inference.specs.Numbering.{numbering_of}
use Rattle.csp_inference.specs.State.{state_in}
use Rattle.csp_inference.specs.declared.fitted_sets.Column.{Column}
use Rattle.csp_inference.specs.KnownKinds.{FitsClauseField, FitsField, FitsNametype, KnowsKinds}
use Rattle.csp_inference.proofs.OneMore.{some_known}
use Rattle.csp_kinds.specs.declared.fit.Fit.{Fit}
use Rattle.csp_kinds.specs.Fit.{IsFitOf, IsOpen, TakesClauseField, TakesField, TakesNametype}

pub match_true : (b : Bool) (P Q : Type 0) → b ≡ true → P → MatchBool b P Q
match_true true P Q e p = p
match_true false P Q e p = absurd (cc e)

pub match_false : (b : Bool) (P Q : Type 0) → b ≡ false → Q → MatchBool b P Q
match_false true P Q e q = absurd (cc e)
match_false false P Q e q = q

not_both : {b : Bool} → b ≡ false → b ≡ true → ⊥
not_both e f = let both : false ≡ true = sym e ∙ f in cc both

module _ {A : Type 0} (raw so_far : RawScript) (fit : Fit A) where
  pub fit_known : IsFitOf raw so_far fit → fit.some ≡ true → KnowsKinds raw so_far fit.known
  fit_known h e = MatchBool-at_true (KnowsKinds raw so_far fit.known) (¬ (SomeFit (types_of raw) so_far)) e h

  pub fit_none : IsFitOf raw so_far fit → fit.some ≡ false → ¬ (SomeFit (types_of raw) so_far)
  fit_none h e = MatchBool-at_false (KnowsKinds raw so_far fit.known) (¬ (SomeFit (types_of raw) so_far)) e h

  pub is_fit : fit.some ≡ true → KnowsKinds raw so_far fit.known → IsFitOf raw so_far fit
  is_fit e k = match_true fit.some (KnowsKinds raw so_far fit.known) (¬ (SomeFit (types_of raw) so_far)) e k

  pub is_misfit : fit.some ≡ false → ¬ (SomeFit (types_of raw) so_far) → IsFitOf raw so_far fit
  is_misfit e n = match_false fit.some (KnowsKinds raw so_far fit.known) (¬ (SomeFit (types_of raw) so_far)) e n

  pub known_some : KnowsKinds raw so_far fit.known → SomeFit (types_of raw) so_far
  known_some k = some_known raw so_far (numbering_of fit.known.numbering) fit.known.equations.next (state_in fit.known.equations.state) k

  pub fit_some : IsFitOf raw so_far fit → fit.some ≡ true → SomeFit (types_of raw) so_far
  fit_some h e = known_some (fit_known h e)

  -- whether some kinds fit
  pub fit_decided : IsFitOf raw so_far fit → MatchBool fit.some (SomeFit (types_of raw) so_far) (¬ (SomeFit (types_of raw) so_far))
  fit_decided h = go fit.some refl
    where
      go : (b : Bool) → fit.some ≡ b → MatchBool fit.some (SomeFit (types_of raw) so_far) (¬ (SomeFit (types_of raw) so_far))
      go true e = match_true fit.some (SomeFit (types_of raw) so_far) (¬ (SomeFit (types_of raw) so_far)) e (fit_some h e)
      go false e = match_false fit.some (SomeFit (types_of raw) so_far) (¬ (SomeFit (types_of raw) so_far)) e (fit_none h e)

  pub fit_open : IsFitOf raw so_far fit → IsOpen fit
  fit_open h e = (fit_known h e).solved.resolved

-- ---- one nametype more

module _ {A : Type 0} (types : Types) (n : ℕ) (set : Option Expression) (old new : Fit A) where
  pub nametype_known : (r : Result (Unit {0}) Misfit) (u : Unit {0}) → r ≡ Ok u → old.some ≡ true → new.some ≡ true → FitsNametype types n set old.known new.known r → TakesNametype types n set old new
  nametype_known r u ok was some fits = record {
    fit = λ raw above below name domain stands same number is h.
        is_fit raw (above ++ RawNametype name domain ∷ []) new some (subst (FitsNametype types n set old.known new.known) ok fits raw above below name domain stands same number is (fit_known raw above old h was)).0;
    before = λ e. was;
  }

  pub nametype_misfit : (r : Result (Unit {0}) Misfit) (m : Misfit) → r ≡ Err m → m ≡ misfit.NoKinds → old.some ≡ true → new.some ≡ false → FitsNametype types n set old.known new.known r → TakesNametype types n set old new
  nametype_misfit r m err none was some fits = record {
    fit = λ raw above below name domain stands same number is h.
        is_misfit raw (above ++ RawNametype name domain ∷ []) new some (subst (FitsNametype types n set old.known new.known) (err ∙ ap Err none) fits raw above below name domain stands same number is (fit_known raw above old h was));
    before = λ e. was;
  }

  pub nametype_unfit : old.some ≡ false → new.some ≡ false → TakesNametype types n set old new
  nametype_unfit was some = record {
    fit = λ raw above below name domain stands same number is h.
        is_misfit raw (above ++ RawNametype name domain ∷ []) new some (λ fits. fit_none raw above old h was (fit_above (types_of raw) above (RawNametype name domain ∷ []) fits));
    before = λ e. absurd (not_both some e);
  }

-- ---- one field more

module _ {A : Type 0} (types : Types) (column : Column) (set : Option Expression) (old new : Fit A) where
  pub field_known : (r : Result (Unit {0}) Misfit) (u : Unit {0}) → r ≡ Ok u → old.some ≡ true → new.some ≡ true → FitsField types column set old.known new.known r → TakesField types column set old new
  field_known r u ok was some fits = record {
    fit = λ raw above below names before rest d stands same at is h.
        is_fit raw (above ++ RawChannels names (before ++ d ∷ []) ∷ []) new some (subst (FitsField types column set old.known new.known) ok fits raw above below names before rest d stands same at is (fit_known raw (above ++ RawChannels names before ∷ []) old h was)).0;
    before = λ e. was;
  }

  pub field_misfit : (r : Result (Unit {0}) Misfit) (m : Misfit) → r ≡ Err m → m ≡ misfit.NoKinds → old.some ≡ true → new.some ≡ false → FitsField types column set old.known new.known r → TakesField types column set old new
  field_misfit r m err none was some fits = record {
    fit = λ raw above below names before rest d stands same at is h.
        is_misfit raw (above ++ RawChannels names (before ++ d ∷ []) ∷ []) new some (subst (FitsField types column set old.known new.known) (err ∙ ap Err none) fits raw above below names before rest d stands same at is (fit_known raw (above ++ RawChannels names before ∷ []) old h was));
    before = λ e. was;
  }

  pub field_unfit : old.some ≡ false → new.some ≡ false → TakesField types column set old new
  field_unfit was some = record {
    fit = λ raw above below names before rest d stands same at is h.
        is_misfit raw (above ++ RawChannels names (before ++ d ∷ []) ∷ []) new some (λ fits. fit_none raw (above ++ RawChannels names before ∷ []) old h was (fit_fewer (types_of raw) above names before (d ∷ []) fits));
    before = λ e. absurd (not_both some e);
  }

-- ---- one field of a constructor more

module _ {A : Type 0} (types : Types) (constructor field : ℕ) (set : Option Expression) (old new : Fit A) where
  pub clause_field_known : (r : Result (Unit {0}) Misfit) (u : Unit {0}) → r ≡ Ok u → old.some ≡ true → new.some ≡ true → FitsClauseField types constructor field set old.known new.known r → TakesClauseField types constructor field set old new
  clause_field_known r u ok was some fits = record {
    fit = λ raw above below name clauses more c before rest d stands same number place is h.
        is_fit raw (with_clause above name clauses c (before ++ d ∷ [])) new some
        (subst (FitsClauseField types constructor field set old.known new.known) ok fits raw above below name clauses more c before rest d stands same number place is (fit_known raw (with_clause above name clauses c before) old h was)).0;
    before = λ e. was;
  }

  pub clause_field_misfit : (r : Result (Unit {0}) Misfit) (m : Misfit) → r ≡ Err m → m ≡ misfit.NoKinds → old.some ≡ true → new.some ≡ false → FitsClauseField types constructor field set old.known new.known r →
      TakesClauseField types constructor field set old new
  clause_field_misfit r m err none was some fits = record {
    fit = λ raw above below name clauses more c before rest d stands same number place is h.
        is_misfit raw (with_clause above name clauses c (before ++ d ∷ [])) new some
        (subst (FitsClauseField types constructor field set old.known new.known) (err ∙ ap Err none) fits raw above below name clauses more c before rest d stands same number place is (fit_known raw (with_clause above name clauses c before) old h was));
    before = λ e. was;
  }

  pub clause_field_unfit : old.some ≡ false → new.some ≡ false → TakesClauseField types constructor field set old new
  clause_field_unfit was some = record {
    fit = λ raw above below name clauses more c before rest d stands same number place is h.
        is_misfit raw (with_clause above name clauses c (before ++ d ∷ [])) new some
        (λ fits. fit_none raw (with_clause above name clauses c before) old h was (fit_fewer_clauses (types_of raw) above name clauses [] c before (d ∷ []) fits));
    before = λ e. absurd (not_both some e);
  }
