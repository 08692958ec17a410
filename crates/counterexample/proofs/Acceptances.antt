-- Acceptances that there are, and none.
use Rattle.std.proofs.Common.{◌≡◌, true, false, List, [], ◌∷◌, Vec, length, refl, arith}
use Rattle.std.proofs.lemmas.Bool.{eqb-true}
use Rattle.std.specs.Prelude.{codes, ◌==◌}
use Rattle.theory_syntax.specs.Value as pure
use Rattle.csp_value.specs.declared.action.Action.{Action}
use Rattle.theory_notation.specs.Names.{Names}
use Rattle.theory_explanation.specs.Counterparts.{acceptance_lines, acceptances_text}
use Rattle.csp_replay.specs.Offers.{offers_listed}

pub some_acceptances : {A : Type 0} (names : Names) (offer : List pure.Action) (all : List (Vec (Action A) A)) → (length all == 0) ≡ false → acceptance_lines names offer (offers_listed all) ≡ acceptances_text names offer (offers_listed all)
some_acceptances names offer [] some = absurd (cc some)
some_acceptances names offer (ys ∷ all) some = refl

pub no_acceptances : {A : Type 0} (names : Names) (offer : List pure.Action) (all : List (Vec (Action A) A)) → (length all == 0) ≡ true → codes "  there no state of the specification is stable\n" ≡ acceptances_text names offer (offers_listed all)
no_acceptances names offer [] none = refl
no_acceptances names offer (ys ∷ all) none = absurd (let some : length (ys ∷ all) ≡ 0 = eqb-true (length (ys ∷ all)) 0 none in omega (arith, some))
