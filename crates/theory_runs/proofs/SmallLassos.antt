-- Divergence of small terms.
use Rattle.std.proofs.Common.{◌≡◌, [], ◌∷◌, refl, inl, inr, subst}
use Rattle.theory_syntax.specs.Value.{Tau, Tick}
use Rattle.theory_syntax.specs.Process.{Process, Stop, Skip, InternalChoice}
use Rattle.theory_semantics.specs.Meaning.Divergence.{Diverges}
use Rattle.theory_semantics.specs.Meaning.Offers.{CanDo}
use Rattle.theory_semantics.specs.Meaning.Stepping.{rule_steps}
use Rattle.theory_semantics.specs.Meaning.Transitions.{RuleStep}
use Rattle.theory_semantics.specs.Laws.Statements.{IsOneOf}
use Rattle.theory_semantics.specs.Laws.Terms.{letters, looping}
use Rattle.theory_semantics.proofs.Offering.{free}
use Rattle.theory_semantics.proofs.Stepping.{exact}
use Rattle.theory_semantics.proofs.WorkedRows.{P}
use Rattle.theory_runs.specs.Lassos.{IsLasso}

-- `P = P` is back at once
pub unfolds_to_itself : IsLasso looping P (P ∷ []) 0 P
unfolds_to_itself = record { stands = refl; visits = (P, P ∷ [], refl, (free looping P refl, (exact looping P Tau P).1 (inl (refl, refl))), (refl, refl)) }

-- `STOP |~| SKIP` has one tau, and behind it none
abbrev either : Process
either = InternalChoice Stop Skip

pub may_choose : CanDo (letters []) either Tau
may_choose = (Stop, (free (letters []) either refl, (exact (letters []) either Tau Stop).1 (inl (refl, refl))))

no_tau : (mid u : Process) → RuleStep (letters []) either Tau mid → ¬ RuleStep (letters []) mid Tau u
no_tau mid u step = by ((exact (letters []) either Tau mid).0 step)
  where
    of_stop : mid ≡ Stop → ¬ RuleStep (letters []) mid Tau u
    of_stop e h = let Q : Process → Type 0 = λ p. RuleStep (letters []) p Tau u in (exact (letters []) Stop Tau u).0 (subst Q e h)

    of_skip : mid ≡ Skip → ¬ RuleStep (letters []) mid Tau u
    of_skip e h = let Q : Process → Type 0 = λ p. RuleStep (letters []) p Tau u in ended ((exact (letters []) Skip Tau u).0 (subst Q e h))
      where
        ended : ¬ IsOneOf (rule_steps (letters []) Skip) Tau u
        ended (inl f) = absurd (let g : Tau ≡ Tick = f.0 in cc g)
        ended (inr f) = absurd f

    by : IsOneOf (rule_steps (letters []) either) Tau mid → ¬ RuleStep (letters []) mid Tau u
    by (inl e) = of_stop e.1
    by (inr (inl e)) = of_skip e.1
    by (inr (inr e)) = absurd e

pub chooses_once : ¬ Diverges (letters []) either
chooses_once long = let run = (long 2).1 in no_tau run.0 run.2.0 run.1.1 run.2.1.1
