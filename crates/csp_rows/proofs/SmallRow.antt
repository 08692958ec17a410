-- `STOP ||| SKIP` is a row of its parts.
use Rattle.std.proofs.Common.{◌≡◌, ◌↔◌, ℕ, zero, suc, true, List, [], ◌∷◌, Some, Contains, inl, inr, refl, sym, ap, subst, arith}
use Rattle.std.specs.Prelude.{slice_get}
use Rattle.theory_syntax.specs.Value.{Action, Tick}
use Rattle.theory_syntax.specs.Process.{Interleaving, Omega, Process, Script, Skip, Stop}
use Rattle.theory_semantics.specs.Kinds.Kind.{Kinds}
use Rattle.theory_semantics.specs.Kinds.Scripts.{IsTermOf}
use Rattle.theory_semantics.specs.Laws.Statements.{IsOneOf}
use Rattle.theory_semantics.specs.Laws.Terms.{letters}
use Rattle.theory_semantics.specs.Meaning.Limits.{fits}
use Rattle.theory_semantics.specs.Meaning.Stepping.{Steps}
use Rattle.theory_semantics.specs.Meaning.Transitions.{IsNotStuck, RuleStep}
use Rattle.theory_semantics.proofs.Stepping.{exact}
use Rattle.theory_shapes.specs.ShapeSteps.{AreFired}
use Rattle.theory_shapes.proofs.Fired.{contains_step, step_contained}
use Rattle.csp_rows.specs.declared.composed.SideBits.{SideBits}
use Rattle.csp_rows.specs.declared.part.Part.{Part}
use Rattle.csp_rows.specs.declared.step.PartStep.{PartStep}
use Rattle.csp_rows.specs.Measures.{AreMeasured}
use Rattle.csp_rows.specs.Numbering.{Numbering}
use Rattle.csp_rows.specs.Places.{AreRunsOf, AreSpelled}
use Rattle.csp_rows.specs.Rows.{AreStepsNumbered, AreTargetsAmong, part_steps_of, row_steps}
use Rattle.csp_rows.specs.Row.{Row}
use Rattle.csp_rows.specs.ByParts.{AreKept, AreSpellable, IsRowByParts, parts_in}
use Rattle.csp_rows.specs.Example.{IsOneNode, ends, small_row}

abbrev script : Script
script = letters []

-- no event has a number, the parts are Omega, STOP, and SKIP from there on
abbrev pub part_of : ℕ → Process
part_of zero = Omega
part_of (suc zero) = Stop
part_of (suc (suc n)) = Skip

pub first_ends : (n : ℕ) → (part_of n ≡ Omega) ↔ (n ≡ 0)
first_ends zero = (λ e. refl, λ e. refl)
first_ends (suc zero) = (λ e. absurd (cc e), λ e. absurd (omega (arith, e)))
first_ends (suc (suc n)) = (λ e. absurd (cc e), λ e. absurd (omega (arith, e)))

abbrev pub z : Numbering
z = record {
  event = λ n. record { channel = 0; fields = [] };
  events = 0;
  part = part_of;
  apart = λ n m small other. absurd (omega (arith, small));
  first = first_ends;
}

no_kinds : Kinds
no_kinds = record { nametypes = []; constructors = []; channels = [] ∷ [] ∷ [] ∷ []; parameters = [] }

no_datatype : {X : Type 0} (d : ℕ) (x : X) → slice_get {X = X} [] d ≡ Some x → ⊥
no_datatype zero x e = cc e
no_datatype (suc d) x e = cc e

closed : IsTermOf script (Interleaving Stop Skip)
unfolding no_kinds
closed = (
  no_kinds,
  record {
    sets = record {
      types = record { nametypes = tt; constructors = tt; fields = λ d c is. absurd (no_datatype d is.0 is.1); datatypes = tt };
      channels = (tt, (tt, (tt, tt)));
    };
    equations = tt;
    assertions = tt;
  },
  (tt, tt),
)

IsFiredBy : Process → Steps → Type 0
IsFiredBy p steps = IsNotStuck script p × ((x : Action) (u : Process) → RuleStep script p x u ↔ Contains steps (x, u))

stop_fired : IsFiredBy Stop []
unfolding IsFiredBy
stop_fired = (
  record { within = refl; no_cause = refl; targets = λ x u step. absurd ((exact script Stop x u).0 step) },
  λ x u. (λ step. step_contained [] x u ((exact script Stop x u).0 step), λ has. (exact script Stop x u).1 (contains_step [] x u has)),
)

skip_fired : IsFiredBy Skip ((Tick, Omega) ∷ [])
unfolding IsFiredBy
skip_fired = (
  record { within = refl; no_cause = refl; targets = λ x u step. to_omega x u ((exact script Skip x u).0 step) },
  λ x u. (
    λ step. step_contained ((Tick, Omega) ∷ []) x u ((exact script Skip x u).0 step),
    λ has. (exact script Skip x u).1 (contains_step ((Tick, Omega) ∷ []) x u has),
  ),
)
  where
    to_omega : (x : Action) (u : Process) → IsOneOf ((Tick, Omega) ∷ []) x u → fits u ≡ true
    to_omega x u (inl e) = ap fits e.1
    to_omega x u (inr h) = absurd h

module _ {A : Type 0} (bits : SideBits A) (omega_part stop_part skip_part : Part A) (one : IsOneNode omega_part (0x03 ∷ []) []) (two : IsOneNode stop_part (0x01 ∷ []) []) (three : IsOneNode skip_part (0x02 ∷ []) (ends ∷ [])) where
  abbrev r : Row A
  r = small_row bits omega_part stop_part skip_part

  all_spellable : AreSpellable z 3
  all_spellable zero within = tt
  all_spellable (suc zero) within = tt
  all_spellable (suc (suc n)) within = tt

  all_spelled : AreSpelled z r.parts
  all_spelled zero within = one.spelled
  all_spelled (suc zero) within = two.spelled
  all_spelled (suc (suc zero)) within = three.spelled
  all_spelled (suc (suc (suc n))) within = absurd (omega (arith, within))

  all_measured : AreMeasured z r.parts
  all_measured zero within = record { size = one.nodes; depth = one.deep }
  all_measured (suc zero) within = record { size = two.nodes; depth = two.deep }
  all_measured (suc (suc zero)) within = record { size = three.nodes; depth = three.deep }
  all_measured (suc (suc (suc n))) within = absurd (omega (arith, within))

  are_kept : AreKept z r.parts
  are_kept = record {
    some = omega arith;
    spellable = all_spellable;
    spelled = all_spelled;
    measured = all_measured;
    numbered = (subst (AreStepsNumbered 0) (sym one.done) tt, (subst (AreStepsNumbered 0) (sym two.done) tt, (subst (AreStepsNumbered 0) (sym three.done) (tt, tt), tt)));
    among = (subst (AreTargetsAmong 3) (sym one.done) tt, (subst (AreTargetsAmong 3) (sym two.done) tt, (subst (AreTargetsAmong 3) (sym three.done) (omega arith, tt), tt)));
  }

  are_fired : AreFired script r.shape (parts_in z r) (row_steps z r.parts r.numbers)
  unfolding IsFiredBy
  are_fired zero within = subst (λ (ss : List PartStep). IsFiredBy Stop (part_steps_of z ss)) (sym two.done) stop_fired
  are_fired (suc zero) within = subst (λ (ss : List PartStep). IsFiredBy Skip (part_steps_of z ss)) (sym three.done) skip_fired
  are_fired (suc (suc n)) within = absurd (omega (arith, within))

  are_runs : AreRunsOf r.shape (parts_in z r) r.places
  are_runs zero within = record { start = refl; end = refl }
  are_runs (suc zero) within = record { start = refl; end = refl }
  are_runs (suc (suc n)) within = absurd (omega (arith, within))

  pub is_small_row : IsRowByParts z script r
  is_small_row = record {
    rising = λ n m small other. absurd (omega (arith, small));
    kept = are_kept;
    closed = closed;
    within = refl;
    filled = refl;
    same = refl;
    values = (tt, tt, tt);
    spellable = (tt, tt, tt);
    by_numbers = (
      record {
        left_free = λ n small. absurd (omega (arith, small));
        right_free = λ n small. absurd (omega (arith, small));
        shared = λ n small. absurd (omega (arith, small));
      },
      refl,
      refl,
    );
    among = (omega arith, (omega arith, tt));
    fired = are_fired;
    spelled = refl;
    runs = are_runs;
    measured = refl;
    leveled = refl;
  }
