-- Where lines lead.
use Rattle.std.proofs.Common.{◌≡◌, ℕ, zero, suc, Bool, true, false, List, [], ◌∷◌, ◌++◌, length, map, slice_get, Option, Some, None, refl, sym, ◌∙◌, ap, subst, decimal, if◌then◌else◌, append-nil}
use Rattle.std.proofs.lemmas.List.{append_assoc}
use Rattle.std.specs.List.{filter}
use Rattle.std.specs.Bool.{⊤}
use Rattle.theory_syntax.specs.Process.{Process, Script}
use Rattle.theory_semantics.specs.Meaning.Transitions.{RuleStep}
use Rattle.theory_notation.specs.Names.{Names}
use Rattle.theory_explanation.specs.Cutting.{Width}
use Rattle.theory_runs.specs.Runs.{IsReached}
use Rattle.theory_walk.specs.Answers.{Answer, Shows, Says, Ends, answer, answer_by, doing, first_of, going_back, named, numbered}
use Rattle.theory_walk.specs.Commands.{Command, Back, End, Again, Take, command_of, same}
use Rattle.theory_walk.specs.Laws.{IsOnRun}
use Rattle.theory_walk.specs.Moves.{Move, Menu, Offers, Stuck, AreMoves, AreTold, IsMenu, moves_in}
use Rattle.theory_walk.specs.Trails.{AreTaken, Trail, back, behind, begun, further, here}
use Rattle.theory_walk.specs.Walks.{IsGiven, IsPlace, IsWalk, LeadTo, Place, answer_to, shown}
use Rattle.theory_walk.proofs.Along.{IsTaken, taken_few, taken_more, taken_reach}
use Rattle.theory_walk.proofs.Offered.{step_of_move}

-- ---- one line more

pub lead_more : (script : Script) (names : Names) (width : Width) (from : Option Place) (lines : List (List ℕ)) (text : List ℕ) (q : Place) (line more : List ℕ) (next : Option Place) →
    LeadTo script names width from lines text (Some q) → IsGiven script names width q (answer_to names q line) more next → LeadTo script names width from (lines ++ line ∷ []) (text ++ more) next
lead_more script names width from [] text q line more next lead given =
    subst (λ f. LeadTo script names width f (line ∷ []) (text ++ more) next) lead.1
    (next, more, [], ap (λ t. t ++ more) lead.0 ∙ sym (append_nothing more), given, (refl, refl))
  where
    append_nothing : (t : List ℕ) → t ++ [] ≡ t
    append_nothing t = append-nil t
lead_more script names width None (l ∷ lines) text q line more next lead given = absurd lead
lead_more script names width (Some p) (l ∷ lines) text q line more next (mid, first, rest, is, gives, lead) given =
    (mid, first, rest ++ more, ap (λ t. t ++ more) is ∙ append_assoc first rest more, gives, lead_more script names width mid lines rest q line more next lead given)

pub walk_more : (script : Script) (names : Names) (width : Width) (start : Process) (lines : List (List ℕ)) (text : List ℕ) (q : Place) (line more : List ℕ) (next : Option Place) →
    IsWalk script names width start lines text (Some q) → IsGiven script names width q (answer_to names q line) more next → IsWalk script names width start (lines ++ line ∷ []) (text ++ more) next
walk_more script names width start lines text q line more next walk given = record {
  first = walk.first;
  begins = walk.begins;
  rest = walk.rest ++ more;
  goes = lead_more script names width (Some walk.first) lines walk.rest q line more next walk.goes given;
  told = ap (λ t. t ++ more) walk.told ∙ append_assoc (shown names width walk.first) walk.rest more;
}

-- ---- moves that are steps

-- each of the moves is one
abbrev pub AreSteps : Script → Process → List Move → Type 0
AreSteps script t [] = ⊤
AreSteps script t (m ∷ moves) = IsTaken script t m × AreSteps script t moves

pub steps_of_menu : (script : Script) (t : Process) (menu : Menu) → IsMenu script t menu → AreSteps script t (moves_in menu)
steps_of_menu script t (Stuck by) is = tt
steps_of_menu script t (Offers moves) is = each moves (λ i m at. step_of_move script t moves is i m at) is.told
  where
    each : (ms : List Move) → ((i : ℕ) (m : Move) → slice_get ms i ≡ Some m → RuleStep script t m.action m.target) → AreTold script t ms → AreSteps script t ms
    each [] step told = tt
    each (m ∷ ms) step told = (((is.steps.not_stuck, step 0 m refl), told.0), each ms (λ i k at. step (suc i) k at) told.1)

-- so are those that a text names
module _ (script : Script) (t : Process) where
  abbrev IsStepIf : Option Move → Type 0
  IsStepIf (Some m) = IsTaken script t m
  IsStepIf None = ⊤

  step_if : (b : Bool) (m : Move) (other : Option Move) → IsTaken script t m → IsStepIf other → IsStepIf (if b then Some m else other)
  step_if true m other is others = is
  step_if false m other is others = others

  numbered_step : (n : ℕ) (moves : List Move) (text : List ℕ) → AreSteps script t moves → IsStepIf (numbered n moves text)
  numbered_step n [] text are = tt
  numbered_step n (m ∷ moves) text are = step_if (same text (decimal n)) m (numbered (suc n) moves text) are.0 (numbered_step (suc n) moves text are.1)

  steps_if : (b : Bool) (m : Move) (others : List Move) → IsTaken script t m → AreSteps script t others → AreSteps script t (if b then m ∷ others else others)
  steps_if true m others is are = (is, are)
  steps_if false m others is are = are

  filtered_steps : (test : Move → Bool) (moves : List Move) → AreSteps script t moves → AreSteps script t (filter test moves)
  filtered_steps test [] are = tt
  filtered_steps test (m ∷ moves) are = steps_if (test m) m (filter test moves) are.0 (filtered_steps test moves are.1)

  first_steps : (found : Option Move) (others : List Move) → IsStepIf found → AreSteps script t others → AreSteps script t (first_of found others)
  first_steps (Some m) others is are = (is, tt)
  first_steps None others is are = are

  pub named_steps : (names : Names) (moves : List Move) (text : List ℕ) → AreSteps script t moves → AreSteps script t (named names moves text)
  named_steps names moves text are = first_steps (numbered 1 moves text) (doing names moves text) (numbered_step 1 moves text are) (filtered_steps _ moves are)

-- ---- trails that are runs

-- a trail that answers lead to is one from the start
pub record IsTrail (script : Script) (start : Process) (trail : Trail) : Type 0 where
  pub from : trail.start ≡ start
  pub taken : AreTaken script start trail.taken

module _ (script : Script) (start : Process) where
  -- a trail that is shown is one from the start
  abbrev pub IsTrailOf : Answer → Type 0
  IsTrailOf (Shows trail) = IsTrail script start trail
  IsTrailOf (Says text) = ⊤
  IsTrailOf Ends = ⊤

  further_trail : (trail : Trail) (m : Move) → IsTrail script start trail → IsTaken script (here trail) m → IsTrail script start (further trail m)
  further_trail trail m is step = record {
    from = is.from;
    taken = taken_more script start trail.taken m is.taken (subst (λ t. IsTaken script (behind t trail.taken) m) is.from step);
  }

  by_named : (trail : Trail) (moves : List Move) → IsTrail script start trail → AreSteps script (here trail) moves → IsTrailOf (answer_by trail moves)
  by_named trail [] is are = tt
  by_named trail (m ∷ []) is are = further_trail trail m is are.0
  by_named trail (m ∷ other ∷ moves) is are = tt

  by_back : (trail : Trail) (moves : List Move) → IsTrail script start trail → IsTrailOf (going_back trail moves)
  by_back trail [] is = tt
  by_back trail (m ∷ moves) is = record { from = is.from; taken = taken_few script start trail.taken _ is.taken }

  pub answer_trail : (names : Names) (trail : Trail) (moves : List Move) (command : Command) → IsTrail script start trail → AreSteps script (here trail) moves →
      IsTrailOf (answer names trail moves command)
  answer_trail names trail moves Back is are = by_back trail trail.taken is
  answer_trail names trail moves End is are = tt
  answer_trail names trail moves Again is are = is
  answer_trail names trail moves (Take text) is are = by_named trail (named names moves text) is (named_steps script (here trail) names moves text are)

  -- ---- walks

  pub on_run : (trail : Trail) (q : Place) → IsTrail script start trail → IsPlace script trail q → IsOnRun script start q
  on_run trail q is there = record {
    from = ap (λ (t : Trail). t.start) there.there ∙ is.from;
    taken = subst (AreTaken script start) (sym (ap (λ (t : Trail). t.taken) there.there)) is.taken;
    reached = subst (IsReached script start) (sym (ap here there.there)) (subst (λ t. IsReached script start (behind t trail.taken)) (sym is.from) (taken_reach script start trail.taken is.taken));
    menu = subst (λ t. IsMenu script t q.menu) (sym (ap here there.there)) there.menu;
  }

  given_on_run : (names : Names) (width : Width) (p q : Place) (a : Answer) (text : List ℕ) → IsOnRun script start p → IsTrailOf a → IsGiven script names width p a text (Some q) → IsOnRun script start q
  given_on_run names width p q (Shows trail) text on is given = let e : Some q ≡ Some given.0 = given.3 in subst (IsOnRun script start) (cc e) (on_run trail given.0 is given.1)
  given_on_run names width p q (Says words) text on is given = let e : Some q ≡ Some p = given.1 in subst (IsOnRun script start) (cc e) on
  given_on_run names width p q Ends text on is given = absurd (cc given.1)

  trail_of : (p : Place) → IsOnRun script start p → IsTrail script start p.trail
  trail_of p on = record { from = on.from; taken = on.taken }

  abbrev OnRunIf : Option Place → Type 0
  OnRunIf (Some p) = IsOnRun script start p
  OnRunIf None = ⊤

  step_on_run : (names : Names) (width : Width) (p : Place) (line text : List ℕ) (next : Option Place) → IsOnRun script start p → IsGiven script names width p (answer_to names p line) text next → OnRunIf next
  step_on_run names width p line text None on given = tt
  step_on_run names width p line text (Some q) on given =
      given_on_run names width p q (answer_to names p line) text on
      (answer_trail names p.trail (moves_in p.menu) (command_of line) (trail_of p on) (steps_of_menu script (here p.trail) p.menu on.menu)) given

  lead_on_run : (names : Names) (width : Width) (from : Option Place) (lines : List (List ℕ)) (text : List ℕ) (next : Option Place) → OnRunIf from → LeadTo script names width from lines text next → OnRunIf next
  lead_on_run names width from [] text next on lead = subst OnRunIf (sym lead.1) on
  lead_on_run names width None (line ∷ lines) text next on lead = absurd lead
  lead_on_run names width (Some p) (line ∷ lines) text next on (mid, first, rest, is, given, lead) =
      lead_on_run names width mid lines rest next (step_on_run names width p line first mid on given) lead

  pub walk_on_run : (names : Names) (width : Width) (lines : List (List ℕ)) (text : List ℕ) (q : Place) → IsWalk script names width start lines text (Some q) → IsOnRun script start q
  walk_on_run names width lines text q walk =
      lead_on_run names width (Some walk.first) lines walk.rest (Some q) (on_run (begun start) walk.first (record { from = refl; taken = tt }) walk.begins) walk.goes
