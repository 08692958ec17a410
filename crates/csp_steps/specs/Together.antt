-- Which actions two sides do together, and in which order one looks for them.
use Rattle.std.specs.Prelude.{Bool, false, List, Option, map}
use Rattle.std.specs.List.Sorted.{IsSortedByKey}
use Rattle.std.specs.Ordering.{is_lt}
use Rattle.theory_syntax.specs.Value as pure
use Rattle.theory_syntax.specs.Process.{Process}
use Rattle.csp_value.specs.Action.{action_of}
use Rattle.csp_steps.specs.declared.meeting.Meeting.{Meeting}
use Rattle.csp_steps.specs.declared.rule_step.RuleStep.{RuleStep}
use Rattle.csp_steps.specs.Answering.{Answered, answered_of, target_of}
use Rattle.csp_steps.specs.Composing.{composition_of, each_answer, meet_answer, under_both}
use Rattle.csp_steps.specs.Sharing.{is_shared}

-- the steps rise by their actions
abbrev pub AreRising : {A : Type 0} → List (RuleStep A) → Type 0
AreRising = IsSortedByKey (λ s. action_of s.action) pure.action_cmp

-- whether the step's action stands before another one
abbrev pub is_before : {A : Type 0} → pure.Action → RuleStep A → Bool
is_before x s = is_lt (pure.action_cmp (action_of s.action) x)

-- whether sides that share these events do the action together
abbrev pub is_done_together : (pure.Event → Bool) → pure.Action → Bool
is_done_together shared (pure.Ev e) = shared e
is_done_together shared _ = false

-- what is answered of the step by which both do the left one's action
abbrev pub met_answer : {A : Type 0} → Meeting A → RuleStep A → RuleStep A → Answered
met_answer m left right = (action_of left.action, under_both (composition_of m.composition.now) (target_of left.target) (target_of right.target))

-- what the right side does together with a step of the left one
abbrev pub meeting_answers : {A : Type 0} → Meeting A → pure.Action → Option Process → List Answered
meeting_answers m x t = each_answer (meet_answer (is_shared m.sharing.now) (composition_of m.composition.now) x t) (map answered_of m.right.now)
