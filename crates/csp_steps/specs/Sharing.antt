-- Which events the sides of a composition do alone, and which together, and what follows a side's tick.
use Rattle.std.specs.Prelude.{◌≡◌, ⊤, Bool, true, false, not, ◌&&◌, List, [], ◌∷◌, Option, Some, Result, Ok}
use Rattle.std.specs.Option.{option_or}
use Rattle.std.specs.Result.{result_err}
use Rattle.theory_syntax.specs.Value.{Action, Event, Tau, Tick}
use Rattle.theory_syntax.specs.Process.{Process, Omega}
use Rattle.theory_semantics.specs.Meaning.Evaluation.{Cause}
use Rattle.theory_semantics.specs.Meaning.Events.{event_test}
use Rattle.csp_events.specs.Events.{event_set_of}
use Rattle.csp_events.specs.declared.event_set.EventSet.{EventSet}
use Rattle.csp_term.specs.Script.{script_of_parts}
use Rattle.csp_term.specs.declared.script.ScriptParts.{ScriptParts}
use Rattle.csp_expression.specs.Agreement.{Agrees}
use Rattle.csp_events.specs.declared.event_test.EventTest.{EventTest}
use Rattle.csp_expression.specs.declared.no_value.NoValue.{NoValue}
use Rattle.csp_steps.specs.declared.composition.Composition.{Composition}
use Rattle.csp_steps.specs.declared.context.Context.{Context}
use Rattle.csp_steps.specs.declared.context.Hand.{Hand}
use Rattle.csp_steps.specs.declared.context.Hand.TheVariants as hand
use Rattle.csp_steps.specs.declared.stay.AfterTick.{AfterTick}
use Rattle.csp_steps.specs.declared.stay.AfterTick.TheVariants as after
use Rattle.csp_steps.specs.declared.side.Side.{Side}
use Rattle.csp_steps.specs.declared.sharing.Sharing.{Sharing}
use Rattle.csp_steps.specs.declared.sharing.Sharing.TheVariants as sharing
use Rattle.csp_steps.specs.Answering.{Answered, target_of}
use Rattle.csp_steps.specs.Composing.{answers_of_sides, around_of, composition_of, parallel_answers, stay_answer}
use Rattle.csp_events.specs.Testing.{AreSorted, IsTestOf, listed_in, test_of}

-- What the sets list rises, so that an event is found by halving.
abbrev pub IsSearchable : {A : Type 0} → Sharing A → Type 0
IsSearchable sharing.Nothing = ⊤
IsSearchable (sharing.Events t) = AreSorted (listed_in t)
IsSearchable (sharing.Alphabets t u) = AreSorted (listed_in t) × AreSorted (listed_in u)

-- whether a side does the event alone
abbrev pub is_free : {A : Type 0} → Sharing A → Hand → Event → Bool
is_free sharing.Nothing h e = true
is_free (sharing.Events t) h e = not (test_of t e)
is_free (sharing.Alphabets t u) hand.Left e = test_of t e && not (test_of u e)
is_free (sharing.Alphabets t u) hand.Right e = test_of u e && not (test_of t e)

-- whether the sides do the event together
abbrev pub is_shared : {A : Type 0} → Sharing A → Event → Bool
is_shared sharing.Nothing e = false
is_shared (sharing.Events t) e = test_of t e
is_shared (sharing.Alphabets t u) e = test_of t e && test_of u e

-- what is answered of two sides that share so, under an operator
abbrev pub composed_answers : {A : Type 0} → Sharing A → (Process → Process → Process) → Option Process → List Answered → Option Process → List Answered → List Answered
composed_answers s under o bs r cs = parallel_answers (is_free s hand.Left) (is_free s hand.Right) (is_shared s) under o bs r cs

-- what is answered of a side's tick
abbrev pub ended_by : {A : Type 0} → AfterTick → Context A → List Answered
ended_by after.Next c = (Tau, target_of c.next.now) ∷ []
ended_by after.All c = (Tick, Some Omega) ∷ []
ended_by after.Beside c = (Tau, around_of c (Some Omega)) ∷ []

-- what is made of a step of the side that moves, where sides share so
abbrev pub alone_answer : {A : Type 0} → Sharing A → AfterTick → Context A → Action → Option Process → List Answered
alone_answer s after c x t = stay_answer (is_free s c.hand) (around_of c) (ended_by after c) x t

-- what is answered of these sides under the composition, where they share so
abbrev pub composition_answers : {A : Type 0} → Sharing A → Composition A → Side A → Side A → List Answered
composition_answers s c left right = answers_of_sides (composed_answers s (composition_of c)) left right

-- the test that the set is in the script
abbrev pub set_test : {A : Type 0} → ScriptParts A → EventSet A → Result (Event → Bool) Cause
set_test script set = event_test (script_of_parts script) (event_set_of set)

-- the tests of two sets, or the first cause of both, the first one's before the second's
abbrev pub AreTestsOf : {A : Type 0} → Result (EventTest A × EventTest A) NoValue → Result (Event → Bool) Cause → Result (Event → Bool) Cause → Type 0
AreTestsOf x r q = Agrees {M = Result (Event → Bool) Cause × Result (Event → Bool) Cause} (λ tests m. IsTestOf (Ok tests.0) m.0 × IsTestOf (Ok tests.1) m.1) (λ c m. option_or (result_err m.0) (result_err m.1) ≡ Some c) x (r, q)
