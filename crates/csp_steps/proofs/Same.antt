-- What has the same steps, in whatever order and however often, is answered of the same term.
use Rattle.std.proofs.Common.{◌≡◌, List, ◌++◌, map, Option, Contains, sym, subst, ⊎_elim}
use Rattle.std.proofs.lemmas.List.{append_assoc}
use Rattle.std.proofs.lemmas.List.Elements.{Contains-append_cases, Contains-append_left, Contains-append_right}
use Rattle.std.proofs.lemmas.List.Sorted.{IsPermutation-map, IsPermutation-sym, Contains-permutation}
use Rattle.std.specs.List.Sorted.{IsPermutation}
use Rattle.theory_syntax.specs.Value.{Action}
use Rattle.theory_syntax.specs.Process.{Process, Script}
use Rattle.csp_steps.specs.declared.rule_step.RuleStep.{RuleStep}
use Rattle.csp_steps.specs.Answering.{Answered, IsAnswered, answered_of, within_limits}
use Rattle.csp_steps.specs.Composing.{HaveSameSteps, each_answer}
use Rattle.csp_steps.proofs.Composing.{answers_from, answers_to}

pub answered_by_same : (s : Script) (p : Process) (bs cs : List Answered) → HaveSameSteps bs cs → IsAnswered s p cs → IsAnswered s p bs
answered_by_same s p bs cs same is =
    record { no_cause = is.no_cause; sound = λ x t has. is.sound x t ((same (x, t)).0 has); complete = λ x u step. (same (x, within_limits u)).1 (is.complete x u step) }

-- ---- steps that are the same

pub same_if : (bs cs : List Answered) → bs ≡ cs → HaveSameSteps bs cs
same_if bs cs is b =
    let P : List Answered → Type 0 = λ ds. Contains ds b in
    (λ h. subst P is h, λ h. subst P (sym is) h)

pub same_then : (bs cs ds : List Answered) → HaveSameSteps bs cs → HaveSameSteps cs ds → HaveSameSteps bs ds
same_then bs cs ds first second b = (λ h. (second b).0 ((first b).0 h), λ h. (first b).1 ((second b).1 h))

-- steps that are the same beside others that are
pub same_beside : (bs bs' cs cs' : List Answered) → HaveSameSteps bs bs' → HaveSameSteps cs cs' → HaveSameSteps (bs ++ cs) (bs' ++ cs')
same_beside bs bs' cs cs' first second b = (
  λ h. ⊎_elim (λ k. Contains-append_left bs' cs' b ((first b).0 k)) (λ k. Contains-append_right bs' cs' b ((second b).0 k)) (Contains-append_cases bs cs b h),
  λ h. ⊎_elim (λ k. Contains-append_left bs cs b ((first b).1 k)) (λ k. Contains-append_right bs cs b ((second b).1 k)) (Contains-append_cases bs' cs' b h),
)

swapped : (bs cs : List Answered) (b : Answered) → Contains (bs ++ cs) b → Contains (cs ++ bs) b
swapped bs cs b h = ⊎_elim (λ k. Contains-append_right cs bs b k) (λ k. Contains-append_left cs bs b k) (Contains-append_cases bs cs b h)

-- what was added first comes last
pub same_turned : (ms ls rs : List Answered) → HaveSameSteps ((ms ++ ls) ++ rs) (ls ++ (rs ++ ms))
same_turned ms ls rs =
    same_then ((ms ++ ls) ++ rs) (ms ++ (ls ++ rs)) (ls ++ (rs ++ ms)) (same_if ((ms ++ ls) ++ rs) (ms ++ (ls ++ rs)) (append_assoc ms ls rs))
    (same_then (ms ++ (ls ++ rs)) ((ls ++ rs) ++ ms) (ls ++ (rs ++ ms)) (λ b. (swapped ms (ls ++ rs) b, swapped (ls ++ rs) ms b)) (same_if ((ls ++ rs) ++ ms) (ls ++ (rs ++ ms)) (append_assoc ls rs ms)))

-- what is made of each of the same steps
pub same_each : (f : Action → Option Process → List Answered) (bs cs : List Answered) → HaveSameSteps bs cs → HaveSameSteps (each_answer f bs) (each_answer f cs)
same_each f bs cs same a = (
  λ h. let r = answers_from f bs a h in answers_to f cs r.0 a ((same r.0).0 r.1) r.2,
  λ h. let r = answers_from f cs a h in answers_to f bs r.0 a ((same r.0).1 r.1) r.2,
)

-- what is made alike of each step
pub same_made : (f g : Action → Option Process → List Answered) → ((x : Action) (t : Option Process) → HaveSameSteps (f x t) (g x t)) → (bs : List Answered) → HaveSameSteps (each_answer f bs) (each_answer g bs)
same_made f g same bs a = (
  λ h. let r = answers_from f bs a h in let b = r.0 in answers_to g bs b a r.1 ((same b.0 b.1 a).0 r.2),
  λ h. let r = answers_from g bs a h in let b = r.0 in answers_to f bs b a r.1 ((same b.0 b.1 a).1 r.2),
)

-- the steps of a list that was put in another order
pub same_moved : {A : Type 0} (given moved : List (RuleStep A)) → IsPermutation given moved → HaveSameSteps (map answered_of moved) (map answered_of given)
same_moved given moved is b =
    let there = IsPermutation-map answered_of given moved is in
    let back = IsPermutation-sym (map answered_of given) (map answered_of moved) there in
    (Contains-permutation (map answered_of moved) (map answered_of given) b back, Contains-permutation (map answered_of given) (map answered_of moved) b there)
