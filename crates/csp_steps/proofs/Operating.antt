-- A term of two processes is answered by what is answered of them.
use Rattle.std.proofs.Common.{◌≡◌, max, List, [], ◌∷◌, ◌++◌, Option, Some, None, Err, refl, sym, ◌∙◌, ap, ap₂, subst, arith}
use Rattle.std.specs.Option.{option_or}
use Rattle.theory_syntax.specs.Value.{Tau, Tick}
use Rattle.theory_syntax.specs.Process.{Process, Script, Omega, ExternalChoice, InternalChoice, Sequential, Interrupt, SlidingChoice}
use Rattle.theory_semantics.specs.Meaning.Faults.{cause_in, height}
use Rattle.theory_semantics.specs.Meaning.Stepping.{Steps, always, each_step, external_steps, leave, rule_steps, stay, steps_within}
use Rattle.theory_semantics.specs.Meaning.Unfolding.{settled}
use Rattle.theory_semantics.proofs.Causes.{external_cause, interrupt_cause, sequential_cause, sliding_cause}
use Rattle.theory_semantics.proofs.Stepping.{exact, exact_within, external_exact}
use Rattle.csp_expression.specs.declared.no_value.NoValue.{NoValue}
use Rattle.csp_expression.specs.declared.no_value.NoValue.TheVariants as eval
use Rattle.csp_steps.specs.Answering.{Answered, Answers, IsAnswered, within_limits}
use Rattle.csp_steps.proofs.Answered.{answered_by, by_its_steps, its_steps, kept_answers}
use Rattle.csp_steps.specs.Composing.{each_answer, external_answers, interrupt_answers, leave_answer, sequential_answers, sliding_answers, stay_answer, under_both}
use Rattle.csp_steps.proofs.Composing.{both_answered, each_answered, leave_answered, limits_under_both, stay_answered}
use Rattle.csp_steps.proofs.Past.{external_first, external_second, interrupt_first, interrupt_second, sequential_first, sequential_second, sliding_first, sliding_second}

-- ---- causes

-- the causes of a term are those of two processes, the first one's before the second's
module _ (s : Script) (p q whole : Process) (is : cause_in s whole ≡ option_or (cause_in s p) (cause_in s q)) where
  pub clear_of_both : cause_in s p ≡ None → cause_in s q ≡ None → cause_in s whole ≡ None
  clear_of_both first second = is ∙ ap₂ option_or first second

  pub stuck_by_first : (A : Type 0) (why : NoValue) → Answers {A = A} s p (Err why) → Answers {A = A} s whole (Err why)
  stuck_by_first A (eval.Cause c) first = is ∙ ap (λ o. option_or o (cause_in s q)) first
  stuck_by_first A eval.Memory first = tt

  pub stuck_by_second : cause_in s p ≡ None → (A : Type 0) (why : NoValue) → Answers {A = A} s q (Err why) → Answers {A = A} s whole (Err why)
  stuck_by_second first A (eval.Cause c) second = is ∙ ap₂ option_or first second
  stuck_by_second first A eval.Memory second = tt

-- or those of one
module _ (s : Script) (p whole : Process) (is : cause_in s whole ≡ cause_in s p) where
  pub stuck_by_only : (A : Type 0) (why : NoValue) → Answers {A = A} s p (Err why) → Answers {A = A} s whole (Err why)
  stuck_by_only A (eval.Cause c) only = is ∙ only
  stuck_by_only A eval.Memory only = tt

-- ---- choices

pub external_answered : (s : Script) (p : Process) (bs : List Answered) (q : Process) (cs : List Answered) (o r : Option Process) → o ≡ within_limits p → r ≡ within_limits q → IsAnswered s p bs → IsAnswered s q cs →
    IsAnswered s (ExternalChoice p q) (external_answers o bs r cs)
external_answered s p bs q cs o r first_is second_is first second =
    let ps = rule_steps s p in
    let qs = rule_steps s q in
    let from_left : Option Process → Option Process = λ t. under_both ExternalChoice t (within_limits q) in
    let from_right : Option Process → Option Process = λ u. under_both ExternalChoice (within_limits p) u in
    let firsts = each_answered (leave (λ t. ExternalChoice t q)) (leave_answer from_left) (leave_answered from_left (λ t. ExternalChoice t q) (λ t. limits_under_both ExternalChoice external_first external_second t q)) ps bs (its_steps s p ps (exact s p) bs first) in
    let seconds = each_answered (leave (λ u. ExternalChoice p u)) (leave_answer from_right) (leave_answered from_right (λ u. ExternalChoice p u) (limits_under_both ExternalChoice external_first external_second p)) qs cs (its_steps s q qs (exact s q) cs second) in
    let all = by_its_steps s (ExternalChoice p q) (external_steps p ps q qs) (external_exact s p ps q qs (exact s p) (exact s q)) (external_answers (within_limits p) bs (within_limits q) cs)
    (clear_of_both s p q (ExternalChoice p q) (external_cause s p q) first.no_cause second.no_cause)
    (both_answered (each_step (leave (λ t. ExternalChoice t q)) ps) (each_step (leave (λ u. ExternalChoice p u)) qs) (each_answer (leave_answer from_left) bs) (each_answer (leave_answer from_right) cs) firsts seconds)
    in
    let P : List Answered → Type 0 = λ xs. IsAnswered s (ExternalChoice p q) xs in
    subst P (ap₂ (λ o r. external_answers o bs r cs) (sym first_is) (sym second_is)) all

pub internal_answered : (s : Script) (p q : Process) → IsAnswered s (InternalChoice p q) ((Tau, within_limits (settled s p)) ∷ (Tau, within_limits (settled s q)) ∷ [])
internal_answered s p q = answered_by s (InternalChoice p q) ((Tau, settled s p) ∷ (Tau, settled s q) ∷ []) refl (exact s (InternalChoice p q))

-- ---- one process and then another

pub sequential_answered : (s : Script) (p : Process) (bs : List Answered) (q : Process) (r next : Option Process) → r ≡ within_limits q → next ≡ within_limits (settled s q) → IsAnswered s p bs →
    IsAnswered s (Sequential p q) (sequential_answers bs r next)
sequential_answered s p bs q r next second_is next_is first =
    let n = max (height p) (height q) in
    let ps = steps_within n s p in
    let end : Steps = (Tau, settled s q) ∷ [] in
    let under : Process → Process = λ t. Sequential t q in
    let answer : Option Process → Option Process = λ t. under_both Sequential t (within_limits q) in
    let ended : List Answered = (Tau, within_limits (settled s q)) ∷ [] in
    let all = by_its_steps s (Sequential p q) (each_step (stay always under end) ps) (exact s (Sequential p q)) (sequential_answers bs (within_limits q) (within_limits (settled s q))) (sequential_cause s p q ∙ first.no_cause)
    (each_answered (stay always under end) (stay_answer always answer ended) (stay_answered answer under (λ t. limits_under_both Sequential sequential_first sequential_second t q) always end ended (kept_answers end)) ps bs
    (its_steps s p ps (exact_within n s p (omega arith)) bs first))
    in
    let P : List Answered → Type 0 = λ xs. IsAnswered s (Sequential p q) xs in
    subst P (ap₂ (λ o x. sequential_answers bs o x) (sym second_is) (sym next_is)) all

-- ---- one process until another one acts

pub interrupt_answered : (s : Script) (p : Process) (bs : List Answered) (q : Process) (cs : List Answered) (o r : Option Process) → o ≡ within_limits p → r ≡ within_limits q → IsAnswered s p bs → IsAnswered s q cs →
    IsAnswered s (Interrupt p q) (interrupt_answers o bs r cs)
interrupt_answered s p bs q cs o r first_is second_is first second =
    let n = max (height p) (height q) in
    let ps = steps_within n s p in
    let qs = steps_within n s q in
    let left : Process → Process = λ t. Interrupt t q in
    let right : Process → Process = λ u. Interrupt p u in
    let from_left : Option Process → Option Process = λ t. under_both Interrupt t (within_limits q) in
    let from_right : Option Process → Option Process = λ u. under_both Interrupt (within_limits p) u in
    let end : Steps = (Tick, Omega) ∷ [] in
    let ended : List Answered = (Tick, Some Omega) ∷ [] in
    let firsts = each_answered (stay always left end) (stay_answer always from_left ended) (stay_answered from_left left (λ t. limits_under_both Interrupt interrupt_first interrupt_second t q) always end ended (kept_answers end)) ps bs
    (its_steps s p ps (exact_within n s p (omega arith)) bs first)
    in
    let seconds = each_answered (leave right) (leave_answer from_right) (leave_answered from_right right (limits_under_both Interrupt interrupt_first interrupt_second p)) qs cs (its_steps s q qs (exact_within n s q (omega arith)) cs second) in
    let all = by_its_steps s (Interrupt p q) (each_step (stay always left end) ps ++ each_step (leave right) qs) (exact s (Interrupt p q)) (interrupt_answers (within_limits p) bs (within_limits q) cs)
    (clear_of_both s p q (Interrupt p q) (interrupt_cause s p q) first.no_cause second.no_cause)
    (both_answered (each_step (stay always left end) ps) (each_step (leave right) qs) (each_answer (stay_answer always from_left ended) bs) (each_answer (leave_answer from_right) cs) firsts seconds)
    in
    let P : List Answered → Type 0 = λ xs. IsAnswered s (Interrupt p q) xs in
    subst P (ap₂ (λ o r. interrupt_answers o bs r cs) (sym first_is) (sym second_is)) all

-- ---- one process, or by tau another one

pub sliding_answered : (s : Script) (p : Process) (bs : List Answered) (q : Process) (cs : List Answered) (r away : Option Process) → r ≡ within_limits q → away ≡ within_limits (settled s q) →
    IsAnswered s p bs → IsAnswered s q cs → IsAnswered s (SlidingChoice p q) (sliding_answers bs r away)
sliding_answered s p bs q cs r away second_is away_is first second =
    let n = max (height p) (height q) in
    let ps = steps_within n s p in
    let under : Process → Process = λ t. SlidingChoice t q in
    let answer : Option Process → Option Process = λ t. under_both SlidingChoice t (within_limits q) in
    let last : Steps = (Tau, settled s q) ∷ [] in
    let firsts = each_answered (leave under) (leave_answer answer) (leave_answered answer under (λ t. limits_under_both SlidingChoice sliding_first sliding_second t q)) ps bs (its_steps s p ps (exact_within n s p (omega arith)) bs first) in
    let all = by_its_steps s (SlidingChoice p q) (each_step (leave under) ps ++ last) (exact s (SlidingChoice p q)) (sliding_answers bs (within_limits q) (within_limits (settled s q)))
    (clear_of_both s p q (SlidingChoice p q) (sliding_cause s p q) first.no_cause second.no_cause)
    (both_answered (each_step (leave under) ps) last (each_answer (leave_answer answer) bs) ((Tau, within_limits (settled s q)) ∷ []) firsts (kept_answers last))
    in
    let P : List Answered → Type 0 = λ xs. IsAnswered s (SlidingChoice p q) xs in
    subst P (ap₂ (λ t x. sliding_answers bs t x) (sym second_is) (sym away_is)) all
