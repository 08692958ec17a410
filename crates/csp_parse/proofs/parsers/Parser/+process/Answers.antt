use Rattle.std.proofs.Common.{◌∙◌, true, false, refl, sym, ap, arith, Some, None, Ok}
use Rattle.std.proofs.lemmas.Result.{IfOk-weaker}
use Rattle.std.proofs.lemmas.Simd.{map-map}
use Rattle.theory_text.specs.Raw.{RawCall, RawGiven}
use Rattle.theory_text.specs.Token.{GuardSign}
use Rattle.theory_reader.specs.Forms.{raw_list, FromBase, NameBehind, FieldsBehind, InnerExpression}
use Rattle.theory_reader.specs.Programs.{and_then}
use Rattle.theory_reader.specs.Reader.{body, reads, is_operator, is_sign}
use Rattle.theory_reader.proofs.Laws.{reads_is}
use Rattle.csp_parse.specs.Expressions.{expression_of, expressions_in}
use Rattle.csp_parse.specs.Names.{name_of}
use Rattle.csp_parse.specs.Processes.{process_in, infix_of, replicator_of}
use Rattle.csp_parse.specs.Reading.{standing_of, next_of}
use Rattle.csp_parse.specs.Starts.{start_of, inner_of}
use Rattle.csp_parse.proofs.Loops.{first_holds, second_holds, neither_holds}
use Rattle.csp_parse.proofs.Steps.{hands, goes_on, made, refused}
use Rattle.csp_parse.proofs.Trees.{tree_of_constructor}
use Rattle.csp_parse.proofs.Turns.{from_start, inner_start, process_reads, base_reads, operand_reads, chain_reads, start_reads, behind_name_reads, from_name_reads, guard_reads, inner_reads, inner_name_reads, inner_of_name_reads, inner_of_dotted_reads, operand_so, next_so, chain_begins, chain_more}
use Rattle.csp_parse.proofs.parsers.Parser.+process.Goals as goal
use Rattle.csp_parse.proofs.parsers.Parser.+process.Goals.{start_from_name-else-not-is_at_operator-via-then-not-is_at_operator+else-not-is_at, start_from_name-else-not-is_at_operator-via-else-not-is_at_operator}

pub process-returns-then-is_at_word-clause-reads : goal.process-returns-then-is_at_word-clause-reads
unfolding body
process-returns-then-is_at_word-clause-reads g t c =
    goes_on _ _ _ _ _ c.conditional.ensures.reads (process_reads (standing_of c.args.self.now) true _ (sym c.is_at_word.ensures ∙ c.if-is_at_word.true) refl)

pub process-returns-in-Some-clause-reads : goal.process-returns-in-Some-clause-reads
unfolding body
process-returns-in-Some-clause-reads g t c =
    goes_on _ _ _ _ _ c.replicated.ensures.reads (process_reads (standing_of c.args.self.now) false (Some (replicator_of c.in-Some.replicator)) (sym c.is_at_word.ensures ∙ c.if-is_at_word.false) (sym c.in-Some.ensures))

pub process-returns-in_err-start-clause-reads : goal.process-returns-in_err-start-clause-reads
unfolding body
process-returns-in_err-start-clause-reads g t c =
    hands _ _ _ _ _ _ c.from_residual.ensures c.in_err-start.ensures.reads (λ h e. process_reads (standing_of c.args.self.now) false None (sym c.is_at_word.ensures ∙ c.if-is_at_word.false) (sym c.in_default.ensures) ∙ rw e refl)

pub process-returns-clause-reads : goal.process-returns-clause-reads
unfolding body
process-returns-clause-reads g t c =
    goes_on _ _ _ _ _ c.process_from.ensures.reads (process_reads (standing_of c.args.self.now) false None (sym c.is_at_word.ensures ∙ c.if-is_at_word.false) (sym c.in_default.ensures) ∙ rw c.in_ok-start.ensures.reads refl)

pub conditional-returns-in_err-condition-clause-reads : goal.conditional-returns-in_err-condition-clause-reads
unfolding body
conditional-returns-in_err-condition-clause-reads g t c = hands _ _ _ _ _ _ c.from_residual.ensures c.in_err-condition.ensures.reads (λ h e. rw (reads_is, e) refl)

pub conditional-returns-in_err-first-clause-reads : goal.conditional-returns-in_err-first-clause-reads
unfolding body
conditional-returns-in_err-first-clause-reads g t c =
    hands _ _ _ _ _ _ c.from_residual-in_err-first.ensures c.in_err-first.ensures.reads (λ h e. rw (reads_is, c.in_ok-condition.ensures.reads, e) refl)

pub conditional-returns-in_err-second-clause-reads : goal.conditional-returns-in_err-second-clause-reads
unfolding body
conditional-returns-in_err-second-clause-reads g t c =
    hands _ _ _ _ _ _ c.from_residual-in_err-second.ensures c.in_err-second.ensures.reads (λ h e. rw (reads_is, c.in_ok-condition.ensures.reads, c.in_ok-first.ensures.reads, e) refl)

pub conditional-returns-clause-reads : goal.conditional-returns-clause-reads
unfolding body
conditional-returns-clause-reads g t c =
    made _ _ _ _ _ c.conditional.ensures.makes c.conditional.ensures.stops (rw (reads_is, c.in_ok-condition.ensures.reads, c.in_ok-first.ensures.reads, c.in_ok-second.ensures.reads) refl)

pub process_behind_word-returns-in_err-word-clause-reads : goal.process_behind_word-returns-in_err-word-clause-reads
unfolding body
process_behind_word-returns-in_err-word-clause-reads g t c = hands _ _ _ _ _ _ c.from_residual.ensures c.in_err-word.ensures.reads (λ h e. rw (reads_is, e) refl)

pub process_behind_word-returns-clause-reads : goal.process_behind_word-returns-clause-reads
unfolding body
process_behind_word-returns-clause-reads g t c = goes_on _ _ _ _ _ c.process.ensures.reads (rw (reads_is, c.in_ok-word.ensures.reads) refl)

pub process_behind-returns-in_err-sign-clause-reads : goal.process_behind-returns-in_err-sign-clause-reads
unfolding body
process_behind-returns-in_err-sign-clause-reads g t c = hands _ _ _ _ _ _ c.from_residual.ensures c.in_err-sign.ensures.reads (λ h e. rw (reads_is, e) refl)

pub process_behind-returns-clause-reads : goal.process_behind-returns-clause-reads
unfolding body
process_behind-returns-clause-reads g t c = goes_on _ _ _ _ _ c.process.ensures.reads (rw (reads_is, c.in_ok-sign.ensures.reads) refl)

pub replicated-returns-in_err-name-clause-reads : goal.replicated-returns-in_err-name-clause-reads
unfolding body
replicated-returns-in_err-name-clause-reads g t c =
    hands _ _ _ _ _ _ c.from_residual.ensures c.in_err-name.ensures.reads (λ h e. rw (reads_is, (ap (λ z. reads (NameBehind z) (standing_of c.args.self.now)) (sym c.replicated_sign-written.ensures) ∙ e)) refl)

pub replicated-returns-in_err-set-clause-reads : goal.replicated-returns-in_err-set-clause-reads
unfolding body
replicated-returns-in_err-set-clause-reads g t c =
    hands _ _ _ _ _ _ c.from_residual-in_err-set.ensures c.in_err-set.ensures.reads (λ h e. rw (reads_is, (ap (λ z. reads (NameBehind z) (standing_of c.args.self.now)) (sym c.replicated_sign-written.ensures) ∙ c.in_ok-name.ensures.reads), e) refl)

pub replicated-returns-in_err-body-clause-reads : goal.replicated-returns-in_err-body-clause-reads
unfolding body
replicated-returns-in_err-body-clause-reads g t c =
    hands _ _ _ _ _ _ c.from_residual-in_err-body.ensures c.in_err-body.ensures.reads (λ h e. rw (reads_is, (ap (λ z. reads (NameBehind z) (standing_of c.args.self.now)) (sym c.replicated_sign-written.ensures) ∙ c.in_ok-name.ensures.reads), c.in_ok-set.ensures.reads, e) refl)

pub replicated-returns-clause-reads : goal.replicated-returns-clause-reads
unfolding body
replicated-returns-clause-reads g t c =
    made _ _ _ _ _ c.replicated.ensures.makes c.replicated.ensures.stops (rw (reads_is, (ap (λ z. reads (NameBehind z) (standing_of c.args.self.now)) (sym c.replicated_sign-written.ensures) ∙ c.in_ok-name.ensures.reads), c.in_ok-set.ensures.reads, c.in_ok-body.ensures.reads) refl)

pub process_from-returns-in_err-base-in-Name-clause-reads : goal.process_from-returns-in_err-base-in-Name-clause-reads
unfolding body
process_from-returns-in_err-base-in-Name-clause-reads g t c = hands _ _ _ _ _ _ c.from_residual.ensures (refused _ _ _ c.in_err-base-in-Name.ensures.stops) (λ h e. e)

pub process_from-returns-in-Name-clause-reads : goal.process_from-returns-in-Name-clause-reads
unfolding body
process_from-returns-in-Name-clause-reads g t c = goes_on _ _ _ _ _ c.process_from_base.ensures.reads
    (from_start (standing_of c.args.self.now) _ _ (ap start_of c.in-Name.is) ∙ ap (λ y. and_then (reads (FromBase y) (standing_of c.args.self.now)) (λ z q. Ok (z, q))) (sym (c.in_ok-base-in-Name.ensures.makes ∙ ap (λ es. RawCall (name_of c.in-Name.name) (raw_list (expressions_in es))) c.new.ensures.items)))

pub process_from-returns-in-Expression-clause-reads : goal.process_from-returns-in-Expression-clause-reads
unfolding body
process_from-returns-in-Expression-clause-reads g t c = from_start (standing_of c.args.self.now) _ _ (ap start_of c.in-Expression.is)

pub process_from-returns-in-Base-clause-reads : goal.process_from-returns-in-Base-clause-reads
unfolding body
process_from-returns-in-Base-clause-reads g t c =
    goes_on _ _ _ _ _ c.process_from_base-in-Base.ensures.reads (from_start (standing_of c.args.self.now) _ _ (ap start_of c.in-Base.is))

pub process_from-returns-clause-reads : goal.process_from-returns-clause-reads
unfolding body
process_from-returns-clause-reads g t c =
    goes_on _ _ _ _ _ c.process_from_operand.ensures.reads (from_start (standing_of c.args.self.now) _ _ (ap start_of c.in-Operand.is))

pub process_from_base-returns-in_err-renamed-clause-reads : goal.process_from_base-returns-in_err-renamed-clause-reads
unfolding body
process_from_base-returns-in_err-renamed-clause-reads g t c =
    hands _ _ _ _ _ _ c.from_residual.ensures c.in_err-renamed.ensures.reads (λ h e. base_reads (process_in c.args.base) (standing_of c.args.self.now) true (sym c.is_at_suffix.ensures ∙ c.if-is_at_suffix.true) ∙ rw e refl)

pub process_from_base-returns-then-is_at_suffix-clause-reads : goal.process_from_base-returns-then-is_at_suffix-clause-reads
unfolding body
process_from_base-returns-then-is_at_suffix-clause-reads g t c =
    goes_on _ _ _ _ _ c.hidden.ensures.reads (base_reads (process_in c.args.base) (standing_of c.args.self.now) true (sym c.is_at_suffix.ensures ∙ c.if-is_at_suffix.true) ∙ rw c.in_ok-renamed.ensures.reads refl)

pub process_from_base-returns-clause-reads : goal.process_from_base-returns-clause-reads
unfolding body
process_from_base-returns-clause-reads g t c =
    goes_on _ _ _ _ _ c.process_from_operand.ensures.reads (base_reads (process_in c.args.base) (standing_of c.args.self.now) false (sym c.is_at_suffix.ensures ∙ c.if-is_at_suffix.false))

pub process_from_operand-returns-in-Some-clause-reads : goal.process_from_operand-returns-in-Some-clause-reads
unfolding body
process_from_operand-returns-in-Some-clause-reads g t c =
    goes_on _ _ _ _ _ c.chain.ensures.reads (operand_reads (process_in c.args.first) (standing_of c.args.self.now) (Some (infix_of c.in-Some.operator)) _ _ (sym c.in-Some.ensures) refl refl)

pub process_from_operand-returns-then-is_at-clause-reads : goal.process_from_operand-returns-then-is_at-clause-reads
unfolding body
process_from_operand-returns-then-is_at-clause-reads g t c =
    goes_on _ _ _ _ _ c.generalised.ensures.reads (operand_reads (process_in c.args.first) (standing_of c.args.self.now) None true _ (sym c.in_default.ensures) (sym c.is_at.ensures ∙ c.if-is_at.true) refl)

pub process_from_operand-returns-then-is_at-2-clause-reads : goal.process_from_operand-returns-then-is_at-2-clause-reads
unfolding body
process_from_operand-returns-then-is_at-2-clause-reads g t c =
    goes_on _ _ _ _ _ c.alphabetised.ensures.reads (operand_reads (process_in c.args.first) (standing_of c.args.self.now) None false true (sym c.in_default.ensures) (sym c.is_at.ensures ∙ c.if-is_at.false) (sym c.is_at-2.ensures ∙ c.if-is_at-2.true))

pub process_from_operand-returns-clause-reads : goal.process_from_operand-returns-clause-reads
unfolding body
process_from_operand-returns-clause-reads g t c =
    operand_reads (process_in c.args.first) (standing_of c.args.self.now) None false false (sym c.in_default.ensures) (sym c.is_at.ensures ∙ c.if-is_at.false) (sym c.is_at-2.ensures ∙ c.if-is_at-2.false)

pub generalised-returns-in_err-shared-clause-reads : goal.generalised-returns-in_err-shared-clause-reads
unfolding body
generalised-returns-in_err-shared-clause-reads g t c = hands _ _ _ _ _ _ c.from_residual.ensures c.in_err-shared.ensures.reads (λ h e. rw (reads_is, e) refl)

pub generalised-returns-in_err-right-clause-reads : goal.generalised-returns-in_err-right-clause-reads
unfolding body
generalised-returns-in_err-right-clause-reads g t c =
    hands _ _ _ _ _ _ c.from_residual-in_err-right.ensures c.in_err-right.ensures.reads (λ h e. rw (reads_is, c.in_ok-shared.ensures.reads, e) refl)

pub generalised-returns-clause-reads : goal.generalised-returns-clause-reads
unfolding body
generalised-returns-clause-reads g t c =
    made _ _ _ _ _ c.generalised.ensures.makes c.generalised.ensures.stops (rw (reads_is, c.in_ok-shared.ensures.reads, c.in_ok-right.ensures.reads) refl)

pub alphabetised-returns-in_err-of_left-clause-reads : goal.alphabetised-returns-in_err-of_left-clause-reads
unfolding body
alphabetised-returns-in_err-of_left-clause-reads g t c = hands _ _ _ _ _ _ c.from_residual.ensures c.in_err-of_left.ensures.reads (λ h e. rw (reads_is, e) refl)

pub alphabetised-returns-in_err-of_right-clause-reads : goal.alphabetised-returns-in_err-of_right-clause-reads
unfolding body
alphabetised-returns-in_err-of_right-clause-reads g t c =
    hands _ _ _ _ _ _ c.from_residual-in_err-of_right.ensures c.in_err-of_right.ensures.reads (λ h e. rw (reads_is, c.in_ok-of_left.ensures.reads, e) refl)

pub alphabetised-returns-in_err-right-clause-reads : goal.alphabetised-returns-in_err-right-clause-reads
unfolding body
alphabetised-returns-in_err-right-clause-reads g t c =
    hands _ _ _ _ _ _ c.from_residual-in_err-right.ensures c.in_err-right.ensures.reads (λ h e. rw (reads_is, c.in_ok-of_left.ensures.reads, c.in_ok-of_right.ensures.reads, e) refl)

pub alphabetised-returns-clause-reads : goal.alphabetised-returns-clause-reads
unfolding body
alphabetised-returns-clause-reads g t c =
    made _ _ _ _ _ c.alphabetised.ensures.makes c.alphabetised.ensures.stops (rw (reads_is, c.in_ok-of_left.ensures.reads, c.in_ok-of_right.ensures.reads, c.in_ok-right.ensures.reads) refl)

pub chain-returns-in_err-second-clause-reads : goal.chain-returns-in_err-second-clause-reads
unfolding body
chain-returns-in_err-second-clause-reads g t c =
    hands _ _ _ _ _ _ c.from_residual.ensures c.in_err-second.ensures.reads (λ h e. rw (reads_is, operand_so (infix_of c.args.operator) (standing_of c.args.self.now) c.infix_sign-written.ensures e) refl)

pub chain-returns-in_err-chain-clause-reads : goal.chain-returns-in_err-chain-clause-reads
unfolding body
chain-returns-in_err-chain-clause-reads g t c = hands _ _ _ _ _ _ c.from_residual-in_err-chain.ensures (refused _ _ _ c.in_err-chain.ensures.stops) (λ h e. e)

pub chain-loop-operator-init : goal.chain-loop-operator-init
unfolding body
chain-loop-operator-init g t c =
    record { same = chain_begins (infix_of c.args.operator) _ _ _ _ _ (operand_so (infix_of c.args.operator) (standing_of c.args.self.now) c.infix_sign-written.ensures c.in_ok-second.ensures.reads) c.in_ok-chain.ensures.makes; not_longer = omega (arith, c.in_ok-second.ensures.shorter) }

pub chain-loop-operator-preserved : goal.chain-loop-operator-preserved
unfolding body
chain-loop-operator-preserved g t c =
    record { same = c.loop-operator.invariant.same ∙ chain_more (infix_of c.args.operator) _ _ _ _ _ (next_so (infix_of c.args.operator) (standing_of c.loop-operator.self) c.infix_sign-written.ensures (sym c.is_at.ensures ∙ c.loop-operator-test.true)) (operand_so (infix_of c.args.operator) (standing_of c.loop-operator.self) c.infix_sign-written.ensures c.in_ok-operand.ensures.reads) c.in_ok-chain-2.ensures.makes; not_longer = omega (arith, c.loop-operator.invariant.not_longer, c.in_ok-operand.ensures.shorter) }

pub chain-returns-in_err-operand-clause-reads : goal.chain-returns-in_err-operand-clause-reads
unfolding body
chain-returns-in_err-operand-clause-reads g t c =
    hands _ _ _ _ _ _ c.from_residual-in_err-operand.ensures c.in_err-operand.ensures.reads (λ h e. c.loop-operator.invariant.same ∙ chain_reads (infix_of c.args.operator) (process_in c.loop-operator.chain) (standing_of c.loop-operator.self) true (next_so (infix_of c.args.operator) (standing_of c.loop-operator.self) c.infix_sign-written.ensures (sym c.is_at.ensures ∙ c.loop-operator-test.true)) ∙ rw (operand_so (infix_of c.args.operator) (standing_of c.loop-operator.self) c.infix_sign-written.ensures e) refl)

pub chain-returns-in_err-chain-2-clause-reads : goal.chain-returns-in_err-chain-2-clause-reads
unfolding body
chain-returns-in_err-chain-2-clause-reads g t c = hands _ _ _ _ _ _ c.from_residual-in_err-chain-2.ensures (refused _ _ _ c.in_err-chain-2.ensures.stops) (λ h e. e)

pub chain-returns-clause-reads : goal.chain-returns-clause-reads
unfolding body
chain-returns-clause-reads g t c =
    c.loop-operator.invariant.same ∙ chain_reads (infix_of c.args.operator) (process_in c.loop-operator.chain) (standing_of c.loop-operator.self) false (next_so (infix_of c.args.operator) (standing_of c.loop-operator.self) c.infix_sign-written.ensures (sym c.is_at.ensures ∙ c.loop-operator-test.false))

pub operand-returns-in_err-name-clause-reads : goal.operand-returns-in_err-name-clause-reads
unfolding body
operand-returns-in_err-name-clause-reads g t c = hands _ _ _ _ _ _ c.from_residual.ensures c.in_err-name.ensures.reads (λ h e. rw (reads_is, e) refl)

pub operand-returns-in-Name-clause-reads : goal.operand-returns-in-Name-clause-reads
unfolding body
operand-returns-in-Name-clause-reads g t c =
    made _ _ _ _ _ (IfOk-weaker c.call.result _ _ (λ _ told. told ∙ ap (λ es. RawCall (name_of c.in-Name.name) (raw_list (expressions_in es))) c.new.ensures.items) c.call.ensures.makes) c.call.ensures.stops (rw (reads_is, (c.in_ok-name.ensures.reads ∙ ap (λ x. Ok (start_of x, standing_of c.start.new.self)) c.in-Name.is)) refl)

pub operand-returns-in-Expression-clause-reads : goal.operand-returns-in-Expression-clause-reads
unfolding body
operand-returns-in-Expression-clause-reads g t c =
    rw (reads_is, (c.in_ok-name.ensures.reads ∙ ap (λ x. Ok (start_of x, standing_of c.start.new.self)) c.in-Expression.is)) refl

pub operand-returns-in-Base-clause-reads : goal.operand-returns-in-Base-clause-reads
unfolding body
operand-returns-in-Base-clause-reads g t c = rw (reads_is, (c.in_ok-name.ensures.reads ∙ ap (λ x. Ok (start_of x, standing_of c.start.new.self)) c.in-Base.is)) refl

pub operand-returns-clause-reads : goal.operand-returns-clause-reads
unfolding body
operand-returns-clause-reads g t c = rw (reads_is, (c.in_ok-name.ensures.reads ∙ ap (λ x. Ok (start_of x, standing_of c.start.new.self)) c.in-Operand.is)) refl

pub operand_behind-returns-in_err-sign-clause-reads : goal.operand_behind-returns-in_err-sign-clause-reads
unfolding body
operand_behind-returns-in_err-sign-clause-reads g t c = hands _ _ _ _ _ _ c.from_residual.ensures c.in_err-sign.ensures.reads (λ h e. rw (reads_is, e) refl)

pub operand_behind-returns-clause-reads : goal.operand_behind-returns-clause-reads
unfolding body
operand_behind-returns-clause-reads g t c = goes_on _ _ _ _ _ c.operand.ensures.reads (rw (reads_is, c.in_ok-sign.ensures.reads) refl)

pub start-returns-then-is_at_word-clause-reads : goal.start-returns-then-is_at_word-clause-reads
unfolding body
start-returns-then-is_at_word-clause-reads g t c =
    goes_on _ _ _ _ _ c.stop.ensures.reads (start_reads (standing_of c.args.self.now) true _ _ _ (sym c.is_at_word.ensures ∙ c.if-is_at_word.true) refl refl refl)

pub start-returns-then-is_at_word-2-clause-reads : goal.start-returns-then-is_at_word-2-clause-reads
unfolding body
start-returns-then-is_at_word-2-clause-reads g t c =
    goes_on _ _ _ _ _ c.skip.ensures.reads (start_reads (standing_of c.args.self.now) false true _ _ (sym c.is_at_word.ensures ∙ c.if-is_at_word.false) (sym c.is_at_word-2.ensures ∙ c.if-is_at_word-2.true) refl refl)

pub start-returns-then-is_at_name-clause-reads : goal.start-returns-then-is_at_name-clause-reads
unfolding body
start-returns-then-is_at_name-clause-reads g t c =
    goes_on _ _ _ _ _ c.start_of_name.ensures.reads (start_reads (standing_of c.args.self.now) false false true _ (sym c.is_at_word.ensures ∙ c.if-is_at_word.false) (sym c.is_at_word-2.ensures ∙ c.if-is_at_word-2.false) (sym c.is_at_name.ensures ∙ c.if-is_at_name.true) refl)

pub start-returns-then-is_at-clause-reads : goal.start-returns-then-is_at-clause-reads
unfolding body
start-returns-then-is_at-clause-reads g t c =
    goes_on _ _ _ _ _ c.start_of_brackets.ensures.reads (start_reads (standing_of c.args.self.now) false false false true (sym c.is_at_word.ensures ∙ c.if-is_at_word.false) (sym c.is_at_word-2.ensures ∙ c.if-is_at_word-2.false) (sym c.is_at_name.ensures ∙ c.if-is_at_name.false) (sym c.is_at.ensures ∙ c.if-is_at.true))

pub start-returns-clause-reads : goal.start-returns-clause-reads
unfolding body
start-returns-clause-reads g t c =
    goes_on _ _ _ _ _ c.start_of_expression.ensures.reads (start_reads (standing_of c.args.self.now) false false false false (sym c.is_at_word.ensures ∙ c.if-is_at_word.false) (sym c.is_at_word-2.ensures ∙ c.if-is_at_word-2.false) (sym c.is_at_name.ensures ∙ c.if-is_at_name.false) (sym c.is_at.ensures ∙ c.if-is_at.false))

pub start_of_expression-returns-in_err-expression-clause-reads : goal.start_of_expression-returns-in_err-expression-clause-reads
unfolding body
start_of_expression-returns-in_err-expression-clause-reads g t c =
    hands _ _ _ _ _ _ c.from_residual.ensures c.in_err-expression.ensures.reads (λ h e. rw (reads_is, e) refl)

pub start_of_expression-returns-clause-reads : goal.start_of_expression-returns-clause-reads
unfolding body
start_of_expression-returns-clause-reads g t c = goes_on _ _ _ _ _ c.guarded.ensures.reads (rw (reads_is, c.in_ok-expression.ensures.reads) refl)

pub start_of_name-returns-in_err-name-clause-reads : goal.start_of_name-returns-in_err-name-clause-reads
unfolding body
start_of_name-returns-in_err-name-clause-reads g t c = hands _ _ _ _ _ _ c.from_residual.ensures c.in_err-name.ensures.reads (λ h e. rw (reads_is, e) refl)

pub start_of_name-returns-clause-reads : goal.start_of_name-returns-clause-reads
unfolding body
start_of_name-returns-clause-reads g t c = goes_on _ _ _ _ _ c.start_behind_name.ensures.reads (rw (reads_is, c.in_ok-name.ensures.reads) refl)

pub start_behind_name-returns-then-is_at-clause-reads : goal.start_behind_name-returns-then-is_at-clause-reads
unfolding body
start_behind_name-returns-then-is_at-clause-reads g t c =
    goes_on _ _ _ _ _ c.call_of.ensures.reads (behind_name_reads (name_of c.args.name) (standing_of c.args.self.now) true _ (sym c.is_at.ensures ∙ c.if-is_at.true) refl)

pub start_behind_name-returns-then-is_at_prefix-clause-reads : goal.start_behind_name-returns-then-is_at_prefix-clause-reads
unfolding body
start_behind_name-returns-then-is_at_prefix-clause-reads g t c =
    goes_on _ _ _ _ _ c.prefix_of.ensures.reads (behind_name_reads (name_of c.args.name) (standing_of c.args.self.now) false true (sym c.is_at.ensures ∙ c.if-is_at.false) (sym c.is_at_prefix.ensures ∙ c.if-is_at_prefix.true))

pub start_behind_name-returns-clause-reads : goal.start_behind_name-returns-clause-reads
unfolding body
start_behind_name-returns-clause-reads g t c =
    goes_on _ _ _ _ _ c.start_from_name.ensures.reads (behind_name_reads (name_of c.args.name) (standing_of c.args.self.now) false false (sym c.is_at.ensures ∙ c.if-is_at.false) (sym c.is_at_prefix.ensures ∙ c.if-is_at_prefix.false))

pub prefix_of-returns-in_err-values-clause-reads : goal.prefix_of-returns-in_err-values-clause-reads
unfolding body
prefix_of-returns-in_err-values-clause-reads g t c = hands _ _ _ _ _ _ c.from_residual.ensures c.in_err-values.ensures.reads (λ h e. rw (reads_is, e) refl)

pub prefix_of-returns-clause-reads : goal.prefix_of-returns-clause-reads
unfolding body
prefix_of-returns-clause-reads g t c = goes_on _ _ _ _ _ c.prefix_behind.ensures.reads (rw (reads_is, c.in_ok-values.ensures.reads) refl)

pub prefix_behind-returns-in_err-fields-clause-reads : goal.prefix_behind-returns-in_err-fields-clause-reads
unfolding body
prefix_behind-returns-in_err-fields-clause-reads g t c =
    hands _ _ _ _ _ _ c.from_residual.ensures c.in_err-fields.ensures.reads (λ h e. rw (reads_is, (ap (λ fs. reads (FieldsBehind fs) (standing_of c.args.self.now)) (map-map RawGiven expression_of c.args.values.items) ∙ e)) refl)

pub prefix_behind-returns-in_err-body-clause-reads : goal.prefix_behind-returns-in_err-body-clause-reads
unfolding body
prefix_behind-returns-in_err-body-clause-reads g t c =
    hands _ _ _ _ _ _ c.from_residual-in_err-body.ensures c.in_err-body.ensures.reads (λ h e. rw (reads_is, (ap (λ fs. reads (FieldsBehind fs) (standing_of c.args.self.now)) (map-map RawGiven expression_of c.args.values.items) ∙ c.in_ok-fields.ensures.reads), e) refl)

pub prefix_behind-returns-clause-reads : goal.prefix_behind-returns-clause-reads
unfolding body
prefix_behind-returns-clause-reads g t c =
    made _ _ _ _ _ c.prefix.ensures.makes c.prefix.ensures.stops (rw (reads_is, (ap (λ fs. reads (FieldsBehind fs) (standing_of c.args.self.now)) (map-map RawGiven expression_of c.args.values.items) ∙ c.in_ok-fields.ensures.reads), c.in_ok-body.ensures.reads) refl)

pub start_from_name-returns-then-not-is_at-clause-reads : goal.start_from_name-returns-then-not-is_at-clause-reads
unfolding body
start_from_name-returns-then-not-is_at-clause-reads g t c =
    from_name_reads (name_of c.args.name) (standing_of c.args.self.now) false (neither_holds (is_operator (next_of c.args.self.now)) (is_sign GuardSign (next_of c.args.self.now)) (sym c.is_at_operator.ensures ∙ c.if-not-is_at_operator.true) (sym c.is_at.ensures ∙ c.if-not-is_at.true))

pub start_from_name-returns-in_err-expression-clause-reads : goal.start_from_name-returns-in_err-expression-clause-reads
unfolding body
start_from_name-returns-in_err-expression-clause-reads g t c = hands _ _ _ _ _ _ c.from_residual.ensures c.in_err-expression.ensures.reads (λ h e. from_name_reads (name_of c.args.name) (standing_of c.args.self.now) true (elim c.else-not-is_at_operator.branch [
  | start_from_name-else-not-is_at_operator-via-then-not-is_at_operator+else-not-is_at w ↦ second_holds (is_operator (next_of c.args.self.now)) (is_sign GuardSign (next_of c.args.self.now)) (sym w.is_at.ensures ∙ w.if-not-is_at.false)
  | start_from_name-else-not-is_at_operator-via-else-not-is_at_operator w ↦ first_holds (is_operator (next_of c.args.self.now)) (is_sign GuardSign (next_of c.args.self.now)) (sym c.is_at_operator.ensures ∙ w.if-not-is_at_operator.false)
]) ∙ rw e refl)

pub start_from_name-returns-clause-reads : goal.start_from_name-returns-clause-reads
unfolding body
start_from_name-returns-clause-reads g t c = goes_on _ _ _ _ _ c.guarded.ensures.reads (from_name_reads (name_of c.args.name) (standing_of c.args.self.now) true (elim c.else-not-is_at_operator.branch [
  | start_from_name-else-not-is_at_operator-via-then-not-is_at_operator+else-not-is_at w ↦ second_holds (is_operator (next_of c.args.self.now)) (is_sign GuardSign (next_of c.args.self.now)) (sym w.is_at.ensures ∙ w.if-not-is_at.false)
  | start_from_name-else-not-is_at_operator-via-else-not-is_at_operator w ↦ first_holds (is_operator (next_of c.args.self.now)) (is_sign GuardSign (next_of c.args.self.now)) (sym c.is_at_operator.ensures ∙ w.if-not-is_at_operator.false)
]) ∙ rw c.in_ok-expression.ensures.reads refl)

pub start_from_atom-returns-in_err-expression-clause-reads : goal.start_from_atom-returns-in_err-expression-clause-reads
unfolding body
start_from_atom-returns-in_err-expression-clause-reads g t c = hands _ _ _ _ _ _ c.from_residual.ensures c.in_err-expression.ensures.reads (λ h e. rw (reads_is, e) refl)

pub start_from_atom-returns-clause-reads : goal.start_from_atom-returns-clause-reads
unfolding body
start_from_atom-returns-clause-reads g t c = goes_on _ _ _ _ _ c.guarded.ensures.reads (rw (reads_is, c.in_ok-expression.ensures.reads) refl)

pub bracketed_inner-returns-in_err-sign-clause-reads : goal.bracketed_inner-returns-in_err-sign-clause-reads
unfolding body
bracketed_inner-returns-in_err-sign-clause-reads g t c = hands _ _ _ _ _ _ c.from_residual.ensures c.in_err-sign.ensures.reads (λ h e. rw (reads_is, e) refl)

pub bracketed_inner-returns-in_err-inner-clause-reads : goal.bracketed_inner-returns-in_err-inner-clause-reads
unfolding body
bracketed_inner-returns-in_err-inner-clause-reads g t c =
    hands _ _ _ _ _ _ c.from_residual-in_err-inner.ensures c.in_err-inner.ensures.reads (λ h e. rw (reads_is, c.in_ok-sign.ensures.reads, e) refl)

pub bracketed_inner-returns-in_err-sign-2-clause-reads : goal.bracketed_inner-returns-in_err-sign-2-clause-reads
unfolding body
bracketed_inner-returns-in_err-sign-2-clause-reads g t c =
    hands _ _ _ _ _ _ c.from_residual-in_err-sign-2.ensures c.in_err-sign-2.ensures.reads (λ h e. rw (reads_is, c.in_ok-sign.ensures.reads, c.in_ok-inner.ensures.reads, e) refl)

pub bracketed_inner-returns-clause-reads : goal.bracketed_inner-returns-clause-reads
unfolding body
bracketed_inner-returns-clause-reads g t c = rw (reads_is, c.in_ok-sign.ensures.reads, c.in_ok-inner.ensures.reads, c.in_ok-sign-2.ensures.reads) refl

pub start_of_brackets-returns-in_err-inner-clause-reads : goal.start_of_brackets-returns-in_err-inner-clause-reads
unfolding body
start_of_brackets-returns-in_err-inner-clause-reads g t c = hands _ _ _ _ _ _ c.from_residual.ensures c.in_err-inner.ensures.reads (λ h e. rw (reads_is, e) refl)

pub start_of_brackets-returns-in-Name-clause-reads : goal.start_of_brackets-returns-in-Name-clause-reads
unfolding body
start_of_brackets-returns-in-Name-clause-reads g t c =
    goes_on _ _ _ _ _ c.start_from_name.ensures.reads (rw (reads_is, (c.in_ok-inner.ensures.reads ∙ ap (λ x. Ok (inner_of x, standing_of c.bracketed_inner.new.self)) c.in-Name.is)) refl)

pub start_of_brackets-returns-in-Expression-clause-reads : goal.start_of_brackets-returns-in-Expression-clause-reads
unfolding body
start_of_brackets-returns-in-Expression-clause-reads g t c =
    goes_on _ _ _ _ _ c.start_from_atom.ensures.reads (rw (reads_is, (c.in_ok-inner.ensures.reads ∙ ap (λ x. Ok (inner_of x, standing_of c.bracketed_inner.new.self)) c.in-Expression.is)) refl)

pub start_of_brackets-returns-in-Process-clause-reads : goal.start_of_brackets-returns-in-Process-clause-reads
unfolding body
start_of_brackets-returns-in-Process-clause-reads g t c =
    rw (reads_is, (c.in_ok-inner.ensures.reads ∙ ap (λ x. Ok (inner_of x, standing_of c.bracketed_inner.new.self)) c.in-Process.is)) refl

pub inner-returns-in_err-process-clause-reads : goal.inner-returns-in_err-process-clause-reads
unfolding body
inner-returns-in_err-process-clause-reads g t c =
    hands _ _ _ _ _ _ c.from_residual.ensures c.in_err-process.ensures.reads (λ h e. inner_reads (standing_of c.args.self.now) true _ (sym c.is_at_process.ensures ∙ c.if-is_at_process.true) refl ∙ rw e refl)

pub inner-returns-then-is_at_process-clause-reads : goal.inner-returns-then-is_at_process-clause-reads
unfolding body
inner-returns-then-is_at_process-clause-reads g t c =
    inner_reads (standing_of c.args.self.now) true _ (sym c.is_at_process.ensures ∙ c.if-is_at_process.true) refl ∙ rw c.in_ok-process.ensures.reads refl

pub inner-returns-then-is_at_name-clause-reads : goal.inner-returns-then-is_at_name-clause-reads
unfolding body
inner-returns-then-is_at_name-clause-reads g t c =
    goes_on _ _ _ _ _ c.inner_of_name.ensures.reads (inner_reads (standing_of c.args.self.now) false true (sym c.is_at_process.ensures ∙ c.if-is_at_process.false) (sym c.is_at_name.ensures ∙ c.if-is_at_name.true))

pub inner-returns-in_err-start-clause-reads : goal.inner-returns-in_err-start-clause-reads
unfolding body
inner-returns-in_err-start-clause-reads g t c =
    hands _ _ _ _ _ _ c.from_residual-in_err-start.ensures c.in_err-start.ensures.reads (λ h e. inner_reads (standing_of c.args.self.now) false false (sym c.is_at_process.ensures ∙ c.if-is_at_process.false) (sym c.is_at_name.ensures ∙ c.if-is_at_name.false) ∙ rw e refl)

pub inner-returns-clause-reads : goal.inner-returns-clause-reads
unfolding body
inner-returns-clause-reads g t c =
    goes_on _ _ _ _ _ c.inner_from.ensures.reads (inner_reads (standing_of c.args.self.now) false false (sym c.is_at_process.ensures ∙ c.if-is_at_process.false) (sym c.is_at_name.ensures ∙ c.if-is_at_name.false) ∙ rw c.in_ok-start.ensures.reads refl)

pub inner_of_name-returns-in_err-name-clause-reads : goal.inner_of_name-returns-in_err-name-clause-reads
unfolding body
inner_of_name-returns-in_err-name-clause-reads g t c = hands _ _ _ _ _ _ c.from_residual.ensures c.in_err-name.ensures.reads (λ h e. rw (reads_is, e) refl)

pub inner_of_name-returns-then-is_at-clause-reads : goal.inner_of_name-returns-then-is_at-clause-reads
unfolding body
inner_of_name-returns-then-is_at-clause-reads g t c =
    goes_on _ _ _ _ _ c.inner_of_dotted.ensures.reads (inner_of_name_reads _ _ _ true c.in_ok-name.ensures.reads (sym c.is_at.ensures ∙ c.if-is_at.true))

pub inner_of_name-returns-in_err-start-clause-reads : goal.inner_of_name-returns-in_err-start-clause-reads
unfolding body
inner_of_name-returns-in_err-start-clause-reads g t c =
    hands _ _ _ _ _ _ c.from_residual-in_err-start.ensures c.in_err-start.ensures.reads (λ h e. inner_of_name_reads _ _ _ false c.in_ok-name.ensures.reads (sym c.is_at.ensures ∙ c.if-is_at.false) ∙ rw e refl)

pub inner_of_name-returns-clause-reads : goal.inner_of_name-returns-clause-reads
unfolding body
inner_of_name-returns-clause-reads g t c =
    goes_on _ _ _ _ _ c.inner_from.ensures.reads (inner_of_name_reads _ _ _ false c.in_ok-name.ensures.reads (sym c.is_at.ensures ∙ c.if-is_at.false) ∙ rw c.in_ok-start.ensures.reads refl)

pub inner_of_dotted-returns-in_err-values-clause-reads : goal.inner_of_dotted-returns-in_err-values-clause-reads
unfolding body
inner_of_dotted-returns-in_err-values-clause-reads g t c = hands _ _ _ _ _ _ c.from_residual.ensures c.in_err-values.ensures.reads (λ h e. rw (reads_is, e) refl)

pub inner_of_dotted-returns-then-not-is_at_prefix-clause-reads : goal.inner_of_dotted-returns-then-not-is_at_prefix-clause-reads
unfolding body
inner_of_dotted-returns-then-not-is_at_prefix-clause-reads g t c =
    inner_of_dotted_reads (name_of c.args.name) _ _ _ false c.in_ok-values.ensures.reads (sym c.is_at_prefix.ensures ∙ c.if-not-is_at_prefix.true) ∙ ap (λ x. Ok (InnerExpression x, standing_of c.dotted.new.self)) (sym (tree_of_constructor g.row.A.Denot c.args.name c.in_ok-values.values))

pub inner_of_dotted-returns-in_err-prefix-clause-reads : goal.inner_of_dotted-returns-in_err-prefix-clause-reads
unfolding body
inner_of_dotted-returns-in_err-prefix-clause-reads g t c =
    hands _ _ _ _ _ _ c.from_residual-in_err-prefix.ensures c.in_err-prefix.ensures.reads (λ h e. inner_of_dotted_reads (name_of c.args.name) _ _ _ true c.in_ok-values.ensures.reads (sym c.is_at_prefix.ensures ∙ c.if-not-is_at_prefix.false) ∙ rw e refl)

pub inner_of_dotted-returns-clause-reads : goal.inner_of_dotted-returns-clause-reads
unfolding body
inner_of_dotted-returns-clause-reads g t c =
    goes_on _ _ _ _ _ c.inner_process.ensures.reads (inner_of_dotted_reads (name_of c.args.name) _ _ _ true c.in_ok-values.ensures.reads (sym c.is_at_prefix.ensures ∙ c.if-not-is_at_prefix.false) ∙ rw c.in_ok-prefix.ensures.reads refl)

pub inner_from-returns-in-Name-clause-reads : goal.inner_from-returns-in-Name-clause-reads
unfolding body
inner_from-returns-in-Name-clause-reads g t c =
    goes_on _ _ _ _ _ c.inner_from_name.ensures.reads (inner_start (standing_of c.args.self.now) _ _ (ap start_of c.in-Name.is))

pub inner_from-returns-in-Expression-clause-reads : goal.inner_from-returns-in-Expression-clause-reads
unfolding body
inner_from-returns-in-Expression-clause-reads g t c = inner_start (standing_of c.args.self.now) _ _ (ap start_of c.in-Expression.is)

pub inner_from-returns-in-Base-clause-reads : goal.inner_from-returns-in-Base-clause-reads
unfolding body
inner_from-returns-in-Base-clause-reads g t c =
    goes_on _ _ _ _ _ c.inner_process.ensures.reads (inner_start (standing_of c.args.self.now) _ _ (ap start_of c.in-Base.is))

pub inner_from-returns-in-Operand-clause-reads : goal.inner_from-returns-in-Operand-clause-reads
unfolding body
inner_from-returns-in-Operand-clause-reads g t c =
    goes_on _ _ _ _ _ c.inner_process-in-Operand.ensures.reads (inner_start (standing_of c.args.self.now) _ _ (ap start_of c.in-Operand.is))

pub inner_process-returns-in_err-process-clause-reads : goal.inner_process-returns-in_err-process-clause-reads
unfolding body
inner_process-returns-in_err-process-clause-reads g t c = hands _ _ _ _ _ _ c.from_residual.ensures c.in_err-process.ensures.reads (λ h e. rw (reads_is, e) refl)

pub inner_process-returns-clause-reads : goal.inner_process-returns-clause-reads
unfolding body
inner_process-returns-clause-reads g t c = rw (reads_is, c.in_ok-process.ensures.reads) refl

pub inner_from_name-returns-then-is_at-clause-reads : goal.inner_from_name-returns-then-is_at-clause-reads
unfolding body
inner_from_name-returns-then-is_at-clause-reads g t c = inner_name_reads (name_of c.args.name) (standing_of c.args.self.now) true (sym c.is_at.ensures ∙ c.if-is_at.true)

pub inner_from_name-returns-clause-reads : goal.inner_from_name-returns-clause-reads
unfolding body
inner_from_name-returns-clause-reads g t c =
    goes_on _ _ _ _ _ c.inner_process.ensures.reads (inner_name_reads (name_of c.args.name) (standing_of c.args.self.now) false (sym c.is_at.ensures ∙ c.if-is_at.false))

pub guarded-returns-then-not-is_at-clause-reads : goal.guarded-returns-then-not-is_at-clause-reads
unfolding body
guarded-returns-then-not-is_at-clause-reads g t c =
    guard_reads (expression_of c.args.expression) (standing_of c.args.self.now) false (sym c.is_at.ensures ∙ c.if-not-is_at.true)

pub guarded-returns-in_err-body-clause-reads : goal.guarded-returns-in_err-body-clause-reads
unfolding body
guarded-returns-in_err-body-clause-reads g t c =
    hands _ _ _ _ _ _ c.from_residual.ensures c.in_err-body.ensures.reads (λ h e. guard_reads (expression_of c.args.expression) (standing_of c.args.self.now) true (sym c.is_at.ensures ∙ c.if-not-is_at.false) ∙ rw e refl)

pub guarded-returns-clause-reads : goal.guarded-returns-clause-reads
unfolding body
guarded-returns-clause-reads g t c =
    made _ _ _ _ _ c.guard.ensures.makes c.guard.ensures.stops (guard_reads (expression_of c.args.expression) (standing_of c.args.self.now) true (sym c.is_at.ensures ∙ c.if-not-is_at.false) ∙ rw c.in_ok-body.ensures.reads refl)
