-- Each form is resolved by its parts, in order.
use Rattle.std.proofs.Common.{map, ◌∙◌}
use Rattle.theory_syntax.specs.Process as process
use Rattle.csp_parse.specs.EventSets.{event_set_of}
use Rattle.csp_parse.specs.Events.{pair_of}
use Rattle.csp_parse.specs.Expressions.{expression_of, expressions_of}
use Rattle.csp_parse.specs.Names.{name_of}
use Rattle.csp_parse.specs.Processes.{field_of, infix_of, process_of, replicator_of}
use Rattle.theory_text.specs.Raw.{RawAlphabetisedParallel, RawCall, RawGeneralisedParallel, RawGuard, RawHiding, RawIf, RawInfix, RawPrefix, RawRenaming, RawReplicated}
use Rattle.theory_checking.specs.Resolving as resolving
use Rattle.csp_events.specs.Events as sets
use Rattle.csp_expression.specs.Expression as terms
use Rattle.csp_term.specs.Field as fields
use Rattle.csp_term.specs.Term as term
use Rattle.csp_term.proofs.Forms as made
use Rattle.csp_names.specs.Walks.{ResolvesProcess}
use Rattle.csp_names.proofs.BindingForms.{channel_stops, channel_there, prefix_body_stops, prefix_channel_stops, prefix_done, prefix_fields_stop, replicated_body_stops, replicated_done, replicated_name_stops, replicated_set_stops}
use Rattle.csp_names.proofs.Forms.{alphabetised_done, alphabetised_left_stops, alphabetised_other_stops, alphabetised_own_stops, alphabetised_right_stops, as_written, expression_stops, expression_there, generalised_done, generalised_left_stops, generalised_right_stops, generalised_set_stops, guard_body_stops, guard_condition_stops, guard_done, hiding_body_stops, hiding_done, hiding_set_stops, if_condition_stops, if_done, if_first_stops, if_second_stops, infix_done, infix_left_stops, infix_right_stops, pairs_stop, pairs_there, renaming_body_stops, renaming_done, renaming_pairs_stop, replicated_term, no_room, set_stops, set_there, skip_resolved, stop_resolved, term_made}
use Rattle.csp_names.proofs.Walking.{handed_on}
use Rattle.csp_names.proofs.WrittenProcesses as written
use Rattle.csp_names.proofs.scope.Scope.+resolve_process.Goals as goal

pub resolve_guard-returns-in_err-condition : goal.resolve_guard-returns-in_err-condition
resolve_guard-returns-in_err-condition g t c =
    let scope = c.args.self.now in
    let old = c.args.bound.now in
    let p = process_of c.args.body.now in
    let e = expression_of c.args.condition.now in
    let f = c.in_err-condition.field-0.0 in
    let whole = RawGuard e p in
    handed_on (ResolvesProcess scope old old whole) c.from_residual.result f c.from_residual.ensures
    (guard_condition_stops scope old old old e p p f (expression_stops scope old e f c.in_err-condition.ensures))

pub resolve_guard-returns-in_err-body : goal.resolve_guard-returns-in_err-body
resolve_guard-returns-in_err-body g t c =
    let scope = c.args.self.now in
    let old = c.args.bound.now in
    let last = c.resolve_process.new.bound in
    let p = process_of c.args.body.now in
    let e = expression_of c.args.condition.now in
    let x = terms.expression_of c.in_ok-condition.condition in
    let there = expression_there scope old e c.in_ok-condition.condition c.in_ok-condition.ensures in
    let f = c.in_err-body.field-0.0 in
    let whole = RawGuard e p in
    handed_on (ResolvesProcess scope old last whole) c.from_residual-in_err-body.result f c.from_residual-in_err-body.ensures
    (guard_body_stops scope old last last e p p x f there c.in_err-body.ensures)

pub resolve_guard-returns : goal.resolve_guard-returns
resolve_guard-returns g t c =
    let scope = c.args.self.now in
    let old = c.args.bound.now in
    let last = c.resolve_process.new.bound in
    let p = process_of c.args.body.now in
    let u = term.process_of c.in_ok-body.body in
    let e = expression_of c.args.condition.now in
    let x = terms.expression_of c.in_ok-condition.condition in
    let there = expression_there scope old e c.in_ok-condition.condition c.in_ok-condition.ensures in
    let whole = RawGuard e p in
    term_made scope old last whole (process.Guard x u) _ c.term.result
    (guard_done scope old last last e p p x u there c.in_ok-body.ensures)
    (made.of_guard g.row.A.Denot c.in_ok-condition.condition c.in_ok-body.body) c.term.ensures.makes c.term.ensures.stops

pub resolve_if-returns-in_err-condition : goal.resolve_if-returns-in_err-condition
resolve_if-returns-in_err-condition g t c =
    let scope = c.args.self.now in
    let old = c.args.bound.now in
    let p = process_of c.args.first.now in
    let q = process_of c.args.second.now in
    let e = expression_of c.args.condition.now in
    let f = c.in_err-condition.field-0.0 in
    let whole = RawIf e p q in
    handed_on (ResolvesProcess scope old old whole) c.from_residual.result f c.from_residual.ensures
    (if_condition_stops scope old old old e p q f (expression_stops scope old e f c.in_err-condition.ensures))

pub resolve_if-returns-in_err-first : goal.resolve_if-returns-in_err-first
resolve_if-returns-in_err-first g t c =
    let scope = c.args.self.now in
    let old = c.args.bound.now in
    let mid = c.resolve_process.new.bound in
    let p = process_of c.args.first.now in
    let q = process_of c.args.second.now in
    let e = expression_of c.args.condition.now in
    let x = terms.expression_of c.in_ok-condition.condition in
    let there = expression_there scope old e c.in_ok-condition.condition c.in_ok-condition.ensures in
    let f = c.in_err-first.field-0.0 in
    let whole = RawIf e p q in
    handed_on (ResolvesProcess scope old mid whole) c.from_residual-in_err-first.result f c.from_residual-in_err-first.ensures
    (if_first_stops scope old mid mid e p q x f there c.in_err-first.ensures)

pub resolve_if-returns-in_err-second : goal.resolve_if-returns-in_err-second
resolve_if-returns-in_err-second g t c =
    let scope = c.args.self.now in
    let old = c.args.bound.now in
    let mid = c.resolve_process.new.bound in
    let last = c.resolve_process-2.new.bound in
    let p = process_of c.args.first.now in
    let q = process_of c.args.second.now in
    let u = term.process_of c.in_ok-first.first in
    let e = expression_of c.args.condition.now in
    let x = terms.expression_of c.in_ok-condition.condition in
    let there = expression_there scope old e c.in_ok-condition.condition c.in_ok-condition.ensures in
    let f = c.in_err-second.field-0.0 in
    let whole = RawIf e p q in
    handed_on (ResolvesProcess scope old last whole) c.from_residual-in_err-second.result f c.from_residual-in_err-second.ensures
    (if_second_stops scope old mid last e p q x u f there c.in_ok-first.ensures c.in_err-second.ensures)

pub resolve_if-returns : goal.resolve_if-returns
resolve_if-returns g t c =
    let scope = c.args.self.now in
    let old = c.args.bound.now in
    let mid = c.resolve_process.new.bound in
    let last = c.resolve_process-2.new.bound in
    let p = process_of c.args.first.now in
    let q = process_of c.args.second.now in
    let u = term.process_of c.in_ok-first.first in
    let v = term.process_of c.in_ok-second.second in
    let e = expression_of c.args.condition.now in
    let x = terms.expression_of c.in_ok-condition.condition in
    let there = expression_there scope old e c.in_ok-condition.condition c.in_ok-condition.ensures in
    let whole = RawIf e p q in
    term_made scope old last whole (process.If x u v) _ c.term.result
    (if_done scope old mid last e p q x u v there c.in_ok-first.ensures c.in_ok-second.ensures)
    (made.of_conditional g.row.A.Denot c.in_ok-condition.condition c.in_ok-first.first c.in_ok-second.second) c.term.ensures.makes c.term.ensures.stops

pub resolve_infix-returns-in_err-left : goal.resolve_infix-returns-in_err-left
resolve_infix-returns-in_err-left g t c =
    let scope = c.args.self.now in
    let old = c.args.bound.now in
    let mid = c.resolve_process.new.bound in
    let p = process_of c.args.left.now in
    let q = process_of c.args.right.now in
    let op = infix_of c.args.operator in
    let f = c.in_err-left.field-0.0 in
    let whole = RawInfix op p q in
    handed_on (ResolvesProcess scope old mid whole) c.from_residual.result f c.from_residual.ensures
    (infix_left_stops scope old mid mid p q op f c.in_err-left.ensures)

pub resolve_infix-returns-in_err-right : goal.resolve_infix-returns-in_err-right
resolve_infix-returns-in_err-right g t c =
    let scope = c.args.self.now in
    let old = c.args.bound.now in
    let mid = c.resolve_process.new.bound in
    let last = c.resolve_process-2.new.bound in
    let p = process_of c.args.left.now in
    let q = process_of c.args.right.now in
    let u = term.process_of c.in_ok-left.left in
    let op = infix_of c.args.operator in
    let f = c.in_err-right.field-0.0 in
    let whole = RawInfix op p q in
    handed_on (ResolvesProcess scope old last whole) c.from_residual-in_err-right.result f c.from_residual-in_err-right.ensures
    (infix_right_stops scope old mid last p q op u f c.in_ok-left.ensures c.in_err-right.ensures)

pub resolve_infix-returns : goal.resolve_infix-returns
resolve_infix-returns g t c =
    let scope = c.args.self.now in
    let old = c.args.bound.now in
    let mid = c.resolve_process.new.bound in
    let last = c.resolve_process-2.new.bound in
    let p = process_of c.args.left.now in
    let q = process_of c.args.right.now in
    let u = term.process_of c.in_ok-left.left in
    let v = term.process_of c.in_ok-right.right in
    let op = infix_of c.args.operator in
    let whole = RawInfix op p q in
    term_made scope old last whole (resolving.infix_process op u v) c.joined.result c.term.result
    (infix_done scope old mid last p q op u v c.in_ok-left.ensures c.in_ok-right.ensures) c.joined.ensures c.term.ensures.makes c.term.ensures.stops

pub resolve_generalised-returns-in_err-left : goal.resolve_generalised-returns-in_err-left
resolve_generalised-returns-in_err-left g t c =
    let scope = c.args.self.now in
    let old = c.args.bound.now in
    let mid = c.resolve_process.new.bound in
    let p = process_of c.args.left.now in
    let q = process_of c.args.right.now in
    let a = event_set_of c.args.shared.now in
    let f = c.in_err-left.field-0.0 in
    let whole = RawGeneralisedParallel p a q in
    handed_on (ResolvesProcess scope old mid whole) c.from_residual.result f c.from_residual.ensures
    (generalised_left_stops scope old mid mid p q a f c.in_err-left.ensures)

pub resolve_generalised-returns-in_err-shared : goal.resolve_generalised-returns-in_err-shared
resolve_generalised-returns-in_err-shared g t c =
    let scope = c.args.self.now in
    let old = c.args.bound.now in
    let mid = c.resolve_process.new.bound in
    let p = process_of c.args.left.now in
    let q = process_of c.args.right.now in
    let u = term.process_of c.in_ok-left.left in
    let a = event_set_of c.args.shared.now in
    let f = c.in_err-shared.field-0.0 in
    let whole = RawGeneralisedParallel p a q in
    handed_on (ResolvesProcess scope old mid whole) c.from_residual-in_err-shared.result f c.from_residual-in_err-shared.ensures
    (generalised_set_stops scope old mid mid p q a u f c.in_ok-left.ensures (set_stops scope mid a f c.in_err-shared.ensures))

pub resolve_generalised-returns-in_err-right : goal.resolve_generalised-returns-in_err-right
resolve_generalised-returns-in_err-right g t c =
    let scope = c.args.self.now in
    let old = c.args.bound.now in
    let mid = c.resolve_process.new.bound in
    let last = c.resolve_process-2.new.bound in
    let p = process_of c.args.left.now in
    let q = process_of c.args.right.now in
    let u = term.process_of c.in_ok-left.left in
    let a = event_set_of c.args.shared.now in
    let x = sets.event_set_of c.in_ok-shared.shared in
    let there = set_there scope mid a c.in_ok-shared.shared c.in_ok-shared.ensures in
    let f = c.in_err-right.field-0.0 in
    let whole = RawGeneralisedParallel p a q in
    handed_on (ResolvesProcess scope old last whole) c.from_residual-in_err-right.result f c.from_residual-in_err-right.ensures
    (generalised_right_stops scope old mid last p q a u x f c.in_ok-left.ensures there c.in_err-right.ensures)

pub resolve_generalised-returns : goal.resolve_generalised-returns
resolve_generalised-returns g t c =
    let scope = c.args.self.now in
    let old = c.args.bound.now in
    let mid = c.resolve_process.new.bound in
    let last = c.resolve_process-2.new.bound in
    let p = process_of c.args.left.now in
    let q = process_of c.args.right.now in
    let u = term.process_of c.in_ok-left.left in
    let v = term.process_of c.in_ok-right.right in
    let a = event_set_of c.args.shared.now in
    let x = sets.event_set_of c.in_ok-shared.shared in
    let there = set_there scope mid a c.in_ok-shared.shared c.in_ok-shared.ensures in
    let whole = RawGeneralisedParallel p a q in
    term_made scope old last whole (process.GeneralisedParallel u x v) _ c.term.result
    (generalised_done scope old mid last p q a u v x c.in_ok-left.ensures there c.in_ok-right.ensures)
    (made.of_generalised g.row.A.Denot c.in_ok-left.left c.in_ok-shared.shared c.in_ok-right.right) c.term.ensures.makes c.term.ensures.stops

pub resolve_alphabetised-returns-in_err-left : goal.resolve_alphabetised-returns-in_err-left
resolve_alphabetised-returns-in_err-left g t c =
    let scope = c.args.self.now in
    let old = c.args.bound.now in
    let mid = c.resolve_process.new.bound in
    let p = process_of c.args.left.now in
    let q = process_of c.args.right.now in
    let a = event_set_of c.args.own.now in
    let b = event_set_of c.args.other.now in
    let f = c.in_err-left.field-0.0 in
    let whole = RawAlphabetisedParallel p a b q in
    handed_on (ResolvesProcess scope old mid whole) c.from_residual.result f c.from_residual.ensures
    (alphabetised_left_stops scope old mid mid p q a b f c.in_err-left.ensures)

pub resolve_alphabetised-returns-in_err-own : goal.resolve_alphabetised-returns-in_err-own
resolve_alphabetised-returns-in_err-own g t c =
    let scope = c.args.self.now in
    let old = c.args.bound.now in
    let mid = c.resolve_process.new.bound in
    let p = process_of c.args.left.now in
    let q = process_of c.args.right.now in
    let u = term.process_of c.in_ok-left.left in
    let a = event_set_of c.args.own.now in
    let b = event_set_of c.args.other.now in
    let f = c.in_err-own.field-0.0 in
    let whole = RawAlphabetisedParallel p a b q in
    handed_on (ResolvesProcess scope old mid whole) c.from_residual-in_err-own.result f c.from_residual-in_err-own.ensures
    (alphabetised_own_stops scope old mid mid p q a b u f c.in_ok-left.ensures (set_stops scope mid a f c.in_err-own.ensures))

pub resolve_alphabetised-returns-in_err-other : goal.resolve_alphabetised-returns-in_err-other
resolve_alphabetised-returns-in_err-other g t c =
    let scope = c.args.self.now in
    let old = c.args.bound.now in
    let mid = c.resolve_process.new.bound in
    let p = process_of c.args.left.now in
    let q = process_of c.args.right.now in
    let u = term.process_of c.in_ok-left.left in
    let a = event_set_of c.args.own.now in
    let b = event_set_of c.args.other.now in
    let x = sets.event_set_of c.in_ok-own.own in
    let there = set_there scope mid a c.in_ok-own.own c.in_ok-own.ensures in
    let f = c.in_err-other.field-0.0 in
    let whole = RawAlphabetisedParallel p a b q in
    handed_on (ResolvesProcess scope old mid whole) c.from_residual-in_err-other.result f c.from_residual-in_err-other.ensures
    (alphabetised_other_stops scope old mid mid p q a b u x f c.in_ok-left.ensures there (set_stops scope mid b f c.in_err-other.ensures))

pub resolve_alphabetised-returns-in_err-right : goal.resolve_alphabetised-returns-in_err-right
resolve_alphabetised-returns-in_err-right g t c =
    let scope = c.args.self.now in
    let old = c.args.bound.now in
    let mid = c.resolve_process.new.bound in
    let last = c.resolve_process-2.new.bound in
    let p = process_of c.args.left.now in
    let q = process_of c.args.right.now in
    let u = term.process_of c.in_ok-left.left in
    let a = event_set_of c.args.own.now in
    let b = event_set_of c.args.other.now in
    let x = sets.event_set_of c.in_ok-own.own in
    let y = sets.event_set_of c.in_ok-other.other in
    let there = set_there scope mid a c.in_ok-own.own c.in_ok-own.ensures in
    let other = set_there scope mid b c.in_ok-other.other c.in_ok-other.ensures in
    let f = c.in_err-right.field-0.0 in
    let whole = RawAlphabetisedParallel p a b q in
    handed_on (ResolvesProcess scope old last whole) c.from_residual-in_err-right.result f c.from_residual-in_err-right.ensures
    (alphabetised_right_stops scope old mid last p q a b u x y f c.in_ok-left.ensures there other c.in_err-right.ensures)

pub resolve_alphabetised-returns : goal.resolve_alphabetised-returns
resolve_alphabetised-returns g t c =
    let scope = c.args.self.now in
    let old = c.args.bound.now in
    let mid = c.resolve_process.new.bound in
    let last = c.resolve_process-2.new.bound in
    let p = process_of c.args.left.now in
    let q = process_of c.args.right.now in
    let u = term.process_of c.in_ok-left.left in
    let v = term.process_of c.in_ok-right.right in
    let a = event_set_of c.args.own.now in
    let b = event_set_of c.args.other.now in
    let x = sets.event_set_of c.in_ok-own.own in
    let y = sets.event_set_of c.in_ok-other.other in
    let there = set_there scope mid a c.in_ok-own.own c.in_ok-own.ensures in
    let other = set_there scope mid b c.in_ok-other.other c.in_ok-other.ensures in
    let whole = RawAlphabetisedParallel p a b q in
    term_made scope old last whole (process.AlphabetisedParallel u x y v) _ c.term.result
    (alphabetised_done scope old mid last p q a b u v x y c.in_ok-left.ensures there other c.in_ok-right.ensures)
    (made.of_alphabetised g.row.A.Denot c.in_ok-left.left c.in_ok-own.own c.in_ok-other.other c.in_ok-right.right) c.term.ensures.makes c.term.ensures.stops

pub resolve_hiding-returns-in_err-body : goal.resolve_hiding-returns-in_err-body
resolve_hiding-returns-in_err-body g t c =
    let scope = c.args.self.now in
    let old = c.args.bound.now in
    let last = c.resolve_process.new.bound in
    let p = process_of c.args.body.now in
    let a = event_set_of c.args.hidden.now in
    let f = c.in_err-body.field-0.0 in
    let whole = RawHiding p a in
    handed_on (ResolvesProcess scope old last whole) c.from_residual.result f c.from_residual.ensures
    (hiding_body_stops scope old last p a f c.in_err-body.ensures)

pub resolve_hiding-returns-in_err-hidden : goal.resolve_hiding-returns-in_err-hidden
resolve_hiding-returns-in_err-hidden g t c =
    let scope = c.args.self.now in
    let old = c.args.bound.now in
    let last = c.resolve_process.new.bound in
    let p = process_of c.args.body.now in
    let u = term.process_of c.in_ok-body.body in
    let a = event_set_of c.args.hidden.now in
    let f = c.in_err-hidden.field-0.0 in
    let whole = RawHiding p a in
    handed_on (ResolvesProcess scope old last whole) c.from_residual-in_err-hidden.result f c.from_residual-in_err-hidden.ensures
    (hiding_set_stops scope old last p a u f c.in_ok-body.ensures (set_stops scope last a f c.in_err-hidden.ensures))

pub resolve_hiding-returns : goal.resolve_hiding-returns
resolve_hiding-returns g t c =
    let scope = c.args.self.now in
    let old = c.args.bound.now in
    let last = c.resolve_process.new.bound in
    let p = process_of c.args.body.now in
    let u = term.process_of c.in_ok-body.body in
    let a = event_set_of c.args.hidden.now in
    let x = sets.event_set_of c.in_ok-hidden.hidden in
    let there = set_there scope last a c.in_ok-hidden.hidden c.in_ok-hidden.ensures in
    let whole = RawHiding p a in
    term_made scope old last whole (process.Hiding u x) _ c.term.result
    (hiding_done scope old last p a u x c.in_ok-body.ensures there)
    (made.of_hiding g.row.A.Denot c.in_ok-body.body c.in_ok-hidden.hidden) c.term.ensures.makes c.term.ensures.stops

pub resolve_renaming-returns-in_err-body : goal.resolve_renaming-returns-in_err-body
resolve_renaming-returns-in_err-body g t c =
    let scope = c.args.self.now in
    let old = c.args.bound.now in
    let last = c.resolve_process.new.bound in
    let p = process_of c.args.body.now in
    let rs = map pair_of c.args.pairs.now in
    let f = c.in_err-body.field-0.0 in
    let whole = RawRenaming p rs in
    handed_on (ResolvesProcess scope old last whole) c.from_residual.result f c.from_residual.ensures
    (renaming_body_stops scope old last p rs f c.in_err-body.ensures)

pub resolve_renaming-returns-in_err-pairs : goal.resolve_renaming-returns-in_err-pairs
resolve_renaming-returns-in_err-pairs g t c =
    let scope = c.args.self.now in
    let old = c.args.bound.now in
    let last = c.resolve_process.new.bound in
    let p = process_of c.args.body.now in
    let u = term.process_of c.in_ok-body.body in
    let rs = map pair_of c.args.pairs.now in
    let f = c.in_err-pairs.field-0.0 in
    let whole = RawRenaming p rs in
    handed_on (ResolvesProcess scope old last whole) c.from_residual-in_err-pairs.result f c.from_residual-in_err-pairs.ensures
    (renaming_pairs_stop scope old last p rs u f c.in_ok-body.ensures (pairs_stop scope last rs f c.in_err-pairs.ensures))

pub resolve_renaming-returns : goal.resolve_renaming-returns
resolve_renaming-returns g t c =
    let scope = c.args.self.now in
    let old = c.args.bound.now in
    let last = c.resolve_process.new.bound in
    let p = process_of c.args.body.now in
    let u = term.process_of c.in_ok-body.body in
    let rs = map pair_of c.args.pairs.now in
    let xs = sets.renaming_pairs_of c.in_ok-pairs.pairs.items in
    let there = pairs_there scope last rs c.in_ok-pairs.pairs c.in_ok-pairs.ensures in
    let whole = RawRenaming p rs in
    term_made scope old last whole (process.Renaming u xs) _ c.term.result
    (renaming_done scope old last p rs u xs c.in_ok-body.ensures there)
    (made.of_renaming g.row.A.Denot c.in_ok-body.body c.in_ok-pairs.pairs) c.term.ensures.makes c.term.ensures.stops

pub resolve_prefix-returns-in_err-channel : goal.resolve_prefix-returns-in_err-channel
resolve_prefix-returns-in_err-channel g t c =
    let scope = c.args.self.now in
    let old = c.args.bound.now in
    let n = name_of c.args.channel in
    let fs = map field_of c.args.fields.now in
    let p = process_of c.args.body.now in
    let f = c.in_err-channel.field-0.0 in
    let whole = RawPrefix n fs p in
    handed_on (ResolvesProcess scope old old whole) c.from_residual.result f c.from_residual.ensures
    (prefix_channel_stops scope old old n fs p f (channel_stops scope old n c.args.fields.now f c.in_err-channel.ensures))

pub resolve_prefix-returns-in_err-resolved : goal.resolve_prefix-returns-in_err-resolved
resolve_prefix-returns-in_err-resolved g t c =
    let scope = c.args.self.now in
    let old = c.args.bound.now in
    let mid = c.resolve_fields.new.bound in
    let n = name_of c.args.channel in
    let fs = map field_of c.args.fields.now in
    let p = process_of c.args.body.now in
    let k = c.in_ok-channel.channel.0 in
    let there = channel_there scope old n c.args.fields.now c.in_ok-channel.channel c.in_ok-channel.ensures in
    let f = c.in_err-resolved.field-0.0 in
    let whole = RawPrefix n fs p in
    handed_on (ResolvesProcess scope old mid whole) c.from_residual-in_err-resolved.result f c.from_residual-in_err-resolved.ensures
    (prefix_fields_stop scope old mid n fs p k f there c.in_err-resolved.ensures)

pub resolve_prefix-returns-in_err-body : goal.resolve_prefix-returns-in_err-body
resolve_prefix-returns-in_err-body g t c =
    let scope = c.args.self.now in
    let old = c.args.bound.now in
    let mid = c.resolve_fields.new.bound in
    let last = c.resolve_process.new.bound in
    let n = name_of c.args.channel in
    let fs = map field_of c.args.fields.now in
    let p = process_of c.args.body.now in
    let k = c.in_ok-channel.channel.0 in
    let xs = fields.fields_of c.in_ok-resolved.resolved.items in
    let there = channel_there scope old n c.args.fields.now c.in_ok-channel.channel c.in_ok-channel.ensures in
    let f = c.in_err-body.field-0.0 in
    let whole = RawPrefix n fs p in
    handed_on (ResolvesProcess scope old last whole) c.from_residual-in_err-body.result f c.from_residual-in_err-body.ensures
    (prefix_body_stops scope old mid n fs p k xs f there c.in_ok-resolved.ensures c.in_err-body.ensures)

pub resolve_prefix-returns-in_err-release_fields : goal.resolve_prefix-returns-in_err-release_fields
resolve_prefix-returns-in_err-release_fields g t c =
    let scope = c.args.self.now in
    let old = c.args.bound.now in
    let new = c.release_fields.new.bound in
    let n = name_of c.args.channel in
    let fs = map field_of c.args.fields.now in
    let p = process_of c.args.body.now in
    let f = c.in_err-release_fields.field-0.0 in
    let whole = RawPrefix n fs p in
    handed_on (ResolvesProcess scope old new whole) c.from_residual-in_err-release_fields.result f c.from_residual-in_err-release_fields.ensures
    (no_room scope old new whole f c.in_err-release_fields.ensures.stops)

pub resolve_prefix-returns : goal.resolve_prefix-returns
resolve_prefix-returns g t c =
    let scope = c.args.self.now in
    let old = c.args.bound.now in
    let mid = c.resolve_fields.new.bound in
    let last = c.resolve_process.new.bound in
    let new = c.release_fields.new.bound in
    let n = name_of c.args.channel in
    let fs = map field_of c.args.fields.now in
    let p = process_of c.args.body.now in
    let k = c.in_ok-channel.channel.0 in
    let xs = fields.fields_of c.in_ok-resolved.resolved.items in
    let u = term.process_of c.in_ok-body.body in
    let there = channel_there scope old n c.args.fields.now c.in_ok-channel.channel c.in_ok-channel.ensures in
    let whole = RawPrefix n fs p in
    term_made scope old new whole (process.Prefix k xs u) _ c.term.result
    (prefix_done scope old mid n fs p last new k xs u there c.in_ok-resolved.ensures c.in_ok-body.ensures c.in_ok-release_fields.ensures.releases)
    (made.of_prefix g.row.A.Denot c.in_ok-channel.channel c.in_ok-resolved.resolved c.in_ok-body.body) c.term.ensures.makes c.term.ensures.stops

pub resolve_replicated-returns-in_err-check_undeclared : goal.resolve_replicated-returns-in_err-check_undeclared
resolve_replicated-returns-in_err-check_undeclared g t c =
    let scope = c.args.self.now in
    let old = c.args.bound.now in
    let op = replicator_of c.args.operator in
    let n = name_of c.args.name in
    let e = expression_of c.args.set.now in
    let p = process_of c.args.body.now in
    let f = c.in_err-check_undeclared.field-0.0 in
    let whole = RawReplicated op n e p in
    handed_on (ResolvesProcess scope old old whole) c.from_residual.result f c.from_residual.ensures
    (replicated_name_stops scope old old op n e p f c.in_err-check_undeclared.ensures)

pub resolve_replicated-returns-in_err-set : goal.resolve_replicated-returns-in_err-set
resolve_replicated-returns-in_err-set g t c =
    let scope = c.args.self.now in
    let old = c.args.bound.now in
    let op = replicator_of c.args.operator in
    let n = name_of c.args.name in
    let e = expression_of c.args.set.now in
    let p = process_of c.args.body.now in
    let f = c.in_err-set.field-0.0 in
    let whole = RawReplicated op n e p in
    handed_on (ResolvesProcess scope old old whole) c.from_residual-in_err-set.result f c.from_residual-in_err-set.ensures
    (replicated_set_stops scope old old op n e p f c.in_ok-check_undeclared.ensures (expression_stops scope old e f c.in_err-set.ensures))

pub resolve_replicated-returns-in_err-bound_name : goal.resolve_replicated-returns-in_err-bound_name
resolve_replicated-returns-in_err-bound_name g t c =
    let scope = c.args.self.now in
    let old = c.args.bound.now in
    let mid = c.bind.new.self in
    let op = replicator_of c.args.operator in
    let n = name_of c.args.name in
    let e = expression_of c.args.set.now in
    let p = process_of c.args.body.now in
    let f = c.in_err-bound_name.field-0.0 in
    let whole = RawReplicated op n e p in
    handed_on (ResolvesProcess scope old mid whole) c.from_residual-in_err-bound_name.result f c.from_residual-in_err-bound_name.ensures
    (no_room scope old mid whole f c.in_err-bound_name.ensures.stops)

pub resolve_replicated-returns-in_err-body : goal.resolve_replicated-returns-in_err-body
resolve_replicated-returns-in_err-body g t c =
    let scope = c.args.self.now in
    let old = c.args.bound.now in
    let mid = c.bind.new.self in
    let last = c.resolve_process.new.bound in
    let op = replicator_of c.args.operator in
    let n = name_of c.args.name in
    let e = expression_of c.args.set.now in
    let p = process_of c.args.body.now in
    let k = c.in_ok-bound_name.bound_name.0 in
    let x = terms.expression_of c.in_ok-set.set in
    let there = expression_there scope old e c.in_ok-set.set c.in_ok-set.ensures in
    let f = c.in_err-body.field-0.0 in
    let whole = RawReplicated op n e p in
    handed_on (ResolvesProcess scope old last whole) c.from_residual-in_err-body.result f c.from_residual-in_err-body.ensures
    (replicated_body_stops scope old mid op n e p k x c.in_ok-check_undeclared.ensures there c.in_ok-bound_name.ensures.number c.in_ok-bound_name.ensures.binds f c.in_err-body.ensures)

pub resolve_replicated-returns-in_err-release : goal.resolve_replicated-returns-in_err-release
resolve_replicated-returns-in_err-release g t c =
    let scope = c.args.self.now in
    let old = c.args.bound.now in
    let new = c.release.new.self in
    let op = replicator_of c.args.operator in
    let n = name_of c.args.name in
    let e = expression_of c.args.set.now in
    let p = process_of c.args.body.now in
    let f = c.in_err-release.field-0.0 in
    let whole = RawReplicated op n e p in
    handed_on (ResolvesProcess scope old new whole) c.from_residual-in_err-release.result f c.from_residual-in_err-release.ensures
    (no_room scope old new whole f c.in_err-release.ensures.stops)

pub resolve_replicated-returns : goal.resolve_replicated-returns
resolve_replicated-returns g t c =
    let scope = c.args.self.now in
    let old = c.args.bound.now in
    let mid = c.bind.new.self in
    let last = c.resolve_process.new.bound in
    let new = c.release.new.self in
    let op = replicator_of c.args.operator in
    let n = name_of c.args.name in
    let e = expression_of c.args.set.now in
    let p = process_of c.args.body.now in
    let k = c.in_ok-bound_name.bound_name.0 in
    let x = terms.expression_of c.in_ok-set.set in
    let u = term.process_of c.in_ok-body.body in
    let there = expression_there scope old e c.in_ok-set.set c.in_ok-set.ensures in
    let whole = RawReplicated op n e p in
    term_made scope old new whole (resolving.replicated_process op k x u) _ c.term.result
    (replicated_done scope old mid op n e p k x c.in_ok-check_undeclared.ensures there c.in_ok-bound_name.ensures.number c.in_ok-bound_name.ensures.binds last new u c.in_ok-body.ensures c.in_ok-release.ensures.releases)
    (made.of_replicated g.row.A.Denot c.args.operator c.in_ok-bound_name.bound_name c.in_ok-set.set c.in_ok-body.body ∙ replicated_term c.args.operator k x u) c.term.ensures.makes c.term.ensures.stops

pub resolve_process-returns-in-Stop : goal.resolve_process-returns-in-Stop
resolve_process-returns-in-Stop g t c =
    stop_resolved c.args.self.now c.args.bound.now (process_of c.args.process.now) _ c.term.result (written.of_stop c.args.process.now c.in-Stop.is) (made.of_stop g.row.A.Denot) c.term.ensures.makes c.term.ensures.stops

pub resolve_process-returns-in-Skip : goal.resolve_process-returns-in-Skip
resolve_process-returns-in-Skip g t c =
    skip_resolved c.args.self.now c.args.bound.now (process_of c.args.process.now) _ c.term-in-Skip.result (written.of_skip c.args.process.now c.in-Skip.is) (made.of_skip g.row.A.Denot) c.term-in-Skip.ensures.makes c.term-in-Skip.ensures.stops

pub resolve_process-returns-in-Call : goal.resolve_process-returns-in-Call
resolve_process-returns-in-Call g t c =
    let p = c.args.process.now in
    let es = c.deref.result.now in
    let call = RawCall (name_of c.in-Call.name) (expressions_of es) in
    as_written c.args.self.now c.args.bound.now c.resolve_call.new.bound (process_of p) call c.resolve_call.result (written.of_call p c.in-Call.name c.in-Call.arguments es c.in-Call.is c.deref.ensures.value) c.resolve_call.ensures

pub resolve_process-returns-in-Prefix : goal.resolve_process-returns-in-Prefix
resolve_process-returns-in-Prefix g t c =
    let p = c.args.process.now in
    let fs = c.deref-in-Prefix.result.now in
    let body = c.deref-in-Prefix-2.result.now in
    let prefix = RawPrefix (name_of c.in-Prefix.channel) (map field_of fs) (process_of body) in
    as_written c.args.self.now c.args.bound.now c.resolve_prefix.new.bound (process_of p) prefix c.resolve_prefix.result
    (written.of_prefix p c.in-Prefix.channel c.in-Prefix.fields c.in-Prefix.body fs body c.in-Prefix.is c.deref-in-Prefix.ensures.value c.deref-in-Prefix-2.ensures) c.resolve_prefix.ensures

pub resolve_process-returns-in-Renaming : goal.resolve_process-returns-in-Renaming
resolve_process-returns-in-Renaming g t c =
    let p = c.args.process.now in
    let body = c.deref-in-Renaming.result.now in
    let rs = c.deref-in-Renaming-2.result.now in
    let renaming = RawRenaming (process_of body) (map pair_of rs) in
    as_written c.args.self.now c.args.bound.now c.resolve_renaming.new.bound (process_of p) renaming c.resolve_renaming.result
    (written.of_renaming p c.in-Renaming.body c.in-Renaming.pairs body rs c.in-Renaming.is c.deref-in-Renaming.ensures c.deref-in-Renaming-2.ensures.value) c.resolve_renaming.ensures
