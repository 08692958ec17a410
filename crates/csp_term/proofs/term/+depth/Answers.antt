-- How deep the parts of a term are.
use Rattle.std.proofs.Common.{max}
use Rattle.theory_semantics.specs.Meaning.Limits.{depth}
use Rattle.csp_value.proofs.Walking.{told_beyond, told_within}
use Rattle.csp_term.specs.Own.{own_depth}
use Rattle.csp_term.specs.Term.{process_of, process_of_form}
use Rattle.csp_term.proofs.TermMeasures.{within_form, within_both, beyond_first, head_alone, head_beyond, own_depth_below, over_none_depth, over_one_depth, over_two_depth}
use Rattle.csp_term.proofs.term.+depth.Goals as goal

pub TermForm::are_parts_within_depth-returns-then-not-is_head_within_depth : goal.TermForm::are_parts_within_depth-returns-then-not-is_head_within_depth
TermForm::are_parts_within_depth-returns-then-not-is_head_within_depth g t c =
    head_beyond (own_depth (process_of_form c.args.self.now)) (depth (process_of_form c.args.self.now)) c.args.most (own_depth_below (process_of_form c.args.self.now))
    (told_beyond c.is_head_within_depth.result _ c.is_head_within_depth.ensures c.if-not-is_head_within_depth.true)

pub TermForm::are_parts_within_depth-returns-in-Stop : goal.TermForm::are_parts_within_depth-returns-in-Stop
TermForm::are_parts_within_depth-returns-in-Stop g t c =
    head_alone (own_depth (process_of_form c.args.self.now)) (depth (process_of_form c.args.self.now)) c.args.most (over_none_depth c.args.self.now c.in-Stop.is)
    (told_within c.is_head_within_depth.result _ c.is_head_within_depth.ensures c.if-not-is_head_within_depth.false)

pub TermForm::are_parts_within_depth-returns-in-Prefix : goal.TermForm::are_parts_within_depth-returns-in-Prefix
TermForm::are_parts_within_depth-returns-in-Prefix g t c =
    let head = own_depth (process_of_form c.args.self.now) in
    let body = depth (process_of c.in-Prefix.body) in
    within_form c.is_within_depth-in-Prefix.result (max head body) (depth (process_of_form c.args.self.now)) c.args.most (over_one_depth c.args.self.now c.in-Prefix.body c.in-Prefix.is)
    (within_both c.is_within_depth-in-Prefix.result head body c.args.most (told_within c.is_head_within_depth.result _ c.is_head_within_depth.ensures c.if-not-is_head_within_depth.false) c.is_within_depth-in-Prefix.ensures)

pub TermForm::are_parts_within_depth-returns-then-is_within_depth : goal.TermForm::are_parts_within_depth-returns-then-is_within_depth
TermForm::are_parts_within_depth-returns-then-is_within_depth g t c =
    let head = own_depth (process_of_form c.args.self.now) in
    let left = depth (process_of c.in-If.left) in
    let right = depth (process_of c.in-If.right) in
    let result = c.is_within_depth-then-is_within_depth.result in
    within_form result (max head (max left right)) (depth (process_of_form c.args.self.now)) c.args.most (over_two_depth c.args.self.now c.in-If.left c.in-If.right c.in-If.is)
    (within_both result head (max left right) c.args.most (told_within c.is_head_within_depth.result _ c.is_head_within_depth.ensures c.if-not-is_head_within_depth.false)
    (within_both result left right c.args.most (told_within c.is_within_depth.result _ c.is_within_depth.ensures c.if-is_within_depth.true) c.is_within_depth-then-is_within_depth.ensures))

pub TermForm::are_parts_within_depth-returns-else-is_within_depth : goal.TermForm::are_parts_within_depth-returns-else-is_within_depth
TermForm::are_parts_within_depth-returns-else-is_within_depth g t c =
    let head = own_depth (process_of_form c.args.self.now) in
    let left = depth (process_of c.in-If.left) in
    let right = depth (process_of c.in-If.right) in
    let result = c.is_within_depth.result in
    within_form result (max head (max left right)) (depth (process_of_form c.args.self.now)) c.args.most (over_two_depth c.args.self.now c.in-If.left c.in-If.right c.in-If.is)
    (within_both result head (max left right) c.args.most (told_within c.is_head_within_depth.result _ c.is_head_within_depth.ensures c.if-not-is_head_within_depth.false)
    (beyond_first result left right c.args.most c.if-is_within_depth.false c.is_within_depth.ensures))
