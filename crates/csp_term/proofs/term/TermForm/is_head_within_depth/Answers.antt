-- How deep the parts at the head are.
use Rattle.std.proofs.Common.{sym, ◌∙◌, ap}
use Rattle.csp_term.specs.Own.{own_depth}
use Rattle.csp_term.specs.Term.{process_of_form}
use Rattle.csp_term.proofs.Forms.{of_call, of_prefix, of_renaming}
use Rattle.csp_expression.proofs.Measures.{depths}
use Rattle.csp_events.proofs.EventMeasures.{pair_depths}
use Rattle.csp_term.proofs.FieldMeasures.{field_depths}
use Rattle.csp_term.proofs.TermMeasures.{bare_depth, bare_within, same_within}
use Rattle.csp_term.proofs.term.TermForm.is_head_within_depth.Goals as goal

pub returns-in-Stop : goal.returns-in-Stop
returns-in-Stop g c = bare_within (own_depth (process_of_form c.args.self.now)) c.args.most (bare_depth c.args.self.now c.in-Stop.is)

pub returns-in-Call : goal.returns-in-Call
returns-in-Call g c =
    let is = ap own_depth (ap process_of_form c.in-Call.is ∙ of_call g.row.A.Denot c.in-Call.field-0 c.in-Call.arguments) ∙ ap depths (sym c.deref.ensures.value) in
    same_within c.are_within_depth.result (depths c.deref.result.now) (own_depth (process_of_form c.args.self.now)) c.args.most is c.are_within_depth.ensures

pub returns-in-Prefix : goal.returns-in-Prefix
returns-in-Prefix g c =
    let is = ap own_depth (ap process_of_form c.in-Prefix.is ∙ of_prefix g.row.A.Denot c.in-Prefix.field-0 c.in-Prefix.fields c.in-Prefix.field-2) ∙ ap field_depths (sym c.deref-in-Prefix.ensures.value) in
    same_within c.are_fields_within_depth.result (field_depths c.deref-in-Prefix.result.now) (own_depth (process_of_form c.args.self.now)) c.args.most is c.are_fields_within_depth.ensures

pub returns-in-Renaming : goal.returns-in-Renaming
returns-in-Renaming g c =
    let is = ap own_depth (ap process_of_form c.in-Renaming.is ∙ of_renaming g.row.A.Denot c.in-Renaming.field-0 c.in-Renaming.pairs) ∙ ap pair_depths (sym c.deref-in-Renaming.ensures.value) in
    same_within c.are_pairs_within_depth.result (pair_depths c.deref-in-Renaming.result.now) (own_depth (process_of_form c.args.self.now)) c.args.most is c.are_pairs_within_depth.ensures
