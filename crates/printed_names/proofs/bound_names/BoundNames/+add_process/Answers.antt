use Rattle.std.proofs.Common.{◌++◌, ap, map, sym}
use Rattle.theory_checking.specs.Names.{bound_by_fields, bound_in}
use Rattle.csp_parse.specs.Processes.{field_of, process_of}
use Rattle.csp_names.proofs.WrittenProcesses.{of_prefix}
use Rattle.printed_names.proofs.Meeting.{as_written, in_turn}
use Rattle.printed_names.proofs.bound_names.BoundNames.+add_process.Goals as goal

pub add_both-returns : goal.add_both-returns
add_both-returns g t c =
    in_turn c.add_process-2.result c.args.self.now c.add_process.new.self c.add_process-2.new.self (bound_in (process_of c.args.left.now)) (bound_in (process_of c.args.right.now))
    c.in_ok-add_process.ensures c.add_process-2.ensures

pub add_process-returns-in_ok-add_fields-in-Prefix : goal.add_process-returns-in_ok-add_fields-in-Prefix
add_process-returns-in_ok-add_fields-in-Prefix g t c =
    let p = c.args.process.now in
    let fields = c.deref.result.now in
    let body = c.deref-in-Prefix.result.now in
    let first = bound_by_fields (map field_of fields) in
    let second = bound_in (process_of body) in
    as_written c.add_process.result c.args.self.now c.add_process.new.self (first ++ second) (bound_in (process_of p))
    (sym (ap bound_in (of_prefix p c.in-Prefix.field-0 c.in-Prefix.fields c.in-Prefix.body fields body c.in-Prefix.is c.deref.ensures.value c.deref-in-Prefix.ensures)))
    (in_turn c.add_process.result c.args.self.now c.add_fields.new.self c.add_process.new.self first second c.in_ok-add_fields-in-Prefix.ensures c.add_process.ensures)
