-- The line of one fault more.
use Rattle.std.proofs.Common.{◌∙◌, arith}
use Rattle.std.specs.String.{string_bytes}
use Rattle.csp_lex.specs.declared.refusals.TextFault.TheVariants.{NoToken}
use Rattle.diagnostics.specs.declared.faults.Fault.TheVariants.{Text}
use Rattle.diagnostics.specs.declared.faults.TheConstants.Fault.{ALL}
use Rattle.diagnostics.specs.Faults.{list_line}
use Rattle.diagnostics.proofs.Telling.{one_more_line}
use Rattle.diagnostics.proofs.faults.refusal_list.Goals as goal

pub loop-fault-preserved : goal.loop-fault-preserved
loop-fault-preserved g c =
    one_more_line list_line ALL c.loop-fault.fault-index (Text NoToken) (string_bytes c.loop-fault.list) (string_bytes c.push_str.new.self) c.deref.result.now (omega arith) c.loop-fault.invariant
    (c.deref.ensures ∙ c.in_ok-line.ensures) c.in_ok-push_str.ensures.bytes
