-- What stands where an operand or an expression begins, as the definitions have it.
use Rattle.theory_reader.specs.Forms.{StartTree, StartName, StartExpression, StartBase, StartOperand, InnerTree, InnerName, InnerExpression, InnerProcess}
use Rattle.csp_parse.specs.declared.starts.Start.{Start}
use Rattle.csp_parse.specs.declared.starts.Start.TheVariants as start
use Rattle.csp_parse.specs.declared.starts.Inner.{Inner}
use Rattle.csp_parse.specs.declared.starts.Inner.TheVariants as inner
use Rattle.csp_parse.specs.Expressions.{expression_of}
use Rattle.csp_parse.specs.Names.{name_of}
use Rattle.csp_parse.specs.Processes.{process_in}

abbrev pub start_of : {A : Type 0} → Start A → StartTree
start_of (start.Name n) = StartName (name_of n)
start_of (start.Expression e) = StartExpression (expression_of e)
start_of (start.Base p) = StartBase (process_in p)
start_of (start.Operand p) = StartOperand (process_in p)

abbrev pub inner_of : {A : Type 0} → Inner A → InnerTree
inner_of (inner.Name n) = InnerName (name_of n)
inner_of (inner.Expression e) = InnerExpression (expression_of e)
inner_of (inner.Process p) = InnerProcess (process_in p)
