use Rattle.std.proofs.Common.{◌∙◌, ap}
use Rattle.std.proofs.lemmas.Result.{IfOk-weaker}
use Rattle.csp_inference.specs.Known.{column_of}
use Rattle.csp_inference.specs.TreeNumbers.{IsColumnFound, IsFound, number_rows}
use Rattle.csp_inference.proofs.Columns.{rows_between}
use Rattle.csp_inference.proofs.fitted_sets.numbers_in.Goals as goal

pub returns : goal.returns
returns g c =
    let rows = rows_between c.args.channels.now c.split_at.result.1.now c.split_at-2.result.0.now c.args.column.first c.args.column.channels c.split_at.ensures.back c.split_at-2.ensures.front in
    IfOk-weaker c.numbers_of_field.result (IsFound c.args.column.field (number_rows c.split_at-2.result.0.now))
    (IsColumnFound c.args.column c.args.channels.now) (λ found h le. h ∙ ap (column_of c.args.column.field) rows) c.numbers_of_field.ensures
