use Rattle.csp_rows.proofs.RowsOfParts.{runs_there, shape_spellable, size_told, taken_apart}
use Rattle.csp_rows.proofs.row_laws.terms_are_rows_of_their_parts.Goals as goal

pub returns-clause-taken_apart : goal.returns-clause-taken_apart
returns-clause-taken_apart g c = λ z t row same. taken_apart z t row same

pub returns-clause-runs : goal.returns-clause-runs
returns-clause-runs g c = λ z t row places same are. runs_there z t row places same are

pub returns-clause-size : goal.returns-clause-size
returns-clause-size g c = λ z s row parts are known long. size_told z parts are s row known long

pub returns-clause-spellable : goal.returns-clause-spellable
returns-clause-spellable g c = λ t spellable. shape_spellable t spellable
