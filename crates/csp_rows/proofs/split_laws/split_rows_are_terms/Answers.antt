use Rattle.csp_rows.proofs.Apart.{split_terms}
use Rattle.csp_rows.proofs.split_laws.split_rows_are_terms.Goals as goal

pub returns : goal.returns
returns g c = λ z s parts bytes numbers places known spellable by_shape is. split_terms z parts known s bytes numbers places spellable by_shape is
