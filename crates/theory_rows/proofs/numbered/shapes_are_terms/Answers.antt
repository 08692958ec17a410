use Rattle.std.proofs.Common.{[]}
use Rattle.theory_shapes.proofs.Spelled.{spelled_whole}
use Rattle.theory_rows.proofs.Bare.{bare_fits, bare_shape, bare_spellable, one_bare}
use Rattle.theory_rows.proofs.numbered.shapes_are_terms.Goals as goal

pub returns : goal.returns
returns c = record { shape = bare_shape; one = one_bare; fits = bare_fits; spellable = bare_spellable; spelled = λ s. spelled_whole s [] }
