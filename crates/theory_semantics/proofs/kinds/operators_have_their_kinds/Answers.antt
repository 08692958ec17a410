use Rattle.theory_semantics.specs.Meaning.Evaluation.{apply, combine, range_of}
use Rattle.theory_semantics.specs.Kinds.Kind.{IntKind, SetKind}
use Rattle.theory_semantics.specs.Kinds.Values.{IsValueOf}
use Rattle.theory_semantics.proofs.Misfits.{gives_value, gives_no_misfit}
use Rattle.theory_semantics.proofs.KindedValues.{apply_kind, combine_kind, range_of_kind}
use Rattle.theory_semantics.proofs.kinds.operators_have_their_kinds.Goals as goal

pub returns-clause-unary : goal.returns-clause-unary
returns-clause-unary c = λ types kinds op m k fit v w h is. gives_value (λ u. IsValueOf types kinds u k) (apply op v) w (apply_kind types kinds op m k fit v h) is

pub returns-clause-unary_no_misfit : goal.returns-clause-unary_no_misfit
returns-clause-unary_no_misfit c = λ types kinds op m k fit v h. gives_no_misfit (λ u. IsValueOf types kinds u k) (apply op v) (apply_kind types kinds op m k fit v h)

pub returns-clause-binary : goal.returns-clause-binary
returns-clause-binary c = λ types kinds op m n k fit v w u g h is. gives_value (λ z. IsValueOf types kinds z k) (combine op v w) u (combine_kind types kinds op m n k fit v w g h) is

pub returns-clause-binary_no_misfit : goal.returns-clause-binary_no_misfit
returns-clause-binary_no_misfit c = λ types kinds op m n k fit v w g h. gives_no_misfit (λ z. IsValueOf types kinds z k) (combine op v w) (combine_kind types kinds op m n k fit v w g h)

pub returns-clause-ranges : goal.returns-clause-ranges
returns-clause-ranges c = λ types kinds v w g h. gives_no_misfit (λ z. IsValueOf types kinds z (SetKind IntKind)) (range_of v w) (range_of_kind types kinds v w g h)
