-- Kinds of taus and ways of telling, as those of the code stand for them.
use Rattle.std.specs.Prelude.{ℕ, List, map}
use Rattle.theory_explanation.specs.Folding as pure
use Rattle.csp_term.specs.declared.name.EquationId.{EquationId}
use Rattle.counterexample.specs.declared.kind.Kind.{Kind}
use Rattle.counterexample.specs.declared.kind.Kind.TheVariants as kind
use Rattle.counterexample.specs.declared.telling.Telling.{Telling}
use Rattle.counterexample.specs.declared.telling.Telling.TheVariants as telling

abbrev pub telling_of : Telling → pure.Telling
telling_of telling.EachStep = pure.EachStep
telling_of telling.Folded = pure.Folded
telling_of telling.ByEvents = pure.ByEvents

abbrev pub kind_of : Kind → pure.Kind
kind_of (kind.Unfolding n) = pure.Unfolding n.0
kind_of kind.Hiding = pure.Hiding
kind_of kind.Other = pure.Other

abbrev pub equations_listed : List EquationId → List ℕ
equations_listed ns = map (λ n. n.0) ns
