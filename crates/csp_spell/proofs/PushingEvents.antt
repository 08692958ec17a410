-- The parts of a set of events under an operator.
use Rattle.std.proofs.Common.{◌≡◌, ◌+◌, ◌∷◌, ◌++◌, refl, ap, ◌∙◌}
use Rattle.theory_syntax.specs.Process.{EventSet}
use Rattle.theory_semantics.specs.Meaning.Limits.{event_set_size}
use Rattle.theory_spelling.specs.Spelling.{event_set_spelling}
use Rattle.theory_spelling.specs.Packable.{IsPackableEventSet}
use Rattle.theory_spelling.specs.Ranges.{IsInRangeEventSet}
use Rattle.theory_syntax.specs.declared.event_set_operator.EventSetOperator.{EventSetOperator}
use Rattle.theory_syntax.specs.declared.event_set_operator.EventSetOperator.TheVariants as operator
use Rattle.theory_syntax.specs.Operators.{combined}
use Rattle.csp_spell.specs.Tags.{event_set_tag}

pub spelled_combined : (op : EventSetOperator) (a b : EventSet) → event_set_spelling (combined op a b) ≡ event_set_tag op ∷ (event_set_spelling a ++ event_set_spelling b)
spelled_combined operator.Union a b = refl
spelled_combined operator.Intersection a b = refl
spelled_combined operator.Difference a b = refl

size_combined : (op : EventSetOperator) (a b : EventSet) → event_set_size (combined op a b) ≡ 1 + (event_set_size a + event_set_size b)
size_combined operator.Union a b = refl
size_combined operator.Intersection a b = refl
size_combined operator.Difference a b = refl

pub smaller_combined : (op : EventSetOperator) (s a b : EventSet) → s ≡ combined op a b → event_set_size s ≡ 1 + (event_set_size a + event_set_size b)
smaller_combined op s a b is = ap event_set_size is ∙ size_combined op a b

pub left_packable : (op : EventSetOperator) (a b : EventSet) → IsPackableEventSet (combined op a b) → IsPackableEventSet a
left_packable operator.Union a b fits = fits.0
left_packable operator.Intersection a b fits = fits.0
left_packable operator.Difference a b fits = fits.0

pub right_packable : (op : EventSetOperator) (a b : EventSet) → IsPackableEventSet (combined op a b) → IsPackableEventSet b
right_packable operator.Union a b fits = fits.1
right_packable operator.Intersection a b fits = fits.1
right_packable operator.Difference a b fits = fits.1

pub ranged_combined : (op : EventSetOperator) (a b : EventSet) → IsInRangeEventSet a → IsInRangeEventSet b → IsInRangeEventSet (combined op a b)
ranged_combined operator.Union a b h k = (h, k)
ranged_combined operator.Intersection a b h k = (h, k)
ranged_combined operator.Difference a b h k = (h, k)
