-- What is to blame, as that of the code stands for it.
use Rattle.std.specs.Prelude.{◌≡◌, Option, Some, None, Result, IfOk}
use Rattle.theory_faults.specs.Culprit as pure
use Rattle.csp_value.specs.declared.memory.Memory.{Memory}
use Rattle.csp_value.specs.Value.{value_of}
use Rattle.csp_expression.specs.Cause.{cause_of}
use Rattle.csp_expression.specs.Expression.{expression_of}
use Rattle.csp_faults.specs.declared.culprit.Culprit.{Culprit}
use Rattle.csp_faults.specs.declared.culprit.Culprit.TheVariants as variant
use Rattle.csp_faults.specs.declared.culprit.Owner.{Owner}
use Rattle.csp_faults.specs.declared.culprit.Owner.TheVariants as owner

abbrev pub owner_of : Owner → pure.Owner
owner_of (owner.Channel c) = pure.OfChannel c.0
owner_of (owner.Constructor k) = pure.OfConstructor k.0

abbrev pub culprit_of : {A : Type 0} → Culprit A → pure.Culprit
culprit_of (variant.Valueless e c) = pure.Valueless (expression_of e) (cause_of c)
culprit_of (variant.Outside o n v) = pure.Outside (owner_of o) n (value_of v)
culprit_of (variant.NoChoice n e) = pure.NoChoice n.0 (expression_of e)
culprit_of variant.Misfit = pure.Misfit

-- what was found, if anything
abbrev pub found_of : {A : Type 0} → Option (Culprit A) → Option pure.Culprit
found_of (Some k) = Some (culprit_of k)
found_of None = None

-- this is what was found. Refused memory says nothing.
abbrev pub Finds : {A : Type 0} → Result (Option (Culprit A)) Memory → Option pure.Culprit → Type 0
Finds result o = IfOk result (λ found. found_of found ≡ o)
