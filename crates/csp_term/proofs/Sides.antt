-- Each side that an assertion of a checked script has is a term of it.
use Rattle.std.proofs.Common.{zero, suc, List, [], ◌∷◌, map, Option, Some, None, IfSome, arith}
use Rattle.std.specs.List.{All}
use Rattle.theory_syntax.specs.Process as pure
use Rattle.theory_semantics.specs.Kinds.Kind.{Kinds, Each}
use Rattle.theory_semantics.specs.Kinds.Processes.{IsClosedTerm}
use Rattle.theory_semantics.specs.Kinds.Scripts.{IsTermOf, IsWellKindedAssertion, IsWellKindedScript}
use Rattle.csp_term.specs.declared.assertion.Assertion.{Assertion}
use Rattle.csp_term.specs.Script.{HasSidesOf, assertion_of, property_of}

has_side : (s : pure.Script) (kinds : Kinds) → IsWellKindedScript s kinds → (spec : Option pure.Process) → IfSome spec (IsClosedTerm s kinds) → IfSome spec (IsTermOf s)
has_side s kinds good None h = tt
has_side s kinds good (Some t) h = (kinds, good, h)

pub have_sides : {A : Type 0} (s : pure.Script) (kinds : Kinds) → IsWellKindedScript s kinds → (xs : List (Assertion A)) → Each (IsWellKindedAssertion s kinds) (map assertion_of xs) → All (HasSidesOf s) xs
have_sides s kinds good [] h k d within = absurd (omega (arith, within))
have_sides s kinds good (x ∷ xs) h zero d within = (has_side s kinds good (pure.specification_of (property_of x.property)) h.0.specification, (kinds, good, h.0.implementation))
have_sides s kinds good (x ∷ xs) h (suc k) d within = have_sides s kinds good xs h.1 k d (omega (arith, within))
