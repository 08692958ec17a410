-- Comparing two values is comparing what they stand for.
use denote.RattleType
use mir.Syntax
use Rattle.std.proofs.Common.{◌≡◌, ◌∙◌, ap}
use Rattle.std.specs.declared.alloc.Allocator as allocator
use Rattle.std.specs.Ordering.{is_eq}
use Rattle.theory_syntax.specs.Value as pure
use Rattle.csp_value.specs.declared.value.Value.{Value}
use Rattle.csp_value.specs.contracts.value.ValueOrd.TheImpl.Laws as laws
use Rattle.csp_value.specs.Value.{value_of}
use Rattle.csp_value.proofs.Equality.{value_eq}
use Rattle.csp_value.proofs.ValueOrder.{ordered}

module _ (R : RattleType.RattleType) (A : allocator.Ghosts R.Denot) (ad dd : Syntax.Dict) where
  pub same_test : (x y : Value R.Denot) → value_eq R A ad dd x y ≡ pure.value_eq (value_of x) (value_of y)
  same_test x y = laws.matches_eq-law R A ad dd x y ∙ ap is_eq (ordered R A ad dd x y)
