-- A total order that ties exactly where a test is true, which tells what two things stand for.
use Rattle.std.proofs.Common.{◌≡◌, ◌↔◌, Bool, sym, ◌∙◌, ap}
use Rattle.std.specs.Cmp.{IsTotalOrder, alike_right}
use Rattle.std.specs.declared.cmp.Ordering.{Ordering}
use Rattle.std.specs.declared.cmp.Ordering.TheVariants.{Equal}
use Rattle.std.specs.Ordering.{is_eq}
use Rattle.theory_syntax.proofs.Equalities.{is_eq-Equal}
use Rattle.csp_value.proofs.Sameness.{Tells}

module _ {X Y : Type 0} (R : X → X → Ordering) (order : IsTotalOrder R) (test : X → X → Bool) (matches : (x y : X) → test x y ≡ is_eq (R x y)) (meaning : X → Y) (tells : Tells test meaning) where
  alike : (x y : X) → meaning x ≡ meaning y → R x y ≡ Equal
  alike x y same = is_eq-Equal (R x y) (sym (matches x y) ∙ tells.complete x y same)

  -- it ties exactly where both stand for the same
  pub ties : (x y : X) → (R x y ≡ Equal) ↔ (meaning x ≡ meaning y)
  ties x y = (λ tie. tells.sound x y (matches x y ∙ ap is_eq tie), alike x y)

  -- and answers the same of any two that stand for the same
  pub same_order : (x y u v : X) → meaning u ≡ meaning x → meaning v ≡ meaning y → R x y ≡ R u v
  same_order x y u v left right = order.congr x u y (alike x u (sym left)) ∙ alike_right order y v u (alike y v (sym right))
