-- Lists of renaming pairs are the same where their order ties.
use Rattle.std.proofs.Common.{◌≡◌, Bool, List, sym, ◌∙◌, ap, IsTrue, ◌↔◌}
use Rattle.std.specs.Cmp.Lexicographic.{slice_cmp}
use Rattle.std.specs.Ordering.{is_eq}
use Rattle.theory_syntax.specs.Order.{pair_cmp}
use Rattle.theory_syntax.specs.Process.{Renaming, RenamingPair, Stop}
use Rattle.theory_syntax.proofs.Equalities.{is_eq-Equal}
use Rattle.theory_syntax.proofs.ProcessOrder.{process_refl, process_same}

pub pairs_decided : (rs ss : List RenamingPair) (r : Bool) → r ≡ is_eq (slice_cmp pair_cmp rs ss) → IsTrue r ↔ (rs ≡ ss)
pairs_decided rs ss r is = (
  λ e. let same : Renaming Stop rs ≡ Renaming Stop ss = process_same (Renaming Stop rs) (Renaming Stop ss) (is_eq-Equal (slice_cmp pair_cmp rs ss) (sym is ∙ e)) in cc same,
  λ e. is ∙ ap is_eq (ap (slice_cmp pair_cmp rs) (sym e) ∙ process_refl (Renaming Stop rs)),
)
