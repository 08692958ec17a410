use Rattle.theory_rows.proofs.Bits.{enough_accepts, lies_exactly, offer_by_numbers, some_exactly}
use Rattle.theory_rows.proofs.unordered.acceptances_are_bits.Goals as goal

pub returns : goal.returns
returns c = record {
  steps = offer_by_numbers;
  within = λ z a b xs ys left right. lies_exactly z a b xs ys left right;
  some = λ z o xs kept lists is are. some_exactly z o xs is kept lists are;
  node = enough_accepts;
}
