use Rattle.theory_rows.proofs.Keys.{distinct_pairs, same_key, stored_keys}
use Rattle.theory_rows.proofs.numbered.pairs_are_known_by_keys.Goals as goal

pub returns : goal.returns
returns c = record {
  same = same_key;
  distinct = λ t keys rows are keep. distinct_pairs t keys rows are keep;
  stored = λ t keys rows k are keep is. stored_keys t keys rows are keep k is;
}
