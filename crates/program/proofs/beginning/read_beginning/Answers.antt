use Rattle.std.proofs.Common.{◌≡◌, List, ℕ, IfSome, take, rules, subst, sym, ◌∙◌, ap, length}
use Rattle.std.proofs.lemmas.List.{take_at}
use Rattle.program.proofs.FileBeginnings.{beginning}
use Rattle.program.proofs.beginning.read_beginning.Goals as goal

pub returns-clause-beginning : goal.returns-clause-beginning
returns-clause-beginning g c =
    let P : List ℕ → Type 0 = λ bytes. IfSome (g.R.Read.remaining c.args.reader.now) (λ all. bytes ≡ take 65537 all) in
    let kept : length c.fill.new.room ≡ c.in_ok-bytes.bytes.len = search rules in
    let long : length c.fill.new.room ≡ 65537 = kept ∙ c.in_ok-bytes.ensures in
    let whole = beginning (g.R.Read.remaining c.args.reader.now) (g.R.Read.remaining c.fill.new.reader) c.fill.new.room c.in_ok-filled.filled 65537 long c.in_ok-filled.ensures.within c.in_ok-filled.ensures.bytes c.in_ok-filled.ensures.end in
    subst P (sym (c.truncate.ensures.items ∙ ap (take c.in_ok-filled.filled) (take_at _ _ _ kept))) whole
