use Rattle.std.proofs.lemmas.List.{take_more}
use Rattle.theory_checking.specs.Names.{with_spellings}
use Rattle.theory_checking.proofs.Spellings.{with_more}
use Rattle.printed_names.specs.Binding.{met}
use Rattle.printed_names.proofs.Meeting.{met_by_names, names_in_parts}
use Rattle.printed_names.proofs.Turns.{one_more}
use Rattle.printed_names.proofs.bound_names.BoundNames.add_all.Goals as goal

pub loop-name-preserved : goal.loop-name-preserved
loop-name-preserved g c =
    let names = c.args.names.now in
    let i = c.loop-name.name-index in
    one_more with_spellings with_more met_by_names names_in_parts names i (met c.args.self.now) (met c.loop-name.self) (met c.add.new.self) _
    (take_more names i _ c.loop-name-test.true) c.loop-name.invariant c.in_ok-add.ensures
