use Rattle.theory_rows.proofs.Accepting.{actions_told, all_shown, least_enough, one_acceptance, shown_enough, tick_least}
use Rattle.theory_rows.proofs.unordered.acceptances_are_told_by_actions.Goals as goal

pub returns : goal.returns
returns c = record {
  actions = actions_told;
  shown = λ script t steps free are. all_shown script t steps free are;
  enough = λ script t steps free are. least_enough script t steps free are;
  weaker = shown_enough;
  tick = tick_least;
  one = one_acceptance;
}
