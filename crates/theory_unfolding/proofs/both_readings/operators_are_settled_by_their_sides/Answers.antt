use Rattle.std.proofs.Common.{refl}
use Rattle.theory_unfolding.proofs.Sides.{choice_by, sequence_by, interleaving_by, interrupt_by, generalised_by, alphabetised_by, hidden_by, renamed_by, sliding_by, read_by_tau}
use Rattle.theory_unfolding.proofs.both_readings.operators_are_settled_by_their_sides.Goals as goal

pub returns-clause-choice : goal.returns-clause-choice
returns-clause-choice c = λ script p q. choice_by script.unfolds script p q

pub returns-clause-sequence : goal.returns-clause-sequence
returns-clause-sequence c = λ script p q. sequence_by script.unfolds script p q

pub returns-clause-interleaving : goal.returns-clause-interleaving
returns-clause-interleaving c = λ script p q. interleaving_by script.unfolds script p q

pub returns-clause-interrupt : goal.returns-clause-interrupt
returns-clause-interrupt c = λ script p q. interrupt_by script.unfolds script p q

pub returns-clause-generalised : goal.returns-clause-generalised
returns-clause-generalised c = λ script p q a. generalised_by script.unfolds script p q a

pub returns-clause-alphabetised : goal.returns-clause-alphabetised
returns-clause-alphabetised c = λ script p q a b. alphabetised_by script.unfolds script p q a b

pub returns-clause-hidden : goal.returns-clause-hidden
returns-clause-hidden c = λ script p a. hidden_by script.unfolds script p a

pub returns-clause-renamed : goal.returns-clause-renamed
returns-clause-renamed c = λ script p rs. renamed_by script.unfolds script p rs

pub returns-clause-sliding : goal.returns-clause-sliding
returns-clause-sliding c = λ script p q. sliding_by script.unfolds script p q

pub returns-clause-by_tau : goal.returns-clause-by_tau
returns-clause-by_tau c = λ script p. refl

pub returns-clause-read_by_tau : goal.returns-clause-read_by_tau
returns-clause-read_by_tau c = read_by_tau
