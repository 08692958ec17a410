use Rattle.theory_text.proofs.Longest.{comment_longest, line_longest, shared_longest, sliding_longest, primed_longest, tilde_is_nothing, large_refused}
use Rattle.theory_text.proofs.longest_lexemes.Goals as goal

pub returns-clause-comment : goal.returns-clause-comment
returns-clause-comment c = comment_longest

pub returns-clause-line : goal.returns-clause-line
returns-clause-line c = line_longest

pub returns-clause-shared : goal.returns-clause-shared
returns-clause-shared c = shared_longest

pub returns-clause-sliding : goal.returns-clause-sliding
returns-clause-sliding c = sliding_longest

pub returns-clause-primed : goal.returns-clause-primed
returns-clause-primed c = primed_longest

pub returns-clause-nothing : goal.returns-clause-nothing
returns-clause-nothing c = tilde_is_nothing

pub returns-clause-large : goal.returns-clause-large
returns-clause-large c = large_refused
