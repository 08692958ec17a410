use Rattle.theory_checking.proofs.CheckedTexts.{checked_not_unread, checked_not_refused, unread_not_refused}
use Rattle.theory_checking.proofs.checked_text_is_not_refused.Goals as goal

pub returns-clause-reading : goal.returns-clause-reading
returns-clause-reading c = checked_not_unread

pub returns-clause-kinds : goal.returns-clause-kinds
returns-clause-kinds c = checked_not_refused

pub returns-clause-both : goal.returns-clause-both
returns-clause-both c = unread_not_refused
