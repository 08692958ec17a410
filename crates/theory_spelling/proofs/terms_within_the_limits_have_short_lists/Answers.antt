use Rattle.theory_spelling.proofs.ShortLists.{within_is_short}
use Rattle.theory_spelling.proofs.terms_within_the_limits_have_short_lists.Goals as goal

pub returns : goal.returns
returns c = within_is_short
