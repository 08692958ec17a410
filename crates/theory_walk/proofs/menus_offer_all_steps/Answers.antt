use Rattle.theory_walk.proofs.Offered.{have_origins, offer_steps}
use Rattle.theory_walk.proofs.menus_offer_all_steps.Goals as goal

pub returns-clause-steps : goal.returns-clause-steps
returns-clause-steps c = offer_steps

pub returns-clause-origins : goal.returns-clause-origins
returns-clause-origins c = have_origins
