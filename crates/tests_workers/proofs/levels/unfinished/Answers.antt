use Rattle.std.proofs.Common.{subst}
use Rattle.theory_syntax.specs.Process.{Script}
use Rattle.theory_search.specs.Terms.{AreTermsOf}
use Rattle.numbered_rows.specs.Levels.{level_of}
use Rattle.tests_workers.proofs.levels.unfinished.Goals as goal

pub returns : goal.returns
returns g c =
    let P : Script → Type 0 = λ s. AreTermsOf s (level_of c.in_ok-level.level) in
    subst P c.requires c.in_ok-level.ensures.terms
