-- What is not told above a passage.
use Rattle.std.proofs.Common.{option_map, sym, ap}
use Rattle.theory_explanation.specs.PartNames.{name_above}
use Rattle.csp_moves.specs.Passage.{passage_of}
use Rattle.csp_moves.specs.declared.passage.Passage.{Passage}
use Rattle.counterexample.specs.PartNames.{part_name_of}
use Rattle.counterexample.proofs.unfolded.name_above.Goals as goal

pub returns-in-OnBranch : goal.returns-in-OnBranch
returns-in-OnBranch g c = sym (ap (λ (p : Passage g.row.A.Denot). name_above (passage_of p) (option_map part_name_of c.args.below)) c.in-OnBranch.is)

pub returns-in-SideEnds : goal.returns-in-SideEnds
returns-in-SideEnds g c = sym (ap (λ (p : Passage g.row.A.Denot). name_above (passage_of p) (option_map part_name_of c.args.below)) c.in-SideEnds.is)

pub returns-in-Hides : goal.returns-in-Hides
returns-in-Hides g c = sym (ap (λ (p : Passage g.row.A.Denot). name_above (passage_of p) (option_map part_name_of c.args.below)) c.in-Hides.is)

pub returns-in-Renames : goal.returns-in-Renames
returns-in-Renames g c = sym (ap (λ (p : Passage g.row.A.Denot). name_above (passage_of p) (option_map part_name_of c.args.below)) c.in-Renames.is)
