use Rattle.std.proofs.Common.{[], ◌∷◌, refl, sym}
use Rattle.csp_lex.proofs.Steps.{passes_then}
use Rattle.csp_lex.proofs.marks.read_two.Goals as goal

pub returns-clause-found : goal.returns-clause-found
returns-clause-found c = record {
  front = c.in_ok-first.first ∷ c.in_ok-second.second ∷ [];
  size = refl;
  passes = passes_then c.in_ok-first.ensures.more c.in_ok-second.ensures.more;
  is_mark = sym c.in_ok-mark.ensures;
}
