use Rattle.std.proofs.Common.{sym, ◌∙◌}
use Rattle.csp_term.specs.contracts.script.EquationOrd.TheImpl as impl
use Rattle.csp_term.specs.contracts.script.EquationOrd.TheImpl.Laws as laws
use Rattle.csp_term.specs.Script.{equation_of}
use Rattle.csp_term.proofs.Equality.{equation_eq, equation_tells}
use Rattle.csp_term.proofs.Ties.{ties, same_order}
use Rattle.csp_term.proofs.laws.compare_equations.Goals as goal

pub returns-clause-tie : goal.returns-clause-tie
returns-clause-tie g c =
    let both = ties (impl.ghosts g.row.A g.A.Allocator g.A.Allocator-dict g.A.Destruct-dict).cmp (laws.total-law g.row.A g.A.Allocator g.A.Allocator-dict g.A.Destruct-dict) (equation_eq g.row.A g.A.Allocator g.A.Allocator-dict g.A.Destruct-dict) (laws.matches_eq-law g.row.A g.A.Allocator g.A.Allocator-dict g.A.Destruct-dict) equation_of (equation_tells g.row.A g.A.Allocator g.A.Allocator-dict g.A.Destruct-dict) c.args.left.now c.args.right.now in
    (λ tie. both.0 (sym c.cmp.ensures ∙ tie), λ same. c.cmp.ensures ∙ both.1 same)

pub returns-clause-order : goal.returns-clause-order
returns-clause-order g c l r first second =
    c.cmp.ensures ∙ same_order (impl.ghosts g.row.A g.A.Allocator g.A.Allocator-dict g.A.Destruct-dict).cmp (laws.total-law g.row.A g.A.Allocator g.A.Allocator-dict g.A.Destruct-dict) (equation_eq g.row.A g.A.Allocator g.A.Allocator-dict g.A.Destruct-dict) (laws.matches_eq-law g.row.A g.A.Allocator g.A.Allocator-dict g.A.Destruct-dict) equation_of (equation_tells g.row.A g.A.Allocator g.A.Allocator-dict g.A.Destruct-dict) c.args.left.now c.args.right.now l r first second
