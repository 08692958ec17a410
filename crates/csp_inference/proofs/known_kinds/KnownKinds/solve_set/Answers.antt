use Rattle.std.proofs.Common.{Some, refl, subst}
use Rattle.theory_checking.specs.Inference.Items.{behind_set, of_set}
use Rattle.csp_expression.specs.Evaluation.{table_of}
use Rattle.csp_expression.specs.Expression.{expression_of}
use Rattle.csp_inference.specs.Equations.{Asks}
use Rattle.csp_inference.specs.Numbering.{numbering_of}
use Rattle.csp_inference.proofs.SolvedInTurn.{asked_resolved, asked_solves}
use Rattle.csp_inference.proofs.known_kinds.KnownKinds.solve_set.Goals as goal

pub solve-requires : goal.solve-requires
solve-requires g c =
    let asks = subst (λ n. Asks c.forget.new.self c.ask_set.new.self (of_set (table_of c.args.types.now) (numbering_of c.args.self.now.numbering) n (Some (expression_of c.args.set.now)) c.args.members.0) (behind_set n (Some (expression_of c.args.set.now)))) c.forget.ensures.next c.in_ok-ask_set.ensures in
    asked_resolved c.args.self.now c.forget.new.self c.ask_set.new.self _ _ c.forget.ensures.state asks c.requires

pub returns : goal.returns
returns g c =
    let asks = subst (λ n. Asks c.forget.new.self c.ask_set.new.self (of_set (table_of c.args.types.now) (numbering_of c.args.self.now.numbering) n (Some (expression_of c.args.set.now)) c.args.members.0) (behind_set n (Some (expression_of c.args.set.now)))) c.forget.ensures.next c.in_ok-ask_set.ensures in
    asked_solves c.args.self.now (record { numbering = c.args.self.now.numbering; equations = c.solve.new.self }) c.forget.new.self c.ask_set.new.self _ _ c.forget.ensures.met c.forget.ensures.state asks c.solve.result c.solve.ensures.solved refl c.solve.ensures.next
