use Rattle.std.proofs.Common.{refl, subst, Err}
use Rattle.theory_checking.specs.Inference.Items.{behind_item, of_item}
use Rattle.csp_inference.specs.Equations.{Asks}
use Rattle.csp_inference.specs.Numbering.{numbering_of}
use Rattle.csp_term.specs.Script.{script_of_parts}
use Rattle.csp_inference.specs.declared.known_kinds.KnownKinds.{KnownKinds}
use Rattle.csp_inference.specs.Items.{item_of}
use Rattle.csp_inference.specs.Solving.{AsksFor, SolvedFor}
use Rattle.csp_inference.proofs.SolvedInTurn.{asked_resolved, asked_solves, handed_on, unasked_solves}
use Rattle.csp_inference.proofs.known_kinds.KnownKinds.solve_item.Goals as goal

pub solve-requires : goal.solve-requires
solve-requires g c =
    let asks = subst (λ n. Asks c.forget.new.self c.ask_item.new.equations (of_item (script_of_parts c.args.script.now) (numbering_of c.args.self.now.numbering) n (item_of c.args.item)) (behind_item (script_of_parts c.args.script.now) n (item_of c.args.item))) c.forget.ensures.next c.in_ok-ask_item.ensures in
    asked_resolved c.args.self.now c.forget.new.self c.ask_item.new.equations _ _ c.forget.ensures.state asks c.requires

pub returns : goal.returns
returns g c =
    let asks = subst (λ n. Asks c.forget.new.self c.ask_item.new.equations (of_item (script_of_parts c.args.script.now) (numbering_of c.args.self.now.numbering) n (item_of c.args.item)) (behind_item (script_of_parts c.args.script.now) n (item_of c.args.item))) c.forget.ensures.next c.in_ok-ask_item.ensures in
    asked_solves c.args.self.now (record { numbering = c.args.self.now.numbering; equations = c.solve.new.self }) c.forget.new.self c.ask_item.new.equations _ _ c.forget.ensures.met c.forget.ensures.state asks c.solve.result c.solve.ensures.solved refl c.solve.ensures.next

pub returns-in_err-ask_item : goal.returns-in_err-ask_item
returns-in_err-ask_item g c =
    let next = c.args.self.now.equations.next in
    let es = of_item (script_of_parts c.args.script.now) (numbering_of c.args.self.now.numbering) next (item_of c.args.item) in
    let m = behind_item (script_of_parts c.args.script.now) next (item_of c.args.item) in
    let e = c.in_err-ask_item.field-0.0 in
    let now : KnownKinds g.row.A.Denot = record { numbering = c.args.self.now.numbering; equations = c.ask_item.new.equations } in
    let asks = subst (λ n. AsksFor c.forget.new.self (of_item (script_of_parts c.args.script.now) (numbering_of c.args.self.now.numbering) n (item_of c.args.item)) (behind_item (script_of_parts c.args.script.now) n (item_of c.args.item)) c.ask_item.new.equations (Err e)) c.forget.ensures.next c.in_err-ask_item.ensures in
    handed_on (SolvedFor c.args.self.now es m now) c.from_residual.result e c.from_residual.ensures (unasked_solves c.args.self.now now c.forget.new.self c.ask_item.new.equations es m e asks)
