use Rattle.std.proofs.Common.{refl}
use Rattle.theory_checking.specs.Inference.Processes.{behind_event, of_pair}
use Rattle.csp_events.specs.Events.{event_expression_of, renaming_pair_of}
use Rattle.csp_term.specs.Script.{script_of_parts}
use Rattle.csp_inference.specs.Numbering.{names_of, numbering_of}
use Rattle.csp_inference.proofs.Asking.{left_more, left_none}
use Rattle.csp_inference.proofs.AskingRenamings.{asked_pairs, behind_asked_pairs}
use Rattle.csp_inference.proofs.equations.Equations.ask_pairs.Goals as goal

pub loop-pair-preserved : goal.loop-pair-preserved
loop-pair-preserved g c =
    let script = script_of_parts c.args.script.now in
    let o = numbering_of c.args.numbering.now in
    let names = names_of c.args.names.now in
    left_more (asked_pairs script o names) behind_asked_pairs c.args.self.now c.loop-pair.self c.args.pairs.now c.loop-pair.pair-index
    (λ n r. of_pair script o n names (renaming_pair_of r)) (λ n r. behind_event (behind_event n (event_expression_of r.from)) (event_expression_of r.to))
    c.ask_pair.new.self c.pair-item.result (λ n rs. refl) (λ n rs. refl)
    c.loop-pair-test.true c.pair-item.is c.loop-pair.invariant c.in_ok-ask_pair.ensures

pub returns : goal.returns
returns g c =
    left_none (asked_pairs (script_of_parts c.args.script.now) (numbering_of c.args.numbering.now) (names_of c.args.names.now)) behind_asked_pairs
    c.args.self.now c.loop-pair.self c.args.pairs.now c.loop-pair.pair-index (λ n. refl) (λ n. refl) c.loop-pair-test.false c.loop-pair.invariant
