-- Each part is put one after the other.
use Rattle.std.proofs.Common.{◌++◌, option_map, inl, inr, lit≤}
use Rattle.std.specs.Prelude.{codes, decimal}
use Rattle.std.specs.String.{string_bytes}
use Rattle.csp_value.specs.Action.{action_of}
use Rattle.csp_moves.specs.Origin.{origin_of}
use Rattle.theory_explanation.specs.Actions.{action_text}
use Rattle.theory_explanation.specs.Folding.{then_text}
use Rattle.theory_explanation.specs.Legend.{legend}
use Rattle.theory_explanation.specs.Origins.{source_text}
use Rattle.csp_print.specs.Names.{names_of}
use Rattle.csp_print.proofs.Writing.{behind}
use Rattle.counterexample.specs.Folding.{equations_listed}
use Rattle.counterexample.specs.PartNames.{part_names_listed}
use Rattle.counterexample.proofs.step.push_step.Goals as goal

pub returns : goal.returns
returns g c =
    let r = c.push_mark-3.result in
    let all = string_bytes c.push_mark-3.new.text in
    let names = names_of c.args.names.now in
    let step = c.args.step.now in
    let did = action_text names (action_of step.action.now) in
    let source = source_text (legend names (part_names_listed c.args.parts.now)) (action_of step.action.now) (option_map origin_of step.origin.now) in
    let then = then_text names (equations_listed step.equations.now) in
    behind r (string_bytes c.args.text.now) (string_bytes c.push_mark.new.text) all (codes "  ") (decimal step.number ++ (codes " " ++ (did ++ (source ++ (then ++ codes "\n"))))) c.in_ok-push_mark.ensures
    (behind r (string_bytes c.push_mark.new.text) (string_bytes c.push_number.new.text) all (decimal step.number) (codes " " ++ (did ++ (source ++ (then ++ codes "\n")))) c.in_ok-push_number.ensures
    (behind r (string_bytes c.push_number.new.text) (string_bytes c.push_mark-2.new.text) all (codes " ") (did ++ (source ++ (then ++ codes "\n"))) c.in_ok-push_mark-2.ensures
    (behind r (string_bytes c.push_mark-2.new.text) (string_bytes c.push_action.new.text) all did (source ++ (then ++ codes "\n")) c.in_ok-push_action.ensures
    (behind r (string_bytes c.push_action.new.text) (string_bytes c.push_source.new.text) all source (then ++ codes "\n") c.in_ok-push_source.ensures
    (behind r (string_bytes c.push_source.new.text) (string_bytes c.push_then.new.text) all then (codes "\n") c.in_ok-push_then.ensures c.push_mark-3.ensures)))))

pub push_action-requires : goal.push_action-requires
push_action-requires g c = elim g.met.A.AllocHandle.small [ inl e ↦ rw (e.0, e.1) (search (lit≤)) | inr e ↦ rw (e.0, e.1) (search (lit≤)) ]

pub push_source-requires : goal.push_source-requires
push_source-requires g c = elim g.met.A.AllocHandle.small [ inl e ↦ rw (e.0, e.1) (search (lit≤)) | inr e ↦ rw (e.0, e.1) (search (lit≤)) ]
