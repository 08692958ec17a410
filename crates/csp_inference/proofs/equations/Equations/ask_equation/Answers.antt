use Rattle.std.proofs.Common.{◌≡◌, ◌≢◌, ◌∙◌, length, map, ap, arith}
use Rattle.std.proofs.lemmas.List.{length-map}
use Rattle.theory_checking.specs.Inference.Items.{numbered}
use Rattle.theory_checking.specs.Inference.Processes.{behind_process}
use Rattle.csp_term.specs.Script.{equation_of, script_of_parts}
use Rattle.csp_term.specs.Term.{process_of}
use Rattle.csp_inference.specs.Numbering.{names_of, numbering_of}
use Rattle.csp_inference.proofs.AskingScripts.{asked_equation, unequal_equation}
use Rattle.csp_inference.proofs.equations.Equations.ask_equation.Goals as goal

pub returns-then-len-numbers : goal.returns-then-len-numbers
returns-then-len-numbers g c =
    let left = length-map c.args.equation.now.parameters.items (λ x. x.0) in
    let right = length-map c.args.numbers.now (λ n. n.0) in
    let long = c.args.equation.now.parameters.ok.0 in
    let differ : length (map (λ x. x.0) c.args.equation.now.parameters.items) ≢ length (map (λ n. n.0) c.args.numbers.now) = omega arith in
    unequal_equation (script_of_parts c.args.script.now) (numbering_of c.args.numbering.now) c.args.self.now c.push_never.new.self
    (equation_of c.args.equation.now) (map (λ n. n.0) c.args.numbers.now) c.args.self.now.next
    (behind_process c.args.self.now.next (process_of c.args.equation.now.body)) differ c.in_ok-push_never.ensures

pub returns : goal.returns
returns g c =
    let left = length-map c.args.equation.now.parameters.items (λ x. x.0) in
    let right = length-map c.args.numbers.now (λ n. n.0) in
    let long = c.args.equation.now.parameters.ok.0 in
    let ms = map (λ n. n.0) c.args.numbers.now in
    let same : length (map (λ x. x.0) c.args.equation.now.parameters.items) ≡ length ms = omega arith in
    asked_equation (script_of_parts c.args.script.now) (numbering_of c.args.numbering.now) c.args.self.now c.ask_process.new.self
    (equation_of c.args.equation.now) ms (names_of c.deref-2.result.now) same
    (ap names_of c.deref-2.ensures.value ∙ c.in_ok-names.ensures ∙ ap (λ xs. numbered (map (λ x. x.0) xs) ms) c.deref.ensures.value) c.in_ok-ask_process.ensures
