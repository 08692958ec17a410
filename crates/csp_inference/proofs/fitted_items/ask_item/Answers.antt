use Rattle.csp_inference.proofs.Asking.{found_at}
use Rattle.csp_inference.proofs.AskingItems.{assertion_asked, equation_asked}
use Rattle.csp_inference.proofs.fitted_items.ask_item.Goals as goal

pub returns-in_ok-ask_equation-in-Equation : goal.returns-in_ok-ask_equation-in-Equation
returns-in_ok-ask_equation-in-Equation g c =
    let found = found_at c.deref.result.now c.args.script.now.equations.items c.in-Equation.number c.in-Some.equation.now c.deref.ensures.value c.in-Some.ensures.lookup.3.0 c.in-Some.ensures.lookup.1 in
    let numbered = found_at c.deref-in-Equation.result.now c.args.numbering.now.parameters.items c.in-Equation.number c.in-Some-get.numbers.now c.deref-in-Equation.ensures.value c.in-Some-get.ensures.lookup.3.0 c.in-Some-get.ensures.lookup.1 in
    equation_asked c.args.script.now c.args.numbering.now c.args.equations.now c.ask_equation.new.self c.args.item c.in-Equation.place c.in-Equation.number c.in-Equation.is c.in-Some.equation.now c.in-Some-get.numbers.now c.deref-in-Equation-2.result.now found numbered
    c.deref-in-Equation-2.ensures.value c.in_ok-ask_equation-in-Equation.ensures

pub returns-in_ok-ask_assertion-in-Assertion : goal.returns-in_ok-ask_assertion-in-Assertion
returns-in_ok-ask_assertion-in-Assertion g c =
    let found = found_at c.deref-in-Assertion.result.now c.args.script.now.assertions.items c.in-Assertion.number c.in-Some-get-2.assertion.now c.deref-in-Assertion.ensures.value c.in-Some-get-2.ensures.lookup.3.0 c.in-Some-get-2.ensures.lookup.1 in
    assertion_asked c.args.script.now c.args.numbering.now c.args.equations.now c.ask_assertion.new.self c.args.item c.in-Assertion.place c.in-Assertion.number c.in-Assertion.is c.in-Some-get-2.assertion.now found c.in_ok-ask_assertion-in-Assertion.ensures
