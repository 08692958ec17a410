use Rattle.printed_names.proofs.Meeting.{assertion_met, equation_met}
use Rattle.printed_names.proofs.bound_names.BoundNames.add_declaration.Goals as goal

pub returns-in_ok-add_all-in-Equation : goal.returns-in_ok-add_all-in-Equation
returns-in_ok-add_all-in-Equation g c =
    equation_met c.add_process.result c.args.self.now c.add_all.new.self c.add_process.new.self c.args.declaration.now c.in-Equation.name c.in-Equation.parameters c.in-Equation.body
    c.deref.result.now c.deref-in-Equation.result.now c.in-Equation.is c.deref.ensures.value c.deref-in-Equation.ensures c.in_ok-add_all-in-Equation.ensures c.add_process.ensures

pub returns-in_ok-add_property-in-Assertion : goal.returns-in_ok-add_property-in-Assertion
returns-in_ok-add_property-in-Assertion g c =
    assertion_met c.add_process-in-Assertion.result c.args.self.now c.add_property.new.self c.add_process-in-Assertion.new.self c.args.declaration.now c.in-Assertion.place c.in-Assertion.negated
    c.in-Assertion.property c.in-Assertion.implementation c.deref-in-Assertion.result.now c.in-Assertion.is c.deref-in-Assertion.ensures c.in_ok-add_property-in-Assertion.ensures c.add_process-in-Assertion.ensures
