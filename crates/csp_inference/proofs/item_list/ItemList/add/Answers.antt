use Rattle.csp_inference.proofs.Listing.{assertion_added, equation_added, others_listed}
use Rattle.csp_inference.proofs.item_list.ItemList.add.Goals as goal

pub returns-in-Equation : goal.returns-in-Equation
returns-in-Equation g c = equation_added c.args.declaration.now c.args.self.now c.in-Equation.name c.in-Equation.parameters c.in-Equation.body c.add_equation.new.self c.add_equation.result c.in-Equation.is c.add_equation.ensures

pub returns-in-Assertion : goal.returns-in-Assertion
returns-in-Assertion g c =
    assertion_added c.args.declaration.now c.args.self.now c.in-Assertion.place c.in-Assertion.negated c.in-Assertion.property c.in-Assertion.implementation c.add_assertion.new.self c.add_assertion.result c.in-Assertion.is c.add_assertion.ensures

pub returns-in_default : goal.returns-in_default
returns-in_default g c = others_listed c.args.declaration.now c.args.self.now c.in_default.not-Equation c.in_default.not-Assertion
