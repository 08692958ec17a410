-- Kinds fit, or do not, or did not before.
use Rattle.std.proofs.Common.{refl}
use Rattle.csp_expression.specs.Evaluation.{table_of}
use Rattle.csp_inference.specs.Solving.{lent_expression}
use Rattle.csp_kinds.proofs.Fitting.{field_known, field_misfit, field_unfit}
use Rattle.csp_kinds.proofs.fit.Fit.add_field.Goals as goal

pub returns-then-not-self : goal.returns-then-not-self
returns-then-not-self g c = field_unfit (table_of c.args.types.now) c.args.column (lent_expression c.args.set) c.args.self.now _ c.if-not-self.true c.if-not-self.true

pub add_field-requires : goal.add_field-requires
add_field-requires g c = c.requires c.if-not-self.false

pub returns-in-Ok : goal.returns-in-Ok
returns-in-Ok g c = field_known (table_of c.args.types.now) c.args.column (lent_expression c.args.set) c.args.self.now _ c.add_field.result c.in-Ok.field-0 c.in-Ok.is c.if-not-self.false c.if-not-self.false c.add_field.ensures

pub returns-in-Err-NoKinds : goal.returns-in-Err-NoKinds
returns-in-Err-NoKinds g c =
    field_misfit (table_of c.args.types.now) c.args.column (lent_expression c.args.set) c.args.self.now _ c.add_field.result c.in-Err-NoKinds.field-0 c.in-Err-NoKinds.is c.in-Err-NoKinds.field-0-is c.if-not-self.false refl c.add_field.ensures
