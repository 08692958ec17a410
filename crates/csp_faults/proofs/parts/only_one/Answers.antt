-- One value has an instance alone.
use Rattle.std.proofs.Common.{map, sym, ◌∙◌, ap, subst, arith}
use Rattle.csp_term.specs.Term.{process_of}
use Rattle.csp_faults.specs.Parts.{AreParts}
use Rattle.csp_faults.proofs.Instances.{alone, not_alone}
use Rattle.csp_faults.proofs.parts.only_one.Goals as goal

pub returns-then-values-eq1 : goal.returns-then-values-eq1
returns-then-values-eq1 g c =
    subst (AreParts c.instances.result) (sym (alone c.args.name.0 (process_of c.args.body.now) c.args.values.now (omega (arith, c.if-values-eq1.true)))) c.instances.ensures

pub returns-else-values-eq1 : goal.returns-else-values-eq1
returns-else-values-eq1 g c =
    ap (map process_of) c.new.ensures.items ∙ sym (not_alone c.args.name.0 (process_of c.args.body.now) c.args.values.now (λ e. c.if-values-eq1.false (omega (arith, e))))
