-- What is kept has another name.
use Rattle.std.proofs.Common.{nat_eq, not, ◌∙◌, ap, rules}
use Rattle.std.proofs.lemmas.Fn.{filter_same}
use Rattle.csp_expression.specs.Bindings.{bindings_of}
use Rattle.csp_term.proofs.Without.{hidden}
use Rattle.csp_term.proofs.substitution.take_out.Goals as goal

pub returns : goal.returns
returns g c =
    ap bindings_of (filter_same _ (λ b. not (nat_eq b.name.0 c.args.name.0)) _ (λ x b f' k. search rules) c.args.bindings.now.items c.retain.new.self.items c.retain.ensures.filtered)
    ∙ hidden c.args.name.0 c.args.bindings.now.items
