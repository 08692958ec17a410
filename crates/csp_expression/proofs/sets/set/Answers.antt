use Rattle.std.proofs.Common.{nat_le, arith, Ok, sym, ◌∙◌, ap}
use Rattle.std.proofs.lemmas.Bool.{le-leb}
use Rattle.theory_syntax.specs.Value.{values_list}
use Rattle.theory_semantics.specs.Meaning.Evaluation.{max_members}
use Rattle.csp_value.specs.Value.{members_of}
use Rattle.csp_value.proofs.Forms.{value_of_set}
use Rattle.csp_expression.proofs.Forming.{as_many, set_few}
use Rattle.csp_expression.proofs.sets.set.Goals as goal

pub returns : goal.returns
returns g c =
    let few = ap (λ n. nat_le n max_members) (as_many c.members.result.now (values_list (members_of c.args.set)) c.members.ensures) ∙ le-leb _ max_members (omega arith) in
    set_few (members_of c.args.set) few ∙ ap Ok (sym (value_of_set g.row.A.Denot c.args.set))
