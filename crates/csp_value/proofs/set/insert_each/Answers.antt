-- Each value is put in, in turn.
use Rattle.std.proofs.Common.{sym, ◌∙◌, ap}
use Rattle.std.proofs.lemmas.List.{nil_from_length}
use Rattle.theory_syntax.specs.Value.{insert_values, to_values}
use Rattle.csp_value.specs.Value.{values_of}
use Rattle.csp_value.proofs.Forms.{members_of_made}
use Rattle.csp_value.proofs.set.insert_each.Goals as goal

pub loop-value-init : goal.loop-value-init
loop-value-init g c = ap (λ xs. insert_values (values_of xs) (values_of c.args.members.items)) c.into_iter-value-iterator.ensures.into_iter_gives.0

pub loop-value-preserved : goal.loop-value-preserved
loop-value-preserved g c =
    let rest = values_of c.next.new.self.rest.items in
    ap (insert_values rest) c.in_ok-insert.ensures ∙ ap (λ xs. insert_values (values_of xs) (values_of c.loop-value.both.items)) (sym c.in-Some.ensures.steps.0) ∙ c.loop-value.invariant

pub returns : goal.returns
returns g c =
    let none = ap (λ xs. insert_values (values_of xs) (values_of c.loop-value.both.items)) (sym (nil_from_length c.loop-value.value-iterator.rest.items (sym c.loop-value.value-iterator.rest.ok.0 ∙ c.in-None.ensures.steps.0))) in
    members_of_made g.row.A.Denot c.loop-value.both ∙ ap to_values (none ∙ c.loop-value.invariant)
