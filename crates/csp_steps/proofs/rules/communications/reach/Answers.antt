-- What is held has a known size.
use Rattle.std.proofs.Common.{◌≡◌, refl, ◌∙◌, ap, inl, inr, lit<}
use Rattle.theory_syntax.specs.Value.{Ev}
use Rattle.theory_semantics.specs.Meaning.Substitution.{put}
use Rattle.theory_semantics.specs.Meaning.Unfolding.{settled}
use Rattle.csp_value.specs.Value.{values_of}
use Rattle.csp_expression.specs.Bindings.{bindings_of}
use Rattle.csp_term.specs.Script.{script_of_parts}
use Rattle.csp_term.specs.Term.{process_of}
use Rattle.csp_steps.specs.Answering.{within_limits}
use Rattle.csp_steps.specs.Communicating.{lent_values}
use Rattle.csp_steps.proofs.Reaching.{last_one, reached}
use Rattle.csp_steps.proofs.rules.communications.reach.Goals as goal

pub event_fields-requires : goal.event_fields-requires
event_fields-requires g c = elim g.met.A.AllocHandle.small [ inl e ↦ rw (e.0, e.1) (lit< tt) | inr e ↦ rw (e.0, e.1) (lit< tt) ]

pub drop-found-requires-room-T-Destruct : goal.drop-found-requires-room-T-Destruct
drop-found-requires-room-T-Destruct g c κs within = elim g.met.A.AllocHandle.small [ inl e ↦ rw (e.0, e.1) (lit< tt) | inr e ↦ rw (e.0, e.1) (lit< tt) ]

pub drop-found-requires-in_err-push-room-T-Destruct : goal.drop-found-requires-in_err-push-room-T-Destruct
drop-found-requires-in_err-push-room-T-Destruct g c κs within = elim g.met.A.AllocHandle.small [ inl e ↦ rw (e.0, e.1) (lit< tt) | inr e ↦ rw (e.0, e.1) (lit< tt) ]

pub drop-found-requires-in_err-target-room-T-Destruct : goal.drop-found-requires-in_err-target-room-T-Destruct
drop-found-requires-in_err-target-room-T-Destruct g c κs within = elim g.met.A.AllocHandle.small [ inl e ↦ rw (e.0, e.1) (lit< tt) | inr e ↦ rw (e.0, e.1) (lit< tt) ]

pub from_residual-requires-in_err-push-room-F-From : goal.from_residual-requires-in_err-push-room-F-From
from_residual-requires-in_err-push-room-F-From g c κs within = elim g.met.A.AllocHandle.small [ inl e ↦ rw (e.0, e.1) (lit< tt) | inr e ↦ rw (e.0, e.1) (lit< tt) ]

pub returns : goal.returns
returns g c =
    let script = script_of_parts c.args.walk.now.script.now in
    let channel = c.args.walk.now.channel.0 in
    let body = process_of c.args.walk.now.body.now in
    let front = c.args.front.now in
    let bs = bindings_of front.bindings.items in
    let put_in = c.in_ok-target.ensures ∙ ap (λ ds. within_limits (settled script (put (bindings_of ds) body))) c.deref-2.ensures.value in
    let fields : values_of c.in_ok-fields.fields.items ≡ lent_values front.values.items = c.in_ok-fields.ensures ∙ ap lent_values c.deref.ensures.value in
    (last_one bs, refl, reached script channel body (lent_values front.values.items) bs c.args.found c.push.new.self _ c.in_ok-push.ensures.items (λ i. (Ev (record { channel = channel; fields = fields i }), put_in i)))

pub array_drop-action-requires : goal.array_drop-action-requires
array_drop-action-requires g c = elim g.met.A.AllocHandle.small [ inl e ↦ rw (e.0, e.1) (lit< tt) | inr e ↦ rw (e.0, e.1) (lit< tt) ]
