use Rattle.std.proofs.Common.{inl, inr, lit<, map, Option, ◌∙◌, ap, subst, arith}
use Rattle.std.specs.declared.vec.Vec.{Vec}
use Rattle.theory_shapes.specs.Alphabet.{alphabet, events_from}
use Rattle.csp_value.specs.declared.action.Event.{Event}
use Rattle.csp_events.specs.Channels.{field_sets_of}
use Rattle.csp_term.specs.Script.{script_of}
use Rattle.csp_numbers.specs.Numbers.{AreListedWithin}
use Rattle.csp_numbers.proofs.Alphabets.{script_numbered}
use Rattle.csp_numbers.proofs.alphabet.Alphabet.of_script.Goals as goal

pub list_events-requires : goal.list_events-requires
list_events-requires g c = (elim g.met.A.AllocHandle.small [ inl e ↦ rw (e.0, e.1) (lit< tt) | inr e ↦ rw (e.0, e.1) (lit< tt) ], omega (arith, c.ranges.most.fits))

pub invariant_of-result : goal.invariant_of-result
invariant_of-result g c =
    let es = events_from 0 (map field_sets_of c.deref.result.now) in
    let all = ap (λ cs. events_from 0 (map field_sets_of cs)) c.deref.ensures.value ∙ ap alphabet c.parts-parts.ensures.value in
    let P : Option (Vec (Event g.row.A.Denot) g.row.A.Denot) → Type 0 = AreListedWithin c.args.most es in
    script_numbered (script_of c.args.script.now) c.parts-parts.ensures.checked es all c.args.most c.ranges.most.fits c.in-Some.events (subst P c.in-Some.is c.in_ok-events.ensures)
