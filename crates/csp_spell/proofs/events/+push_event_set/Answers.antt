-- The spelling of each form of set of events.
use Rattle.std.proofs.Common.{[], ℕ, ◌∷◌, ◌++◌, sym, ap, ◌∙◌, subst, arith}
use Rattle.theory_syntax.specs.Process as pure
use Rattle.theory_semantics.specs.Meaning.Limits.{event_set_size}
use Rattle.theory_spelling.specs.Spelling.{event_spelling, event_set_spelling, list_spelling}
use Rattle.theory_spelling.specs.Packable.{IsPackableEventSet}
use Rattle.theory_spelling.specs.Ranges.{IsInRangeEventSet}
use Rattle.csp_events.specs.Events.{event_expressions_of, event_set_of}
use Rattle.csp_events.proofs.EventForms.{of_enumeration, of_productions, of_combined}
use Rattle.csp_spell.proofs.Pushing.{behind_tag, behind_part, two_parts, also_ok}
use Rattle.csp_spell.proofs.PushingEvents.{spelled_combined, left_packable, right_packable, smaller_combined, ranged_combined}
use Rattle.csp_spell.proofs.events.+push_event_set.Goals as goal

pub push_events-requires : goal.push_events-requires
push_events-requires g t c =
    let is = ap event_set_of c.in-Enumeration.is ∙ of_enumeration g.row.A.Denot c.in-Enumeration.events ∙ ap (λ es. pure.Enumeration (event_expressions_of es)) (sym c.deref.ensures.value) in
    let told : IsPackableEventSet (pure.Enumeration (event_expressions_of c.deref.result.now)) = subst IsPackableEventSet is c.requires in
    told

pub returns-in_ok-push-in-Enumeration : goal.returns-in_ok-push-in-Enumeration
returns-in_ok-push-in-Enumeration g t c =
    let is = ap event_set_of c.in-Enumeration.is ∙ of_enumeration g.row.A.Denot c.in-Enumeration.events ∙ ap (λ es. pure.Enumeration (event_expressions_of es)) (sym c.deref.ensures.value) in
    record {
      spelled = behind_tag c.push_events.result c.args.bytes.now.items c.push.new.self.items c.push_events.new.bytes.items (list_spelling event_spelling (event_expressions_of c.deref.result.now)) (event_set_spelling (event_set_of c.args.set.now)) 0x28 c.in_ok-push-in-Enumeration.ensures.items (ap event_set_spelling is) c.push_events.ensures.spelled;
      range = also_ok c.push_events.result c.push_events.ensures.range (λ h. subst IsInRangeEventSet (sym is) h);
    }

pub push_events-requires-in-Productions : goal.push_events-requires-in-Productions
push_events-requires-in-Productions g t c =
    let is = ap event_set_of c.in-Productions.is ∙ of_productions g.row.A.Denot c.in-Productions.events ∙ ap (λ es. pure.Productions (event_expressions_of es)) (sym c.deref-in-Productions.ensures.value) in
    let told : IsPackableEventSet (pure.Productions (event_expressions_of c.deref-in-Productions.result.now)) = subst IsPackableEventSet is c.requires in
    told

pub returns-in_ok-push-in-Productions : goal.returns-in_ok-push-in-Productions
returns-in_ok-push-in-Productions g t c =
    let is = ap event_set_of c.in-Productions.is ∙ of_productions g.row.A.Denot c.in-Productions.events ∙ ap (λ es. pure.Productions (event_expressions_of es)) (sym c.deref-in-Productions.ensures.value) in
    record {
      spelled = behind_tag c.push_events-in-Productions.result c.args.bytes.now.items c.push-in-Productions.new.self.items c.push_events-in-Productions.new.bytes.items (list_spelling event_spelling (event_expressions_of c.deref-in-Productions.result.now)) (event_set_spelling (event_set_of c.args.set.now)) 0x29 c.in_ok-push-in-Productions.ensures.items (ap event_set_spelling is) c.push_events-in-Productions.ensures.spelled;
      range = also_ok c.push_events-in-Productions.result c.push_events-in-Productions.ensures.range (λ h. subst IsInRangeEventSet (sym is) h);
    }

pub returns-in_ok-push_event_set-in-Combine : goal.returns-in_ok-push_event_set-in-Combine
returns-in_ok-push_event_set-in-Combine g t c =
    let is = ap event_set_of c.in-Combine.is ∙ of_combined g.row.A.Denot c.in-Combine.operator c.in-Combine.left c.in-Combine.right in
    let whole = ap event_set_spelling is ∙ spelled_combined c.in-Combine.operator (event_set_of c.in-Combine.left.value) (event_set_of c.in-Combine.right.value) ∙ ap (λ (k : ℕ). k ∷ (event_set_spelling (event_set_of c.in-Combine.left.value) ++ event_set_spelling (event_set_of c.in-Combine.right.value))) (sym c.event_set_tag.ensures)
    ∙ ap (λ e. c.event_set_tag.result ∷ (event_set_spelling (event_set_of e) ++ event_set_spelling (event_set_of c.in-Combine.right.value))) (sym c.deref-in-Combine.ensures) ∙ ap (λ e. c.event_set_tag.result ∷ (event_set_spelling (event_set_of c.deref-in-Combine.result.now) ++ event_set_spelling (event_set_of e))) (sym c.deref-in-Combine-2.ensures) in
    let first = two_parts c.args.bytes.now.items c.push-in-Combine.new.self.items c.push_event_set.new.bytes.items (c.event_set_tag.result ∷ []) (event_set_spelling (event_set_of c.deref-in-Combine.result.now)) c.in_ok-push-in-Combine.ensures.items c.in_ok-push_event_set-in-Combine.ensures.spelled in
    record {
      spelled = behind_part c.push_event_set-in-Combine.result c.args.bytes.now.items c.push_event_set.new.bytes.items c.push_event_set-in-Combine.new.bytes.items (c.event_set_tag.result ∷ event_set_spelling (event_set_of c.deref-in-Combine.result.now)) (event_set_spelling (event_set_of c.deref-in-Combine-2.result.now)) (event_set_spelling (event_set_of c.args.set.now)) first whole c.push_event_set-in-Combine.ensures.spelled;
      range = also_ok c.push_event_set-in-Combine.result c.push_event_set-in-Combine.ensures.range (λ h. subst IsInRangeEventSet (sym is) (
          ranged_combined c.in-Combine.operator (event_set_of c.in-Combine.left.value) (event_set_of c.in-Combine.right.value)
          (subst (λ e. IsInRangeEventSet (event_set_of e)) c.deref-in-Combine.ensures c.in_ok-push_event_set-in-Combine.ensures.range) (subst (λ e. IsInRangeEventSet (event_set_of e)) c.deref-in-Combine-2.ensures h)));
    }

pub push_event_set-requires : goal.push_event_set-requires
push_event_set-requires g t c κs within =
    let is = ap event_set_of c.in-Combine.is ∙ of_combined g.row.A.Denot c.in-Combine.operator c.in-Combine.left c.in-Combine.right in
    let sizes = smaller_combined c.in-Combine.operator (event_set_of c.args.set.now) (event_set_of c.in-Combine.left.value) (event_set_of c.in-Combine.right.value) is in
    let same = ap (λ e. event_set_size (event_set_of e)) c.deref-in-Combine.ensures in
    (omega arith, (within, subst (λ e. IsPackableEventSet (event_set_of e)) (sym c.deref-in-Combine.ensures) (left_packable c.in-Combine.operator (event_set_of c.in-Combine.left.value) (event_set_of c.in-Combine.right.value) (subst IsPackableEventSet is c.requires))))

pub push_event_set-requires-in-Combine : goal.push_event_set-requires-in-Combine
push_event_set-requires-in-Combine g t c κs within =
    let is = ap event_set_of c.in-Combine.is ∙ of_combined g.row.A.Denot c.in-Combine.operator c.in-Combine.left c.in-Combine.right in
    let sizes = smaller_combined c.in-Combine.operator (event_set_of c.args.set.now) (event_set_of c.in-Combine.left.value) (event_set_of c.in-Combine.right.value) is in
    let same = ap (λ e. event_set_size (event_set_of e)) c.deref-in-Combine-2.ensures in
    (omega arith, (within, subst (λ e. IsPackableEventSet (event_set_of e)) (sym c.deref-in-Combine-2.ensures) (right_packable c.in-Combine.operator (event_set_of c.in-Combine.left.value) (event_set_of c.in-Combine.right.value) (subst IsPackableEventSet is c.requires))))
