-- A prefix is answered by what was found of its fields.
use Rattle.std.proofs.Common.{List, [], length, slice_get, refl, sym, ◌∙◌, ap, subst}
use Rattle.std.proofs.lemmas.Option.{slice_get_past, slice_get_read}
use Rattle.theory_syntax.specs.Value as pure
use Rattle.theory_syntax.proofs.Places.{get_some}
use Rattle.theory_semantics.specs.Meaning.Events.{communications}
use Rattle.theory_semantics.specs.Meaning.Substitution.{Bindings, behind, put, put_fields}
use Rattle.csp_expression.specs.Bindings.{bindings_of}
use Rattle.csp_term.specs.Field.{fields_of}
use Rattle.csp_events.specs.Channels.{field_sets_of}
use Rattle.csp_term.specs.Script.{script_of_parts}
use Rattle.csp_term.specs.Term.{process_of}
use Rattle.csp_expression.proofs.Forming.{get_none}
use Rattle.csp_steps.specs.Communicating.{Finds}
use Rattle.csp_value.specs.Fields.{sets_of}
use Rattle.csp_steps.proofs.Prefixing.{answered_fields, no_channel}
use Rattle.csp_steps.proofs.rules.prefix.steps.Goals as goal

pub returns-in_default : goal.returns-in_default
returns-in_default g c =
    let script = script_of_parts c.args.script.now in
    let fs = fields_of c.args.fields.now in
    let body = process_of c.args.body.now in
    let n = c.args.channel.0 in
    let table = c.deref.result.now in
    let at = ap (λ xs. slice_get xs n) (sym c.deref.ensures.value) ∙ slice_get_past table n c.in_default.ensures.lookup.3 in
    let bs = bindings_of c.args.bindings.now in
    no_channel script n (put_fields bs fs) (put (behind bs fs) body) (get_none field_sets_of c.args.script.now.channels.items n at)

pub returns : goal.returns
returns g c =
    let script = script_of_parts c.args.script.now in
    let fs = fields_of c.args.fields.now in
    let body = process_of c.args.body.now in
    let n = c.args.channel.0 in
    let table = c.deref.result.now in
    let look = c.in-Some.ensures.lookup in
    let channel = c.in-Some.declared.now in
    let at = get_some field_sets_of c.args.script.now.channels.items n channel (ap (λ xs. slice_get xs n) (sym c.deref.ensures.value) ∙ slice_get_read table (length table) n channel refl look.3.0 look.1) in
    let bs = bindings_of c.args.bindings.now in
    let F : List pure.Value → Bindings → List (List pure.Value) → Type 0 = λ vs ds sets. Finds script n body vs c.new.result (communications script.types ds fs sets) c.look_for.result in
    let found : F [] bs (field_sets_of channel) =
    subst (F [] bs) (ap sets_of c.deref-2.ensures.value) (subst (λ ds. F [] ds (sets_of c.deref-2.result.now)) c.in_ok-front.ensures.bindings
    (subst (λ vs. F vs (bindings_of c.in_ok-front.front.bindings.items) (sets_of c.deref-2.result.now)) c.in_ok-front.ensures.values c.look_for.ensures)) in
    answered_fields script n fs body bs (field_sets_of channel) at c.new.result c.new.ensures.items c.look_for.result found
