-- The list at the place, or none.
use Rattle.std.proofs.Common.{◌≡◌, List, ◌++◌, drop, length, map, option_map, refl, sym, subst, ◌∙◌, ap, append-nil}
use Rattle.std.proofs.lemmas.Option.{slice_get-map, slice_get_past, slice_get_read}
use Rattle.std.specs.String.{string_bytes}
use Rattle.theory_syntax.proofs.Places.{get_some}
use Rattle.csp_term.specs.Term.{process_of}
use Rattle.csp_term.specs.declared.term.Term.{Term}
use Rattle.theory_explanation.specs.Counterparts.{specification_text}
use Rattle.theory_explanation.proofs.Comparings.{first_there, none_there}
use Rattle.csp_print.proofs.Writing.{alike}
use Rattle.csp_replay.specs.Along.{states_listed}
use Rattle.counterexample.specs.Styles.{style_of}
use Rattle.counterexample.proofs.story.push_first.Goals as goal

pub returns-in_default : goal.returns-in_default
returns-in_default g c =
    let style = style_of c.args.style.now in
    let along = c.args.along.now in
    let i = c.args.place in
    let start = string_bytes c.args.text.now in
    let none = slice_get-map (λ us. map process_of us.items) along i ∙ ap (option_map (λ us. map process_of us.items)) (slice_get_past along i c.in_default.ensures.lookup.3) in
    sym (append-nil start) ∙ ap (λ ts. start ++ ts) (sym (none_there style (states_listed along) i none))

pub returns : goal.returns
returns g c =
    let style = style_of c.args.style.now in
    let along = c.args.along.now in
    let i = c.args.place in
    let us = c.in-Some.states.now in
    let look = c.in-Some.ensures.lookup in
    let lies = get_some (λ vs. map process_of vs.items) along i us (slice_get_read along (length along) i us refl look.3.0 look.1) in
    let same =
    ap (λ (vs : List (Term g.row.A.Denot)). specification_text style.names style.width style.few (map process_of vs)) c.deref.ensures.value
    ∙ sym (first_there style (states_listed along) i (map process_of us.items) lies) in
    alike c.push_specification.result (string_bytes c.args.text.now) (string_bytes c.push_specification.new.text) _ _ same c.push_specification.ensures
