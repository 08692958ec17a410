-- The texts one behind the other.
use Rattle.std.proofs.Common.{◌≡◌, ◌++◌, [], List, length, map, decimal, sym, ◌∙◌, ap, subst, arith, inl, inr, lit≤}
use Rattle.std.proofs.lemmas.List.{length-map}
use Rattle.std.specs.Prelude.{codes}
use Rattle.std.specs.String.{string_bytes}
use Rattle.theory_notation.specs.Processes.{process_text}
use Rattle.theory_explanation.specs.Cutting.{cut}
use Rattle.theory_explanation.specs.Legend.{legend}
use Rattle.theory_explanation.specs.PartNames as pure
use Rattle.theory_explanation.specs.PartNames.{names_along}
use Rattle.theory_explanation.specs.Steps.{state_line}
use Rattle.theory_walk.specs.Trails.{behind as leads, here, part_names}
use Rattle.theory_walk.specs.Views.{menu_lines}
use Rattle.csp_term.specs.Term.{process_of}
use Rattle.csp_print.specs.Names.{names_of}
use Rattle.csp_print.proofs.Writing.{alike, behind}
use Rattle.counterexample.specs.PartNames.{part_names_listed}
use Rattle.counterexample.specs.Widths.{width_of}
use Rattle.counterexample.specs.declared.part_names.PartName.{PartName}
use Rattle.state_walk.specs.Walks.{menu_of, move_of, moves_listed, origin_in, trail_of}
use Rattle.state_walk.specs.declared.menu.Move.{Move}
use Rattle.state_walk.proofs.Viewing.{same_origins}
use Rattle.state_walk.proofs.walk.Walk.push_view.Goals as goal

pub returns : goal.returns
returns g c =
    let w = c.args.self.now in
    let names = names_of c.args.names.now in
    let width = width_of c.args.width in
    let trail = trail_of w in
    let t = process_of c.behind-state.result.now in
    let r = c.push_menu.result in
    let start = string_bytes c.args.text.now in
    let one = string_bytes c.push_mark.new.text in
    let two = string_bytes c.push_number.new.text in
    let three = string_bytes c.push_mark-2.new.text in
    let four = string_bytes c.push_state.new.text in
    let all = string_bytes c.push_menu.new.text in
    let count = decimal (length trail.taken) in
    let line = state_line (cut width (process_text names (here trail))) in
    let menu = menu_lines (legend names (part_names trail)) (here trail) (menu_of w.menu) in
    let ok = w.taken.ok.0 in
    let same_length = length-map w.taken.items move_of in
    let counted : c.len.result ≡ length trail.taken = let len = c.len.ensures in omega (arith, len, ok, same_length) in
    let there : t ≡ here trail =
    c.behind-state.ensures ∙ ap (λ (ms : List (Move g.row.A.Denot)). leads (process_of w.start) (moves_listed ms)) c.deref.ensures.value in
    let parts : part_names_listed c.deref-3.result.now ≡ part_names trail =
    ap (λ (ps : List (PartName g.row.A.Denot)). part_names_listed ps) c.deref-3.ensures.value ∙ c.in_ok-parts.ensures
    ∙ ap (λ (ms : List (Move g.row.A.Denot)). names_along [] (map origin_in ms)) c.deref-2.ensures.value ∙ ap (names_along []) (same_origins w.taken.items) in
    behind r start one all (codes "state ") (count ++ (codes "\n" ++ (line ++ menu))) c.in_ok-push_mark.ensures
    (behind r one two all count (codes "\n" ++ (line ++ menu)) (c.in_ok-push_number.ensures ∙ ap (λ n. one ++ decimal n) counted)
    (behind r two three all (codes "\n") (line ++ menu) c.in_ok-push_mark-2.ensures
    (behind r three four all line menu (c.in_ok-push_state.ensures ∙ ap (λ u. three ++ state_line (cut width (process_text names u))) there)
    (alike r four all _ menu (ap (λ (ps : List pure.PartName). menu_lines (legend names ps) t (menu_of w.menu)) parts ∙ ap (λ u. menu_lines (legend names (part_names trail)) u (menu_of w.menu)) there) c.push_menu.ensures))))

pub behind-state-requires : goal.behind-state-requires
behind-state-requires g c = elim g.met.A.AllocHandle.small [ inl e ↦ rw (e.0, e.1) (search (lit≤)) | inr e ↦ rw (e.0, e.1) (search (lit≤)) ]

pub part_names-requires : goal.part_names-requires
part_names-requires g c = elim g.met.A.AllocHandle.small [ inl e ↦ rw (e.0, e.1) (search (lit≤)) | inr e ↦ rw (e.0, e.1) (search (lit≤)) ]
