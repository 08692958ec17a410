-- A step is put with the state behind the names that are unfolded then, or was told with the one before.
use Rattle.std.proofs.Common.{◌≡◌, ℕ, ◌+◌, List, ◌++◌, length, drop, map, option_map, Some, refl, sym, ◌∙◌, ap, ap₂, append_assoc, inl, inr, lit≤}
use Rattle.std.proofs.lemmas.List.{drop-map, length-map, take_rest}
use Rattle.std.proofs.lemmas.Option.{slice_get-get_or, slice_get-map, slice_get_past, slice_get_read}
use Rattle.std.specs.String.{string_bytes}
use Rattle.theory_syntax.specs.Process.{Process}
use Rattle.theory_syntax.specs.Value as pure
use Rattle.theory_syntax.proofs.Places.{get_some}
use Rattle.csp_value.specs.Action.{action_of}
use Rattle.csp_term.specs.Term.{process_of}
use Rattle.csp_moves.specs.Origin.{origin_of}
use Rattle.theory_explanation.specs.Cutting.{Width}
use Rattle.theory_explanation.specs.Folding.{folded, state_behind}
use Rattle.theory_explanation.specs.Legend.{legend}
use Rattle.theory_explanation.specs.PartNames as names
use Rattle.theory_explanation.specs.PartNames.{part_names_behind}
use Rattle.theory_explanation.specs.Steps.{behind_line, beside_text, step_line, width_before}
use Rattle.theory_explanation.proofs.Comparings.{no_origin_left, no_state_left, step_folded, step_left, steps_left}
use Rattle.csp_print.proofs.Writing.{comes_to_end}
use Rattle.csp_replay.specs.Along.{states_listed}
use Rattle.counterexample.specs.Counterexample.{origins_listed}
use Rattle.counterexample.specs.Folding.{equations_listed}
use Rattle.counterexample.specs.PartNames.{part_names_listed}
use Rattle.counterexample.specs.declared.part_names.PartName.{PartName}
use Rattle.counterexample.specs.Stories.{steps_of}
use Rattle.counterexample.specs.Styles.{style_of}
use Rattle.counterexample.specs.Widths.{width_of}
use Rattle.counterexample.proofs.Putting.{goes_on_by_three}
use Rattle.counterexample.proofs.story.push_steps.Goals as goal
use Rattle.counterexample.proofs.story.push_steps.Goals.{then-not-is_folded+in_ok-equations+in_ok-push_step+in_ok-push_behind+in_ok-push_beside, else-not-is_folded}

pub loop-place-init : goal.loop-place-init
loop-place-init g c =
    let story = c.args.story.now in
    let start = string_bytes c.args.text.now in
    let left = steps_left (style_of c.args.style.now) (map action_of story.path.now) (map process_of story.states.now) (origins_listed story.origins.now) (states_listed story.along.now) 0 (process_of c.args.state.now) in
    ap (λ (ps : List (PartName g.row.A.Denot)). start ++ left (part_names_listed ps)) c.new-parts.ensures.items

pub returns-in_default : goal.returns-in_default
returns-in_default g c =
    let style = style_of c.args.style.now in
    let story = c.args.story.now in
    let path = map action_of story.path.now in
    let states = map process_of story.states.now in
    let origins = origins_listed story.origins.now in
    let along = states_listed story.along.now in
    let i = c.loop-place.place in
    let told = process_of c.loop-place.told.now in
    let parts = part_names_listed c.loop-place.parts.items in
    let none = slice_get-map process_of story.states.now i ∙ ap (option_map process_of) (slice_get_past story.states.now i c.in_default.ensures.lookup.3) in
    comes_to_end (string_bytes c.args.text.now) (string_bytes c.loop-place.text) (steps_left style path states origins along i told parts) (steps_of style story (process_of c.args.state.now)) c.loop-place.invariant
    (no_state_left style path states origins along i told parts none)

pub returns-in_default-found : goal.returns-in_default-found
returns-in_default-found g c =
    let style = style_of c.args.style.now in
    let story = c.args.story.now in
    let path = map action_of story.path.now in
    let states = map process_of story.states.now in
    let origins = origins_listed story.origins.now in
    let along = states_listed story.along.now in
    let i = c.loop-place.place in
    let told = process_of c.loop-place.told.now in
    let parts = part_names_listed c.loop-place.parts.items in
    let none = slice_get-map (λ p. option_map origin_of p) story.origins.now i ∙ ap (option_map (λ p. option_map origin_of p)) (slice_get_past story.origins.now i c.in_default-found.ensures.lookup.3) in
    comes_to_end (string_bytes c.args.text.now) (string_bytes c.loop-place.text) (steps_left style path states origins along i told parts) (steps_of style story (process_of c.args.state.now)) c.loop-place.invariant
    (no_origin_left style path states origins along i told parts none)

pub loop-place-preserved : goal.loop-place-preserved
loop-place-preserved g c =
    let style = style_of c.args.style.now in
    let story = c.args.story.now in
    let path = map action_of story.path.now in
    let states = map process_of story.states.now in
    let origins = origins_listed story.origins.now in
    let along = states_listed story.along.now in
    let i = c.loop-place.place in
    let told = process_of c.loop-place.told.now in
    let parts = part_names_listed c.loop-place.parts.items in
    let x = c.action-item.result in
    let t = process_of c.in-Some.state.now in
    let o = option_map origin_of c.in-Some-found.origin.now in
    let more = part_names_behind parts o in
    let named : part_names_listed c.put_unfolded.new.parts.items ≡ more = c.in_ok-put_unfolded.ensures in
    let next = c.in-Some.ensures.lookup in
    let look = c.in-Some-found.ensures.lookup in
    let does = get_some action_of story.path.now i x (slice_get-get_or story.path.now i x c.loop-place-test.true ∙ ap Some (sym c.action-item.is)) in
    let stands = get_some process_of story.states.now i c.in-Some.state.now (slice_get_read story.states.now (length story.states.now) i c.in-Some.state.now refl next.3.0 next.1) in
    let from = get_some (λ p. option_map origin_of p) story.origins.now i c.in-Some-found.origin.now
    (slice_get_read story.origins.now (length story.origins.now) i c.in-Some-found.origin.now refl look.3.0 look.1) in
    let now = string_bytes c.loop-place.text in
    let here = steps_left style path states origins along i told parts in
    let whole = string_bytes c.args.text.now ++ steps_of style story (process_of c.args.state.now) in
    elim c.if-not-is_folded.branch [
      | then-not-is_folded+in_ok-equations+in_ok-push_step+in_ok-push_behind+in_ok-push_beside w ↦
          let alone = sym c.is_folded.ensures ∙ w.if-not-is_folded.true in
          let found = w.in_ok-equations.equations in
          let ns = folded style.telling (drop (i + 1) origins) in
          let called : equations_listed found.items ≡ ns =
          w.in_ok-equations.ensures ∙ ap (folded style.telling) (ap origins_listed (take_rest story.origins.now (i + 1)) ∙ sym (drop-map (λ p. option_map origin_of p) (i + 1) story.origins.now)) in
          let many : length found.items ≡ length ns = sym (length-map found.items (λ n. n.0)) ∙ ap length called in
          let after = state_behind (length ns) t (drop (i + 1) states) in
          let rest_states = ap (map process_of) (take_rest story.states.now (i + 1)) ∙ sym (drop-map process_of (i + 1) story.states.now) in
          let rest_path = ap (map action_of) (take_rest story.path.now (i + 1)) ∙ sym (drop-map action_of (i + 1) story.path.now) in
          let behind : process_of w.state_behind-behind.result.now ≡ after =
          w.state_behind-behind.ensures ∙ ap₂ (λ (n : ℕ) (us : List Process). state_behind n t us) (w.len.ensures ∙ found.ok.0 ∙ many) rest_states in
          let width = width_before style.width (drop (length ns) (drop (i + 1) path)) in
          let wide : width_of w.width_behind-width.result ≡ width =
          w.width_behind-width.ensures ∙ ap₂ (λ (n : ℕ) (xs : List pure.Action). width_before style.width (drop n xs)) (w.len-then-not-is_folded.ensures ∙ found.ok.0 ∙ many) rest_path in
          let line = step_line (legend style.names parts) (i + 1) (action_of x) o ns in
          let changed = behind_line style.names width told after in
          let aside = beside_text style (action_of x) (drop (i + 1) along) in
          let one = string_bytes w.push_step.new.text in
          let two = string_bytes w.push_behind.new.text in
          let three = string_bytes w.push_beside.new.text in
          let listed = ap (λ (ps : List (PartName g.row.A.Denot)). part_names_listed ps) w.deref-then-not-is_folded.ensures.value in
          let first : one ≡ now ++ line =
          w.in_ok-push_step.ensures ∙ ap₂ (λ (ps : List names.PartName) (es : List ℕ). now ++ step_line (legend style.names ps) (i + 1) (action_of x) o es) listed (ap equations_listed w.deref.ensures.value ∙ called) in
          let second : two ≡ one ++ changed = w.in_ok-push_behind.ensures ∙ ap₂ (λ (wd : Width) (u : Process). one ++ behind_line style.names wd told u) wide behind in
          let rest = steps_left style path states origins along (i + 1) after more in
          let is : here ≡ line ++ (changed ++ (aside ++ rest)) = step_left style path states origins along i told parts (action_of x) t o does stands from alone ∙ append_assoc line changed (aside ++ rest) in
          rw (w.text-is, w.told-is) (ap₂ (λ (u : Process) (ps : List names.PartName). three ++ steps_left style path states origins along (i + 1) u ps) behind named
          ∙ goes_on_by_three now one two three line changed aside here rest whole c.loop-place.invariant is first second w.in_ok-push_beside.ensures)
      | else-not-is_folded w ↦
          let with_it = sym c.is_folded.ensures ∙ w.if-not-is_folded.false in
          rw (w.text-is, w.told-is) (ap (λ (ps : List names.PartName). now ++ steps_left style path states origins along (i + 1) told ps) named
          ∙ ap (λ (ts : List ℕ). now ++ ts) (sym (step_folded style path states origins along i told parts (action_of x) t o does stands from with_it)) ∙ c.loop-place.invariant)
    ]

pub is_folded-requires : goal.is_folded-requires
is_folded-requires g c = elim g.met.A.AllocHandle.small [ inl e ↦ rw (e.0, e.1) (search (lit≤)) | inr e ↦ rw (e.0, e.1) (search (lit≤)) ]

pub folded-requires : goal.folded-requires
folded-requires g c = elim g.met.A.AllocHandle.small [ inl e ↦ rw (e.0, e.1) (search (lit≤)) | inr e ↦ rw (e.0, e.1) (search (lit≤)) ]

pub width_behind-width-requires : goal.width_behind-width-requires
width_behind-width-requires g c = elim g.met.A.AllocHandle.small [ inl e ↦ rw (e.0, e.1) (search (lit≤)) | inr e ↦ rw (e.0, e.1) (search (lit≤)) ]

pub push_beside-requires : goal.push_beside-requires
push_beside-requires g c = elim g.met.A.AllocHandle.small [ inl e ↦ rw (e.0, e.1) (search (lit≤)) | inr e ↦ rw (e.0, e.1) (search (lit≤)) ]

pub put_unfolded-requires : goal.put_unfolded-requires
put_unfolded-requires g c = elim g.met.A.AllocHandle.small [ inl e ↦ rw (e.0, e.1) (search (lit≤)) | inr e ↦ rw (e.0, e.1) (search (lit≤)) ]
