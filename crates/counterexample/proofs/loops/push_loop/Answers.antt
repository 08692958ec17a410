-- One more tau is told, or how many are left out.
use Rattle.std.proofs.Common.{◌≡◌, ℕ, List, [], ◌+◌, ◌-◌, ◌<◌, ◌++◌, length, map, option_map, Option, Some, slice_get, refl, sym, ◌∙◌, ap, inl, inr, lit<, arith}
use Rattle.std.proofs.lemmas.List.{length-map}
use Rattle.std.proofs.lemmas.Option.{slice_get-get_or, slice_get-map, slice_get_past, slice_get_read}
use Rattle.std.specs.String.{string_bytes}
use Rattle.theory_syntax.proofs.Places.{get_some}
use Rattle.csp_term.specs.Term.{process_of}
use Rattle.csp_term.specs.declared.term.Term.{Term}
use Rattle.csp_moves.specs.Origin.{origin_of}
use Rattle.csp_moves.specs.declared.origin.Origin.{Origin}
use Rattle.theory_syntax.specs.Value.{Tau}
use Rattle.theory_explanation.specs.Loops.{few_taus, left_out_line, taus_told}
use Rattle.theory_explanation.specs.Legend.{legend}
use Rattle.theory_explanation.specs.PartNames as names
use Rattle.theory_explanation.specs.PartNames.{names_along, part_names_behind}
use Rattle.theory_explanation.specs.Steps.{step_line}
use Rattle.csp_print.proofs.Writing.{alike, comes_to_end, goes_on}
use Rattle.counterexample.specs.Counterexample.{loop_of, origins_listed}
use Rattle.counterexample.specs.Styles.{style_of}
use Rattle.counterexample.specs.PartNames.{part_names_listed}
use Rattle.counterexample.specs.declared.part_names.PartName.{PartName}
use Rattle.counterexample.specs.Loops.{next_text}
use Rattle.counterexample.proofs.LoopTexts.{lent_at, loop_whole, no_loop_left, no_tau_left, taus_cut_within, taus_left, taus_next, taus_whole}
use Rattle.counterexample.proofs.Putting.{put_last}
use Rattle.counterexample.proofs.loops.push_loop.Goals as goal

pub array_drop-tau-requires : goal.array_drop-tau-requires
array_drop-tau-requires g c = elim g.met.A.AllocHandle.small [ inl e ↦ rw (e.0, e.1) (lit< tt) | inr e ↦ rw (e.0, e.1) (lit< tt) ]

pub array_drop-tau-requires-in_err-push_next : goal.array_drop-tau-requires-in_err-push_next
array_drop-tau-requires-in_err-push_next g c = elim g.met.A.AllocHandle.small [ inl e ↦ rw (e.0, e.1) (lit< tt) | inr e ↦ rw (e.0, e.1) (lit< tt) ]

pub array_drop-tau-requires-in_err-put_unfolded : goal.array_drop-tau-requires-in_err-put_unfolded
array_drop-tau-requires-in_err-put_unfolded g c = elim g.met.A.AllocHandle.small [ inl e ↦ rw (e.0, e.1) (lit< tt) | inr e ↦ rw (e.0, e.1) (lit< tt) ]

pub loop-place-init : goal.loop-place-init
loop-place-init g c =
    let style = style_of c.args.style.now in
    let n = c.args.number in
    let loop = loop_of c.args.looping.now in
    let few = c.taus_told-told.result in
    let start = string_bytes c.args.text.now in
    let first = names_along [] (origins_listed c.args.before.now) in
    record {
      few = omega arith;
      text =
          ap (λ (ps : List names.PartName). start ++ taus_left style few (n + 1) (n + loop.back) loop.states loop.origins 0 ps) c.in_ok-parts.ensures
          ∙ ap (λ (ts : List ℕ). start ++ ts) (taus_whole style few (n + 1) (n + loop.back) first loop.states loop.origins);
    }

pub returns-in_default : goal.returns-in_default
returns-in_default g c =
    let style = style_of c.args.style.now in
    let n = c.args.number in
    let l = c.args.looping.now in
    let loop = loop_of l in
    let few = c.taus_told-told.result in
    let i = c.loop-place.place in
    let parts = part_names_listed c.loop-place.parts.items in
    let first = names_along [] (origins_listed c.args.before.now) in
    let start = string_bytes c.args.text.now in
    let now = string_bytes c.loop-place.text in
    let same = c.taus_told-told.ensures ∙ ap (λ (ts : List (Term g.row.A.Denot)). taus_told style.taus (map process_of ts)) c.deref.ensures.value in
    let os = c.deref-in-loop-place.result.now in
    let past = slice_get-map (λ o. option_map origin_of o) os i ∙ ap (option_map (λ o. option_map origin_of o)) (slice_get_past os i c.in_default.ensures.lookup.3) in
    let none = ap (λ (xs : List (Option (Origin g.row.A.Denot))). slice_get (origins_listed xs) i) (sym c.deref-in-loop-place.ensures.value) ∙ past in
    comes_to_end start now (taus_left style few (n + 1) (n + l.back) loop.states loop.origins i parts) (few_taus style few (n + 1) (n + l.back) first loop.states loop.origins) c.loop-place.invariant.text
    (no_tau_left style few (n + 1) (n + l.back) loop.states loop.origins i parts none)
    ∙ ap (λ ts. start ++ ts) (loop_whole style n few first loop same)

pub returns-then-place-told : goal.returns-then-place-told
returns-then-place-told g c =
    let style = style_of c.args.style.now in
    let n = c.args.number in
    let l = c.args.looping.now in
    let loop = loop_of l in
    let few = c.taus_told-told.result in
    let i = c.loop-place.place in
    let parts = part_names_listed c.loop-place.parts.items in
    let first = names_along [] (origins_listed c.args.before.now) in
    let r = c.push_left_out.result in
    let start = string_bytes c.args.text.now in
    let now = string_bytes c.loop-place.text in
    let all = string_bytes c.push_left_out.new.text in
    let same = c.taus_told-told.ensures ∙ ap (λ (ts : List (Term g.row.A.Denot)). taus_told style.taus (map process_of ts)) c.deref.ensures.value in
    let found = c.in-Some.ensures.lookup in
    let os = c.deref-in-loop-place.result.now in
    let read = get_some (λ o. option_map origin_of o) os i c.in-Some.origin.now (slice_get_read os (length os) i c.in-Some.origin.now refl found.3.0 found.1) in
    let told = ap (λ (xs : List (Option (Origin g.row.A.Denot))). slice_get (origins_listed xs) i) (sym c.deref-in-loop-place.ensures.value) ∙ read in
    let long = c.len-count.ensures in
    let low = c.loop-place-test.true in
    let mapped = length-map l.states.items process_of in
    let here : i < length loop.states = omega (arith, long, low, mapped) in
    let place : i ≡ few = c.if-place-told.true in
    let number : length loop.states - i ≡ c.len-count.result - i = omega (arith, long, mapped) in
    alike r start all _ _ (loop_whole style n few first loop same)
    (put_last r start now all (left_out_line (c.len-count.result - i) (n + l.back)) (taus_left style few (n + 1) (n + l.back) loop.states loop.origins i parts) (few_taus style few (n + 1) (n + l.back) first loop.states loop.origins)
    c.loop-place.invariant.text (taus_cut_within style few (n + 1) (n + l.back) loop.states loop.origins i parts _ here told (sym place) ∙ ap (λ k. left_out_line k (n + l.back)) number) c.push_left_out.ensures)

pub loop-place-preserved : goal.loop-place-preserved
loop-place-preserved g c =
    let style = style_of c.args.style.now in
    let n = c.args.number in
    let l = c.args.looping.now in
    let loop = loop_of l in
    let few = c.taus_told-told.result in
    let back = n + l.back in
    let i = c.loop-place.place in
    let parts = part_names_listed c.loop-place.parts.items in
    let first = names_along [] (origins_listed c.args.before.now) in
    let now = string_bytes c.loop-place.text in
    let one = string_bytes c.push_step.new.text in
    let all = string_bytes c.push_next.new.text in
    let found = c.in-Some.ensures.lookup in
    let os = c.deref-in-loop-place.result.now in
    let read = get_some (λ o. option_map origin_of o) os i c.in-Some.origin.now (slice_get_read os (length os) i c.in-Some.origin.now refl found.3.0 found.1) in
    let told = ap (λ (xs : List (Option (Origin g.row.A.Denot))). slice_get (origins_listed xs) i) (sym c.deref-in-loop-place.ensures.value) ∙ read in
    let o = option_map origin_of c.in-Some.origin.now in
    let s = c.index.result.now in
    let long = c.len-count.ensures in
    let below = c.loop-place-test.true in
    let whole = l.states.ok.0 in
    let here = get_some process_of l.states.items i s (slice_get-get_or l.states.items i s (omega (arith, long, below, whole)) ∙ ap Some (sym c.index.ensures)) in
    let most = c.loop-place.invariant.few in
    let other = c.if-place-told.false in
    let low : i < few = omega (arith, most, other) in
    let t = c.get-next.result in
    let next = lent_at process_of c.deref-in-loop-place-3.result.now (i + 1) t c.get-next.ensures.lookup ∙ ap (λ (ts : List (Term g.row.A.Denot)). slice_get (map process_of ts) (i + 1)) c.deref-in-loop-place-3.ensures.value in
    let second : all ≡ one ++ next_text style back (process_of s) (slice_get loop.states (i + 1)) = c.in_ok-push_next.ensures ∙ ap (λ u. one ++ next_text style back (process_of s) u) next in
    let more = part_names_behind parts o in
    let named : part_names_listed c.put_unfolded.new.parts.items ≡ more = c.in_ok-put_unfolded.ensures in
    let line = step_line (legend style.names parts) (n + 1 + i) Tau o [] in
    let listed = ap (λ (ps : List (PartName g.row.A.Denot)). part_names_listed ps) c.deref-in-loop-place-2.ensures.value in
    let put : one ≡ now ++ line = c.in_ok-push_step.ensures ∙ ap (λ (ps : List names.PartName). now ++ step_line (legend style.names ps) (n + 1 + i) Tau o []) listed in
    record {
      few = omega (arith, low);
      text =
          ap (λ (ps : List names.PartName). all ++ taus_left style few (n + 1) back loop.states loop.origins (i + 1) ps) named
          ∙ goes_on now one all line (next_text style back (process_of s) (slice_get loop.states (i + 1)))
          (taus_left style few (n + 1) back loop.states loop.origins i parts) (taus_left style few (n + 1) back loop.states loop.origins (i + 1) more)
          (string_bytes c.args.text.now ++ few_taus style few (n + 1) back first loop.states loop.origins) c.loop-place.invariant.text
          (taus_next style few (n + 1) back loop.states loop.origins i parts (process_of s) o here told low) put second;
    }

pub returns : goal.returns
returns g c =
    let style = style_of c.args.style.now in
    let n = c.args.number in
    let l = c.args.looping.now in
    let loop = loop_of l in
    let few = c.taus_told-told.result in
    let i = c.loop-place.place in
    let parts = part_names_listed c.loop-place.parts.items in
    let first = names_along [] (origins_listed c.args.before.now) in
    let start = string_bytes c.args.text.now in
    let now = string_bytes c.loop-place.text in
    let same = c.taus_told-told.ensures ∙ ap (λ (ts : List (Term g.row.A.Denot)). taus_told style.taus (map process_of ts)) c.deref.ensures.value in
    let long = c.len-count.ensures in
    let past = c.loop-place-test.false in
    let mapped = length-map l.states.items process_of in
    comes_to_end start now (taus_left style few (n + 1) (n + l.back) loop.states loop.origins i parts) (few_taus style few (n + 1) (n + l.back) first loop.states loop.origins) c.loop-place.invariant.text
    (no_loop_left style few (n + 1) (n + l.back) loop.states loop.origins i parts (omega (arith, long, past, mapped)))
    ∙ ap (λ ts. start ++ ts) (loop_whole style n few first loop same)
