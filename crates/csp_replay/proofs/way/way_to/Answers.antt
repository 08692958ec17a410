-- One layer back.
use Rattle.std.proofs.Common.{◌≡◌, ◌++◌, ◌∷◌, ℕ, [], List, length, map, reverse, take, drop, Some, sym, ◌∙◌, ap, subst, arith}
use Rattle.std.proofs.lemmas.List.{map-append, length-append, length-reverse, nil_from_length}
use Rattle.std.proofs.Math.Seq.{take-append_seam}
use Rattle.std.proofs.lemmas.Option.{slice_get_within, slice_get-get_or}
use Rattle.theory_syntax.specs.Process.{Process}
use Rattle.theory_runs.specs.Layers as runs
use Rattle.theory_runs.specs.States.{Visits}
use Rattle.theory_runs.proofs.Returning.{way_start, way_parent, way_back, way_end, reversed}
use Rattle.csp_term.specs.Term.{process_of}
use Rattle.csp_replay.specs.Layer.{layer_of, terms_of}
use Rattle.csp_replay.proofs.way.way_to.Goals as goal

-- a list that was written over its front
written_back : {X : Type 0} (n : ℕ) (xs ys rest : List X) → n ≡ length xs → ys ≡ reverse xs → take n (ys ++ rest) ≡ reverse xs
written_back n xs ys rest counted same = ap (λ k. take k (ys ++ rest)) (counted ∙ (sym (length-reverse xs) ∙ ap length (sym same))) ∙ (take-append_seam ys rest ∙ same)

pub loop-before-init : goal.loop-before-init
loop-before-init g c = λ script t path u ends.
    let layers = c.args.layers in
    let P : List Process → Type 0 = runs.IsOnWay script t path u (map layer_of layers.behind.items) (layer_of layers.last) c.args.end in
    subst P (sym (ap (map process_of) c.new-way.ensures.items)) (way_start script t path u (map layer_of layers.behind.items) (layer_of layers.last) c.args.end ends.layers_of ends.stands)

pub term-requires : goal.term-requires
term-requires g c =
    let r = c.requires in
    let way = c.loop-before.invariant r.0 r.1 r.2 r.3 r.4 in
    slice_get_within (terms_of c.loop-before.layer) c.loop-before.place way.here way.stands

pub index-place-requires : goal.index-place-requires
index-place-requires g c =
    let r = c.requires in
    let way = c.loop-before.invariant r.0 r.1 r.2 r.3 r.4 in
    let split = ap (map layer_of) c.in-Some.ensures.items ∙ map-append layer_of c.pop.new.self.items (c.in-Some.before ∷ []) in
    let inside = way_parent r.0 r.1 r.2 r.3 (map layer_of c.loop-before.behind.items) (map layer_of c.pop.new.self.items) (layer_of c.loop-before.layer) (layer_of c.in-Some.before) c.loop-before.place (map process_of c.loop-before.way.items) way split in
    omega (arith, inside, c.loop-before.layer.parents.ok.0)

pub loop-before-preserved : goal.loop-before-preserved
loop-before-preserved g c = λ script t path u ends.
    let way = c.loop-before.invariant script t path u ends in
    let behind = map layer_of c.loop-before.behind.items in
    let rest = map layer_of c.pop.new.self.items in
    let l = layer_of c.loop-before.layer in
    let m = layer_of c.in-Some.before in
    let place = c.loop-before.place in
    let states = map process_of c.loop-before.way.items in
    let here = process_of c.in_ok-term.term in
    let split = ap (map layer_of) c.in-Some.ensures.items ∙ map-append layer_of c.pop.new.self.items (c.in-Some.before ∷ []) in
    let kept = slice_get-get_or l.1 place c.index-place.result.now (way_parent script t path u behind rest l m place states way split) ∙ ap Some (sym c.index-place.ensures) in
    let told = c.term.ensures ∙ ap Some (sym c.in_ok-term.ensures) in
    let more = ap (map process_of) c.in_ok-push.ensures.items ∙ map-append process_of c.loop-before.way.items (c.in_ok-term.term ∷ []) in
    let P : List Process → Type 0 = runs.IsOnWay script t path u rest m c.index-place.result.now in
    subst P (sym more) (way_back script t path u behind rest l m place c.index-place.result.now states here way split kept told)

pub loop-before-smaller : goal.loop-before-smaller
loop-before-smaller g c = let e = ap length c.in-Some.ensures.items in let f = length-append c.pop.new.self.items (c.in-Some.before ∷ []) in omega (arith, e, f)

pub term-requires-2 : goal.term-requires-2
term-requires-2 g c =
    let r = c.requires in
    let way = c.loop-before.invariant r.0 r.1 r.2 r.3 r.4 in
    slice_get_within (terms_of c.loop-before.layer) c.loop-before.place way.here way.stands

pub returns : goal.returns
returns g c = λ script t path u ends.
    let way = c.loop-before.invariant script t path u ends in
    let items = c.push-2.new.self.items in
    let place = c.loop-before.place in
    let states = map process_of c.loop-before.way.items in
    let l = layer_of c.loop-before.layer in
    let none = nil_from_length c.loop-before.behind.items (let e = c.in_default.ensures.cases in omega (arith, e.0, c.loop-before.behind.ok.0)) in
    let Behind : List runs.Layer → Type 0 = λ b. runs.IsOnWay script t path u b l place states in
    let told = c.term-2.ensures ∙ ap Some (sym c.in_ok-first.ensures) in
    let visits = way_end script t path u l place states (process_of c.in_ok-first.first) (subst Behind (ap (map layer_of) none) way) told in
    let more = ap (map process_of) c.in_ok-push-2.ensures.items ∙ map-append process_of c.loop-before.way.items (c.in_ok-first.first ∷ []) in
    let same = c.reverse.ensures.after ∙ ap reverse c.as_mut_slice.ensures.value in
    let back = written_back c.push-2.new.self.len items c.reverse.new.self (drop (length c.reverse.new.self) items) (omega (arith, c.push-2.new.self.ok.0)) same in
    let P : List Process → Type 0 = λ ss. Visits script t path ss u in
    subst P (sym (ap (map process_of) back ∙ (reversed process_of items ∙ ap reverse more))) visits
