-- What is told along the ways is told of the step.
use Rattle.std.proofs.Common.{rules, ◌≡◌, true, false, IfOk, ◌∷◌, ◌++◌, [], take, List, map, refl, sym, ◌∙◌, ap, ap₂, subst, inl, inr, lit<, arith, Option, Some, None}
use Rattle.std.specs.List.{AllByRecursion}
use Rattle.std.proofs.Math.Nat.{le-max_left, le-max_right}
use Rattle.std.proofs.lemmas.List.{map-append, take_all, take_more}
use Rattle.csp_term.specs.Script.{script_of_parts}
use Rattle.csp_term.specs.Term.{process_of}
use Rattle.theory_origins.specs.Origin as pure
use Rattle.theory_origins.specs.Ways as meaning
use Rattle.theory_origins.specs.Ways.{AreWays, TellsBy, TellsTo, way_weight}
use Rattle.theory_origins.specs.Weight.{weight}
use Rattle.csp_term.specs.declared.term.Term.{Term}
use Rattle.csp_moves.specs.declared.origin.Origin.TheVariants as views
use Rattle.csp_moves.specs.declared.way.Way.{Way}
use denote.Ref.{Bor}
use Rattle.csp_moves.specs.Finding.{origin_found}
use Rattle.csp_moves.specs.Origin.{origin_of}
use Rattle.csp_moves.specs.Way.{lent_action, lent_process, way_of}
use Rattle.csp_moves.proofs.Along.{contains_at, most_below, one_below, one_more, told_along}
use Rattle.csp_moves.proofs.Found.{if_so}
use Rattle.csp_moves.proofs.Origins.{found_along, none_along, of_below, of_chooses, of_does, of_ends, of_slides, of_together, of_unfolds}
use Rattle.csp_moves.proofs.finding.+origin.Goals as goal

pub origin_of_step-returns-then-not-fits : goal.origin_of_step-returns-then-not-fits
origin_of_step-returns-then-not-fits g t c clear within step =
    let e : true ≡ false = sym within ∙ sym c.fits.ensures ∙ c.if-not-fits.true in absurd (cc e)

pub origin_of_step-returns : goal.origin_of_step-returns
origin_of_step-returns g t c =
    let s = script_of_parts c.args.script.now in
    let p = process_of c.args.term.now in
    let x = lent_action c.args.action in
    let u = process_of c.args.target.now in
    let P : List (Way g.row.A.Denot) → Type 0 = λ ws. AreWays s p x u (map way_of ws) in
    if_so c.first_along-found.result c.first_along-found.ensures
    (λ found along. told_along s p x u (map way_of c.deref.result.now) (origin_found found) (subst P (sym c.deref.ensures.value) c.in_ok-ways.ensures) along)

pub first_along-loop-way-init : goal.first_along-loop-way-init
first_along-loop-way-init g t c = tt

pub first_along-returns-then-is_some : goal.first_along-returns-then-is_some
first_along-returns-then-is_some g t c =
    let s = script_of_parts c.args.script.now in
    found_along s (map way_of c.args.ways.now) (way_of c.way-item.result) (contains_at way_of c.args.ways.now c.loop-way.way-index c.way-item.result c.loop-way-test.true c.way-item.is)
    c.in_ok-found.found c.is_some.result c.is_some.ensures c.if-is_some.true c.in_ok-found.ensures

pub first_along-loop-way-preserved : goal.first_along-loop-way-preserved
first_along-loop-way-preserved g t c =
    let s = script_of_parts c.args.script.now in
    let items = c.args.ways.now in
    let i = c.loop-way.way-index in
    let item = c.way-item.result in
    let none = none_along s (map way_of items) (way_of item) c.in_ok-found.found c.is_some.result c.is_some.ensures c.if-is_some.false c.in_ok-found.ensures in
    let P : List meaning.Way → Type 0 = λ ws. AllByRecursion (λ way. TellsBy s way None) ws in
    subst P (sym (ap (map way_of) (take_more items i item c.loop-way-test.true ∙ ap (λ z. take i items ++ z ∷ []) (sym c.way-item.is)) ∙ map-append way_of (take i items) (item ∷ [])))
    (one_more (λ way. TellsBy s way None) (map way_of (take i items)) (way_of item) c.loop-way.invariant none)

pub first_along-returns : goal.first_along-returns
first_along-returns g t c =
    let s = script_of_parts c.args.script.now in
    let P : List (Way g.row.A.Denot) → Type 0 = λ ws. AllByRecursion (λ way. TellsBy s way None) (map way_of ws) in
    subst P (take_all c.loop-way.way-index c.args.ways.now c.loop-way-test.false) c.loop-way.invariant

-- ---- along a way

pub along-returns-in_ok-try_copy-in-Does : goal.along-returns-in_ok-try_copy-in-Does
along-returns-in_ok-try_copy-in-Does g t c =
    let s = script_of_parts c.args.script.now in
    let copy = c.in_ok-try_copy-in-Does.field-0 in
    let P : Way g.row.A.Denot → Type 0 = λ w. TellsBy s (way_of w) (origin_found (Some (views.Does copy))) in
    subst P (sym c.in-Does.is) (ap Some (of_does g.row.A.Denot copy ∙ ap pure.Does c.in_ok-try_copy-in-Does.ensures))

pub along-returns-in-Ends : goal.along-returns-in-Ends
along-returns-in-Ends g t c =
    let s = script_of_parts c.args.script.now in
    let P : Way g.row.A.Denot → Type 0 = λ w. TellsBy s (way_of w) (origin_found (Some views.Ends)) in
    subst P (sym c.in-Ends.is) (ap Some (of_ends g.row.A.Denot))

pub along-returns-in-Unfolds : goal.along-returns-in-Unfolds
along-returns-in-Unfolds g t c =
    let s = script_of_parts c.args.script.now in
    let P : Way g.row.A.Denot → Type 0 = λ w. TellsBy s (way_of w) (origin_found (Some (views.Unfolds c.in-Unfolds.equation))) in
    subst P (sym c.in-Unfolds.is) (ap Some (of_unfolds g.row.A.Denot c.in-Unfolds.equation))

pub along-returns-in-Chooses : goal.along-returns-in-Chooses
along-returns-in-Chooses g t c =
    let s = script_of_parts c.args.script.now in
    let P : Way g.row.A.Denot → Type 0 = λ w. TellsBy s (way_of w) (origin_found (Some (views.Chooses c.in-Chooses.side))) in
    subst P (sym c.in-Chooses.is) (ap Some (of_chooses g.row.A.Denot c.in-Chooses.side))

pub along-returns-in-Slides : goal.along-returns-in-Slides
along-returns-in-Slides g t c =
    let s = script_of_parts c.args.script.now in
    let P : Way g.row.A.Denot → Type 0 = λ w. TellsBy s (way_of w) (origin_found (Some views.Slides)) in
    subst P (sym c.in-Slides.is) (ap Some (of_slides g.row.A.Denot))

pub along-returns-in-Through : goal.along-returns-in-Through
along-returns-in-Through g t c =
    let s = script_of_parts c.args.script.now in
    let P : Way g.row.A.Denot → Type 0 = λ w. IfOk c.through.result (λ found. TellsBy s (way_of w) (origin_found found)) in
    subst P (sym c.in-Through.is) c.through.ensures

pub along-returns-in-Both : goal.along-returns-in-Both
along-returns-in-Both g t c =
    let s = script_of_parts c.args.script.now in
    let P : Way g.row.A.Denot → Type 0 = λ w. IfOk c.of_both.result (λ found. TellsBy s (way_of w) (origin_found found)) in
    subst P (sym c.in-Both.is) c.of_both.ensures

-- ---- by the parts

pub through-returns-in_default : goal.through-returns-in_default
through-returns-in_default g t c = (None, rw c.in_default.is at c.in_ok-found.ensures, refl)

pub through-returns : goal.through-returns
through-returns g t c =
    (Some (origin_of c.in-Some.origin), rw c.in-Some.is at c.in_ok-found.ensures, ap Some (of_below g.row.A.Denot c.in_ok-passage.passage c.in_ok-new.field-0 ∙ ap₂ pure.Below c.in_ok-passage.ensures (ap origin_of c.in_ok-new.ensures.ok)))

pub of_both-returns-in_default : goal.of_both-returns-in_default
of_both-returns-in_default g t c = inl (rw c.in_default.is at c.in_ok-first.ensures)

pub of_both-returns-in_default-second : goal.of_both-returns-in_default-second
of_both-returns-in_default-second g t c = inr (rw c.in_default-second.is at c.in_ok-second.ensures)

pub of_both-returns : goal.of_both-returns
of_both-returns g t c = (
  origin_of c.in-Some.left_origin,
  origin_of c.in-Some-second.right_origin,
  rw c.in-Some.is at c.in_ok-first.ensures,
  rw c.in-Some-second.is at c.in_ok-second.ensures,
  of_together g.row.A.Denot c.in_ok-left_box.left_box c.in_ok-right_box.right_box ∙ ap₂ pure.Together (ap origin_of c.in_ok-left_box.ensures.ok) (ap origin_of c.in_ok-right_box.ensures.ok),
)

pub of_part-returns-in_default : goal.of_part-returns-in_default
of_part-returns-in_default g t c =
    let s = script_of_parts c.args.script.now in
    let p = process_of c.args.part.process.now in
    let x = lent_action c.args.part.action in
    let P : Option (Bor (Term g.row.A.Denot)) → Type 0 = λ o. TellsTo s p x (lent_process o) None in
    subst P (sym c.in_default.is) refl

pub of_part-returns : goal.of_part-returns
of_part-returns g t c =
    let s = script_of_parts c.args.script.now in
    let p = process_of c.args.part.process.now in
    let x = lent_action c.args.part.action in
    let P : Option (Bor (Term g.row.A.Denot)) → Type 0 = λ o. IfOk c.origin_of_step.result (λ found. TellsTo s p x (lent_process o) (origin_found found)) in
    subst P (sym c.in-Some.is) c.origin_of_step.ensures

-- ---- each call is of less

pub origin_of_step-first_along-found-requires : goal.origin_of_step-first_along-found-requires
origin_of_step-first_along-found-requires g t c κs within =
    let s = script_of_parts c.args.script.now in
    let p = process_of c.args.term.now in
    let P : List (Way g.row.A.Denot) → Type 0 = λ ws. AreWays s p (lent_action c.args.action) (process_of c.args.target.now) (map way_of ws) in
    let are = subst P (sym c.deref.ensures.value) c.in_ok-ways.ensures in
    (omega (arith, c.decreases, most_below s (weight s p) (map way_of c.deref.result.now) are.smaller), search rules)

pub first_along-along-requires : goal.first_along-along-requires
first_along-along-requires g t c κs within =
    let has = contains_at way_of c.args.ways.now c.loop-way.way-index c.way-item.result c.loop-way-test.true c.way-item.is in
    (omega (arith, c.decreases, one_below (script_of_parts c.args.script.now) (map way_of c.args.ways.now) (way_of c.way-item.result) has), search rules)

pub along-through-requires : goal.along-through-requires
along-through-requires g t c κs within =
    let is = ap (λ w. way_weight (script_of_parts c.args.script.now) (way_of w)) c.in-Through.is in
    (omega (arith, c.decreases, is), search rules)

pub along-of_both-requires : goal.along-of_both-requires
along-of_both-requires g t c κs within =
    let is = ap (λ w. way_weight (script_of_parts c.args.script.now) (way_of w)) c.in-Both.is in
    (omega (arith, c.decreases, is), search rules)

pub through-of_part-requires : goal.through-of_part-requires
through-of_part-requires g t c κs within = (omega (arith, c.decreases), search rules)

pub of_both-of_part-requires : goal.of_both-of_part-requires
of_both-of_part-requires g t c κs within =
    let s = script_of_parts c.args.script.now in
    (omega (arith, c.decreases, le-max_left (weight s (process_of c.args.left.process.now)) (weight s (process_of c.args.right.process.now))), search rules)

pub of_both-of_part-requires-2 : goal.of_both-of_part-requires-2
of_both-of_part-requires-2 g t c κs within =
    let s = script_of_parts c.args.script.now in
    (omega (arith, c.decreases, le-max_right (weight s (process_of c.args.left.process.now)) (weight s (process_of c.args.right.process.now))), search rules)

pub of_part-origin_of_step-requires : goal.of_part-origin_of_step-requires
of_part-origin_of_step-requires g t c κs within = (omega (arith, c.decreases), search rules)

-- ---- what is dropped or copied has a known size

pub origin_of_step-drop-made-requires-in_err-ways-room-T-Destruct : goal.origin_of_step-drop-made-requires-in_err-ways-room-T-Destruct
origin_of_step-drop-made-requires-in_err-ways-room-T-Destruct g t c κs within = elim g.met.A.AllocHandle.small [ inl e ↦ rw (e.0, e.1) (lit< tt) | inr e ↦ rw (e.0, e.1) (lit< tt) ]

pub along-try_copy-requires : goal.along-try_copy-requires
along-try_copy-requires g t c = elim g.met.A.AllocHandle.small [ inl e ↦ rw (e.0, e.1) (lit< tt) | inr e ↦ rw (e.0, e.1) (lit< tt) ]

pub through-into_passage-requires : goal.through-into_passage-requires
through-into_passage-requires g t c = elim g.met.A.AllocHandle.small [ inl e ↦ rw (e.0, e.1) (lit< tt) | inr e ↦ rw (e.0, e.1) (lit< tt) ]

pub through-array_drop-requires : goal.through-array_drop-requires
through-array_drop-requires g t c = elim g.met.A.AllocHandle.small [ inl e ↦ rw (e.0, e.1) (lit< tt) | inr e ↦ rw (e.0, e.1) (lit< tt) ]

pub through-array_drop-requires-in_err-passage-2 : goal.through-array_drop-requires-in_err-passage-2
through-array_drop-requires-in_err-passage-2 g t c = elim g.met.A.AllocHandle.small [ inl e ↦ rw (e.0, e.1) (lit< tt) | inr e ↦ rw (e.0, e.1) (lit< tt) ]

pub through-array_drop-origin-requires : goal.through-array_drop-origin-requires
through-array_drop-origin-requires g t c = elim g.met.A.AllocHandle.small [ inl e ↦ rw (e.0, e.1) (lit< tt) | inr e ↦ rw (e.0, e.1) (lit< tt) ]

pub through-array_drop-origin-requires-in_err-passage-2 : goal.through-array_drop-origin-requires-in_err-passage-2
through-array_drop-origin-requires-in_err-passage-2 g t c = elim g.met.A.AllocHandle.small [ inl e ↦ rw (e.0, e.1) (lit< tt) | inr e ↦ rw (e.0, e.1) (lit< tt) ]

pub through-array_drop-passage-requires : goal.through-array_drop-passage-requires
through-array_drop-passage-requires g t c = elim g.met.A.AllocHandle.small [ inl e ↦ rw (e.0, e.1) (lit< tt) | inr e ↦ rw (e.0, e.1) (lit< tt) ]

pub through-array_drop-requires-in_err-new : goal.through-array_drop-requires-in_err-new
through-array_drop-requires-in_err-new g t c = elim g.met.A.AllocHandle.small [ inl e ↦ rw (e.0, e.1) (lit< tt) | inr e ↦ rw (e.0, e.1) (lit< tt) ]

pub through-array_drop-requires-in_err-new-2 : goal.through-array_drop-requires-in_err-new-2
through-array_drop-requires-in_err-new-2 g t c = elim g.met.A.AllocHandle.small [ inl e ↦ rw (e.0, e.1) (lit< tt) | inr e ↦ rw (e.0, e.1) (lit< tt) ]

pub of_both-array_drop-requires : goal.of_both-array_drop-requires
of_both-array_drop-requires g t c = elim g.met.A.AllocHandle.small [ inl e ↦ rw (e.0, e.1) (lit< tt) | inr e ↦ rw (e.0, e.1) (lit< tt) ]

pub of_both-array_drop-requires-in_default-second : goal.of_both-array_drop-requires-in_default-second
of_both-array_drop-requires-in_default-second g t c = elim g.met.A.AllocHandle.small [ inl e ↦ rw (e.0, e.1) (lit< tt) | inr e ↦ rw (e.0, e.1) (lit< tt) ]

pub of_both-array_drop-requires-in_default-second-2 : goal.of_both-array_drop-requires-in_default-second-2
of_both-array_drop-requires-in_default-second-2 g t c = elim g.met.A.AllocHandle.small [ inl e ↦ rw (e.0, e.1) (lit< tt) | inr e ↦ rw (e.0, e.1) (lit< tt) ]

pub of_both-array_drop-requires-in_err-second-2 : goal.of_both-array_drop-requires-in_err-second-2
of_both-array_drop-requires-in_err-second-2 g t c = elim g.met.A.AllocHandle.small [ inl e ↦ rw (e.0, e.1) (lit< tt) | inr e ↦ rw (e.0, e.1) (lit< tt) ]

pub of_both-array_drop-requires-in_err-left_box : goal.of_both-array_drop-requires-in_err-left_box
of_both-array_drop-requires-in_err-left_box g t c = elim g.met.A.AllocHandle.small [ inl e ↦ rw (e.0, e.1) (lit< tt) | inr e ↦ rw (e.0, e.1) (lit< tt) ]

pub of_both-array_drop-requires-in_err-left_box-2 : goal.of_both-array_drop-requires-in_err-left_box-2
of_both-array_drop-requires-in_err-left_box-2 g t c = elim g.met.A.AllocHandle.small [ inl e ↦ rw (e.0, e.1) (lit< tt) | inr e ↦ rw (e.0, e.1) (lit< tt) ]

pub of_both-array_drop-left_origin-requires : goal.of_both-array_drop-left_origin-requires
of_both-array_drop-left_origin-requires g t c = elim g.met.A.AllocHandle.small [ inl e ↦ rw (e.0, e.1) (lit< tt) | inr e ↦ rw (e.0, e.1) (lit< tt) ]

pub of_both-array_drop-left_origin-requires-in_default-second : goal.of_both-array_drop-left_origin-requires-in_default-second
of_both-array_drop-left_origin-requires-in_default-second g t c = elim g.met.A.AllocHandle.small [ inl e ↦ rw (e.0, e.1) (lit< tt) | inr e ↦ rw (e.0, e.1) (lit< tt) ]

pub of_both-array_drop-left_origin-requires-in_default-second-2 : goal.of_both-array_drop-left_origin-requires-in_default-second-2
of_both-array_drop-left_origin-requires-in_default-second-2 g t c = elim g.met.A.AllocHandle.small [ inl e ↦ rw (e.0, e.1) (lit< tt) | inr e ↦ rw (e.0, e.1) (lit< tt) ]

pub of_both-array_drop-left_origin-requires-in_err-second-2 : goal.of_both-array_drop-left_origin-requires-in_err-second-2
of_both-array_drop-left_origin-requires-in_err-second-2 g t c = elim g.met.A.AllocHandle.small [ inl e ↦ rw (e.0, e.1) (lit< tt) | inr e ↦ rw (e.0, e.1) (lit< tt) ]

pub of_both-array_drop-right_origin-requires : goal.of_both-array_drop-right_origin-requires
of_both-array_drop-right_origin-requires g t c = elim g.met.A.AllocHandle.small [ inl e ↦ rw (e.0, e.1) (lit< tt) | inr e ↦ rw (e.0, e.1) (lit< tt) ]

pub of_both-array_drop-right_origin-requires-in_err-left_box-2 : goal.of_both-array_drop-right_origin-requires-in_err-left_box-2
of_both-array_drop-right_origin-requires-in_err-left_box-2 g t c = elim g.met.A.AllocHandle.small [ inl e ↦ rw (e.0, e.1) (lit< tt) | inr e ↦ rw (e.0, e.1) (lit< tt) ]
