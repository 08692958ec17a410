-- Each form of an origin. The part is smaller than what it is a part of.
use Rattle.std.proofs.Common.{◌≡◌, ◌+◌, ◌*◌, ◌<◌, List, ◌++◌, map, sym, ◌∙◌, ap, inl, inr, lit≤, arith}
use Rattle.std.specs.Prelude.{codes}
use Rattle.std.specs.String.{string_bytes}
use Rattle.theory_origins.specs.Origin as pure
use Rattle.theory_explanation.specs.Legend.{at_side, side_text, within_part}
use Rattle.theory_explanation.specs.Origins.{origin_text}
use Rattle.theory_explanation.specs.PartNames as names
use Rattle.csp_moves.specs.Origin.{origin_of}
use Rattle.csp_moves.specs.Passage.{passage_of, side_of}
use Rattle.csp_moves.specs.declared.origin.Origin.{Origin}
use Rattle.csp_moves.specs.declared.passage.Side.{Side}
use Rattle.csp_moves.proofs.Origins.{of_below, of_chooses, of_does, of_ends, of_slides, of_together, of_unfolds}
use Rattle.csp_print.proofs.Writing.{alike, behind}
use Rattle.counterexample.specs.PartNames.{legend_of, part_names_listed}
use Rattle.counterexample.specs.declared.part_names.PartName.{PartName}
use Rattle.counterexample.proofs.Sizes.{origin_size}
use Rattle.counterexample.proofs.origin_text.+origin.Goals as goal

pub push_origin-push_below-requires : goal.push_origin-push_below-requires
push_origin-push_below-requires g t c κs within =
    let size = λ (o : Origin g.row.A.Denot). origin_size (origin_of o) in
    let whole = ap size c.in-Below.is ∙ ap origin_size (of_below g.row.A.Denot c.in-Below.passage c.in-Below.part) in
    let part = ap size c.deref.ensures in
    let smaller : 3 * origin_size (origin_of c.deref.result.now) + 2 < 3 * origin_size (origin_of c.args.origin.now) = omega (arith, whole, part) in
    (omega (arith, c.requires, smaller), (within, elim g.met.A.AllocHandle.small [ inl e ↦ rw (e.0, e.1) (search (lit≤)) | inr e ↦ rw (e.0, e.1) (search (lit≤)) ]))

pub push_origin-push_seen-requires : goal.push_origin-push_seen-requires
push_origin-push_seen-requires g t c = elim g.met.A.AllocHandle.small [ inl e ↦ rw (e.0, e.1) (search (lit≤)) | inr e ↦ rw (e.0, e.1) (search (lit≤)) ]

pub push_below-push_done-requires : goal.push_below-push_done-requires
push_below-push_done-requires g t c = elim g.met.A.AllocHandle.small [ inl e ↦ rw (e.0, e.1) (search (lit≤)) | inr e ↦ rw (e.0, e.1) (search (lit≤)) ]

pub push_below-push_done-requires-in-Renames : goal.push_below-push_done-requires-in-Renames
push_below-push_done-requires-in-Renames g t c = elim g.met.A.AllocHandle.small [ inl e ↦ rw (e.0, e.1) (search (lit≤)) | inr e ↦ rw (e.0, e.1) (search (lit≤)) ]

pub push_origin-returns-in-Does : goal.push_origin-returns-in-Does
push_origin-returns-in-Does g t c =
    alike c.push_seen.result (string_bytes c.args.text.now) (string_bytes c.push_seen.new.text) _ _
    (sym (ap (origin_text (legend_of c.args.legend.now) c.args.mark.now) (ap origin_of c.in-Does.is ∙ of_does g.row.A.Denot c.in-Does.event))) c.push_seen.ensures

pub push_origin-returns-in-Ends : goal.push_origin-returns-in-Ends
push_origin-returns-in-Ends g t c =
    alike c.push_moved.result (string_bytes c.args.text.now) (string_bytes c.push_moved.new.text) _ _
    (sym (ap (origin_text (legend_of c.args.legend.now) c.args.mark.now) (ap origin_of c.in-Ends.is ∙ of_ends g.row.A.Denot))) c.push_moved.ensures

pub push_origin-returns-in-Unfolds : goal.push_origin-returns-in-Unfolds
push_origin-returns-in-Unfolds g t c =
    alike c.push_call.result (string_bytes c.args.text.now) (string_bytes c.push_call.new.text) _ _
    (sym (ap (origin_text (legend_of c.args.legend.now) c.args.mark.now) (ap origin_of c.in-Unfolds.is ∙ of_unfolds g.row.A.Denot c.in-Unfolds.equation))) c.push_call.ensures

pub push_origin-returns-in-Chooses : goal.push_origin-returns-in-Chooses
push_origin-returns-in-Chooses g t c =
    alike c.push_choice.result (string_bytes c.args.text.now) (string_bytes c.push_choice.new.text) _ _
    (sym (ap (origin_text (legend_of c.args.legend.now) c.args.mark.now) (ap origin_of c.in-Chooses.is ∙ of_chooses g.row.A.Denot c.in-Chooses.side))) c.push_choice.ensures

pub push_origin-returns-in-Slides : goal.push_origin-returns-in-Slides
push_origin-returns-in-Slides g t c =
    alike c.push_moved-in-Slides.result (string_bytes c.args.text.now) (string_bytes c.push_moved-in-Slides.new.text) _ _
    (sym (ap (origin_text (legend_of c.args.legend.now) c.args.mark.now) (ap origin_of c.in-Slides.is ∙ of_slides g.row.A.Denot))) c.push_moved-in-Slides.ensures

pub push_origin-returns-in-Below : goal.push_origin-returns-in-Below
push_origin-returns-in-Below g t c =
    let passage = c.in-Below.passage in
    let same : pure.Below (passage_of passage) (origin_of c.deref.result.now) ≡ origin_of c.args.origin.now =
    ap (λ (o : Origin g.row.A.Denot). pure.Below (passage_of passage) (origin_of o)) c.deref.ensures
    ∙ sym (ap origin_of c.in-Below.is ∙ of_below g.row.A.Denot passage c.in-Below.part) in
    alike c.push_below.result (string_bytes c.args.text.now) (string_bytes c.push_below.new.text) _ _
    (ap (origin_text (legend_of c.args.legend.now) c.args.mark.now) same) c.push_below.ensures

pub push_origin-returns-in-Together : goal.push_origin-returns-in-Together
push_origin-returns-in-Together g t c =
    alike c.push_moved-in-Together.result (string_bytes c.args.text.now) (string_bytes c.push_moved-in-Together.new.text) _ _
    (sym (ap (origin_text (legend_of c.args.legend.now) c.args.mark.now) (ap origin_of c.in-Together.is ∙ of_together g.row.A.Denot _ _))) c.push_moved-in-Together.ensures

pub push_below_side-returns : goal.push_below_side-returns
push_below_side-returns g t c =
    let legend = legend_of c.args.legend.now in
    let part = origin_of c.args.part.now in
    let r = c.push_origin.result in
    let start = string_bytes c.args.text.now in
    let one = string_bytes c.push_mark.new.text in
    let two = string_bytes c.push_side.new.text in
    let all = string_bytes c.push_origin.new.text in
    let side = side_text (side_of c.args.side) in
    let rest = origin_text (at_side (side_of c.args.side) legend) (codes ".") part in
    let longer = ap (λ (w : List Side). map side_of w) c.deref.ensures.value ∙ c.in_ok-way.ensures in
    let there = ap (λ (w : List pure.Side). origin_text (record { names = legend.names; parts = legend.parts; way = w }) (codes ".") part) longer in
    behind r start one all c.args.mark.now (side ++ rest) c.in_ok-push_mark.ensures
    (behind r one two all side rest c.in_ok-push_side.ensures (alike r two all _ _ there c.push_origin.ensures))

pub push_below_branch-returns : goal.push_below_branch-returns
push_below_branch-returns g t c =
    let legend = legend_of c.args.legend.now in
    let part = origin_of c.args.part.now in
    let r = c.push_origin.result in
    let start = string_bytes c.args.text.now in
    let one = string_bytes c.push_mark.new.text in
    let two = string_bytes c.push_side.new.text in
    let all = string_bytes c.push_origin.new.text in
    let side = side_text (side_of c.args.side) in
    let rest = origin_text (within_part legend) (codes ".") part in
    let none = ap (λ (ps : List (PartName g.row.A.Denot)). part_names_listed ps) (c.deref.ensures.value ∙ c.new-none.ensures.items) in
    let within = ap (λ (ps : List names.PartName). origin_text (record { names = legend.names; parts = ps; way = legend.way }) (codes ".") part) none in
    behind r start one all c.args.mark.now (side ++ rest) c.in_ok-push_mark.ensures
    (behind r one two all side rest c.in_ok-push_side.ensures (alike r two all _ _ within c.push_origin.ensures))
