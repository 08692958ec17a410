-- One name after the other.
use Rattle.std.proofs.Common.{◌≡◌, ◌∷◌, ◌+◌, suc, Bool, true, false, List, Some, drop, map, if◌then◌else◌, sym, ◌∙◌, ap, add-one, drop-cons}
use Rattle.std.proofs.lemmas.List.{drop_all}
use Rattle.theory_explanation.specs.PartNames.{is_at, name_of, same_way}
use Rattle.csp_moves.specs.Passage.{side_of}
use Rattle.csp_moves.specs.declared.passage.Side.{Side}
use Rattle.counterexample.specs.PartNames.{part_name_of, part_names_listed}
use Rattle.counterexample.specs.declared.part_names.PartName.{PartName}
use Rattle.counterexample.proofs.part_names.name_of.Goals as goal

pub returns-then-same_way : goal.returns-then-same_way
returns-then-same_way g c =
    let way = map side_of c.args.way.now in
    let parts = c.args.parts.now in
    let i = c.loop-part.part-index in
    let d = c.part-item.result in
    let first : drop i parts ≡ d ∷ drop (i + 1) parts = rw add-one (drop-cons parts i d c.loop-part-test.true ∙ ap (λ z. z ∷ drop (suc i) parts) (sym c.part-item.is)) in
    let same : is_at way (part_name_of d) ≡ true = ap (λ (w : List Side). same_way (map side_of w) way) (sym c.deref.ensures.value) ∙ sym c.same_way.ensures ∙ c.if-same_way.true in
    sym (ap (λ (b : Bool). if b then Some d.equation.0 else name_of (part_names_listed (drop (i + 1) parts)) way) same)
    ∙ sym (ap (λ (ds : List (PartName g.row.A.Denot)). name_of (part_names_listed ds) way) first) ∙ c.loop-part.invariant

pub loop-part-preserved : goal.loop-part-preserved
loop-part-preserved g c =
    let way = map side_of c.args.way.now in
    let parts = c.args.parts.now in
    let i = c.loop-part.part-index in
    let d = c.part-item.result in
    let first : drop i parts ≡ d ∷ drop (i + 1) parts = rw add-one (drop-cons parts i d c.loop-part-test.true ∙ ap (λ z. z ∷ drop (suc i) parts) (sym c.part-item.is)) in
    let other : is_at way (part_name_of d) ≡ false = ap (λ (w : List Side). same_way (map side_of w) way) (sym c.deref.ensures.value) ∙ sym c.same_way.ensures ∙ c.if-same_way.false in
    sym (ap (λ (b : Bool). if b then Some d.equation.0 else name_of (part_names_listed (drop (i + 1) parts)) way) other)
    ∙ sym (ap (λ (ds : List (PartName g.row.A.Denot)). name_of (part_names_listed ds) way) first) ∙ c.loop-part.invariant

pub returns : goal.returns
returns g c =
    let way = map side_of c.args.way.now in
    sym (ap (λ (ds : List (PartName g.row.A.Denot)). name_of (part_names_listed ds) way) (drop_all c.loop-part.part-index c.args.parts.now c.loop-part-test.false)) ∙ c.loop-part.invariant
