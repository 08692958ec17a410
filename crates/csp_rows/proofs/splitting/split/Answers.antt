use Rattle.std.proofs.Common.{◌++◌, ℕ, List, ap, arith, length, subst, sym, take, drop, ◌-◌, ◌∙◌}
use Rattle.std.proofs.lemmas.Bool.Decides.{Decides-eqb}
use Rattle.std.proofs.lemmas.List.{length-append}
use Rattle.std.proofs.lemmas.Slice.Eq.{strip_prefix_is}
use Rattle.std.specs.List.{AllByRecursion}
use Rattle.std.specs.Prelude.{Contains, None, Some}
use Rattle.csp_rows.specs.declared.numbers.PartId.{PartId}
use Rattle.csp_rows.specs.Rows.{spelling_at}
use Rattle.csp_rows.specs.Split.{IsNoneSplit, IsNotInFront, IsSplit}
use Rattle.csp_rows.specs.Told.{items_of}
use Rattle.csp_rows.proofs.Lent.{first_and_later, is_none, is_some, items_at, items_count}
use Rattle.csp_rows.proofs.Only.{none_at_first, none_behind, none_in_front}
use Rattle.csp_rows.proofs.SoFar.{all_so_far, first_so_far, left_short, more_so_far, some_left}
use Rattle.csp_rows.proofs.splitting.split.Goals as goal

pub returns-in_default-strip_prefix : goal.returns-in_default-strip_prefix
returns-in_default-strip_prefix g c =
    let parts = c.args.parts.now in
    let bytes = c.args.bytes.now in
    let vs = c.args.pieces.now in
    let first = c.first-item.result.items in
    let later = items_of (take (length vs - 1) (drop 1 vs)) in
    let tried = items_of c.args.tried.now in
    let is = first_and_later vs c.first-item.result c.in-len1-up.len_at_least c.first-item.is in
    let never = strip_prefix_is Decides-eqb bytes c.as_slice.result.now None c.in_default-strip_prefix.ensures.cases in
    subst (λ (ps : List (List ℕ)). IsNoneSplit parts bytes ps tried) (sym is)
    (none_at_first parts bytes first later tried (λ rest here. never rest (here ∙ ap (λ (xs : List ℕ). xs ++ rest) (sym c.as_slice.ensures.value))))

pub loop-hole-init : goal.loop-hole-init
loop-hole-init g c =
    let parts = c.args.parts.now in
    let bytes = c.args.bytes.now in
    let vs = c.args.pieces.now in
    let first = c.first-item.result.items in
    let later = items_of (take (length vs - 1) (drop 1 vs)) in
    let tried = items_of c.args.tried.now in
    let rest = c.in-Some.rest in
    let is = first_and_later vs c.first-item.result c.in-len1-up.len_at_least c.first-item.is in
    let here = strip_prefix_is Decides-eqb bytes c.as_slice.result.now (Some rest) c.in-Some.ensures.cases in (
      first,
      is,
      first_so_far parts bytes first later tried c.in_ok-numbers.numbers.items c.in_ok-places.places.items rest.now c.in_ok-numbers.ensures.items c.in_ok-places.ensures.items
          (here ∙ ap (λ (xs : List ℕ). xs ++ rest.now) c.as_slice.ensures.value),
    )

pub returns-in_default-first_run : goal.returns-in_default-first_run
returns-in_default-first_run g c =
    let parts = c.args.parts.now in
    let bytes = c.args.bytes.now in
    let vs = c.args.pieces.now in
    let more = take (length vs - 1) (drop 1 vs) in
    let later = items_of more in
    let tried = items_of c.args.tried.now in
    let hole = c.loop-hole.hole in
    let rest = c.loop-hole.rest.now in
    let piece = c.index-later-hole.result in
    let (first, is, so) = c.loop-hole.invariant in
    let within = c.loop-hole-test.true in
    let never = subst (AllByRecursion (IsNotInFront parts rest)) c.tried_in.ensures c.in_default-first_run.ensures in
    subst (λ (ps : List (List ℕ)). IsNoneSplit parts bytes ps tried) (sym is)
    (none_in_front parts bytes first later tried hole rest piece.items so.left (omega (arith, within, items_count more)) (items_at more hole piece within c.index-later-hole.is) never)

pub returns-in_default-strip_prefix-2 : goal.returns-in_default-strip_prefix-2
returns-in_default-strip_prefix-2 g c =
    let parts = c.args.parts.now in
    let bytes = c.args.bytes.now in
    let vs = c.args.pieces.now in
    let more = take (length vs - 1) (drop 1 vs) in
    let later = items_of more in
    let tried = items_of c.args.tried.now in
    let hole = c.loop-hole.hole in
    let rest = c.loop-hole.rest.now in
    let piece = c.index-later-hole.result in
    let run = c.in-Some-first_run.run' in
    let (first, is, so) = c.loop-hole.invariant in
    let within = c.loop-hole-test.true in
    let never = strip_prefix_is Decides-eqb run.behind.now c.as_slice-in-loop-hole.result.now None c.in_default-strip_prefix-2.ensures.cases in
    subst (λ (ps : List (List ℕ)). IsNoneSplit parts bytes ps tried) (sym is)
    (none_behind parts bytes first later tried hole rest piece.items so.left (omega (arith, within, items_count more)) (items_at more hole piece within c.index-later-hole.is) run.number run.behind.now c.in-Some-first_run.ensures.1
    (λ last here. never last (here ∙ ap (λ (xs : List ℕ). xs ++ last) (sym c.as_slice-in-loop-hole.ensures.value))))

pub overflow_sub-start : goal.overflow_sub-start
overflow_sub-start g c =
    let vs = c.args.pieces.now in
    let (first, is, so) = c.loop-hole.invariant in
    left_short c.args.parts.now c.args.bytes.now first (items_of (take (length vs - 1) (drop 1 vs))) (items_of c.args.tried.now) c.loop-hole.hole c.loop-hole.numbers.items c.loop-hole.places.items c.loop-hole.rest.now so

pub overflow_sub-end : goal.overflow_sub-end
overflow_sub-end g c =
    let parts = c.args.parts.now in
    let vs = c.args.pieces.now in
    let run = c.in-Some-first_run.run' in
    let (first, is, so) = c.loop-hole.invariant in
    let short = left_short parts c.args.bytes.now first (items_of (take (length vs - 1) (drop 1 vs))) (items_of c.args.tried.now) c.loop-hole.hole c.loop-hole.numbers.items c.loop-hole.places.items c.loop-hole.rest.now so in
    let front = ap (λ (xs : List ℕ). length xs) c.in-Some-first_run.ensures.1.1 ∙ length-append (spelling_at parts run.number.0) run.behind.now in
    omega (arith, short, front)

pub loop-hole-preserved : goal.loop-hole-preserved
loop-hole-preserved g c =
    let parts = c.args.parts.now in
    let bytes = c.args.bytes.now in
    let vs = c.args.pieces.now in
    let more = take (length vs - 1) (drop 1 vs) in
    let later = items_of more in
    let tried = items_of c.args.tried.now in
    let hole = c.loop-hole.hole in
    let rest = c.loop-hole.rest.now in
    let numbers = c.loop-hole.numbers.items in
    let places = c.loop-hole.places.items in
    let piece = c.index-later-hole.result in
    let run = c.in-Some-first_run.run' in
    let last = c.in-Some-strip_prefix.behind in
    let (first, is, so) = c.loop-hole.invariant in
    let within = c.loop-hole-test.true in
    let next = strip_prefix_is Decides-eqb run.behind.now c.as_slice-in-loop-hole.result.now (Some last) c.in-Some-strip_prefix.ensures.cases in
    let has = subst (λ (ns : List PartId). Contains ns run.number) c.tried_in.ensures c.in-Some-first_run.ensures.0 in (
      first,
      is,
      more_so_far parts bytes first later tried hole numbers places rest so run.number run.behind.now piece.items last.now c.push.new.self.items c.push-in-loop-hole.new.self.items
          c.in_ok-push.ensures.items c.in_ok-push-2.ensures.items (omega (arith, within, items_count more)) (items_at more hole piece within c.index-later-hole.is) has c.in-Some-first_run.ensures.1
          (next ∙ ap (λ (xs : List ℕ). xs ++ last.now) c.as_slice-in-loop-hole.ensures.value),
    )

pub returns-then-not-is_empty : goal.returns-then-not-is_empty
returns-then-not-is_empty g c =
    let parts = c.args.parts.now in
    let bytes = c.args.bytes.now in
    let vs = c.args.pieces.now in
    let more = take (length vs - 1) (drop 1 vs) in
    let later = items_of more in
    let tried = items_of c.args.tried.now in
    let rest = c.loop-hole.rest.now in
    let (first, is, so) = c.loop-hole.invariant in
    let done = c.loop-hole-test.false in
    subst (λ (ps : List (List ℕ)). IsNoneSplit parts bytes ps tried) (sym is)
    (some_left parts bytes first later tried c.loop-hole.hole c.loop-hole.numbers.items c.loop-hole.places.items rest so (omega (arith, done, items_count more)) (is_some rest c.if-not-is_empty.ensures))

pub returns : goal.returns
returns g c =
    let parts = c.args.parts.now in
    let bytes = c.args.bytes.now in
    let vs = c.args.pieces.now in
    let more = take (length vs - 1) (drop 1 vs) in
    let later = items_of more in
    let tried = items_of c.args.tried.now in
    let rest = c.loop-hole.rest.now in
    let numbers = c.loop-hole.numbers.items in
    let places = c.loop-hole.places.items in
    let (first, is, so) = c.loop-hole.invariant in
    let done = c.loop-hole-test.false in
    let all = all_so_far parts bytes first later tried c.loop-hole.hole numbers places rest so (omega (arith, done, items_count more)) (is_none rest c.if-not-is_empty.ensures) in
    (subst (λ (ps : List (List ℕ)). IsSplit parts bytes ps numbers places) (sym is) all.0, all.1)
