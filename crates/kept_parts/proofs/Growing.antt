-- What is known of parts stays where more come.
use Rattle.std.proofs.Common.{◌≡◌, ◌<◌, ℕ, ◌+◌, Bool, true, List, [], ◌∷◌, ◌++◌, length, get_or, take, slice_get, Some, refl, sym, ◌∙◌, ap, subst}
use Rattle.std.proofs.lemmas.List.{take_more}
use Rattle.std.specs.List.{AllByRecursion}
use Rattle.std.specs.Option.{is_some}
use Rattle.std.proofs.lemmas.Option.{slice_get-get_or, slice_get_within}
use Rattle.theory_syntax.specs.Process.{Process, Script, Stop}
use Rattle.theory_syntax.proofs.Places.{same_at}
use Rattle.theory_shapes.specs.Alphabet.{alphabet}
use Rattle.theory_search.specs.Growth.{StaysIn}
use Rattle.theory_shapes.specs.Shape.{Shape}
use Rattle.csp_rows.specs.declared.numbers.PartId.{PartId}
use Rattle.csp_rows.specs.Numbering.{Numbering}
use Rattle.csp_numbers.specs.Numbers.{NumbersEvents}
use Rattle.kept_parts.specs.declared.parts.Parts.{Parts}
use Rattle.kept_parts.specs.Changed.{Grows, IsFiredAt}
use Rattle.kept_parts.specs.KnownSteps.{processes_of, script_in}
use Rattle.kept_parts.specs.Places.{NumbersParts}
use Rattle.kept_parts.specs.Serving.{AreRowFired}
use Rattle.csp_rows.specs.declared.splitting.SplitRow.{SplitRow}
use Rattle.kept_parts.proofs.Counting.{holds_at}
use Rattle.kept_parts.specs.Rows.{IsRowAmong, IsTakenApart}

-- ---- numbers

still_within : (all more : List Process) → StaysIn all more → (n : ℕ) → n < length all → n < length more
still_within all more stays n within = slice_get_within more n (get_or all n Stop) (stays n (get_or all n Stop) (slice_get-get_or all n Stop within))

pub still_among : (all more : List Process) → StaysIn all more → (row : List PartId) → AllByRecursion (λ n. n.0 < length all) row → AllByRecursion (λ n. n.0 < length more) row
still_among all more stays [] among = tt
still_among all more stays (n ∷ row) among = (still_within all more stays n.0 among.0, still_among all more stays row among.1)

numbers_before : (all more : List Process) (z : Numbering) → StaysIn all more → NumbersParts more z → NumbersParts all z
numbers_before all more z stays numbers n within =
    let p = get_or all n Stop in
    let at : slice_get all n ≡ Some p = slice_get-get_or all n Stop within in
    let there : slice_get more n ≡ Some p = stays n p at in
    let is : z.part n ≡ p = same_at more n n (z.part n) p refl (numbers n (slice_get_within more n p there)) there in
    at ∙ ap Some (sym is)

-- ---- rows

pub row_stays : {A : Type 0} (old new : Parts A) (s : Shape) (t : Process) (row : SplitRow A) → script_in new ≡ script_in old → StaysIn (processes_of old) (processes_of new) → IsRowAmong old s t row → IsRowAmong new s t row
row_stays {A} old new s t row script stays is z numbers =
    let E : Script → Type 0 = λ x. NumbersEvents (alphabet x) z in
    let was : IsTakenApart z (length (processes_of old)) s t row = is z (record { events = subst E script numbers.events; parts = numbers_before (processes_of old) (processes_of new) z stays numbers.parts }) in
    record { filled = was.filled; same = was.same; among = still_among (processes_of old) (processes_of new) stays row.numbers.items was.among; runs = was.runs }

-- ---- what was fired

pub grows_none : {A : Type 0} (k : Parts A) → Grows k k
grows_none k = record { script = refl; stays = λ i x at. at; fired = λ n e. e; shown = λ n e. refl }

pub grows_on : {A : Type 0} (a b c : Parts A) → Grows a b → Grows b c → Grows a c
grows_on a b c one two = record {
  script = two.script ∙ one.script;
  stays = λ i x at. two.stays i x (one.stays i x at);
  fired = λ n e. two.fired n (one.fired n e);
  shown = λ n e. two.shown n (one.fired n e) ∙ one.shown n e;
}

part_stays_fired : {A : Type 0} (old new : Parts A) → Grows old new → (n : ℕ) → IsFiredAt old n true → IsFiredAt new n true
part_stays_fired old new grows n was = record { fired = grows.fired n was.fired; steps = ap is_some (grows.shown n was.fired) ∙ was.steps }

pub row_stays_fired : {A : Type 0} (old new : Parts A) → Grows old new → (row : List PartId) → AreRowFired old row → AreRowFired new row
row_stays_fired old new grows [] fired = tt
row_stays_fired old new grows (n ∷ row) fired = (part_stays_fired old new grows n.0 fired.0, row_stays_fired old new grows row fired.1)

-- ---- one part of a row after the other

-- the next part is among those that there are by then
pub next_among : (all more : List Process) (row : List PartId) (i : ℕ) (n d : PartId) → StaysIn all more → AllByRecursion (λ m. m.0 < length all) row → i < length row → n ≡ get_or row i d → n.0 < length more
next_among all more row i n d stays among within is = holds_at (λ (m : PartId). m.0 < length more) row i n d (still_among all more stays row among) within is

fired_front : {A : Type 0} (k : Parts A) (row : List PartId) (n : PartId) → AreRowFired k row → IsFiredAt k n.0 true → AreRowFired k (row ++ n ∷ [])
fired_front k [] n fired here = (here, tt)
fired_front k (m ∷ row) n fired here = (fired.0, fired_front k row n fired.1 here)

-- and it is fired too
pub fired_next : {A : Type 0} (old new : Parts A) (row : List PartId) (i : ℕ) (n d : PartId) (b : Bool) → Grows old new → AreRowFired old (take i row) → i < length row → n ≡ get_or row i d → b ≡ true → IsFiredAt new n.0 b → AreRowFired new (take (i + 1) row)
fired_next old new row i n d b grows fired within is kept here =
    let more : take (i + 1) row ≡ take i row ++ get_or row i d ∷ [] = take_more row i d within in
    let ends : take i row ++ n ∷ [] ≡ take i row ++ get_or row i d ∷ [] = ap (λ (m : PartId). take i row ++ m ∷ []) is in
    let now : IsFiredAt new n.0 true = subst (λ (a : Bool). IsFiredAt new n.0 a) kept here in
    subst (AreRowFired new) (ends ∙ sym more) (fired_front new (take i row) n (row_stays_fired old new grows (take i row) fired) now)
