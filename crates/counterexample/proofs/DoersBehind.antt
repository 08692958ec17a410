-- Doers at the end of a way, and what an origin does.
use Rattle.std.proofs.Common.{◌≡◌, List, Vec, [], ◌∷◌, ◌++◌, Option, Some, None, Result, Ok, Err, IfOk, map, refl, sym, ◌∙◌, ap, append-nil, append_assoc}
use Rattle.std.proofs.lemmas.List.{map-append}
use Rattle.theory_syntax.specs.Value.{Event, Action, Tau, Tick, Ev}
use Rattle.theory_origins.specs.Doers.{Doer, all_further, by_itself, doers}
use Rattle.theory_origins.specs.Origin.{Origin, Side}
use Rattle.counterexample.specs.Doers.{all_behind, behind_way, doers_listed, seen_event}
use Rattle.counterexample.specs.declared.doers.Doer as code

pub behind_no_way : (ds : List Doer) → all_behind [] ds ≡ ds
behind_no_way [] = refl
behind_no_way (d ∷ ds) = ap (λ xs. d ∷ xs) (behind_no_way ds)

-- a side more
pub further_behind : (way : List Side) (side : Side) (ds : List Doer) → all_behind (way ++ side ∷ []) ds ≡ all_behind way (all_further side ds)
further_behind way side [] = refl
further_behind way side (d ∷ ds) =
    ap (λ w. record { way = w; event = d.event } ∷ all_behind (way ++ side ∷ []) ds) (append_assoc way (side ∷ []) d.way)
    ∙ ap (λ xs. record { way = way ++ side ∷ d.way; event = d.event } ∷ xs) (further_behind way side ds)

pub both_behind : (way : List Side) (ds es : List Doer) → all_behind way (ds ++ es) ≡ all_behind way ds ++ all_behind way es
both_behind way ds es = map-append (behind_way way) ds es

pub none_behind : (way : List Side) (x : Action) → seen_event x ≡ None → [] ≡ all_behind way (by_itself x)
none_behind way Tau none = refl
none_behind way Tick none = refl
none_behind way (Ev e) none = absurd (cc none)

pub one_behind : (way : List Side) (x : Action) (e : Event) → seen_event x ≡ Some e → record { way = way; event = e } ∷ [] ≡ all_behind way (by_itself x)
one_behind way Tau e some = absurd (cc some)
one_behind way Tick e some = absurd (cc some)
one_behind way (Ev f) e some = let same : Some f ≡ Some e = some in let is : f ≡ e = cc same in
    ap (λ y. record { way = way; event = y } ∷ []) (sym is) ∙ ap (λ w. record { way = w; event = f } ∷ []) (sym (append-nil way))

-- the process itself does what the origin tells
pub done : {A E : Type 0} (r : Result (Vec (code.Doer A) A) E) (way : List Side) (found : Option Event) (x : Action) (o : Origin) → seen_event x ≡ found → by_itself x ≡ doers o →
    IfOk r (λ ds. (y : Action) → seen_event y ≡ found → doers_listed ds.items ≡ all_behind way (by_itself y)) → IfOk r (λ ds. doers_listed ds.items ≡ all_behind way (doers o))
done (Ok ds) way found x o seen same is = is x seen ∙ ap (all_behind way) same
done (Err e) way found x o seen same is = tt

-- a side more
pub done_further : {A E : Type 0} (r : Result (Vec (code.Doer A) A) E) (way longer : List Side) (side : Side) (o : Origin) → longer ≡ way ++ side ∷ [] →
    IfOk r (λ ds. doers_listed ds.items ≡ all_behind longer (doers o)) → IfOk r (λ ds. doers_listed ds.items ≡ all_behind way (all_further side (doers o)))
done_further (Ok ds) way longer side o same is = is ∙ ap (λ w. all_behind w (doers o)) same ∙ further_behind way side (doers o)
done_further (Err e) way longer side o same is = tt
