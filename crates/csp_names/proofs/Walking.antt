-- Walks part by part.
use Rattle.std.specs.Prelude.{take, drop, flat_map, IfOk, IfErr, IsErr, IsErrAnd, OnOk}
use Rattle.std.proofs.lemmas.Result.{err_from_is_err_and}
use Rattle.std.proofs.lemmas.List.{drop_more, take_more, take_all, take-append-drop, map-append}
use Rattle.std.proofs.Common.{◌≡◌, ℕ, ◌+◌, ◌<◌, ◌≤◌, List, [], ◌∷◌, ◌++◌, length, get_or, map, Option, Some, Result, Ok, Err, refl, sym, ap, ◌∙◌, subst}
use Rattle.theory_checking.specs.Resolving.{every}
use Rattle.theory_checking.proofs.OneMore.{every_one_more}
use Rattle.theory_checking.specs.Sites.{Site}
use Rattle.theory_checking.specs.Walks.{AllFine}
use Rattle.theory_checking.proofs.Walking.{fine_one_more, stopped_behind, stopped_in_first, stopped_in_one}
use Rattle.csp_names.specs.declared.refusals.Refused.{Refused}
use Rattle.csp_names.specs.declared.refusals.Refused.TheVariants as refused
use Rattle.csp_names.specs.Walks.{Stops, Walked}

-- ---- where a walk stops in a part, it stops in the whole

pub stops_first : (xs ys : List Site) (r : Refused) → Stops xs r → Stops (xs ++ ys) r
stops_first xs ys (refused.Fault f p) h = stopped_in_first xs ys h
stops_first xs ys refused.Memory h = tt

pub stops_behind : (xs ys : List Site) (r : Refused) → AllFine xs → Stops ys r → Stops (xs ++ ys) r
stops_behind xs ys (refused.Fault f p) fine h = stopped_behind xs ys fine h
stops_behind xs ys refused.Memory fine h = tt

pub stops_for_room : (xs : List Site) (r : Refused) → r ≡ refused.Memory → Stops xs r
stops_for_room xs r is = let P : Refused → Type 0 = Stops xs in subst P (sym is) tt

-- a refusal is handed on as it is
pub handed_on : {T : Type 0} (P : Result T Refused → Type 0) (r : Result T Refused) (e : Refused) → IsErr r × IsErrAnd r (λ x. x ≡ e) → P (Err e) → P r
handed_on P r e same h = let p = err_from_is_err_and r same.1 in subst P (sym (p.1 ∙ ap Err p.2)) h

-- what holds of a call that went well
pub on_ok : {T E : Type 0} {P Q : Type 0} (r : Result T E) → (P → Q) → OnOk r P → OnOk r Q
on_ok (Ok x) f h = f h
on_ok (Err e) f h = h

-- what was made of parts that are fine
pub made : {T X : Type 0} (sites : List Site) (meaning : Option X) (of : T → X) (x : X) (r : Result T Refused) → AllFine sites → meaning ≡ Some x → IfOk r (λ t. of t ≡ x) → IfErr r (λ e. e ≡ refused.Memory) → Walked sites meaning of r
made sites meaning of x (Ok t) fine is makes stops = (fine, is ∙ ap Some (sym makes))
made sites meaning of x (Err e) fine is makes stops = stops_for_room sites e stops

-- ---- over the things of a list in turn

-- The things so far are fine, and what was made of them is what they stand for.
pub record Passed {I T Y : Type 0} (g : I → List Site) (f : I → Option Y) (of : T → Y) (items : List I) (i : ℕ) (done : List T) : Type 0 where
  pub fine : AllFine (flat_map g (take i items))
  pub meaning : every f (take i items) ≡ Some (map of done)

module _ {I T Y : Type 0} (g : I → List Site) (f : I → Option Y) (of : T → Y) (items : List I) where
  pub nothing_passed : Passed g f of items 0 []
  nothing_passed = record { fine = tt; meaning = refl }

  pub one_passed : (i : ℕ) (done new : List T) (x : I) (t : T) → i < length items → x ≡ get_or items i x → Passed g f of items i done → AllFine (g x) → f x ≡ Some (of t) → new ≡ done ++ t ∷ [] → Passed g f of items (i + 1) new
  one_passed i done new x t within read so_far fine is pushed =
      let cut : take (i + 1) items ≡ take i items ++ x ∷ [] = take_more items i x within ∙ ap (λ y. take i items ++ y ∷ []) (sym read) in
      let P : List I → Type 0 = λ xs. AllFine (flat_map g xs) in
      record {
        fine = subst P (sym cut) (fine_one_more g (take i items) x so_far.fine fine);
        meaning = ap (every f) cut ∙ every_one_more f (take i items) x (map of done) (of t) so_far.meaning is ∙ ap Some (sym (map-append of done (t ∷ []))) ∙ ap (λ ts. Some (map of ts)) (sym pushed);
      }

  pub all_passed : (i : ℕ) (done : List T) → length items ≤ i → Passed g f of items i done → AllFine (flat_map g items) × (every f items ≡ Some (map of done))
  all_passed i done over so_far =
      let P : List I → Type 0 = λ xs. AllFine (flat_map g xs) × (every f xs ≡ Some (map of done)) in
      subst P (take_all i items over) (so_far.fine, so_far.meaning)

  pub passed_stops : (i : ℕ) (done : List T) (x : I) (r : Refused) → i < length items → x ≡ get_or items i x → Passed g f of items i done → Stops (g x) r → Stops (flat_map g items) r
  passed_stops i done x r within read so_far h =
      let cut : items ≡ take i items ++ x ∷ drop (i + 1) items = sym (take-append-drop i items) ∙ ap (λ ys. take i items ++ ys) (drop_more items i x within ∙ ap (λ y. y ∷ drop (i + 1) items) (sym read)) in
      let P : List I → Type 0 = λ xs. Stops (flat_map g xs) r in
      subst P (sym cut) (go r h)
    where
      go : (r : Refused) → Stops (g x) r → Stops (flat_map g (take i items ++ x ∷ drop (i + 1) items)) r
      go (refused.Fault f p) h = stopped_in_one g (take i items) (drop (i + 1) items) x so_far.fine h
      go refused.Memory h = tt
