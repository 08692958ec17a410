-- The images of events by their numbers.
use Rattle.std.proofs.Common.{◌≡◌, ℕ, ◌+◌, ◌<◌, ◌≤◌, nat_eq, true, false, cond, List, [], ◌∷◌, ◌++◌, length, length-append, map, take, get_or, flat_map, Option, Some, None, slice_get, Err, refl, sym, ◌∙◌, ap, ap₂, subst, inl, inr, ◌⊎◌, arith}
use Rattle.std.specs.List.{AllByRecursion}
use Rattle.std.specs.Result.{result_err}
use Rattle.std.specs.declared.vec.Vec.{Vec}
use Rattle.std.proofs.lemmas.Bool.{cases_lt}
use Rattle.std.proofs.lemmas.Grind.{flat_map-append}
use Rattle.std.proofs.lemmas.List.{append-nil, map-append, take_more}
use Rattle.std.proofs.lemmas.Option.{get_or_from_slice_get, slice_get-get_or, slice_get_within}
use Rattle.theory_syntax.specs.Value.{Event, event_cmp, event_eq}
use Rattle.theory_syntax.specs.Process.{RenamingPair, Script}
use Rattle.theory_syntax.proofs.Equalities.{event_refl}
use Rattle.theory_syntax.proofs.Places.{get_end, get_front}
use Rattle.theory_semantics.specs.Meaning.Events.{images, images_by as pure_images_by, or_itself, renaming}
use Rattle.theory_semantics.specs.Meaning.Offers.{RisesBy}
use Rattle.theory_semantics.proofs.Rising.{Contains-from_stands}
use Rattle.theory_shapes.proofs.Numbered.{apart}
use Rattle.csp_value.specs.declared.name.ChannelId.{ChannelId}
use Rattle.csp_expression.specs.declared.no_value.NoValue.{NoValue}
use Rattle.csp_expression.specs.declared.no_value.NoValue.TheVariants as eval
use Rattle.csp_rows.specs.declared.framed.Images.{Images}
use Rattle.csp_rows.specs.declared.numbers.EventId.{EventId}
use Rattle.csp_rows.specs.Framed.{images_at, listed}
use Rattle.csp_rows.specs.Numbering.{Numbering}
use Rattle.csp_numbers.specs.declared.pair.Pair.{Pair}
use Rattle.csp_numbers.specs.declared.pair.Pair.TheVariants as pair
use Rattle.csp_numbers.specs.Images.{AnswersImages, AreImages}
use Rattle.csp_numbers.specs.Numbers.{IsNumberOf, NumbersEvents, event_at, no_event}
use Rattle.csp_numbers.specs.Pairs.{AreNumbersOf, ArePairsOf, HaveImages, IsImage, IsPlaced, Make, image_by, images_by, or_none}

-- ---- one pair

module _ (es : List Event) (n : ℕ) (e : Event) (at : slice_get es n ≡ Some e) where
  -- two channels, of which the first is the event's
  pub image_on_channel : (from to : ChannelId) (r : Option EventId) → IsPlaced es (pair.Channels from to) → nat_eq e.channel from.0 ≡ true → IsNumberOf es (record { channel = to.0; fields = e.fields }) r → IsImage es (image_by es e (pair.Channels from to)) r
  image_on_channel from to (Some m) placed named found =
      ap (λ b. map (λ g. Some g) (cond b (record { channel = to.0; fields = e.fields } ∷ []) [])) named ∙ ap (λ o. o ∷ []) (sym found)
  image_on_channel from to None placed named missed = absurd (missed (placed e (Contains-from_stands es e (n, at)) named))

  -- it is another one
  pub no_image_on_channel : (from to : ChannelId) → nat_eq e.channel from.0 ≡ false → IsImage es (image_by es e (pair.Channels from to)) None
  no_image_on_channel from to other = ap (λ b. cond b (record { channel = to.0; fields = e.fields } ∷ []) []) other

  module _ (from to : EventId) (placed : IsPlaced es (pair.Events from to)) where
    -- the pair names the event
    pub image_of_event : n ≡ from.0 → IsImage es (image_by es e (pair.Events from to)) (Some to)
    image_of_event same =
        let it : event_at es from ≡ e = get_or_from_slice_get es from.0 e no_event (ap (slice_get es) (sym same) ∙ at) in
        let named : event_eq e (event_at es from) ≡ true = ap (event_eq e) it ∙ event_refl e in
        ap (λ b. map (λ g. Some g) (cond b (event_at es to ∷ []) [])) named ∙ ap (λ o. o ∷ []) (sym (slice_get-get_or es to.0 no_event placed.1))

    -- it names another one
    pub no_image_of_event : RisesBy event_cmp es → nat_eq n from.0 ≡ false → IsImage es (image_by es e (pair.Events from to)) None
    no_image_of_event rise other =
        let it : get_or es n no_event ≡ e = get_or_from_slice_get es n e no_event at in
        let not_named : event_eq e (event_at es from) ≡ false = ap (λ g. event_eq g (event_at es from)) (sym it) ∙ apart no_event es rise n from.0 (slice_get_within es n e at) placed.0 ∙ other in
        ap (λ b. cond b (event_at es to ∷ []) []) not_named

-- ---- the pairs in turn

as_numbers : (es : List Event) (fs : List Event) (r : Option EventId) → IsImage es fs r → AreNumbersOf es fs (or_none r)
as_numbers es fs (Some n) is = sym is
as_numbers es fs None is = ap (map (λ e. Some e)) (sym is)

numbers_append : (es fs gs : List Event) (ns ms : List EventId) → AreNumbersOf es fs ns → AreNumbersOf es gs ms → AreNumbersOf es (fs ++ gs) (ns ++ ms)
numbers_append es fs gs ns ms first second = map-append (λ n. slice_get es n.0) ns ms ∙ ap₂ ◌++◌ first second ∙ sym (map-append (λ e. Some e) fs gs)

module _ (es : List Event) (e : Event) (ps : List Pair) (i : ℕ) (d : Pair) (within : i < length ps) where
  abbrev p : Pair
  p = get_or ps i d

  -- one image more
  pub one_image_more : (old new : List EventId) (r : Option EventId) → AreNumbersOf es (images_by es (take i ps) e) old → IsImage es (image_by es e (get_or ps i d)) r → new ≡ old ++ or_none r → AreNumbersOf es (images_by es (take (i + 1) ps) e) new
  one_image_more old new r so_far is added =
      let taken : take (i + 1) ps ≡ take i ps ++ p ∷ [] = take_more ps i d within in
      let made : images_by es (take (i + 1) ps) e ≡ images_by es (take i ps) e ++ image_by es e p =
      ap (flat_map (image_by es e)) taken ∙ flat_map-append (image_by es e) (take i ps) (p ∷ []) ∙ ap (λ fs. images_by es (take i ps) e ++ fs) (append-nil (image_by es e p))
      in
      ap (map (λ n. slice_get es n.0)) added ∙ numbers_append es (images_by es (take i ps) e) (image_by es e p) old (or_none r) so_far (as_numbers es (image_by es e p) r is)
      ∙ ap (map (λ f. Some f)) (sym made)

-- ---- an event that no pair names

pub itself : (es : List Event) (e : Event) (fs : List Event) (n : EventId) (old new : List EventId) → slice_get es n.0 ≡ Some e → AreNumbersOf es fs old → old ≡ [] → new ≡ old ++ n ∷ [] → AreNumbersOf es (or_itself e fs) new
itself es e [] n old new at so_far empty added = ap (map (λ k. slice_get es k.0)) (added ∙ ap (λ ns. ns ++ n ∷ []) empty) ∙ ap (λ o. o ∷ []) at
itself es e (f ∷ fs) n old new at so_far empty added = let none = sym (ap (map (λ k. slice_get es k.0)) empty) ∙ so_far in absurd (cc none)

pub others : (es : List Event) (e : Event) (fs : List Event) (old : List EventId) → AreNumbersOf es fs old → (old ≡ [] → ⊥) → AreNumbersOf es (or_itself e fs) old
others es e [] [] so_far some = absurd (some refl)
others es e [] (n ∷ ns) so_far some = absurd (cc so_far)
others es e (f ∷ fs) old so_far some = so_far

-- ---- all events

-- the first events have their images
pub record HaveFirstImages {A : Type 0} (es : List Event) (ps : List Pair) (i : ℕ) (found : List (Vec EventId A)) : Type 0 where
  pub counted : length found ≡ i
  pub each : (n : ℕ) (e : Event) → n < i → slice_get es n ≡ Some e → AreNumbersOf es (or_itself e (images_by es ps e)) (images_at found n)

pub none_found : {A : Type 0} (es : List Event) (ps : List Pair) (found : List (Vec EventId A)) → found ≡ [] → HaveFirstImages es ps 0 found
none_found es ps found none = record { counted = ap length none; each = λ n e within. absurd (omega (arith, within)) }

pub one_event_found : {A : Type 0} (es : List Event) (ps : List Pair) (i : ℕ) (e : Event) (old new : List (Vec EventId A)) (own : Vec EventId A) → HaveFirstImages es ps i old → slice_get es i ≡ Some e →
    AreNumbersOf es (or_itself e (images_by es ps e)) own.items → new ≡ old ++ own ∷ [] → HaveFirstImages es ps (i + 1) new
one_event_found {A} es ps i e old new own so_far at are pushed = record {
  counted = ap length pushed ∙ length-append old (own ∷ []) ∙ ap (λ n. n + 1) so_far.counted;
  each = λ n f within stands. by_place n f within stands (cases_lt n i);
}
  where
    by_place : (n : ℕ) (f : Event) → n < i + 1 → slice_get es n ≡ Some f → (n < i) ⊎ (i ≤ n) → AreNumbersOf es (or_itself f (images_by es ps f)) (images_at new n)
    by_place n f within stands (inl below) =
        let x = get_or old n own in
        let there : slice_get old n ≡ Some x = slice_get-get_or old n own (omega (arith, below, so_far.counted)) in
        let same : images_at new n ≡ images_at old n = ap (λ xs. listed (slice_get xs n)) pushed ∙ ap listed (get_front old (own ∷ []) n x there) ∙ ap listed (sym there) in
        ap (map (λ k. slice_get es k.0)) same ∙ so_far.each n f below stands
    by_place n f within stands (inr beyond) =
        let here : n ≡ i = omega (arith, within, beyond) in
        let it : f ≡ e = (let both : Some f ≡ Some e = sym stands ∙ ap (slice_get es) here ∙ at in cc both) in
        let last : slice_get new n ≡ Some own = ap₂ slice_get pushed (here ∙ sym so_far.counted) ∙ get_end old own in
        ap (λ o. map (λ k. slice_get es k.0) (listed o)) last ∙ are ∙ ap (λ g. map (λ h. Some h) (or_itself g (images_by es ps g))) (sym it)

pub all_found : {A : Type 0} (es : List Event) (ps : List Pair) (i : ℕ) (by : Images A) → HaveFirstImages es ps i by.images.items → length es ≤ i → HaveImages es ps by
all_found es ps i by so_far past n e at = so_far.each n e (let within = slice_get_within es n e at in omega (arith, within, past)) at

-- ---- what they are under any numbering

told : (es : List Event) (z : Numbering) → NumbersEvents es z → (ns : List EventId) (fs : List Event) → AreNumbersOf es fs ns → (fs ≡ map (λ n. z.event n.0) ns) × AllByRecursion (λ n. n.0 < z.events) ns
told es z numbers [] [] are = (refl, tt)
told es z numbers [] (f ∷ fs) are = absurd (cc are)
told es z numbers (n ∷ ns) [] are = absurd (cc are)
told es z numbers (n ∷ ns) (f ∷ fs) are =
    let first : slice_get es n.0 ≡ Some f = cc are in
    let rest : AreNumbersOf es fs ns = cc are in
    let within = slice_get_within es n.0 f first in
    let same : f ≡ z.event n.0 = (let both : Some f ≡ Some (z.event n.0) = sym first ∙ numbers.each n.0 within in cc both) in
    let more = told es z numbers ns fs rest in
    (ap₂ ◌∷◌ same more.0, (subst (λ k. n.0 < k) (sym numbers.count) within, more.1))

pub are_images : {A : Type 0} (es : List Event) (script : Script) (rs : List RenamingPair) (ps : List Pair) (by : Images A) → Make es ps (renaming script rs) → HaveImages es ps by → AreImages es script rs by
are_images es script rs ps by made have = record {
  values = ap result_err made.is;
  same = λ z numbers n within.
      let e = z.event n in
      let at = numbers.each n (subst (λ k. n < k) numbers.count within) in
      let makes : images script rs e ≡ or_itself e (images_by es ps e) = ap (λ r. pure_images_by r e) made.is ∙ ap (or_itself e) (made.same e) in
      let found = told es z numbers (images_at by.images.items n) (or_itself e (images_by es ps e)) (have n e at) in
      record { same = makes ∙ found.0; numbered = found.1 };
}

pub no_images : (A : Type 0) (es : List Event) (script : Script) (rs : List RenamingPair) (why : NoValue) → ArePairsOf {A = A} es (Err why) (renaming script rs) → AnswersImages {A = A} es script rs (Err why)
no_images A es script rs (eval.Cause c) is = ap result_err is
no_images A es script rs eval.Memory is = tt
