-- Events of channels, listed in order.
use Rattle.std.proofs.Common.{◌≡◌, ℕ, zero, suc, ◌+◌, ◌-◌, ◌<◌, ◌≤◌, List, [], ◌∷◌, ◌++◌, length, map, take, get_or, Some, slice_get, refl, sym, ◌∙◌, ap, ap₂, subst, append_assoc, arith, length-append}
use Rattle.std.proofs.lemmas.List.{append-nil, length-map, length-take-le, map-append, take_all, take_more}
use Rattle.std.proofs.lemmas.Option.{get_or_from_slice_get, slice_get-get_or, slice_get_within}
use Rattle.theory_syntax.specs.Value as pure
use Rattle.theory_syntax.proofs.Places.{get_some}
use Rattle.theory_shapes.specs.Alphabet.{events_from, field_lists, with_fields}
use Rattle.csp_value.specs.declared.action.Event.{Event}
use Rattle.csp_value.specs.declared.name.ChannelId.{ChannelId}
use Rattle.csp_value.specs.Action.{event_of}
use Rattle.csp_value.specs.Value.{values_of}
use Rattle.csp_events.specs.declared.channel.Channel.{Channel}
use Rattle.csp_events.specs.Channels.{field_sets_of}
use Rattle.csp_numbers.specs.Numbers.{events_of}

pub take_next : {Y : Type 0} (ys : List Y) (n : ℕ) (y : Y) → slice_get ys n ≡ Some y → take (n + 1) ys ≡ take n ys ++ y ∷ []
take_next ys n y at = take_more ys n y (slice_get_within ys n y at) ∙ ap (λ z. take n ys ++ z ∷ []) (get_or_from_slice_get ys n y y at)

pub with_fields_length : (c : ℕ) (lists : List (List pure.Value)) → length (with_fields c lists) ≡ length lists
with_fields_length c lists = let made : List pure.Value → pure.Event = λ vs. record { channel = c; fields = vs } in length-map lists made

-- ---- one channel

module _ {A : Type 0} (c : ℕ) (lists : List (List pure.Value)) (old : List (Event A)) where
  abbrev HasFirst : List (Event A) → ℕ → Type 0
  HasFirst all n = events_of all ≡ events_of old ++ take n (with_fields c lists)

  -- one event more
  pub one_event_more : (e : Event A) (before after : List (Event A)) (n : ℕ) → HasFirst before n → e.channel.0 ≡ c → slice_get lists n ≡ Some (values_of e.fields.items) → after ≡ before ++ e ∷ [] → HasFirst after (n + 1)
  one_event_more e before after n so_far channel at pushed =
      let made : List pure.Value → pure.Event = λ vs. record { channel = c; fields = vs } in
      let same : event_of e ≡ made (values_of e.fields.items) = ap (λ k. record { channel = k; fields = values_of e.fields.items }) channel in
      let here : slice_get (with_fields c lists) n ≡ Some (event_of e) = get_some made lists n (values_of e.fields.items) at ∙ ap Some (sym same) in
      ap events_of pushed ∙ map-append event_of before (e ∷ []) ∙ ap (λ es. es ++ event_of e ∷ []) so_far
      ∙ append_assoc (events_of old) (take n (with_fields c lists)) (event_of e ∷ [])
      ∙ ap (λ es. events_of old ++ es) (sym (take_next (with_fields c lists) n (event_of e) here))

  pub all_events : (all : List (Event A)) (n : ℕ) → HasFirst all n → length lists ≤ n → events_of all ≡ events_of old ++ with_fields c lists
  all_events all n so_far counted =
      let long : length (with_fields c lists) ≤ n = subst (λ k. k ≤ n) (sym (with_fields_length c lists)) counted in
      so_far ∙ ap (λ es. events_of old ++ es) (take_all n (with_fields c lists) long)

-- ---- channels in turn

pub events_more : (c : ℕ) (xs : List (List (List pure.Value))) (sets : List (List pure.Value)) → events_from c (xs ++ sets ∷ []) ≡ events_from c xs ++ with_fields (c + length xs) (field_lists sets)
events_more c [] sets = append-nil (with_fields c (field_lists sets)) ∙ ap (λ k. with_fields k (field_lists sets)) (omega arith)
events_more c (x ∷ xs) sets =
    let first = with_fields c (field_lists x) in
    let place : suc c + length xs ≡ c + length (x ∷ xs) = omega arith in
    ap (λ es. first ++ es) (events_more (suc c) xs sets ∙ ap (λ k. events_from (suc c) xs ++ with_fields k (field_lists sets)) place)
    ∙ sym (append_assoc first (events_from (suc c) xs) (with_fields (c + length (x ∷ xs)) (field_lists sets)))

-- those of the first channels and of the next one are no more than all
pub counted_within : (c : ℕ) (xs : List (List (List pure.Value))) (i : ℕ) (sets : List (List pure.Value)) → slice_get xs i ≡ Some sets → length (events_from c (take i xs)) + length (field_lists sets) ≤ length (events_from c xs)
counted_within c [] i sets at = absurd (cc at)
counted_within c (x ∷ xs) zero sets at =
    let same : x ≡ sets = (let f : Some x ≡ Some sets = at in cc f) in
    let both = length-append (with_fields c (field_lists x)) (events_from (suc c) xs) in
    let one = with_fields_length c (field_lists x) in
    subst (λ (z : List (List pure.Value)). 0 + length (field_lists z) ≤ length (with_fields c (field_lists x) ++ events_from (suc c) xs)) same (omega (arith, both, one))
counted_within c (x ∷ xs) (suc i) sets at =
    let first = with_fields c (field_lists x) in
    let rest = counted_within (suc c) xs i sets at in
    let some = length-append first (events_from (suc c) (take i xs)) in
    let all = length-append first (events_from (suc c) xs) in
    omega (arith, rest, some, all)

-- The events of the first channels are listed, and are no more than so many.
pub record AreListedUpTo {A : Type 0} (channels : List (Channel A)) (most i : ℕ) (events : List (Event A)) : Type 0 where
  pub listed : events_of events ≡ events_from 0 (map field_sets_of (take i channels))
  pub within : length events ≤ most

module _ {A : Type 0} (channels : List (Channel A)) (most i : ℕ) (channel : Channel A) (within : i < length channels) (read : channel ≡ get_or channels i channel) (events : List (Event A)) (so_far : AreListedUpTo channels most i events) where
  -- one channel more
  pub one_channel_more : (number : ChannelId) (count : ℕ) (more : List (Event A)) → number.0 ≡ i → count ≡ length (field_lists (field_sets_of channel)) → count ≤ most - length events →
      events_of more ≡ events_of events ++ with_fields number.0 (field_lists (field_sets_of channel)) → AreListedUpTo channels most (i + 1) more
  one_channel_more number count more numbered counted room added =
      let first = map field_sets_of (take i channels) in
      let new = with_fields number.0 (field_lists (field_sets_of channel)) in
      let taken : take (i + 1) channels ≡ take i channels ++ channel ∷ [] = take_more channels i channel within ∙ ap (λ x. take i channels ++ x ∷ []) (sym read) in
      let long : length first ≡ i = length-map (take i channels) field_sets_of ∙ length-take-le i channels (omega (arith, within)) in
      let place : 0 + length first ≡ number.0 = omega (arith, long, numbered) in
      let all : events_from 0 (map field_sets_of (take (i + 1) channels)) ≡ events_from 0 first ++ new =
      ap (λ xs. events_from 0 (map field_sets_of xs)) taken ∙ ap (events_from 0) (map-append field_sets_of (take i channels) (channel ∷ [])) ∙ events_more 0 first (field_sets_of channel)
      ∙ ap (λ k. events_from 0 first ++ with_fields k (field_lists (field_sets_of channel))) place
      in
      let many : length more ≡ length events + length (field_lists (field_sets_of channel)) =
      sym (length-map more event_of) ∙ ap length added ∙ length-append (events_of events) new ∙ ap₂ ◌+◌ (length-map events event_of) (with_fields_length number.0 (field_lists (field_sets_of channel)))
      in
      record {
        listed = added ∙ ap (λ es. es ++ new) so_far.listed ∙ sym all;
        within = omega (arith, many, counted, room, so_far.within);
      }

  -- or they are too many
  pub too_many : most - length events < length (field_lists (field_sets_of channel)) → most < length (events_from 0 (map field_sets_of channels))
  too_many beyond =
      let stands : slice_get channels i ≡ Some channel = slice_get-get_or channels i channel within ∙ ap Some (sym read) in
      let sets = get_some field_sets_of channels i channel stands in
      let counted = counted_within 0 (map field_sets_of channels) i (field_sets_of channel) sets in
      let taken = ap (λ xs. length (events_from 0 xs)) (map_take field_sets_of i channels) in
      let listed : length events ≡ length (events_from 0 (map field_sets_of (take i channels))) = sym (length-map events event_of) ∙ ap length so_far.listed in
      omega (arith, beyond, counted, taken, listed, so_far.within)
    where
      map_take : {X Y : Type 0} (f : X → Y) (n : ℕ) (xs : List X) → take n (map f xs) ≡ map f (take n xs)
      map_take f zero xs = refl
      map_take f (suc n) [] = refl
      map_take f (suc n) (x ∷ xs) = ap (λ ys. f x ∷ ys) (map_take f n xs)

pub none_listed : {A : Type 0} (channels : List (Channel A)) (most : ℕ) (events : List (Event A)) → events ≡ [] → AreListedUpTo channels most 0 events
none_listed channels most events none = record { listed = ap events_of none; within = subst (λ es. length es ≤ most) (sym none) (omega arith) }

-- all of them
pub all_listed : {A : Type 0} (channels : List (Channel A)) (most i : ℕ) (events : List (Event A)) → AreListedUpTo channels most i events → length channels ≤ i →
    (events_of events ≡ events_from 0 (map field_sets_of channels)) × (length (events_from 0 (map field_sets_of channels)) ≤ most)
all_listed channels most i events so_far past =
    let all = so_far.listed ∙ ap (λ xs. events_from 0 (map field_sets_of xs)) (take_all i channels past) in
    (all, subst (λ n. n ≤ most) (sym (length-map events event_of) ∙ ap length all) so_far.within)
