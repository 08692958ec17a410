-- What the pairs of a renaming make of events, one after the other.
use Rattle.std.proofs.Common.{◌≡◌, ℕ, ◌+◌, ◌<◌, nat_eq, ◌==◌, vec_len, Bool, true, false, ◌&&◌, cond, List, [], ◌∷◌, ◌++◌, length, map, take, drop, get_or, flat_map, Result, Ok, Err, refl, sym, ◌∙◌, ap, ap₂, arith}
use Rattle.std.specs.declared.vec.Vec.{Vec}
use Rattle.std.specs.declared.cmp.Ordering.{Ordering}
use Rattle.std.specs.declared.cmp.Ordering.TheVariants.{Less, Equal, Greater}
use Rattle.std.specs.List.Sorted.{IsPermutation, IsSorted, IsSortedBy}
use Rattle.std.specs.Ordering.{is_eq, is_lt, nat_cmp, ordering_then}
use Rattle.std.specs.Cmp.{nat_cmp_is, both_ways}
use Rattle.std.specs.FinMap.{nat_cmp-IsAntisymmetric}
use Rattle.std.proofs.Math.Dec.{eqb-suc-zero}
use Rattle.std.proofs.lemmas.Bool.{eq-eqb, eqb-true}
use Rattle.std.proofs.lemmas.Grind.{flat_map-append}
use Rattle.std.proofs.lemmas.List.{append-nil, append_assoc, drop_more, map-append, take-append-drop, take_more}
use Rattle.theory_syntax.specs.Value as pure
use Rattle.theory_syntax.specs.Process as process
use Rattle.theory_semantics.specs.Meaning.Evaluation.{Cause, IllKinded, ◌and_then◌}
use Rattle.theory_semantics.specs.Meaning.Events.{channel_images, event_images, field_sets, is_bare, or_itself, pair_images, renaming, same_sets}
use Rattle.theory_semantics.specs.Meaning.Events as events
use Rattle.theory_syntax.proofs.Equalities.{is_eq-Equal, is_eq-reverse}
use Rattle.theory_syntax.proofs.Orders.{event_total}
use Rattle.csp_value.specs.declared.action.Event.{Event}
use Rattle.csp_value.specs.declared.name.ChannelId.{ChannelId}
use Rattle.csp_value.specs.Action.{event_of}
use Rattle.theory_syntax.specs.Expression.{to_expressions}
use Rattle.csp_expression.specs.declared.expr.Expr.{Expr}
use Rattle.csp_expression.specs.Expression.{expressions_of}
use Rattle.csp_expression.specs.Cause.{cause_of}
use Rattle.csp_events.specs.declared.renaming_pair.RenamingPair.{RenamingPair}
use Rattle.csp_events.specs.declared.event_expression.EventExpression.{EventExpression}
use Rattle.csp_events.specs.Events.{event_expression_of, renaming_pair_of, renaming_pairs_of}
use Rattle.csp_events.specs.declared.images.Images.{Images}
use Rattle.csp_expression.specs.declared.no_value.NoValue.{NoValue}
use Rattle.csp_expression.specs.declared.no_value.NoValue.TheVariants as eval
use Rattle.csp_events.specs.Imaging.{AreMade, IsImagesOf, Makes, MakesMore, channel_image, event_image, found_images}
use Rattle.csp_events.specs.Testing.{AreSetsOf, IsEventOf}
use Rattle.csp_events.proofs.Alike.{alike_both, alike_by, alike_moved, alike_then, alike_turned}

-- what a renaming makes of events
abbrev pub Image : Type 0
Image = pure.Event → List pure.Event

abbrev pub both_of : Image → Image → Image
both_of f g = λ e. f e ++ g e

abbrev no_image : Image
no_image = λ e. []

-- ---- the pairs in turn

module _ (s : process.Script) where
  renaming_both : (xs zs : List process.RenamingPair) → renaming s (xs ++ zs) ≡ (renaming s xs and_then λ f. renaming s zs and_then λ g. Ok (both_of f g))
  renaming_both [] zs = alone (renaming s zs)
    where
      alone : (r : Result Image Cause) → r ≡ (r and_then λ g. Ok (both_of no_image g))
      alone (Ok g) = refl
      alone (Err c) = refl
  renaming_both (x ∷ xs) zs = by_first (pair_images s x) (renaming_both xs zs)
    where
      by_last : (f g : Image) (r : Result Image Cause) → ((r and_then λ h. Ok (both_of g h)) and_then λ h. Ok (both_of f h)) ≡ (r and_then λ h. Ok (both_of (both_of f g) h))
      by_last f g (Ok h) = ap Ok (λ i e. sym (append_assoc (f e) (g e) (h e)) i)
      by_last f g (Err c) = refl

      by_rest : (f : Image) (r : Result Image Cause) →
          ((r and_then λ g. renaming s zs and_then λ h. Ok (both_of g h)) and_then λ h. Ok (both_of f h)) ≡ ((r and_then λ g. Ok (both_of f g)) and_then λ g. renaming s zs and_then λ h. Ok (both_of g h))
      by_rest f (Ok g) = by_last f g (renaming s zs)
      by_rest f (Err c) = refl

      by_first : (r : Result Image Cause) → renaming s (xs ++ zs) ≡ (renaming s xs and_then λ f. renaming s zs and_then λ g. Ok (both_of f g)) →
          (r and_then λ f. renaming s (xs ++ zs) and_then λ g. Ok (both_of f g)) ≡ ((r and_then λ f. renaming s xs and_then λ g. Ok (both_of f g)) and_then λ f. renaming s zs and_then λ g. Ok (both_of f g))
      by_first (Ok f) rest = ap (λ r. r and_then λ h. Ok (both_of f h)) rest ∙ by_rest f (renaming s xs)
      by_first (Err c) rest = refl

  -- one more
  renaming_more : (xs : List process.RenamingPair) (x : process.RenamingPair) (f g : Image) → renaming s xs ≡ Ok f → pair_images s x ≡ Ok g → renaming s (xs ++ x ∷ []) ≡ Ok (both_of f (both_of g no_image))
  renaming_more xs x f g so_far one =
      renaming_both xs (x ∷ []) ∙ ap (λ r. r and_then λ f. renaming s (x ∷ []) and_then λ h. Ok (both_of f h)) so_far
      ∙ ap (λ r. (r and_then λ g. Ok (both_of g no_image)) and_then λ h. Ok (both_of f h)) one

  -- or the first cause
  renaming_stops : (xs zs : List process.RenamingPair) (x : process.RenamingPair) (f : Image) (c : Cause) → renaming s xs ≡ Ok f → pair_images s x ≡ Err c → renaming s (xs ++ x ∷ zs) ≡ Err c
  renaming_stops xs zs x f c so_far none =
      renaming_both xs (x ∷ zs) ∙ ap (λ r. r and_then λ f. renaming s (x ∷ zs) and_then λ h. Ok (both_of f h)) so_far
      ∙ ap (λ r. (r and_then λ g. renaming s zs and_then λ k. Ok (both_of g k)) and_then λ h. Ok (both_of f h)) none

  module _ {A : Type 0} (items : List (RenamingPair A)) (i : ℕ) (item : RenamingPair A) (within : i < length items) (read : item ≡ get_or items i item) (images more : Images A) (so_far : AreMade images (renaming s (renaming_pairs_of (take i items)))) where
    longer : renaming_pairs_of (take (i + 1) items) ≡ renaming_pairs_of (take i items) ++ renaming_pair_of item ∷ []
    longer = ap renaming_pairs_of (take_more items i item within ∙ ap (λ x. take i items ++ x ∷ []) (sym read)) ∙ map-append renaming_pair_of (take i items) (item ∷ [])

    whole : renaming_pairs_of items ≡ renaming_pairs_of (take i items) ++ renaming_pair_of item ∷ renaming_pairs_of (drop (i + 1) items)
    whole =
        let rest = drop_more items i item within ∙ ap (λ x. x ∷ drop (i + 1) items) (sym read) in
        ap renaming_pairs_of (sym (take-append-drop i items) ∙ ap (λ xs. take i items ++ xs) rest) ∙ map-append renaming_pair_of (take i items) (item ∷ drop (i + 1) items)

    pub one_pair_more : MakesMore images (pair_images s (renaming_pair_of item)) (Ok tt) more → AreMade more (renaming s (renaming_pairs_of (take (i + 1) items)))
    one_pair_more one =
        let f = so_far.0 in
        let g = one.0 in (
          both_of f (both_of g no_image),
          ap (renaming s) longer ∙ renaming_more (renaming_pairs_of (take i items)) (renaming_pair_of item) f g so_far.1 one.1,
          λ e. alike_then (f e ++ (g e ++ [])) (found_images images e ++ g e) (found_images more e)
              (alike_both (f e) (found_images images e) (g e ++ []) (g e) (so_far.2 e) (alike_by (g e ++ []) (g e) (append-nil (g e)))) (one.2 e),
        )

    pub stops_at_pair : (why : NoValue) → MakesMore images (pair_images s (renaming_pair_of item)) (Err why) more → IsImagesOf {A = A} (Err why) (renaming s (renaming_pairs_of items))
    stops_at_pair (eval.Cause c) is =
        ap (renaming s) whole ∙ renaming_stops (renaming_pairs_of (take i items)) (renaming_pairs_of (drop (i + 1) items)) (renaming_pair_of item) so_far.0 (cause_of c) so_far.1 is
    stops_at_pair eval.Memory is = tt

-- ---- one pair

-- no fields are no expressions
pub none_is_bare : {A : Type 0} (written : EventExpression A) → (vec_len written.fields == 0) ≡ is_bare (event_expression_of written)
none_is_bare {A} written = ap (λ n. n == 0) written.fields.ok.0 ∙ by_list written.fields.items
  where
    by_list : (es : List (Expr A)) → (length es == 0) ≡ is_bare (record { channel = written.channel.0; fields = to_expressions (expressions_of es) })
    by_list [] = refl
    by_list (e ∷ es) = eqb-suc-zero (length es)

module _ (s : process.Script) (r : process.RenamingPair) where
  abbrev by_form : Bool → Result Image Cause
  by_form b = elim b [ true ↦ channel_images s r.from.channel r.to.channel | false ↦ event_images s r.from r.to ]

  pub pair_of_channels : is_bare r.from && is_bare r.to ≡ true → pair_images s r ≡ channel_images s r.from.channel r.to.channel
  pair_of_channels bare = ap by_form bare

  pub pair_of_events : is_bare r.from && is_bare r.to ≡ false → pair_images s r ≡ event_images s r.from r.to
  pair_of_events bare = ap by_form bare

-- what has no event or no field sets has no images
module _ (A : Type 0) (before after : Images A) (all : Result Image Cause) where
  pub stopped_at_event : (one : Result pure.Event Cause) (why : NoValue) → IsEventOf {A = A} (Err why) one → ((c : Cause) → one ≡ Err c → all ≡ Err c) → MakesMore before all (Err why) after
  stopped_at_event one (eval.Cause c) is goes = goes (cause_of c) is
  stopped_at_event one eval.Memory is goes = tt

  pub stopped_at_sets : (one : Result (List (List pure.Value)) Cause) (why : NoValue) → AreSetsOf {A = A} (Err why) one → ((c : Cause) → one ≡ Err c → all ≡ Err c) → MakesMore before all (Err why) after
  stopped_at_sets one (eval.Cause c) is goes = goes (cause_of c) is
  stopped_at_sets one eval.Memory is goes = tt

-- no pairs
pub none_named : {A : Type 0} (s : process.Script) (images : Images A) → images.channels.items ≡ [] → images.events.items ≡ [] → AreMade images (renaming s [])
none_named s images no_channels no_events = (
  no_image,
  refl,
  λ e. alike_by [] (found_images images e) (sym (ap₂ (λ cs es. flat_map (channel_image e) cs ++ flat_map (event_image e) es) no_channels no_events)),
)

module _ {A : Type 0} (images : Images A) where
  -- one more pair of channels
  pub channel_put : (p : ChannelId × ChannelId) (channels : Vec (ChannelId × ChannelId) A) → channels.items ≡ images.channels.items ++ p ∷ [] → Makes (record { channels = channels; events = images.events }) (λ e. found_images images e ++ channel_image e p)
  channel_put p channels pushed e =
      let first = flat_map (channel_image e) images.channels.items in
      let last = flat_map (event_image e) images.events.items in
      let one = channel_image e p in
      let put : flat_map (channel_image e) channels.items ≡ first ++ one =
      ap (flat_map (channel_image e)) pushed ∙ flat_map-append (channel_image e) images.channels.items (p ∷ []) ∙ ap (λ ys. first ++ ys) (append-nil one)
      in
      alike_then ((first ++ last) ++ one) (first ++ (one ++ last)) (flat_map (channel_image e) channels.items ++ last)
      (alike_then ((first ++ last) ++ one) (first ++ (last ++ one)) (first ++ (one ++ last)) (alike_by ((first ++ last) ++ one) (first ++ (last ++ one)) (append_assoc first last one))
      (alike_both first first (last ++ one) (one ++ last) (alike_by first first refl) (alike_turned last one)))
      (alike_by (first ++ (one ++ last)) (flat_map (channel_image e) channels.items ++ last) (sym (append_assoc first one last) ∙ ap (λ ys. ys ++ last) (sym put)))

  -- one more pair of events
  pub event_put : (p : Event A × Event A) (all : Vec (Event A × Event A) A) → all.items ≡ images.events.items ++ p ∷ [] → Makes (record { channels = images.channels; events = all }) (λ e. found_images images e ++ event_image e p)
  event_put p all pushed e =
      let first = flat_map (channel_image e) images.channels.items in
      let last = flat_map (event_image e) images.events.items in
      let one = event_image e p in
      let put : flat_map (event_image e) all.items ≡ last ++ one =
      ap (flat_map (event_image e)) pushed ∙ flat_map-append (event_image e) images.events.items (p ∷ []) ∙ ap (λ ys. last ++ ys) (append-nil one)
      in
      alike_by ((first ++ last) ++ one) (first ++ flat_map (event_image e) all.items) (append_assoc first last one ∙ ap (λ ys. first ++ ys) (sym put))

module _ (A : Type 0) (s : process.Script) (images : Images A) where
  -- two channels with the same field sets
  pub channels_named : (from to : ChannelId) (sets others : List (List pure.Value)) (channels : Vec (ChannelId × ChannelId) A) → field_sets s from.0 ≡ Ok sets → field_sets s to.0 ≡ Ok others → same_sets sets others ≡ true →
      channels.items ≡ images.channels.items ++ (from, to) ∷ [] → MakesMore images (channel_images s from.0 to.0) (Ok tt) (record { channels = channels; events = images.events })
  channels_named from to sets others channels first second same pushed =
      let f : Image = λ e. channel_image e (from, to) in (
        f,
        ap (λ r. r and_then λ s'. field_sets s to.0 and_then λ t. cond (same_sets s' t) (Ok f) (Err IllKinded)) first ∙ ap (λ r. r and_then λ t. cond (same_sets sets t) (Ok f) (Err IllKinded)) second
            ∙ ap (λ b. cond b (Ok f) (Err IllKinded)) same,
        channel_put images (from, to) channels pushed,
      )

  -- two events
  pub events_named : (from to : process.EventExpression) (f g : Event A) (all : Vec (Event A × Event A) A) → events.event_of s from ≡ Ok (event_of f) → events.event_of s to ≡ Ok (event_of g) →
      all.items ≡ images.events.items ++ (f, g) ∷ [] → MakesMore images (event_images s from to) (Ok tt) (record { channels = images.channels; events = all })
  events_named from to f g all first second pushed =
      let made : pure.Event → pure.Event → Image = λ x y e. cond (pure.event_eq e x) (y ∷ []) [] in (
        λ e. event_image e (f, g),
        ap (λ r. r and_then λ x. events.event_of s to and_then λ y. Ok (made x y)) first ∙ ap (λ r. r and_then λ y. Ok (made (event_of f) y)) second,
        event_put images (f, g) all pushed,
      )

-- ---- pairs without images

module _ (s : process.Script) (from to : process.EventExpression) (cause : Cause) where
  abbrev made : pure.Event → pure.Event → Image
  made x y = λ e. cond (pure.event_eq e x) (y ∷ []) []

  pub no_first_event : events.event_of s from ≡ Err cause → event_images s from to ≡ Err cause
  no_first_event none = ap (λ r. r and_then λ x. events.event_of s to and_then λ y. Ok (made x y)) none

  pub no_second_event : (x : pure.Event) → events.event_of s from ≡ Ok x → events.event_of s to ≡ Err cause → event_images s from to ≡ Err cause
  no_second_event x one none = ap (λ r. r and_then λ x. events.event_of s to and_then λ y. Ok (made x y)) one ∙ ap (λ r. r and_then λ y. Ok (made x y)) none

module _ (s : process.Script) (c d : ℕ) where
  abbrev moved : Image
  moved = λ e. cond (nat_eq e.channel c) (record { channel = d; fields = e.fields } ∷ []) []

  abbrev by_sets : List (List pure.Value) → List (List pure.Value) → Result Image Cause
  by_sets sets others = cond (same_sets sets others) (Ok moved) (Err IllKinded)

  pub no_first_sets : (cause : Cause) → field_sets s c ≡ Err cause → channel_images s c d ≡ Err cause
  no_first_sets cause none = ap (λ r. r and_then λ x. field_sets s d and_then λ y. by_sets x y) none

  pub no_second_sets : (cause : Cause) (sets : List (List pure.Value)) → field_sets s c ≡ Ok sets → field_sets s d ≡ Err cause → channel_images s c d ≡ Err cause
  no_second_sets cause sets one none = ap (λ r. r and_then λ x. field_sets s d and_then λ y. by_sets x y) one ∙ ap (λ r. r and_then λ y. by_sets sets y) none

  -- two channels with other field sets
  pub channels_differ : (sets others : List (List pure.Value)) → field_sets s c ≡ Ok sets → field_sets s d ≡ Ok others → same_sets sets others ≡ false → channel_images s c d ≡ Err IllKinded
  channels_differ sets others first second differ =
      ap (λ r. r and_then λ x. field_sets s d and_then λ y. by_sets x y) first ∙ ap (λ r. r and_then λ y. by_sets sets y) second ∙ ap (λ b. cond b (Ok moved) (Err IllKinded)) differ

-- ---- pairs that are moved about

module _ {A : Type 0} (images sorted : Images A) where
  pub found_moved : (r : Result Image Cause) → AreMade images r → IsPermutation images.channels.items sorted.channels.items → IsPermutation images.events.items sorted.events.items → AreMade sorted r
  found_moved r made channels_moved events_moved = (
    made.0,
    made.1,
    λ e. alike_then (made.0 e) (found_images images e) (found_images sorted e) (made.2 e)
        (alike_both (flat_map (channel_image e) images.channels.items) (flat_map (channel_image e) sorted.channels.items) (flat_map (event_image e) images.events.items) (flat_map (event_image e) sorted.events.items)
        (alike_moved (channel_image e) images.channels.items sorted.channels.items channels_moved) (alike_moved (event_image e) images.events.items sorted.events.items events_moved)),
  )

no_less : (r t : Ordering) → is_lt (ordering_then r t) ≡ false → is_lt r ≡ false
no_less Less t e = e
no_less Equal t e = refl
no_less Greater t e = refl

-- pairs that rise do so by their firsts
pub firsts_rise : {X : Type 0} (first second : X → X → Ordering) (xs : List X) → IsSorted (λ x y. ordering_then (first x y) (second x y)) xs → IsSortedBy (λ x y. is_lt (first x y)) xs
firsts_rise first second xs rise k d low high = no_less (first (get_or xs (k + 1) d) (get_or xs k d)) (second (get_or xs (k + 1) d) (get_or xs k d)) (rise k d low high)

-- ---- keys that tie

channels_tie : (c k : ℕ) → is_eq (nat_cmp c k) ≡ nat_eq k c
channels_tie c k =
    both_ways (is_eq (nat_cmp c k)) (nat_eq k c)
    (λ e. eq-eqb k c (sym (nat_cmp-IsAntisymmetric c k (is_eq-Equal (nat_cmp c k) e))))
    (λ e. ap is_eq (sym (nat_cmp_is c k Equal (sym (eqb-true k c e)))))

events_tie : (f e : pure.Event) → is_eq (pure.event_cmp f e) ≡ pure.event_eq e f
events_tie f e = ap is_eq (event_total.antisymm f e) ∙ is_eq-reverse (pure.event_cmp e f)

-- a pair that does not name the event makes nothing of it
pub no_channel_image : (e : pure.Event) (p : ChannelId × ChannelId) → is_eq (nat_cmp p.0.0 e.channel) ≡ false → channel_image e p ≡ []
no_channel_image e p other = ap (λ b. cond b (record { channel = p.1.0; fields = e.fields } ∷ []) []) (sym (channels_tie p.0.0 e.channel) ∙ other)

pub no_event_image : {A : Type 0} (e : pure.Event) (p : Event A × Event A) → is_eq (pure.event_cmp (event_of p.0) e) ≡ false → event_image e p ≡ []
no_event_image e p other = ap (λ b. cond b (event_of p.1 ∷ []) []) (sym (events_tie (event_of p.0) e) ∙ other)

-- another key
pub channel_differs : (c k : ℕ) → nat_eq k c ≡ false → is_eq (nat_cmp c k) ≡ false
channel_differs c k other = channels_tie c k ∙ other

pub event_differs : {A : Type 0} (e : pure.Event) (p : Event A × Event A) → pure.event_eq e (event_of p.0) ≡ false → is_eq (pure.event_cmp (event_of p.0) e) ≡ false
event_differs e p other = events_tie (event_of p.0) e ∙ other

-- a pair that names the event makes one of it
pub one_image : (b : Bool) (f g : pure.Event) → b ≡ true → g ≡ f → cond b (f ∷ []) [] ≡ g ∷ []
one_image b f g is same = ap (λ c. cond c (f ∷ []) []) is ∙ ap (λ h. h ∷ []) (sym same)

-- ---- an event that no pair names

pub no_items : {X A : Type 0} (v : Vec X A) → (vec_len v == 0) ≡ true → v.items ≡ []
no_items {X} v is = by_list v.items (sym v.ok.0 ∙ eqb-true (vec_len v) 0 is)
  where
    by_list : (xs : List X) → length xs ≡ 0 → xs ≡ []
    by_list [] e = refl
    by_list (x ∷ xs) e = absurd (omega (arith, e))

pub some_items : {X A : Type 0} (v : Vec X A) → (vec_len v == 0) ≡ false → v.items ≡ [] → ⊥
some_items v is none = let e = sym is ∙ ap (λ n. n == 0) (v.ok.0 ∙ ap length none) in cc e

module _ {A : Type 0} (e : Event A) (fs : List pure.Event) (found : List (Event A)) (same : map event_of found ≡ fs) where
  pub own_image : (more : List (Event A)) → found ≡ [] → more ≡ found ++ e ∷ [] → map event_of more ≡ or_itself (event_of e) fs
  own_image more empty pushed = ap (map event_of) (pushed ∙ ap (λ xs. xs ++ e ∷ []) empty) ∙ ap (or_itself (event_of e)) (sym (ap (map event_of) empty) ∙ same)

  pub other_images : (found ≡ [] → ⊥) → map event_of found ≡ or_itself (event_of e) fs
  other_images some = by_list found some ∙ ap (or_itself (event_of e)) same
    where
      by_list : (xs : List (Event A)) → (xs ≡ [] → ⊥) → map event_of xs ≡ or_itself (event_of e) (map event_of xs)
      by_list [] some = absurd (some refl)
      by_list (x ∷ xs) some = refl

-- what both lists make of an event, behind nothing
pub found_in_both : {A : Type 0} (images : Images A) (e : pure.Event) (none mid found : List (Event A)) → none ≡ [] → map event_of mid ≡ map event_of none ++ flat_map (channel_image e) images.channels.items →
    map event_of found ≡ map event_of mid ++ flat_map (event_image e) images.events.items → map event_of found ≡ found_images images e
found_in_both images e none mid found empty first second =
    second ∙ ap (λ fs. fs ++ flat_map (event_image e) images.events.items) (first ∙ ap (λ xs. map event_of xs ++ flat_map (channel_image e) images.channels.items) empty)
