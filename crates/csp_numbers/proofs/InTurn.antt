-- The pairs of a renaming in turn.
use Rattle.std.proofs.Common.{◌≡◌, ℕ, ◌+◌, ◌<◌, nat_eq, true, cond, List, [], ◌∷◌, ◌++◌, length, take, drop, get_or, flat_map, Some, slice_get, Result, Ok, Err, refl, sym, ◌∙◌, ap, ap₂, subst, Contains}
use Rattle.std.specs.List.{AllByRecursion}
use Rattle.std.proofs.lemmas.Grind.{flat_map-append}
use Rattle.std.proofs.lemmas.List.{append-nil, append_assoc, drop_more, map-append, take-append-drop, take_more}
use Rattle.std.proofs.lemmas.Option.{get_or_from_slice_get, slice_get_within}
use Rattle.theory_syntax.specs.Value.{Event, Value, event_eq}
use Rattle.theory_syntax.specs.Process as process
use Rattle.theory_semantics.specs.Meaning.Evaluation.{Cause, IllKinded, ◌and_then◌}
use Rattle.theory_semantics.specs.Meaning.Events.{channel_images, event_images, event_of, field_sets, pair_images, renaming, same_sets}
use Rattle.csp_expression.specs.declared.no_value.NoValue.{NoValue}
use Rattle.csp_expression.specs.declared.no_value.NoValue.TheVariants as eval
use Rattle.csp_expression.specs.Cause.{cause_of}
use Rattle.csp_events.specs.declared.renaming_pair.RenamingPair.{RenamingPair}
use Rattle.csp_events.specs.Events.{renaming_pair_of, renaming_pairs_of}
use Rattle.csp_value.specs.declared.name.ChannelId.{ChannelId}
use Rattle.csp_rows.specs.declared.numbers.EventId.{EventId}
use Rattle.theory_shapes.specs.Alphabet.{IsEventOf, alphabet}
use Rattle.theory_shapes.proofs.Doing.{Keeps, channel_keeps}
use Rattle.theory_shapes.proofs.Listing.{alphabet_has, alphabet_is}
use Rattle.theory_shapes.proofs.Results.{IfValue, all_append}
use Rattle.csp_numbers.specs.declared.pair.Pair.{Pair}
use Rattle.csp_numbers.specs.declared.pair.Pair.TheVariants as pair
use Rattle.csp_numbers.specs.Numbers.{no_event}
use Rattle.csp_numbers.specs.Pairs.{ArePairsOf, IsNumberIn, IsPairOf, IsPlaced, Make, image_by, images_by}

-- what a renaming makes of events
abbrev Image : Type 0
Image = Event → List Event

abbrev both_of : Image → Image → Image
both_of f g = λ e. f e ++ g e

abbrev no_image : Image
no_image = λ e. []

-- ---- the pairs in turn

module _ (s : process.Script) where
  renaming_both : (xs zs : List process.RenamingPair) → renaming s (xs ++ zs) ≡ (renaming s xs and_then λ f. renaming s zs and_then λ g. Ok (both_of f g))
  renaming_both [] zs = alone (renaming s zs)
    where
      alone : (r : Result Image Cause) → r ≡ (r and_then λ g. Ok (both_of no_image g))
      alone (Ok g) = refl
      alone (Err c) = refl
  renaming_both (x ∷ xs) zs = by_first (pair_images s x) (renaming_both xs zs)
    where
      by_last : (f g : Image) (r : Result Image Cause) → ((r and_then λ h. Ok (both_of g h)) and_then λ h. Ok (both_of f h)) ≡ (r and_then λ h. Ok (both_of (both_of f g) h))
      by_last f g (Ok h) = ap Ok (λ i e. sym (append_assoc (f e) (g e) (h e)) i)
      by_last f g (Err c) = refl

      by_rest : (f : Image) (r : Result Image Cause) →
          ((r and_then λ g. renaming s zs and_then λ h. Ok (both_of g h)) and_then λ h. Ok (both_of f h)) ≡ ((r and_then λ g. Ok (both_of f g)) and_then λ g. renaming s zs and_then λ h. Ok (both_of g h))
      by_rest f (Ok g) = by_last f g (renaming s zs)
      by_rest f (Err c) = refl

      by_first : (r : Result Image Cause) → renaming s (xs ++ zs) ≡ (renaming s xs and_then λ f. renaming s zs and_then λ g. Ok (both_of f g)) →
          (r and_then λ f. renaming s (xs ++ zs) and_then λ g. Ok (both_of f g)) ≡ ((r and_then λ f. renaming s xs and_then λ g. Ok (both_of f g)) and_then λ f. renaming s zs and_then λ g. Ok (both_of f g))
      by_first (Ok f) rest = ap (λ r. r and_then λ h. Ok (both_of f h)) rest ∙ by_rest f (renaming s xs)
      by_first (Err c) rest = refl

  -- one more
  renaming_more : (xs : List process.RenamingPair) (x : process.RenamingPair) (f g : Image) → renaming s xs ≡ Ok f → pair_images s x ≡ Ok g → renaming s (xs ++ x ∷ []) ≡ Ok (both_of f (both_of g no_image))
  renaming_more xs x f g so_far one =
      renaming_both xs (x ∷ []) ∙ ap (λ r. r and_then λ f. renaming s (x ∷ []) and_then λ h. Ok (both_of f h)) so_far
      ∙ ap (λ r. (r and_then λ g. Ok (both_of g no_image)) and_then λ h. Ok (both_of f h)) one

  -- or the first cause
  renaming_stops : (xs zs : List process.RenamingPair) (x : process.RenamingPair) (f : Image) (c : Cause) → renaming s xs ≡ Ok f → pair_images s x ≡ Err c → renaming s (xs ++ x ∷ zs) ≡ Err c
  renaming_stops xs zs x f c so_far none =
      renaming_both xs (x ∷ zs) ∙ ap (λ r. r and_then λ f. renaming s (x ∷ zs) and_then λ h. Ok (both_of f h)) so_far
      ∙ ap (λ r. (r and_then λ g. renaming s zs and_then λ k. Ok (both_of g k)) and_then λ h. Ok (both_of f h)) none

  pub none_named : (es : List Event) (ps : List Pair) → ps ≡ [] → Make es ps (renaming s [])
  none_named es ps none = record {
    placed = subst (AllByRecursion (IsPlaced es)) (sym none) tt;
    makes = no_image;
    is = refl;
    same = λ e. ap (λ qs. images_by es qs e) (sym none);
  }

  module _ {A : Type 0} (es : List Event) (items : List (RenamingPair A)) (i : ℕ) (item : RenamingPair A) (within : i < length items) (read : item ≡ get_or items i item) (ps : List Pair) (so_far : Make es ps (renaming s (renaming_pairs_of (take i items)))) where
    longer : renaming_pairs_of (take (i + 1) items) ≡ renaming_pairs_of (take i items) ++ renaming_pair_of item ∷ []
    longer = ap renaming_pairs_of (take_more items i item within ∙ ap (λ x. take i items ++ x ∷ []) (sym read)) ∙ map-append renaming_pair_of (take i items) (item ∷ [])

    whole : renaming_pairs_of items ≡ renaming_pairs_of (take i items) ++ renaming_pair_of item ∷ renaming_pairs_of (drop (i + 1) items)
    whole =
        let rest = drop_more items i item within ∙ ap (λ x. x ∷ drop (i + 1) items) (sym read) in
        ap renaming_pairs_of (sym (take-append-drop i items) ∙ ap (λ xs. take i items ++ xs) rest) ∙ map-append renaming_pair_of (take i items) (item ∷ drop (i + 1) items)

    pub one_pair_more : (p : Pair) (more : List Pair) → Make es (p ∷ []) (pair_images s (renaming_pair_of item)) → more ≡ ps ++ p ∷ [] → Make es more (renaming s (renaming_pairs_of (take (i + 1) items)))
    one_pair_more p more one pushed = record {
      placed = subst (AllByRecursion (IsPlaced es)) (sym pushed) (all_append (IsPlaced es) ps (p ∷ []) so_far.placed one.placed);
      makes = both_of so_far.makes (both_of one.makes no_image);
      is = ap (renaming s) longer ∙ renaming_more (renaming_pairs_of (take i items)) (renaming_pair_of item) so_far.makes one.makes so_far.is one.is;
      same = λ e.
          ap₂ ◌++◌ (so_far.same e) (append-nil (one.makes e) ∙ one.same e) ∙ sym (ap (flat_map (image_by es e)) pushed ∙ flat_map-append (image_by es e) ps (p ∷ []));
    }

    pub stops_at_pair : (why : NoValue) → IsPairOf es (Err why) (pair_images s (renaming_pair_of item)) → ArePairsOf {A = A} es (Err why) (renaming s (renaming_pairs_of items))
    stops_at_pair (eval.Cause c) is =
        ap (renaming s) whole ∙ renaming_stops (renaming_pairs_of (take i items)) (renaming_pairs_of (drop (i + 1) items)) (renaming_pair_of item) so_far.makes (cause_of c) so_far.is is
    stops_at_pair eval.Memory is = tt

-- ---- one pair

module _ (s : process.Script) where
  -- two channels with the same field sets
  pub channels_named : (from to : ChannelId) (sets others : List (List Value)) → field_sets s from.0 ≡ Ok sets → field_sets s to.0 ≡ Ok others → same_sets sets others ≡ true → Make (alphabet s) (pair.Channels from to ∷ []) (channel_images s from.0 to.0)
  channels_named from to sets others first second same =
      let f : Image = λ e. cond (nat_eq e.channel from.0) (record { channel = to.0; fields = e.fields } ∷ []) [] in
      let is : channel_images s from.0 to.0 ≡ Ok f =
      ap (λ r. r and_then λ s'. field_sets s to.0 and_then λ t. cond (same_sets s' t) (Ok f) (Err IllKinded)) first ∙ ap (λ r. r and_then λ t. cond (same_sets sets t) (Ok f) (Err IllKinded)) second
      ∙ ap (λ b. cond b (Ok f) (Err IllKinded)) same
      in
      record {
        placed = (
          λ e has named.
              let keeps : Keeps s f = subst (IfValue (Keeps s)) is (channel_keeps s from.0 to.0) in
              let moved = keeps e (alphabet_is s e has) in
              let one = subst (λ b. AllByRecursion (λ g. Contains (alphabet s) g) (cond b (record { channel = to.0; fields = e.fields } ∷ []) [])) named (in_alphabet (f e) moved) in
              one.0,
          tt,
        );
        makes = f;
        is = is;
        same = λ e. sym (append-nil (f e));
      }
    where
      in_alphabet : (fs : List Event) → AllByRecursion (IsEventOf s) fs → AllByRecursion (λ g. Contains (alphabet s) g) fs
      in_alphabet [] all = tt
      in_alphabet (g ∷ gs) all = (alphabet_has s g all.0, in_alphabet gs all.1)

  -- two events
  pub events_named : (es : List Event) (c d : process.EventExpression) (n m : EventId) (f g : Event) → event_of s c ≡ Ok f → event_of s d ≡ Ok g → slice_get es n.0 ≡ Some f → slice_get es m.0 ≡ Some g → Make es (pair.Events n m ∷ []) (event_images s c d)
  events_named es c d n m f g first second at_n at_m =
      let made : Event → Event → Image = λ x y e. cond (event_eq e x) (y ∷ []) [] in
      record {
        placed = ((slice_get_within es n.0 f at_n, slice_get_within es m.0 g at_m), tt);
        makes = made f g;
        is = ap (λ r. r and_then λ x. event_of s d and_then λ y. Ok (made x y)) first ∙ ap (λ r. r and_then λ y. Ok (made f y)) second;
        same = λ e.
            ap₂ (λ x y. made x y e) (sym (get_or_from_slice_get es n.0 f no_event at_n)) (sym (get_or_from_slice_get es m.0 g no_event at_m))
            ∙ sym (append-nil (image_by es e (pair.Events n m)));
      }

-- an event that is none is the cause
pub stopped_at_number : (es : List Event) (one : Result Event Cause) (all : Result Image Cause) (why : NoValue) → IsNumberIn es (Err why) one → ((c : Cause) → one ≡ Err c → all ≡ Err c) → IsPairOf es (Err why) all
stopped_at_number es one all (eval.Cause c) is goes = goes (cause_of c) is
stopped_at_number es one all eval.Memory is goes = tt
