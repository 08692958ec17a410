-- What pairs make an event of, and the events of which it is an image.
use Rattle.std.proofs.Common.{◌≡◌, ◌≢◌, ◌↔◌, ℕ, nat_eq, ◌+◌, ◌<◌, ◌≤◌, Bool, true, false, not, cond, IsTrue, List, [], ◌∷◌, ◌++◌, flat_map, map, length, take, get_or, Vec, vec_len, ◌==◌, refl, sym, ◌∙◌, ap, subst, inl, inr, ◌⊎◌, ⊎_elim, Contains}
use Rattle.std.proofs.lemmas.Bool.{eq-eqb, eqb-true}
use Rattle.std.proofs.lemmas.Grind.{flat_map-append}
use Rattle.std.proofs.lemmas.List.{append-nil, append_assoc, get_or_default, take_all, take_more}
use Rattle.std.proofs.lemmas.List.Elements.{Contains-append_cases, Contains-append_left, Contains-append_right}
use Rattle.theory_syntax.specs.Value as pure
use Rattle.theory_syntax.proofs.Equalities.{event_refl, event_same}
use Rattle.theory_syntax.proofs.Members.{contains_here, contains_none, contains_one}
use Rattle.theory_semantics.specs.Meaning.Events.{or_itself}
use Rattle.csp_value.specs.declared.action.Event.{Event}
use Rattle.csp_value.specs.declared.name.ChannelId.{ChannelId}
use Rattle.csp_value.specs.Action.{event_of}
use Rattle.csp_events.specs.Imaging.{channel_image, event_image, found_images}
use Rattle.csp_events.specs.Sources.{AreSources, channel_source, event_source, sources, unless_named}
use Rattle.csp_events.specs.declared.images.Images.{Images}
use Rattle.csp_events.proofs.Naming.{no_items, some_items}

-- where each item turns the one into the other, so do all
turned_by_all : {X : Type 0} (image source : X → List pure.Event) (e f : pure.Event) → ((x : X) → Contains (image x) f → Contains (source x) e) → (xs : List X) → Contains (flat_map image xs) f → Contains (flat_map source xs) e
turned_by_all image source e f turned [] has = absurd (contains_none f has)
turned_by_all image source e f turned (x ∷ xs) has =
    ⊎_elim (λ h. Contains-append_left (source x) (flat_map source xs) e (turned x h)) (λ h. Contains-append_right (source x) (flat_map source xs) e (turned_by_all image source e f turned xs h))
    (Contains-append_cases (image x) (flat_map image xs) f has)

-- the event on another channel
abbrev on_channel : ℕ → pure.Event → pure.Event
on_channel c e = record { channel = c; fields = e.fields }

on_own : (c : ℕ) (e : pure.Event) → e.channel ≡ c → on_channel c e ≡ e
on_own c e is = ap (λ n. on_channel n e) (sym is)

-- what is listed under a true test, and under a false one
under_true : {X : Type 0} (b : Bool) (x : X) → b ≡ true → Contains (cond b (x ∷ []) []) x
under_true true x is = contains_here x []
under_true false x is = absurd (cc is)

module _ (e f : pure.Event) where
  channel_turned : (p : ChannelId × ChannelId) → Contains (channel_image e p) f → Contains (channel_source f p) e
  channel_turned p = by (nat_eq e.channel p.0.0) refl
    where
      by : (b : Bool) → nat_eq e.channel p.0.0 ≡ b → Contains (cond b (on_channel p.1.0 e ∷ []) []) f → Contains (channel_source f p) e
      by true same has =
          let is : on_channel p.1.0 e ≡ f = contains_one _ f has in
          let own : on_channel p.0.0 e ≡ e = on_own p.0.0 e (eqb-true e.channel p.0.0 same) in
          subst (λ g. Contains (channel_source g p) e) is (subst (λ g. Contains (channel_source (on_channel p.1.0 e) p) g) own (under_true (nat_eq p.1.0 p.1.0) (on_channel p.0.0 e) (eq-eqb p.1.0 p.1.0 refl)))
      by false other has = absurd (contains_none f has)

  channel_turned_back : (p : ChannelId × ChannelId) → Contains (channel_source f p) e → Contains (channel_image e p) f
  channel_turned_back p = by (nat_eq f.channel p.1.0) refl
    where
      by : (b : Bool) → nat_eq f.channel p.1.0 ≡ b → Contains (cond b (on_channel p.0.0 f ∷ []) []) e → Contains (channel_image e p) f
      by true same has =
          let is : on_channel p.0.0 f ≡ e = contains_one _ e has in
          let own : on_channel p.1.0 f ≡ f = on_own p.1.0 f (eqb-true f.channel p.1.0 same) in
          subst (λ g. Contains (channel_image g p) f) is (subst (λ g. Contains (channel_image (on_channel p.0.0 f) p) g) own (under_true (nat_eq p.0.0 p.0.0) (on_channel p.1.0 f) (eq-eqb p.0.0 p.0.0 refl)))
      by false other has = absurd (contains_none e has)

  module _ {A : Type 0} where
    event_turned : (p : Event A × Event A) → Contains (event_image e p) f → Contains (event_source f p) e
    event_turned p = by (pure.event_eq e (event_of p.0)) refl
      where
        by : (b : Bool) → pure.event_eq e (event_of p.0) ≡ b → Contains (cond b (event_of p.1 ∷ []) []) f → Contains (event_source f p) e
        by true same has =
            let is : event_of p.1 ≡ f = contains_one _ f has in
            let own : event_of p.0 ≡ e = sym (event_same e (event_of p.0) same) in
            subst (λ g. Contains (event_source g p) e) is (subst (λ g. Contains (event_source (event_of p.1) p) g) own (under_true (pure.event_eq (event_of p.1) (event_of p.1)) (event_of p.0) (event_refl (event_of p.1))))
        by false other has = absurd (contains_none f has)

    event_turned_back : (p : Event A × Event A) → Contains (event_source f p) e → Contains (event_image e p) f
    event_turned_back p = by (pure.event_eq f (event_of p.1)) refl
      where
        by : (b : Bool) → pure.event_eq f (event_of p.1) ≡ b → Contains (cond b (event_of p.0 ∷ []) []) e → Contains (event_image e p) f
        by true same has =
            let is : event_of p.0 ≡ e = contains_one _ e has in
            let own : event_of p.1 ≡ f = sym (event_same f (event_of p.1) same) in
            subst (λ g. Contains (event_image g p) f) is (subst (λ g. Contains (event_image (event_of p.0) p) g) own (under_true (pure.event_eq (event_of p.0) (event_of p.0)) (event_of p.1) (event_refl (event_of p.0))))
        by false other has = absurd (contains_none e has)

-- an event that no pair names
own_source : (e f : pure.Event) (images_of_f : List pure.Event) → Contains (unless_named f images_of_f) e → (images_of_f ≡ []) × (f ≡ e)
own_source e f [] has = (refl, contains_one f e has)
own_source e f (g ∷ gs) has = absurd (contains_none e has)

own_image : (e f : pure.Event) (xs : List pure.Event) → Contains (or_itself e xs) f → Contains xs f ⊎ ((xs ≡ []) × (e ≡ f))
own_image e f [] has = inr (refl, contains_one e f has)
own_image e f (x ∷ xs) has = inl has

some_image : (e f : pure.Event) (xs : List pure.Event) → Contains xs f → Contains (or_itself e xs) f
some_image e f [] has = absurd (contains_none f has)
some_image e f (x ∷ xs) has = has

none_named : (f : pure.Event) (xs : List pure.Event) → xs ≡ [] → Contains (unless_named f xs) f
none_named f [] none = contains_here f []
none_named f (x ∷ xs) none = absurd (cc none)

none_itself : (f : pure.Event) (xs : List pure.Event) → xs ≡ [] → Contains (or_itself f xs) f
none_itself f [] none = contains_here f []
none_itself f (x ∷ xs) none = absurd (cc none)

module _ {A : Type 0} (images : Images A) (f e : pure.Event) where
  abbrev channels : List (ChannelId × ChannelId)
  channels = images.channels.items

  abbrev events : List (Event A × Event A)
  events = images.events.items

  abbrev own : List pure.Event
  own = unless_named f (found_images images f)

  source_is : Contains (sources images f) e → Contains (or_itself e (found_images images e)) f
  source_is has = by (Contains-append_cases (flat_map (channel_source f) channels) (flat_map (event_source f) events ++ own) e has)
    where
      by_pairs : Contains (found_images images e) f → Contains (or_itself e (found_images images e)) f
      by_pairs h = some_image e f (found_images images e) h

      by_rest : Contains (flat_map (event_source f) events) e ⊎ Contains own e → Contains (or_itself e (found_images images e)) f
      by_rest (inl h) = by_pairs (Contains-append_right (flat_map (channel_image e) channels) (flat_map (event_image e) events) f (turned_by_all (event_source f) (event_image e) f e (event_turned_back e f) events h))
      by_rest (inr h) =
          let is = own_source e f (found_images images f) h in
          subst (λ g. Contains (or_itself g (found_images images g)) f) is.1 (none_itself f (found_images images f) is.0)

      by : Contains (flat_map (channel_source f) channels) e ⊎ Contains (flat_map (event_source f) events ++ own) e → Contains (or_itself e (found_images images e)) f
      by (inl h) = by_pairs (Contains-append_left (flat_map (channel_image e) channels) (flat_map (event_image e) events) f (turned_by_all (channel_source f) (channel_image e) f e (channel_turned_back e f) channels h))
      by (inr h) = by_rest (Contains-append_cases (flat_map (event_source f) events) own e h)

  is_source : Contains (or_itself e (found_images images e)) f → Contains (sources images f) e
  is_source has = by (own_image e f (found_images images e) has)
    where
      by_pairs : Contains (flat_map (channel_image e) channels) f ⊎ Contains (flat_map (event_image e) events) f → Contains (sources images f) e
      by_pairs (inl h) = Contains-append_left (flat_map (channel_source f) channels) (flat_map (event_source f) events ++ own) e (turned_by_all (channel_image e) (channel_source f) e f (channel_turned e f) channels h)
      by_pairs (inr h) =
          Contains-append_right (flat_map (channel_source f) channels) (flat_map (event_source f) events ++ own) e
          (Contains-append_left (flat_map (event_source f) events) own e (turned_by_all (event_image e) (event_source f) e f (event_turned e f) events h))

      by : Contains (found_images images e) f ⊎ ((found_images images e ≡ []) × (e ≡ f)) → Contains (sources images f) e
      by (inl h) = by_pairs (Contains-append_cases (flat_map (channel_image e) channels) (flat_map (event_image e) events) f h)
      by (inr (none, same)) =
          let named : found_images images f ≡ [] = sym (ap (found_images images) same) ∙ none in
          Contains-append_right (flat_map (channel_source f) channels) (flat_map (event_source f) events ++ own) e
          (Contains-append_right (flat_map (event_source f) events) own e (subst (Contains own) (sym same) (none_named f (found_images images f) named)))

-- the events of which it is an image are these
pub sources_are : {A : Type 0} (images : Images A) (f : pure.Event) → AreSources images f (sources images f)
sources_are images f e = (source_is images f e, is_source images f e)

-- ---- lists that are made item by item

-- one more item, of which nothing is made
pub none_made : {X Y Z : Type 0} (meaning : Z → Y) (make : X → List Y) (items : List X) (i : ℕ) (item : X) (before : List Y) (found : List Z) →
    map meaning found ≡ before ++ flat_map make (take i items) → i < length items → item ≡ get_or items i item → make item ≡ [] → map meaning found ≡ before ++ flat_map make (take (i + 1) items)
none_made meaning make items i item before found so_far within read none =
    let longer = take_more items i item within ∙ ap (λ x. take i items ++ x ∷ []) (sym read) in
    let last = sym (append-nil (make item) ∙ none) in
    so_far
    ∙ ap (λ ys. before ++ ys) (sym (append-nil (flat_map make (take i items))) ∙ ap (λ ys. flat_map make (take i items) ++ ys) last ∙ sym (flat_map-append make (take i items) (item ∷ [])) ∙ ap (flat_map make) (sym longer))

-- so for an item that is read with a default
pub none_made_at : {X Y Z : Type 0} (meaning : Z → Y) (make : X → List Y) (items : List X) (i : ℕ) (d : X) (before : List Y) (found : List Z) →
    map meaning found ≡ before ++ flat_map make (take i items) → i < length items → make (get_or items i d) ≡ [] → map meaning found ≡ before ++ flat_map make (take (i + 1) items)
none_made_at meaning make items i d before found so_far within none =
    let item = get_or items i d in none_made meaning make items i item before found so_far within (get_or_default items i d item within) none

-- nothing is listed under a false test
pub none_of : (b : Bool) (f : pure.Event) → b ≡ false → cond b (f ∷ []) [] ≡ []
none_of b f is = ap (λ c. cond c (f ∷ []) []) is

-- where all items are taken
pub all_taken : {X Y : Type 0} (make : X → List Y) (items : List X) (i : ℕ) → length items ≤ i → flat_map make (take i items) ≡ flat_map make items
all_taken make items i long = ap (flat_map make) (take_all i items long)

-- two events are told to be the same where the test says so
pub told_same : (b : Bool) (f e : pure.Event) → (IsTrue b ↔ (f ≡ e)) → b ≡ true → pure.event_eq f e ≡ true
told_same b f e tells is = subst (λ g. pure.event_eq f g ≡ true) (tells.0 is) (event_refl f)

pub told_other : (b : Bool) (f e : pure.Event) → (IsTrue b ↔ (f ≡ e)) → b ≡ false → pure.event_eq f e ≡ false
told_other b f e tells is = by (pure.event_eq f e) refl
  where
    by : (c : Bool) → pure.event_eq f e ≡ c → pure.event_eq f e ≡ false
    by true same = let told = tells.1 (event_same f e same) in absurd (cc (told, is))
    by false other = other

-- the events that were found, and the event itself where none names it
pub with_own : {A : Type 0} (images : Images A) (f : pure.Event) (names : Bool) (first second : List pure.Event) → (IsTrue names ↔ (found_images images f ≢ [])) → first ≡ flat_map (channel_source f) images.channels.items →
    second ≡ first ++ flat_map (event_source f) images.events.items → (names ≡ true → AreSources images f second) × (names ≡ false → AreSources images f (second ++ f ∷ []))
with_own images f names first second tells one two = (named, alone)
  where
    by_channels : List pure.Event
    by_channels = flat_map (channel_source f) images.channels.items

    by_events : List pure.Event
    by_events = flat_map (event_source f) images.events.items

    whole : second ≡ by_channels ++ by_events
    whole = two ∙ ap (λ es. es ++ by_events) one

    none : (xs : List pure.Event) → xs ≢ [] → unless_named f xs ≡ []
    none [] some = absurd (some refl)
    none (x ∷ xs) some = refl

    own : (xs : List pure.Event) → xs ≡ [] → unless_named f xs ≡ f ∷ []
    own [] is = refl
    own (x ∷ xs) is = absurd (cc is)

    named : names ≡ true → AreSources images f second
    named is =
        let nothing = none (found_images images f) (tells.0 is) in
        let same : sources images f ≡ second = ap (λ es. by_channels ++ (by_events ++ es)) nothing ∙ ap (λ es. by_channels ++ es) (append-nil by_events) ∙ sym whole in
        subst (AreSources images f) same (sources_are images f)

    empty : names ≡ false → (xs : List pure.Event) → found_images images f ≡ xs → found_images images f ≡ []
    empty is [] e = e
    empty is (x ∷ xs) e = let told = tells.1 (λ none. let g : x ∷ xs ≡ [] = sym e ∙ none in cc g) in absurd (cc (told, is))

    alone : names ≡ false → AreSources images f (second ++ f ∷ [])
    alone is =
        let only = own (found_images images f) (empty is (found_images images f) refl) in
        let same : sources images f ≡ second ++ f ∷ [] = ap (λ es. by_channels ++ (by_events ++ es)) only ∙ sym (append_assoc by_channels by_events (f ∷ [])) ∙ ap (λ es. es ++ f ∷ []) (sym whole) in
        subst (AreSources images f) same (sources_are images f)

-- a list of events is not empty where it is not told to be
pub some_told : {A : Type 0} (all : Vec (Event A) A) (made : List pure.Event) (empty : Bool) → empty ≡ (vec_len all == 0) → map event_of all.items ≡ made → (IsTrue (not empty) ↔ (made ≢ []))
some_told {A} all made empty told is = by empty told
  where
    none : (xs : List (Event A)) → map event_of xs ≡ [] → xs ≡ []
    none [] e = refl
    none (x ∷ xs) e = absurd (cc e)

    by : (b : Bool) → b ≡ (vec_len all == 0) → (IsTrue (not b) ↔ (made ≢ []))
    by true told = (λ no. absurd (cc no), λ some. absurd (some (sym is ∙ ap (map event_of) (no_items all (sym told)))))
    by false told = (λ yes. λ e. some_items all (sym told) (none all.items (is ∙ e)), λ some. refl)
