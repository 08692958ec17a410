-- Channels made of names and field sets, pair by pair.
use Rattle.std.specs.Prelude.{IsSome}
use Rattle.std.specs.Borrow.{Bor}
use Rattle.std.specs.List.{All, zip}
use Rattle.std.specs.Str.{encode_utf8_all}
use Rattle.std.specs.String.{string_bytes}
use Rattle.std.specs.declared.vec.Vec.{Vec}
use Rattle.std.proofs.lemmas.List.{map-append}
use Rattle.std.proofs.lemmas.Simd.{map-map}
use Rattle.std.proofs.lemmas.Slice.Zip.{firsts-zip, get_or-zip, length-zip, seconds-zip}
use Rattle.std.proofs.Common.{◌≡◌, ◌<◌, ℕ, List, [], ◌∷◌, ◌++◌, length, get_or, map, Option, Some, sym, ap, ◌∙◌, subst, arith}
use Rattle.csp_value.specs.declared.field_set.FieldSet.{FieldSet}
use Rattle.csp_parse.specs.declared.names.Name.{Name}
use Rattle.csp_parse.specs.Names.{name_of}
use Rattle.csp_events.specs.declared.channel.Channel.{Channel}
use Rattle.csp_events.specs.Channels.{field_sets_of}
use Rattle.csp_names.specs.Scopes.{known_sets}
use Rattle.csp_kinds.specs.Spellings.{channel_spellings, encoded, sets_listed}

-- a name, and the field sets of its channel, if they are known
abbrev pub Pair : Type 0 → Type 0
Pair A = Bor Name × Option (Vec (FieldSet A) A)

-- The channels have the spellings and the sets of these pairs.
pub record ArePaired {A : Type 0} (pairs : List (Pair A)) (channels : List (Channel A)) : Type 0 where
  pub spellings : channel_spellings channels ≡ map (λ p. encode_utf8_all (name_of p.0.now).spelling) pairs
  pub sets : sets_listed channels ≡ map (λ p. known_sets p.1) pairs

pub none_paired : {A : Type 0} (channels : List (Channel A)) → channels ≡ [] → ArePaired [] channels
none_paired channels none = record { spellings = ap channel_spellings none; sets = ap sets_listed none }

-- one pair more
pub one_more_paired : {A : Type 0} (pairs : List (Pair A)) (name : Bor Name) (fields : Option (Vec (FieldSet A) A)) (old new : List (Channel A)) (c : Channel A) → ArePaired pairs old → string_bytes c.spelling ≡ encode_utf8_all (name_of name.now).spelling → fields ≡ Some c.fields → new ≡ old ++ c ∷ [] →
    ArePaired (pairs ++ (name, fields) ∷ []) new
one_more_paired pairs name fields old new c are spelled known pushed = record {
  spellings = ap channel_spellings pushed ∙ map-append (λ x. string_bytes x.spelling) old (c ∷ []) ∙ ap (λ xs. xs ++ string_bytes c.spelling ∷ []) are.spellings ∙ ap (λ x. map (λ p. encode_utf8_all (name_of p.0.now).spelling) pairs ++ x ∷ []) spelled
      ∙ sym (map-append (λ p. encode_utf8_all (name_of p.0.now).spelling) pairs ((name, fields) ∷ []));
  sets = ap sets_listed pushed ∙ ap (map Some) (map-append field_sets_of old (c ∷ [])) ∙ map-append Some (map field_sets_of old) (field_sets_of c ∷ []) ∙ ap (λ xs. xs ++ Some (field_sets_of c) ∷ []) are.sets
      ∙ ap (λ o. map (λ p. known_sets p.1) pairs ++ known_sets o ∷ []) (sym known) ∙ sym (map-append (λ p. known_sets p.1) pairs ((name, fields) ∷ []));
}

-- ---- all pairs

encoded_each : (names : List Name) → encoded names ≡ map (λ n. encode_utf8_all (name_of n).spelling) names
encoded_each names = ap (map encode_utf8_all) (map-map (λ n. n.spelling) name_of names) ∙ map-map encode_utf8_all (λ n. (name_of n).spelling) names

-- a pair as a name and field sets
abbrev pub read_pair : {A : Type 0} → Pair A → Name × Option (Vec (FieldSet A) A)
read_pair p = (p.0.now, p.1)

module _ {A : Type 0} (pairs : List (Pair A)) (names : List Name) (sets : List (Option (Vec (FieldSet A) A))) (channels : List (Channel A)) (are : ArePaired pairs channels) (all : map read_pair pairs ≡ zip names sets) (as_many : length sets ≡ length names) where
  pub all_spellings : channel_spellings channels ≡ encoded names
  all_spellings =
      are.spellings ∙ sym (map-map (λ (q : Name × Option (Vec (FieldSet A) A)). encode_utf8_all (name_of q.0).spelling) read_pair pairs) ∙ ap (map (λ q. encode_utf8_all (name_of q.0).spelling)) all
      ∙ sym (map-map (λ n. encode_utf8_all (name_of n).spelling) (λ (q : Name × Option (Vec (FieldSet A) A)). q.0) (zip names sets)) ∙ ap (map (λ n. encode_utf8_all (name_of n).spelling)) (firsts-zip names sets as_many)
      ∙ sym (encoded_each names)

  pub all_sets : sets_listed channels ≡ map known_sets sets
  all_sets =
      are.sets ∙ sym (map-map (λ (q : Name × Option (Vec (FieldSet A) A)). known_sets q.1) read_pair pairs) ∙ ap (map (λ q. known_sets q.1)) all
      ∙ sym (map-map known_sets (λ (q : Name × Option (Vec (FieldSet A) A)). q.1) (zip names sets)) ∙ ap (map known_sets) (seconds-zip names sets as_many)

-- each pair has its field sets
pub known_here : {A : Type 0} (names : List Name) (sets : List (Option (Vec (FieldSet A) A))) (i : ℕ) (p : Name × Option (Vec (FieldSet A) A)) → i < length (zip names sets) → p ≡ get_or (zip names sets) i p → length sets ≡ length names → All IsSome sets → IsSome p.1
known_here {A} names sets i p within read as_many known =
    let long = length-zip names sets in
    let in_names : i < length names = omega (arith, within, long, as_many) in
    let in_sets : i < length sets = omega (arith, within, long, as_many) in
    let P : Option (Vec (FieldSet A) A) → Type 0 = IsSome in
    subst P (sym (ap (λ q. q.1) (read ∙ get_or-zip names sets i p in_names in_sets))) (known i p.1 in_sets)
