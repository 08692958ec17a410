-- A spelling that is inserted among others.
use Rattle.std.specs.Prelude.{◌||◌, cond, is_some, option_map}
use Rattle.std.specs.Borrow.{Bor}
use Rattle.std.specs.List.{list_any}
use Rattle.std.specs.Str.{bytes_eq, chars, IsUtf8}
use Rattle.std.proofs.lemmas.Str.{encodes-chars}
use Rattle.std.proofs.Common.{◌≡◌, ℕ, suc, Bool, true, false, List, [], ◌∷◌, ◌++◌, Option, Some, None, refl, sym, ap, ap₂}
use Rattle.indexmap.specs.IndexSet.{insert_key}
use Rattle.theory_checking.specs.Names.{has_spelling, number_in, with_spellings}
use Rattle.theory_notation.specs.Names.{in_bytes}
use Rattle.csp_print.specs.Names.{spellings_of}
use Rattle.csp_names.proofs.Rows.{same_spelling}
use Rattle.printed_names.specs.Texts.{AreTexts, spelled}

module _ (q : Bor (List ℕ)) (u : IsUtf8 q.now) where
  abbrev same_key : Bor (List ℕ) → Bor (List ℕ) → Bool
  same_key j k = bytes_eq j.now k.now

  found : (ks : List (Bor (List ℕ))) → AreTexts ks → list_any (same_key q) ks ≡ has_spelling (spelled ks) (chars q.now)
  found [] texts = refl
  found (k ∷ ks) texts = go (bytes_eq q.now k.now) (bytes_eq (chars k.now) (chars q.now)) (number_in (spelled ks) (chars q.now)) (same_spelling q.now k.now u texts.0) (found ks texts.1)
    where
      go : (b c : Bool) (o : Option ℕ) → b ≡ c → list_any (same_key q) ks ≡ is_some o → (b || list_any (same_key q) ks) ≡ is_some (cond c (Some 0) (option_map suc o))
      go true true o is rest = refl
      go false false None is rest = rest
      go false false (Some k) is rest = rest
      go true false o is rest = absurd (cc is)
      go false true o is rest = absurd (cc is)

  pub inserted : (ks : List (Bor (List ℕ))) → AreTexts ks → spelled (insert_key same_key ks q) ≡ with_spellings (spelled ks) (chars q.now ∷ [])
  inserted ks texts = go (list_any (same_key q) ks) (has_spelling (spelled ks) (chars q.now)) (found ks texts)
    where
      behind : (ks : List (Bor (List ℕ))) → spelled (ks ++ q ∷ []) ≡ spelled ks ++ chars q.now ∷ []
      behind [] = refl
      behind (k ∷ ks) = ap (λ ss. chars k.now ∷ ss) (behind ks)

      go : (b c : Bool) → b ≡ c → spelled (cond b ks (ks ++ q ∷ [])) ≡ cond c (spelled ks) (spelled ks ++ chars q.now ∷ [])
      go true true is = refl
      go false false is = behind ks
      go true false is = absurd (cc is)
      go false true is = absurd (cc is)

-- the bytes of texts are those of their characters
pub bytes_of_texts : (ks : List (Bor (List ℕ))) → AreTexts ks → spellings_of ks ≡ in_bytes (spelled ks)
bytes_of_texts [] texts = refl
bytes_of_texts (k ∷ ks) texts = ap₂ (λ s ss. s ∷ ss) (sym (encodes-chars k.now texts.0)) (bytes_of_texts ks texts.1)
