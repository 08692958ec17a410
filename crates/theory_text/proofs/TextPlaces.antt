-- Places and bytes behind some characters and then others.
use Rattle.std.proofs.Common.{◌≡◌, ℕ, ◌+◌, List, [], ◌∷◌, ◌++◌, length, refl, ap, ◌∙◌, append-nil, length-append}
use Rattle.std.specs.Char.{encode_utf8}
use Rattle.std.specs.Str.{encode_utf8_all}
use Rattle.std.proofs.lemmas.Str.{encodes-append}
use Rattle.theory_text.specs.Place.{Place, place_after, next_place, bytes_of}

pub place_after-append : (p : Place) (xs ys : List ℕ) → place_after p (xs ++ ys) ≡ place_after (place_after p xs) ys
place_after-append p [] ys = refl
place_after-append p (x ∷ xs) ys = place_after-append (next_place p x) xs ys

pub bytes_of-append : (xs ys : List ℕ) → bytes_of (xs ++ ys) ≡ bytes_of xs + bytes_of ys
bytes_of-append xs ys = ap length (encodes-append xs ys) ∙ length-append (encode_utf8_all xs) (encode_utf8_all ys)

pub bytes_of_one : (c : ℕ) → bytes_of (c ∷ []) ≡ length (encode_utf8 c)
bytes_of_one c = ap length (append-nil (encode_utf8 c))
