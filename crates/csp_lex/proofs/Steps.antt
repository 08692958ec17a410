-- Steps through a text, one after the other.
use Rattle.std.proofs.Common.{◌≡◌, ℕ, Bool, true, List, [], ◌∷◌, ◌++◌, refl, sym, ap, ◌∙◌, append_assoc, arith}
use Rattle.std.specs.List.{list_all}
use Rattle.std.specs.Str.{encode_utf8_all, all_scalars}
use Rattle.std.proofs.lemmas.Str.{encodes-append, encodes-chars, scalars-chars, IsUtf8-had}
use Rattle.std.proofs.lemmas.Bool.{and_parts}
use lib.Utf8.{scalar}
use Rattle.theory_text.proofs.TextPlaces.{place_after-append, bytes_of-append}
use Rattle.theory_text.specs.Place.{place_after}
use Rattle.csp_lex.specs.declared.cursors.Cursor.{Cursor}
use Rattle.csp_lex.specs.Places.{place_of}
use Rattle.csp_lex.specs.Cursors.{left_of, Passes}

pub passes_then : {from by to : Cursor} {xs ys : List ℕ} → Passes from xs by → Passes by ys to → Passes from (xs ++ ys) to
passes_then {from} {by} {to} {xs} {ys} a b = record {
  characters = a.characters ∙ ap (λ zs. xs ++ zs) b.characters ∙ sym (append_assoc xs ys (left_of to));
  place = b.place ∙ ap (λ p. place_after p ys) a.place ∙ sym (place_after-append (place_of from.place) xs ys);
  offset = omega (arith, a.offset, b.offset, bytes_of-append xs ys);
}

-- one more character that passes the test
pub list_all-push : (p : ℕ → Bool) (xs : List ℕ) (x : ℕ) → list_all p xs ≡ true → p x ≡ true → list_all p (xs ++ x ∷ []) ≡ true
list_all-push p [] x all one = rw one refl
list_all-push p (y ∷ ys) x all one =
    let b = and_parts (p y) (list_all p ys) all in rw (b.0) (list_all-push p ys x b.1 one)

-- what is left, in bytes
pub rest_bytes : {old new : Cursor} {front : List ℕ} → Passes old front new → old.rest.now ≡ encode_utf8_all front ++ new.rest.now
rest_bytes {old} {new} {front} passes =
    sym (encodes-chars old.rest.now (IsUtf8-had old.rest.now old.utf8)) ∙ ap encode_utf8_all passes.characters ∙ encodes-append front (left_of new)
    ∙ ap (λ bs. encode_utf8_all front ++ bs) (encodes-chars new.rest.now (IsUtf8-had new.rest.now new.utf8))

scalars_front : (xs ys : List ℕ) → all_scalars (xs ++ ys) ≡ true → all_scalars xs ≡ true
scalars_front [] ys h = refl
scalars_front (x ∷ xs) ys h = let b = and_parts (scalar x) (all_scalars (xs ++ ys)) h in rw (b.0) (scalars_front xs ys b.1)

-- the characters that a step passes over are characters
pub passed_scalars : {old new : Cursor} {front : List ℕ} → Passes old front new → all_scalars front ≡ true
passed_scalars {old} {new} {front} passes = scalars_front front (left_of new) (ap all_scalars (sym passes.characters) ∙ scalars-chars old.rest.now (IsUtf8-had old.rest.now old.utf8))
