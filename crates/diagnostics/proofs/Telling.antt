-- What is told, from what each call told.
use Rattle.std.proofs.Common.{◌≡◌, ℕ, ◌+◌, ◌<◌, List, ◌++◌, length, get_or, take, ap, ◌∙◌, sym}
use Rattle.std.specs.Prelude.{flat_map, IfOk, Result, Ok, Err}
use Rattle.std.specs.Str.Lossy.{utf8_valid_len}
use Rattle.std.specs.String.{string_bytes}
use Rattle.std.specs.declared.string.String.{String}
use Rattle.std.proofs.lemmas.List.{take_more}
use Rattle.theory_checking.proofs.OneMore.{flat_map_one_more}
use Rattle.diagnostics.specs.Excerpts.{excerpt_of}
use Rattle.diagnostics.specs.declared.faults.Refusal.{Refusal}
use Rattle.diagnostics.specs.Messages.{heading, IsMessage}

-- the whole message
pub message_told : {A E : Type 0} (file bytes : List ℕ) (r : Refusal) (made : Result (String A) E) (head shown help : List ℕ) →
    head ≡ heading file r → shown ≡ excerpt_of (take (utf8_valid_len bytes) bytes) r.place → IfOk made (λ m. string_bytes m ≡ head ++ (shown ++ help)) →
    IfOk made (λ m. IsMessage file bytes r (string_bytes m))
message_told file bytes r (Ok m) head shown help head_is shown_is lines = record {
  help = help;
  lines = lines ∙ ap (λ x. x ++ (shown ++ help)) head_is ∙ ap (λ x. heading file r ++ (x ++ help)) shown_is;
}
message_told file bytes r (Err e) head shown help head_is shown_is lines = tt

-- one line more
pub one_more_line : {X : Type 0} (f : X → List ℕ) (xs : List X) (i : ℕ) (d : X) (now new line : List ℕ) → i < length xs → now ≡ flat_map f (take i xs) → line ≡ f (get_or xs i d) →
    new ≡ now ++ line → new ≡ flat_map f (take (i + 1) xs)
one_more_line f xs i d now new line within kept is put =
    put ∙ ap (λ t. t ++ line) kept ∙ ap (λ t. flat_map f (take i xs) ++ t) is ∙ sym (flat_map_one_more f (take i xs) (get_or xs i d)) ∙ ap (flat_map f) (sym (take_more xs i d within))
