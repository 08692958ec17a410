-- Where the assertion of a number stands.
use Rattle.std.proofs.Common.{◌≡◌, ℕ, zero, suc, ◌-◌, List, Option, map, refl, sym, ap, ◌∙◌, arith}
use Rattle.std.specs.Prelude.{option_map, slice_get}
use Rattle.std.proofs.lemmas.Option.{slice_get-map}
use Rattle.csp_lex.specs.Places.{place_of}
use Rattle.csp_lex.specs.declared.places.Place.{Place}
use Rattle.explain_program.specs.Telling.{place_at}

-- the place of the number that is one more than the index
pub placed : (places : List Place) (n : ℕ) (found : Option Place) → (n ≡ 0 → ⊥) → found ≡ slice_get places (n - 1) → option_map place_of found ≡ place_at (map place_of places) n
placed places zero found some is = absurd (some refl)
placed places (suc before) found some is =
    let same : suc before - 1 ≡ before = omega arith in
    ap (option_map place_of) (is ∙ ap (λ (i : ℕ). slice_get places i) same) ∙ sym (slice_get-map place_of places before)
