-- One more edit of the bytes that are copied, and none.
use Rattle.std.proofs.Common.{◌≡◌, ◌++◌, ◌<◌, ◌≤◌, ℕ, ◌+◌, ◌-◌, List, [], ◌∷◌, length, get_or, map, take, drop, sym, ap, subst, ◌∙◌, append_assoc, arith}
use Rattle.std.proofs.lemmas.List.{drop_more}
use Rattle.theory_shapes.specs.Edits.{Edit, edited}
use Rattle.csp_rows.specs.Places.{RiseUpTo}

pub rise_within : (place n : ℕ) (es : List Edit) → RiseUpTo place n es → place ≤ n
rise_within place n [] rise = rise
rise_within place n (e ∷ es) rise = let h = rise_within e.end n es rise.2 in omega (arith, rise.0, rise.1, h)

module _ {C : Type 0} (v : C → Edit) (bytes : List ℕ) (changes : List C) (place i : ℕ) (c : C) (within : i < length changes) (rise : RiseUpTo place (length bytes) (map v (drop i changes))) where
  abbrev next : Edit
  next = v (get_or changes i c)

  rest : map v (drop i changes) ≡ next ∷ map v (drop (i + 1) changes)
  rest = ap (map v) (drop_more changes i c within)

  pub next_rises : (place ≤ next.start) × (next.start ≤ next.end) × RiseUpTo next.end (length bytes) (map v (drop (i + 1) changes))
  next_rises = subst (RiseUpTo place (length bytes)) rest rise

  pub start_within : next.start ≤ length bytes
  start_within = let h = next_rises in let k = rise_within next.end (length bytes) (map v (drop (i + 1) changes)) h.2 in omega (arith, h.1, k)

  pub next_made : (done one two whole : List ℕ) → done ++ edited bytes place (map v (drop i changes)) ≡ whole → one ≡ done ++ take (next.start - place) (drop place bytes) → two ≡ one ++ next.bytes →
      two ++ edited bytes next.end (map v (drop (i + 1) changes)) ≡ whole
  next_made done one two whole so_far kept put =
      let front = take (next.start - place) (drop place bytes) in
      let new = next.bytes in
      let back = edited bytes next.end (map v (drop (i + 1) changes)) in
      ap (λ (xs : List ℕ). xs ++ back) (put ∙ ap (λ (xs : List ℕ). xs ++ new) kept) ∙ append_assoc (done ++ front) new back ∙ append_assoc done front (new ++ back)
      ∙ ap (λ (es : List Edit). done ++ edited bytes place es) (sym rest) ∙ so_far
