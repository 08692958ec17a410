-- Copies are added one by one.
use Rattle.std.specs.Prelude.{replicate}
use Rattle.std.proofs.Common.{◌≡◌, ℕ, suc, ◌-◌, ◌+◌, ◌<◌, ◌≤◌, List, [], ◌∷◌, ◌++◌, append-nil, append_assoc, sym, ◌∙◌, ap, arith}

pub copies_more : {X : Type 0} (start now new : List X) (count counter : ℕ) (v : X) → counter < count → now ++ replicate (count - counter) v ≡ start ++ replicate count v → new ≡ now ++ v ∷ [] → new ++ replicate (count - (counter + 1)) v ≡ start ++ replicate count v
copies_more start now new count counter v within left pushed =
    let e : suc (count - (counter + 1)) ≡ count - counter = omega arith in
    ap (λ xs. xs ++ replicate (count - (counter + 1)) v) pushed ∙ append_assoc now (v ∷ []) (replicate (count - (counter + 1)) v) ∙ ap (λ k. now ++ replicate k v) e ∙ left

pub copies_all : {X : Type 0} (start now : List X) (count counter : ℕ) (v : X) → count ≤ counter → now ++ replicate (count - counter) v ≡ start ++ replicate count v → now ≡ start ++ replicate count v
copies_all start now count counter v over left =
    let e : count - counter ≡ 0 = omega arith in sym (ap (λ k. now ++ replicate k v) e ∙ append-nil now) ∙ left
