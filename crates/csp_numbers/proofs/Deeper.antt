-- The levels of the parts under a head.
use Rattle.std.proofs.Common.{◌≡◌, ℕ, ◌+◌, suc, List, [], ◌∷◌, ◌++◌, map, refl, sym, ap, ap₂, ◌∙◌, append_assoc, arith}
use Rattle.std.proofs.lemmas.List.{map-append}
use Rattle.theory_syntax.specs.Process.{Process}
use Rattle.theory_shapes.specs.Shape.{Composition, Frame, compose, enframe}
use Rattle.theory_shapes.specs.Parts.{shape_of}
use Rattle.theory_shapes.specs.Measures.{levels}
use Rattle.csp_numbers.proofs.Heads.{composed_head, framed_head}

-- the levels, from this one on
abbrev pub levels_on : ℕ → Process → List ℕ
levels_on n p = map (λ k. n + k) (levels (shape_of p))

-- one operator more over each
one_deeper : (n : ℕ) (ks : List ℕ) → map (λ k. n + 1 + k) ks ≡ map (λ k. n + k) (map suc ks)
one_deeper n [] = refl
one_deeper n (k ∷ ks) = ap₂ ◌∷◌ (omega arith) (one_deeper n ks)

pub sides_levels : (p : Process) (c : Composition) (l r : Process) (n : ℕ) (old between new : List ℕ) → p ≡ compose c l r → between ≡ old ++ levels_on (n + 1) l → new ≡ between ++ levels_on (n + 1) r → new ≡ old ++ levels_on n p
sides_levels p c l r n old between new is first second =
    let ls = levels (shape_of l) in
    let rs = levels (shape_of r) in
    let whole : levels_on n p ≡ levels_on (n + 1) l ++ levels_on (n + 1) r =
    ap (λ s. map (λ k. n + k) (levels s)) (composed_head p c l r is) ∙ sym (one_deeper n (ls ++ rs)) ∙ map-append (λ k. n + 1 + k) ls rs
    in
    second ∙ ap (λ ks. ks ++ levels_on (n + 1) r) first ∙ append_assoc old (levels_on (n + 1) l) (levels_on (n + 1) r) ∙ ap (λ ks. old ++ ks) (sym whole)

pub body_levels : (p : Process) (f : Frame) (b : Process) (n : ℕ) (old new : List ℕ) → p ≡ enframe f b → new ≡ old ++ levels_on (n + 1) b → new ≡ old ++ levels_on n p
body_levels p f b n old new is only =
    let whole : levels_on n p ≡ levels_on (n + 1) b = ap (λ s. map (λ k. n + k) (levels s)) (framed_head p f b is) ∙ sym (one_deeper n (levels (shape_of b))) in
    only ∙ ap (λ ks. old ++ ks) (sym whole)
