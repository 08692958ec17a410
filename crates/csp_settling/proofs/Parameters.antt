-- The parameters with the values of the arguments.
use Rattle.std.proofs.Common.{◌≡◌, ℕ, suc, ◌+◌, ◌<◌, List, [], ◌∷◌, ◌++◌, length, map, take, get_or, Result, Ok, Err, refl, sym, ◌∙◌, ap, ap₂, arith}
use Rattle.std.proofs.lemmas.List.{length-map, length-take-le, map-append, take_more}
use Rattle.theory_syntax.specs.Value.{Value}
use Rattle.theory_semantics.specs.Meaning.Evaluation.{Cause, IllKinded, ◌and_then◌}
use Rattle.theory_semantics.specs.Meaning.Events.{parameter_bindings}
use Rattle.theory_semantics.specs.Meaning.Substitution.{Bindings}

-- not as many values as parameters
pub not_as_many : (ns : List ℕ) (vs : List Value) → (length ns ≡ length vs → ⊥) → parameter_bindings ns vs ≡ Err IllKinded
not_as_many [] [] differs = absurd (differs refl)
not_as_many [] (v ∷ vs) differs = refl
not_as_many (n ∷ ns) [] differs = refl
not_as_many (n ∷ ns) (v ∷ vs) differs = ap (λ r. r and_then λ bs. Ok ((n, v) ∷ bs)) (not_as_many ns vs (λ e. differs (ap suc e)))

pushed : (n : ℕ) (v : Value) (r s : Result Bindings Cause) (m : ℕ) (w : Value) → s ≡ (r and_then λ bs. Ok (bs ++ (m, w) ∷ [])) → (s and_then λ bs. Ok ((n, v) ∷ bs)) ≡ ((r and_then λ bs. Ok ((n, v) ∷ bs)) and_then λ bs. Ok (bs ++ (m, w) ∷ []))
pushed n v (Ok bs) s m w is = ap (λ q. q and_then λ cs. Ok ((n, v) ∷ cs)) is
pushed n v (Err c) s m w is = ap (λ q. q and_then λ cs. Ok ((n, v) ∷ cs)) is

-- one more parameter, with its value
pub one_more : (ns : List ℕ) (vs : List Value) (m : ℕ) (w : Value) → length ns ≡ length vs → parameter_bindings (ns ++ m ∷ []) (vs ++ w ∷ []) ≡ (parameter_bindings ns vs and_then λ bs. Ok (bs ++ (m, w) ∷ []))
one_more [] [] m w e = refl
one_more [] (v ∷ vs) m w e = absurd (cc e)
one_more (n ∷ ns) [] m w e = absurd (cc e)
one_more (n ∷ ns) (v ∷ vs) m w e = pushed n v (parameter_bindings ns vs) (parameter_bindings (ns ++ m ∷ []) (vs ++ w ∷ [])) m w (one_more ns vs m w (cc e))

module _ {N S B : Type 0} (name : N → ℕ) (value : S → Value) (binding : B → ℕ × Value) (ns : List N) (vs : List S) (k : ℕ) where
  taken : {X Y : Type 0} (f : X → Y) (xs : List X) → k < length xs → length (map f (take k xs)) ≡ k
  taken f xs within = length-map (take k xs) f ∙ length-take-le k xs (omega (arith, within))

  pub next_parameter : (bs more : List B) (d : N) (v : S) (b : B) → length ns ≡ length vs → k < length ns → parameter_bindings (map name (take k ns)) (map value (take k vs)) ≡ Ok (map binding bs) →
      v ≡ get_or vs k v → binding b ≡ (name (get_or ns k d), value v) → more ≡ bs ++ b ∷ [] → parameter_bindings (map name (take (k + 1) ns)) (map value (take (k + 1) vs)) ≡ Ok (map binding more)
  next_parameter bs more d v b as_many within so_far read is pushed_is =
      let n = get_or ns k d in
      let also : k < length vs = omega (arith, within, as_many) in
      let names = ap (map name) (take_more ns k d within) ∙ map-append name (take k ns) (n ∷ []) in
      let values = ap (map value) (take_more vs k v also) ∙ map-append value (take k vs) (get_or vs k v ∷ []) ∙ ap (λ w. map value (take k vs) ++ value w ∷ []) (sym read) in
      ap₂ parameter_bindings names values ∙ one_more (map name (take k ns)) (map value (take k vs)) (name n) (value v) (taken name ns within ∙ sym (taken value vs also))
      ∙ ap (λ r. r and_then λ cs. Ok (cs ++ (name n, value v) ∷ [])) so_far ∙ ap Ok (ap (λ z. map binding bs ++ z ∷ []) (sym is) ∙ sym (map-append binding bs (b ∷ [])) ∙ ap (map binding) (sym pushed_is))
