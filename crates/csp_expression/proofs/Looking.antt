-- Looking a name up in a list of bindings.
use Rattle.std.proofs.Common.{◌≡◌, ℕ, ◌+◌, ◌<◌, nat_eq, cond, true, false, List, length, map, drop, get_or, Some, sym, ◌∙◌, ap}
use Rattle.theory_syntax.specs.Value.{Value}
use Rattle.theory_syntax.proofs.Places.{cut}
use Rattle.theory_semantics.specs.Meaning.Substitution.{bound}

module _ {X : Type 0} (name : X → ℕ) (value : X → Value) (n : ℕ) (xs : List X) (i : ℕ) (x : X) where
  abbrev binding : X → ℕ × Value
  binding y = (name y, value y)

  -- what is left decides
  abbrev pub Rests : Type 0
  Rests = bound (map binding (drop i xs)) n ≡ bound (map binding xs) n

  looked : i < length xs → x ≡ get_or xs i x → Rests → cond (nat_eq (name x) n) (Some (value x)) (bound (map binding (drop (i + 1) xs)) n) ≡ bound (map binding xs) n
  looked within read rests = ap (λ ys. bound (map binding ys) n) (cut xs i x within read) ∙ rests

  -- the name is there
  pub bound_here : i < length xs → x ≡ get_or xs i x → Rests → nat_eq (name x) n ≡ true → Some (value x) ≡ bound (map binding xs) n
  bound_here within read rests is = sym (ap (λ b. cond b (Some (value x)) (bound (map binding (drop (i + 1) xs)) n)) is) ∙ looked within read rests

  -- another name is there
  pub bound_later : i < length xs → x ≡ get_or xs i x → Rests → nat_eq (name x) n ≡ false → bound (map binding (drop (i + 1) xs)) n ≡ bound (map binding xs) n
  bound_later within read rests is = sym (ap (λ b. cond b (Some (value x)) (bound (map binding (drop (i + 1) xs)) n)) is) ∙ looked within read rests
