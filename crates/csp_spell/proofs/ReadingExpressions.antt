-- Expressions with a list, behind their tags.
use Rattle.std.proofs.Common.{◌≡◌, ℕ, List, Some, refl}
use Rattle.theory_syntax.specs.Value.{Value}
use Rattle.theory_syntax.specs.Expression.{Expression, ConstructorOf, SequenceOf, SetOf, to_expressions}
use Rattle.theory_spelling.specs.Reading.{Found, number_at, list_at, expressions_at, expression_behind}

module _ (read_value : List ℕ → Found Value) (read : List ℕ → Found Expression) where
  pub sequence_behind : (tag : ℕ) (bytes : List ℕ) (es : List Expression) (rest : List ℕ) (e : Expression) → tag ≡ 0x4b → list_at read bytes ≡ Some (es, rest) → e ≡ SequenceOf (to_expressions es) → expression_behind read_value read tag bytes ≡ Some (e, rest)
  unfolding expression_behind expressions_at
  sequence_behind tag bytes es rest e is found made = rw (is, found, made) refl

  pub set_behind : (tag : ℕ) (bytes : List ℕ) (es : List Expression) (rest : List ℕ) (e : Expression) → tag ≡ 0x4c → list_at read bytes ≡ Some (es, rest) → e ≡ SetOf (to_expressions es) → expression_behind read_value read tag bytes ≡ Some (e, rest)
  unfolding expression_behind expressions_at
  set_behind tag bytes es rest e is found made = rw (is, found, made) refl

  pub constructor_behind : (tag : ℕ) (bytes : List ℕ) (k : ℕ) (after : List ℕ) (es : List Expression) (rest : List ℕ) (e : Expression)
      → tag ≡ 0x51 → number_at bytes ≡ Some (k, after) → list_at read after ≡ Some (es, rest) → e ≡ ConstructorOf k (to_expressions es) → expression_behind read_value read tag bytes ≡ Some (e, rest)
  unfolding expression_behind expressions_at
  constructor_behind tag bytes k after es rest e is number found made = rw (is, number, found, made) refl
