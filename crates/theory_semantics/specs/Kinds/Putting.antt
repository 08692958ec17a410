-- Values that are put in for names of their kinds.
use Rattle.std.specs.Prelude.{◌≡◌, ℕ, Some}
use Rattle.theory_syntax.specs.Types.{Types}
use Rattle.theory_semantics.specs.Meaning.Substitution.{Bindings, bound, name_or}
use Rattle.theory_semantics.specs.Kinds.Kind.{Kind, Kinds, Scope, kind_of_name}
use Rattle.theory_semantics.specs.Kinds.Expressions.{HasKind}

-- Each name of a scope, with its value put in, has its kind in the scope that is left: either the value has it, or there is none and the name is left.
abbrev pub BindingsFit : Types → Kinds → Bindings → Scope → Scope → Type 0
BindingsFit types kinds bs scope left = (n : ℕ) (k : Kind) → kind_of_name scope n ≡ Some k → HasKind types kinds left (name_or (bound bs n) n) k
