-- Terms with a list, behind their tags.
use Rattle.std.proofs.Common.{◌≡◌, ℕ, List, Some, refl}
use Rattle.theory_syntax.specs.Expression.{Expression, to_expressions}
use Rattle.theory_syntax.specs.Process.{Field, Process, Call, Prefix}
use Rattle.theory_spelling.specs.Reading.{Found, number_at, list_at, expressions_at, expression_at, field_at, call_at, prefix_at}

pub call_found : (depth : ℕ) (bytes : List ℕ) (n : ℕ) (after : List ℕ) (es : List Expression) (rest : List ℕ) (p : Process)
    → number_at bytes ≡ Some (n, after) → list_at (expression_at depth) after ≡ Some (es, rest) → p ≡ Call n (to_expressions es) → call_at depth bytes ≡ Some (p, rest)
unfolding call_at expressions_at
call_found depth bytes n after es rest p number list made = rw (number, list, made) refl

pub prefix_found : (depth : ℕ) (read : List ℕ → Found Process) (bytes : List ℕ) (c : ℕ) (after : List ℕ) (fs : List Field) (later : List ℕ) (body : Process) (rest : List ℕ) (p : Process)
    → number_at bytes ≡ Some (c, after) → list_at (field_at depth) after ≡ Some (fs, later) → read later ≡ Some (body, rest) → p ≡ Prefix c fs body → prefix_at depth read bytes ≡ Some (p, rest)
unfolding prefix_at
prefix_found depth read bytes c after fs later body rest p number list last made = rw (number, list, last, made) refl
