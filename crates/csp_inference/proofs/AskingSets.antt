-- Sets ask once for each number.
use Rattle.std.proofs.Common.{ℕ, ◌+◌, ◌<◌, List, length, map, get_or, refl}
use Rattle.std.specs.Prelude.{Some}
use Rattle.std.proofs.lemmas.List.{get_or_default}
use Rattle.theory_syntax.specs.Expression.{Expression}
use Rattle.theory_syntax.specs.Types.{Types}
use Rattle.theory_checking.specs.Inference.State.{KindEquation}
use Rattle.theory_checking.specs.Inference.Equations as numbers
use Rattle.theory_checking.specs.Inference.Items.{behind_copies, behind_set, of_copies, of_set}
use Rattle.csp_inference.specs.declared.chain.KindNumber.{KindNumber}
use Rattle.csp_inference.specs.declared.equations.Equations.{Equations}
use Rattle.csp_inference.specs.Equations.{Asks}
use Rattle.csp_inference.proofs.Asking.{Left, left_more}

abbrev pub asked_copies : Types → numbers.Numbering → Expression → ℕ → List KindNumber → List KindEquation
asked_copies types o e n ms = of_copies types o n (Some e) (map (λ m. m.0) ms)

abbrev pub behind_asked_copies : Expression → ℕ → List KindNumber → ℕ
behind_asked_copies e n ms = behind_copies n (Some e) (map (λ m. m.0) ms)

-- one copy more
pub copy_more : {A : Type 0} (types : Types) (o : numbers.Numbering) (e : Expression) (start now new : Equations A) (ms : List KindNumber) (i : ℕ) (d : KindNumber) →
    i < length ms → Left (asked_copies types o e) (behind_asked_copies e) start now ms i →
    Asks now new (of_set types o now.next (Some e) (get_or ms i d).0) (behind_set now.next (Some e)) → Left (asked_copies types o e) (behind_asked_copies e) start new ms (i + 1)
copy_more types o e start now new ms i d within left asks =
    left_more (asked_copies types o e) (behind_asked_copies e) start now ms i (λ n m. of_set types o n (Some e) m.0) (λ n m. behind_set n (Some e)) new
    (get_or ms i d) (λ n us. refl) (λ n us. refl) within (get_or_default ms i d (get_or ms i d) within) left asks
