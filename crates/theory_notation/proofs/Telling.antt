-- The values of what is told.
use Rattle.std.proofs.Common.{◌≡◌, Bool, true, false, cond, None, Result, Ok, Err, refl, ap}
use Rattle.theory_syntax.specs.Value.{Value, Values, Set}
use Rattle.theory_syntax.specs.Expression.{Expression, Literal}
use Rattle.theory_syntax.specs.Types.{Types}
use Rattle.theory_semantics.specs.Meaning.Evaluation.{Cause, value}
use Rattle.theory_notation.specs.Names.{Names}
use Rattle.theory_notation.specs.Told.{is_set, told, told_as, told_by}

pub has_its_value : (types : Types) (e : Expression) (r : Result Value Cause) → value types e ≡ r → value types (told_as e r) ≡ r
has_its_value types e (Err c) is = is
has_its_value types e (Ok v) is = go (is_set v)
  where
    go : (b : Bool) → value types (cond b e (Literal v)) ≡ Ok v
    go true = is
    go false = refl

pub stays_without_types : (names : Names) (e : Expression) → names.types ≡ None → told names e ≡ e
stays_without_types names e none = ap (λ t. told_by t e) none

pub set_stays : (types : Types) (e : Expression) (members : Values) → value types e ≡ Ok (Set members) → told_as e (value types e) ≡ e
set_stays types e members is = ap (told_as e) is
