-- What the outcomes say of the assertions.
use Rattle.std.specs.Prelude.{List}
use Rattle.std.specs.List.{AllZip}
use Rattle.theory_syntax.specs.Process.{Script, Assertion, Unfolding, ByTau, AtOnce}
use Rattle.theory_syntax.specs.Readings.{at_once}
use Rattle.theory_search.specs.Outcome.{Bounds, Outcome}
use Rattle.theory_search.specs.Truth.{IsRightAsWritten}
use Rattle.theory_unfolding.specs.Assertions.{settled_assertion}
use Rattle.theory_unfolding.specs.Told.{IsTrueByTau}

-- With names at once the outcome is right for the assertion with its sides settled. What it says is so by tau, of the
-- assertion as it is written.
pub record IsRightAtOnce (script : Script) (a : Assertion) (bounds : Bounds) (o : Outcome) : Type 0 where
  pub right : IsRightAsWritten (at_once script) (settled_assertion (at_once script) a) bounds o
  pub true_by_tau : IsTrueByTau script a o

-- the outcome is right for the assertion of the script, where names are read so
abbrev pub IsRightRead : Unfolding → Script → Bounds → Assertion → Outcome → Type 0
IsRightRead ByTau script bounds a o = IsRightAsWritten script a bounds o
IsRightRead AtOnce script bounds a o = IsRightAtOnce script a bounds o

-- The outcomes are right for the assertions with their sides settled, one for each in order. Where names do a tau these
-- are the assertions themselves.
abbrev pub AreRightSettled : Script → Bounds → List Assertion → List Outcome → Type 0
AreRightSettled script bounds = AllZip (λ a o. IsRightAsWritten script (settled_assertion script a) bounds o)

-- the outcomes are right for the assertions, one for each in order
abbrev pub AreRight : Unfolding → Script → Bounds → List Assertion → List Outcome → Type 0
AreRight names script bounds = AllZip (IsRightRead names script bounds)
