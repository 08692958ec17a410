-- How large trees are, so that walks over them end.
use Rattle.std.proofs.Common.{◌≡◌, ℕ, zero, suc, ◌+◌, ◌<◌, List, [], ◌∷◌, length, get_or, ap, arith}
use Rattle.theory_text.specs.Raw.{RawExpression, RawNumber, RawTruth, RawBooleans, RawUse, RawApply, RawCombine, RawSequence, RawSet, RawRange, RawConstructor, RawExpressions, no_raw_expressions, raw_expression_and, RawEventSet, RawEnumeration, RawProductions, RawEventUnion, RawEventIntersection, RawEventDifference, RawProcess, RawStop, RawSkip, RawCall, RawPrefix, RawGuard, RawIf, RawInfix, RawGeneralisedParallel, RawAlphabetisedParallel, RawHiding, RawRenaming, RawReplicated}
use Rattle.csp_parse.specs.declared.expressions.Expression.{Expression}
use Rattle.csp_parse.specs.Expressions.{expression_of, expressions_of}

abbrev mutual
  pub raw_size : RawExpression → ℕ
  raw_size (RawNumber n) = 1
  raw_size (RawTruth b) = 1
  raw_size RawBooleans = 1
  raw_size (RawUse n) = 1
  raw_size (RawApply op e) = suc (raw_size e)
  raw_size (RawCombine op e f) = suc (raw_size e + raw_size f)
  raw_size (RawSequence es) = suc (raw_sizes es)
  raw_size (RawSet es) = suc (raw_sizes es)
  raw_size (RawRange e f) = suc (raw_size e + raw_size f)
  raw_size (RawConstructor n es) = suc (raw_sizes es)

  pub raw_sizes : RawExpressions → ℕ
  raw_sizes no_raw_expressions = 0
  raw_sizes (raw_expression_and e es) = suc (raw_size e + raw_sizes es)

-- one of several expressions is smaller than all
pub part_size : {A : Type 0} (es : List (Expression A)) (i : ℕ) (e : Expression A) → i < length es → e ≡ get_or es i e → raw_size (expression_of e) < suc (raw_sizes (expressions_of es))
part_size [] i e within read = absurd (omega arith)
part_size (x ∷ xs) zero e within read = let same = ap (λ y. raw_size (expression_of y)) read in omega arith
part_size (x ∷ xs) (suc i) e within read = let smaller = part_size xs i e (omega arith) read in omega arith

abbrev pub set_size : RawEventSet → ℕ
set_size (RawEnumeration es) = 1
set_size (RawProductions es) = 1
set_size (RawEventUnion a b) = suc (set_size a + set_size b)
set_size (RawEventIntersection a b) = suc (set_size a + set_size b)
set_size (RawEventDifference a b) = suc (set_size a + set_size b)

abbrev pub process_size : RawProcess → ℕ
process_size RawStop = 1
process_size RawSkip = 1
process_size (RawCall n es) = 1
process_size (RawPrefix c fs p) = suc (process_size p)
process_size (RawGuard e p) = suc (process_size p)
process_size (RawIf e p q) = suc (process_size p + process_size q)
process_size (RawInfix op p q) = suc (process_size p + process_size q)
process_size (RawGeneralisedParallel p a q) = suc (process_size p + process_size q)
process_size (RawAlphabetisedParallel p a b q) = suc (process_size p + process_size q)
process_size (RawHiding p a) = suc (process_size p)
process_size (RawRenaming p rs) = suc (process_size p)
process_size (RawReplicated op n e p) = suc (process_size p)
