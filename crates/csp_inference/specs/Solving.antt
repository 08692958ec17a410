-- Equations of one thing more are solved.
use Rattle.std.specs.Prelude.{◌≡◌, ℕ, ⊤, List, Option, Some, None, Result, Ok, Err}
use denote.Ref.{Bor}
use Rattle.theory_syntax.specs.Expression.{Expression}
use Rattle.theory_syntax.specs.Types.{Types}
use Rattle.theory_checking.specs.Inference.Items.{behind_copies, behind_set, of_copies, of_set}
use Rattle.theory_checking.specs.Inference.State.{KindEquation, IsSolved, HasNoSolution}
use Rattle.csp_expression.specs.declared.expr.Expr.{Expr}
use Rattle.csp_expression.specs.Expression.{expression_of}
use Rattle.csp_inference.specs.declared.misfit.Misfit.{Misfit}
use Rattle.csp_inference.specs.declared.misfit.Misfit.TheVariants as misfit
use Rattle.csp_inference.specs.declared.equations.Equations.{Equations}
use Rattle.csp_inference.specs.Equations.{AreHopeless, Asks}
use Rattle.csp_inference.specs.Numbering.{numbering_of}
use Rattle.csp_inference.specs.State.{state_in}
use Rattle.csp_inference.specs.declared.known_kinds.KnownKinds.{KnownKinds}

-- the expression that is lent, if any
abbrev pub lent_expression : {A : Type 0} → Option (Bor (Expr A)) → Option Expression
lent_expression (Some e) = Some (expression_of e.now)
lent_expression None = None

-- The equations, with numbers of their own up to m, are solved.
pub record SolvesMore {A : Type 0} (old : KnownKinds A) (es : List KindEquation) (m : ℕ) (new : KnownKinds A) : Type 0 where
  pub numbering : new.numbering ≡ old.numbering
  pub next : new.equations.next ≡ m
  pub solved : IsSolved (state_in old.equations.state) es (state_in new.equations.state)

-- They are solved, or have no solution. Refused memory says nothing.
abbrev pub SolvedFor : {A : Type 0} → KnownKinds A → List KindEquation → ℕ → KnownKinds A → Result (Unit {0}) Misfit → Type 0
SolvedFor old es m new (Ok _) = SolvesMore old es m new
SolvedFor old es m new (Err misfit.NoKinds) = HasNoSolution (state_in old.equations.state) es
SolvedFor old es m new (Err misfit.Memory) = ⊤

-- Those for the set, whose members have the kind of the number, are solved, or have no solution.
abbrev pub SolvedForSet : {A : Type 0} → Types → Expression → ℕ → KnownKinds A → KnownKinds A → Result (Unit {0}) Misfit → Type 0
SolvedForSet types set m old new result = SolvedFor old (of_set types (numbering_of old.numbering) old.equations.next (Some set) m) (behind_set old.equations.next (Some set)) new result

-- So are those for a set of the same field of several channels, each with a number of its own.
abbrev pub SolvedForCopies : {A : Type 0} → Types → Expression → List ℕ → KnownKinds A → KnownKinds A → Result (Unit {0}) Misfit → Type 0
SolvedForCopies types set ms old new result = SolvedFor old (of_copies types (numbering_of old.numbering) old.equations.next (Some set) ms) (behind_copies old.equations.next (Some set) ms) new result

-- These equations are asked for, or they have no solution. Refused memory says nothing.
abbrev pub AsksFor : {A : Type 0} → Equations A → List KindEquation → ℕ → Equations A → Result (Unit {0}) Misfit → Type 0
AsksFor old es m new (Ok _) = Asks old new es m
AsksFor old es m new (Err misfit.NoKinds) = AreHopeless es
AsksFor old es m new (Err misfit.Memory) = ⊤
