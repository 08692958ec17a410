-- What is known of the kinds, and what one equation more makes of it.
use Rattle.std.specs.Prelude.{◌≡◌, ⊤, ℕ, Bool, cond, true, false, List, [], ◌∷◌, map, Option, Some, None, option_map, Result, Ok, Err}
use denote.Ref.{Bor}
use Rattle.theory_checking.specs.Inference.Chain as pure
use Rattle.theory_checking.specs.Inference.State as pure_state
use Rattle.csp_inference.specs.declared.chain.KindNumber.{KindNumber}
use Rattle.csp_inference.specs.declared.chain.End.{End}
use Rattle.csp_inference.specs.declared.chain.End.TheVariants as ending
use Rattle.csp_inference.specs.declared.chain.Layer.{Layer}
use Rattle.csp_inference.specs.declared.chain.Layer.TheVariants as layer
use Rattle.csp_inference.specs.declared.chain.Chain.{Chain}
use Rattle.csp_inference.specs.declared.misfit.Misfit.{Misfit}
use Rattle.csp_inference.specs.declared.misfit.Misfit.TheVariants as misfit
use Rattle.csp_inference.specs.declared.state.State.{State}
use Rattle.csp_inference.specs.Chain.{chain_of}

abbrev pub chains_in : {A : Type 0} → List (Option (Chain A)) → List (Option pure.Chain)
chains_in slots = map (option_map chain_of) slots

-- for each number nothing, or the chain that it is bound to
abbrev pub chains_of : {A : Type 0} → State A → List (Option pure.Chain)
chains_of s = chains_in s.chains.items

-- the chain that is lent, if any
abbrev pub lent_chain : {A : Type 0} → Option (Bor (Chain A)) → Option pure.Chain
lent_chain (Some c) = Some (chain_of c.now)
lent_chain None = None

-- the state that they are; numbers behind the list's end are not bound
abbrev pub state_in : {A : Type 0} → State A → pure_state.State
state_in s = pure_state.state_of (chains_of s)

-- what is found of a chain's end, as far as it is bound
abbrev pub found_at : List (Option pure.Chain) → pure.Chain → pure.Chain
found_at cs c = pure_state.resolve (pure_state.state_of cs) c

abbrev pub are_like : Layer → Layer → Bool
are_like layer.Sequence layer.Sequence = true
are_like layer.Set layer.Set = true
are_like layer.Sequence layer.Set = false
are_like layer.Set layer.Sequence = false

-- what is left of two rows of layers without the beginning that they share
abbrev pub taken_off : List Layer → List Layer → List Layer × List Layer
taken_off (l ∷ ls) (m ∷ ms) = cond (are_like l m) (taken_off ls ms) (l ∷ ls, m ∷ ms)
taken_off [] ms = ([], ms)
taken_off (l ∷ ls) [] = (l ∷ ls, [])

-- the number of a chain that is an open end alone
abbrev pub open_alone : List Layer → End → Option KindNumber
open_alone [] (ending.Open n) = Some n
open_alone [] _ = None
open_alone (l ∷ ls) e = None

-- The rows of layers do not begin alike.
abbrev pub AreUnlike : List Layer → List Layer → Type 0
AreUnlike (l ∷ ls) (m ∷ ms) = are_like l m ≡ false
AreUnlike _ _ = ⊤

-- The state says of each number what the other one says.
abbrev pub SaysTheSame : pure_state.State → pure_state.State → Type 0
SaysTheSame s t = (n : ℕ) → s n ≡ t n

-- The answer is that of a search for kinds; refused memory says nothing.
abbrev pub Tells : Option pure_state.State → pure_state.State → Result (Unit {0}) Misfit → Type 0
Tells o t (Ok _) = (u : pure_state.State) × (o ≡ Some u) × SaysTheSame u t
Tells o t (Err misfit.NoKinds) = o ≡ None
Tells o t (Err misfit.Memory) = ⊤

-- The equations are solved, or have no solution; refused memory says nothing.
abbrev pub Solved : pure_state.State → List pure_state.KindEquation → pure_state.State → Result (Unit {0}) Misfit → Type 0
Solved s es t (Ok _) = pure_state.IsSolved s es t
Solved s es t (Err misfit.NoKinds) = pure_state.HasNoSolution s es
Solved s es t (Err misfit.Memory) = ⊤
