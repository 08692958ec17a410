-- What is known of the kinds of numbers, and how two kinds are made one.
use Rattle.std.specs.Prelude.{◌≡◌, ◌↔◌, ℕ, nat_eq, Bool, false, cond, List, [], ◌∷◌, Option, Some, None, option_map, unwrap_or, slice_get, IfSome}
use Rattle.theory_semantics.specs.Kinds.Kind.{Each}
use Rattle.theory_checking.specs.Inference.Chain.{Chain, IntEnd, BoolEnd, DatatypeEnd, OpenEnd, SequenceOver, SetOver, Assignment, kind_of, open_end, with_ends, in_place_of}

-- for each number nothing, or the chain that it is bound to
abbrev pub State : Type 0
State = ℕ → Option Chain

abbrev pub nothing_known : State
nothing_known n = None

-- the state that a list of chains stands for; numbers behind its end are not bound
abbrev pub state_of : List (Option Chain) → State
state_of cs n = unwrap_or (slice_get cs n) None

-- The assignment gives each bound number the kind of its chain.
abbrev pub Satisfies : Assignment → State → Type 0
Satisfies a s = (n : ℕ) (c : Chain) → s n ≡ Some c → a n ≡ kind_of a c

-- the chain does not end in a bound number
abbrev pub IsOpenIn : State → Chain → Type 0
IsOpenIn s c = IfSome (open_end c) (λ n. s n ≡ None)

-- no bound chain ends in a bound number
abbrev pub IsResolved : State → Type 0
IsResolved s = (n : ℕ) (c : Chain) → s n ≡ Some c → IsOpenIn s c

-- a chain by one look-up: a bound number at its end gives way to the chain that it is bound to
abbrev pub looked_up : State → ℕ → Chain
looked_up s n = unwrap_or (s n) (OpenEnd n)

abbrev pub resolve : State → Chain → Chain
resolve s c = with_ends (looked_up s) c

-- the state in which a number is bound to a chain, which takes its place at the end of all bound chains
abbrev pub bound_to : State → ℕ → Chain → State
bound_to s n c m = cond (nat_eq n m) (Some c) (option_map (with_ends (in_place_of n c)) (s m))

-- ---- equations between kinds

-- two kinds that are to be one
abbrev pub KindEquation : Type 0
KindEquation = Chain × Chain

-- the assignment gives both sides of each equation one kind
abbrev pub Solves : Assignment → List KindEquation → Type 0
Solves a es = Each (λ e. kind_of a e.0 ≡ kind_of a e.1) es

-- The new state says just what the old one and the equations say.
pub record IsSolved (s : State) (es : List KindEquation) (t : State) : Type 0 where
  pub resolved : IsResolved t
  pub just : (a : Assignment) → Satisfies a t ↔ (Satisfies a s × Solves a es)

-- No assignment that satisfies the state solves the equations.
abbrev pub HasNoSolution : State → List KindEquation → Type 0
HasNoSolution s es = (a : Assignment) → Satisfies a s → ¬ Solves a es

-- ---- two kinds are made one

abbrev pub IsUnified : State → Chain → Chain → State → Type 0
IsUnified s c d t = IsSolved s ((c, d) ∷ []) t

abbrev pub CannotBeOne : State → Chain → Chain → Type 0
CannotBeOne s c d = HasNoSolution s ((c, d) ∷ [])

abbrev pub ends_in : ℕ → Chain → Bool
ends_in n c = elim (open_end c) [ Some m ↦ nat_eq n m | None ↦ false ]

-- An open end and a resolved chain: the same open end has nothing to do, and a longer chain that ends in it is of no one kind with it. Else the end is bound.
abbrev pub bind_open : State → ℕ → Chain → Option State
bind_open s n (OpenEnd m) = cond (nat_eq n m) (Some s) (Some (bound_to s n (OpenEnd m)))
bind_open s n c = cond (ends_in n c) None (Some (bound_to s n c))

-- Resolved chains: what they begin with alike is taken off.
abbrev pub unify_resolved : State → Chain → Chain → Option State
unify_resolved s (SequenceOver c) (SequenceOver d) = unify_resolved s c d
unify_resolved s (SetOver c) (SetOver d) = unify_resolved s c d
unify_resolved s (OpenEnd n) d = bind_open s n d
unify_resolved s c (OpenEnd m) = bind_open s m c
unify_resolved s IntEnd IntEnd = Some s
unify_resolved s BoolEnd BoolEnd = Some s
unify_resolved s (DatatypeEnd c) (DatatypeEnd d) = cond (nat_eq c d) (Some s) None
unify_resolved s c d = None

abbrev pub unify : State → Chain → Chain → Option State
unify s c d = unify_resolved s (resolve s c) (resolve s d)

-- one equation after the other
abbrev pub solve : State → List KindEquation → Option State
solve s [] = Some s
solve s (e ∷ es) = elim (unify s e.0 e.1) [ Some t ↦ solve t es | None ↦ None ]
