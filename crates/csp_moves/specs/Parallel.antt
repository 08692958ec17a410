-- The ways of two processes side by side, by what each may do alone and what both do together.
use Rattle.std.specs.Prelude.{◌≡◌, ◌⊎◌, ⊤, Bool, List, [], ◌∷◌, Option}
use Rattle.theory_syntax.specs.Value.{Event, Action, Tau, Tick, Ev}
use Rattle.theory_syntax.specs.Process.{Process, Omega}
use Rattle.theory_origins.specs.Origin.{Left, Right, OnSide, SideEnds, Ends}
use Rattle.theory_origins.specs.Telling.{IsBody}
use Rattle.theory_origins.specs.Ways.{Way, Both, Here, IsBodyWhere, IsSplitWhere, Through, first_of, part, second_of}
use Rattle.csp_moves.specs.declared.together.Freedom.{Freedom}

-- what the freedom says of the event
abbrev pub IsFreedom : (Event → Bool) → (Event → Bool) → (Event → Bool) → Action → Freedom → Type 0
IsFreedom left right shared Tau free = ⊤
IsFreedom left right shared Tick free = ⊤
IsFreedom left right shared (Ev e) free = (free.left ≡ left e) × (free.right ≡ right e) × (free.shared ≡ shared e)

abbrev pub AreTauWays : (Process → Process → Process) → Process → Process → Process → List Way → Type 0
AreTauWays under p q t ways = (u v : Option Process) × IsBody (λ w. under w q) t u × IsBody (λ w. under p w) t v ×
    (ways ≡ Through (OnSide Left) (part p Tau u) ∷ Through (OnSide Right) (part q Tau v) ∷ Through (SideEnds Left) (part p Tick u) ∷ Through (SideEnds Right) (part q Tick v) ∷ [])

abbrev pub AreEventWays : (Process → Process → Process) → Freedom → Process → Process → Event → Process → List Way → Type 0
AreEventWays under free p q e t ways = (u v : Option Process) × (parts : Option (Process × Process)) ×
    IsBodyWhere free.left (λ w. under w q) t u × IsBodyWhere free.right (λ w. under p w) t v × IsSplitWhere free.shared under t parts ×
    (ways ≡ Through (OnSide Left) (part p (Ev e) u) ∷ Through (OnSide Right) (part q (Ev e) v) ∷ Both (part p (Ev e) (first_of parts)) (part q (Ev e) (second_of parts)) ∷ [])

abbrev pub HaveEnded : Process → Process → Process → Type 0
HaveEnded p q t = (p ≡ Omega) × (q ≡ Omega) × (t ≡ Omega)

abbrev pub AreTickWays : Process → Process → Process → List Way → Type 0
AreTickWays p q t ways = (HaveEnded p q t × (ways ≡ Here Ends ∷ [])) ⊎ (¬ HaveEnded p q t × (ways ≡ []))

abbrev pub AreParallelWays : (Process → Process → Process) → Freedom → Process → Process → Action → Process → List Way → Type 0
AreParallelWays under free p q Tau t ways = AreTauWays under p q t ways
AreParallelWays under free p q Tick t ways = AreTickWays p q t ways
AreParallelWays under free p q (Ev e) t ways = AreEventWays under free p q e t ways
