-- What lists stand for.
use Rattle.std.specs.Prelude.{ℕ, List, map}
use Rattle.std.specs.declared.vec.Vec.{Vec}
use Rattle.theory_syntax.specs.Process.{Process}
use Rattle.csp_term.specs.Term.{process_of}
use Rattle.csp_term.specs.declared.term.Term.{Term}
use denote.Ref.{Bor}

-- the processes of terms that are lent
abbrev pub processes_of : {A : Type 0} → List (Bor (Term A)) → List Process
processes_of ts = map (λ t. process_of t.now) ts

-- the lists that vectors hold
abbrev pub items_of : {A : Type 0} → List (Vec ℕ A) → List (List ℕ)
items_of vs = map (λ v. v.items) vs
