-- Processes that are made.
use Rattle.std.specs.Prelude.{◌≡◌, List, map, Result, IfOk}
use Rattle.std.specs.declared.vec.Vec.{Vec}
use Rattle.theory_syntax.specs.Process.{Process}
use Rattle.csp_value.specs.declared.memory.Memory.{Memory}
use Rattle.csp_term.specs.declared.term.Term.{Term}
use Rattle.csp_term.specs.Term.{process_of}

-- the terms stand for these. Refused memory says nothing.
abbrev pub AreParts : {A : Type 0} → Result (Vec (Term A) A) Memory → List Process → Type 0
AreParts result ps = IfOk result (λ parts. map process_of parts.items ≡ ps)
