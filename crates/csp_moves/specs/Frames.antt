-- Operators of one process, and processes taken apart by them.
use Rattle.std.specs.Prelude.{List, Option, Some, None}
use Rattle.std.specs.Option.{option_map}
use Rattle.theory_syntax.specs.Process.{EventSet, Hiding, Process, Renaming, RenamingPair}
use Rattle.csp_events.specs.Events.{event_set_of, renaming_pairs_of}
use Rattle.csp_term.specs.Term.{process_of}
use Rattle.csp_moves.specs.declared.frame.Frame.{Frame}
use Rattle.csp_moves.specs.declared.frame.Frame.TheVariants as variant
use Rattle.csp_moves.specs.declared.frame.Framed.{Framed}

-- an operator of one process, without it
pub data OneSided : Type 0 where
  OfHiding : (hidden : EventSet) → OneSided
  OfRenaming : (pairs : List RenamingPair) → OneSided

abbrev pub framed : OneSided → Process → Process
framed (OfHiding a) p = Hiding p a
framed (OfRenaming rs) p = Renaming p rs

-- the operator and the body of a process that has one
abbrev pub unframed : Process → Option (OneSided × Process)
unframed (Hiding p a) = Some (OfHiding a, p)
unframed (Renaming p rs) = Some (OfRenaming rs, p)
unframed _ = None

-- what the code has of them
abbrev pub frame_of : {A : Type 0} → Frame A → OneSided
frame_of (variant.Hiding a) = OfHiding (event_set_of a.now)
frame_of (variant.Renaming rs) = OfRenaming (renaming_pairs_of rs.now.items)

abbrev pub framed_found : {A : Type 0} → Option (Framed A) → Option (OneSided × Process)
framed_found found = option_map (λ f. (frame_of f.frame, process_of f.body.now)) found
