-- The name, and the taus in brackets.
use Rattle.std.proofs.Common.{List, Option, [], ◌∷◌, map, subst, inl, inr, lit<, lit≤}
use Rattle.std.specs.Prelude.{codes}
use Rattle.theory_objects.specs.Accounts.{step_fields, steps_fields, taus_of}
use Rattle.csp_term.specs.declared.term.Term.{Term}
use Rattle.csp_moves.specs.declared.origin.Origin.{Origin}
use Rattle.csp_print.specs.Names.{names_of}
use Rattle.explanation_objects.specs.Putting.{Puts}
use Rattle.explanation_objects.specs.Steps.{loop_through}
use Rattle.explanation_objects.proofs.Objects.{listed_objects}
use Rattle.explanation_objects.proofs.loops.put_taus.Goals as goal

pub returns : goal.returns
returns g c =
    let names = names_of c.args.names.now in
    let back = c.args.looping.now.back in
    let r = c.end_array.result in
    let old = c.args.writer.now in
    let new = c.end_array.new.self in
    let S : List (Term g.row.A.Denot) → Type 0 = λ ts. Puts r old new (steps_fields names (taus_of (loop_through ts back c.deref-2.result.now))) in
    let O : List (Option (Origin g.row.A.Denot)) → Type 0 = λ os. Puts r old new (steps_fields names (taus_of (loop_through c.args.looping.now.states.items back os))) in
    subst O c.deref-2.ensures.value
    (subst S c.deref.ensures.value
    (listed_objects r old c.key.new.self c.begin_array.new.self c.put_each_tau.new.writer new (codes "steps") (map (step_fields names) (taus_of (loop_through c.deref.result.now back c.deref-2.result.now)))
    (c.in_ok-key.ensures.room.0, c.in_ok-key.ensures.ok) (c.in_ok-begin_array.ensures.room.0, c.in_ok-begin_array.ensures.ok) c.in_ok-put_each_tau.ensures c.end_array.ensures))

pub put_each_tau-requires : goal.put_each_tau-requires
put_each_tau-requires g c = elim g.met.A.AllocHandle.small [ inl e ↦ rw (e.0, e.1) (search (lit≤, lit<)) | inr e ↦ rw (e.0, e.1) (search (lit≤, lit<)) ]
