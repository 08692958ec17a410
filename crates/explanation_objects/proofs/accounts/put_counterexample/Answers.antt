-- The run, and behind it the loop, or the parts that wait.
use Rattle.std.proofs.Common.{List, Option, ◌++◌, map, ap, subst, inl, inr, lit<, lit≤}
use Rattle.std.specs.Prelude.{option_map}
use Rattle.theory_objects.specs.Accounts.{loop_fields, run_fields, waiting_fields}
use Rattle.theory_objects.specs.Fields.{field_tokens}
use Rattle.csp_value.specs.Action.{action_of}
use Rattle.csp_value.specs.declared.action.Action.{Action}
use Rattle.csp_term.specs.Term.{process_of}
use Rattle.csp_term.specs.declared.term.Term.{Term}
use Rattle.csp_moves.specs.declared.origin.Origin.{Origin}
use Rattle.csp_print.specs.Names.{names_of}
use Rattle.counterexample.specs.Counterexample.{loop_of, origins_listed, waiting_of}
use Rattle.counterexample.specs.declared.waiting.Waiting.{Waiting}
use Rattle.explanation_objects.specs.Putting.{Puts}
use Rattle.explanation_objects.proofs.Putting.{HasPut, both}
use Rattle.explanation_objects.proofs.accounts.put_counterexample.Goals as goal

pub returns : goal.returns
returns g c =
    let names = names_of c.args.names.now in
    let told = c.args.told.now in
    let r = c.put_waiting.result in
    let old = c.args.writer.now in
    let one = c.put_run.new.writer in
    let two = c.put_looping.new.writer in
    let new = c.put_waiting.new.writer in
    let fields = λ (path : List (Action g.row.A.Denot)) (states : List (Term g.row.A.Denot)) (origins : List (Option (Origin g.row.A.Denot))). run_fields names (map action_of path) (map process_of states) (origins_listed origins) in
    let path = c.args.shown.now.path.items in
    let states = told.states.items in
    let origins = told.origins.items in
    let loop = loop_fields names (option_map loop_of told.looping) in
    let parts = λ (ws : List (Waiting g.row.A.Denot)). waiting_fields names (map waiting_of ws) in
    let first = subst (λ (os : List (Option (Origin g.row.A.Denot))). HasPut old one (field_tokens (fields path states os))) c.deref-3.ensures.value
    (subst (λ (ts : List (Term g.row.A.Denot)). HasPut old one (field_tokens (fields path ts c.deref-3.result.now))) c.deref-2.ensures.value
    (subst (λ (xs : List (Action g.row.A.Denot)). HasPut old one (field_tokens (fields xs c.deref-2.result.now c.deref-3.result.now))) c.deref.ensures.value c.in_ok-put_run.ensures)) in
    let last = subst (λ (ws : List (Waiting g.row.A.Denot)). Puts r two new (parts ws)) c.deref-4.ensures.value c.put_waiting.ensures in
    both r old one new (fields path states origins) (loop ++ parts told.waiting.items) first (both r one two new loop (parts told.waiting.items) c.in_ok-put_looping.ensures last)

pub put_run-requires : goal.put_run-requires
put_run-requires g c = elim g.met.A.AllocHandle.small [ inl e ↦ rw (e.0, e.1) (search (lit≤, lit<)) | inr e ↦ rw (e.0, e.1) (search (lit≤, lit<)) ]
