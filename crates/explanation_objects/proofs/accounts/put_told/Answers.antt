-- The side, and behind it the run.
use Rattle.std.proofs.Common.{List, Option, [], ◌∷◌, map, ap, subst, inl, inr, lit<, lit≤}
use Rattle.std.specs.Prelude.{codes}
use Rattle.theory_objects.specs.Accounts.{run_fields}
use Rattle.theory_objects.specs.Fields.{text_field}
use Rattle.csp_value.specs.Action.{action_of}
use Rattle.csp_value.specs.declared.action.Action.{Action}
use Rattle.csp_term.specs.Term.{process_of}
use Rattle.csp_term.specs.declared.term.Term.{Term}
use Rattle.csp_moves.specs.declared.origin.Origin.{Origin}
use Rattle.csp_print.specs.Names.{names_of}
use Rattle.counterexample.specs.Counterexample.{origins_listed}
use Rattle.explanation_objects.specs.Putting.{Puts}
use Rattle.explanation_objects.proofs.Putting.{both}
use Rattle.explanation_objects.proofs.accounts.put_told.Goals as goal

pub returns : goal.returns
returns g c =
    let names = names_of c.args.names.now in
    let told = c.args.told.now in
    let r = c.put_run.result in
    let one = c.put_text.new.writer in
    let new = c.put_run.new.writer in
    let fields = λ (path : List (Action g.row.A.Denot)) (states : List (Term g.row.A.Denot)) (origins : List (Option (Origin g.row.A.Denot))). run_fields names (map action_of path) (map process_of states) (origins_listed origins) in
    let path = told.run.path.items in
    let states = told.run.states.items in
    let side = text_field (codes "side") c.args.side.now ∷ [] in
    let run = subst (λ (os : List (Option (Origin g.row.A.Denot))). Puts r one new (fields path states os)) c.deref-3.ensures.value
    (subst (λ (ts : List (Term g.row.A.Denot)). Puts r one new (fields path ts c.deref-3.result.now)) c.deref-2.ensures.value
    (subst (λ (xs : List (Action g.row.A.Denot)). Puts r one new (fields xs c.deref-2.result.now c.deref-3.result.now)) c.deref.ensures.value c.put_run.ensures)) in
    both r c.args.writer.now one new side (fields path states told.origins.items) c.in_ok-put_text.ensures run

pub put_run-requires : goal.put_run-requires
put_run-requires g c = elim g.met.A.AllocHandle.small [ inl e ↦ rw (e.0, e.1) (search (lit≤, lit<)) | inr e ↦ rw (e.0, e.1) (search (lit≤, lit<)) ]
