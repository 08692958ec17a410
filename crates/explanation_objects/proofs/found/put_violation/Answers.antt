-- The trace, the path, and what is wrong at its end.
use Rattle.std.proofs.Common.{List, [], ◌∷◌, ◌++◌, map, subst, inl, inr, lit<}
use Rattle.std.specs.Prelude.{codes}
use Rattle.theory_semantics.specs.Meaning.Runs.{trace}
use Rattle.theory_objects.specs.Answers.{action_texts, evidence_fields}
use Rattle.theory_objects.specs.Fields.{field_tokens, texts_field}
use Rattle.csp_value.specs.Action.{action_of}
use Rattle.csp_value.specs.declared.action.Action.{Action}
use Rattle.csp_print.specs.Names.{names_of}
use Rattle.verdict.specs.Outcome.{evidence_of}
use Rattle.explanation_objects.proofs.Putting.{HasPut, both}
use Rattle.explanation_objects.proofs.found.put_violation.Goals as goal

pub returns : goal.returns
returns g c =
    let r = c.put_evidence.result in
    let one = c.put_trace.new.writer in
    let two = c.put_actions.new.writer in
    let new = c.put_evidence.new.writer in
    let names = names_of c.args.names.now in
    let path = c.args.shown.now.path.items in
    let seen = λ (p : List (Action g.row.A.Denot)). texts_field (codes "trace") (action_texts names (trace (map action_of p))) ∷ [] in
    let all = λ (p : List (Action g.row.A.Denot)). texts_field (codes "path") (action_texts names (map action_of p)) ∷ [] in
    let evidence = evidence_fields names (evidence_of c.args.shown.now.evidence) in
    let first = subst (λ p. HasPut c.args.writer.now one (field_tokens (seen p))) c.as_slice-path.ensures.value c.in_ok-put_trace.ensures in
    let second = subst (λ p. HasPut one two (field_tokens (all p))) c.as_slice-path.ensures.value c.in_ok-put_actions.ensures in
    both r c.args.writer.now one new (seen path) (all path ++ evidence) first (both r one two new (all path) evidence second c.put_evidence.ensures)

pub put_trace-requires : goal.put_trace-requires
put_trace-requires g c =
    elim g.met.A.AllocHandle.small [
      | inl e ↦ rw (e.0, e.1) (lit< tt)
      | inr e ↦ rw (e.0, e.1) (lit< tt)
    ]

pub put_actions-requires : goal.put_actions-requires
put_actions-requires g c =
    elim g.met.A.AllocHandle.small [
      | inl e ↦ rw (e.0, e.1) (lit< tt)
      | inr e ↦ rw (e.0, e.1) (lit< tt)
    ]
