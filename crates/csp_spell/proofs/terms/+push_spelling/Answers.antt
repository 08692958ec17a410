-- The spelling of each form of term.
use Rattle.std.proofs.Common.{rules, [], ◌≡◌, ◌∷◌, ◌++◌, OnOk, refl, sym, ap, ◌∙◌, subst, arith}
use Rattle.theory_syntax.specs.Expression.{to_expressions}
use Rattle.theory_syntax.specs.Process.{AlphabetisedParallel, Call, GeneralisedParallel, Guard, Hiding, If, Prefix, Renaming, SlidingChoice}
use Rattle.theory_syntax.specs.Operators.{binary_process, replicated_process}
use Rattle.theory_semantics.specs.Meaning.Limits.{size}
use Rattle.theory_spelling.specs.Spelling.{spelling, number_spelling, list_spelling, field_spelling}
use Rattle.theory_spelling.specs.Packable.{IsPackable}
use Rattle.theory_spelling.specs.Ranges.{IsInRange}
use Rattle.csp_expression.specs.Expression.{expression_of, expressions_of}
use Rattle.csp_events.specs.Events.{event_set_of, renaming_pairs_of}
use Rattle.csp_term.specs.Field.{fields_of}
use Rattle.csp_term.specs.Term.{process_of, process_of_form}
use Rattle.csp_term.proofs.Forms.{of_call, of_prefix, of_guard, of_conditional, of_binary, of_generalised, of_alphabetised, of_hiding, of_renaming, of_replicated, of_sliding}
use Rattle.csp_spell.proofs.Pushing.{behind_part, two_parts, also_ok}
use Rattle.csp_spell.proofs.PushingTerms.{size_binary, packable_binary, size_replicated, packable_replicated}
use Rattle.csp_spell.proofs.terms.+push_spelling.Goals as goal

pub push_spelling-push_form-requires : goal.push_spelling-push_form-requires
push_spelling-push_form-requires g t c κs within =
    let same = ap size c.form.ensures in
    (omega arith, (within, subst IsPackable (sym c.form.ensures) c.requires))

pub push_spelling-returns : goal.push_spelling-returns
push_spelling-returns g t c = record {
  spelled = subst (λ p. OnOk c.push_form.result (c.push_form.new.bytes.items ≡ c.args.bytes.now.items ++ spelling p)) c.form.ensures c.push_form.ensures.spelled;
  range = subst (λ p. OnOk c.push_form.result (IsInRange p)) c.form.ensures c.push_form.ensures.range;
}

pub push_form-push_call-requires : goal.push_form-push_call-requires
push_form-push_call-requires g t c =
    let is = ap process_of_form c.in-Call.is ∙ of_call g.row.A.Denot c.in-Call.equation c.in-Call.arguments ∙ ap (λ es. (Call c.in-Call.equation.0 (to_expressions (expressions_of es)))) (sym c.deref.ensures.value) in
    subst IsPackable is c.requires

pub push_form-returns-in-Call : goal.push_form-returns-in-Call
push_form-returns-in-Call g t c =
    let is = ap process_of_form c.in-Call.is ∙ of_call g.row.A.Denot c.in-Call.equation c.in-Call.arguments ∙ ap (λ es. (Call c.in-Call.equation.0 (to_expressions (expressions_of es)))) (sym c.deref.ensures.value) in
    record {
      spelled = subst (λ p. OnOk c.push_call.result (c.push_call.new.bytes.items ≡ c.args.bytes.now.items ++ spelling p)) (sym is) c.push_call.ensures.spelled;
      range = subst (λ p. OnOk c.push_call.result (IsInRange p)) (sym is) c.push_call.ensures.range;
    }

pub push_form-push_prefix-requires : goal.push_form-push_prefix-requires
push_form-push_prefix-requires g t c κs within =
    let is = ap process_of_form c.in-Prefix.is ∙ of_prefix g.row.A.Denot c.in-Prefix.channel c.in-Prefix.fields c.in-Prefix.body ∙ ap (λ es. (Prefix c.in-Prefix.channel.0 (fields_of es) (process_of c.in-Prefix.body))) (sym c.deref-in-Prefix.ensures.value) in
    let same : size (process_of_form c.args.form.now) ≡ size (Prefix c.in-Prefix.channel.0 (fields_of c.deref-in-Prefix.result.now) (process_of c.in-Prefix.body)) = ap size is in
    (omega arith, (within, subst IsPackable is c.requires))

pub push_form-returns-in-Prefix : goal.push_form-returns-in-Prefix
push_form-returns-in-Prefix g t c =
    let is = ap process_of_form c.in-Prefix.is ∙ of_prefix g.row.A.Denot c.in-Prefix.channel c.in-Prefix.fields c.in-Prefix.body ∙ ap (λ es. (Prefix c.in-Prefix.channel.0 (fields_of es) (process_of c.in-Prefix.body))) (sym c.deref-in-Prefix.ensures.value) in
    record {
      spelled = subst (λ p. OnOk c.push_prefix.result (c.push_prefix.new.bytes.items ≡ c.args.bytes.now.items ++ spelling p)) (sym is) c.push_prefix.ensures.spelled;
      range = subst (λ p. OnOk c.push_prefix.result (IsInRange p)) (sym is) c.push_prefix.ensures.range;
    }

pub push_form-push_guard-requires : goal.push_form-push_guard-requires
push_form-push_guard-requires g t c κs within =
    let is = ap process_of_form c.in-Guard.is ∙ of_guard g.row.A.Denot c.in-Guard.condition c.in-Guard.body in
    let same : size (process_of_form c.args.form.now) ≡ size (Guard (expression_of c.in-Guard.condition) (process_of c.in-Guard.body)) = ap size is in
    (omega arith, (within, subst IsPackable is c.requires))

pub push_form-returns-in-Guard : goal.push_form-returns-in-Guard
push_form-returns-in-Guard g t c =
    let is = ap process_of_form c.in-Guard.is ∙ of_guard g.row.A.Denot c.in-Guard.condition c.in-Guard.body in
    record {
      spelled = subst (λ p. OnOk c.push_guard.result (c.push_guard.new.bytes.items ≡ c.args.bytes.now.items ++ spelling p)) (sym is) c.push_guard.ensures.spelled;
      range = subst (λ p. OnOk c.push_guard.result (IsInRange p)) (sym is) c.push_guard.ensures.range;
    }

pub push_form-push_if-requires : goal.push_form-push_if-requires
push_form-push_if-requires g t c κs within =
    let is = ap process_of_form c.in-If.is ∙ of_conditional g.row.A.Denot c.in-If.condition c.in-If.first c.in-If.second in
    let same : size (process_of_form c.args.form.now) ≡ size (If (expression_of c.in-If.condition) (process_of c.in-If.first) (process_of c.in-If.second)) = ap size is in
    (omega arith, (within, subst IsPackable is c.requires))

pub push_form-returns-in-If : goal.push_form-returns-in-If
push_form-returns-in-If g t c =
    let is = ap process_of_form c.in-If.is ∙ of_conditional g.row.A.Denot c.in-If.condition c.in-If.first c.in-If.second in
    record {
      spelled = subst (λ p. OnOk c.push_if.result (c.push_if.new.bytes.items ≡ c.args.bytes.now.items ++ spelling p)) (sym is) c.push_if.ensures.spelled;
      range = subst (λ p. OnOk c.push_if.result (IsInRange p)) (sym is) c.push_if.ensures.range;
    }

pub push_form-push_binary-requires : goal.push_form-push_binary-requires
push_form-push_binary-requires g t c κs within =
    let is = ap process_of_form c.in-Binary.is ∙ of_binary g.row.A.Denot c.in-Binary.operator c.in-Binary.left c.in-Binary.right in
    let same : size (process_of_form c.args.form.now) ≡ size (binary_process c.in-Binary.operator (process_of c.in-Binary.left) (process_of c.in-Binary.right)) = ap size is in
    (omega arith, (within, subst IsPackable is c.requires))

pub push_form-returns-in-Binary : goal.push_form-returns-in-Binary
push_form-returns-in-Binary g t c =
    let is = ap process_of_form c.in-Binary.is ∙ of_binary g.row.A.Denot c.in-Binary.operator c.in-Binary.left c.in-Binary.right in
    record {
      spelled = subst (λ p. OnOk c.push_binary.result (c.push_binary.new.bytes.items ≡ c.args.bytes.now.items ++ spelling p)) (sym is) c.push_binary.ensures.spelled;
      range = subst (λ p. OnOk c.push_binary.result (IsInRange p)) (sym is) c.push_binary.ensures.range;
    }

pub push_form-push_generalised-requires : goal.push_form-push_generalised-requires
push_form-push_generalised-requires g t c κs within =
    let is = ap process_of_form c.in-GeneralisedParallel.is ∙ of_generalised g.row.A.Denot c.in-GeneralisedParallel.left c.in-GeneralisedParallel.shared c.in-GeneralisedParallel.right in
    let same : size (process_of_form c.args.form.now) ≡ size (GeneralisedParallel (process_of c.in-GeneralisedParallel.left) (event_set_of c.in-GeneralisedParallel.shared) (process_of c.in-GeneralisedParallel.right)) = ap size is in
    (omega arith, (within, subst IsPackable is c.requires))

pub push_form-returns-in-GeneralisedParallel : goal.push_form-returns-in-GeneralisedParallel
push_form-returns-in-GeneralisedParallel g t c =
    let is = ap process_of_form c.in-GeneralisedParallel.is ∙ of_generalised g.row.A.Denot c.in-GeneralisedParallel.left c.in-GeneralisedParallel.shared c.in-GeneralisedParallel.right in
    record {
      spelled = subst (λ p. OnOk c.push_generalised.result (c.push_generalised.new.bytes.items ≡ c.args.bytes.now.items ++ spelling p)) (sym is) c.push_generalised.ensures.spelled;
      range = subst (λ p. OnOk c.push_generalised.result (IsInRange p)) (sym is) c.push_generalised.ensures.range;
    }

pub push_form-push_alphabetised-requires : goal.push_form-push_alphabetised-requires
push_form-push_alphabetised-requires g t c κs within =
    let is = ap process_of_form c.in-AlphabetisedParallel.is ∙ of_alphabetised g.row.A.Denot c.in-AlphabetisedParallel.left c.in-AlphabetisedParallel.own c.in-AlphabetisedParallel.other c.in-AlphabetisedParallel.right in
    let same : size (process_of_form c.args.form.now) ≡ size (AlphabetisedParallel (process_of c.in-AlphabetisedParallel.left) (event_set_of c.in-AlphabetisedParallel.own) (event_set_of c.in-AlphabetisedParallel.other) (process_of c.in-AlphabetisedParallel.right)) = ap size is in
    (omega arith, (within, subst IsPackable is c.requires))

pub push_form-returns-in-AlphabetisedParallel : goal.push_form-returns-in-AlphabetisedParallel
push_form-returns-in-AlphabetisedParallel g t c =
    let is = ap process_of_form c.in-AlphabetisedParallel.is ∙ of_alphabetised g.row.A.Denot c.in-AlphabetisedParallel.left c.in-AlphabetisedParallel.own c.in-AlphabetisedParallel.other c.in-AlphabetisedParallel.right in
    record {
      spelled = subst (λ p. OnOk c.push_alphabetised.result (c.push_alphabetised.new.bytes.items ≡ c.args.bytes.now.items ++ spelling p)) (sym is) c.push_alphabetised.ensures.spelled;
      range = subst (λ p. OnOk c.push_alphabetised.result (IsInRange p)) (sym is) c.push_alphabetised.ensures.range;
    }

pub push_form-push_hiding-requires : goal.push_form-push_hiding-requires
push_form-push_hiding-requires g t c κs within =
    let is = ap process_of_form c.in-Hiding.is ∙ of_hiding g.row.A.Denot c.in-Hiding.body c.in-Hiding.hidden in
    let same : size (process_of_form c.args.form.now) ≡ size (Hiding (process_of c.in-Hiding.body) (event_set_of c.in-Hiding.hidden)) = ap size is in
    (omega arith, (within, subst IsPackable is c.requires))

pub push_form-returns-in-Hiding : goal.push_form-returns-in-Hiding
push_form-returns-in-Hiding g t c =
    let is = ap process_of_form c.in-Hiding.is ∙ of_hiding g.row.A.Denot c.in-Hiding.body c.in-Hiding.hidden in
    record {
      spelled = subst (λ p. OnOk c.push_hiding.result (c.push_hiding.new.bytes.items ≡ c.args.bytes.now.items ++ spelling p)) (sym is) c.push_hiding.ensures.spelled;
      range = subst (λ p. OnOk c.push_hiding.result (IsInRange p)) (sym is) c.push_hiding.ensures.range;
    }

pub push_form-push_renaming-requires : goal.push_form-push_renaming-requires
push_form-push_renaming-requires g t c κs within =
    let is = ap process_of_form c.in-Renaming.is ∙ of_renaming g.row.A.Denot c.in-Renaming.body c.in-Renaming.pairs ∙ ap (λ es. (Renaming (process_of c.in-Renaming.body) (renaming_pairs_of es))) (sym c.deref-in-Renaming.ensures.value) in
    let same : size (process_of_form c.args.form.now) ≡ size (Renaming (process_of c.in-Renaming.body) (renaming_pairs_of c.deref-in-Renaming.result.now)) = ap size is in
    (omega arith, (within, subst IsPackable is c.requires))

pub push_form-returns-in-Renaming : goal.push_form-returns-in-Renaming
push_form-returns-in-Renaming g t c =
    let is = ap process_of_form c.in-Renaming.is ∙ of_renaming g.row.A.Denot c.in-Renaming.body c.in-Renaming.pairs ∙ ap (λ es. (Renaming (process_of c.in-Renaming.body) (renaming_pairs_of es))) (sym c.deref-in-Renaming.ensures.value) in
    record {
      spelled = subst (λ p. OnOk c.push_renaming.result (c.push_renaming.new.bytes.items ≡ c.args.bytes.now.items ++ spelling p)) (sym is) c.push_renaming.ensures.spelled;
      range = subst (λ p. OnOk c.push_renaming.result (IsInRange p)) (sym is) c.push_renaming.ensures.range;
    }

pub push_form-push_replicated-requires : goal.push_form-push_replicated-requires
push_form-push_replicated-requires g t c κs within =
    let is = ap process_of_form c.in-Replicated.is ∙ of_replicated g.row.A.Denot c.in-Replicated.operator c.in-Replicated.name c.in-Replicated.set c.in-Replicated.body in
    let same : size (process_of_form c.args.form.now) ≡ size (replicated_process c.in-Replicated.operator c.in-Replicated.name.0 (expression_of c.in-Replicated.set) (process_of c.in-Replicated.body)) = ap size is in
    (omega arith, (within, subst IsPackable is c.requires))

pub push_form-returns-in-Replicated : goal.push_form-returns-in-Replicated
push_form-returns-in-Replicated g t c =
    let is = ap process_of_form c.in-Replicated.is ∙ of_replicated g.row.A.Denot c.in-Replicated.operator c.in-Replicated.name c.in-Replicated.set c.in-Replicated.body in
    record {
      spelled = subst (λ p. OnOk c.push_replicated.result (c.push_replicated.new.bytes.items ≡ c.args.bytes.now.items ++ spelling p)) (sym is) c.push_replicated.ensures.spelled;
      range = subst (λ p. OnOk c.push_replicated.result (IsInRange p)) (sym is) c.push_replicated.ensures.range;
    }

pub push_form-push_sliding-requires : goal.push_form-push_sliding-requires
push_form-push_sliding-requires g t c κs within =
    let is = ap process_of_form c.in-SlidingChoice.is ∙ of_sliding g.row.A.Denot c.in-SlidingChoice.left c.in-SlidingChoice.right in
    let same : size (process_of_form c.args.form.now) ≡ size (SlidingChoice (process_of c.in-SlidingChoice.left) (process_of c.in-SlidingChoice.right)) = ap size is in
    (omega arith, (within, subst IsPackable is c.requires))

pub push_form-returns-in-SlidingChoice : goal.push_form-returns-in-SlidingChoice
push_form-returns-in-SlidingChoice g t c =
    let is = ap process_of_form c.in-SlidingChoice.is ∙ of_sliding g.row.A.Denot c.in-SlidingChoice.left c.in-SlidingChoice.right in
    record {
      spelled = subst (λ p. OnOk c.push_sliding.result (c.push_sliding.new.bytes.items ≡ c.args.bytes.now.items ++ spelling p)) (sym is) c.push_sliding.ensures.spelled;
      range = subst (λ p. OnOk c.push_sliding.result (IsInRange p)) (sym is) c.push_sliding.ensures.range;
    }

pub push_prefix-returns : goal.push_prefix-returns
push_prefix-returns g t c =
    let part0 = two_parts c.args.bytes.now.items c.push.new.self.items c.push_number.new.bytes.items (0x05 ∷ []) (number_spelling c.args.channel.0) c.in_ok-push.ensures.items c.in_ok-push_number.ensures in
    let part1 = two_parts c.args.bytes.now.items c.push_number.new.bytes.items c.push_fields.new.bytes.items (0x05 ∷ (number_spelling c.args.channel.0)) (list_spelling field_spelling (fields_of c.args.fields.now)) part0 c.in_ok-push_fields.ensures.spelled in
    record {
      spelled = behind_part c.push_spelling.result c.args.bytes.now.items c.push_fields.new.bytes.items c.push_spelling.new.bytes.items (0x05 ∷ (number_spelling c.args.channel.0 ++ list_spelling field_spelling (fields_of c.args.fields.now))) (spelling (process_of c.args.body.now)) (spelling (Prefix c.args.channel.0 (fields_of c.args.fields.now) (process_of c.args.body.now))) part1 refl c.push_spelling.ensures.spelled;
      range = also_ok c.push_spelling.result c.push_spelling.ensures.range (λ h. ((search rules), c.in_ok-push_fields.ensures.range, h));
    }

pub push_prefix-push_fields-requires : goal.push_prefix-push_fields-requires
push_prefix-push_fields-requires g t c = c.requires.0

pub push_prefix-push_spelling-requires : goal.push_prefix-push_spelling-requires
push_prefix-push_spelling-requires g t c κs within =
    (omega arith, (within, c.requires.1))

pub push_guard-push_expression-requires : goal.push_guard-push_expression-requires
push_guard-push_expression-requires g t c = c.requires.0

pub push_guard-push_spelling-requires : goal.push_guard-push_spelling-requires
push_guard-push_spelling-requires g t c κs within =
    (omega arith, (within, c.requires.1))

pub push_if-push_expression-requires : goal.push_if-push_expression-requires
push_if-push_expression-requires g t c = c.requires.0

pub push_if-push_spelling-requires : goal.push_if-push_spelling-requires
push_if-push_spelling-requires g t c κs within =
    (omega arith, (within, c.requires.1))

pub push_if-push_spelling-requires-2 : goal.push_if-push_spelling-requires-2
push_if-push_spelling-requires-2 g t c κs within =
    (omega arith, (within, c.requires.2))

pub push_binary-push_spelling-requires : goal.push_binary-push_spelling-requires
push_binary-push_spelling-requires g t c κs within =
    let told = packable_binary c.args.operator (process_of c.args.left.now) (process_of c.args.right.now) c.requires in
    let same = size_binary c.args.operator (process_of c.args.left.now) (process_of c.args.right.now) in
    (omega arith, (within, told.0))

pub push_binary-push_spelling-requires-2 : goal.push_binary-push_spelling-requires-2
push_binary-push_spelling-requires-2 g t c κs within =
    let told = packable_binary c.args.operator (process_of c.args.left.now) (process_of c.args.right.now) c.requires in
    let same = size_binary c.args.operator (process_of c.args.left.now) (process_of c.args.right.now) in
    (omega arith, (within, told.1))

pub push_generalised-push_spelling-requires : goal.push_generalised-push_spelling-requires
push_generalised-push_spelling-requires g t c κs within =
    (omega arith, (within, c.requires.0))

pub push_generalised-push_event_set-requires : goal.push_generalised-push_event_set-requires
push_generalised-push_event_set-requires g t c = c.requires.1

pub push_generalised-push_spelling-requires-2 : goal.push_generalised-push_spelling-requires-2
push_generalised-push_spelling-requires-2 g t c κs within =
    (omega arith, (within, c.requires.2))

pub push_alphabetised-push_spelling-requires : goal.push_alphabetised-push_spelling-requires
push_alphabetised-push_spelling-requires g t c κs within =
    (omega arith, (within, c.requires.0))

pub push_alphabetised-push_event_set-requires : goal.push_alphabetised-push_event_set-requires
push_alphabetised-push_event_set-requires g t c = c.requires.1

pub push_alphabetised-push_event_set-requires-2 : goal.push_alphabetised-push_event_set-requires-2
push_alphabetised-push_event_set-requires-2 g t c = c.requires.2

pub push_alphabetised-push_spelling-requires-2 : goal.push_alphabetised-push_spelling-requires-2
push_alphabetised-push_spelling-requires-2 g t c κs within =
    (omega arith, (within, c.requires.3))

pub push_hiding-push_spelling-requires : goal.push_hiding-push_spelling-requires
push_hiding-push_spelling-requires g t c κs within =
    (omega arith, (within, c.requires.0))

pub push_hiding-push_event_set-requires : goal.push_hiding-push_event_set-requires
push_hiding-push_event_set-requires g t c = c.requires.1

pub push_renaming-push_spelling-requires : goal.push_renaming-push_spelling-requires
push_renaming-push_spelling-requires g t c κs within =
    (omega arith, (within, c.requires.0))

pub push_renaming-push_pairs-requires : goal.push_renaming-push_pairs-requires
push_renaming-push_pairs-requires g t c = c.requires.1

pub push_replicated-push_expression-requires : goal.push_replicated-push_expression-requires
push_replicated-push_expression-requires g t c = (packable_replicated c.args.operator c.args.name.0 (expression_of c.args.set.now) (process_of c.args.body.now) c.requires).0

pub push_replicated-push_spelling-requires : goal.push_replicated-push_spelling-requires
push_replicated-push_spelling-requires g t c κs within =
    let told = packable_replicated c.args.operator c.args.name.0 (expression_of c.args.set.now) (process_of c.args.body.now) c.requires in
    let same = size_replicated c.args.operator c.args.name.0 (expression_of c.args.set.now) (process_of c.args.body.now) in
    (omega arith, (within, told.1))

pub push_sliding-push_spelling-requires : goal.push_sliding-push_spelling-requires
push_sliding-push_spelling-requires g t c κs within =
    (omega arith, (within, c.requires.0))

pub push_sliding-push_spelling-requires-2 : goal.push_sliding-push_spelling-requires-2
push_sliding-push_spelling-requires-2 g t c κs within =
    (omega arith, (within, c.requires.1))
