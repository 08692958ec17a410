-- What the parts with the values put in make up.
use Rattle.std.proofs.Common.{sym, ◌∙◌, ap}
use Rattle.theory_syntax.specs.Expression.{to_expressions}
use Rattle.theory_syntax.specs.Process as pure
use Rattle.theory_semantics.specs.Meaning.Substitution.{put}
use Rattle.csp_expression.specs.Bindings.{bindings_of}
use Rattle.csp_expression.specs.Expression.{expressions_of}
use Rattle.csp_events.specs.Events.{renaming_pairs_of}
use Rattle.csp_term.specs.Field.{fields_of}
use Rattle.csp_term.specs.Term.{process_of, process_of_form}
use Rattle.csp_term.proofs.Forms.{of_stop, of_skip, of_omega_term, of_call, of_prefix, of_renaming, of_replicated}
use Rattle.csp_term.proofs.TermPutting.{put_form, made_conditional, made_binary, made_generalised, made_alphabetised, made_sliding, put_standing, put_prefix, put_guard, put_conditional, put_binary, put_generalised, put_alphabetised, put_sliding, put_hiding, put_renaming, put_replicated}
use Rattle.csp_term.proofs.+put_term.Goals as goal

pub operands::put_in_conditional-returns : goal.operands::put_in_conditional-returns
operands::put_in_conditional-returns g t c =
    made_conditional (bindings_of c.args.bindings.now) c.args.condition.now c.in_ok-put_in.field-0 c.args.first c.args.second.now c.in_ok-second.second c.in_ok-put_in.ensures c.in_ok-second.ensures

pub operands::put_in_binary-returns : goal.operands::put_in_binary-returns
operands::put_in_binary-returns g t c = made_binary (bindings_of c.args.bindings.now) c.args.operator c.args.left c.args.right.now c.in_ok-put_in.field-0 c.in_ok-put_in.ensures

pub operands::put_in_generalised-returns : goal.operands::put_in_generalised-returns
operands::put_in_generalised-returns g t c =
    made_generalised (bindings_of c.args.bindings.now) c.args.left c.args.shared.now c.in_ok-put_in.field-0 c.args.right.now c.in_ok-right.right c.in_ok-put_in.ensures c.in_ok-right.ensures

pub operands::put_in_alphabetised-returns : goal.operands::put_in_alphabetised-returns
operands::put_in_alphabetised-returns g t c =
    made_alphabetised (bindings_of c.args.bindings.now) c.args.left c.args.own.now c.in_ok-own.own c.args.other.now c.in_ok-put_in.field-0 c.args.right.now c.in_ok-right.right
    c.in_ok-own.ensures c.in_ok-put_in.ensures c.in_ok-right.ensures

pub operands::put_in_sliding-returns : goal.operands::put_in_sliding-returns
operands::put_in_sliding-returns g t c = made_sliding (bindings_of c.args.bindings.now) c.args.left c.args.right.now c.in_ok-put_in.field-0 c.in_ok-put_in.ensures

pub replicated::put_in_replicated-returns : goal.replicated::put_in_replicated-returns
replicated::put_in_replicated-returns g t c =
    let body = c.in_ok-body.ensures ∙ ap (λ cs. put (bindings_of cs) (process_of c.args.body.now)) c.deref.ensures.value in
    put_replicated (bindings_of c.args.bindings.now) (bindings_of c.in_ok-left.left.items) c.args.operator c.args.name c.args.body.now c.in_ok-body.body c.args.set.now c.in_ok-put_in.field-0 c.in_ok-put_in.ensures c.in_ok-left.ensures body

pub substitution::put_in_prefix-returns : goal.substitution::put_in_prefix-returns
substitution::put_in_prefix-returns g t c =
    let body = c.in_ok-put_in.ensures ∙ ap (λ cs. put (bindings_of cs) (process_of c.args.body.now)) c.deref.ensures.value in
    put_prefix (bindings_of c.args.bindings.now) (bindings_of c.in_ok-fields.left.items) c.args.channel c.args.fields.now c.in_ok-fields.fields c.args.body.now c.in_ok-put_in.field-0 c.in_ok-fields.ensures.fields c.in_ok-fields.ensures.left body

pub term::TermForm::put_in-returns-in-Call : goal.term::TermForm::put_in-returns-in-Call
term::TermForm::put_in-returns-in-Call g t c =
    let stands = ap process_of_form c.in-Call.is ∙ of_call g.row.A.Denot c.in-Call.called c.in-Call.arguments ∙ ap (λ es. pure.Call c.in-Call.called.0 (to_expressions (expressions_of es))) (sym c.deref.ensures.value) in
    put_standing (bindings_of c.args.bindings.now) c.args.self.now _ c.put_in_call.result stands c.put_in_call.ensures

pub term::TermForm::put_in-returns-in-Prefix : goal.term::TermForm::put_in-returns-in-Prefix
term::TermForm::put_in-returns-in-Prefix g t c =
    let stands = ap process_of_form c.in-Prefix.is ∙ of_prefix g.row.A.Denot c.in-Prefix.channel c.in-Prefix.fields c.in-Prefix.body ∙ ap (λ fs. pure.Prefix c.in-Prefix.channel.0 (fields_of fs) (process_of c.in-Prefix.body)) (sym c.deref-in-Prefix.ensures.value) in
    put_standing (bindings_of c.args.bindings.now) c.args.self.now _ c.put_in_prefix.result stands c.put_in_prefix.ensures

pub term::TermForm::put_in-returns-in_ok-first-in-If : goal.term::TermForm::put_in-returns-in_ok-first-in-If
term::TermForm::put_in-returns-in_ok-first-in-If g t c =
    put_conditional (bindings_of c.args.bindings.now) c.args.self.now c.in-If.condition c.in-If.first c.in_ok-first-in-If.first c.in-If.second c.put_in_conditional.result c.in-If.is c.in_ok-first-in-If.ensures c.put_in_conditional.ensures

pub term::TermForm::put_in-returns-in_ok-left-in-Binary : goal.term::TermForm::put_in-returns-in_ok-left-in-Binary
term::TermForm::put_in-returns-in_ok-left-in-Binary g t c =
    put_binary (bindings_of c.args.bindings.now) c.args.self.now c.in-Binary.operator c.in-Binary.left c.in_ok-left-in-Binary.left c.in-Binary.right c.put_in_binary.result c.in-Binary.is c.in_ok-left-in-Binary.ensures c.put_in_binary.ensures

pub term::TermForm::put_in-returns-in_ok-left-in-GeneralisedParallel : goal.term::TermForm::put_in-returns-in_ok-left-in-GeneralisedParallel
term::TermForm::put_in-returns-in_ok-left-in-GeneralisedParallel g t c =
    put_generalised (bindings_of c.args.bindings.now) c.args.self.now c.in-GeneralisedParallel.left c.in_ok-left-in-GeneralisedParallel.left c.in-GeneralisedParallel.shared c.in-GeneralisedParallel.right c.put_in_generalised.result c.in-GeneralisedParallel.is c.in_ok-left-in-GeneralisedParallel.ensures c.put_in_generalised.ensures

pub term::TermForm::put_in-returns-in_ok-left-in-AlphabetisedParallel : goal.term::TermForm::put_in-returns-in_ok-left-in-AlphabetisedParallel
term::TermForm::put_in-returns-in_ok-left-in-AlphabetisedParallel g t c =
    put_alphabetised (bindings_of c.args.bindings.now) c.args.self.now c.in-AlphabetisedParallel.left c.in_ok-left-in-AlphabetisedParallel.left c.in-AlphabetisedParallel.own c.in-AlphabetisedParallel.other c.in-AlphabetisedParallel.right c.put_in_alphabetised.result c.in-AlphabetisedParallel.is c.in_ok-left-in-AlphabetisedParallel.ensures c.put_in_alphabetised.ensures

pub term::TermForm::put_in-returns-in_ok-left-in-SlidingChoice : goal.term::TermForm::put_in-returns-in_ok-left-in-SlidingChoice
term::TermForm::put_in-returns-in_ok-left-in-SlidingChoice g t c =
    put_sliding (bindings_of c.args.bindings.now) c.args.self.now c.in-SlidingChoice.left c.in_ok-left-in-SlidingChoice.left c.in-SlidingChoice.right c.put_in_sliding.result c.in-SlidingChoice.is c.in_ok-left-in-SlidingChoice.ensures c.put_in_sliding.ensures

pub term::TermForm::put_in-returns-in-Replicated : goal.term::TermForm::put_in-returns-in-Replicated
term::TermForm::put_in-returns-in-Replicated g t c =
    put_standing (bindings_of c.args.bindings.now) c.args.self.now _ c.put_in_replicated.result (ap process_of_form c.in-Replicated.is ∙ of_replicated g.row.A.Denot c.in-Replicated.operator c.in-Replicated.name c.in-Replicated.set c.in-Replicated.body) c.put_in_replicated.ensures

pub term::Term::put_in-returns : goal.term::Term::put_in-returns
term::Term::put_in-returns g t c =
    put_form (bindings_of c.args.bindings.now) c.args.self.now c.deref.result.now c.in_ok-form.form c.new.result c.deref.ensures c.in_ok-form.ensures c.new.ensures

pub term::TermForm::put_in-returns-in-Stop : goal.term::TermForm::put_in-returns-in-Stop
term::TermForm::put_in-returns-in-Stop g t c =
    of_stop g.row.A.Denot ∙ ap (put (bindings_of c.args.bindings.now)) (sym (ap process_of_form c.in-Stop.is ∙ of_stop g.row.A.Denot))

pub term::TermForm::put_in-returns-in-Skip : goal.term::TermForm::put_in-returns-in-Skip
term::TermForm::put_in-returns-in-Skip g t c =
    of_skip g.row.A.Denot ∙ ap (put (bindings_of c.args.bindings.now)) (sym (ap process_of_form c.in-Skip.is ∙ of_skip g.row.A.Denot))

pub term::TermForm::put_in-returns-in-Omega : goal.term::TermForm::put_in-returns-in-Omega
term::TermForm::put_in-returns-in-Omega g t c =
    of_omega_term g.row.A.Denot ∙ ap (put (bindings_of c.args.bindings.now)) (sym (ap process_of_form c.in-Omega.is ∙ of_omega_term g.row.A.Denot))

pub term::TermForm::put_in-returns-in_ok-put_in-in-Guard : goal.term::TermForm::put_in-returns-in_ok-put_in-in-Guard
term::TermForm::put_in-returns-in_ok-put_in-in-Guard g t c =
    put_guard (bindings_of c.args.bindings.now) c.args.self.now c.in-Guard.condition c.in-Guard.body c.in_ok-put_in-in-Guard.field-0 c.put_in_guard.result c.in-Guard.is c.in_ok-put_in-in-Guard.ensures c.put_in_guard.ensures

pub term::TermForm::put_in-returns-in_ok-put_in-in-Hiding : goal.term::TermForm::put_in-returns-in_ok-put_in-in-Hiding
term::TermForm::put_in-returns-in_ok-put_in-in-Hiding g t c =
    put_hiding (bindings_of c.args.bindings.now) c.args.self.now c.in-Hiding.body c.in_ok-put_in-in-Hiding.field-0 c.in-Hiding.hidden c.put_in_hiding.result c.in-Hiding.is c.in_ok-put_in-in-Hiding.ensures c.put_in_hiding.ensures

pub hiding::put_in_renaming-returns : goal.hiding::put_in_renaming-returns
hiding::put_in_renaming-returns g t c =
    put_renaming (bindings_of c.args.bindings.now) c.args.body.now c.in_ok-body.body c.args.pairs.now c.in_ok-put_in_pairs.field-0 c.in_ok-body.ensures c.in_ok-put_in_pairs.ensures

pub term::TermForm::put_in-returns-in-Renaming : goal.term::TermForm::put_in-returns-in-Renaming
term::TermForm::put_in-returns-in-Renaming g t c =
    let stands = ap process_of_form c.in-Renaming.is ∙ of_renaming g.row.A.Denot c.in-Renaming.body c.in-Renaming.pairs ∙ ap (λ rs. pure.Renaming (process_of c.in-Renaming.body) (renaming_pairs_of rs)) (sym c.deref-in-Renaming.ensures.value) in
    put_standing (bindings_of c.args.bindings.now) c.args.self.now _ c.put_in_renaming.result stands c.put_in_renaming.ensures
