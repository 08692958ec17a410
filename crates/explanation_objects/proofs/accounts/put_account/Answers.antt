-- What is put of each account.
use Rattle.std.proofs.Common.{sym, subst, inl, inr, lit<, lit≤}
use Rattle.theory_objects.specs.Accounts.{account_fields}
use Rattle.theory_objects.specs.Fields.{field_tokens}
use Rattle.csp_print.specs.Names.{names_of}
use Rattle.explanation.specs.Accounts.{account_of}
use Rattle.explanation.specs.declared.account.Account.{Account}
use Rattle.explanation_objects.specs.Putting.{Puts}
use Rattle.explanation_objects.proofs.Putting.{HasPut, nothing}
use Rattle.explanation_objects.proofs.accounts.put_account.Goals as goal

pub returns-in-Bare : goal.returns-in-Bare
returns-in-Bare g c =
    let w = c.args.writer.now in
    let P : Account g.row.A.Denot → Type 0 = λ a. HasPut w w (field_tokens (account_fields (names_of c.args.names.now) (account_of a))) in
    subst P (sym c.in-Bare.is) (nothing w)

pub returns-in-Shown : goal.returns-in-Shown
returns-in-Shown g c =
    let P : Account g.row.A.Denot → Type 0 = λ a. Puts c.put_counterexample.result c.args.writer.now c.put_counterexample.new.writer (account_fields (names_of c.args.names.now) (account_of a)) in
    subst P (sym c.in-Shown.is) c.put_counterexample.ensures

pub returns-in-WideEnd : goal.returns-in-WideEnd
returns-in-WideEnd g c =
    let w = c.args.writer.now in
    let P : Account g.row.A.Denot → Type 0 = λ a. HasPut w w (field_tokens (account_fields (names_of c.args.names.now) (account_of a))) in
    subst P (sym c.in-WideEnd.is) (nothing w)

pub returns-in-Stuck : goal.returns-in-Stuck
returns-in-Stuck g c =
    let P : Account g.row.A.Denot → Type 0 = λ a. Puts c.put_stuck.result c.args.writer.now c.put_stuck.new.writer (account_fields (names_of c.args.names.now) (account_of a)) in
    subst P (sym c.in-Stuck.is) c.put_stuck.ensures

pub put_counterexample-requires : goal.put_counterexample-requires
put_counterexample-requires g c = elim g.met.A.AllocHandle.small [ inl e ↦ rw (e.0, e.1) (search (lit≤, lit<)) | inr e ↦ rw (e.0, e.1) (search (lit≤, lit<)) ]
