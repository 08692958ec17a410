-- Each group of fields behind the other.
use Rattle.std.proofs.Common.{[], ◌∷◌, ◌++◌, inl, inr, lit<, lit≤}
use Rattle.std.specs.Prelude.{codes}
use Rattle.theory_objects.specs.Accounts.{account_fields}
use Rattle.theory_objects.specs.Answers.{found_fields, head_fields}
use Rattle.theory_objects.specs.Fields.{text_field}
use Rattle.csp_term.specs.Script.{property_of}
use Rattle.csp_print.specs.Names.{names_of}
use Rattle.verdict.specs.Outcome.{outcome_of}
use Rattle.explanation.specs.Accounts.{account_of}
use Rattle.explanation_objects.specs.Answers.{answered_of, sizes_told}
use Rattle.explanation_objects.proofs.Putting.{both}
use Rattle.explanation_objects.proofs.answers.put_answer.Goals as goal

pub returns : goal.returns
returns g c =
    let r = c.put_text.result in
    let one = c.put_head.new.writer in
    let two = c.put_found.new.writer in
    let three = c.put_account.new.writer in
    let four = c.put_size.new.writer in
    let new = c.put_text.new.writer in
    let names = names_of c.args.names.now in
    let a = c.args.answered.now in
    let head = head_fields names (answered_of a) in
    let found = found_fields names (outcome_of a.found.now) in
    let account = account_fields names (account_of a.account.now) in
    let size = sizes_told (property_of a.assertion.now.property) a.size in
    let words = text_field (codes "words") a.words.now ∷ [] in
    both r c.args.writer.now one new head (found ++ (account ++ (size ++ words))) c.in_ok-put_head.ensures
    (both r one two new found (account ++ (size ++ words)) c.in_ok-put_found.ensures
    (both r two three new account (size ++ words) c.in_ok-put_account.ensures (both r three four new size words c.in_ok-put_size.ensures c.put_text.ensures)))

pub put_found-requires : goal.put_found-requires
put_found-requires g c =
    elim g.met.A.AllocHandle.small [
      | inl e ↦ rw (e.0, e.1) (lit< tt)
      | inr e ↦ rw (e.0, e.1) (lit< tt)
    ]

pub put_account-requires : goal.put_account-requires
put_account-requires g c = elim g.met.A.AllocHandle.small [ inl e ↦ rw (e.0, e.1) (search (lit≤, lit<)) | inr e ↦ rw (e.0, e.1) (search (lit≤, lit<)) ]
