use Rattle.std.proofs.Common.{◌≡◌, ◌<◌, ap, subst, ◌∙◌}
use Rattle.std.specs.Str.{all_ascii_digits}
use Rattle.theory_text.specs.Token.{digits_value, greatest_number}
use Rattle.csp_lex.proofs.Wording.{digits_are_bytes, number_piece, number_refused}
use Rattle.csp_lex.proofs.numbers.read_number.Goals as goal
use Rattle.csp_lex.proofs.numbers.read_number.Goals.{After-as_bytes}

-- the token's bytes are its digits
bytes_are : (c : After-as_bytes) → c.as_bytes.result.now ≡ c.behind_run-end.ensures.run
bytes_are c =
    let run = c.behind_run-end.ensures in
    c.as_bytes.ensures.value ∙ c.text_to.ensures.bytes run.run run.passes ∙ (digits_are_bytes run.run run.all).0

pub value_of-requires : goal.value_of-requires
value_of-requires c = let run = c.behind_run-end.ensures in ap all_ascii_digits (bytes_are c) ∙ (digits_are_bytes run.run run.all).1

pub returns-in_err-number-clause-large : goal.returns-in_err-number-clause-large
returns-in_err-number-clause-large c =
    let past = subst (λ bs. greatest_number < digits_value 0 bs) (bytes_are (goal.at.returns-in_err-number-clause-large c).After-as_bytes) c.in_err-number.ensures in
    rw (c.from_residual.ensures) (number_refused c.requires c.behind_run-end.ensures past)

pub returns-clause-number : goal.returns-clause-number
returns-clause-number c = record {
  front = c.behind_run-end.ensures.run;
  passes = c.behind_run-end.ensures.passes;
  piece = number_piece c.requires c.behind_run-end.ensures c.in_ok-number.number (c.in_ok-number.ensures.0 ∙ ap (digits_value 0) (bytes_are (goal.at.returns-clause-number c).After-as_bytes)) c.in_ok-number.ensures.1;
}
