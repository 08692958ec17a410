use Rattle.std.proofs.Common.{◌<◌, ◌≤◌, length, sym, subst, arith}
use Rattle.std.specs.Str.{IsValidUpTo}
use Rattle.theory_text.specs.Token.{longest_text, IsTextRefusal, LongText, NotUtf8}
use Rattle.csp_lex.proofs.texts.text_of.Goals as goal

pub returns-then-bytes-gt-LONGEST_TEXT-clause-refused : goal.returns-then-bytes-gt-LONGEST_TEXT-clause-refused
returns-then-bytes-gt-LONGEST_TEXT-clause-refused c =
    let long : longest_text < length c.args.bytes.now = omega arith in
    subst (λ p. IsTextRefusal c.args.bytes.now LongText p) (sym c.first.ensures) (IsTextRefusal.long_text long)

pub returns-in-Err-clause-refused : goal.returns-in-Err-clause-refused
returns-in-Err-clause-refused c =
    let bytes = c.args.bytes.now in
    let n = c.valid_up_to.result in
    let short : length bytes ≤ longest_text = omega arith in
    let valid = subst (λ k. IsValidUpTo bytes k) (sym c.valid_up_to.ensures) c.in-Err.ensures.cases.1 in
    subst (λ p. IsTextRefusal bytes NotUtf8 p) (sym c.place_behind-place.ensures) (IsTextRefusal.not_utf8 n short valid)
