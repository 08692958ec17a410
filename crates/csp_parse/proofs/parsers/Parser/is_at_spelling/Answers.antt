use Rattle.std.proofs.Common.{◌∙◌, sym, ap, subst, rules}
use Rattle.std.specs.Str.{IsUtf8, chars}
use Rattle.csp_lex.specs.Tokens.{token_of, placed_token}
use Rattle.theory_reader.specs.Reader.{is_spelling, is_spelled}
use Rattle.csp_parse.specs.Reading.{left_of}
use Rattle.csp_parse.proofs.Spellings.{same_text, no_spelling, spelled_next}
use Rattle.csp_parse.proofs.parsers.Parser.is_at_spelling.Goals as goal

pub returns-in_default : goal.returns-in_default
unfolding is_spelled
returns-in_default g c = ap (is_spelled (chars c.args.spelling.now)) c.in_default.ensures

pub returns-in_default-kind : goal.returns-in_default-kind
unfolding is_spelled
returns-in_default-kind g c =
    spelled_next (chars c.args.spelling.now) (placed_token c.in-Some.token) (left_of c.args.self.now) _ c.in-Some.ensures (sym (no_spelling c.in-Some.token.kind (chars c.args.spelling.now) (chars c.in-Some.token.text.now) c.in_default-kind.not-Name))

pub returns : goal.returns
unfolding is_spelled
returns g c = spelled_next (chars c.args.spelling.now) (placed_token c.in-Some.token) (left_of c.args.self.now) _ c.in-Some.ensures
    (same_text c.in-Some.token.text.now c.args.spelling.now c.eq.result (subst IsUtf8 c.as_bytes.ensures.value c.as_bytes.ensures.utf8) c.utf8.spelling (λ e. search (rules, e, c.eq.ensures, c.as_bytes.ensures.value)) (λ e. search (rules, e, c.eq.ensures, c.as_bytes.ensures.value))
    ∙ sym (ap (λ k. is_spelling (chars c.args.spelling.now) (token_of k (chars c.in-Some.token.text.now))) c.in-Name.is))
