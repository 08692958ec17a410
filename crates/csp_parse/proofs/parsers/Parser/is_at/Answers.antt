use Rattle.std.proofs.Common.{◌∙◌, sym, ap, Some, rules}
use Rattle.csp_lex.specs.Tokens.{sign_of}
use Rattle.theory_reader.specs.Reader.{is_sign}
use Rattle.csp_parse.specs.Levels.{seen_kind}
use Rattle.csp_parse.specs.Reading.{next_of}
use Rattle.csp_parse.proofs.NextTokens.{sign_next, no_sign}
use Rattle.csp_parse.proofs.parsers.Parser.is_at.Goals as goal

pub returns : goal.returns
returns g c =
    sign_next c.in-Sign.next c.args.sign c.eq.result (next_of c.args.self.now) (ap (λ k. Some (seen_kind k)) (sym c.in-Sign.is) ∙ c.in-Some.ensures)
    (λ e. search (rules, e, c.eq.ensures)) (λ e. search (rules, e, c.eq.ensures))

pub returns-in_default : goal.returns-in_default
unfolding is_sign
returns-in_default g c = ap (is_sign (sign_of c.args.sign)) c.in_default.ensures

pub returns-in_default-kind : goal.returns-in_default-kind
returns-in_default-kind g c = no_sign (sign_of c.args.sign) c.in-Some.kind (next_of c.args.self.now) c.in-Some.ensures c.in_default-kind.not-Sign
