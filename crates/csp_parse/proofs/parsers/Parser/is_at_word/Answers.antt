use Rattle.std.proofs.Common.{◌∙◌, sym, ap, Some, rules}
use Rattle.csp_lex.specs.Tokens.{keyword_of}
use Rattle.theory_reader.specs.Reader.{is_word}
use Rattle.csp_parse.specs.Levels.{seen_kind}
use Rattle.csp_parse.specs.Reading.{next_of}
use Rattle.csp_parse.proofs.NextTokens.{word_next, no_word}
use Rattle.csp_parse.proofs.parsers.Parser.is_at_word.Goals as goal

pub returns : goal.returns
returns g c =
    word_next c.in-Keyword.next c.args.keyword c.eq.result (next_of c.args.self.now) (ap (λ k. Some (seen_kind k)) (sym c.in-Keyword.is) ∙ c.in-Some.ensures)
    (λ e. search (rules, e, c.eq.ensures)) (λ e. search (rules, e, c.eq.ensures))

pub returns-in_default : goal.returns-in_default
unfolding is_word
returns-in_default g c = ap (is_word (keyword_of c.args.keyword)) c.in_default.ensures

pub returns-in_default-kind : goal.returns-in_default-kind
returns-in_default-kind g c = no_word (keyword_of c.args.keyword) c.in-Some.kind (next_of c.args.self.now) c.in-Some.ensures c.in_default-kind.not-Keyword
