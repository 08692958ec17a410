use Rattle.std.proofs.Common.{◌∙◌, sym, ap, Some}
use Rattle.theory_reader.specs.Reader.{is_name}
use Rattle.csp_parse.specs.Levels.{seen_kind}
use Rattle.csp_parse.specs.Reading.{next_of}
use Rattle.csp_parse.proofs.NextTokens.{no_name}
use Rattle.csp_parse.proofs.parsers.Parser.is_at_name.Goals as goal

pub returns-in_default : goal.returns-in_default
unfolding is_name
returns-in_default g c = ap is_name c.in_default.ensures

pub returns-in-Name : goal.returns-in-Name
unfolding is_name
returns-in-Name g c = ap is_name (ap (λ k. Some (seen_kind k)) (sym c.in-Name.is) ∙ c.in-Some.ensures)

pub returns-in_default-matches : goal.returns-in_default-matches
returns-in_default-matches g c = no_name c.in-Some.kind (next_of c.args.self.now) c.in-Some.ensures c.in_default-matches.not-Name
