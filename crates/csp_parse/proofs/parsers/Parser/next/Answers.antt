use Rattle.std.proofs.Common.{sym, ap}
use Rattle.theory_reader.specs.Programs.{first}
use Rattle.csp_parse.proofs.NextTokens.{first_at, none_left}
use Rattle.csp_parse.proofs.parsers.Parser.next.Goals as goal

pub returns-in-Some : goal.returns-in-Some
returns-in-Some g c = first_at c.args.self.now.tokens.now c.args.self.now.position c.in-Some.token.now c.in-Some.ensures.lookup.3.0 c.in-Some.ensures.lookup.1

pub returns-in-None : goal.returns-in-None
returns-in-None g c = ap first (sym (none_left c.args.self.now.tokens.now c.args.self.now.position c.in-None.ensures.lookup.3))
