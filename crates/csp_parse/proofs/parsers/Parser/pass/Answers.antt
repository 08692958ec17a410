use Rattle.csp_parse.specs.Nests.{nest_of}
use Rattle.csp_parse.proofs.NextTokens.{pass_at}
use Rattle.csp_parse.proofs.Steps.{told}
use Rattle.csp_parse.proofs.parsers.Parser.pass.Goals as goal

pub returns-clause-reads : goal.returns-clause-reads
returns-clause-reads g c =
    told _ _ _ _ _ c.count_next.ensures.reads (pass_at c.args.self.now.tokens.now c.args.self.now.position (nest_of c.args.self.now.nest) c.if-self.false)
