use Rattle.std.proofs.Common.{ap, sym}
use Rattle.theory_reader.specs.Forms.{ExpressionFrom}
use Rattle.theory_reader.specs.Reader.{body, reads}
use Rattle.csp_parse.specs.Reading.{standing_of}
use Rattle.csp_parse.proofs.Steps.{told}
use Rattle.csp_parse.proofs.Trees.{tree_of_use}
use Rattle.csp_parse.proofs.parsers.Parser.expression_of_name.Goals as goal

pub returns-clause-reads : goal.returns-clause-reads
unfolding body
returns-clause-reads g c =
    told _ _ _ _ _ c.expression_from.ensures.reads (ap (λ x. reads (ExpressionFrom x) (standing_of c.args.self.now)) (sym (tree_of_use g.row.A.Denot c.args.name)))
