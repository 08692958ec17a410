use Rattle.std.proofs.Common.{◌∙◌, refl, Some, None}
use Rattle.theory_reader.specs.Reader.{body}
use Rattle.csp_lex.specs.Tokens.{placed_token}
use Rattle.csp_parse.specs.Levels.{level_of}
use Rattle.csp_parse.specs.Reading.{standing_of}
use Rattle.csp_parse.proofs.Steps.{hands}
use Rattle.csp_parse.proofs.Declared.{domain_reads}
use Rattle.csp_parse.proofs.parsers.Parser.domain.Goals as goal

pub returns-in_default-clause-reads : goal.returns-in_default-clause-reads
unfolding body
returns-in_default-clause-reads g c = domain_reads (level_of c.args.level) (standing_of c.args.self.now) None c.in_default.ensures

pub returns-in_err-set-clause-reads : goal.returns-in_err-set-clause-reads
unfolding body
returns-in_err-set-clause-reads g c =
    hands _ _ _ _ _ _ c.from_residual.ensures c.in_err-set.ensures.reads (λ h e. domain_reads (level_of c.args.level) (standing_of c.args.self.now) (Some (placed_token c.in-Some.first)) c.in-Some.ensures ∙ rw e refl)

pub returns-clause-reads : goal.returns-clause-reads
unfolding body
returns-clause-reads g c =
    domain_reads (level_of c.args.level) (standing_of c.args.self.now) (Some (placed_token c.in-Some.first)) c.in-Some.ensures ∙ rw c.in_ok-set.ensures.reads refl
