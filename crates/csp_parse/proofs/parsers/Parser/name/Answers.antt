use Rattle.std.proofs.Common.{refl}
use Rattle.theory_reader.specs.Reader.{body, reads}
use Rattle.theory_reader.proofs.Laws.{reads_is}
use Rattle.csp_parse.specs.Reading.{standing_of}
use Rattle.csp_parse.proofs.ReadNames.{none_named, not_named, named}
use Rattle.csp_parse.proofs.Steps.{hands}
use Rattle.csp_parse.proofs.parsers.Parser.name.Goals as goal

pub returns-in_default-clause-reads : goal.returns-in_default-clause-reads
unfolding body
returns-in_default-clause-reads g c = rw reads_is (none_named reads (standing_of c.args.self.now) c.in_default.ensures)

pub returns-in_default-kind : goal.returns-in_default-kind
unfolding body
returns-in_default-kind g c = record { reads = rw reads_is (not_named reads (standing_of c.args.self.now) c.in-Some.token c.in-Some.ensures c.in_default-kind.not-Name); shorter = tt }

pub returns-in_err-pass-clause-reads : goal.returns-in_err-pass-clause-reads
unfolding body
returns-in_err-pass-clause-reads g c =
    hands _ _ _ _ _ _ c.from_residual.ensures c.in_err-pass.ensures.reads
    (λ h e. rw reads_is (named reads (standing_of c.args.self.now) c.in-Some.token c.in-Some.ensures c.in-Name.is (rw e refl)))

pub returns-clause-reads : goal.returns-clause-reads
unfolding body
returns-clause-reads g c = rw reads_is (named reads (standing_of c.args.self.now) c.in-Some.token c.in-Some.ensures c.in-Name.is (rw c.in_ok-pass.ensures.reads refl))
