use Rattle.std.proofs.Common.{◌∙◌, true, false, refl, ap}
use Rattle.csp_lex.specs.Tokens.{keyword_of}
use Rattle.theory_reader.specs.Forms.{Constant}
use Rattle.theory_reader.specs.Programs.{run}
use Rattle.theory_reader.specs.Reader.{is_sign, is_word, is_name, body, reads}
use Rattle.theory_reader.proofs.Laws.{reads_is}
use Rattle.csp_parse.specs.Reading.{standing_of}
use Rattle.csp_parse.proofs.Others.{no_constant}
use Rattle.csp_parse.proofs.Steps.{hands}
use Rattle.csp_parse.proofs.Trees.{tree_of_truth, tree_of_booleans}
use Rattle.csp_parse.proofs.parsers.Parser.constant.Goals as goal

pub returns-in_err-word-in-True-clause-reads : goal.returns-in_err-word-in-True-clause-reads
unfolding body is_sign is_word is_name
returns-in_err-word-in-True-clause-reads g c =
    hands _ _ _ _ _ _ c.from_residual.ensures c.in_err-word-in-True.ensures.reads (λ h e. rw (c.in-True.is, reads_is, e) refl)

pub returns-in_ok-word-in-True-clause-reads : goal.returns-in_ok-word-in-True-clause-reads
unfolding body is_sign is_word is_name
returns-in_ok-word-in-True-clause-reads g c = rw (c.in-True.is, reads_is, c.in_ok-word-in-True.ensures.reads, tree_of_truth g.row.A.Denot true) refl

pub returns-in_err-word-in-False-clause-reads : goal.returns-in_err-word-in-False-clause-reads
unfolding body is_sign is_word is_name
returns-in_err-word-in-False-clause-reads g c =
    hands _ _ _ _ _ _ c.from_residual-in_err-word-in-False.ensures c.in_err-word-in-False.ensures.reads (λ h e. rw (c.in-False.is, reads_is, e) refl)

pub returns-in_ok-word-in-False-clause-reads : goal.returns-in_ok-word-in-False-clause-reads
unfolding body is_sign is_word is_name
returns-in_ok-word-in-False-clause-reads g c = rw (c.in-False.is, reads_is, c.in_ok-word-in-False.ensures.reads, tree_of_truth g.row.A.Denot false) refl

pub returns-in_err-word-in-Bool-clause-reads : goal.returns-in_err-word-in-Bool-clause-reads
unfolding body is_sign is_word is_name
returns-in_err-word-in-Bool-clause-reads g c =
    hands _ _ _ _ _ _ c.from_residual-in_err-word-in-Bool.ensures c.in_err-word-in-Bool.ensures.reads (λ h e. rw (c.in-Bool.is, reads_is, e) refl)

pub returns-in_ok-word-in-Bool-clause-reads : goal.returns-in_ok-word-in-Bool-clause-reads
unfolding body is_sign is_word is_name
returns-in_ok-word-in-Bool-clause-reads g c = rw (c.in-Bool.is, reads_is, c.in_ok-word-in-Bool.ensures.reads, tree_of_booleans g.row.A.Denot) refl

pub returns-in_default : goal.returns-in_default
unfolding body is_sign is_word is_name
returns-in_default g c =
    record { reads = reads_is (Constant (keyword_of c.args.keyword)) (standing_of c.args.self.now) ∙ ap (λ p. run reads p (standing_of c.args.self.now)) (no_constant c.args.keyword c.in_default.not-True c.in_default.not-False c.in_default.not-Bool); shorter = tt }
