use Rattle.std.proofs.Common.{◌++◌, sym, ap, ◌∙◌}
use Rattle.theory_text.specs.Token.{is_keyword}
use Rattle.csp_lex.specs.Tokens.{keyword_of}
use Rattle.csp_lex.proofs.Steps.{passes_then}
use Rattle.csp_lex.proofs.Wording.{name_piece, keyword_piece}
use Rattle.csp_lex.proofs.words.read_word.Goals as goal

pub text_to-requires : goal.text_to-requires
text_to-requires c = (c.behind_run.ensures.run ++ c.behind_run-end.ensures.run, passes_then c.behind_run.ensures.passes c.behind_run-end.ensures.passes)

pub returns-in-Some : goal.returns-in-Some
returns-in-Some c =
    let passed = passes_then c.behind_run.ensures.passes c.behind_run-end.ensures.passes in
    let front = c.behind_run.ensures.run ++ c.behind_run-end.ensures.run in
    record {
      front = front;
      passes = passed;
      piece = keyword_piece c.requires c.behind_run.ensures c.behind_run-end.ensures (keyword_of c.in-Some.keyword) (sym (c.text_to.ensures.characters front passed) ∙ c.in-Some.ensures.found);
    }

pub returns-in-None : goal.returns-in-None
returns-in-None c =
    let passed = passes_then c.behind_run.ensures.passes c.behind_run-end.ensures.passes in
    let front = c.behind_run.ensures.run ++ c.behind_run-end.ensures.run in
    record {
      front = front;
      passes = passed;
      piece = name_piece c.requires c.behind_run.ensures c.behind_run-end.ensures (ap is_keyword (sym (c.text_to.ensures.characters front passed)) ∙ c.in-None.ensures.none);
    }
