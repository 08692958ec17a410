use Rattle.std.proofs.Common.{sym, ◌∙◌, arith}
use Rattle.std.proofs.lemmas.Slice.Eq.{bytes_eq-Decides}
use Rattle.std.specs.Str.{chars, bytes_eq}
use Rattle.theory_text.specs.Token.{keyword_spelling}
use Rattle.csp_lex.specs.declared.keywords.TheConstants.Keyword.{ALL}
use Rattle.csp_lex.specs.declared.keywords.Keyword.TheVariants.{Datatype}
use Rattle.csp_lex.specs.Tokens.{keyword_of}
use Rattle.csp_lex.proofs.Spellings.{keyword_written, keyword_not_written, none_more}
use Rattle.csp_lex.proofs.keywords.Keyword.from_spelling.Goals as goal

pub returns-then-eq-clause-found : goal.returns-then-eq-clause-found
returns-then-eq-clause-found c =
    let same = (bytes_eq-Decides c.spelling.result.now c.args.text.now).0 (sym c.if-eq.ensures) in
    keyword_written _ c.args.text.now (sym c.spelling.ensures ∙ same)

pub loop-keyword-preserved : goal.loop-keyword-preserved
loop-keyword-preserved c =
    none_more (λ k. bytes_eq (keyword_spelling (keyword_of k)) (chars c.args.text.now)) ALL c.loop-keyword.keyword-index Datatype (omega arith) c.loop-keyword.invariant
    (keyword_not_written _ c.args.text.now c.utf8.text (λ e.
    let differs = (bytes_eq-Decides c.spelling.result.now c.args.text.now).1 (c.spelling.ensures ∙ e) in absurd (cc (differs, c.if-eq.ensures))))
