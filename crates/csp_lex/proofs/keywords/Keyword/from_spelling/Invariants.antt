use Rattle.std.proofs.Common.{◌≡◌, false, take}
use Rattle.std.specs.List.{list_any}
use Rattle.std.specs.Str.{chars, bytes_eq}
use Rattle.theory_text.specs.Token.{keyword_spelling}
use Rattle.csp_lex.specs.declared.keywords.TheConstants.Keyword.{ALL}
use Rattle.csp_lex.specs.Tokens.{keyword_of}
use Rattle.csp_lex.proofs.keywords.Keyword.from_spelling.Given as goal

abbrev pub invariant-loop-keyword : goal.invariant-loop-keyword
invariant-loop-keyword l = list_any (λ k. bytes_eq (keyword_spelling (keyword_of k)) (chars l.text)) (take l.keyword-index ALL) ≡ false
