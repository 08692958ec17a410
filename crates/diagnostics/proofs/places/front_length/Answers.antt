use Rattle.std.proofs.Common.{ap, ◌∙◌, length, rules}
use Rattle.std.specs.Prelude.{not}
use Rattle.std.specs.Option.{unwrap_or}
use Rattle.std.proofs.lemmas.Iterator.{YieldsList-from_slice}
use Rattle.std.proofs.lemmas.Iterator.Search.{position_from_yields_List}
use borrow.Author.Tests.{tests}
use Rattle.csp_lex.specs.declared.kinds.Token.{Token}
use Rattle.diagnostics.specs.Places.{stands_before}
use Rattle.diagnostics.proofs.places.front_length.Goals as goal

pub returns-clause-value : goal.returns-clause-value
returns-clause-value c =
    let tokens = c.args.tokens.now in
    let test = λ (t : Token). not (stands_before t.place c.args.place) in
    c.unwrap_or.ensures ∙ ap (λ o. unwrap_or o (length tokens)) (position_from_yields_List test _ _ c.position.result c.position.ensures.ran (YieldsList-from_slice tokens cc) (λ x b q k. search (rules, tests)))
