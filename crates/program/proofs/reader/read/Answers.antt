use Rattle.std.proofs.Common.{map}
use Rattle.theory_text.specs.Reading.{IsRead, read}
use Rattle.csp_lex.specs.Places.{place_of}
use Rattle.csp_lex.specs.Tokens.{placed_token}
use Rattle.csp_parse.specs.Declarations as raw
use Rattle.program.specs.Reading.{IsRefusalOf}
use Rattle.program.proofs.Refusing.{handed, of_tokens, of_tree}
use Rattle.program.proofs.reader.read.Goals as goal

pub returns-clause-script : goal.returns-clause-script
returns-clause-script g c =
    let list = c.in_ok-list.list in
    let tree = raw.script_of c.in_ok-tree.tree in
    let is_read : IsRead c.args.text.now tree = read {tokens = map placed_token list.tokens.items} {end = place_of list.end} c.in_ok-list.ensures.tokens (c.in_ok-tree.ensures.tree, c.in_ok-tree.ensures.low) in
    (tree, is_read, c.in_ok-check.ensures.script)

pub returns-in_err-check-clause-refused : goal.returns-in_err-check-clause-refused
returns-in_err-check-clause-refused g c =
    let list = c.in_ok-list.list in
    let tree = raw.script_of c.in_ok-tree.tree in
    let is_read : IsRead c.args.text.now tree = read {tokens = map placed_token list.tokens.items} {end = place_of list.end} c.in_ok-list.ensures.tokens (c.in_ok-tree.ensures.tree, c.in_ok-tree.ensures.low) in
    handed c.from_residual-in_err-check.result (IsRefusalOf c.args.text.now) c.from_residual-in_err-check.ensures (of_tree c.args.text.now tree c.in_err-check.field-0.0 is_read c.in_err-check.ensures.refusal)

pub returns-in_err-tree-clause-refused : goal.returns-in_err-tree-clause-refused
returns-in_err-tree-clause-refused g c =
    let list = c.in_ok-list.list in
    handed c.from_residual-in_err-tree.result (IsRefusalOf c.args.text.now) c.from_residual-in_err-tree.ensures
    (of_tokens c.args.text.now (map placed_token list.tokens.items) (place_of list.end) c.in_err-tree.field-0.0 c.in_ok-list.ensures.tokens c.in_err-tree.ensures.refusal)
