use Rattle.std.proofs.Common.{◌∙◌, ap, ap₂, List, map}
use Rattle.theory_text.specs.Reading.{IsRead, read}
use Rattle.theory_text.specs.Place.{Place}
use Rattle.theory_notation.specs.Names.{Names, names_in, with_types}
use Rattle.csp_lex.specs.Places.{place_of}
use Rattle.csp_lex.specs.Tokens.{placed_token}
use Rattle.csp_parse.specs.Declarations as raw
use Rattle.program.specs.Reading.{IsRefusalOf}
use Rattle.program.proofs.Refusing.{handed, of_tokens, of_tree}
use Rattle.named_scripts.specs.Naming.{Labels}
use Rattle.named_scripts.proofs.reader.read.Goals as goal

pub returns-clause-named : goal.returns-clause-named
returns-clause-named g c =
    let list = c.in_ok-list.list in
    let tree = raw.script_of c.in_ok-tree.tree in
    let is_read : IsRead c.args.text.now tree = read {tokens = map placed_token list.tokens.items} {end = place_of list.end} c.in_ok-list.ensures.tokens (c.in_ok-tree.ensures.tree, c.in_ok-tree.ensures.low) in
    let label : Names → List Place → Labels = λ ns ps. record { names = ns; places = ps } in
    let named = c.in-Ok.ensures ∙ ap (λ types. with_types types (names_in tree)) c.types.ensures in
    record { tree = tree; read = is_read; checked = c.in_ok-script.ensures.script; named = ap₂ label named c.in-Ok-assertion_places.ensures }

pub returns-in_err-script-clause-refused : goal.returns-in_err-script-clause-refused
returns-in_err-script-clause-refused g c =
    let list = c.in_ok-list.list in
    let tree = raw.script_of c.in_ok-tree.tree in
    let is_read : IsRead c.args.text.now tree = read {tokens = map placed_token list.tokens.items} {end = place_of list.end} c.in_ok-list.ensures.tokens (c.in_ok-tree.ensures.tree, c.in_ok-tree.ensures.low) in
    handed c.from_residual-in_err-script.result (IsRefusalOf c.args.text.now) c.from_residual-in_err-script.ensures (of_tree c.args.text.now tree c.in_err-script.field-0.0 is_read c.in_err-script.ensures.refusal)

pub returns-in_err-tree-clause-refused : goal.returns-in_err-tree-clause-refused
returns-in_err-tree-clause-refused g c =
    let list = c.in_ok-list.list in
    handed c.from_residual-in_err-tree.result (IsRefusalOf c.args.text.now) c.from_residual-in_err-tree.ensures
    (of_tokens c.args.text.now (map placed_token list.tokens.items) (place_of list.end) c.in_err-tree.field-0.0 c.in_ok-list.ensures.tokens c.in_err-tree.ensures.refusal)
