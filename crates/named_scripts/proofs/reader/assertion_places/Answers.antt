-- The place of each declaration that is an assertion is put behind the others.
use Rattle.std.proofs.Common.{◌≡◌, ◌+◌, [], ◌∷◌, ◌++◌, List, suc, add-one, map, drop, drop-cons, append-nil, append_assoc, sym, ap, ◌∙◌}
use Rattle.std.proofs.lemmas.List.{drop_all}
use Rattle.theory_text.specs.Place as pure
use Rattle.csp_lex.specs.Places.{place_of}
use Rattle.csp_lex.specs.declared.places.Place.{Place}
use Rattle.csp_parse.specs.Declarations.{declaration_of}
use Rattle.csp_parse.specs.declared.declarations.Declaration.{Declaration}
use Rattle.named_scripts.specs.Naming.{assertion_places}
use Rattle.named_scripts.proofs.Placing.{first_places}
use Rattle.named_scripts.proofs.reader.assertion_places.Goals as goal

pub loop-declaration-init : goal.loop-declaration-init
loop-declaration-init g c = ap (λ (ps : List Place). map place_of ps ++ assertion_places (map declaration_of c.deref-declaration-items.result.now)) c.new-places.ensures.items

pub loop-declaration-preserved : goal.loop-declaration-preserved
loop-declaration-preserved g c =
    let items = c.deref-declaration-items.result.now in
    let i = c.loop-declaration.declaration-index in
    let d = c.declaration-item.result in
    let here = λ (ds : List (Declaration g.row.A.Denot)). assertion_places (map declaration_of ds) in
    let first : drop i items ≡ d ∷ drop (i + 1) items = rw add-one (drop-cons items i d c.loop-declaration-test.true ∙ ap (λ x. x ∷ drop (suc i) items) (sym c.declaration-item.is)) in
    let rest = here (drop (i + 1) items) in
    let one = here (d ∷ []) in
    let before = map place_of c.loop-declaration.places.items in
    let split = ap here first ∙ first_places (declaration_of d) (map declaration_of (drop (i + 1) items)) in
    ap (λ (ps : List pure.Place). ps ++ rest) c.in_ok-push_place.ensures ∙ append_assoc before one rest ∙ ap (λ (ps : List pure.Place). before ++ ps) (sym split) ∙ c.loop-declaration.invariant

pub returns : goal.returns
returns g c =
    let items = c.deref-declaration-items.result.now in
    let now = map place_of c.loop-declaration.places.items in
    let here = λ (ds : List (Declaration g.row.A.Denot)). assertion_places (map declaration_of ds) in
    let left = here (drop c.loop-declaration.declaration-index items) in
    let none = ap here (drop_all c.loop-declaration.declaration-index items c.loop-declaration-test.false) in
    sym (append-nil now) ∙ ap (λ (ps : List pure.Place). now ++ ps) (sym none) ∙ c.loop-declaration.invariant ∙ ap here c.deref-declaration-items.ensures.value
