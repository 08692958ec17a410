-- The part between line feeds that `nth` reaches.
use Rattle.std.proofs.Common.{◌≡◌, nat_eq, ℕ, List, [], refl, ap, ◌∙◌, get_or, lit<, Bor}
use Rattle.std.specs.Prelude.{Option, None, Some}
use Rattle.std.specs.List.{slice_split}
use Rattle.std.specs.Option.{option_map, unwrap_or}
use Rattle.std.proofs.lemmas.Iterator.Consumers.{nth_from_yields_List}
use Rattle.std.proofs.lemmas.Iterator.Splits.{YieldsList-from_str_split}
use Rattle.std.proofs.lemmas.Option.{unwrap_or-slice_get}
use Rattle.diagnostics.proofs.texts.line_at.Goals as goal

-- what a reference reads, or the default
read_or : (found : Option (Bor (List ℕ))) (default : Bor (List ℕ)) → (unwrap_or found default).now ≡ unwrap_or (option_map (λ x. x.now) found) default.now
read_or None default = refl
read_or (Some x) default = refl

pub returns : goal.returns
returns c =
    let text = c.args.text.now in
    let parts = slice_split (λ b. nat_eq b 10) text in
    let index = c.saturating_sub-index.result in
    let split = YieldsList-from_str_split 10 text (lit< tt) c.split.ensures.text c.split.ensures.has_more c.split.ensures.pattern in
    ap (λ (x : Bor (List ℕ)). x.now) c.unwrap_or.ensures ∙ read_or c.nth.result _ ∙ ap (λ o. unwrap_or o []) (nth_from_yields_List c.nth.result _ index c.nth.ensures.ran split)
    ∙ unwrap_or-slice_get parts index [] ∙ ap (λ i. get_or parts i []) c.saturating_sub-index.ensures
