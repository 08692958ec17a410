-- The actions of all steps, each kept once.
use Rattle.std.proofs.Common.{◌≡◌, of_calls, rules}
use Rattle.std.proofs.lemmas.Fn.{dedup_same}
use Rattle.std.specs.List.{dedup}
use Rattle.std.specs.Ordering.{is_eq}
use Rattle.csp_rows.specs.Numbers.{number_cmp}
use Rattle.csp_rows.proofs.Acting.{actions_once}
use Rattle.csp_rows.proofs.actions.actions_of.Goals as goal

pub dedup_by-requires : goal.dedup_by-requires
dedup_by-requires g c = search of_calls parts 8

pub returns : goal.returns
returns g c =
    let all = c.in_ok-actions.actions.items in
    let once = c.dedup_by.new.self.items in
    let is : once ≡ dedup (λ x y. is_eq (number_cmp x y)) all =
    dedup_same _ (λ x y. is_eq (number_cmp x y)) _ (λ x k b f' x' k' h. search rules) all once c.dedup_by.ensures.filtered
    in
    actions_once c.args.steps.now all once c.in_ok-actions.ensures is
