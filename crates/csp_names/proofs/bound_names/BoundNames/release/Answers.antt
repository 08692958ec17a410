use Rattle.std.proofs.Common.{◌∷◌, [], ℕ, List, refl, subst, sym}
use Rattle.std.specs.Str.{chars}
use Rattle.csp_names.specs.Scopes.{Releases}
use Rattle.csp_names.proofs.BoundRows.{releases_put}
use Rattle.csp_names.proofs.Walking.{on_ok}
use Rattle.csp_names.proofs.bound_names.BoundNames.release.Goals as goal

pub returns-in-Some-clause-releases : goal.returns-in-Some-clause-releases
returns-in-Some-clause-releases g c =
    let P : List ℕ → Type 0 = λ t. Releases c.args.self.now c.put.new.self (chars t ∷ []) in
    on_ok c.put.result (λ put in_order. subst P c.as_bytes-text.ensures.value
    (releases_put c.args.self.now c.put.new.self (chars c.as_bytes-text.result.now) _ c.in-Some.row in_order (sym (c.in-Some.ensures c.as_bytes-text.ensures.utf8 in_order.texts)) (put c.as_bytes-text.ensures.utf8 in_order.texts) refl c.saturating_sub-times.ensures))
    c.put.ensures.puts
