use Rattle.std.proofs.Common.{◌∷◌, [], ◌≡◌, ◌+◌, ℕ, List, Some, rules, subst, sym, ap, ◌∙◌}
use Rattle.std.specs.Str.{chars}
use Rattle.theory_checking.specs.Names.{number_in}
use Rattle.csp_names.specs.Scopes.{Binds, bound_spellings}
use Rattle.csp_names.proofs.BoundRows.{binds_put, IsKnown, known_new, known_there, number_put}
use Rattle.csp_names.proofs.bound_names.BoundNames.bind.Goals as goal
use Rattle.csp_names.proofs.bound_names.BoundNames.bind.Goals.{in-Some, in-None+in_ok-known-in-None}

pub returns-clause-number : goal.returns-clause-number
returns-clause-number g c in_order =
    let P : List ℕ → Type 0 = λ t. number_in (bound_spellings c.put.new.self) (chars t) ≡ Some c.match-row.known.name.0 in
    let s = chars c.as_bytes-text.result.now in
    let known : IsKnown c.args.self.now s c.match-row.known = elim c.match-row.branch [
      | in-Some w ↦ subst (IsKnown c.args.self.now s) (sym w.known-is) (known_there c.args.self.now s w.in-Some.row in_order (sym (w.in-Some.ensures c.as_bytes-text.ensures.utf8 in_order.texts)))
      | in-None+in_ok-known-in-None w ↦ subst (IsKnown c.args.self.now s) (sym w.known-is) (known_new c.args.self.now s w.in_ok-known-in-None.known in_order (sym (w.in-None.ensures c.as_bytes-text.ensures.utf8 in_order.texts)) w.in_ok-known-in-None.ensures.number w.in_ok-known-in-None.ensures.times)
    ] in
    subst P c.as_bytes-text.ensures.value (number_put c.args.self.now c.put.new.self s _ in_order (c.in_ok-put.ensures.puts c.as_bytes-text.ensures.utf8 in_order.texts) known.0)

pub returns-clause-binds : goal.returns-clause-binds
returns-clause-binds g c in_order =
    let P : List ℕ → Type 0 = λ t. Binds c.args.self.now c.put.new.self (chars t ∷ []) (chars t ∷ []) in
    let s = chars c.as_bytes-text.result.now in
    let known : IsKnown c.args.self.now s c.match-row.known = elim c.match-row.branch [
      | in-Some w ↦ subst (IsKnown c.args.self.now s) (sym w.known-is) (known_there c.args.self.now s w.in-Some.row in_order (sym (w.in-Some.ensures c.as_bytes-text.ensures.utf8 in_order.texts)))
      | in-None+in_ok-known-in-None w ↦ subst (IsKnown c.args.self.now s) (sym w.known-is) (known_new c.args.self.now s w.in_ok-known-in-None.known in_order (sym (w.in-None.ensures c.as_bytes-text.ensures.utf8 in_order.texts)) w.in_ok-known-in-None.ensures.number w.in_ok-known-in-None.ensures.times)
    ] in
    let more : c.in_ok-times.times ≡ c.match-row.known.times + 1 = search rules in
    subst P c.as_bytes-text.ensures.value (binds_put c.args.self.now c.put.new.self s _ in_order (c.in_ok-put.ensures.puts c.as_bytes-text.ensures.utf8 in_order.texts) known.0 (more ∙ ap (λ k. k + 1) known.1))
