-- The last state stands at the place that is found, among those before it.
use Rattle.std.proofs.Common.{◌≡◌, ℕ, [], ◌∷◌, List, Option, Some, IfSome, map, slice_get, ◌∙◌, ap, subst, inl, inr, lit<}
use Rattle.std.proofs.lemmas.List.{map-append}
use Rattle.csp_term.specs.Term.{process_of}
use Rattle.csp_term.specs.declared.term.Term.{Term}
use Rattle.spread_runs.proofs.loops.round_of.Goals as goal

pub drop-requires-room-T-Destruct : goal.drop-requires-room-T-Destruct
drop-requires-room-T-Destruct g c κs within = elim g.met.A.AllocHandle.small [ inl e ↦ rw (e.0, e.1) (lit< tt) | inr e ↦ rw (e.0, e.1) (lit< tt) ]

pub returns : goal.returns
returns g c =
    let left = c.pop-last.new.self.items in
    let again = c.in-Some.again in
    let T : List (Term g.row.A.Denot) → Type 0 = λ ts. IfSome c.place_of-found.result (λ k. slice_get (map process_of ts) k ≡ Some (process_of again)) in
    let S : Option ℕ → Type 0 = λ o. IfSome o (λ k. slice_get (map process_of left) k ≡ Some (process_of again)) in
    let stands = subst S c.in-Some-found.is (subst T c.deref.ensures.value c.place_of-found.ensures) in
    (process_of again, stands, ap (map process_of) c.in-Some.ensures.items ∙ map-append process_of left (again ∷ []))
