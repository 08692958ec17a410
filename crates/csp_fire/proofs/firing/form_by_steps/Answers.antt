-- The steps sorted and kept once, and the acceptances by them.
use Rattle.std.proofs.Common.{List, Contains, ◌↔◌, map, sym, ◌∙◌, ap, subst, inl, inr, lit<}
use Rattle.std.proofs.lemmas.List.Filters.{dedup_is}
use Rattle.theory_semantics.specs.Meaning.Expansions.{Fired, step_cmp}
use Rattle.theory_semantics.specs.Meaning.Offers.{RisesBy}
use Rattle.csp_fire.specs.declared.form.Step.{Step}
use Rattle.csp_fire.specs.Form.{step_of}
use Rattle.csp_fire.specs.Offering.{offers_of}
use Rattle.csp_fire.proofs.Keeping.{step_eq, steps_rise, steps_stay}
use Rattle.csp_fire.proofs.firing.form_by_steps.Goals as goal

pub offers-requires : goal.offers-requires
offers-requires g c = elim g.met.A.AllocHandle.small [ inl e ↦ rw (e.0, e.1) (lit< tt, lit< tt) | inr e ↦ rw (e.0, e.1) (lit< tt, lit< tt) ]

pub returns : goal.returns
returns g c =
    let eq = step_eq g.row.A g.A.AllocHandle g.A.AllocHandle-dict g.A.Allocator g.A.Allocator-dict g.A.Clone g.A.Clone-dict in
    let given = c.args.steps.items in
    let ordered = c.sort_unstable.new.self.items in
    let once = sym (dedup_is eq ordered c.dedup.new.self.items c.dedup.ensures.filtered) in
    let rises = steps_rise g.row.A g.A.AllocHandle g.A.AllocHandle-dict g.A.Allocator g.A.Allocator-dict g.A.Clone g.A.Clone-dict given ordered c.sort_unstable.ensures.permutation (record { small = g.met.A.AllocHandle.small }) c.sort_unstable.ensures.sorted in
    let stay = steps_stay g.row.A g.A.AllocHandle g.A.AllocHandle-dict g.A.Allocator g.A.Allocator-dict g.A.Clone g.A.Clone-dict given ordered c.sort_unstable.ensures.permutation in
    let P : List (Step g.row.A.Denot) → Type 0 = λ ss. RisesBy step_cmp (map step_of ss) in
    record {
      sorted = map step_of c.dedup.new.self.items;
      is = ap (Fired (map step_of c.dedup.new.self.items)) (c.in_ok-offers.ensures ∙ ap (λ ss. offers_of (map step_of ss)) c.deref.ensures.value);
      rise = subst P once rises;
      each = λ s. let Q : List (Step g.row.A.Denot) → Type 0 = λ ss. Contains (map step_of given) s ↔ Contains (map step_of ss) s in subst Q once (stay s);
    }
