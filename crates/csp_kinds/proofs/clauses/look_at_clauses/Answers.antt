-- No clause, one more, and all.
use Rattle.std.proofs.Common.{◌+◌, ◌∙◌, ap, refl, sym, subst}
use Rattle.std.specs.Prelude.{map}
use Rattle.csp_parse.specs.Declarations.{domain_of}
use Rattle.csp_kinds.specs.Fields.{IsNextClause}
use Rattle.csp_kinds.proofs.ClausesInTurn.{all_clauses, are_of, next_clause, no_clauses, one_clause}
use Rattle.csp_kinds.proofs.clauses.look_at_clauses.Goals as goal

pub look_at_clause-requires : goal.look_at_clause-requires
look_at_clause-requires g c =
    subst (λ ds. IsNextClause c.args.above.now c.loop-place.fit (c.len-first.result + c.loop-place.place) (map domain_of ds)) (sym c.deref.ensures.value)
    (next_clause c.args.above.now c.args.fit.now c.args.clauses.now c.requires c.loop-place.place c.index-clauses-place.result
    c.loop-place-test.true c.index-clauses-place.is c.loop-place.all c.loop-place.fit
    (c.loop-place.invariant c.requires) (c.len-first.result + c.loop-place.place) (ap (λ n. n + c.loop-place.place) (c.len-first.ensures ∙ c.args.above.now.table.now.types.constructors.ok.0)))

pub loop-place-init : goal.loop-place-init
loop-place-init g c = λ next. no_clauses c.args.above.now c.args.fit.now c.args.clauses.now next _ c.new.ensures.items refl

pub loop-place-preserved : goal.loop-place-preserved
loop-place-preserved g c = λ next.
    let k = next_clause c.args.above.now c.args.fit.now c.args.clauses.now next c.loop-place.place c.index-clauses-place.result
    c.loop-place-test.true c.index-clauses-place.is c.loop-place.all c.loop-place.fit
    (c.loop-place.invariant next) (c.len-first.result + c.loop-place.place) (ap (λ n. n + c.loop-place.place) (c.len-first.ensures ∙ c.args.above.now.table.now.types.constructors.ok.0)) in
    one_clause c.args.above.now c.args.fit.now c.args.clauses.now next c.loop-place.place c.index-clauses-place.result
    c.loop-place-test.true c.index-clauses-place.is c.loop-place.all c.loop-place.fit
    (c.loop-place.invariant next) c.in_ok-fields.fields c.look_at_clause.new.fit (record { sets = c.push.new.self; fault = c.first_of-all.result }) c.into_sets.result
    (are_of c.index-clauses-place.result c.deref.result.now c.deref.ensures.value c.args.above.now c.loop-place.fit (c.len-first.result + c.loop-place.place)
    c.in_ok-fields.fields c.look_at_clause.new.fit c.in_ok-fields.ensures k) c.into_sets.ensures
    c.in_ok-push.ensures.items c.first_of-all.ensures

pub returns : goal.returns
returns g c next =
    all_clauses c.args.above.now c.args.fit.now c.args.clauses.now next c.loop-place.place c.loop-place.all c.loop-place.fit
    c.loop-place-test.false (c.loop-place.invariant next)
