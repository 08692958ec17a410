-- What is to blame in a term by its own parts, and by the processes that a rule looks at.
use Rattle.std.proofs.Common.{◌≡◌, ◌+◌, drop, map, sym, ◌∙◌, ap, arith}
use Rattle.theory_faults.proofs.Processes.{culprit_of_parts}
use Rattle.theory_faults.specs.Culprit.{first_found}
use Rattle.theory_faults.specs.Processes.{culprit_in, looked_at, own_culprit}
use Rattle.csp_term.specs.declared.term.Term.{Term}
use Rattle.csp_term.specs.Script.{script_of_parts}
use Rattle.csp_term.specs.Term.{process_of}
use Rattle.csp_faults.proofs.Found.{found_none, goes_behind, looked, stays}
use Rattle.csp_faults.proofs.TermParts.{in_parts, part_lower}
use Rattle.csp_faults.proofs.terms.+terms.Goals as goal

pub returns-then-is_some : goal.returns-then-is_some
returns-then-is_some g t c =
    let s = script_of_parts c.args.script.now in
    let p = process_of c.args.term.now in
    stays c.in_ok-own.own c.is_some.result c.is_some.ensures c.if-is_some.true (own_culprit s p) (first_found (culprit_in s) (looked_at s p)) (culprit_in s p) c.in_ok-own.ensures (sym (culprit_of_parts s p))

pub culprit_in-requires : goal.culprit_in-requires
culprit_in-requires g t c κs within =
    let s = script_of_parts c.args.script.now in
    let xs = c.deref-part-items.result.now in
    let are : map process_of xs ≡ looked_at s (process_of c.args.term.now) = ap (map process_of) c.deref-part-items.ensures.value ∙ c.in_ok-parts.ensures in
    let lower = part_lower s c.args.term.now xs are c.loop-part.part-index c.part-item.result c.loop-part-test.true c.part-item.is in
    (omega (arith, c.decreases, lower), within)

pub returns-then-is_some-2 : goal.returns-then-is_some-2
returns-then-is_some-2 g t c =
    let s = script_of_parts c.args.script.now in
    let xs = c.deref-part-items.result.now in
    let are : map process_of xs ≡ looked_at s (process_of c.args.term.now) = ap (map process_of) c.deref-part-items.ensures.value ∙ c.in_ok-parts.ensures in
    let look = λ (u : Term g.row.A.Denot). culprit_in s (process_of u) in
    let i = c.loop-part.part-index in
    let u = c.part-item.result in
    stays c.in_ok-found.found c.is_some-in-loop-part.result c.is_some-in-loop-part.ensures c.if-is_some-2.true (look u) (first_found look (drop (i + 1) xs)) (first_found look xs) c.in_ok-found.ensures
    (looked look xs i u c.loop-part-test.true c.part-item.is c.loop-part.invariant)
    ∙ in_parts s c.args.term.now xs are c.in_ok-own.own c.is_some.result c.is_some.ensures c.if-is_some.false c.in_ok-own.ensures

pub loop-part-preserved : goal.loop-part-preserved
loop-part-preserved g t c =
    let s = script_of_parts c.args.script.now in
    let xs = c.deref-part-items.result.now in
    let look = λ (u : Term g.row.A.Denot). culprit_in s (process_of u) in
    let i = c.loop-part.part-index in
    let u = c.part-item.result in
    goes_behind c.in_ok-found.found c.is_some-in-loop-part.result c.is_some-in-loop-part.ensures c.if-is_some-2.false (look u) (first_found look (drop (i + 1) xs)) (first_found look xs) c.in_ok-found.ensures
    (looked look xs i u c.loop-part-test.true c.part-item.is c.loop-part.invariant)

pub returns : goal.returns
returns g t c =
    let s = script_of_parts c.args.script.now in
    let xs = c.deref-part-items.result.now in
    let are : map process_of xs ≡ looked_at s (process_of c.args.term.now) = ap (map process_of) c.deref-part-items.ensures.value ∙ c.in_ok-parts.ensures in
    let look = λ (u : Term g.row.A.Denot). culprit_in s (process_of u) in
    found_none look xs c.loop-part.part-index c.loop-part-test.false c.loop-part.invariant
    ∙ in_parts s c.args.term.now xs are c.in_ok-own.own c.is_some.result c.is_some.ensures c.if-is_some.false c.in_ok-own.ensures
