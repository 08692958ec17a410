-- The greatest status, an outcome at a time.
use Rattle.std.proofs.Common.{◌≡◌, ℕ, suc, ◌+◌, List, ◌∷◌, map, max, drop, ap, ◌∙◌, sym, add-one, drop-cons, arith, ◌<◌, cond, refl}
use Rattle.std.specs.declared.cmp.Ordering.{Ordering}
use Rattle.std.specs.declared.cmp.Ordering.TheVariants.{Less, Equal, Greater}
use Rattle.std.specs.Ordering.{MatchOrdering, is_lt, nat_cmp, ord_max}
use Rattle.std.proofs.lemmas.Cmp.{ranked}
use Rattle.std.proofs.lemmas.List.{drop_all}
use Rattle.theory_search.specs.Outcome as pure
use Rattle.verdict.specs.declared.outcome.Outcome.{Outcome}
use Rattle.verdict.specs.Outcome.{outcome_of}
use Rattle.program.specs.Running.{outcome_status, status_of}
use Rattle.program.proofs.running.status.Goals as goal

-- what `max` answers of two numbers
chosen : (a b : ℕ) (o : Ordering) → MatchOrdering o (b < a) (b ≡ a) (a < b) → cond (is_lt o) a b ≡ max a b
chosen a b Less told = omega (arith, told)
chosen a b Equal told = omega (arith, told)
chosen a b Greater told = omega (arith, told)

max_is : (a b : ℕ) → ord_max nat_cmp a b ≡ max a b
max_is a b = chosen a b (nat_cmp b a) (ranked b a (nat_cmp b a) refl)

-- the status of the first outcome that is left goes into the greatest one
next_status : (status more here : ℕ) (o : pure.Outcome) (left others : List pure.Outcome) (all : ℕ) →
    max status (status_of left) ≡ all → left ≡ o ∷ others → here ≡ outcome_status o → more ≡ max status here → max more (status_of others) ≡ all
next_status status more here o left others all kept is told grown =
    let whole : status_of left ≡ max (outcome_status o) (status_of others) = ap status_of is in
    omega (arith, kept, whole, told, grown)

pub loop-outcome-preserved : goal.loop-outcome-preserved
loop-outcome-preserved g c =
    let outcomes = c.args.outcomes.now in
    let i = c.loop-outcome.outcome-index in
    let first : drop i outcomes ≡ c.outcome-item.result ∷ drop (i + 1) outcomes =
    rw add-one (drop-cons outcomes i c.outcome-item.result c.loop-outcome-test.true ∙ ap (λ o. o ∷ drop (suc i) outcomes) (sym c.outcome-item.is)) in
    next_status c.loop-outcome.status c.max-status.result c.status_of_one.result (outcome_of c.outcome-item.result) (map outcome_of (drop i outcomes)) (map outcome_of (drop (i + 1) outcomes)) (status_of (map outcome_of outcomes))
    c.loop-outcome.invariant (ap (map outcome_of) first) c.status_of_one.ensures (c.max-status.ensures ∙ max_is c.loop-outcome.status c.status_of_one.result)

pub returns : goal.returns
returns g c =
    let none = ap (λ (os : List (Outcome g.row.A.Denot)). status_of (map outcome_of os)) (drop_all c.loop-outcome.outcome-index c.args.outcomes.now c.loop-outcome-test.false) in
    let whole = c.loop-outcome.invariant in
    omega (arith, none, whole)
