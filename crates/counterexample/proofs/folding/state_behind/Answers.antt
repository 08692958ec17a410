-- The last of as many states, or the first one.
use Rattle.std.proofs.Common.{◌≡◌, ◌-◌, ℕ, List, length, map, take, slice_get, option_map, Option, Some, None, refl, sym, ◌∙◌, ap, subst}
use Rattle.std.proofs.lemmas.List.{length-map, take-map}
use Rattle.std.proofs.lemmas.Option.{slice_get-map}
use Rattle.theory_syntax.specs.Process.{Process}
use Rattle.csp_term.specs.Term.{process_of}
use Rattle.csp_term.specs.declared.term.Term.{Term}
use Rattle.theory_explanation.proofs.Folding.{last_behind, none_behind}
use Rattle.counterexample.proofs.folding.state_behind.Goals as goal

-- the last of the processes that so many terms stand for
last_taken : {A : Type 0} (n : ℕ) (few states : List (Term A)) (found : Option (Term A)) → few ≡ take n states → found ≡ slice_get few (length few - 1) →
    slice_get (take n (map process_of states)) (length (take n (map process_of states)) - 1) ≡ option_map process_of found
last_taken n few states found is read =
    let all : map process_of few ≡ take n (map process_of states) = ap (map process_of) is ∙ sym (take-map process_of n states) in
    subst (λ ts. slice_get ts (length ts - 1) ≡ option_map process_of found) all
    (ap (λ k. slice_get (map process_of few) (k - 1)) (length-map few process_of) ∙ slice_get-map process_of few (length few - 1) ∙ ap (option_map process_of) (sym read))

pub returns-in-Some : goal.returns-in-Some
returns-in-Some g c =
    sym (last_behind c.args.count (process_of c.args.state.now) (map process_of c.args.states.now) (process_of c.in-Some.last.now)
    (last_taken c.args.count c.first_few-few.result.now c.args.states.now (Some c.in-Some.last.now) c.first_few-few.ensures c.in-Some.ensures.value))

pub returns-in-None : goal.returns-in-None
returns-in-None g c =
    sym (none_behind c.args.count (process_of c.args.state.now) (map process_of c.args.states.now)
    (last_taken c.args.count c.first_few-few.result.now c.args.states.now None c.first_few-few.ensures c.in-None.ensures.value))
