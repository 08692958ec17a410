-- What taus lead to, numbered; one more term that diverges or not.
use Rattle.std.proofs.Common.{◌≡◌, ◌≢◌, ℕ, List, Option, Some, None, length, Contains, refl, sym, ◌∙◌, ap, subst, arith}
use Rattle.std.specs.Option.{option_map}
use Rattle.std.proofs.lemmas.Option.{slice_get_within}
use Rattle.theory_semantics.specs.Meaning.Divergence.{Diverges}
use Rattle.theory_semantics.proofs.Rising.{Contains-from_stands}
use Rattle.theory_search.specs.TauRanks.{IsNumberedOut, number_at}
use Rattle.theory_runs.specs.Within.{IsClosureWithin}
use Rattle.theory_runs.proofs.Scanning.{none_zero, none_more, none_at_all}
use Rattle.csp_term.specs.Script.{script_of}
use Rattle.csp_term.specs.Term.{process_of}
use Rattle.tau_numbers.specs.Numbering.{IsNumbering, lists_of}
use Rattle.csp_replay.specs.Lassos.{FollowsTaus}
use Rattle.csp_replay.specs.Layer.{terms_of}
use Rattle.csp_replay.specs.Walks.{LeadInside}
use Rattle.csp_replay.specs.declared.layer.Layer.{Layer}
use Rattle.csp_replay.proofs.DivergingTerms.{diverges_left, ends_by_number, many_from}
use Rattle.csp_replay.proofs.TausOfTerms.{closure_closed, taus_inside, taus_lead}
use Rattle.csp_replay.proofs.ending.diverging.Goals as goal

pub tau_closure-requires-clause-closed : goal.tau_closure-requires-clause-closed
tau_closure-requires-clause-closed g c = λ u there. c.requires u ((c.in_ok-seeds.ensures.same u).0 there)

pub returns-in_default : goal.returns-in_default
returns-in_default g c =
    let script = script_of c.args.script.now in
    let seeds = terms_of c.in_ok-seeds.seeds in
    let C : Option (Layer g.row.A.Denot) → Type 0 = λ found. IsClosureWithin script seeds c.args.reach (option_map terms_of found) in
    let many : IsClosureWithin script seeds c.args.reach None = subst C c.in_default.is c.in_ok-found.ensures in
    (refl, many_from script c.args.reach (Contains seeds) (Contains (terms_of c.args.layer.now)) (λ u there. (c.in_ok-seeds.ensures.same u).0 there) many)

pub taus_of-requires-clause-closed : goal.taus_of-requires-clause-closed
taus_of-requires-clause-closed g c =
    let script = script_of c.args.script.now in
    let seeds = terms_of c.in_ok-seeds.seeds in
    let closed = terms_of c.in-Some.closed in
    let C : Option (Layer g.row.A.Denot) → Type 0 = λ found. IsClosureWithin script seeds c.args.reach (option_map terms_of found) in
    let closure : IsClosureWithin script seeds c.args.reach (Some closed) = subst C c.in-Some.is c.in_ok-found.ensures in
    closure_closed script seeds closed closure.0 (λ u there. c.requires u ((c.in_ok-seeds.ensures.same u).0 there))

pub taus_of-requires-clause-stay : goal.taus_of-requires-clause-stay
taus_of-requires-clause-stay g c =
    let script = script_of c.args.script.now in
    let seeds = terms_of c.in_ok-seeds.seeds in
    let closed = terms_of c.in-Some.closed in
    let C : Option (Layer g.row.A.Denot) → Type 0 = λ found. IsClosureWithin script seeds c.args.reach (option_map terms_of found) in
    let closure : IsClosureWithin script seeds c.args.reach (Some closed) = subst C c.in-Some.is c.in_ok-found.ensures in
    closure.0.closed

pub numbers_of-requires : goal.numbers_of-requires
numbers_of-requires g c = λ i low j there.
    let script = script_of c.args.script.now in
    let closed = terms_of c.in-Some.closed in
    let long = c.len.ensures in
    let L : List (List ℕ) → Type 0 = LeadInside (length closed) in
    let inside : LeadInside (length closed) (lists_of c.deref.result.now) = subst L (sym (ap lists_of c.deref.ensures.value)) (taus_inside script closed (lists_of c.in_ok-taus.taus.items) c.in_ok-taus.ensures) in
    let less = inside.1 i j (omega (arith, low, long)) there in
    omega (arith, less, long)

pub loop-place-init : goal.loop-place-init
loop-place-init g c = none_zero (Diverges (script_of c.args.script.now)) (terms_of c.args.layer.now)

pub term-requires : goal.term-requires
term-requires g c = let low = c.loop-place-test.true in let long = c.len-place-end.ensures in omega (arith, low, long)

pub unreachable-requires : goal.unreachable-requires
unreachable-requires g c =
    let script = script_of c.args.script.now in
    let seeds = terms_of c.in_ok-seeds.seeds in
    let layer = terms_of c.args.layer.now in
    let t = process_of c.term.result.now in
    let C : Option (Layer g.row.A.Denot) → Type 0 = λ found. IsClosureWithin script seeds c.args.reach (option_map terms_of found) in
    let closure : IsClosureWithin script seeds c.args.reach (Some (terms_of c.in-Some.closed)) = subst C c.in-Some.is c.in_ok-found.ensures in
    c.in_default-found.ensures.none refl (closure.0.all t ((c.in_ok-seeds.ensures.same t).1 (Contains-from_stands layer t (c.loop-place.place, c.term.ensures))))

pub lasso_from-requires-clause-lead : goal.lasso_from-requires-clause-lead
lasso_from-requires-clause-lead g c =
    let closed = terms_of c.in-Some.closed in
    let L : List (List ℕ) → Type 0 = LeadInside (length closed) in
    subst L (sym (ap lists_of c.deref-then-number_at-eq0.ensures.value)) (taus_inside (script_of c.args.script.now) closed (lists_of c.in_ok-taus.taus.items) c.in_ok-taus.ensures)

pub lasso_from-requires-clause-out : goal.lasso_from-requires-clause-out
lasso_from-requires-clause-out g c =
    let T : List (List ℕ) → Type 0 = λ ts. IsNumberedOut ts c.in_ok-numbers.numbers.items in
    let N : List ℕ → Type 0 = IsNumberedOut (lists_of c.deref-then-number_at-eq0.result.now) in
    let D : List (List ℕ) → Type 0 = λ ts. IsNumbering ts c.in_ok-numbers.numbers.items in
    let numbering : IsNumbering (lists_of c.in_ok-taus.taus.items) c.in_ok-numbers.numbers.items = subst D (ap lists_of c.deref.ensures.value) c.in_ok-numbers.ensures.numbering in
    subst N (sym c.deref-then-number_at-eq0-2.ensures.value) (subst T (sym (ap lists_of c.deref-then-number_at-eq0.ensures.value)) numbering.2)

pub lasso_from-requires-clause-inside : goal.lasso_from-requires-clause-inside
lasso_from-requires-clause-inside g c = slice_get_within (terms_of c.in-Some.closed) c.in-Some-found.start (process_of c.term.result.now) c.in-Some-found.ensures.some

pub returns-then-number_at-eq0 : goal.returns-then-number_at-eq0
returns-then-number_at-eq0 g c =
    let script = script_of c.args.script.now in
    let closed = terms_of c.in-Some.closed in
    let t = process_of c.term.result.now in
    let start = c.in-Some-found.start in
    let taus = lists_of c.in_ok-taus.taus.items in
    let numbers = c.in_ok-numbers.numbers.items in
    let at = c.in-Some-found.ensures.some in
    let long = c.in_ok-numbers.ensures.long ∙ c.len.ensures in
    let D : List (List ℕ) → Type 0 = λ ts. IsNumbering ts numbers in
    let numbering : IsNumbering taus numbers = subst D (ap lists_of c.deref.ensures.value) c.in_ok-numbers.ensures.numbering in
    let none : number_at numbers start ≡ 0 = ap (λ ns. number_at ns start) (sym c.deref-in-loop-place.ensures.value) ∙ sym c.number_at.ensures ∙ c.if-number_at-eq0.true in
    let F : List (List ℕ) → Type 0 = λ ts. FollowsTaus closed ts start c.in_ok-lasso.lasso in
    let follows : FollowsTaus closed taus start c.in_ok-lasso.lasso = subst F (ap lists_of c.deref-then-number_at-eq0.ensures.value) c.in_ok-lasso.ensures in
    (t, c.term.ensures, diverges_left script closed taus numbers c.in_ok-taus.ensures long numbering start t at none, follows script t (taus_lead script closed taus c.in_ok-taus.ensures) at)

pub loop-place-preserved : goal.loop-place-preserved
loop-place-preserved g c =
    let script = script_of c.args.script.now in
    let closed = terms_of c.in-Some.closed in
    let t = process_of c.term.result.now in
    let start = c.in-Some-found.start in
    let taus = lists_of c.in_ok-taus.taus.items in
    let numbers = c.in_ok-numbers.numbers.items in
    let long = c.in_ok-numbers.ensures.long ∙ c.len.ensures in
    let D : List (List ℕ) → Type 0 = λ ts. IsNumbering ts numbers in
    let numbering : IsNumbering taus numbers = subst D (ap lists_of c.deref.ensures.value) c.in_ok-numbers.ensures.numbering in
    let some : number_at numbers start ≢ 0 = λ none. c.if-number_at-eq0.false (c.number_at.ensures ∙ ap (λ ns. number_at ns start) c.deref-in-loop-place.ensures.value ∙ none) in
    none_more (Diverges script) (terms_of c.args.layer.now) c.loop-place.place t c.term.ensures (ends_by_number script closed taus numbers c.in_ok-taus.ensures long numbering start t c.in-Some-found.ensures.some some) c.loop-place.invariant

pub returns : goal.returns
returns g c =
    let long = c.len-place-end.ensures in
    let past = c.loop-place-test.false in
    none_at_all (Diverges (script_of c.args.script.now)) (terms_of c.args.layer.now) c.loop-place.place (omega (arith, long, past)) c.loop-place.invariant
