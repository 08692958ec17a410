-- A run of the implementation by the path that stopped its search, or what is found of the specification.
use Rattle.std.proofs.Common.{◌≡◌, ◌∙◌, ℕ, List, Option, Some, None, Result, Ok, Err, map, option_map, refl, sym, subst, ap}
use Rattle.std.specs.Prelude.{IfOk, IfSome, IsNone, IsSome}
use Rattle.std.specs.Borrow.{Bor}
use Rattle.std.specs.declared.vec.Vec.{Vec}
use Rattle.theory_syntax.specs.Value as value
use Rattle.theory_syntax.specs.Process.{Assertion, Process, Script, specification_of}
use Rattle.theory_search.specs.Answer.{HasNoForm}
use Rattle.theory_search.specs.Counting.{AreMoreThan}
use Rattle.theory_runs.specs.Runs.{HasNoneWithin, IsReached, IsStuckRun}
use Rattle.theory_runs.specs.Stops.{StopsSearch, why_of}
use Rattle.theory_runs.specs.Stuck.{Hindrance}
use Rattle.theory_runs.proofs.Stops.{no_form_has_many}
use Rattle.csp_value.specs.Action.{action_of}
use Rattle.csp_value.proofs.Copying.{copies_same}
use Rattle.csp_value.specs.declared.action.Action.{Action}
use Rattle.csp_term.specs.Script.{assertion_of, script_of}
use Rattle.csp_term.specs.Term.{process_of}
use Rattle.csp_term.specs.declared.term.Term.{Term}
use Rattle.theory_explanation.specs.Faults as pure
use Rattle.csp_replay.specs.Hindrance.{hindrance_of}
use Rattle.csp_replay.specs.declared.way_to_stuck.StuckRun.{StuckRun}
use Rattle.explanation.specs.Running.{IsStop, stop_in}
use Rattle.explanation.specs.Sides.{IsSpecificationSide, side_run_of}
use Rattle.explanation.specs.declared.sides.SideRun.{SideRun}
use Rattle.explanation.proofs.ToldRuns.{one_state_more, told_of}
use Rattle.explanation.proofs.sides.side_run.Goals as goal

-- a specification without a normal form, of which no run is found, has more states
many_behind : (script : Script) (h : Hindrance) (m n : ℕ) (o spec : Option Process) → spec ≡ o → HasNoForm script o m (why_of h) → ((p : Process) → spec ≡ Some p → HasNoneWithin script p h n) →
    (p : Process) × (spec ≡ Some p) × AreMoreThan ◌≡◌ n (IsReached script p)
many_behind script h m n (Some p) spec is form none = (p, is, no_form_has_many script p n m h form (none p is))
many_behind script h m n None spec is form none = absurd form

found_behind : (script : Script) (a : Assertion) (h : Hindrance) (n m : ℕ) (found : Option pure.SideRun) → HasNoForm script (specification_of a.property) m (why_of h) → IsSpecificationSide script (specification_of a.property) h n found →
    pure.IsFound script a h n found
found_behind script a h n m (Some (pure.OfImplementation path states origins)) form is = absurd is
found_behind script a h n m (Some (pure.OfSpecification path states origins)) form is = is
found_behind script a h n m None form is = many_behind script h m n (specification_of a.property) (specification_of a.property) refl form is

all_found : {T A : Type 0} (script : Script) (a : Assertion) (h : Hindrance) (n : ℕ) (r : Result (Option (SideRun A)) T) → IsStop script a h None →
    IfOk r (λ found. IsSpecificationSide script (specification_of a.property) h n (option_map side_run_of found)) → IfOk r (λ found. pure.IsFound script a h n (option_map side_run_of found))
all_found script a h n (Ok found) stop is = found_behind script a h n stop.0 (option_map side_run_of found) stop.1 is
all_found script a h n (Err e) stop is = tt

some_of : {X : Type 0} (r : Option X) → (IsNone r → ⊥) → IsSome r
some_of (Some x) not_none = refl
some_of None not_none = absurd (not_none refl)

pub returns-in_default : goal.returns-in_default
returns-in_default g c =
    let script = script_of c.args.script.now in
    let a = assertion_of c.args.assertion.now in
    let h = hindrance_of c.args.hindrance in
    let S : Option (Bor (List (Action g.row.A.Denot))) → Type 0 = λ stop. IsStop script a h (stop_in stop) in
    all_found script a h c.args.most c.specification_side.result (subst S c.in_default.is c.requires.stop) c.specification_side.ensures

pub unwrap-states-requires : goal.unwrap-states-requires
unwrap-states-requires g c =
    let S : Option (Bor (List (Action g.row.A.Denot))) → Type 0 = λ stop. IsStop (script_of c.args.script.now) (assertion_of c.args.assertion.now) (hindrance_of c.args.hindrance) (stop_in stop) in
    let stops = subst S c.in-Some.is c.requires.stop in
    some_of c.in_ok-found.found (λ none. c.in_ok-found.ensures.none none stops.1.end stops.1.run stops.1.stuck)

pub told_run-requires : goal.told_run-requires
told_run-requires g c =
    let script = script_of c.args.script.now in
    let p = process_of c.args.assertion.now.implementation in
    let h = hindrance_of c.args.hindrance in
    let states = c.unwrap-states.result in
    let F : Option (Vec (Term g.row.A.Denot) g.row.A.Denot) → Type 0 = λ found. IfSome found (λ ts. IsStuckRun script p h (map action_of c.in-Some.path.now) (map process_of ts.items)) in
    let same = copies_same action_of c.in-Some.path.now c.in_ok-path.path.items c.in_ok-path.ensures in
    let P : List value.Action → Type 0 = λ xs. IsStuckRun script p h xs (map process_of states.items) in
    one_state_more script p h (record { path = c.in_ok-path.path; states = states }) (subst P (sym same) (subst F c.unwrap-states.ensures c.in_ok-found.ensures.found))

pub returns : goal.returns
returns g c =
    let script = script_of c.args.script.now in
    let a = assertion_of c.args.assertion.now in
    let p = process_of c.args.assertion.now.implementation in
    let h = hindrance_of c.args.hindrance in
    let states = c.unwrap-states.result in
    let S : Option (Bor (List (Action g.row.A.Denot))) → Type 0 = λ stop. IsStop script a h (stop_in stop) in
    let stops = subst S c.in-Some.is c.requires.stop in
    let F : Option (Vec (Term g.row.A.Denot) g.row.A.Denot) → Type 0 = λ found. IfSome found (λ ts. IsStuckRun script p h (map action_of c.in-Some.path.now) (map process_of ts.items)) in
    let same = copies_same action_of c.in-Some.path.now c.in_ok-path.path.items c.in_ok-path.ensures in
    let P : List value.Action → Type 0 = λ xs. IsStuckRun script p h xs (map process_of states.items) in
    let run : StuckRun g.row.A.Denot = record { path = c.in_ok-path.path; states = states } in
    let T : StuckRun g.row.A.Denot → Type 0 = λ r. StopsSearch script a h (map action_of r.path.items) in
    record {
      stops = subst T (sym c.in_ok-told.ensures.0) (subst (StopsSearch script a h) (sym same) stops.1);
      told = told_of script p h run (subst P (sym same) (subst F c.unwrap-states.ensures c.in_ok-found.ensures.found)) c.in_ok-told.told c.in_ok-told.ensures;
    }
