-- A loop that is spread is one.
use Rattle.std.proofs.Common.{◌≡◌, ℕ, zero, suc, ◌+◌, List, [], ◌∷◌, ◌++◌, length, map, replicate, slice_get, Option, Some, None, IfSome, refl, sym, ◌∙◌, ap, subst, arith}
use Rattle.theory_syntax.specs.Value.{Action, Tau}
use Rattle.theory_syntax.specs.Process.{Process, Script}
use Rattle.theory_runs.specs.States.{Visits}
use Rattle.theory_runs.proofs.Visiting.{first_state}
use Rattle.theory_spread_runs.specs.Spread.{Spreads}
use Rattle.theory_spread_runs.proofs.Spreading.{spread_lasso, spread_visits}
use Rattle.csp_value.specs.Action.{action_of}
use Rattle.csp_term.specs.Term.{process_of}
use Rattle.spread_runs.specs.declared.loops.SpreadLoop.{SpreadLoop}
use Rattle.spread_runs.specs.Rounds.{ComeRound}
use Rattle.spread_runs.specs.declared.runs.SpreadRun.{SpreadRun}
use Rattle.spread_runs.specs.Spread.{SpreadsLoop, SpreadsRun}

pub first_same : (states : List Process) (again start t : Process) → slice_get states 0 ≡ Some start → slice_get (states ++ again ∷ []) 0 ≡ Some t → start ≡ t
first_same [] again start t at first = absurd (cc at)
first_same (s ∷ states) again start t at first = let e : Some start ≡ Some t = sym at ∙ first in cc e

no_last : {X : Type 0} (xs : List X) (x : X) → xs ++ x ∷ [] ≡ [] → ⊥
no_last [] x e = cc e
no_last (y ∷ xs) x e = cc e

first_of : {X : Type 0} {x y : X} {xs ys : List X} → x ∷ xs ≡ y ∷ ys → x ≡ y
first_of e = cc e

rest_of : {X : Type 0} {x y : X} {xs ys : List X} → x ∷ xs ≡ y ∷ ys → xs ≡ ys
rest_of e = cc e

no_states : (s : Script) (path : List Action) (t u : Process) → Visits s t path [] u → ⊥
no_states s [] t u visits = let e = visits.0 in cc e
no_states s (x ∷ path) t u visits = let e = visits.2 in cc e

-- the last of the states is the end
last_is : (s : Script) (path : List Action) (t u : Process) (more : List Process) (x : Process) → Visits s t path (more ++ x ∷ []) u → x ≡ u
last_is s [] t u [] x visits = first_of visits.0 ∙ visits.1
last_is s [] t u (m ∷ more) x visits = absurd (no_last more x (rest_of visits.0))
last_is s (y ∷ path) t u [] x visits =
    let V : List Process → Type 0 = λ ss. Visits s visits.0 path ss u in absurd (no_states s path visits.0 u (subst V (sym (rest_of visits.2)) visits.4))
last_is s (y ∷ path) t u (m ∷ more) x visits =
    let V : List Process → Type 0 = λ ss. Visits s visits.0 path ss u in last_is s path visits.0 u more x (subst V (sym (rest_of visits.2)) visits.4)

same_there : {X : Type 0} (xs : List X) (i : ℕ) (x y : X) → slice_get xs i ≡ Some x → slice_get xs i ≡ Some y → x ≡ y
same_there xs i x y at also = let e : Some x ≡ Some y = sym at ∙ also in cc e

pub loop_spread : (A : Type 0) (script : Script) (states : List Process) (back : ℕ) (round : List Process) (start : Process) (taus longer : List Action) (more : List Process) (l : SpreadLoop A) →
    ComeRound states back round → slice_get states 0 ≡ Some start → taus ≡ replicate (length states) Tau → Spreads script start taus round longer more →
    ComeRound (map process_of l.states.items) l.back more → SpreadsLoop script states back l
loop_spread A script states back round start taus longer more l comes first are spread closes = λ other t again lasso.
    let ls = map process_of l.states.items in
    let n = length states in
    let same : comes.0 ≡ again = same_there states back comes.0 again comes.1 lasso.stands in
    let begins : start ≡ t = first_same states again start t first (first_state other (replicate n Tau) t again (states ++ again ∷ []) lasso.visits) in
    let passed : round ≡ states ++ again ∷ [] = comes.2 ∙ ap (λ x. states ++ x ∷ []) same in
    let B : Process → Type 0 = λ x. Spreads script x taus round longer more in
    let T : List Action → Type 0 = λ xs. Spreads script t xs round longer more in
    let R : List Process → Type 0 = λ xs. Spreads script t (replicate n Tau) xs longer more in
    let M : List Process → Type 0 = λ xs. Spreads script t (replicate n Tau) (states ++ again ∷ []) longer xs in
    let whole = subst M closes.2 (subst R passed (subst T are (subst B begins spread))) in
    let ends : closes.0 ≡ again = last_is script longer t again ls closes.0 (spread_visits script other whole t again lasso.visits) in
    let E : Process → Type 0 = λ x. Spreads script t (replicate n Tau) (states ++ again ∷ []) longer (ls ++ x ∷ []) in
    spread_lasso script other t again n l.back longer (states ++ again ∷ []) ls (subst E ends whole) (closes.1 ∙ ap Some ends) lasso.visits

-- taus, and one more
taus_and_one : (n : ℕ) → replicate (suc n) Tau ≡ replicate n Tau ++ Tau ∷ []
taus_and_one zero = refl
taus_and_one (suc n) = ap (λ xs. Tau ∷ xs) (taus_and_one n)

pub one_tau_more : (n : ℕ) → replicate (n + 1) Tau ≡ replicate n Tau ++ Tau ∷ []
one_tau_more n = let next : n + 1 ≡ suc n = omega arith in ap (λ k. replicate k Tau) next ∙ taus_and_one n

-- a round has one state more
pub round_length : (states : List Process) (back : ℕ) (round : List Process) → ComeRound states back round → length round ≡ suc (length states)
round_length states back round comes = ap length comes.2 ∙ length_and_one states comes.0
  where
    length_and_one : (xs : List Process) (x : Process) → length (xs ++ x ∷ []) ≡ suc (length xs)
    length_and_one [] x = refl
    length_and_one (y ∷ xs) x = ap suc (length_and_one xs x)

-- a run round is a loop, where its last state is found among those before it
pub loops_spread : (A : Type 0) (script : Script) (states : List Process) (back : ℕ) (round : List Process) (start : Process) (taus : List Action) (run : SpreadRun A) (found : Option (SpreadLoop A)) →
    ComeRound states back round → slice_get states 0 ≡ Some start → taus ≡ replicate (length states) Tau → SpreadsRun script start taus round run →
    IfSome found (λ l. ComeRound (map process_of l.states.items) l.back (map process_of run.states.items)) → IfSome found (SpreadsLoop script states back)
loops_spread A script states back round start taus run (Some l) comes first are spread closes =
    loop_spread A script states back round start taus (map action_of run.path.items) (map process_of run.states.items) l comes first are spread closes
loops_spread A script states back round start taus run None comes first are spread closes = tt
