-- The origins of the steps so far, and one more.
use Rattle.std.proofs.Common.{◌≡◌, ℕ, suc, ◌+◌, ◌<◌, List, [], ◌∷◌, ◌++◌, Option, length, take, get_or, map, sym, ◌∙◌, ap, subst, append_assoc, arith}
use Rattle.std.proofs.lemmas.List.{length-map, length-take-le}
use Rattle.theory_syntax.specs.Value as pure
use Rattle.theory_syntax.specs.Process.{Process, Script}
use Rattle.theory_search.proofs.Adding.{take_next}
use Rattle.theory_origins.specs.Origin.{Origin}
use Rattle.theory_origins.specs.Telling.{Tells}
use Rattle.theory_explanation.specs.Counterexamples.{AreOriginsAlong}
use Rattle.csp_value.specs.Action.{action_of}
use Rattle.csp_value.specs.declared.action.Action.{Action}
use Rattle.csp_term.specs.Term.{process_of}
use Rattle.csp_term.specs.declared.term.Term.{Term}

pub one_more : (script : Script) (path : List pure.Action) (front : List Process) (origins : List (Option Origin)) (x : pure.Action) (s t : Process) (o : Option Origin) → length front ≡ length path →
    AreOriginsAlong script path (front ++ s ∷ []) origins → Tells script s x t o → AreOriginsAlong script (path ++ x ∷ []) (front ++ s ∷ t ∷ []) (origins ++ o ∷ [])
one_more script [] [] [] x s t o long told more = (more, tt)
one_more script [] [] (p ∷ origins) x s t o long told more = absurd told
one_more script [] (u ∷ front) origins x s t o long told more = let some : suc (length front) ≡ 0 = long in absurd (omega (arith, some))
one_more script (y ∷ path) [] origins x s t o long told more = let some : 0 ≡ suc (length path) = long in absurd (omega (arith, some))
one_more script (y ∷ path) (u ∷ []) [] x s t o long told more = absurd told
one_more script (y ∷ path) (u ∷ []) (p ∷ origins) x s t o long told more =
    let same : suc 0 ≡ suc (length path) = long in
    (told.0, one_more script path [] origins x s t o (omega (arith, same)) told.1 more)
one_more script (y ∷ path) (u ∷ w ∷ front) [] x s t o long told more = absurd told
one_more script (y ∷ path) (u ∷ w ∷ front) (p ∷ origins) x s t o long told more =
    let same : suc (suc (length front)) ≡ suc (length path) = long in
    (told.0, one_more script path (w ∷ front) origins x s t o (omega (arith, same)) told.1 more)

module _ {A : Type 0} (script : Script) (path : List (Action A)) (states : List (Term A)) (i : ℕ) (x : Action A) (s t : Term A) (in_path : i < length path) (in_states : i + 1 < length states) where
  as_long : length (map process_of (take i states)) ≡ length (map action_of (take i path))
  as_long =
      let first = length-take-le i states (omega (arith, in_states)) in
      let second = length-take-le i path (omega (arith, in_path)) in
      length-map (take i states) process_of ∙ first ∙ sym second ∙ sym (length-map (take i path) action_of)

  pub along_more : (origins : List (Option Origin)) (o : Option Origin) → x ≡ get_or path i x → s ≡ get_or states i s → t ≡ get_or states (i + 1) t →
      AreOriginsAlong script (map action_of (take i path)) (map process_of (take (i + 1) states)) origins → Tells script (process_of s) (action_of x) (process_of t) o →
      AreOriginsAlong script (map action_of (take (i + 1) path)) (map process_of (take (i + 1 + 1) states)) (origins ++ o ∷ [])
  along_more origins o read_x read_s read_t told more =
      let done = map action_of (take i path) in
      let front = map process_of (take i states) in
      let before : map process_of (take (i + 1) states) ≡ front ++ process_of s ∷ [] = take_next process_of states i s (omega (arith, in_states)) read_s in
      let behind : map process_of (take (i + 1 + 1) states) ≡ front ++ process_of s ∷ process_of t ∷ [] =
      take_next process_of states (i + 1) t in_states read_t ∙ ap (λ us. us ++ process_of t ∷ []) before ∙ append_assoc front (process_of s ∷ []) (process_of t ∷ []) in
      let longer : map action_of (take (i + 1) path) ≡ done ++ action_of x ∷ [] = take_next action_of path i x in_path read_x in
      let all = one_more script done front origins (action_of x) (process_of s) (process_of t) o as_long (subst (λ us. AreOriginsAlong script done us origins) before told) more in
      subst (λ us. AreOriginsAlong script (map action_of (take (i + 1) path)) us (origins ++ o ∷ [])) (sym behind)
      (subst (λ xs. AreOriginsAlong script xs (front ++ process_of s ∷ process_of t ∷ []) (origins ++ o ∷ [])) (sym longer) all)
