-- How a run that spreads another one is told step by step.
use Rattle.std.proofs.Common.{◌≡◌, List, [], ◌∷◌, ◌++◌, sym, subst, append_assoc, append-nil}
use Rattle.theory_syntax.specs.Value.{Action, Tau}
use Rattle.theory_syntax.specs.Process.{Process, Script}
use Rattle.theory_semantics.specs.Meaning.Transitions.{Step}
use Rattle.theory_spread_runs.specs.Spread.{Spreads, ends, tau, acts, IsBegun}

module _ (s : Script) where
  -- nothing is told yet
  pub begun_here : (t : Process) → IsBegun s t [] [] [] [] t
  begun_here t p l ps ls spread = spread

  along_longer : (t : Process) (path : List Action) (states : List Process) (l k : List Action) (m n : List Process) → l ≡ k → m ≡ n → Spreads s t path states l m → Spreads s t path states k n
  along_longer t path states l k m n same alike spread =
      let L : List Action → Type 0 = λ z. Spreads s t path states z m in
      let M : List Process → Type 0 = λ z. Spreads s t path states k z in
      subst M alike (subst L same spread)

  along : (t : Process) (path other : List Action) (states others : List Process) (l : List Action) (m : List Process) → path ≡ other → states ≡ others → Spreads s t path states l m → Spreads s t other others l m
  along t path other states others l m same alike spread =
      let P : List Action → Type 0 = λ z. Spreads s t z states l m in
      let S : List Process → Type 0 = λ z. Spreads s t other z l m in
      subst S alike (subst P same spread)

  -- a tau more
  pub begun_tau : (t : Process) (path : List Action) (states : List Process) (longer : List Action) (more : List Process) (here u : Process) →
      IsBegun s t path states longer more here → Step s here Tau u → IsBegun s t path states (longer ++ Tau ∷ []) (more ++ here ∷ []) u
  begun_tau t path states longer more here u begun step p l ps ls spread =
      along_longer t (path ++ p) (states ++ ps) (longer ++ Tau ∷ l) ((longer ++ Tau ∷ []) ++ l) (more ++ here ∷ ls) ((more ++ here ∷ []) ++ ls)
      (sym (append_assoc longer (Tau ∷ []) l)) (sym (append_assoc more (here ∷ []) ls)) (begun p (Tau ∷ l) ps (here ∷ ls) (tau step spread))

  -- a step of both
  pub begun_act : (t : Process) (path : List Action) (states : List Process) (longer : List Action) (more : List Process) (here : Process) (x : Action) (u : Process) →
      IsBegun s t path states longer more here → Step s here x u → IsBegun s t (path ++ x ∷ []) (states ++ here ∷ []) (longer ++ x ∷ []) (more ++ here ∷ []) u
  begun_act t path states longer more here x u begun step p l ps ls spread =
      along t (path ++ x ∷ p) ((path ++ x ∷ []) ++ p) (states ++ here ∷ ps) ((states ++ here ∷ []) ++ ps) ((longer ++ x ∷ []) ++ l) ((more ++ here ∷ []) ++ ls)
      (sym (append_assoc path (x ∷ []) p)) (sym (append_assoc states (here ∷ []) ps))
      (along_longer t (path ++ x ∷ p) (states ++ here ∷ ps) (longer ++ x ∷ l) ((longer ++ x ∷ []) ++ l) (more ++ here ∷ ls) ((more ++ here ∷ []) ++ ls)
      (sym (append_assoc longer (x ∷ []) l)) (sym (append_assoc more (here ∷ []) ls)) (begun (x ∷ p) (x ∷ l) (here ∷ ps) (here ∷ ls) (acts step spread)))

  -- and the end of both
  pub begun_end : (t : Process) (path : List Action) (states : List Process) (longer : List Action) (more : List Process) (here : Process) →
      IsBegun s t path states longer more here → Spreads s t path (states ++ here ∷ []) longer (more ++ here ∷ [])
  begun_end t path states longer more here begun =
      let L : List Action → Type 0 = λ z. Spreads s t path (states ++ here ∷ []) z (more ++ here ∷ []) in
      let P : List Action → Type 0 = λ z. Spreads s t z (states ++ here ∷ []) (longer ++ []) (more ++ here ∷ []) in
      subst L (append-nil longer) (subst P (append-nil path) (begun [] [] (here ∷ []) (here ∷ []) ends))
