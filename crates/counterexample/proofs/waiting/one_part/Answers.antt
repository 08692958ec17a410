-- The one term whose initials are asked for is the part.
use Rattle.std.proofs.Common.{◌≡◌, ℕ, zero, suc, List, [], ◌∷◌, ◌++◌, Contains, Some, slice_get, map, sym, ◌∙◌, ap, subst, inl, inr, lit≤, lit<}
use Rattle.theory_syntax.specs.Process.{Process, Script}
use Rattle.theory_semantics.specs.Kinds.Scripts.{IsTermOf}
use Rattle.theory_semantics.proofs.Rising.{stands_from_Contains}
use Rattle.theory_runs.specs.Layers.{AreTermsOf}
use Rattle.csp_term.specs.Script.{script_of}
use Rattle.csp_term.specs.Term.{process_of}
use Rattle.csp_term.specs.declared.term.Term.{Term}
use Rattle.counterexample.proofs.waiting.one_part.Goals as goal

one_term : (script : Script) (p : Process) → IsTermOf script p → AreTermsOf script (p ∷ [])
one_term script p is t has = by (stands_from_Contains (p ∷ []) t has)
  where
    by : (k : ℕ) × (slice_get (p ∷ []) k ≡ Some t) → IsTermOf script t
    by (zero, at) = let same : p ≡ t = cc at in subst (IsTermOf script) same is
    by (suc k, at) = absurd (cc at)

pub initials_of-requires : goal.initials_of-requires
initials_of-requires g c =
    let script = script_of c.args.script.now in
    let copy = c.in_ok-try_copy.field-0 in
    let same : map process_of c.deref.result.now ≡ process_of c.args.term.now ∷ [] =
    ap (λ (ts : List (Term g.row.A.Denot)). map process_of ts) (c.deref.ensures.value ∙ c.in_ok-push.ensures.items ∙ ap (λ (ts : List (Term g.row.A.Denot)). ts ++ copy ∷ []) c.new-alone.ensures.items)
    ∙ ap (λ p. p ∷ []) c.in_ok-try_copy.ensures in
    let closed : AreTermsOf script (map process_of c.deref.result.now) = subst (AreTermsOf script) (sym same) (one_term script (process_of c.args.term.now) c.requires) in
    elim g.met.A.AllocHandle.small [ inl e ↦ rw (e.0, e.1) (search (lit≤, closed)) | inr e ↦ rw (e.0, e.1) (search (lit≤, closed)) ]

pub drop-initials-requires-room-T-Destruct : goal.drop-initials-requires-room-T-Destruct
drop-initials-requires-room-T-Destruct g c κs within = elim g.met.A.AllocHandle.small [ inl e ↦ rw (e.0, e.1) (lit< tt) | inr e ↦ rw (e.0, e.1) (lit< tt) ]

pub drop-initials-requires-in_err-process-room-T-Destruct : goal.drop-initials-requires-in_err-process-room-T-Destruct
drop-initials-requires-in_err-process-room-T-Destruct g c κs within = elim g.met.A.AllocHandle.small [ inl e ↦ rw (e.0, e.1) (lit< tt) | inr e ↦ rw (e.0, e.1) (lit< tt) ]
