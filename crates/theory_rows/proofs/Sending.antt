-- Steps that need not be sent: those that lead to pairs that are known.
use Rattle.std.proofs.Common.{◌≡◌, ◌⊎◌, inl, inr, ℕ, suc, ◌≤◌, List, Option, Some, slice_get, refl, sym, ap, subst, ◌∙◌, arith, Contains}
use Rattle.std.specs.Prelude.{IsTrue}
use Rattle.std.specs.Ordering.{is_le}
use Rattle.theory_syntax.specs.Value.{Action}
use Rattle.theory_syntax.specs.Process.{Process, Script}
use Rattle.theory_semantics.specs.Meaning.Stepping.{Steps}
use Rattle.theory_semantics.specs.Meaning.Transitions.{Step}
use Rattle.theory_search.specs.Moves.{GoesOn}
use Rattle.theory_search.specs.Plans.{ComesFirstBut, IsStepSettled}
use Rattle.theory_search.specs.Ranks.{origin_cmp}
use Rattle.theory_search.specs.Search.{AllStored, AreDistinctPairs, From, LeadsToNode, NormalForm, Row, Search}
use Rattle.theory_search.proofs.LawfulMoves.{leads_same}
use Rattle.theory_rows.specs.Enough.{IsEnough}
use Rattle.theory_rows.specs.Sending.{IsKnownAt, IsKnownByThen}

-- the pair to which a step leads stands at one place
one_at : (s : Search) (r : Row) (x : Action) (u : Process) (i k : ℕ) (p q : Row) → AreDistinctPairs s.rows → slice_get s.rows i ≡ Some p → slice_get s.rows k ≡ Some q → p.term ≡ u → q.term ≡ u → LeadsToNode s.normal r.node x p.node → LeadsToNode s.normal r.node x q.node → p ≡ q
one_at s r x u i k p q distinct at there first second leads also =
    let node = leads_same s.normal r.node p.node q.node x leads also in
    let place = distinct i k p q at there node (first ∙ sym second) in
    let e : Some p ≡ Some q = sym at ∙ ap (slice_get s.rows) place ∙ there in
    cc e

pub known_settled : (script : Script) (s : Search) (plan : List (ℕ × ℕ × Action)) (j : ℕ) (r : Row) (x : Action) (u : Process) (i : ℕ) (q : Row) → AreDistinctPairs s.rows → IsKnownAt s r x u i q →
    (q.level ≤ s.level) ⊎ IsTrue (is_le (origin_cmp s.rows q.origin (From j x))) → IsStepSettled script s plan j r x u
known_settled script s plan j r x u i q distinct known upto = record {
  stored = (q.node, known.leads, (i, q, known.at, refl, known.term));
  first = λ k p there next term leads. by_case k p (one_at s r x u i k q p distinct known.at there known.term term known.leads leads) next upto;
}
  where
    by_case : (k : ℕ) (p : Row) → q ≡ p → p.level ≡ suc s.level → (q.level ≤ s.level) ⊎ IsTrue (is_le (origin_cmp s.rows q.origin (From j x))) → IsTrue (is_le (origin_cmp s.rows p.origin (From j x))) ⊎ Contains plan (k, j, x)
    by_case k p same next (inl le) = absurd (let e = ap (λ (w : Row). w.level) same in omega (arith, e, next, le))
    by_case k p same next (inr lesser) = inl (subst (λ (w : Row). IsTrue (is_le (origin_cmp s.rows w.origin (From j x)))) same lesser)

pub known_stays : (s t : Search) (r : Row) (x : Action) (u : Process) → GoesOn s t → IsKnownByThen s r x u → IsKnownByThen t r x u
known_stays s t r x u on (i, q, known, le) =
    let k = on.rows i q known.at in
    let pair = k.2 in (
      i,
      k.0,
      record {
        at = k.1;
        term = sym pair.term ∙ known.term;
        leads = subst (λ (n : Option NormalForm). LeadsToNode n r.node x k.0.node) (sym on.normal) (subst (λ (m : ℕ). LeadsToNode s.normal r.node x m) pair.node known.leads);
      },
      (let e = pair.level in let f = on.level in omega (arith, e, f, le)),
    )

pub settled_first : (script : Script) (s : Search) (plan : List (ℕ × ℕ × Action)) (j : ℕ) (r : Row) (steps : Steps) (offers : List (List Action)) → slice_get s.rows j ≡ Some r → IsEnough script r.term steps offers →
    ((x : Action) (u : Process) → Contains steps (x, u) → IsStepSettled script s plan j r x u) → AllStored script s r × ComesFirstBut script s plan j
settled_first script s plan j r steps offers here told settled = (
  λ x u step. (settled x u ((told.each_step x u).0 step.1)).stored,
  λ p at x k q there next step leads.
      let e : Some r ≡ Some p = sym here ∙ at in
      let same : r ≡ p = cc e in
      let listed = (told.each_step x q.term).0 (subst (λ (w : Row). Step script w.term x q.term) (sym same) step).1 in
      (settled x q.term listed).first k q there next refl (subst (λ (w : Row). LeadsToNode s.normal w.node x q.node) (sym same) leads),
)
