-- What is told in whatever order stands for expansions.
use Rattle.std.proofs.Common.{◌≡◌, ◌↔◌, ◌≤◌, ℕ, List, Option, Some, slice_get, refl, sym, ap, ap₂, subst, Contains}
use Rattle.std.proofs.lemmas.List.{length-map}
use Rattle.theory_syntax.specs.Value.{Action}
use Rattle.theory_syntax.specs.Process.{Process, Script}
use Rattle.theory_semantics.specs.Meaning.Expansions.{Expansion, Form, Fired, FiredFaulty, FiredLarge, IsExpansion, IsFormOf, offers_cmp, step_cmp}
use Rattle.theory_semantics.specs.Meaning.Stepping.{Steps}
use Rattle.theory_syntax.proofs.Places.{get_map}
use Rattle.csp_rows.proofs.Members.{map_contained, map_contains}
use Rattle.theory_shapes.proofs.Accepting.{fired_shown}
use Rattle.theory_search.specs.Batches.{Batch, IsBatch, max_batch}
use Rattle.theory_search.specs.Plans.{MarkWouldHold}
use Rattle.theory_search.specs.Search.{Done, HasNoRoom, IsRowAllowed, IsStored, IsSuccessor, LeadsToNode, NormalForm, Row, Search, Short}
use Rattle.theory_rows.specs.Arranged.{arranged}
use Rattle.theory_rows.specs.Enough.{IsEnough, actions_of, offers_by}
use Rattle.theory_rows.specs.Loose.{IsLooseBatch, IsLooseFormOf, batch_in_order, entry_in_order, expansion_in_order, in_order}
use Rattle.theory_rows.proofs.Accepting.{all_shown, shown_enough}
use Rattle.theory_rows.proofs.Forms.{one_form, shown_fired}

enough_fired : (script : Script) (t : Process) (steps : Steps) (offers : List (List Action)) → IsEnough script t steps offers → IsFormOf script t (in_order (Fired steps offers))
enough_fired script t steps offers told = shown_fired script t steps (offers_by (actions_of steps)) (all_shown script t steps told.not_stuck told.each_step)

pub loose_form : (script : Script) (t : Process) (form : Form) → IsLooseFormOf script t form → IsFormOf script t (in_order form)
loose_form script t (Fired steps offers) told = enough_fired script t steps offers told
loose_form script t (FiredFaulty c) is = is
loose_form script t FiredLarge is = is

pub exact_loose : (script : Script) (t : Process) (form : Form) → IsFormOf script t form → IsLooseFormOf script t form
exact_loose script t (Fired steps offers) fired = shown_enough script t steps offers (fired_shown script t steps offers fired)
exact_loose script t (FiredFaulty c) is = is
exact_loose script t FiredLarge is = is

-- what is in order stays
pub exact_stays : (script : Script) (t : Process) (form : Form) → IsFormOf script t form → in_order form ≡ form
exact_stays script t (Fired steps offers) fired =
    let full = offers_by (actions_of steps) in
    let told = shown_enough script t steps offers (fired_shown script t steps offers fired) in
    let same = one_form script t (arranged step_cmp steps) steps (arranged offers_cmp full) offers (enough_fired script t steps offers told) fired in
    ap₂ Fired same.0 same.1
exact_stays script t (FiredFaulty c) is = refl
exact_stays script t FiredLarge is = refl

pub loose_batch : (b : Batch) → IsLooseBatch b → IsBatch (batch_in_order b)
loose_batch b loose = record {
  few = subst (λ (n : ℕ). n ≤ max_batch) (sym (length-map b.entries entry_in_order)) loose.few;
  each = λ i e at.
      let m = get_map entry_in_order b.entries i e at in
      let is = loose.each i m.0 m.1 in
      let P : ℕ × Expansion → Type 0 = λ z. (z.1.script ≡ b.script) × IsExpansion z.1 in
      subst P m.2 (is.0, loose_form m.0.1.script m.0.1.term m.0.1.form is.1);
}

pub batch_entries : (b : Batch) (i : ℕ) (e : Expansion) → Contains (batch_in_order b).entries (i, e) ↔ ((f : Expansion) × Contains b.entries (i, f) × (expansion_in_order f ≡ e))
batch_entries b i e = (
  λ has.
      let m = map_contained entry_in_order b.entries (i, e) has in
      let place : m.0.0 ≡ i = ap (λ (z : ℕ × Expansion). z.0) m.2 in
      (m.0.1, subst (λ (k : ℕ). Contains b.entries (k, m.0.1)) place m.1, ap (λ (z : ℕ × Expansion). z.1) m.2),
  λ (f, has, same). subst (λ (g : Expansion). Contains (batch_in_order b).entries (i, g)) same (map_contains entry_in_order b.entries (i, f) has),
)

-- ---- marks

-- the pairs that a row leads to are those that its steps do
pub listed_successors : (script : Script) (normal : Option NormalForm) (r : Row) (steps : Steps) (offers : List (List Action)) (m : ℕ) (u : Process) → IsEnough script r.term steps offers →
    IsSuccessor script normal r (m, u) ↔ ((x : Action) × Contains steps (x, u) × LeadsToNode normal r.node x m)
listed_successors script normal r steps offers m u told = (
  λ (x, step, leads). (x, (told.each_step x u).0 step.1, leads),
  λ (x, has, leads). (x, (told.not_stuck, (told.each_step x u).1 has), leads),
)

pub done_would : (script : Script) (s : Search) (i : ℕ) (r : Row) (steps : Steps) (offers : List (List Action)) → slice_get s.rows i ≡ Some r → r.level ≡ s.level → IsEnough script r.term steps offers → IsRowAllowed script s r →
    ((x : Action) (u : Process) → Contains steps (x, u) → (m : ℕ) × LeadsToNode s.normal r.node x m × IsStored s.rows m u) → MarkWouldHold script s i Done
done_would script s i r steps offers here level told allowed stored = (r, here, level, (told.not_stuck, allowed, λ x u step. stored x u ((told.each_step x u).0 step.1)))

pub short_would : (script : Script) (s : Search) (i : ℕ) (r : Row) (steps : Steps) (offers : List (List Action)) → slice_get s.rows i ≡ Some r → r.level ≡ s.level → IsEnough script r.term steps offers → IsRowAllowed script s r →
    HasNoRoom script s r → MarkWouldHold script s i Short
short_would script s i r steps offers here level told allowed full = (r, here, level, (told.not_stuck, allowed, full))
