-- What the steps of a row lead to.
use Rattle.std.proofs.Common.{◌≡◌, ◌<◌, ◌↔◌, ℕ, zero, suc, Bool, true, false, List, [], ◌∷◌, length, set, Option, refl, sym, ap, subst, ◌∙◌}
use Rattle.std.specs.Prelude.{IsTrue}
use Rattle.std.specs.List.{AllByRecursion}
use Rattle.theory_syntax.specs.Process.{Process, Script}
use Rattle.theory_semantics.specs.Kinds.Scripts.{IsTermOf}
use Rattle.theory_semantics.specs.Meaning.Limits.{fits}
use Rattle.theory_semantics.proofs.KindedSteps.{step_closed}
use Rattle.theory_spelling.specs.Reading.{term_of}
use Rattle.theory_spelling.specs.Spellable.{IsSpellable}
use Rattle.theory_spelling.specs.Spelling.{spelling}
use Rattle.theory_spelling.proofs.Laws.{term_again}
use Rattle.theory_shapes.specs.Changes as pure
use Rattle.theory_shapes.specs.Shape.{fill, holes}
use Rattle.theory_shapes.proofs.ByParts.{spellable_by_parts}
use Rattle.theory_shapes.proofs.Changing.{changed_count}
use Rattle.csp_rows.specs.declared.changes.Change.{Change}
use Rattle.csp_rows.specs.declared.changes.Run.{Run}
use Rattle.csp_rows.specs.declared.numbers.PartId.{PartId}
use Rattle.csp_rows.specs.declared.step.Step.{Step}
use Rattle.csp_rows.specs.Measures.{TellsLimits, row_after}
use Rattle.csp_rows.specs.Numbering.{Numbering, action_at}
use Rattle.csp_rows.specs.Places.{IsTargetOf}
use Rattle.csp_rows.specs.Rows.{row_parts}
use Rattle.csp_rows.specs.Runs.{AreAmong, changes_in, changes_told, run_of}
use Rattle.csp_rows.specs.Row.{Row}
use Rattle.csp_rows.specs.ByParts.{AreSpellable, IsRowByParts, parts_in}
use Rattle.csp_rows.specs.Stepped.{HasChanges}
use Rattle.csp_rows.specs.Targets.{SpellsTerm, target_of}
use Rattle.csp_rows.proofs.Covering.{is_row, is_within, long}

-- two answers that are true together are the same
same_answer : (a b : Bool) → IsTrue a ↔ IsTrue b → a ≡ b
same_answer true b both = sym (both.0 refl)
same_answer false true both = both.1 refl
same_answer false false both = refl

all_set : (P : Process → Type 0) (ps : List Process) (i : ℕ) (p : Process) → AllByRecursion P ps → P p → AllByRecursion P (set ps i p)
all_set P [] i p all one = tt
all_set P (x ∷ ps) zero p all one = (one, all.1)
all_set P (x ∷ ps) (suc i) p all one = (all.0, all_set P ps i p all.1 one)

-- the parts of a row are spellable
row_spellable : (z : Numbering) (count : ℕ) (row : List PartId) → AreSpellable z count → AllByRecursion (λ n. n.0 < count) row → AllByRecursion IsSpellable (row_parts z row)
row_spellable z count [] spellable among = tt
row_spellable z count (n ∷ row) spellable among = (spellable n.0 among.0, row_spellable z count row spellable among.1)

-- so are those that come in
changed_spellable : (z : Numbering) (count : ℕ) (cs : List Change) (ps : List Process) → AreSpellable z count → AreAmong count cs → AllByRecursion IsSpellable ps → AllByRecursion IsSpellable (pure.changed (changes_in z cs) ps)
changed_spellable z count [] ps spellable among all = all
changed_spellable z count (c ∷ cs) ps spellable among all = changed_spellable z count cs (set ps c.hole (z.part c.part.0)) spellable among.1 (all_set IsSpellable ps c.hole (z.part c.part.0) all (spellable c.part.0 among.0))

module _ {A : Type 0} (z : Numbering) (script : Script) (r : Row A) (is : IsRowByParts z script r) (pool : List Change) (s : Step) (run : Run) (has : HasChanges z script r pool s run) where
  abbrev ps : List Process
  ps = parts_in z r

  abbrev cs : List Change
  cs = run_of pool run

  abbrev target : Process
  target = target_of z r pool s

  is_after : target ≡ row_after z r.shape r.numbers cs
  is_after = ap (λ (o : Option Run). fill r.shape (pure.changed (changes_told z pool o) ps)) has.is

  pub limits_told : (answer : Bool) → TellsLimits r.nodes cs r.numbers r.over r.parts answer → answer ≡ fits target
  limits_told answer tells = same_answer answer (fits (row_after z r.shape r.numbers cs)) (tells z r.shape (is_within z script r is) has.changes) ∙ ap fits (sym is_after)

  target_closed : IsTermOf script target
  target_closed = let h = is.closed in (h.0, h.1, step_closed script h.0 h.1.sets h.1.equations r.term (action_at z s.action) target has.leads h.2)

  target_spellable : IsSpellable target
  target_spellable =
      let after = pure.changed (changes_in z cs) ps in
      let count : length after ≡ holes r.shape = changed_count (changes_in z cs) ps ∙ long z script r is in
      subst IsSpellable (sym is_after) ((spellable_by_parts r.shape after count).1 (is.spellable, changed_spellable z (length r.parts) cs ps is.kept.spellable has.changes.known (row_spellable z (length r.parts) r.numbers is.kept.spellable is.among)))

  pub spells : (bytes : List ℕ) → IsTrue (fits target) → IsTargetOf r.bytes r.places cs r.parts bytes → SpellsTerm script target bytes
  spells bytes fit made =
      let spelled : bytes ≡ spelling target = made z r.shape ps (is_row z script r is) has.changes ∙ ap spelling (sym is_after) in
      record { spelled = spelled; read = ap term_of spelled ∙ term_again target target_spellable; within = fit; closed = target_closed }
