-- Before the first declaration, and from one to the next.
use Rattle.std.specs.Str.{chars}
use Rattle.std.proofs.lemmas.List.{length-map}
use Rattle.std.proofs.Common.{◌≡◌, ◌≤◌, ℕ, ◌+◌, ◌-◌, true, [], ◌∷◌, ◌++◌, length, length-append, map, Some, None, refl, sym, ap, ◌∙◌, subst, arith}
use Rattle.theory_text.specs.Raw.{RawDeclaration, RawScript}
use Rattle.theory_checking.specs.ConstructorRows.{constructor_counts}
use Rattle.theory_checking.specs.Faults.{NoneRefused}
use Rattle.theory_checking.specs.Inference.Items.{rows_from}
use Rattle.theory_checking.specs.Names.{declared}
use Rattle.theory_checking.specs.Rules.{IsRedeclared, all_declared}
use Rattle.theory_checking.specs.Sets.{number_of_events}
use Rattle.theory_checking.proofs.ConstructorRows.{datatypes_in_rows}
use Rattle.theory_checking.proofs.DeclaredRows.{declared_go_on, rows_counted}
use Rattle.theory_checking.proofs.OneMore.{flat_map_one_more}
use Rattle.csp_expression.specs.Evaluation.{constructors_of, members_listed}
use Rattle.csp_expression.specs.declared.types.ConstructorFields.{ConstructorFields}
use Rattle.csp_value.specs.Fields.{sets_of}
use Rattle.csp_names.specs.declared.names.Names.{Names}
use Rattle.csp_names.specs.FirstPass.{AreNamesOf}
use Rattle.csp_names.specs.Meanings.{declared_of}
use Rattle.csp_names.specs.Scopes.{known_sets}
use Rattle.csp_inference.specs.KnownKinds.{KnowsKinds}
use Rattle.csp_kinds.specs.declared.pass.SetsSoFar.{SetsSoFar}
use Rattle.csp_kinds.specs.Channels.{sets_in}
use Rattle.csp_kinds.specs.Members.{IsCount}
use Rattle.csp_kinds.specs.Pass.{AreFittedChannels, AreSetsSoFar, IsRefusalSoFar}
use Rattle.csp_kinds.specs.Passing.{AreCutOff}
use Rattle.csp_kinds.proofs.Fitting.{is_fit, match_true}
use Rattle.csp_kinds.proofs.RefusedSets.{nothing_refused}

pub start_sets : {A : Type 0} (raw : RawScript) (s : SetsSoFar A) → NoneRefused IsRedeclared (all_declared raw) → map constructors_of s.table.types.datatypes.items ≡ rows_from 0 (constructor_counts raw) → s.table.types.nametypes.items ≡ [] → s.table.types.constructors.items ≡ [] →
    s.table.valued.items ≡ [] → s.table.filled.items ≡ [] → s.fit.some ≡ true → KnowsKinds raw [] s.fit.known → s.channels.field_sets.items ≡ [] → s.channels.events ≡ Some 0 → s.refused ≡ None → AreSetsSoFar raw [] s
start_sets {A} raw s once rows none_named none_built none_valued none_filled some known none_there none_counted unrefused = record {
  table = record {
    types = λ i. record { datatypes = (rows ∙ sym (datatypes_in_rows raw once)) i; nametypes = ap (map (members_listed {A = A})) none_named i; constructors = ap (map (λ (c : ConstructorFields A). sets_of c.sets.items)) none_built i };
    valued = none_valued;
    filled = none_filled;
  };
  fit = is_fit raw [] s.fit some known;
  channels =
      match_true s.fit.some (AreFittedChannels raw [] s.channels) (AreCutOff raw [] (sets_in s.channels)) some
      (record {
        sets = no_sets;
        events = subst (λ e. IsCount e (number_of_events (sets_in s.channels))) (sym none_counted) (subst (λ cs. IsCount (Some 0) (number_of_events cs)) (sym no_sets) (refl, omega arith));
      });
  refusal = subst (λ r. IsRefusalSoFar raw [] s.fit.some r) (sym unrefused) (subst (λ b. IsRefusalSoFar raw [] b None) (sym some) (nothing_refused raw));
}
  where
    no_sets : sets_in s.channels ≡ []
    no_sets = ap (map (known_sets {A = A})) none_there

-- ---- from one declaration to the next

-- how many names are declared here and below
pub names_counted : {A : Type 0} (names : Names A) (raw : RawScript) → AreNamesOf names raw → length names.table.entries ≡ length (all_declared raw)
names_counted names raw h = sym (length-map names.table.entries (λ e. (chars e.0.now, declared_of e.1))) ∙ ap length h.rows ∙ rows_counted raw

-- those of the next declaration are among the names below
pub names_below : (raw above : RawScript) (d : RawDeclaration) (below : RawScript) (all left : ℕ) → all ≡ length (all_declared raw) → raw ≡ above ++ d ∷ below → left + length (all_declared above) ≡ all → length (declared d) ≤ left
names_below raw above d below all left counted stands rest =
    let cut = ap (λ ds. length (all_declared ds)) stands ∙ ap length (declared_go_on above (d ∷ below)) ∙ length-append (all_declared above) (declared d ++ all_declared below) in
    let more = length-append (declared d) (all_declared below) in omega (arith, counted, cut, more, rest)

-- and then there are so many fewer
pub names_passed : (above : RawScript) (d : RawDeclaration) (all left : ℕ) → left + length (all_declared above) ≡ all → length (declared d) ≤ left → (left - length (declared d)) + length (all_declared (above ++ d ∷ [])) ≡ all
names_passed above d all left rest within =
    let one = ap length (flat_map_one_more declared above d) ∙ length-append (all_declared above) (declared d) in omega (arith, one, rest, within)
