-- One field more is looked at.
use Rattle.std.specs.Prelude.{cond, option_and_then, is_some, MatchBool}
use Rattle.std.specs.Option.{option_or}
use Rattle.std.proofs.lemmas.List.{map-append}
use Rattle.std.proofs.Common.{◌≡◌, Bool, true, false, List, [], ◌∷◌, ◌++◌, append-nil, map, Option, Some, None, option_map, refl, sym, ap, ◌∙◌, subst}
use Rattle.theory_syntax.specs.Value.{Value, sorted_values}
use Rattle.theory_syntax.specs.Expression.{Expression}
use Rattle.theory_text.specs.Raw.{RawDomain, RawChannels, RawScript}
use Rattle.theory_checking.specs.Names.{environment_above}
use Rattle.theory_checking.specs.Resolving.{every}
use Rattle.theory_checking.specs.Sets.{types_of, set_expression, datatypes_of, members_above, members_with, with_some, field_members, field_members_with}
use Rattle.theory_checking.specs.Sites.{in_expression, in_field_sets}
use Rattle.theory_checking.specs.Rules.{SomeFit}
use Rattle.theory_checking.proofs.OneMore.{in_more_field_sets}
use Rattle.theory_checking.proofs.RisingSets.{tree_members_rise}
use Rattle.csp_value.proofs.Sets.{Rises}
use Rattle.csp_value.specs.declared.field_set.FieldSet.{FieldSet as CodeSet}
use Rattle.csp_expression.proofs.Named.{sorted_already}
use Rattle.csp_expression.specs.Evaluation.{table_of}
use Rattle.csp_value.specs.Fields.{field_values}
use Rattle.csp_inference.specs.declared.fitted_sets.Column.{Column}
use Rattle.csp_kinds.specs.declared.fields.Fields.{Fields}
use Rattle.csp_kinds.specs.declared.fit.Fit.{Fit}
use Rattle.csp_kinds.specs.declared.looking.Above.{Above}
use Rattle.csp_kinds.specs.declared.looking.LookedSet.{LookedSet}
use Rattle.csp_kinds.specs.Faults.{IsFaultOf, IsRead, fault_of_set}
use Rattle.csp_kinds.specs.Fields.{AddsField, known_fields, Pushes, TakesSet}
use Rattle.csp_kinds.specs.Fit.{IsFitOf, TakesField}
use Rattle.csp_kinds.specs.Looking.{fault_in, IsLookedAt, looked_expression, looked_members, looked_refusal, StandsAbove}
use Rattle.csp_kinds.proofs.Fitting.{fit_decided}
use Rattle.csp_kinds.proofs.SetMembers.{every_not_before, every_not_here, every_then, field_here}
use Rattle.csp_kinds.proofs.SetSites.{fault_of_both, field_fault, fine_fits}

-- ---- the members of a field

sorted_some : (vs : List Value) → Rises vs → option_map sorted_values (with_some vs) ≡ with_some vs
sorted_some [] rises = refl
sorted_some (v ∷ vs) rises = ap Some (sorted_already (v ∷ vs) rises)

sorted_same : (o : Option (List Value)) → ((vs : List Value) → o ≡ Some vs → Rises vs) → option_map sorted_values (option_and_then with_some o) ≡ option_and_then with_some o
sorted_same None rise = refl
sorted_same (Some vs) rise = sorted_some vs (rise vs refl)

pub mapped_some : {X Y : Type 0} (f : X → Y) (o : Option X) → is_some (option_map f o) ≡ is_some o
mapped_some f (Some x) = refl
mapped_some f None = refl

pub or_none : {X : Type 0} (f g : Option X) → option_or f g ≡ None → (f ≡ None) × (g ≡ None)
or_none None g e = (refl, e)
or_none (Some x) g e = absurd (cc e)

module _ {A : Type 0} (raw above : RawScript) (s : Above A) (over : StandsAbove raw above s) (d : RawDomain) (l : LookedSet A) (looked : IsLookedAt raw above d l) where
  rise : (vs : List Value) → looked_members l ≡ Some vs → Rises vs
  rise vs is = go (set_expression above d) refl (sym looked.members ∙ is)
    where
      go : (o : Option Expression) → set_expression above d ≡ o → option_and_then (members_with (datatypes_of raw) (members_above raw above)) (set_expression above d) ≡ Some vs → Rises vs
      go None e h = let both = sym (ap (option_and_then (members_with (datatypes_of raw) (members_above raw above))) e) ∙ h in absurd (cc both)
      go (Some x) e h = tree_members_rise raw above d x vs over.names.once e (sym (ap (option_and_then (members_with (datatypes_of raw) (members_above raw above))) e) ∙ h)

  -- what is found of the field is what counts over the types above it
  pub found_above : (found : Option (CodeSet A)) → option_map field_values found ≡ option_map sorted_values (option_and_then with_some (looked_members l)) →
      option_map field_values found ≡ field_members_with (datatypes_of raw) (members_above raw above) (set_expression above d)
  found_above found is = is ∙ sorted_same (looked_members l) rise ∙ ap (option_and_then with_some) looked.members

-- ---- the field sets so far

module _ {A : Type 0} (f : Option Expression → Option (List Value)) (above : RawScript) (before : List RawDomain) (d : RawDomain) (old new : Fields A)
    (so_far : known_fields old ≡ every f (map (set_expression above) before)) where
  and_one : every f (map (set_expression above) (before ++ d ∷ [])) ≡ every f (map (set_expression above) before ++ set_expression above d ∷ [])
  and_one = ap (every f) (map-append (set_expression above) before (d ∷ []))

  sets_and_one : (x : CodeSet A) → Some (field_values x) ≡ f (set_expression above d) → new.sets.items ≡ old.sets.items ++ x ∷ [] →
      new.complete ≡ old.complete → known_fields new ≡ every f (map (set_expression above) (before ++ d ∷ []))
  sets_and_one x is pushed same = go old.complete refl
    where
      go : (b : Bool) → old.complete ≡ b → known_fields new ≡ every f (map (set_expression above) (before ++ d ∷ []))
      go true e =
          let all = sym so_far ∙ ap (λ c. cond c (Some (map field_values old.sets.items)) None) e in
          ap (λ c. cond c (Some (map field_values new.sets.items)) None) (same ∙ e) ∙ ap (λ xs. Some (map field_values xs)) pushed ∙ ap Some (map-append field_values old.sets.items (x ∷ []))
          ∙ sym (every_then f (map (set_expression above) before) (set_expression above d) (map field_values old.sets.items) (field_values x) all (sym is)) ∙ sym and_one
      go false e =
          let none = sym so_far ∙ ap (λ c. cond c (Some (map field_values old.sets.items)) None) e in
          ap (λ c. cond c (Some (map field_values new.sets.items)) None) (same ∙ e) ∙ sym (every_not_before f (map (set_expression above) before) (set_expression above d) none) ∙ sym and_one

  sets_and_none : None ≡ f (set_expression above d) → new.complete ≡ false → known_fields new ≡ every f (map (set_expression above) (before ++ d ∷ []))
  sets_and_none is same =
      ap (λ c. cond c (Some (map field_values new.sets.items)) None) same ∙ sym (every_not_here f (map (set_expression above) before) (set_expression above d) (sym is)) ∙ sym and_one

  pub sets_more : (x : Option (CodeSet A)) → Pushes x old new → option_map field_values x ≡ f (set_expression above d) → known_fields new ≡ every f (map (set_expression above) (before ++ d ∷ []))
  sets_more (Some x) p e = sets_and_one x e p.0 p.1
  sets_more None p e = sets_and_none e p

-- ---- one field of channels

module _ {A : Type 0} (s : Above A) (column : Column) (d : RawDomain) (old : Fields A) (old_fit : Fit A) (new : Fields A) (new_fit : Fit A) (l : LookedSet A)
    (is : (raw above below : RawScript) → StandsAbove raw above s → raw ≡ above ++ below → IsLookedAt raw above d l)
    (taken : TakesField (table_of s.table.now.types) column (looked_expression l) old_fit new_fit)
    (takes : TakesSet l d.place new_fit.some old new) where
  pub adds_field : AddsField s column d old old_fit new new_fit
  adds_field raw above below names before rest fitted stands over at so_far = record {
    known = known;
    sets = sets_more (field_members raw) above before d old new so_far.sets takes.set takes.pushed found;
    fault = subst (IsFaultOf (in_field_sets raw above names [] (before ++ d ∷ []))) (sym takes.fault) sites;
    fine = λ none was. fine_fits (looked_refusal l) d.place new_fit.some (is_some takes.set)
        (or_none (fault_in old.fault) (fault_of_set (looked_refusal l) d.place new_fit.some (is_some takes.set)) (sym takes.fault ∙ none)).1;
    before = λ e. so_far.before (taken.before e);
  }
    where
      looked : IsLookedAt raw above d l
      looked = is raw above (RawChannels names (before ++ d ∷ rest) ∷ below) over stands

      known : IsFitOf raw (above ++ RawChannels names (before ++ d ∷ []) ∷ []) new_fit
      known = taken.fit raw above below names before rest d stands (ap (λ t. t.datatypes) over.table.types) at looked.expression so_far.known

      found : option_map field_values takes.set ≡ field_members raw (set_expression above d)
      found = found_above raw above s over d l looked takes.set takes.is ∙ sym (field_here raw above (RawChannels names (before ++ d ∷ rest) ∷ below) d stands over.names.once)

      fits : MatchBool new_fit.some (SomeFit (types_of raw) (above ++ RawChannels names (before ++ d ∷ []) ∷ [])) (¬ (SomeFit (types_of raw) (above ++ RawChannels names (before ++ d ∷ []) ∷ [])))
      fits = fit_decided raw (above ++ RawChannels names (before ++ d ∷ []) ∷ []) new_fit known

      one : IsFaultOf (in_field_sets raw above names before (d ∷ [])) (fault_of_set (looked_refusal l) d.place new_fit.some (is_some takes.set))
      one =
          let read = subst (λ xs. IsRead (set_expression above d) xs (looked_refusal l)) (sym (append-nil (in_expression (environment_above above) d.set))) looked.read in
          let counts = sym (mapped_some field_values takes.set) ∙ ap is_some found in
          field_fault d.place (types_of raw) (above ++ RawChannels names (before ++ d ∷ []) ∷ []) (in_expression (environment_above above) d.set ++ [])
          (set_expression above d) (field_members raw (set_expression above d)) (looked_refusal l)
          new_fit.some (is_some takes.set) read fits counts

      sites : IsFaultOf (in_field_sets raw above names [] (before ++ d ∷ [])) (option_or (fault_in old.fault) (fault_of_set (looked_refusal l) d.place new_fit.some (is_some takes.set)))
      sites =
          subst (λ xs. IsFaultOf xs (option_or (fault_in old.fault) (fault_of_set (looked_refusal l) d.place new_fit.some (is_some takes.set))))
          (sym (in_more_field_sets raw above names [] before (d ∷ [])))
          (fault_of_both (in_field_sets raw above names [] before) (in_field_sets raw above names before (d ∷ [])) (fault_in old.fault)
          (fault_of_set (looked_refusal l) d.place new_fit.some (is_some takes.set)) so_far.fault one)
