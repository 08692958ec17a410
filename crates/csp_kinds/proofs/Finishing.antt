-- The sets of all declarations.
use Rattle.std.specs.Prelude.{◌↔◌, slice_get, unwrap_or}
use Rattle.std.proofs.lemmas.Bool.{MatchBool-at_true, MatchBool-at_false}
use Rattle.std.proofs.lemmas.List.{length-map}
use Rattle.std.proofs.Common.{◌≡◌, ℕ, Bool, true, false, List, [], ◌∷◌, length, map, Option, Some, None, refl, sym, ap, ◌∙◌}
use Rattle.theory_syntax.specs.Value.{Value}
use Rattle.theory_text.specs.Raw.{RawScript}
use Rattle.theory_checking.specs.Resolving.{every}
use Rattle.theory_checking.specs.Sets.{channel_sets, field_members}
use Rattle.theory_checking.specs.Rules.{HasFieldSets}
use Rattle.csp_names.specs.Scopes.{known_sets}
use Rattle.csp_kinds.specs.declared.pass.SetsSoFar.{SetsSoFar}
use Rattle.csp_kinds.specs.declared.sets.RefusedSet.{RefusedSet}
use Rattle.csp_kinds.specs.declared.sets.Sets.{Sets}
use Rattle.csp_kinds.specs.Channels.{sets_in}
use Rattle.csp_kinds.specs.Pass.{AreFittedChannels, AreSetsSoFar, IsRefusalSoFar}
use Rattle.csp_kinds.specs.Passing.{AreCutOff}
use Rattle.csp_kinds.specs.Sets.{AreSetsOf, IsSetRefusal}
use Rattle.csp_kinds.proofs.Cutting.{all_cut_off, all_fitting}
use Rattle.csp_kinds.proofs.Fitting.{fit_known, fit_some}
use Rattle.csp_kinds.proofs.RefusedSets.{all_fine}

unwrapped : {X : Type 0} (d : X) (xs : List X) → map (λ m. unwrap_or m d) (map Some xs) ≡ xs
unwrapped d [] = refl
unwrapped d (x ∷ xs) = ap (λ ys. x ∷ ys) (unwrapped d xs)

module _ {A : Type 0} (raw : RawScript) (s : SetsSoFar A) (h : AreSetsSoFar raw raw s) where
  abbrev pub sets : Sets A
  sets = record { types = s.table.types; channels = s.channels.field_sets; known = s.fit.known; refused = s.refused }

  fitted : s.fit.some ≡ true → AreFittedChannels raw raw s.channels
  fitted e = MatchBool-at_true (AreFittedChannels raw raw s.channels) (AreCutOff raw raw (sets_in s.channels)) e h.channels

  cut_off : s.fit.some ≡ false → AreCutOff raw raw (sets_in s.channels)
  cut_off e = MatchBool-at_false (AreFittedChannels raw raw s.channels) (AreCutOff raw raw (sets_in s.channels)) e h.channels

  counted : length s.channels.field_sets.items ≡ length (channel_sets raw)
  counted = sym (length-map s.channels.field_sets.items known_sets) ∙ go s.fit.some refl
    where
      go : (b : Bool) → s.fit.some ≡ b → length (sets_in s.channels) ≡ length (channel_sets raw)
      go true e = ap length (fitted e).sets ∙ length-map (channel_sets raw) (every (field_members raw))
      go false e = (cut_off e).counted

  channels : (c : ℕ) (values : List (List Value)) → (slice_get (sets_in s.channels) c ≡ Some (Some values)) ↔ HasFieldSets raw c values
  channels = go s.fit.some refl
    where
      go : (b : Bool) → s.fit.some ≡ b → (c : ℕ) (values : List (List Value)) → (slice_get (sets_in s.channels) c ≡ Some (Some values)) ↔ HasFieldSets raw c values
      go true e = all_fitting raw (sets_in s.channels) (fit_some raw raw s.fit h.fit e) (fitted e).sets
      go false e = all_cut_off raw (sets_in s.channels) (cut_off e)

  refusal : (r : Option RefusedSet) → IsRefusalSoFar raw raw s.fit.some r → IsSetRefusal raw sets r
  refusal (Some r) k = k
  refusal None k = record {
    fine = all_fine raw k.fine;
    known = fit_known raw raw s.fit h.fit k.some;
    nametypes =
        ap (λ t. map Some t.nametypes) h.table.types ∙ ap (λ ms. map Some (map (λ m. unwrap_or m []) ms)) (sym k.nametypes.1) ∙ ap (map Some) (unwrapped [] k.nametypes.0) ∙ k.nametypes.1;
    constructors =
        ap (λ t. map Some t.constructors) h.table.types ∙ ap (λ ms. map Some (map (λ m. unwrap_or m []) ms)) (sym k.constructors.1) ∙ ap (map Some) (unwrapped [] k.constructors.0) ∙ k.constructors.1;
    field_sets = k.channels.0;
    channels = (fitted k.some).sets ∙ sym k.channels.1;
    members = k.channels.1;
  }

  pub finished : AreSetsOf raw sets
  finished = record { types = h.table.types; counted = counted; channels = channels; refusal = refusal s.refused h.refusal }
