-- One declaration more is taken up.
use Rattle.std.specs.Prelude.{MatchBool, cond, is_some, option_and_then, unwrap_or, replicate}
use Rattle.std.specs.Option.{option_or}
use Rattle.std.proofs.lemmas.Bool.{MatchBool-at_true, MatchBool-at_false}
use Rattle.std.proofs.lemmas.List.{append_assoc, length-map}
use Rattle.std.proofs.Common.{◌≡◌, ℕ, Bool, true, false, List, [], ◌∷◌, ◌++◌, append-nil, length, map, Option, Some, None, refl, sym, ap, ap₂, ◌∙◌, subst}
use Rattle.theory_syntax.specs.Value.{Value}
use Rattle.theory_text.specs.Raw.{RawName, RawDomain, RawDeclaration, RawDatatype, RawNametype, RawChannels, RawEquation, RawAssertion, RawScript}
use Rattle.theory_checking.specs.Names.{environment_above}
use Rattle.theory_checking.specs.Resolving.{every}
use Rattle.theory_checking.specs.Sets.{types_of, types_declared, set_expression, nametypes_declared, clauses_declared, channels_declared, nametype_sets, channel_sets, datatypes_of, field_members, members_above, members_with, number_of_events, with_nametype}
use Rattle.theory_checking.specs.Sites.{in_expression, in_heads, in_field_sets, in_declaration}
use Rattle.theory_checking.proofs.Counts.{length-replicate}
use Rattle.theory_checking.proofs.FitsAbove.{fit_above}
use Rattle.theory_checking.proofs.ScriptThere.{members_one_more}
use Rattle.csp_expression.specs.Evaluation.{members_listed, table_of}
use Rattle.csp_inference.specs.Numbering.{numbering_of}
use Rattle.csp_inference.specs.State.{state_in}
use Rattle.csp_inference.proofs.OneMore.{known_others}
use Rattle.csp_kinds.specs.declared.channels.Channels.{Channels}
use Rattle.csp_kinds.specs.declared.faults.SetFault.{SetFault}
use Rattle.csp_kinds.specs.declared.fields.Fields.{Fields}
use Rattle.csp_kinds.specs.declared.fit.Fit.{Fit}
use Rattle.csp_kinds.specs.declared.looking.LookedSet.{LookedSet}
use Rattle.csp_kinds.specs.declared.pass.Position.{Position}
use Rattle.csp_kinds.specs.declared.pass.SetsSoFar.{SetsSoFar}
use Rattle.csp_kinds.specs.declared.table.Table.{Table}
use Rattle.csp_kinds.specs.Channels.{HasHeads, sets_in}
use Rattle.csp_kinds.specs.Faults.{IsFaultOf, fault_of_set}
use Rattle.csp_kinds.specs.Fields.{AreFieldsOf, known_fields}
use Rattle.csp_kinds.specs.Fit.{IsFitOf, TakesNametype}
use Rattle.csp_kinds.specs.Looking.{fault_in, IsLookedAt, IsTableOf, looked_expression, looked_members, looked_refusal}
use Rattle.csp_kinds.specs.Members.{channels_above, IsCount}
use Rattle.csp_kinds.specs.Pass.{AreFittedChannels, AreSetsSoFar, first_refusal, IsPosition, TakesUp}
use Rattle.csp_kinds.specs.Passing.{AreCutOff, declares_sets}
use Rattle.csp_kinds.proofs.Cutting.{channels_begin, cut_before, cut_here}
use Rattle.csp_kinds.proofs.Fitting.{fit_decided, fit_known, fit_none, fit_some, is_fit, is_misfit, match_false, match_true}
use Rattle.csp_kinds.proofs.Heads.{misfit_heads_fine}
use Rattle.csp_kinds.proofs.Numbered.{nametypes_above}
use Rattle.csp_kinds.proofs.RefusedSets.{one_refusal_more, other_refusal}
use Rattle.csp_kinds.proofs.SetMembers.{channels_and_copies, channels_and_other, members_and_other}
use Rattle.csp_kinds.proofs.SetSites.{fault_of_both, fine_fits, nametype_fault}

-- ---- the channels so far, by whether kinds fit

abbrev pub AreChannelsSoFar : {A : Type 0} → RawScript → RawScript → Bool → Channels A → Type 0
AreChannelsSoFar raw above fits channels = MatchBool fits (AreFittedChannels raw above channels) (AreCutOff raw above (sets_in channels))

module _ {A : Type 0} (raw above : RawScript) (d : RawDeclaration) (old new : Fit A) (was : IsFitOf raw above old) (is : IsFitOf raw (above ++ d ∷ []) new) (before : new.some ≡ true → old.some ≡ true) where
  -- a declaration without channels
  pub same_channels : (channels : Channels A) → channels_declared above d ≡ [] → AreChannelsSoFar raw above old.some channels → AreChannelsSoFar raw (above ++ d ∷ []) new.some channels
  same_channels channels none h = go new.some old.some refl refl
    where
      cs : channels_above raw (above ++ d ∷ []) ≡ channels_above raw above
      cs = channels_and_other raw above d none

      zero_more : 0 ≡ length (channels_declared above d)
      zero_more = sym (ap length none)

      go : (n o : Bool) → new.some ≡ n → old.some ≡ o → AreChannelsSoFar raw (above ++ d ∷ []) new.some channels
      go true o e f =
          let k = MatchBool-at_true (AreFittedChannels raw above channels) (AreCutOff raw above (sets_in channels)) (before e) h in
          match_true new.some (AreFittedChannels raw (above ++ d ∷ []) channels) (AreCutOff raw (above ++ d ∷ []) (sets_in channels)) e (record { sets = k.sets ∙ sym cs; events = k.events })
      go false true e f =
          let k = MatchBool-at_true (AreFittedChannels raw above channels) (AreCutOff raw above (sets_in channels)) f h in
          match_false new.some (AreFittedChannels raw (above ++ d ∷ []) channels) (AreCutOff raw (above ++ d ∷ []) (sets_in channels)) e
          (subst (AreCutOff raw (above ++ d ∷ [])) (append-nil (sets_in channels)) (cut_here raw above d (sets_in channels) 0 zero_more (fit_some raw above old was f) (fit_none raw (above ++ d ∷ []) new is e) k.sets))
      go false false e f =
          let k = MatchBool-at_false (AreFittedChannels raw above channels) (AreCutOff raw above (sets_in channels)) f h in
          match_false new.some (AreFittedChannels raw (above ++ d ∷ []) channels) (AreCutOff raw (above ++ d ∷ []) (sets_in channels)) e
          (subst (AreCutOff raw (above ++ d ∷ [])) (append-nil (sets_in channels)) (cut_before raw above d (sets_in channels) 0 zero_more k))

-- ---- a declaration without sets

module _ {A : Type 0} (raw above below : RawScript) (d : RawDeclaration) (stands : raw ≡ above ++ d ∷ below) (at : Position A) (position : IsPosition raw above at) (s : SetsSoFar A) (h : AreSetsSoFar raw above s) where
  pub other_taken : declares_sets d ≡ false → types_declared above d ≡ [] → nametypes_declared above d ≡ [] → clauses_declared above d ≡ [] → channels_declared above d ≡ [] → AreSetsSoFar raw (above ++ d ∷ []) s
  other_taken none ts ns ks cs = record {
    table = subst (λ ms. IsTableOf (datatypes_of raw) ms s.table) (sym (members_and_other raw above d ts)) h.table;
    fit = fit;
    channels = same_channels raw above d s.fit s.fit h.fit fit (λ e. e) s.channels cs h.channels;
    refusal = other_refusal raw above below d stands s.fit.some s.fit.some at.passed position.passed s.refused h.refusal none refl (members_and_other raw above d ts) (channels_and_other raw above d cs);
  }
    where
      fit : IsFitOf raw (above ++ d ∷ []) s.fit
      fit = go s.fit.some refl
        where
          go : (b : Bool) → s.fit.some ≡ b → IsFitOf raw (above ++ d ∷ []) s.fit
          go true e =
              is_fit raw (above ++ d ∷ []) s.fit e (known_others raw above (numbering_of s.fit.known.numbering) s.fit.known.equations.next (state_in s.fit.known.equations.state) d ns ks cs (fit_known raw above s.fit h.fit e))
          go false e = is_misfit raw (above ++ d ∷ []) s.fit e (λ fits. fit_none raw above s.fit h.fit e (fit_above (types_of raw) above (d ∷ []) fits))

pub other_up : {A : Type 0} (at : Position A) (s : SetsSoFar A) (d : RawDeclaration) → declares_sets d ≡ false → TakesUp at d s s
other_up at s (RawDatatype name cs) none raw above below stands position h = absurd (cc none)
other_up at s (RawEquation name ns p) none raw above below stands position h = other_taken raw above below (RawEquation name ns p) stands at position s h refl refl refl refl refl
other_up at s (RawAssertion place n a p) none raw above below stands position h = other_taken raw above below (RawAssertion place n a p) stands at position s h refl refl refl refl refl
other_up at s (RawNametype name domain) none raw above below stands position h = absurd (cc none)
other_up at s (RawChannels names domains) none raw above below stands position h = absurd (cc none)

-- ---- a nametype

module _ {A : Type 0} (raw above below : RawScript) (name : RawName) (domain : RawDomain) (stands : raw ≡ above ++ RawNametype name domain ∷ below) (at : Position A) (position : IsPosition raw above at) (s : SetsSoFar A) (h : AreSetsSoFar raw above s)
    (l : LookedSet A) (looked : IsLookedAt raw above domain l) where
  longer_table : members_above raw (above ++ RawNametype name domain ∷ []) ≡ with_nametype (looked_members l) (members_above raw above)
  longer_table = members_one_more raw above (RawNametype name domain) ∙ ap (λ m. with_nametype m (members_above raw above)) (sym looked.members)

  pub numbered_above : (n : ℕ) → n ≡ length s.table.types.nametypes.items → n ≡ length (nametype_sets above)
  numbered_above n is =
      is ∙ sym (length-map s.table.types.nametypes.items members_listed) ∙ ap (λ t. length t.nametypes) h.table.types ∙ length-map (members_above raw above).nametypes (λ m. unwrap_or m []) ∙ nametypes_above raw above

  site : (fit : Fit A) → IsFitOf raw (above ++ RawNametype name domain ∷ []) fit → IsFaultOf (in_declaration raw above (RawNametype name domain)) (fault_of_set (looked_refusal l) domain.place fit.some (is_some (looked_members l)))
  site fit is =
      nametype_fault domain.place (types_of raw) (above ++ RawNametype name domain ∷ []) (in_expression (environment_above above) domain.set) (set_expression above domain)
      (option_and_then (members_with (datatypes_of raw) (members_above raw above)) (set_expression above domain)) (looked_refusal l) fit.some (is_some (looked_members l)) looked.read
      (fit_decided raw (above ++ RawNametype name domain ∷ []) fit is) (ap is_some looked.members)

  pub nametype_taken : (n : ℕ) (fit : Fit A) (fault : Option SetFault) (table : Table A) → n ≡ length s.table.types.nametypes.items → TakesNametype (table_of s.table.types) n (looked_expression l) s.fit fit →
      fault_in fault ≡ fault_of_set (looked_refusal l) domain.place fit.some (is_some (looked_members l)) → IsTableOf (datatypes_of raw) (with_nametype (looked_members l) (members_above raw above)) table →
      AreSetsSoFar raw (above ++ RawNametype name domain ∷ []) (record { table = table; fit = fit; channels = s.channels; refused = first_refusal s.refused at.passed fault })
  nametype_taken n fit fault table number takes is longer =
      let fits = takes.fit raw above below name domain stands (ap (λ t. t.datatypes) h.table.types) (numbered_above n number) looked.expression h.fit in
      record {
        table = subst (λ ms. IsTableOf (datatypes_of raw) ms table) (sym longer_table) longer;
        fit = fits;
        channels = same_channels raw above (RawNametype name domain) s.fit fit h.fit fits takes.before s.channels refl h.channels;
        refusal =
            one_refusal_more raw above below (RawNametype name domain) stands s.fit.some fit.some at.passed position.passed s.refused h.refusal fault refl
            (subst (IsFaultOf (in_declaration raw above (RawNametype name domain))) (sym is) (site fit fits))
            (λ none was. fine_fits (looked_refusal l) domain.place fit.some (is_some (looked_members l)) (sym is ∙ none));
      }

-- ---- channels

-- as many as the declarations above declare
pub channels_numbered : {A : Type 0} (raw above : RawScript) (s : SetsSoFar A) → AreSetsSoFar raw above s → length (sets_in s.channels) ≡ length (channel_sets above)
channels_numbered raw above s h = go s.fit.some refl
  where
    go : (b : Bool) → s.fit.some ≡ b → length (sets_in s.channels) ≡ length (channel_sets above)
    go true e = ap length (MatchBool-at_true (AreFittedChannels raw above s.channels) (AreCutOff raw above (sets_in s.channels)) e h.channels).sets ∙ length-map (channel_sets above) (every (field_members raw))
    go false e = (MatchBool-at_false (AreFittedChannels raw above s.channels) (AreCutOff raw above (sets_in s.channels)) e h.channels).counted

module _ {A : Type 0} (raw above below : RawScript) (names : List RawName) (domains : List RawDomain) (stands : raw ≡ above ++ RawChannels names domains ∷ below) (at : Position A) (position : IsPosition raw above at) (s : SetsSoFar A) (h : AreSetsSoFar raw above s)
    (fields : Fields A) (fit : Fit A) (are : AreFieldsOf raw above names domains s.fit.some fields fit) where
  d : RawDeclaration
  d = RawChannels names domains

  module _ (channels : Channels A) (own : Option (List (List Value))) (is_own : own ≡ cond fit.some (known_fields fields) None) (added : sets_in channels ≡ sets_in s.channels ++ replicate (length names) own) (head fault : Option SetFault)
      (heads : HasHeads names own s.channels channels head) where
    many : length names ≡ length (channels_declared above (RawChannels names domains))
    many = sym (length-replicate (length names) (map (set_expression above) domains))

    fitted : fit.some ≡ true → AreFittedChannels raw above s.channels
    fitted e = MatchBool-at_true (AreFittedChannels raw above s.channels) (AreCutOff raw above (sets_in s.channels)) (are.before e) h.channels

    all_sets : fit.some ≡ true → sets_in channels ≡ channels_above raw (above ++ RawChannels names domains ∷ [])
    all_sets e =
        let this : own ≡ every (field_members raw) (map (set_expression above) domains) = is_own ∙ ap (λ b. cond b (known_fields fields) None) e ∙ are.sets in
        added ∙ ap₂ (λ cs o. cs ++ replicate (length names) o) (fitted e).sets this ∙ sym (channels_and_copies raw above names domains)

    counted : (e : fit.some ≡ true) → IsCount channels.events (number_of_events (sets_in channels)) × IsFaultOf (in_heads raw (above ++ RawChannels names domains ∷ []) (length (sets_in s.channels)) names) (fault_in head)
    counted e =
        let begins = channels_begin raw (above ++ RawChannels names domains ∷ []) below (stands ∙ sym (append_assoc above (RawChannels names domains ∷ []) below)) in
        heads raw (above ++ RawChannels names domains ∷ []) begins.0 (fit_some raw (above ++ RawChannels names domains ∷ []) fit are.known e) (begins.1 ∙ ap (λ cs. cs ++ begins.0) (sym (all_sets e))) (fitted e).events

    none_own : fit.some ≡ false → own ≡ None
    none_own e = is_own ∙ ap (λ b. cond b (known_fields fields) None) e

    pub channels_so_far : AreChannelsSoFar raw (above ++ RawChannels names domains ∷ []) fit.some channels
    channels_so_far = go fit.some s.fit.some refl refl
      where
        cut : fit.some ≡ false → AreCutOff raw (above ++ RawChannels names domains ∷ []) (sets_in s.channels ++ replicate (length names) None) → AreChannelsSoFar raw (above ++ RawChannels names domains ∷ []) fit.some channels
        cut e k =
            match_false fit.some (AreFittedChannels raw (above ++ RawChannels names domains ∷ []) channels) (AreCutOff raw (above ++ RawChannels names domains ∷ []) (sets_in channels)) e
            (subst (AreCutOff raw (above ++ RawChannels names domains ∷ [])) (sym (added ∙ ap (λ o. sets_in s.channels ++ replicate (length names) o) (none_own e))) k)

        go : (n o : Bool) → fit.some ≡ n → s.fit.some ≡ o → AreChannelsSoFar raw (above ++ RawChannels names domains ∷ []) fit.some channels
        go true o e f =
            match_true fit.some (AreFittedChannels raw (above ++ RawChannels names domains ∷ []) channels) (AreCutOff raw (above ++ RawChannels names domains ∷ []) (sets_in channels)) e
            (record { sets = all_sets e; events = (counted e).0 })
        go false true e f =
            cut e (cut_here raw above (RawChannels names domains) (sets_in s.channels) (length names) many (fit_some raw above s.fit h.fit f) (fit_none raw (above ++ RawChannels names domains ∷ []) fit are.known e)
            (MatchBool-at_true (AreFittedChannels raw above s.channels) (AreCutOff raw above (sets_in s.channels)) f h.channels).sets)
        go false false e f =
            cut e (cut_before raw above (RawChannels names domains) (sets_in s.channels) (length names) many (MatchBool-at_false (AreFittedChannels raw above s.channels) (AreCutOff raw above (sets_in s.channels)) f h.channels))

    -- the first channel has the number of those above
    first_number : length (sets_in s.channels) ≡ length (channel_sets above)
    first_number = channels_numbered raw above s h

    head_sites : (no_head : fit.some ≡ false → fault_in head ≡ None) → IsFaultOf (in_heads raw (above ++ RawChannels names domains ∷ []) (length (channel_sets above)) names) (fault_in head)
    head_sites no_head = go fit.some refl
      where
        go : (b : Bool) → fit.some ≡ b → IsFaultOf (in_heads raw (above ++ RawChannels names domains ∷ []) (length (channel_sets above)) names) (fault_in head)
        go true e = subst (λ c. IsFaultOf (in_heads raw (above ++ RawChannels names domains ∷ []) c names) (fault_in head)) first_number (counted e).1
        go false e =
            subst (IsFaultOf (in_heads raw (above ++ RawChannels names domains ∷ []) (length (channel_sets above)) names)) (sym (no_head e))
            (misfit_heads_fine raw (above ++ RawChannels names domains ∷ []) (length (channel_sets above)) names (fit_none raw (above ++ RawChannels names domains ∷ []) fit are.known e))

    or_nothing : {X : Type 0} (f g : Option X) → option_or f g ≡ None → g ≡ None
    or_nothing None g e = e
    or_nothing (Some x) g e = absurd (cc e)

    pub channels_taken : fault_in fault ≡ option_or (fault_in head) (fault_in fields.fault) → (fit.some ≡ false → fault_in head ≡ None) →
        AreSetsSoFar raw (above ++ RawChannels names domains ∷ []) (record { table = s.table; fit = fit; channels = channels; refused = first_refusal s.refused at.passed fault })
    channels_taken is no_head = record {
      table = subst (λ ms. IsTableOf (datatypes_of raw) ms s.table) (sym (members_and_other raw above (RawChannels names domains) refl)) h.table;
      fit = are.known;
      channels = channels_so_far;
      refusal =
          one_refusal_more raw above below (RawChannels names domains) stands s.fit.some fit.some at.passed position.passed s.refused h.refusal fault refl
          (subst (IsFaultOf (in_declaration raw above (RawChannels names domains))) (sym is)
          (fault_of_both (in_heads raw (above ++ RawChannels names domains ∷ []) (length (channel_sets above)) names) (in_field_sets raw above names [] domains) (fault_in head) (fault_in fields.fault) (head_sites no_head) are.fault))
          (λ none was. are.fine (or_nothing (fault_in head) (fault_in fields.fault) (sym is ∙ none)) was);
    }
