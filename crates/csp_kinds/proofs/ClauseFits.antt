-- Whether some kinds fit one clause of a datatype more.
use Rattle.std.proofs.Common.{◌≡◌, Bool, true, false, List, [], ◌∷◌, ◌++◌, map, refl, sym, ap, ◌∙◌, subst}
use Rattle.std.proofs.lemmas.List.{append_assoc, map-append}
use Rattle.theory_syntax.specs.Types.{Types}
use Rattle.theory_semantics.specs.Kinds.Kind.{InTurn, BeginsInTurn}
use Rattle.theory_text.specs.Raw.{RawName, RawClause, RawDeclaration, RawDatatype, RawScript}
use Rattle.theory_checking.specs.Sets.{IsSetOf, clause_sets, nametypes_declared, clauses_declared, channels_declared, nametype_sets, constructor_sets, channel_sets, types_of}
use Rattle.theory_checking.specs.Sites.{with_clause}
use Rattle.theory_checking.specs.Rules.{SomeFit}
use Rattle.theory_checking.proofs.AskingSets.{first_sets_fit}
use Rattle.theory_checking.proofs.FitsAbove.{fit_above}
use Rattle.theory_checking.proofs.ScriptThere.{behind_one_more}
use Rattle.csp_inference.specs.Numbering.{numbering_of}
use Rattle.csp_inference.specs.State.{state_in}
use Rattle.csp_inference.proofs.OneMore.{known_clause, known_others}
use Rattle.csp_kinds.specs.declared.fit.Fit.{Fit}
use Rattle.csp_kinds.specs.Fit.{IsFitOf}
use Rattle.csp_kinds.proofs.Fitting.{fit_known, fit_none, is_fit, is_misfit}

-- ---- where kinds fit clauses, some fit the first ones

begins : {A B : Type 0} (P : A → B → Type 0) (xs : List A) (ys : List B) → InTurn P xs ys → BeginsInTurn P xs ys
begins P [] ys h = tt
begins P (x ∷ xs) (y ∷ ys) h = (h.0, begins P xs ys h.1)
begins P (x ∷ xs) [] h = absurd h

rows_begin : {A B : Type 0} (P : A → B → Type 0) (xs : List (List A)) (ys : List (List B)) → InTurn (InTurn P) xs ys → BeginsInTurn (BeginsInTurn P) xs ys
rows_begin P [] ys h = tt
rows_begin P (x ∷ xs) (y ∷ ys) h = (begins P x y h.0, rows_begin P xs ys h.1)
rows_begin P (x ∷ xs) [] h = absurd h

begins_less : {A B : Type 0} (P : A → B → Type 0) (xs vs : List A) (ys : List B) → BeginsInTurn P (xs ++ vs) ys → BeginsInTurn P xs ys
begins_less P [] vs ys h = tt
begins_less P (x ∷ xs) vs (y ∷ ys) h = (h.0, begins_less P xs vs ys h.1)
begins_less P (x ∷ xs) vs [] h = absurd h

module _ (types : Types) (above : RawScript) (name : RawName) (before rest : List RawClause) where
  abbrev short : RawDeclaration
  short = RawDatatype name before

  abbrev long : RawDeclaration
  long = RawDatatype name (before ++ rest)

  same_nametypes : nametype_sets (above ++ long ∷ []) ≡ nametype_sets (above ++ short ∷ [])
  same_nametypes = behind_one_more nametypes_declared above long ∙ sym (behind_one_more nametypes_declared above short)

  same_channels : channel_sets (above ++ long ∷ []) ≡ channel_sets (above ++ short ∷ [])
  same_channels = behind_one_more channels_declared above long ∙ sym (behind_one_more channels_declared above short)

  more_constructors : constructor_sets (above ++ long ∷ []) ≡ constructor_sets (above ++ short ∷ []) ++ map (clause_sets above) rest
  more_constructors =
      behind_one_more clauses_declared above long ∙ ap (λ z. constructor_sets above ++ z) (map-append (clause_sets above) before rest)
      ∙ sym (append_assoc (constructor_sets above) (map (clause_sets above) before) (map (clause_sets above) rest))
      ∙ ap (λ z. z ++ map (clause_sets above) rest) (sym (behind_one_more clauses_declared above short))

  pub fit_first_clauses : SomeFit types (above ++ RawDatatype name (before ++ rest) ∷ []) → SomeFit types (above ++ RawDatatype name before ∷ [])
  fit_first_clauses fit = first_sets_fit types (above ++ short ∷ []) fit.0 (record {
    nametypes = subst (λ z. BeginsInTurn (IsSetOf types fit.0) z fit.0.nametypes) same_nametypes (begins (IsSetOf types fit.0) (nametype_sets (above ++ long ∷ [])) fit.0.nametypes fit.1.nametypes);
    constructors = begins_less (BeginsInTurn (IsSetOf types fit.0)) (constructor_sets (above ++ short ∷ [])) (map (clause_sets above) rest) fit.0.constructors
        (subst (λ z. BeginsInTurn (BeginsInTurn (IsSetOf types fit.0)) z fit.0.constructors) more_constructors
        (rows_begin (IsSetOf types fit.0) (constructor_sets (above ++ long ∷ [])) fit.0.constructors fit.1.constructors));
    channels = subst (λ z. BeginsInTurn (BeginsInTurn (IsSetOf types fit.0)) z fit.0.channels) same_channels
        (rows_begin (IsSetOf types fit.0) (channel_sets (above ++ long ∷ [])) fit.0.channels fit.1.channels);
  })

-- ---- what is known goes on

-- the name of one constructor more, before its fields
pub clause_begins : {A : Type 0} (raw above below : RawScript) (name : RawName) (before more : List RawClause) (c : RawClause) (fit : Fit A) →
    raw ≡ above ++ RawDatatype name (before ++ c ∷ more) ∷ below →
    IsFitOf raw (above ++ RawDatatype name before ∷ []) fit → IsFitOf raw (with_clause above name before c.name []) fit
clause_begins raw above below name before more c fit stands h = go fit.some refl
  where
    go : (b : Bool) → fit.some ≡ b → IsFitOf raw (with_clause above name before c.name []) fit
    go true e =
        is_fit raw (with_clause above name before c.name []) fit e
        (known_clause raw above below name before more c.name c.fields (numbering_of fit.known.numbering) fit.known.equations.next (state_in fit.known.equations.state)
        stands (fit_known raw (above ++ RawDatatype name before ∷ []) fit h e))
    go false e =
        is_misfit raw (with_clause above name before c.name []) fit e
        (λ fits. fit_none raw (above ++ RawDatatype name before ∷ []) fit h e (fit_first_clauses (types_of raw) above name before (record { name = c.name; fields = [] } ∷ []) fits))

-- the name of a datatype, before its clauses
pub datatype_begins : {A : Type 0} (raw above : RawScript) (name : RawName) (fit : Fit A) → IsFitOf raw above fit → IsFitOf raw (above ++ RawDatatype name [] ∷ []) fit
datatype_begins raw above name fit h = go fit.some refl
  where
    go : (b : Bool) → fit.some ≡ b → IsFitOf raw (above ++ RawDatatype name [] ∷ []) fit
    go true e =
        is_fit raw (above ++ RawDatatype name [] ∷ []) fit e
        (known_others raw above (numbering_of fit.known.numbering) fit.known.equations.next (state_in fit.known.equations.state) (RawDatatype name []) refl refl refl (fit_known raw above fit h e))
    go false e = is_misfit raw (above ++ RawDatatype name [] ∷ []) fit e (λ fits. fit_none raw above fit h e (fit_above (types_of raw) above (RawDatatype name [] ∷ []) fits))
