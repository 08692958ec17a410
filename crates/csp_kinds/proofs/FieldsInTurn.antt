-- The fields of channels one after the other.
use Rattle.std.specs.Prelude.{take, drop, Ok, Err, OnOk, Result}
use Rattle.std.proofs.lemmas.List.{take_all}
use Rattle.std.proofs.Common.{◌≡◌, ◌<◌, ◌≤◌, ℕ, ◌+◌, Bool, true, false, List, [], ◌∷◌, ◌++◌, length, get_or, map, None, refl, sym, ap, ◌∙◌, subst}
use Rattle.theory_text.specs.Raw.{RawChannels}
use Rattle.theory_checking.proofs.FitsAbove.{fit_above}
use Rattle.theory_checking.specs.Sets.{types_of}
use Rattle.csp_inference.specs.Numbering.{numbering_of}
use Rattle.csp_inference.specs.State.{state_in}
use Rattle.csp_parse.specs.declared.declarations.Domain.{Domain}
use Rattle.csp_parse.specs.Declarations.{domain_of}
use Rattle.csp_inference.specs.declared.fitted_sets.Column.{Column}
use Rattle.csp_inference.proofs.OneMore.{known_heads}
use Rattle.csp_kinds.specs.declared.fields.Fields.{Fields}
use Rattle.csp_kinds.specs.declared.fit.Fit.{Fit}
use Rattle.csp_kinds.specs.declared.looking.Above.{Above}
use Rattle.csp_kinds.specs.Fields.{AddsField, AreFieldsOf, IsNextOf}
use Rattle.csp_kinds.specs.Fit.{IsFitOf}
use Rattle.csp_kinds.proofs.Fitting.{fit_known, fit_none, is_fit, is_misfit}
use Rattle.csp_kinds.proofs.Turns.{counted_so_far, cut_there, one_longer}

pub on_ok : {T E : Type 0} {P Q : Type 0} (r : Result T E) → (P → Q) → OnOk r P → OnOk r Q
on_ok (Ok x) f p = f p
on_ok (Err e) f p = tt

pub on_ok_both : {T E : Type 0} {P Q R : Type 0} (r : Result T E) → (P → Q → R) → OnOk r P → OnOk r Q → OnOk r R
on_ok_both (Ok x) f p q = f p q
on_ok_both (Err e) f p q = tt

module _ {A : Type 0} (s : Above A) (start : Fit A) (first channels : ℕ) (ds : List (Domain A)) (next : IsNextOf s start first channels (map domain_of ds)) where
  -- what is known above is known with the names of the channels
  heads_known : IsFitOf next.raw (next.above ++ RawChannels next.names [] ∷ []) start
  heads_known = go start.some refl
    where
      go : (b : Bool) → start.some ≡ b → IsFitOf next.raw (next.above ++ RawChannels next.names [] ∷ []) start
      go true e =
          is_fit next.raw (next.above ++ RawChannels next.names [] ∷ []) start e
          (known_heads next.raw next.above next.below next.names (map domain_of ds) (numbering_of start.known.numbering) start.known.equations.next (state_in start.known.equations.state) next.stands (fit_known next.raw next.above start next.known e))
      go false e = is_misfit next.raw (next.above ++ RawChannels next.names [] ∷ []) start e (λ fits. fit_none next.raw next.above start next.known e (fit_above (types_of next.raw) next.above (RawChannels next.names [] ∷ []) fits))

  pub no_fields : (fields : Fields A) → fields.sets.items ≡ [] → fields.complete ≡ true → fields.fault ≡ None → AreFieldsOf next.raw next.above next.names [] start.some fields start
  no_fields fields empty complete none = record {
    known = heads_known;
    sets = rw (complete, empty) refl;
    fault = rw none tt;
    fine = λ e was. was;
    before = λ e. e;
  }

  module _ (i : ℕ) (d : Domain A) (within : i < length ds) (read : d ≡ get_or ds i d) (column : Column) (at_first : column.first ≡ first) (so_many : column.channels ≡ channels) (at_field : column.field ≡ i)
      (old new : Fields A) (old_fit new_fit : Fit A) (adds : AddsField s column (domain_of d) old old_fit new new_fit) where
    pub one_field : AreFieldsOf next.raw next.above next.names (map domain_of (take i ds)) start.some old old_fit → AreFieldsOf next.raw next.above next.names (map domain_of (take (i + 1) ds)) start.some new new_fit
    one_field so_far =
        subst (λ xs. AreFieldsOf next.raw next.above next.names xs start.some new new_fit) (sym (one_longer domain_of ds i d within read))
        (adds next.raw next.above next.below next.names (map domain_of (take i ds)) (map domain_of (drop (i + 1) ds)) start.some
        (next.stands ∙ ap (λ xs. next.above ++ RawChannels next.names xs ∷ next.below) (cut_there domain_of ds i d within read)) next.over
        (record { first = at_first ∙ next.number; channels = so_many ∙ next.counted; field = at_field ∙ sym (counted_so_far domain_of ds i d within read) }) so_far)

  pub all_fields : (i : ℕ) (fields : Fields A) (fit : Fit A) → length ds ≤ i → AreFieldsOf next.raw next.above next.names (map domain_of (take i ds)) start.some fields fit → AreFieldsOf next.raw next.above next.names (map domain_of ds) start.some fields fit
  all_fields i fields fit over h = subst (λ xs. AreFieldsOf next.raw next.above next.names (map domain_of xs) start.some fields fit) (take_all i ds over) h
