-- The first fault of a set, and of sites one after the other.
use Rattle.std.specs.Prelude.{MatchBool, is_some}
use Rattle.std.specs.Option.{option_or}
use Rattle.std.proofs.Common.{◌≡◌, Bool, true, false, List, ◌∷◌, ◌++◌, Option, Some, None, refl, sym, subst}
use Rattle.theory_syntax.specs.Value.{Value}
use Rattle.theory_syntax.specs.Expression.{Expression}
use Rattle.theory_syntax.specs.Types.{Types}
use Rattle.theory_text.specs.Place.{Place}
use Rattle.theory_text.specs.Raw.{RawScript}
use Rattle.theory_checking.specs.Sites.{Site, NametypeSet, FieldSet}
use Rattle.theory_checking.specs.Faults.{KindFault}
use Rattle.theory_checking.specs.Rules.{SomeFit}
use Rattle.theory_checking.specs.Walks.{AllFine, IsStoppedAt}
use Rattle.theory_checking.proofs.FineSites.{field_fine}
use Rattle.theory_checking.proofs.SingleSites.{refused_nametype_fine, nametype_kind_stops, no_value_stops, nametype_fine, refused_field_fine, field_kind_stops, no_member_stops}
use Rattle.theory_checking.proofs.Walking.{fine_both, stopped_after, stopped_at_first, stopped_behind, stopped_in_first}
use Rattle.csp_kinds.specs.Faults.{IsFaultOf, IsRead, fault_at, fault_of_set}

-- the first fault of both
pub fault_of_both : (xs ys : List Site) (f g : Option (KindFault × Place)) → IsFaultOf xs f → IsFaultOf ys g → IsFaultOf (xs ++ ys) (option_or f g)
fault_of_both xs ys (Some f) g h k = stopped_in_first xs ys h
fault_of_both xs ys None (Some g) h k = stopped_behind xs ys h k
fault_of_both xs ys None None h k = fine_both xs ys h k

module _ (p : Place) (types : Types) (so_far : RawScript) (behind : List Site) where
  abbrev pub Fits : Bool → Type 0
  Fits fits = MatchBool fits (SomeFit types so_far) (¬ (SomeFit types so_far))

  nametype_read : (e : Expression) (ms : Option (List Value)) (fits : Bool) → AllFine behind → Fits fits → IsFaultOf (NametypeSet p types so_far (Some e) ms ∷ behind) (fault_at p fits (is_some ms))
  nametype_read e ms false fine h = stopped_at_first (NametypeSet p types so_far (Some e) ms) behind (nametype_kind_stops p types so_far e ms h)
  nametype_read e None true fine h = stopped_at_first (NametypeSet p types so_far (Some e) None) behind (no_value_stops p types so_far e h)
  nametype_read e (Some vs) true fine h = (nametype_fine p types so_far (Some e) vs h, fine)

  -- the set of a nametype
  pub nametype_fault : (set : Option Expression) (ms : Option (List Value)) (refusal : Option (KindFault × Place)) (fits counts : Bool) → IsRead set behind refusal → Fits fits → counts ≡ is_some ms →
      IsFaultOf (NametypeSet p types so_far set ms ∷ behind) (fault_of_set refusal p fits counts)
  nametype_fault set ms (Some f) fits counts read h same =
      subst (λ s. IsStoppedAt (NametypeSet p types so_far s ms ∷ behind) f.0 f.1) (sym read.1) (stopped_after (NametypeSet p types so_far None ms) behind (refused_nametype_fine p types so_far ms) read.0)
  nametype_fault set ms None fits counts read h same =
      let P : Option Expression → Type 0 = λ s. IsFaultOf (NametypeSet p types so_far s ms ∷ behind) (fault_at p fits counts) in
      let Q : Bool → Type 0 = λ b. IsFaultOf (NametypeSet p types so_far (Some read.1.0) ms ∷ behind) (fault_at p fits b) in
      subst P (sym read.1.1) (subst Q (sym same) (nametype_read read.1.0 ms fits read.0 h))

  field_read : (e : Expression) (ms : Option (List Value)) (fits : Bool) → AllFine behind → Fits fits → IsFaultOf (FieldSet p types so_far (Some e) ms ∷ behind) (fault_at p fits (is_some ms))
  field_read e ms false fine h = stopped_at_first (FieldSet p types so_far (Some e) ms) behind (field_kind_stops p types so_far e ms h)
  field_read e None true fine h = stopped_at_first (FieldSet p types so_far (Some e) None) behind (no_member_stops p types so_far e h)
  field_read e (Some vs) true fine h = (field_fine p types so_far (Some e) vs h, fine)

  -- the set of a field
  pub field_fault : (set : Option Expression) (ms : Option (List Value)) (refusal : Option (KindFault × Place)) (fits counts : Bool) → IsRead set behind refusal → Fits fits → counts ≡ is_some ms →
      IsFaultOf (FieldSet p types so_far set ms ∷ behind) (fault_of_set refusal p fits counts)
  field_fault set ms (Some f) fits counts read h same =
      subst (λ s. IsStoppedAt (FieldSet p types so_far s ms ∷ behind) f.0 f.1) (sym read.1) (stopped_after (FieldSet p types so_far None ms) behind (refused_field_fine p types so_far ms) read.0)
  field_fault set ms None fits counts read h same =
      let P : Option Expression → Type 0 = λ s. IsFaultOf (FieldSet p types so_far s ms ∷ behind) (fault_at p fits counts) in
      let Q : Bool → Type 0 = λ b. IsFaultOf (FieldSet p types so_far (Some read.1.0) ms ∷ behind) (fault_at p fits b) in
      subst P (sym read.1.1) (subst Q (sym same) (field_read read.1.0 ms fits read.0 h))

-- where nothing is refused, kinds fit
pub fine_fits : (refusal : Option (KindFault × Place)) (p : Place) (fits counts : Bool) → fault_of_set refusal p fits counts ≡ None → fits ≡ true
fine_fits (Some f) p fits counts e = absurd (cc e)
fine_fits None p false counts e = absurd (cc e)
fine_fits None p true counts e = refl
