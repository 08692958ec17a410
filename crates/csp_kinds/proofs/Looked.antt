-- A set that was looked at.
use Rattle.std.specs.Prelude.{option_and_then}
use Rattle.std.proofs.Common.{◌≡◌, List, Option, Some, None, Result, Ok, Err, sym, ap, ◌∙◌, subst}
use Rattle.theory_text.specs.Raw.{RawDomain, RawExpression, RawScript}
use Rattle.csp_lex.specs.declared.places.Place.{Place}
use Rattle.csp_lex.specs.Places.{place_of}
use Rattle.theory_checking.specs.Names.{environment_above}
use Rattle.theory_checking.specs.Resolving as resolving
use Rattle.theory_checking.specs.Sets.{set_expression, datatypes_of, members_above, members_with}
use Rattle.theory_checking.specs.Sites.{Site, in_expression}
use Rattle.theory_checking.specs.Walks.{AllFine, IsStoppedAt}
use Rattle.csp_value.specs.declared.set.SetOf.{SetOf}
use Rattle.csp_expression.specs.declared.expr.Expr.{Expr}
use Rattle.csp_expression.specs.Expression.{expression_of}
use Rattle.csp_names.specs.declared.refusals.KindFault.{KindFault}
use Rattle.csp_names.specs.declared.refusals.Refused.{Refused}
use Rattle.csp_names.specs.declared.refusals.Refused.TheVariants as refused
use Rattle.csp_names.specs.Refusals.{fault_of}
use Rattle.csp_names.specs.Walks.{Walked}
use Rattle.csp_kinds.specs.declared.looking.LookedSet.TheVariants as looked
use Rattle.csp_kinds.specs.Looking.{IsLookedAt, listed_members}
use Rattle.csp_kinds.proofs.Unresolved.{refused_unresolved}

-- where a walk answers a fault, it stops there
pub walked_stops : {T X : Type 0} (sites : List Site) (meaning : Option X) (of : T → X) (r : Result T Refused) (e : Refused) (f : KindFault) (p : Place) → r ≡ Err e → e ≡ refused.Fault f p → Walked sites meaning of r → IsStoppedAt sites (fault_of f) (place_of p)
walked_stops sites meaning of r e f p err is h = subst (Walked sites meaning of) (err ∙ ap Err is) h

pub walked_goes : {T X : Type 0} (sites : List Site) (meaning : Option X) (of : T → X) (r : Result T Refused) (t : T) → r ≡ Ok t → Walked sites meaning of r → AllFine sites × (meaning ≡ Some (of t))
walked_goes sites meaning of r t is h = subst (Walked sites meaning of) is h

module _ {A : Type 0} (raw above : RawScript) (d : RawDomain) (e : RawExpression) (is : d.set ≡ e) where
  pub looked_set : (set : Expr A) (members : Option (SetOf A)) → AllFine (in_expression (environment_above above) e) × (resolving.expression_of (environment_above above) e ≡ Some (expression_of set)) →
      listed_members members ≡ members_with (datatypes_of raw) (members_above raw above) (expression_of set) → IsLookedAt raw above d (looked.Set set members)
  looked_set set members walked found =
      let there : set_expression above d ≡ Some (expression_of set) = ap (resolving.expression_of (environment_above above)) is ∙ walked.1 in
      record {
        expression = sym there;
        read = (subst (λ x. AllFine (in_expression (environment_above above) x)) (sym is) walked.0, (expression_of set, there));
        members = found ∙ ap (option_and_then (members_with (datatypes_of raw) (members_above raw above))) (sym there);
      }

  pub looked_refused : (f : KindFault) (p : Place) → IsStoppedAt (in_expression (environment_above above) e) (fault_of f) (place_of p) → IsLookedAt {A = A} raw above d (looked.Refused (record { fault = f; place = p }))
  looked_refused f p stopped =
      let none : set_expression above d ≡ None = ap (resolving.expression_of (environment_above above)) is ∙ refused_unresolved (environment_above above) e (fault_of f) (place_of p) stopped in
      record {
        expression = sym none;
        read = (subst (λ x. IsStoppedAt (in_expression (environment_above above) x) (fault_of f) (place_of p)) (sym is) stopped, none);
        members = ap (option_and_then (members_with (datatypes_of raw) (members_above raw above))) (sym none);
      }
