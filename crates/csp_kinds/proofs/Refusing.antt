-- What refuses a tree in one of the passes is its refusal.
use Rattle.std.proofs.Common.{Err, sym, subst}
use Rattle.theory_syntax.specs.Process.{Script}
use Rattle.theory_text.specs.Place.{Place}
use Rattle.theory_text.specs.Raw.{RawScript}
use Rattle.theory_checking.specs.Faults as faults
use Rattle.theory_checking.specs.Faults.{NoneRefused}
use Rattle.theory_checking.specs.Refusals.{IsKindRefusal, PassesNames, in_first_pass, in_third_pass}
use Rattle.theory_checking.specs.Rules.{IsRedeclared, all_declared}
use Rattle.theory_checking.specs.Scripts.{IsScriptOf}
use Rattle.theory_checking.specs.Sites.{sites}
use Rattle.theory_checking.proofs.Walking.{stopped_is_refusal}
use Rattle.csp_names.specs.declared.refusals.Refused.{Refused}
use Rattle.csp_names.specs.declared.refusals.Refused.TheVariants as refused
use Rattle.csp_names.specs.FirstPass.{IsFirstPassRefusal}
use Rattle.csp_names.specs.Refusals.{fault_of}
use Rattle.csp_names.specs.Walks.{Stops}
use Rattle.csp_inference.specs.declared.fit_fault.FitFault.{FitFault}
use Rattle.csp_inference.specs.declared.fit_fault.FitFault.TheVariants as fault
use Rattle.csp_inference.specs.Items.{FitsItems}
use Rattle.csp_kinds.specs.Refusals.{IsRefusalOf, item_refusal_of}

pub refused_in_first_pass : (raw : RawScript) (r : Refused) → IsFirstPassRefusal raw r → IsRefusalOf raw r
refused_in_first_pass raw (refused.Fault f p) h = let P : Place → Type 0 = IsKindRefusal raw (fault_of f) in subst P (sym h.2) (in_first_pass h.1)
refused_in_first_pass raw refused.Memory h = tt

pub refused_in_second_pass : (raw : RawScript) (r : Refused) → NoneRefused IsRedeclared (all_declared raw) → Stops (sites raw) r → IsRefusalOf raw r
refused_in_second_pass raw (refused.Fault f p) once h = stopped_is_refusal raw once h
refused_in_second_pass raw refused.Memory once h = tt

pub refused_in_third_pass : (raw : RawScript) (script : Script) (f : FitFault) → PassesNames raw → IsScriptOf raw script → FitsItems raw script (Err f) → IsRefusalOf raw (item_refusal_of f)
refused_in_third_pass raw script (fault.WrongKind p) passes is h = let P : Place → Type 0 = IsKindRefusal raw faults.WrongKind in subst P h.2 (in_third_pass passes is h.1)
refused_in_third_pass raw script fault.Memory passes is h = tt
