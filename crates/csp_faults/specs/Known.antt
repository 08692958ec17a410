-- The field sets that are declared for a channel, or for a constructor.
use Rattle.std.specs.Prelude.{◌≡◌, List, Option, Some, None, Result, Ok, Err}
use denote.Ref.{Bor}
use Rattle.theory_syntax.specs.Value.{Value}
use Rattle.theory_semantics.specs.Meaning.Evaluation.{Cause, IllKinded}
use Rattle.csp_value.specs.declared.field_set.FieldSet.{FieldSet}
use Rattle.csp_value.specs.Fields.{sets_of}

-- these sets, or that there are none
abbrev pub AreDeclared : {A : Type 0} → Option (Bor (List (FieldSet A))) → Result (List (List Value)) Cause → Type 0
AreDeclared (Some sets) r = r ≡ Ok (sets_of sets.now)
AreDeclared None r = r ≡ Err IllKinded
