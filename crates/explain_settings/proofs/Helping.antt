-- The help, with the refusals behind it.
use Rattle.std.proofs.Common.{◌≡◌, ◌++◌, ℕ, List, codes, ap, ◌∙◌}
use Rattle.std.specs.Prelude.{flat_map, IfOk, Result, Ok, Err}
use Rattle.std.specs.String.{string_bytes}
use Rattle.std.specs.declared.string.String.{String}
use Rattle.diagnostics.specs.Faults.{list_line}
use Rattle.diagnostics.specs.declared.faults.TheConstants.Fault.{ALL}
use Rattle.explain_settings.specs.Help.{refusals}

pub help_told : {A E : Type 0} (made : Result (String A) E) (text list : List ℕ) → list ≡ flat_map list_line ALL →
    IfOk made (λ all. string_bytes all ≡ text ++ (codes "\nRefusals of a script, each told with its place, the line there and what may be meant:\n" ++ list)) →
    IfOk made (λ all. string_bytes all ≡ text ++ refusals)
help_told (Ok m) text list is told = told ∙ ap (λ ls. text ++ (codes "\nRefusals of a script, each told with its place, the line there and what may be meant:\n" ++ ls)) is
help_told (Err e) text list is told = tt
