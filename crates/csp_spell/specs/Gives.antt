-- What a function that reads answers.
use Rattle.std.specs.Prelude.{◌≡◌, ⊤, Option, Some, None, Result, Ok, Err}
use Rattle.csp_spell.specs.declared.fault.UnpackFault.{UnpackFault}
use Rattle.csp_spell.specs.declared.fault.UnpackFault.TheVariants as fault

-- bytes that are no spelling are answered where nothing is found, and want of memory wherever it comes
abbrev pub Fails : {Y : Type 0} → UnpackFault → Option Y → Type 0
Fails fault.Memory found = ⊤
Fails fault.NotATerm found = found ≡ None

-- what is answered, seen by view, is what reading finds, unless memory was refused
abbrev pub Gives : {X Y : Type 0} → (X → Y) → Result X UnpackFault → Option Y → Type 0
Gives view (Ok x) found = found ≡ Some (view x)
Gives view (Err e) found = Fails e found
