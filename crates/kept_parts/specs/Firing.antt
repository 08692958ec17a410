-- What a firing keeps.
use Rattle.csp_term.specs.Script.{script_of}
use Rattle.kept_parts.specs.declared.firing.Firing.TheInside.{Inside}
use Rattle.kept_parts.specs.Known.{IsKnownOf}

-- what is known of parts is of the script
abbrev pub HasKnownParts : {A : Type 0} → Inside A → Type 0
HasKnownParts f = IsKnownOf (script_of f.script.now) f.known
