-- Refusals, as the definitions have them.
use Rattle.theory_checking.specs.Faults as checking
use Rattle.csp_names.specs.declared.refusals.KindFault.{KindFault}
use Rattle.csp_names.specs.declared.refusals.KindFault.TheVariants as fault

abbrev pub fault_of : KindFault → checking.KindFault
fault_of fault.UnknownName = checking.UnknownName
fault_of fault.DeclaredTwice = checking.DeclaredTwice
fault_of fault.WrongKind = checking.WrongKind
fault_of fault.WrongCount = checking.WrongCount
fault_of fault.BadFieldSet = checking.BadFieldSet
fault_of fault.TooManyEvents = checking.TooManyEvents
