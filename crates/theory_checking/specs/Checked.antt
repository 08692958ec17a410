-- The texts that are checked, each with its script.
use Rattle.std.specs.Prelude.{ℕ, List, codes}
use Rattle.theory_syntax.specs.Process.{Script}
use Rattle.theory_semantics.specs.Kinds.Kind.{Kinds}
use Rattle.theory_text.specs.Place.{Place}
use Rattle.theory_text.specs.Raw.{RawScript}
use Rattle.theory_text.specs.Reading.{IsRead}
use Rattle.theory_checking.specs.Scripts.{IsScriptOf}
use Rattle.theory_checking.specs.Faults.{KindFault, UnknownName, DeclaredTwice, WrongKind, WrongCount, BadFieldSet, TooManyEvents}
use Rattle.theory_checking.specs.Fitting.{FitKinds, items}
use Rattle.theory_checking.specs.Refusals.{IsKindRefusal, PassesNames}

abbrev pub kind_fault_spelling : KindFault → List ℕ
kind_fault_spelling UnknownName = codes "K01"
kind_fault_spelling DeclaredTwice = codes "K02"
kind_fault_spelling WrongKind = codes "K03"
kind_fault_spelling WrongCount = codes "K04"
kind_fault_spelling BadFieldSet = codes "K05"
kind_fault_spelling TooManyEvents = codes "K06"

-- The tree is checked, and this is its script: names and sets are fine, and some kinds fit all of it.
pub record IsCheckedTree (raw : RawScript) (script : Script) : Type 0 where
  pub names : PassesNames raw
  pub script_of : IsScriptOf raw script
  pub kinds : Kinds
  pub fit : FitKinds raw script kinds (items raw)

-- the text is checked, and this is its script; the text is refused
abbrev pub IsCheckedText : List ℕ → Script → Type 0
IsCheckedText bytes script = (raw : RawScript) × IsRead bytes raw × IsCheckedTree raw script

abbrev pub IsRefusedText : List ℕ → KindFault → Place → Type 0
IsRefusedText bytes f p = (raw : RawScript) × IsRead bytes raw × IsKindRefusal raw f p
