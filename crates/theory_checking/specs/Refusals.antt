-- The refusal of a tree. The first refusal of the first pass that has one is answered.
use Rattle.std.specs.Prelude.{List}
use Rattle.theory_syntax.specs.Process.{Script}
use Rattle.theory_text.specs.Place.{Place}
use Rattle.theory_text.specs.Raw.{RawName, RawScript}
use Rattle.theory_checking.specs.Scripts.{IsScriptOf}
use Rattle.theory_checking.specs.Sites.{Site, site_place, sites}
use Rattle.theory_checking.specs.Faults.{IsFirstRefused, NoneRefused, KindFault}
use Rattle.theory_checking.specs.Rules.{all_declared, IsRedeclared, IsRefusedSite}
use Rattle.theory_checking.specs.Fitting.{Item, item_place, items, IsMisfit}

abbrev pub IsRefusedAt : List Site → Site → KindFault → Type 0
IsRefusedAt before x f = IsRefusedSite x f

-- the first two passes refuse nothing
pub record PassesNames (raw : RawScript) : Type 0 where
  pub once : NoneRefused IsRedeclared (all_declared raw)
  pub fine : NoneRefused IsRefusedAt (sites raw)

pub data IsKindRefusal (raw : RawScript) : KindFault → Place → Type 0 where
  in_first_pass : {n : RawName} {f : KindFault} → IsFirstRefused IsRedeclared (all_declared raw) n f → IsKindRefusal raw f n.place
  in_second_pass : {x : Site} {f : KindFault} →
      NoneRefused IsRedeclared (all_declared raw) → IsFirstRefused IsRefusedAt (sites raw) x f → IsKindRefusal raw f (site_place x)
  in_third_pass : {x : Item} {f : KindFault} {script : Script} →
      PassesNames raw → IsScriptOf raw script → IsFirstRefused (IsMisfit raw script) (items raw) x f → IsKindRefusal raw f (item_place x)
