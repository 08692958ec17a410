-- A tree that passes all three passes is checked.
use Rattle.std.proofs.Common.{Ok}
use Rattle.theory_syntax.specs.Process.{Script}
use Rattle.theory_text.specs.Raw.{RawScript}
use Rattle.theory_checking.specs.Checked.{IsCheckedTree}
use Rattle.theory_checking.specs.Refusals.{PassesNames}
use Rattle.theory_checking.specs.Scripts.{IsScriptOf}
use Rattle.csp_inference.specs.Items.{FitsItems}

pub checked_tree : (raw : RawScript) (script : Script) → PassesNames raw → IsScriptOf raw script → FitsItems raw script (Ok tt) → IsCheckedTree raw script
checked_tree raw script passes is fits = record { names = passes; script_of = is; kinds = fits.0; fit = fits.1 }
