-- Scripts of files, with their names.
use Rattle.std.proofs.Common.{ℕ, List}
use Rattle.theory_syntax.specs.Process.{Script}
use Rattle.theory_checking.specs.Checked.{IsCheckedText}
use Rattle.program.specs.Beginning.{IsBeginning}
use Rattle.program.specs.Running.{IsScriptOfFile}
use Rattle.program.proofs.Beginnings.{short_of_read, whole}
use Rattle.named_scripts.specs.Naming.{IsNamedFile, IsNamedText, Labels}

-- its script, without the names
pub checked : (bytes : List ℕ) (script : Script) (labels : Labels) → IsNamedText bytes script labels → IsCheckedText bytes script
checked bytes script labels named = (named.tree, named.read, named.checked)

-- what is read of a file, with its names, is the file's
pub named_file : (may_hold : List ℕ → List ℕ → Type 0) (name bytes : List ℕ) (script : Script) (labels : Labels) → IsBeginning (may_hold name) bytes → IsNamedText bytes script labels → IsNamedFile may_hold name script labels
named_file may_hold name bytes script labels begins named = record {
  text = bytes;
  held = whole {held = may_hold name} bytes begins (short_of_read bytes named.tree named.read);
  of_text = named;
}

pub script_of_file : (may_hold : List ℕ → List ℕ → Type 0) (name : List ℕ) (script : Script) (labels : Labels) → IsNamedFile may_hold name script labels → IsScriptOfFile may_hold name script
script_of_file may_hold name script labels file = record { text = file.text; held = file.held; of_text = checked file.text script labels file.of_text }
