-- What the settings of words ask for.
use Rattle.std.proofs.Common.{◌≡◌, ℕ, List, [], Some, codes, refl}
use Rattle.std.specs.Prelude.{◌↔◌, IsTrue}
use Rattle.settings.specs.CommandLine.{HasNumber}
use Rattle.program.proofs.Serving.{at_once_if}
use Rattle.walk_settings.specs.CommandLine.{IsUsed, value}
use Rattle.walk_settings.specs.Faults.{faults_of}
use Rattle.walk_settings.specs.declared.options.Settings.{Settings}
use Rattle.walk_program.specs.Asking.{AskForWalk, request_of}

pub asked : (words : List (List ℕ)) (s : Settings) → faults_of words ≡ [] → HasNumber (value (codes "width") words) s.width →
    (IsTrue s.at_once ↔ IsUsed (codes "unfold") words) → (IsTrue s.specification ↔ IsUsed (codes "specification") words) → value (codes "file") words ≡ Some s.file.now →
    HasNumber (value (codes "assertion") words) s.assertion → AskForWalk words (request_of s)
asked words s taken width used side file number =
    let read = at_once_if s.at_once in
    record {
      taken = taken;
      file = file;
      number = number;
      specification = side;
      names = (λ e. used.0 (read.0 e), λ e. read.1 (used.1 e));
      width = (s.width, width, refl);
    }
