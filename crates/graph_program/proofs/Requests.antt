-- What the settings of words ask for.
use Rattle.std.proofs.Common.{◌≡◌, ℕ, List, [], Some, codes}
use Rattle.std.specs.Prelude.{◌↔◌, IsTrue}
use Rattle.settings.specs.CommandLine.{HasNumber}
use Rattle.graph_settings.specs.CommandLine.{IsUsed, format_word, value}
use Rattle.graph_settings.specs.Faults.{faults_of}
use Rattle.graph_settings.specs.declared.options.Settings.{Settings}
use Rattle.program.proofs.Serving.{at_once_if}
use Rattle.graph_program.specs.Asking.{AskForGraph, request_of}

pub asked : (words : List (List ℕ)) (s : Settings) → faults_of words ≡ [] → value (codes "format") words ≡ Some (format_word s.format) → HasNumber (value (codes "max-states") words) s.max_states →
    (IsTrue s.at_once ↔ IsUsed (codes "unfold") words) → (IsTrue s.specification ↔ IsUsed (codes "specification") words) → value (codes "file") words ≡ Some s.file.now →
    HasNumber (value (codes "assertion") words) s.assertion → AskForGraph words (request_of s)
asked words s taken format states used side file number =
    let read = at_once_if s.at_once in
    record {
      taken = taken;
      file = file;
      number = number;
      specification = side;
      names = (λ e. used.0 (read.0 e), λ e. read.1 (used.1 e));
      format = format;
      most = states;
    }
