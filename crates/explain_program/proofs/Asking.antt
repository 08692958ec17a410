-- What the settings of words ask for.
use Rattle.std.specs.Prelude.{◌↔◌, IsTrue}
use Rattle.program.proofs.Serving.{at_once_if}
use Rattle.std.proofs.Common.{◌≡◌, ℕ, List, [], Some, codes, refl}
use Rattle.settings.specs.CommandLine.{HasNumber}
use Rattle.explain_settings.specs.CommandLine.{IsUsed, format_word, value}
use Rattle.explain_settings.specs.Faults.{faults_of}
use Rattle.explain_settings.specs.declared.options.Settings.{Settings}
use Rattle.explain_program.specs.Asking.{AskForExplanation, request_of}

pub asked : (words : List (List ℕ)) (s : Settings) → faults_of words ≡ [] → value (codes "file") words ≡ Some s.file.now → HasNumber (value (codes "max-pairs") words) s.max_pairs →
    HasNumber (value (codes "max-nodes") words) s.max_nodes → (IsTrue s.at_once ↔ IsUsed (codes "unfold") words) → HasNumber (value (codes "width") words) s.width → (IsTrue s.count ↔ IsUsed (codes "count") words) →
    (IsTrue s.events ↔ IsUsed (codes "events") words) → (IsTrue s.steps ↔ IsUsed (codes "steps") words) →
    value (codes "format") words ≡ Some (format_word s.format) → HasNumber (value (codes "assertion") words) s.assertion → AskForExplanation words (request_of s)
asked words s taken file pairs nodes used width count events steps format number =
    let read = at_once_if s.at_once in
    record {
      taken = taken;
      file = file;
      pairs = pairs;
      nodes = nodes;
      names = (λ e. used.0 (read.0 e), λ e. read.1 (used.1 e));
      width = (s.width, width, refl);
      telling = record { events = s.events; steps = s.steps; is = refl; events_used = events; steps_used = steps };
      count = count;
      format = format;
      number = number;
    }
