-- The message of a refusal.
use Rattle.std.specs.Prelude.{◌≡◌, ℕ, ◌++◌, List, [], ◌∷◌, codes, take}
use Rattle.std.specs.List.{concat}
use Rattle.std.specs.Str.Lossy.{utf8_valid_len}
use Rattle.diagnostics.specs.Excerpts.{excerpt_of}
use Rattle.diagnostics.specs.declared.faults.Refusal.{Refusal}
use Rattle.diagnostics.specs.Faults.{fault_number, fault_rule}
use Rattle.diagnostics.specs.Notes.{place_text}

-- the file with the place, the number and the rule
abbrev pub heading : List ℕ → Refusal → List ℕ
heading file r = concat (file ∷ codes ":" ∷ place_text r.place ∷ codes ": " ∷ fault_number r.fault ∷ codes ": " ∷ fault_rule r.fault ∷ codes "\n" ∷ [])

-- The heading, the line at the place of what is UTF-8 of the text, with its mark, and further lines that help.
abbrev pub message_text : (file bytes : List ℕ) → Refusal → (help : List ℕ) → List ℕ
message_text file bytes r help = heading file r ++ (excerpt_of (take (utf8_valid_len bytes) bytes) r.place ++ help)

-- so with some such lines
pub record IsMessage (file bytes : List ℕ) (r : Refusal) (message : List ℕ) : Type 0 where
  pub help : List ℕ
  pub lines : message ≡ message_text file bytes r help
