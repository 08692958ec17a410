-- What is told of a refusal.
use Rattle.std.specs.Prelude.{◌≡◌, ℕ, List, Option, None, Some}
use Rattle.diagnostics.specs.Messages.{IsMessage}
use Rattle.diagnostics.specs.declared.faults.Fault.TheVariants as fault
use Rattle.diagnostics.specs.declared.faults.Refusal as text
use Rattle.program.specs.Given.{Sent}
use Rattle.program.specs.Refusal.{of_file, refusal_line}
use Rattle.program.specs.Running.{IsGiven}
use Rattle.program.specs.declared.files.Lack.{Lack}
use Rattle.program.specs.declared.files.Unread.{Unread}
use Rattle.program.specs.declared.files.Unread.TheVariants as unread
use Rattle.program.specs.declared.refusal.Refusal.{Refusal}
use Rattle.program.specs.declared.refusal.Refusal.TheVariants as refusal
use Rattle.told_refusals.specs.FileNames.{shown_name, unread_line}

-- what is refused of a text, where that is what is refused
abbrev pub refused_text : Refusal → Option text.Refusal
refused_text (refusal.Text f p) = Some (record { fault = fault.Text f; place = p })
refused_text (refusal.Grammar f p) = Some (record { fault = fault.Grammar f; place = p })
refused_text (refusal.Kinds f p) = Some (record { fault = fault.Kinds f; place = p })
refused_text _ = None

-- The line of the refusal was given, or where a text is refused its message on these bytes of the file, by the name that is
-- shown.
pub data TellsRefusal (file bytes : List ℕ) (why : Refusal) (err : Sent) : Type 0 where
  by_line : IsGiven err (refusal_line why) → TellsRefusal file bytes why err
  in_words : (refused : text.Refusal) (message : List ℕ) → refused_text why ≡ Some refused → IsMessage (shown_name file) bytes refused message → IsGiven err message → TellsRefusal file bytes why err

-- The line of why a file is not read was given, or where it cannot be read the same with its name and the reason.
pub data TellsUnread (file : List ℕ) (fault : Unread) (err : Sent) : Type 0 where
  by_line : IsGiven err (refusal_line (of_file fault)) → TellsUnread file fault err
  by_name : (why : Lack) → fault ≡ unread.File why → IsGiven err (unread_line file why) → TellsUnread file fault err
