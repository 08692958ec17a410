-- What is told of a refusal, in words or by an object.
use Rattle.std.specs.Prelude.{◌≡◌, ℕ, List, [], ◌∷◌, Some, codes}
use Rattle.theory_objects.specs.Fields.{object_line, text_field}
use Rattle.theory_objects.specs.Refusals.{refusal_fields, text_fields, unread_fields}
use Rattle.csp_lex.specs.Places.{place_of}
use Rattle.diagnostics.specs.Faults.{fault_number, fault_rule}
use Rattle.diagnostics.specs.Messages.{message_text}
use Rattle.diagnostics.specs.declared.faults.Fault.TheVariants as fault
use Rattle.diagnostics.specs.declared.faults.Refusal as text
use Rattle.explain_settings.specs.declared.format.Format.{Format}
use Rattle.explain_settings.specs.declared.format.Format.TheVariants as formats
use Rattle.program.specs.Given.{Sent}
use Rattle.program.specs.Refusal.{of_file, refusal_line}
use Rattle.program.specs.Running.{IsGiven}
use Rattle.program.specs.declared.files.Lack.{Lack}
use Rattle.program.specs.declared.files.Unread.{Unread}
use Rattle.program.specs.declared.files.Unread.TheVariants as unread
use Rattle.program.specs.declared.refusal.Refusal.{Refusal}
use Rattle.program.specs.declared.refusal.Refusal.TheVariants as refusal
use Rattle.told_refusals.specs.FileNames.{lack_text, shown_name, unread_line}
use Rattle.told_refusals.specs.Refusals.{refused_text}
use Rattle.explain_program.specs.declared.stop.Stop.{Stop}
use Rattle.explain_program.specs.declared.stop.Stop.TheVariants as stop

-- ---- the line of what stops a run

-- the word of what stops a run, or the number of a text's refusal
abbrev pub stop_word : Stop → List ℕ
stop_word (stop.Refused (refusal.File why)) = codes "file"
stop_word (stop.Refused (refusal.Text f p)) = fault_number (fault.Text f)
stop_word (stop.Refused (refusal.Grammar f p)) = fault_number (fault.Grammar f)
stop_word (stop.Refused (refusal.Kinds f p)) = fault_number (fault.Kinds f)
stop_word (stop.Refused refusal.Memory) = codes "memory"
stop_word (stop.Refused refusal.Thread) = codes "thread"
stop_word (stop.Refused refusal.Output) = codes "output"
stop_word stop.NoAssertion = codes "assertion"

abbrev pub stop_line : Format → Stop → List ℕ
stop_line formats.Text (stop.Refused why) = refusal_line why
stop_line formats.Text stop.NoAssertion = codes "refused assertion\n"
stop_line formats.Json why = object_line (refusal_fields (stop_word why))

-- ---- what is told beyond that

-- of a script that has no assertion
abbrev pub none_text : Format → List ℕ
none_text formats.Text = codes "the script has no assertion\n"
none_text formats.Json = object_line (text_field (codes "note") (codes "the script has no assertion") ∷ [])

-- of a file that cannot be read
abbrev pub unread_text : Format → List ℕ → Lack → List ℕ
unread_text formats.Text name why = unread_line name why
unread_text formats.Json name why = object_line (unread_fields (shown_name name) (lack_text why))

-- of a text that is refused, by its bytes and the lines of what may be meant
abbrev pub refused_line : Format → List ℕ → List ℕ → text.Refusal → List ℕ → List ℕ
refused_line formats.Text name bytes refused help = message_text name bytes refused help
refused_line formats.Json name bytes refused help = object_line (text_fields name (fault_number refused.fault) (fault_rule refused.fault) (place_of refused.place) help (message_text name bytes refused help))

-- The line of the refusal was given, or where a text is refused what is told by these bytes of the file, by the name that is
-- shown, with some lines of what may be meant.
pub data TellsRefusal (format : Format) (file bytes : List ℕ) (why : Refusal) (err : Sent) : Type 0 where
  by_line : IsGiven err (stop_line format (stop.Refused why)) → TellsRefusal format file bytes why err
  in_words : (refused : text.Refusal) (help : List ℕ) → refused_text why ≡ Some refused → IsGiven err (refused_line format (shown_name file) bytes refused help) → TellsRefusal format file bytes why err

-- The line of why a file is not read was given, or where it cannot be read what is told of it, with its name and the reason.
pub data TellsUnread (format : Format) (file : List ℕ) (fault : Unread) (err : Sent) : Type 0 where
  by_line : IsGiven err (stop_line format (stop.Refused (of_file fault))) → TellsUnread format file fault err
  by_name : (why : Lack) → fault ≡ unread.File why → IsGiven err (unread_text format file why) → TellsUnread format file fault err
