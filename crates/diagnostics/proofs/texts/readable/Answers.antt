-- All of the bytes are read where they are UTF-8.
use Rattle.std.proofs.Common.{◌≡◌, arith, ◌∙◌, sym, take, length, List, ℕ}
use Rattle.std.specs.Str.{IsUtf8}
use Rattle.std.specs.Str.Lossy.{utf8_valid_len}
use Rattle.std.proofs.lemmas.List.{take_all}
use Rattle.std.proofs.lemmas.Str.{utf8_valid_len-IsUtf8}
use Rattle.diagnostics.proofs.texts.readable.Goals as goal

all_is_read : (bytes : List ℕ) → IsUtf8 bytes → bytes ≡ take (utf8_valid_len bytes) bytes
all_is_read bytes is = rw (utf8_valid_len-IsUtf8 bytes is) (sym (take_all (length bytes) bytes (omega arith)))

pub returns-in-Ok : goal.returns-in-Ok
returns-in-Ok c = c.in-Ok.ensures.cases.0 ∙ all_is_read c.args.bytes.now c.in-Ok.ensures.cases.1
