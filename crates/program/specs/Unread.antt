-- Why a file is not read.
use Rattle.std.specs.Prelude.{⊤}
use Rattle.std.specs.declared.io.ErrorKind.{ErrorKind}
use Rattle.std.specs.declared.io.ErrorKind.TheVariants as kind
use Rattle.program.specs.declared.files.Lack.{Lack}
use Rattle.program.specs.declared.files.Lack.TheVariants as lack
use Rattle.program.specs.declared.files.Unread.{Unread}
use Rattle.program.specs.declared.files.Unread.TheVariants as unread

-- Why a file is not read where the machine answers an error of this kind. A name that leads through a file as if it were a
-- folder is that of no file.
abbrev pub of_kind : ErrorKind → Unread
of_kind kind.OutOfMemory = unread.Memory
of_kind kind.NotFound = unread.File lack.Missing
of_kind kind.NotADirectory = unread.File lack.Missing
of_kind kind.IsADirectory = unread.File lack.Folder
of_kind kind.PermissionDenied = unread.File lack.Forbidden
of_kind _ = unread.File lack.Broken

-- where the file cannot be read, this is so of the reason
abbrev pub IfLacks : (Lack → Type 0) → Unread → Type 0
IfLacks P (unread.File why) = P why
IfLacks P unread.Memory = ⊤
