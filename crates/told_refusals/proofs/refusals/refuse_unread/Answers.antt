-- Why a file is not read.
use Rattle.std.proofs.Common.{sym, subst}
use Rattle.program.specs.Given.{sent}
use Rattle.program.specs.declared.files.Unread.{Unread}
use Rattle.told_refusals.specs.Refusals.{TellsUnread}
use Rattle.told_refusals.specs.Refusals as refusals
use Rattle.told_refusals.proofs.refusals.refuse_unread.Goals as goal

pub returns-in-File-clause-told : goal.returns-in-File-clause-told
returns-in-File-clause-told g c =
    let new = c.refuse_name.new.err in
    let P : Unread → Type 0 = λ fault. TellsUnread c.args.file.now fault (sent g.E.Sink.taken g.E.Sink.has_failed c.args.err.now new) in
    subst P (sym c.in-File.is) c.refuse_name.ensures.told

pub returns-in-Memory-clause-told : goal.returns-in-Memory-clause-told
returns-in-Memory-clause-told g c =
    let new = c.refuse.new.err in
    let P : Unread → Type 0 = λ fault. TellsUnread c.args.file.now fault (sent g.E.Sink.taken g.E.Sink.has_failed c.args.err.now new) in
    subst P (sym c.in-Memory.is) (refusals.by_line c.refuse.ensures.line)
