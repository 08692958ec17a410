use Rattle.csp_term.specs.Term.{process_of}
use Rattle.csp_packed.proofs.Spelled.{never_unread, read_is}
use Rattle.csp_packed.proofs.packed_term.PackedTerm.unpack.Goals as goal

pub returns-in-Ok : goal.returns-in-Ok
returns-in-Ok g c = read_is c.args.self.now.bytes.items _ (process_of c.in-Ok.term) c.args.self.now.spells c.as_slice.ensures.value c.in-Ok.ensures.exact

pub unreachable-requires : goal.unreachable-requires
unreachable-requires g c = never_unread c.args.self.now.bytes.items _ c.in-Err-NotATerm.field-0 c.args.self.now.spells c.as_slice.ensures.value c.in-Err-NotATerm.field-0-is c.in-Err-NotATerm.ensures.exact
