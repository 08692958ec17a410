-- The bytes of a text are those of its characters.
use Rattle.csp_kinds.proofs.Spelling.{spelled_out}
use Rattle.csp_kinds.proofs.spellings.spelling_of.Goals as goal

pub returns : goal.returns
returns g c = spelled_out c.args.name.text.now c.from_str.result c.from_str.ensures.ok
