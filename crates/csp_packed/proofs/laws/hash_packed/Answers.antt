use Rattle.std.proofs.Common.{sym, ◌∙◌, ap}
use Rattle.csp_packed.proofs.laws.hash_packed.Goals as goal

pub returns : goal.returns
returns g c = c.hash.ensures ∙ ap (g.H.Hasher.write c.args.hasher.now) (sym c.args.term.now.spells.1)
