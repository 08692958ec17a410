use Rattle.std.specs.String.{string_bytes}
use Rattle.explain_settings.proofs.Helping.{help_told}
use Rattle.explain_settings.proofs.help.with_refusals.Goals as goal

pub returns : goal.returns
returns g c = help_told c.format.result c.args.text.now (string_bytes c.in_ok-list.list) c.in_ok-list.ensures c.format.ensures.ok
