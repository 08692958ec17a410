use Rattle.std.proofs.Common.{◌-◌, List, ap, ◌∙◌, length}
use Rattle.std.specs.Prelude.{slice_get}
use Rattle.csp_lex.specs.declared.kinds.Token.{Token}
use Rattle.diagnostics.proofs.brackets.open_bracket.Goals as goal

pub returns : goal.returns
returns g c =
    c.copied.ensures ∙ c.last.ensures.value ∙ ap (λ (ts : List Token). slice_get ts (length ts - 1)) (c.deref.ensures.value ∙ c.in_ok-brackets.ensures)
