-- Nothing at the whole, else the name of the part.
use Rattle.std.proofs.Common.{◌++◌, sym, ◌∙◌, ap, append-nil, refl}
use Rattle.std.specs.String.{string_bytes}
use Rattle.theory_explanation.specs.Legend.{called}
use Rattle.csp_print.proofs.Writing.{alike}
use Rattle.counterexample.specs.PartNames.{legend_of}
use Rattle.counterexample.proofs.Belows.{here_at, here_whole}
use Rattle.counterexample.proofs.legend.push_name_here.Goals as goal

pub returns-then-is_empty : goal.returns-then-is_empty
returns-then-is_empty g c =
    let legend = legend_of c.args.legend.now in
    let start = string_bytes c.args.text.now in
    sym (append-nil start) ∙ ap (λ ts. start ++ ts) (here_whole legend c.args.legend.now.way.now refl (sym c.is_empty.ensures ∙ c.if-is_empty.true))

pub returns : goal.returns
returns g c =
    let legend = legend_of c.args.legend.now in
    let here = ap (called legend.names) c.name_of.ensures ∙ here_at legend c.args.legend.now.way.now refl (sym c.is_empty.ensures ∙ c.if-is_empty.false) in
    alike c.push_called.result (string_bytes c.args.text.now) (string_bytes c.push_called.new.text) _ _ here c.push_called.ensures
