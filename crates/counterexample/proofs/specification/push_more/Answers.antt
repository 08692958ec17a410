-- All are told, or it is said how many are not.
use Rattle.std.proofs.Common.{◌-◌, ◌++◌, sym, ◌∙◌, ap, append-nil}
use Rattle.std.specs.Prelude.{codes, decimal}
use Rattle.std.specs.String.{string_bytes}
use Rattle.csp_print.proofs.Writing.{alike, behind}
use Rattle.counterexample.proofs.Cuts.{no_more, some_more}
use Rattle.counterexample.proofs.specification.push_more.Goals as goal

pub returns-then-all-few : goal.returns-then-all-few
returns-then-all-few g c = sym (append-nil (string_bytes c.args.text.now)) ∙ ap (λ xs. string_bytes c.args.text.now ++ xs) (no_more c.args.few c.args.all c.if-all-few.true)

pub returns : goal.returns
returns g c =
    let few = c.args.few in
    let all = c.args.all in
    let r = c.push_mark-2.result in
    let new = string_bytes c.push_mark-2.new.text in
    alike r (string_bytes c.args.text.now) new _ _ (some_more few all c.if-all-few.false)
    (behind r (string_bytes c.args.text.now) (string_bytes c.push_mark.new.text) new (codes "      specification: and ") (decimal (all - few) ++ codes " more\n") c.in_ok-push_mark.ensures
    (behind r (string_bytes c.push_mark.new.text) (string_bytes c.push_number.new.text) new (decimal (all - few)) (codes " more\n") c.in_ok-push_number.ensures c.push_mark-2.ensures))
