-- The amount, and behind it what it is.
use Rattle.std.proofs.Common.{◌≡◌, ◌++◌, ℕ, subst}
use Rattle.std.specs.Prelude.{codes}
use Rattle.std.specs.Int.{div_ceil}
use Rattle.std.specs.String.{string_bytes}
use Rattle.theory_explanation.specs.Counting.{number_text}
use Rattle.csp_print.proofs.Writing.{behind}
use Rattle.explain_program.proofs.costs.push_memory.Goals as goal

pub returns : goal.returns
returns g c =
    let start = string_bytes c.args.text.now in
    let mid = string_bytes c.push_amount.new.text in
    let amount = λ (n : ℕ). number_text n (codes "megabyte") in
    let N : ℕ → Type 0 = λ n. mid ≡ start ++ amount n in
    behind c.push_mark.result start mid (string_bytes c.push_mark.new.text) (amount (div_ceil c.args.kilobytes 1024)) (codes " at most") (subst N c.div_ceil.ensures c.in_ok-push_amount.ensures) c.push_mark.ensures
