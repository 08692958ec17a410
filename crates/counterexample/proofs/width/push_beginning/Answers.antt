-- A short text is told whole, and of a long one a beginning.
use Rattle.std.proofs.Common.{◌≡◌, ◌-◌, ◌<◌, ◌≤◌, ◌++◌, length, take, ◌∙◌, ap, arith}
use Rattle.std.specs.Prelude.{codes, decimal}
use Rattle.std.specs.Str.{chars, encode_utf8_all}
use Rattle.std.specs.String.{string_bytes}
use Rattle.csp_print.proofs.Writing.{alike, behind}
use Rattle.counterexample.proofs.Cuts.{cut_of_long, cut_of_short}
use Rattle.counterexample.proofs.width.push_beginning.Goals as goal

pub returns-then-count-most : goal.returns-then-count-most
returns-then-count-most g c =
    let count = c.character_count-count.ensures in
    let few = c.if-count-most.true in
    let short : length (chars c.args.whole.now) ≤ c.args.most = omega (arith, count, few) in
    alike c.push_mark.result (string_bytes c.args.text.now) (string_bytes c.push_mark.new.text) _ _ (cut_of_short c.args.most c.args.whole.now short) c.push_mark.ensures

pub returns : goal.returns
returns g c =
    let count = c.character_count-count.ensures in
    let many = c.if-count-most.false in
    let whole = c.args.whole.now in
    let most = c.args.most in
    let long : most < length (chars whole) = omega (arith, count, many) in
    let r = c.push_mark-4.result in
    let start = string_bytes c.args.text.now in
    let new = string_bytes c.push_mark-4.new.text in
    let front = encode_utf8_all (take most (chars whole)) in
    let left = length (chars whole) - most in
    let first : string_bytes c.push_mark-2.new.text ≡ start ++ front = c.in_ok-push_mark.ensures ∙ ap (λ xs. start ++ xs) (c.as_str.ensures.value ∙ c.in_ok-beginning.ensures) in
    let rest : string_bytes c.push_number.new.text ≡ string_bytes c.push_mark-3.new.text ++ decimal left = c.in_ok-push_number.ensures ∙ ap (λ n. string_bytes c.push_mark-3.new.text ++ decimal (n - most)) count in
    alike r start new _ _ (cut_of_long most whole long)
    (behind r start (string_bytes c.push_mark-2.new.text) new front (codes " .. " ++ (decimal left ++ codes " more characters")) first
    (behind r (string_bytes c.push_mark-2.new.text) (string_bytes c.push_mark-3.new.text) new (codes " .. ") (decimal left ++ codes " more characters") c.in_ok-push_mark-2.ensures
    (behind r (string_bytes c.push_mark-3.new.text) (string_bytes c.push_number.new.text) new (decimal left) (codes " more characters") rest c.push_mark-4.ensures)))
