-- Each part is put one after the other.
use Rattle.std.proofs.Common.{◌≡◌, ◌+◌, ◌-◌, List, ◌++◌, length, take, drop, ◌∙◌, ap}
use Rattle.std.specs.String.{string_bytes}
use Rattle.theory_explanation.specs.Changing.{mark_before, mark_behind, spaced}
use Rattle.counterexample.specs.Texts.{texts_of}
use Rattle.counterexample.proofs.Parts.{part_same}
use Rattle.csp_print.proofs.Writing.{alike, behind}
use Rattle.counterexample.proofs.changes.push_part.Goals as goal

pub returns : goal.returns
returns g c =
    let words = c.args.words.now in
    let front = c.args.front in
    let back = c.args.back in
    let r = c.push_mark-2.result in
    let start = string_bytes c.args.text.now in
    let one = string_bytes c.push_mark.new.text in
    let two = string_bytes c.push_spaced.new.text in
    let all = string_bytes c.push_mark-2.new.text in
    let middle = spaced (take (length (texts_of words) - (front + back)) (drop front (texts_of words))) in
    let first : one ≡ start ++ mark_before front = c.in_ok-push_mark.ensures ∙ ap (λ ts. start ++ ts) c.mark_before.ensures in
    let second : two ≡ one ++ middle = c.in_ok-push_spaced.ensures ∙ ap (λ ws. one ++ spaced ws) (part_same words front back c.requires) in
    behind r start one all (mark_before front) (middle ++ mark_behind back) first
    (behind r one two all middle (mark_behind back) second
    (alike r two all _ _ c.mark_behind.ensures c.push_mark-2.ensures))
