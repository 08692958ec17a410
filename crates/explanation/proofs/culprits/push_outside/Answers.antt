-- Each part is put one after the other.
use Rattle.std.proofs.Common.{◌++◌}
use Rattle.std.specs.Prelude.{codes, decimal}
use Rattle.std.specs.String.{string_bytes}
use Rattle.theory_explanation.specs.Culprits.{owner_text}
use Rattle.theory_notation.specs.Values.{value_text}
use Rattle.csp_value.specs.Value.{value_of}
use Rattle.csp_faults.specs.Culprit.{owner_of}
use Rattle.csp_print.proofs.Writing.{behind}
use Rattle.csp_print.specs.Names.{names_of}
use Rattle.explanation.proofs.culprits.push_outside.Goals as goal

pub returns : goal.returns
returns g c =
    let r = c.push_mark-4.result in
    let start = string_bytes c.args.text.now in
    let one = string_bytes c.push_mark.new.text in
    let two = string_bytes c.push_number.new.text in
    let three = string_bytes c.push_mark-2.new.text in
    let four = string_bytes c.push_owner.new.text in
    let five = string_bytes c.push_mark-3.new.text in
    let six = string_bytes c.push_value.new.text in
    let all = string_bytes c.push_mark-4.new.text in
    let number = decimal c.args.number in
    let owner = owner_text (names_of c.args.names.now) (owner_of c.args.owner) in
    let value = value_text (names_of c.args.names.now) (value_of c.args.value.now) in
    let last = codes "`, which lies outside of its set" in
    behind r start one all (codes "field ") (number ++ (codes " of `" ++ (owner ++ (codes "` is given `" ++ (value ++ last))))) c.in_ok-push_mark.ensures
    (behind r one two all number (codes " of `" ++ (owner ++ (codes "` is given `" ++ (value ++ last)))) c.in_ok-push_number.ensures
    (behind r two three all (codes " of `") (owner ++ (codes "` is given `" ++ (value ++ last))) c.in_ok-push_mark-2.ensures
    (behind r three four all owner (codes "` is given `" ++ (value ++ last)) c.in_ok-push_owner.ensures
    (behind r four five all (codes "` is given `") (value ++ last) c.in_ok-push_mark-3.ensures (behind r five six all value last c.in_ok-push_value.ensures c.push_mark-4.ensures)))))
