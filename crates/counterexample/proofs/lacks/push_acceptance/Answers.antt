-- Each part is put one after the other.
use Rattle.std.proofs.Common.{◌≡◌, ◌++◌, map, ◌∙◌, ap}
use Rattle.std.specs.Prelude.{codes}
use Rattle.std.specs.String.{string_bytes}
use Rattle.csp_value.specs.Action.{action_of}
use Rattle.theory_explanation.specs.Counterparts.{set_text}
use Rattle.theory_explanation.specs.Lacking.{lacking}
use Rattle.csp_print.specs.Names.{names_of}
use Rattle.counterexample.proofs.Putting.{put_behind}
use Rattle.counterexample.proofs.lacks.push_acceptance.Goals as goal

pub returns : goal.returns
returns g c =
    let names = names_of c.args.names.now in
    let ys = map action_of c.args.acceptance.now in
    let start = string_bytes c.args.text.now in
    let all = string_bytes c.push_mark-3.new.text in
    let has = set_text names ys in
    let lacks = set_text names (lacking (map action_of c.args.offer.now) ys) in
    let missing : string_bytes c.push_set-2.new.text ≡ string_bytes c.push_mark-2.new.text ++ lacks =
    c.in_ok-push_set-2.ensures ∙ ap (λ xs. string_bytes c.push_mark-2.new.text ++ set_text names xs) (ap (map action_of) c.deref.ensures.value ∙ c.in_ok-lacks.ensures) in
    put_behind start (string_bytes c.push_mark.new.text) all (codes "  there the specification may offer ") (has ++ (codes ", of which " ++ (lacks ++ codes " is lacking\n"))) c.in_ok-push_mark.ensures
    (put_behind (string_bytes c.push_mark.new.text) (string_bytes c.push_set.new.text) all has (codes ", of which " ++ (lacks ++ codes " is lacking\n")) c.in_ok-push_set.ensures
    (put_behind (string_bytes c.push_set.new.text) (string_bytes c.push_mark-2.new.text) all (codes ", of which ") (lacks ++ codes " is lacking\n") c.in_ok-push_mark-2.ensures
    (put_behind (string_bytes c.push_mark-2.new.text) (string_bytes c.push_set-2.new.text) all lacks (codes " is lacking\n") missing c.in_ok-push_mark-3.ensures)))
