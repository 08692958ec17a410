-- One move after the other.
use Rattle.std.proofs.Common.{◌+◌, List, true, false, take, refl, sym, ◌∙◌, ap, subst, inl, inr, lit≤}
use Rattle.std.proofs.lemmas.List.{take_all}
use Rattle.theory_walk.specs.Answers.{doing}
use Rattle.theory_walk.specs.Commands.{same}
use Rattle.theory_explanation.specs.Actions.{action_text}
use Rattle.csp_value.specs.Action.{action_of}
use Rattle.csp_print.specs.Names.{names_of}
use Rattle.state_walk.specs.Naming.{IsNamed, one_more}
use Rattle.state_walk.specs.Walks.{move_of, moves_listed}
use Rattle.state_walk.specs.declared.menu.Move.{Move}
use Rattle.state_walk.specs.declared.naming.Meant.{Meant}
use Rattle.state_walk.proofs.Choosing.{doing_next, one_named, same_named}
use Rattle.state_walk.proofs.Keeping.{item_at}
use Rattle.state_walk.proofs.naming.doing.Goals as goal
use Rattle.state_walk.proofs.naming.doing.Goals.{then-does, else-does}

pub loop-place-preserved : goal.loop-place-preserved
loop-place-preserved g c =
    let moves = c.args.moves.now in
    let names = names_of c.args.names.now in
    let text = c.args.text.now in
    let i = c.loop-place.place in
    let m = c.index-moves-place.result in
    let low = c.loop-place-test.true in
    let read = c.index-moves-place.is in
    let said = ap (λ (k : Move g.row.A.Denot). same text (action_text names (action_of k.action))) read in
    let all = moves_listed moves in
    let found = c.loop-place.found in
    let before = doing names (moves_listed (take i moves)) text in
    let after = doing names (moves_listed (take (i + 1) moves)) text in
    let at = item_at moves all i m refl low read in
    elim c.if-does.branch [
      | then-does w ↦
          subst (λ (f : Meant). IsNamed all f after) (sym (w.found-is ∙ w.with_place-found.ensures))
          (subst (IsNamed all (one_more found i)) (sym (doing_next names moves i text m true low read (said ∙ sym c.in_ok-does.ensures ∙ w.if-does.true))) (one_named all found i (move_of m) before at c.loop-place.invariant))
      | else-does w ↦
          subst (λ (f : Meant). IsNamed all f after) (sym w.found-is)
          (subst (IsNamed all found) (sym (doing_next names moves i text m false low read (said ∙ sym c.in_ok-does.ensures ∙ w.if-does.false))) (same_named all found before c.loop-place.invariant))
    ]

pub returns : goal.returns
returns g c =
    let moves = c.args.moves.now in
    let text = c.args.text.now in
    subst (λ (ms : List (Move g.row.A.Denot)). IsNamed (moves_listed moves) c.loop-place.found (doing (names_of c.args.names.now) (moves_listed ms) text)) (take_all c.loop-place.place moves c.loop-place-test.false) c.loop-place.invariant

pub is_action-requires : goal.is_action-requires
is_action-requires g c = elim g.met.A.AllocHandle.small [ inl e ↦ rw (e.0, e.1) (search (lit≤)) | inr e ↦ rw (e.0, e.1) (search (lit≤)) ]
