-- What is offered is the menu's.
use Rattle.std.proofs.Common.{List, sym, ◌∙◌, ap, inl, inr, lit≤}
use Rattle.std.specs.String.{string_bytes}
use Rattle.theory_explanation.specs.Legend.{legend}
use Rattle.csp_term.specs.Term.{process_of}
use Rattle.csp_print.specs.Names.{names_of}
use Rattle.csp_print.proofs.Writing.{alike}
use Rattle.counterexample.specs.PartNames.{part_names_listed}
use Rattle.theory_walk.specs.Moves.{Offers}
use Rattle.theory_walk.specs.Views.{menu_lines}
use Rattle.state_walk.specs.Walks.{menu_of, moves_listed}
use Rattle.state_walk.specs.declared.menu.Menu.{Menu}
use Rattle.state_walk.specs.declared.menu.Move.{Move}
use Rattle.state_walk.proofs.view.push_menu.Goals as goal

pub push_offers-requires : goal.push_offers-requires
push_offers-requires g c = elim g.met.A.AllocHandle.small [ inl e ↦ rw (e.0, e.1) (search (lit≤)) | inr e ↦ rw (e.0, e.1) (search (lit≤)) ]

pub returns-in-Offers : goal.returns-in-Offers
returns-in-Offers g c =
    let at = legend (names_of c.args.names.now) (part_names_listed c.args.parts.now) in
    let t = process_of c.args.state.now in
    alike c.push_offers.result (string_bytes c.args.text.now) (string_bytes c.push_offers.new.text) _ _
    (ap (λ (ms : List (Move g.row.A.Denot)). menu_lines at t (Offers (moves_listed ms))) c.deref.ensures.value ∙ sym (ap (λ (m : Menu g.row.A.Denot). menu_lines at t (menu_of m)) c.in-Offers.is)) c.push_offers.ensures
