use Rattle.std.proofs.Common.{◌≡◌, List, ◌++◌, length, ap, sym, subst, ◌∙◌}
use Rattle.theory_shapes.specs.Parts.{parts_of, shape_of}
use Rattle.csp_rows.specs.Places.{AreRunsOf}
use Rattle.csp_rows.specs.declared.places.Place.{Place}
use Rattle.csp_term.specs.Term.{process_of}
use Rattle.csp_numbers.specs.Placed.{places_in}
use Rattle.csp_numbers.proofs.Runs.{are_runs, place_count}
use Rattle.csp_numbers.proofs.places.places_of.Goals as goal

pub returns-clause-count : goal.returns-clause-count
returns-clause-count g c =
    let p = process_of c.args.term.now in
    let all : c.push_places.new.places.items ≡ places_in 0 p = c.in_ok-push_places.ensures ∙ ap (λ (ps : List Place). ps ++ places_in 0 p) c.new-places.ensures.items in
    ap (λ (ps : List Place). length ps) all ∙ place_count p 0

pub returns-clause-runs : goal.returns-clause-runs
returns-clause-runs g c =
    let p = process_of c.args.term.now in
    let all : c.push_places.new.places.items ≡ places_in 0 p = c.in_ok-push_places.ensures ∙ ap (λ (ps : List Place). ps ++ places_in 0 p) c.new-places.ensures.items in
    subst (AreRunsOf (shape_of p) (parts_of p)) (sym all) (are_runs p)
