-- The parts of both sides, or of what is below hiding or renaming, or the term itself.
use Rattle.std.proofs.Common.{◌≡◌, ◌<◌, ◌+◌, IfOk, List, [], ◌∷◌, ◌++◌, append-nil, map, sym, subst, ◌∙◌, ap, inl, inr, lit<, lit≤, arith}
use Rattle.std.proofs.lemmas.List.{map-append}
use Rattle.theory_semantics.specs.Kinds.Scripts.{IsTermOf}
use Rattle.theory_semantics.specs.Meaning.Limits.{size}
use Rattle.theory_origins.specs.Origin.{Side, Left, Right}
use Rattle.theory_origins.specs.Parts.{Placed, placed_on, placed_parts}
use Rattle.theory_explanation.specs.Counterexamples.{AreWaiting}
use Rattle.theory_explanation.specs.Counterexamples as pure
use Rattle.csp_term.specs.Script.{script_of}
use Rattle.csp_term.specs.Term.{process_of}
use Rattle.csp_moves.specs.Passage.{side_of}
use Rattle.csp_moves.specs.declared.passage.Side as code
use Rattle.counterexample.specs.Counterexample.{waiting_of}
use Rattle.counterexample.specs.Waiting.{Alone, Beside, Inside, all_placed_behind, standing, standing_of}
use Rattle.counterexample.specs.declared.waiting.Waiting.{Waiting}
use Rattle.counterexample.proofs.Besides.{AreTerms, IsSmaller, parts_placed, parts_smaller, parts_terms, placed_by}
use Rattle.counterexample.proofs.WaitingBehind.{both_placed, both_waiting, placed_further_behind}
use Rattle.counterexample.proofs.waiting.+parts.Goals as goal

pub parts_in-returns-in-Beside : goal.parts_in-returns-in-Beside
parts_in-returns-in-Beside g t c =
    let term = process_of c.args.term.now in
    let is : Beside (process_of c.in-Beside.left.now) (process_of c.in-Beside.right.now) ≡ standing term = sym (ap standing_of c.in-Beside.is) ∙ c.standing_in.ensures in
    let same = ap (placed_by term) is ∙ parts_placed term in
    let F : List Placed → Type 0 = λ ds. IfOk c.parts_of_both.result (λ ws. AreWaiting (script_of c.args.script.now) (all_placed_behind (map side_of c.args.way.now) ds) (map waiting_of ws.items)) in
    subst F same c.parts_of_both.ensures

pub parts_in-returns-in-Inside : goal.parts_in-returns-in-Inside
parts_in-returns-in-Inside g t c =
    let term = process_of c.args.term.now in
    let is : Inside (process_of c.in-Inside.body.now) ≡ standing term = sym (ap standing_of c.in-Inside.is) ∙ c.standing_in.ensures in
    let same = ap (placed_by term) is ∙ parts_placed term in
    let F : List Placed → Type 0 = λ ds. IfOk c.parts_in.result (λ ws. AreWaiting (script_of c.args.script.now) (all_placed_behind (map side_of c.args.way.now) ds) (map waiting_of ws.items)) in
    subst F same c.parts_in.ensures

pub parts_in-returns-in-Alone : goal.parts_in-returns-in-Alone
parts_in-returns-in-Alone g t c =
    let term = process_of c.args.term.now in
    let way = map side_of c.args.way.now in
    let is : Alone ≡ standing term = sym (ap standing_of c.in-Alone.is) ∙ c.standing_in.ensures in
    let same : record { way = way; process = term } ∷ [] ≡ all_placed_behind way (placed_parts term) =
    ap (λ w. record { way = w; process = term } ∷ []) (sym (append-nil way)) ∙ ap (all_placed_behind way) (ap (placed_by term) is ∙ parts_placed term) in
    let F : List Placed → Type 0 = λ ds. IfOk c.one_part.result (λ ws. AreWaiting (script_of c.args.script.now) ds (map waiting_of ws.items)) in
    subst F same c.one_part.ensures

pub parts_of_both-returns : goal.parts_of_both-returns
parts_of_both-returns g t c =
    let script = script_of c.args.script.now in
    let way = map side_of c.args.way.now in
    let one = placed_parts (process_of c.args.left.now) in
    let other = placed_parts (process_of c.args.right.now) in
    let all = map waiting_of c.in_ok-all.all.items in
    let others = map waiting_of c.in_ok-others.others.items in
    let on_left = ap (λ (w : List code.Side). map side_of w) c.deref.ensures.value ∙ c.in_ok-on_left.ensures in
    let on_right = ap (λ (w : List code.Side). map side_of w) c.deref-2.ensures.value ∙ c.in_ok-on_right.ensures in
    let first : AreWaiting script (all_placed_behind way (placed_on Left one)) all =
    subst (λ ds. AreWaiting script ds all) (ap (λ w. all_placed_behind w one) on_left ∙ placed_further_behind way Left one) c.in_ok-all.ensures in
    let second : AreWaiting script (all_placed_behind way (placed_on Right other)) others =
    subst (λ ds. AreWaiting script ds others) (ap (λ w. all_placed_behind w other) on_right ∙ placed_further_behind way Right other) c.in_ok-others.ensures in
    let both = both_waiting script (all_placed_behind way (placed_on Left one)) (all_placed_behind way (placed_on Right other)) all others first second in
    let put : map waiting_of c.append.new.self.items ≡ all ++ others = ap (λ (ws : List (Waiting g.row.A.Denot)). map waiting_of ws) c.in_ok-append.ensures.items ∙ map-append waiting_of c.in_ok-all.all.items c.in_ok-others.others.items in
    let F : List pure.Waiting → Type 0 = AreWaiting script (all_placed_behind way (placed_on Left one ++ placed_on Right other)) in
    subst F (sym put) (subst (λ ds. AreWaiting script ds (all ++ others)) (sym (both_placed way (placed_on Left one) (placed_on Right other))) both)

pub parts_in-parts_of_both-requires : goal.parts_in-parts_of_both-requires
parts_in-parts_of_both-requires g t c κs within =
    let script = script_of c.args.script.now in
    let term = process_of c.args.term.now in
    let is : standing term ≡ Beside (process_of c.in-Beside.left.now) (process_of c.in-Beside.right.now) = sym c.standing_in.ensures ∙ ap standing_of c.in-Beside.is in
    let smaller : size (process_of c.in-Beside.left.now) + size (process_of c.in-Beside.right.now) < size term = subst (IsSmaller (size term)) is (parts_smaller term) in
    let terms : AreTerms script (Beside (process_of c.in-Beside.left.now) (process_of c.in-Beside.right.now)) = subst (AreTerms script) is (parts_terms script term c.requires) in
    (omega (arith, c.decreases, smaller), (within, (terms.0, terms.1)))

pub parts_in-parts_in-requires : goal.parts_in-parts_in-requires
parts_in-parts_in-requires g t c κs within =
    let script = script_of c.args.script.now in
    let term = process_of c.args.term.now in
    let is : standing term ≡ Inside (process_of c.in-Inside.body.now) = sym c.standing_in.ensures ∙ ap standing_of c.in-Inside.is in
    let smaller : size (process_of c.in-Inside.body.now) < size term = subst (IsSmaller (size term)) is (parts_smaller term) in
    let closed : IsTermOf script (process_of c.in-Inside.body.now) = subst (AreTerms script) is (parts_terms script term c.requires) in
    (omega (arith, c.decreases, smaller), (within, closed))
