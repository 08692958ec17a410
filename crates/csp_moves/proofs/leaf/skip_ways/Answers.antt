-- It ends, and does nothing else.
use Rattle.std.proofs.Common.{◌≡◌, true, false, [], ◌∷◌, refl, sym, ◌∙◌}
use Rattle.theory_syntax.specs.Process.{Skip}
use Rattle.csp_term.specs.Term.{process_of}
use Rattle.theory_origins.specs.Origin.{Ends}
use Rattle.theory_origins.specs.Ways.{Here}
use Rattle.theory_origins.proofs.LeafWays as law
use Rattle.csp_moves.specs.Way.{lent_action}
use Rattle.csp_moves.proofs.Found.{found_all}
use Rattle.csp_moves.proofs.leaf.skip_ways.Goals as goal

pub returns-then-ends : goal.returns-then-ends
returns-then-ends g c =
    let done = c.ends.ensures.0 c.if-ends.true in
    found_all Skip (lent_action c.args.action) (process_of c.args.target.now) c.one_way.result _ (Here Ends ∷ []) c.one_way.ensures refl
    (λ s. law.skip_ways s (lent_action c.args.action) (process_of c.args.target.now) done.0 done.1)

pub returns : goal.returns
returns g c =
    found_all Skip (lent_action c.args.action) (process_of c.args.target.now) c.no_ways.result _ [] c.no_ways.ensures refl
    (λ s. law.no_skip_ways s (lent_action c.args.action) (process_of c.args.target.now) (λ done. let e : true ≡ false = sym (c.ends.ensures.1 done) ∙ c.if-ends.false in absurd (cc e)))
