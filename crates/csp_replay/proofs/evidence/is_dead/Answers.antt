-- Steps that are none stand for none.
use Rattle.std.proofs.Common.{length, map, sym, ◌∙◌, ap, arith}
use Rattle.std.proofs.lemmas.Bool.{eqb-true, eq-eqb}
use Rattle.std.proofs.lemmas.List.{length-map, nil_from_length}
use Rattle.csp_fire.specs.Form.{step_of}
use Rattle.csp_replay.proofs.evidence.is_dead.Goals as goal

pub returns-then-is_omega : goal.returns-then-is_omega
returns-then-is_omega g c = (λ told. absurd (cc told), λ dead. absurd (dead.0 (c.is_omega.ensures.0 c.if-is_omega.true)))

pub returns : goal.returns
returns g c =
    let steps = c.args.steps.now in
    let long = length-map steps step_of in (
      λ told. (
        λ ended. let yes = c.is_omega.ensures.1 ended in let no = c.if-is_omega.false in cc (yes, no),
        let none = eqb-true (length steps) 0 (sym c.is_empty.ensures ∙ told) in nil_from_length (map step_of steps) (omega (arith, long, none)),
      ),
      λ dead. let none = ap length dead.1 in c.is_empty.ensures ∙ eq-eqb (length steps) 0 (omega (arith, long, none)),
    )
