use Rattle.std.proofs.Common.{[], ◌∷◌, subst}
use Rattle.std.proofs.lemmas.Bool.{ne_eqb}
use Rattle.csp_lex.specs.Cursors.{Passes}
use Rattle.csp_lex.proofs.Commenting.{comment_goes_on, comment_ends, no_dash, no_brace}
use Rattle.csp_lex.proofs.comments.behind_comment.Goals as goal

pub returns-in-Some-behind_brace-clause-found : goal.returns-in-Some-behind_brace-clause-found
returns-in-Some-behind_brace-clause-found c =
    let dash = subst (λ x. Passes c.loop-character.here (x ∷ []) c.in-Some.behind) c.if-character-eq45.true c.in-Some.ensures.more in
    comment_ends c.loop-character.invariant dash c.in-Some-behind_brace.ensures.found

pub loop-character-preserved-in_default-behind_brace : goal.loop-character-preserved-in_default-behind_brace
loop-character-preserved-in_default-behind_brace c =
    let dash = subst (λ x. Passes c.loop-character.here (x ∷ []) c.in-Some.behind) c.if-character-eq45.true c.in-Some.ensures.more in
    comment_goes_on c.loop-character.invariant dash (no_brace _ _ dash.characters c.in_default-behind_brace.ensures.none)

pub loop-character-preserved : goal.loop-character-preserved
loop-character-preserved c =
    comment_goes_on c.loop-character.invariant c.in-Some.ensures.more (no_dash c.in-Some.character _ _ c.in-Some.ensures.more.characters (ne_eqb c.in-Some.character 45 c.if-character-eq45.false))
