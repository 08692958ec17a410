use Rattle.std.proofs.Common.{[], ◌∷◌, ◌++◌, sym, ◌∙◌}
use Rattle.csp_lex.specs.Classes.{class_test}
use Rattle.csp_lex.proofs.Steps.{passes_then, list_all-push}
use Rattle.csp_lex.proofs.classes.behind_run.Goals as goal

pub loop-character-preserved : goal.loop-character-preserved
loop-character-preserved c =
    let so_far = c.loop-character.invariant in (
      so_far.0 ++ c.in-Some.character ∷ [],
      passes_then so_far.1 c.in-Some.ensures.more,
      list_all-push (class_test c.args.class) so_far.0 c.in-Some.character so_far.2 (sym c.contains.ensures ∙ c.if-not-contains.false),
    )
