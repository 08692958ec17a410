use Rattle.std.proofs.Common.{◌≡◌, ◌++◌, ap, subst, ◌∙◌, codes}
use Rattle.theory_text.specs.Token.{IsPiece, IsRefusedHere}
use Rattle.theory_text.proofs.Pieces.{line_comment_is, mark_comment_is, open_comment_is}
use Rattle.csp_lex.specs.declared.cursors.Cursor.{Cursor}
use Rattle.csp_lex.specs.declared.marks.Mark.{Mark}
use Rattle.csp_lex.specs.Cursors.{left_of, Begins}
use Rattle.csp_lex.specs.Marks.{lexeme_of}
use Rattle.csp_lex.proofs.Steps.{passes_then}
use Rattle.csp_lex.proofs.pieces.read_marked.Goals as goal

-- the same, where it is known which mark it is
known : {from to : Cursor} {m k : Mark} → m ≡ k → Begins from (lexeme_of m) to → Begins from (lexeme_of k) to
known {from} {to} e begins = subst (λ x. Begins from (lexeme_of x) to) e begins

pub returns-in_default-clause-refused : goal.returns-in_default-clause-refused
returns-in_default-clause-refused c = IsRefusedHere.no_token c.requires.some c.in_default.ensures.none

pub returns-in_default-behind_comment-clause-refused : goal.returns-in_default-behind_comment-clause-refused
returns-in_default-behind_comment-clause-refused c =
    let begins = known c.in-BlockComment.is c.in-Some.ensures.found in
    open_comment_is (left_of c.args.cursor) begins.front (left_of c.in-Some.end) begins.passes.characters begins.longest c.in_default-behind_comment.ensures.none

pub returns-in-Sign-clause-piece : goal.returns-in-Sign-clause-piece
returns-in-Sign-clause-piece c =
    let begins = known c.in-Sign.is c.in-Some.ensures.found in
    record { front = begins.front; passes = begins.passes; piece = IsPiece.token begins.longest tt }

pub returns-in-LineComment-clause-piece : goal.returns-in-LineComment-clause-piece
returns-in-LineComment-clause-piece c =
    let begins = known c.in-LineComment.is c.in-Some.ensures.found in
    let run = c.behind_run.ensures in
    let all = begins.passes.characters ∙ ap (λ zs. begins.front ++ zs) run.passes.characters in
    record {
      front = begins.front ++ run.run;
      passes = passes_then begins.passes run.passes;
      piece = line_comment_is (left_of c.args.cursor) begins.front run.run (left_of c.behind_run.result) all begins.longest run.all run.stops;
    }

pub returns-in-Some-behind_comment-clause-piece : goal.returns-in-Some-behind_comment-clause-piece
returns-in-Some-behind_comment-clause-piece c =
    let begins = known c.in-BlockComment.is c.in-Some.ensures.found in
    let ends = c.in-Some-behind_comment.ensures.found in
    record {
      front = begins.front ++ (ends.body ++ codes "-}");
      passes = passes_then begins.passes ends.passes;
      piece = mark_comment_is (left_of c.args.cursor) begins.front ends.body (left_of c.in-Some.end) begins.passes.characters begins.longest ends.first;
    }
