use Rattle.std.proofs.Common.{[], ◌∷◌, None, sym, subst, ◌∙◌}
use Rattle.theory_text.specs.Token.{IsPiece}
use Rattle.theory_text.proofs.Fronts.{white_longest}
use Rattle.csp_lex.specs.Cursors.{left_of}
use Rattle.csp_lex.proofs.pieces.read_piece.Goals as goal

pub returns-then-is_white-clause-piece : goal.returns-then-is_white-clause-piece
returns-then-is_white-clause-piece c =
    let more = c.in-Some.ensures.more in
    let white = white_longest c.in-Some.first (left_of c.in-Some.behind) (sym c.is_white.ensures ∙ c.if-is_white.true) in
    record {
      front = c.in-Some.first ∷ [];
      passes = more;
      piece = subst (λ cs. IsPiece cs 1 None) (sym more.characters) (IsPiece.white white);
    }
