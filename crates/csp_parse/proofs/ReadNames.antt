-- A name is read.
use Rattle.std.proofs.Common.{◌≡◌, ◌∙◌, refl, sym, ap, Some, None, Ok, Err}
use Rattle.std.specs.Str.{chars}
use Rattle.theory_text.specs.Token.{PlacedToken}
use Rattle.theory_text.specs.Raw.{RawName}
use Rattle.csp_lex.specs.Places.{place_of}
use Rattle.csp_lex.specs.Tokens.{token_of, placed_token}
use Rattle.csp_lex.specs.declared.kinds.Token.{Token}
use Rattle.csp_lex.specs.declared.kinds.TokenKind.{TokenKind}
use Rattle.csp_lex.specs.declared.kinds.TokenKind.TheVariants as kind
use Rattle.theory_reader.specs.Programs.{first, Standing, Here, Outcome, and_then, passed, refuse, Oracle, run}
use Rattle.theory_reader.specs.Reader.{characters, name_from, name_at}
use Rattle.csp_parse.specs.Levels.{seen_kind}
use Rattle.csp_parse.proofs.NextTokens.{seen_as}

other : (t : PlacedToken) (k : TokenKind) → (k ≡ kind.Name → ⊥) → name_from t (seen_kind k) ≡ refuse
other t kind.Name not = absurd (not refl)
other t (kind.Keyword k) not = refl
other t (kind.Sign s) not = refl
other t (kind.Number n) not = refl

pub none_named : (o : Oracle) (s : Standing) → None ≡ first s.left → run o (name_at (first s.left)) s ≡ Err (Here, s.left)
none_named o s e = ap (λ t. run o (name_at t) s) (sym e)

pub not_named : (o : Oracle) (s : Standing) (t : Token) → Some (placed_token t) ≡ first s.left → (t.kind ≡ kind.Name → ⊥) → run o (name_at (first s.left)) s ≡ Err (Here, s.left)
not_named o s t e not =
    ap (λ u. run o (name_at u) s) (sym e) ∙ ap (λ k. run o (name_from (placed_token t) k) s) (seen_as t.kind (chars t.text.now)) ∙ ap (λ p. run o p s) (other (placed_token t) t.kind not)

pub named : (o : Oracle) (s : Standing) (t : Token) → Some (placed_token t) ≡ first s.left → t.kind ≡ kind.Name → {r : Outcome RawName} →
    and_then (passed s) (λ _ q. Ok (record { spelling = chars t.text.now; place = place_of t.place }, q)) ≡ r → run o (name_at (first s.left)) s ≡ r
named o s t e is h =
    ap (λ u. run o (name_at u) s) (sym e) ∙ ap (λ k. run o (name_from (placed_token t) k) s) (seen_as t.kind (chars t.text.now) ∙ ap seen_kind is)
    ∙ ap (λ k. and_then (passed s) (λ _ q. Ok (record { spelling = characters (token_of k (chars t.text.now)); place = place_of t.place }, q))) is ∙ h
