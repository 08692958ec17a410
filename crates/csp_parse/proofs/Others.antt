-- Keywords, signs and kinds that begin no atom or no set of events.
use Rattle.std.proofs.Common.{◌≡◌, refl, false, Some}
use Rattle.csp_lex.specs.declared.keywords.Keyword.{Keyword}
use Rattle.csp_lex.specs.declared.keywords.Keyword.TheVariants as keyword
use Rattle.csp_lex.specs.declared.signs.Sign.{Sign}
use Rattle.csp_lex.specs.declared.signs.Sign.TheVariants as sign
use Rattle.csp_lex.specs.Tokens.{keyword_of, sign_of}
use Rattle.csp_lex.specs.declared.kinds.TokenKind.{TokenKind}
use Rattle.csp_lex.specs.declared.kinds.TokenKind.TheVariants as kind
use Rattle.csp_parse.specs.Levels.{seen_kind}
use Rattle.theory_reader.specs.Programs.{refuse}
use Rattle.theory_reader.specs.Reader.{constant, atom_of_sign, event_set_by}

pub no_constant : (k : Keyword) → (k ≡ keyword.True → ⊥) → (k ≡ keyword.False → ⊥) → (k ≡ keyword.Bool → ⊥) → constant (keyword_of k) ≡ refuse
no_constant keyword.True a b c = absurd (a refl)
no_constant keyword.False a b c = absurd (b refl)
no_constant keyword.Bool a b c = absurd (c refl)
no_constant _ a b c = refl

pub no_atom : (s : Sign) → (s ≡ sign.Minus → ⊥) → (s ≡ sign.Hash → ⊥) → (s ≡ sign.OpenRound → ⊥) → (s ≡ sign.Less → ⊥) → (s ≡ sign.OpenBrace → ⊥) → atom_of_sign (sign_of s) ≡ refuse
no_atom sign.Minus a b c d e = absurd (a refl)
no_atom sign.Hash a b c d e = absurd (b refl)
no_atom sign.OpenRound a b c d e = absurd (c refl)
no_atom sign.Less a b c d e = absurd (d refl)
no_atom sign.OpenBrace a b c d e = absurd (e refl)
no_atom _ a b c d e = refl

pub no_set_begins : (k : TokenKind) → ((w : Keyword) → k ≡ kind.Keyword w → ⊥) → event_set_by false false (Some (seen_kind k)) ≡ refuse
no_set_begins (kind.Keyword w) none = absurd (none w refl)
no_set_begins _ none = refl
