-- Levels and kinds of tokens, as the definitions have them.
use Rattle.csp_lex.specs.Tokens.{keyword_of, sign_of}
use Rattle.csp_lex.specs.declared.kinds.TokenKind.{TokenKind}
use Rattle.csp_lex.specs.declared.kinds.TokenKind.TheVariants as kind
use Rattle.theory_reader.specs.Forms as reader
use Rattle.theory_reader.specs.Programs.{Seen, SeenWord, SeenSign, SeenName, SeenNumber}
use Rattle.csp_parse.specs.declared.levels.Level.{Level}
use Rattle.csp_parse.specs.declared.levels.Level.TheVariants as level

abbrev pub level_of : Level → reader.Level
level_of level.Disjunction = reader.Disjunction
level_of level.Conjunction = reader.Conjunction
level_of level.Negation = reader.Negation
level_of level.Comparison = reader.Comparison
level_of level.Sum = reader.Sum
level_of level.Product = reader.Product
level_of level.Atom = reader.Atom

abbrev pub seen_kind : TokenKind → Seen
seen_kind (kind.Keyword k) = SeenWord (keyword_of k)
seen_kind (kind.Sign s) = SeenSign (sign_of s)
seen_kind kind.Name = SeenName
seen_kind (kind.Number n) = SeenNumber n
