-- The rule that a refused text breaks, as a sentence.
use Rattle.std.specs.Prelude.{ℕ, List, codes}
use Rattle.csp_lex.specs.declared.refusals.TextFault.{TextFault}
use Rattle.csp_lex.specs.declared.refusals.TextFault.TheVariants as text
use Rattle.csp_parse.specs.declared.refusals.GrammarFault.{GrammarFault}
use Rattle.csp_parse.specs.declared.refusals.GrammarFault.TheVariants as grammar
use Rattle.csp_names.specs.declared.refusals.KindFault.{KindFault}
use Rattle.csp_names.specs.declared.refusals.KindFault.TheVariants as kinds

abbrev pub text_rule : TextFault → List ℕ
text_rule text.NoToken = codes "no token begins with this character"
text_rule text.OpenComment = codes "this comment has no end"
text_rule text.LargeNumber = codes "a number is at most 2147483647"
text_rule text.NotUtf8 = codes "the text is not UTF-8 from here on"
text_rule text.LongText = codes "a script has at most 65536 bytes"

abbrev pub grammar_rule : GrammarFault → List ℕ
grammar_rule grammar.UnexpectedToken = codes "this token cannot stand here"
grammar_rule grammar.Nested = codes "a declaration nests at most 100 levels"
grammar_rule grammar.UnexpectedEnd = codes "the text ends within a declaration"
grammar_rule grammar.MixedOperators = codes "brackets have to say what this operator joins"

abbrev pub kind_rule : KindFault → List ℕ
kind_rule kinds.UnknownName = codes "this name means nothing here"
kind_rule kinds.DeclaredTwice = codes "this name is declared already"
kind_rule kinds.WrongKind = codes "this is of another kind than its place asks for"
kind_rule kinds.WrongCount = codes "this has another number of parts than its declaration"
kind_rule kinds.BadFieldSet = codes "this set has no value, or is the empty set of a field"
kind_rule kinds.TooManyEvents = codes "all channels together have at most 4096 events"
