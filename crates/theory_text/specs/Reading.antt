-- Reading a text: its tokens, and then its tree.
use Rattle.std.specs.Prelude.{ℕ, List, codes}
use Rattle.theory_text.specs.Place.{Place}
use Rattle.theory_text.specs.Token.{PlacedToken, AreTokens, TextFault, NoToken, OpenComment, LargeNumber, NotUtf8, LongText, IsTextRefusal}
use Rattle.theory_text.specs.Raw.{RawScript}
use Rattle.theory_text.specs.Height.{IsParsed, GrammarFault, UnexpectedToken, Nested, UnexpectedEnd, MixedOperators, IsGrammarRefusal}

-- a fault that reading a text meets
pub data ReadingFault : Type 0 where
  OfText : (fault : TextFault) → ReadingFault
  OfGrammar : (fault : GrammarFault) → ReadingFault

abbrev pub text_fault_spelling : TextFault → List ℕ
text_fault_spelling NoToken = codes "L01"
text_fault_spelling OpenComment = codes "L02"
text_fault_spelling LargeNumber = codes "L03"
text_fault_spelling NotUtf8 = codes "L04"
text_fault_spelling LongText = codes "L05"

abbrev pub grammar_fault_spelling : GrammarFault → List ℕ
grammar_fault_spelling UnexpectedToken = codes "S01"
grammar_fault_spelling Nested = codes "S02"
grammar_fault_spelling UnexpectedEnd = codes "S03"
grammar_fault_spelling MixedOperators = codes "S04"

abbrev pub reading_fault_spelling : ReadingFault → List ℕ
reading_fault_spelling (OfText f) = text_fault_spelling f
reading_fault_spelling (OfGrammar f) = grammar_fault_spelling f

-- the text has this tree
pub data IsRead (bytes : List ℕ) (s : RawScript) : Type 0 where
  read : {tokens : List PlacedToken} {end : Place} → AreTokens bytes tokens end → IsParsed tokens s → IsRead bytes s

-- The text is refused. The grammar is looked at only where the text has its tokens.
pub data IsReadingRefusal (bytes : List ℕ) : ReadingFault → Place → Type 0 where
  of_text : {f : TextFault} {p : Place} → IsTextRefusal bytes f p → IsReadingRefusal bytes (OfText f) p
  of_grammar : {tokens : List PlacedToken} {end p : Place} {f : GrammarFault} → AreTokens bytes tokens end → IsGrammarRefusal tokens end f p → IsReadingRefusal bytes (OfGrammar f) p

-- no refusal of the grammar is one of the tokens, and none of reading one of the text
abbrev pub AreUnrefused : List PlacedToken → Place → Type 0
AreUnrefused tokens end = (f : GrammarFault) (p : Place) → ¬ (IsGrammarRefusal tokens end f p)

abbrev pub IsUnrefusedText : List ℕ → Type 0
IsUnrefusedText bytes = (f : ReadingFault) (p : Place) → ¬ (IsReadingRefusal bytes f p)
