-- What the reader hands out.
use Rattle.std.specs.Prelude.{◌≡◌, ℕ, List, ⊤}
use Rattle.theory_syntax.specs.Process.{Script, Unfolding}
use Rattle.theory_syntax.specs.Readings.{by_tau}
use Rattle.theory_text.specs.Reading.{OfGrammar, IsReadingRefusal}
use Rattle.theory_text.specs.Token.{IsTextRefusal}
use Rattle.theory_checking.specs.Checked.{IsCheckedText, IsRefusedText}
use Rattle.csp_lex.specs.Places.{place_of}
use Rattle.csp_lex.specs.Refusals.{fault_of}
use Rattle.csp_parse.specs.Refusals as grammar
use Rattle.csp_names.specs.Refusals as kinds
use Rattle.program.specs.declared.refusal.Refusal.{Refusal}
use Rattle.program.specs.declared.refusal.Refusal.TheVariants as refusal

-- The text is refused by the rules of tokens, behind them by the grammar, and behind that by those of names and kinds.
abbrev pub IsRefusalOf : List ℕ → Refusal → Type 0
IsRefusalOf bytes (refusal.Text f p) = IsTextRefusal bytes (fault_of f) (place_of p)
IsRefusalOf bytes (refusal.Grammar f p) = IsReadingRefusal bytes (OfGrammar (grammar.fault_of f)) (place_of p)
IsRefusalOf bytes (refusal.Kinds f p) = IsRefusedText bytes (kinds.fault_of f) (place_of p)
IsRefusalOf bytes refusal.Memory = ⊤
IsRefusalOf bytes _ = ⊥

-- the text is checked, and this is its script with its names read so
abbrev pub IsTextRead : Unfolding → List ℕ → Script → Type 0
IsTextRead names bytes script = IsCheckedText bytes (by_tau script) × (script.unfolds ≡ names)
