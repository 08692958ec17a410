-- Refusals, as the definitions have them.
use Rattle.std.specs.Prelude.{ℕ, List, ⊤}
use Rattle.theory_text.specs.Token as text
use Rattle.theory_text.specs.Token.{IsTextRefusal}
use Rattle.csp_lex.specs.declared.refusals.TextFault.{TextFault}
use Rattle.csp_lex.specs.declared.refusals.TextFault.TheVariants as fault
use Rattle.csp_lex.specs.declared.refusals.Refused.{Refused}
use Rattle.csp_lex.specs.declared.refusals.Refused.TheVariants as refused
use Rattle.csp_lex.specs.Places.{place_of}

abbrev pub fault_of : TextFault → text.TextFault
fault_of fault.NoToken = text.NoToken
fault_of fault.OpenComment = text.OpenComment
fault_of fault.LargeNumber = text.LargeNumber
fault_of fault.NotUtf8 = text.NotUtf8
fault_of fault.LongText = text.LongText

-- The refusal is one of these bytes. Refused memory says nothing of them.
abbrev pub IsRefusalOf : List ℕ → Refused → Type 0
IsRefusalOf bytes (refused.Text fault place) = IsTextRefusal bytes (fault_of fault) (place_of place)
IsRefusalOf bytes refused.Memory = ⊤
