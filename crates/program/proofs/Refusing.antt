-- The refusal of the text of a file.
use Rattle.std.proofs.Common.{◌≡◌, Result, IfErr, ℕ, List}
use Rattle.std.specs.Result.{IsErr, IsErrAnd}
use Rattle.std.proofs.lemmas.Result.{err_from_is_err_and}
use Rattle.theory_text.specs.Place.{Place}
use Rattle.theory_text.specs.Raw.{RawScript}
use Rattle.theory_text.specs.Reading.{IsRead, of_grammar}
use Rattle.theory_text.specs.Token.{PlacedToken, AreTokens}
use Rattle.csp_parse.specs.Stopping as parsing
use Rattle.csp_parse.specs.declared.refusals.Refused as parser
use Rattle.csp_parse.specs.declared.refusals.Refused.TheVariants as parser_fault
use Rattle.csp_kinds.specs.Refusals as checking
use Rattle.csp_names.specs.declared.refusals.Refused as checker
use Rattle.csp_names.specs.declared.refusals.Refused.TheVariants as checker_fault
use Rattle.program.specs.declared.refusal.Refusal.{Refusal}
use Rattle.program.specs.Reading.{IsRefusalOf}
use Rattle.program.specs.Refusal.{of_kinds, of_parser}

-- what the parser refuses of a text's tokens is refused of the text
pub of_tokens : (bytes : List ℕ) (tokens : List PlacedToken) (end : Place) (refused : parser.Refused) → AreTokens bytes tokens end → parsing.IsRefusalOf tokens end refused → IsRefusalOf bytes (of_parser refused)
of_tokens bytes tokens end (parser_fault.Grammar f p) are is = of_grammar {tokens = tokens} {end = end} are is
of_tokens bytes tokens end parser_fault.Memory are is = tt

-- what is refused of a text's tree is refused of the text
pub of_tree : (bytes : List ℕ) (tree : RawScript) (refused : checker.Refused) → IsRead bytes tree → checking.IsRefusalOf tree refused → IsRefusalOf bytes (of_kinds refused)
of_tree bytes tree (checker_fault.Fault f p) is_read is = (tree, is_read, is)
of_tree bytes tree checker_fault.Memory is_read is = tt

-- a refusal is handed on
pub handed : {T : Type 0} (r : Result T Refusal) {why : Refusal} (P : Refusal → Type 0) → IsErr r × IsErrAnd r (λ e. e ≡ why) → P why → IfErr r P
handed r P same said = let p = err_from_is_err_and r same.1 in rw (p.1, p.2) said
