-- What the pairs of renamings ask.
use Rattle.std.specs.Prelude.{List}
use Rattle.theory_checking.specs.Inference.Processes.{behind_event, behind_pairs, of_pair, of_pairs}
use Rattle.csp_events.specs.declared.renaming_pair.RenamingPair.{RenamingPair}
use Rattle.csp_events.specs.Events.{event_expression_of, renaming_pair_of, renaming_pairs_of}
use Rattle.csp_term.specs.declared.script.ScriptParts.{ScriptParts}
use Rattle.csp_term.specs.Script.{script_of_parts}
use Rattle.csp_inference.specs.declared.numbering.NumberedName.{NumberedName}
use Rattle.csp_inference.specs.declared.numbering.Numbering.{Numbering}
use Rattle.csp_inference.specs.Numbering.{names_of, numbering_of}
use Rattle.csp_inference.specs.Question.{Question}

-- what pairs ask, one after the other
abbrev pub pairs_question : {A : Type 0} → ScriptParts A → Numbering A → List NumberedName → List (RenamingPair A) → Question
pairs_question script numbering names pairs = record {
  equations = λ n. of_pairs (script_of_parts script) (numbering_of numbering) n (names_of names) (renaming_pairs_of pairs);
  behind = λ n. behind_pairs n (renaming_pairs_of pairs);
}

-- what a pair asks: nothing if it names two channels with the same field sets, else what both events ask
abbrev pub pair_question : {A : Type 0} → ScriptParts A → Numbering A → List NumberedName → RenamingPair A → Question
pair_question script numbering names pair = record {
  equations = λ n. of_pair (script_of_parts script) (numbering_of numbering) n (names_of names) (renaming_pair_of pair);
  behind = λ n. behind_event (behind_event n (event_expression_of pair.from)) (event_expression_of pair.to);
}
