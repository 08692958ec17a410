use Rattle.std.proofs.Common.{◌≡◌, drop}
use Rattle.diagnostics.specs.Characters.{character_advice}
use Rattle.diagnostics.proofs.characters.character_advice.Given as goal

abbrev pub invariant-loop-advice : goal.invariant-loop-advice
invariant-loop-advice l = character_advice (drop l.advice-index l.table) l.character ≡ character_advice l.table l.character
