-- Small scripts and terms, for the worked rows.
use Rattle.std.specs.Prelude.{ℕ, List, [], ◌∷◌}
use Rattle.theory_syntax.specs.Value.{Action}
use Rattle.theory_syntax.specs.Expression.{Name, no_expressions, expression_and, SetOf, to_expressions}
use Rattle.theory_syntax.specs.Process.{Process, Call, ReplicatedInterleaving, AtOnce, Script}
use Rattle.theory_semantics.specs.Meaning.Stepping.{rule_steps}
use Rattle.theory_semantics.specs.Laws.Terms.{letters, digits, num, plain, send_x}
use Rattle.theory_syntax.specs.Readings.{at_once}

-- the equations `P = a -> P` and `Q = P`
abbrev pub p_and_q : Script
p_and_q = at_once (letters (record { parameters = []; body = plain 0 (Call 0 no_expressions) } ∷ record { parameters = []; body = Call 0 no_expressions } ∷ []))

abbrev pub call : ℕ → Process
call n = Call n no_expressions

-- the steps of a term over them
abbrev pub steps_of : Process → List (Action × Process)
steps_of p = rule_steps p_and_q p

-- `P = P`
abbrev pub p_is_p : Script
p_is_p = at_once (letters (record { parameters = []; body = call 0 } ∷ []))

-- `P(x) = c!x -> STOP`
abbrev pub p_of_x : Script
p_of_x = at_once (record {
  types = digits.types;
  channels = digits.channels;
  equations = record { parameters = 7 ∷ []; body = send_x } ∷ [];
  assertions = [];
  channel_names = digits.channel_names;
  constructor_names = [];
  unfolds = AtOnce;
})

-- `P(x)`, and `||| x:{0,1} @ p`
abbrev pub p_at_x : Process
p_at_x = Call 0 (expression_and (Name 7) no_expressions)

abbrev pub both_bits : Process → Process
both_bits p = ReplicatedInterleaving 7 (SetOf (to_expressions (num 0 ∷ num 1 ∷ []))) p
