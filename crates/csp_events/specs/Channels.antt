-- What channels of the code stand for, and the script that declares types and channels.
use Rattle.std.specs.Prelude.{ℕ, List, [], map}
use Rattle.std.specs.String.{string_bytes}
use Rattle.theory_syntax.specs.Value.{Value}
use Rattle.theory_syntax.specs.Process.{Script, ByTau}
use Rattle.csp_value.specs.Fields.{sets_of}
use Rattle.csp_expression.specs.declared.types.TypeTable.{TypeTable}
use Rattle.csp_expression.specs.Evaluation.{table_of}
use Rattle.csp_events.specs.declared.channel.Channel.{Channel}

-- the field sets of a channel
abbrev pub field_sets_of : {A : Type 0} → Channel A → List (List Value)
field_sets_of c = sets_of c.fields.items

-- a channel's spelling, and its field sets
abbrev pub channel_of : {A : Type 0} → Channel A → List ℕ × List (List Value)
channel_of c = (string_bytes c.spelling, field_sets_of c)

-- the script that declares these types and channels, and nothing else
abbrev pub declaring : {A : Type 0} → TypeTable A → List (Channel A) → Script
declaring types channels = record {
  types = table_of types;
  channels = map field_sets_of channels;
  equations = [];
  assertions = [];
  channel_names = [];
  constructor_names = [];
  unfolds = ByTau;
}
