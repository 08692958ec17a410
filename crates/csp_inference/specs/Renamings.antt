-- The channels that the pairs of renamings name.
use Rattle.std.specs.Prelude.{List, Option, slice_get}
use Rattle.theory_syntax.specs.Value.{Value}
use Rattle.csp_value.specs.declared.name.ChannelId.{ChannelId}
use Rattle.csp_term.specs.declared.script.ScriptParts.{ScriptParts}
use Rattle.csp_term.specs.Script.{script_of_parts}

-- the field sets of the channel, if it is there
abbrev pub sets_of_channel : {A : Type 0} → ScriptParts A → ChannelId → Option (List (List Value))
sets_of_channel script channel = slice_get (script_of_parts script).channels channel.0
