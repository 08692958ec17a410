-- What a line asks for, as the code says it.
use Rattle.theory_walk.specs.Commands as pure
use Rattle.state_walk.specs.declared.command.Command.{Command}
use Rattle.state_walk.specs.declared.command.Command.TheVariants as command

abbrev pub command_told : Command → pure.Command
command_told command.Back = pure.Back
command_told command.End = pure.End
command_told command.Again = pure.Again
command_told (command.Take text) = pure.Take text.now
