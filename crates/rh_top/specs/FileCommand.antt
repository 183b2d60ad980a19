-- What a command of the program means.
use Rattle.std.specs.Option.{option_map}
use Rattle.rh_top.specs.declared.command.FileCommand.{FileCommand}
use Rattle.rh_top.specs.declared.command.FileCommand.TheVariants.{Run}
use Rattle.rh_top.specs.Command.{Command, run}

abbrev pub command_data : FileCommand → Command
command_data (Run program faults) = run program.now (option_map (λ name. name.now) faults)
