use Rattle.std.proofs.Common.{◌≡◌, ◌++◌, map, take}
use Rattle.std.specs.Process.{command_program, command_args}
use Rattle.ips_commands.proofs.commands.add_arguments.Given as goal

abbrev pub invariant-loop-argument : goal.invariant-loop-argument
invariant-loop-argument g l = (command_program l.command ≡ command_program l.fn.command) × (command_args l.command ≡ command_args l.fn.command ++ map g.W.Word.word (take l.argument-index l.arguments))
