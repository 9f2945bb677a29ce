use Rattle.std.proofs.Common.{◌≡◌, ◌++◌, string_bytes, take}
use Rattle.std.specs.List.{flat_map}
use Rattle.ips_words.specs.Help.{command_text}
use Rattle.ips_words.proofs.helping.push_commands.Given as goal

abbrev pub invariant-loop-verb : goal.invariant-loop-verb
invariant-loop-verb l = string_bytes l.out ≡ string_bytes l.initial.out ++ flat_map command_text (take l.verb-index l.verbs)
