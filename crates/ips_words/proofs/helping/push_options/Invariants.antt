use Rattle.std.proofs.Common.{◌≡◌, ◌++◌, string_bytes, take}
use Rattle.std.specs.List.{flat_map}
use Rattle.ips_words.specs.Help.{option_text}
use Rattle.ips_words.proofs.helping.push_options.Given as goal

abbrev pub invariant-loop-role : goal.invariant-loop-role
invariant-loop-role l = string_bytes l.out ≡ string_bytes l.initial.out ++ flat_map (option_text l.verb) (take l.role-index l.roles)
