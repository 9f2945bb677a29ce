use Rattle.std.proofs.Common.{◌≡◌, ◌++◌, string_bytes, take}
use Rattle.std.specs.List.{flat_map}
use Rattle.ips_words.specs.History.{blank_and_word}
use Rattle.ips_words.proofs.history.push_words.Given as goal

abbrev pub invariant-loop-word : goal.invariant-loop-word
invariant-loop-word l = string_bytes l.out ≡ string_bytes l.initial.out ++ flat_map (λ w. blank_and_word (string_bytes w)) (take l.word-index l.words)
