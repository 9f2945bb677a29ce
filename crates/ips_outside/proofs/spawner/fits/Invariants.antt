use Rattle.std.proofs.Common.{◌≡◌, ◌+◌, length, take}
use Rattle.std.specs.List.{flat_map}
use Rattle.ips_outside.specs.Spawning.{word_text}
use Rattle.ips_outside.proofs.spawner.fits.Given as goal

abbrev pub invariant-loop-word : goal.invariant-loop-word
invariant-loop-word l = l.left + length (flat_map word_text (take l.word-index l.words)) ≡ l.fn.room
