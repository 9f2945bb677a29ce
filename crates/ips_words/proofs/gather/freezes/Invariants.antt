use Rattle.std.proofs.Common.{◌≡◌, take}
use Rattle.ips_words.specs.Meaning.{all_of, freeze_in}
use Rattle.ips_words.proofs.gather.freezes.Given as goal

abbrev pub invariant-loop-g : goal.invariant-loop-g
invariant-loop-g l = l.list.items ≡ all_of freeze_in l.role (take l.g-index l.given)
