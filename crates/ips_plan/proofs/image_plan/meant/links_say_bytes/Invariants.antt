use Rattle.std.proofs.Common.{ℕ, ◌<◌, List, get_or}
use Rattle.ips_meaning.specs.declared.entry.Entry.{Entry}
use Rattle.ips_change.specs.wanted.Wanted.{HasLinkBytes}
use Rattle.ips_plan.proofs.image_plan.meant.links_say_bytes.Given as goal

abbrev pub invariant-loop-i : goal.invariant-loop-i
invariant-loop-i l = (k : ℕ) (d : List ℕ × Entry) → k < l.i → HasLinkBytes (get_or l.want k d).1
