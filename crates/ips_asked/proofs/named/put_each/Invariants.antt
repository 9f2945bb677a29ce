use Rattle.std.proofs.Common.{◌≡◌, ℕ, List, take}
use Rattle.std.specs.Option.{option_or}
use Rattle.ips_asked.specs.Named.{latest}
use Rattle.ips_asked.specs.Keyed.{AreKeyed, found}
use Rattle.ips_asked.proofs.named.put_each.Given as goal

abbrev pub invariant-loop-item : goal.invariant-loop-item
invariant-loop-item g l = ((name : List ℕ) → found name l.by_name.entries ≡ option_or (latest g.T.Named.name_of name (take l.item-index l.items)) (found name l.initial.by_name.entries)) × AreKeyed g.T.Named.name_of l.by_name.entries
