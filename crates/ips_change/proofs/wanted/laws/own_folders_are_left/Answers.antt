use Rattle.ips_change.proofs.wanted.Apart.{legacy_wanted, nothing_below, nothing_legacy, own_wanted, wanted_named}
use Rattle.ips_change.proofs.wanted.laws.own_folders_are_left.Goals as goal

pub returns : goal.returns
returns c = record {
  wanted = own_wanted;
  none = λ settings mediators packages entries path mean below. nothing_below settings mediators packages entries mean path below;
  legacy_none = λ settings mediators packages entries path mean below. nothing_legacy settings mediators packages entries mean path below;
  legacy = λ settings mediators packages entries mean has. legacy_wanted settings mediators packages entries mean has;
  names = λ settings mediators packages entries path mean there. wanted_named settings mediators packages entries mean path there;
}
