use Rattle.std.proofs.Common.{map}
use Rattle.ips_entries.specs.Part.{owned}
use Rattle.ips_entries.proofs.Written.{placed_more, stem_numbered}
use Rattle.ips_entries.proofs.placing.push_packages.Goals as goal

pub push_package-requires : goal.push_package-requires
push_package-requires c = stem_numbered c.args.packages.now c.loop-number.number c.index-packages-number.result c.requires.packages c.loop-number-test.true c.index-packages-number.is

pub loop-number-preserved : goal.loop-number-preserved
loop-number-preserved c =
    placed_more c.args.first c.args.packages.now c.loop-number.number c.index-packages-number.result (map owned c.args.places.now.items) (map owned c.loop-number.places.items) (map owned c.push_package.new.places.items)
    c.loop-number-test.true c.index-packages-number.is c.loop-number.invariant c.in_ok-push_package.ensures
