use Rattle.std.proofs.Common.{◌∙◌, Some, None}
use Rattle.ips_meaning.proofs.PathMaps.{found_by, place_by, put_place, put_path}
use Rattle.ips_meaning.proofs.leading.put.Goals as goal

pub returns-in-Some-clause-old : goal.returns-in-Some-clause-old
returns-in-Some-clause-old c = place_by c.args.paths.now c.args.path.now (Some c.in-Some.old) (found_by c.args.paths.now c.args.path.now c.in_ok-key.key.items _ c.in_ok-key.ensures.items c.in_ok-old.ensures.old ∙ c.in-Some.is)

pub returns-in-Some-clause-places : goal.returns-in-Some-clause-places
returns-in-Some-clause-places c = put_place c.args.paths.now c.insert.new.self c.in_ok-key.key (Some c.args.place) c.args.path.now c.in_ok-old.ensures.entries c.in_ok-key.ensures.items

pub returns-in-Some-clause-paths : goal.returns-in-Some-clause-paths
returns-in-Some-clause-paths c = put_path c.args.paths.now c.insert.new.self c.in_ok-key.key (Some c.args.place) c.args.path.now c.in_ok-old.ensures.entries c.in_ok-key.ensures.items

pub returns-in-None-clause-old : goal.returns-in-None-clause-old
returns-in-None-clause-old c = place_by c.args.paths.now c.args.path.now None (found_by c.args.paths.now c.args.path.now c.in_ok-key.key.items _ c.in_ok-key.ensures.items c.in_ok-old.ensures.old ∙ c.in-None.is)

pub returns-in-None-clause-places : goal.returns-in-None-clause-places
returns-in-None-clause-places c = put_place c.args.paths.now c.insert.new.self c.in_ok-key.key (Some c.args.place) c.args.path.now c.in_ok-old.ensures.entries c.in_ok-key.ensures.items

pub returns-in-None-clause-paths : goal.returns-in-None-clause-paths
returns-in-None-clause-paths c = put_path c.args.paths.now c.insert.new.self c.in_ok-key.key (Some c.args.place) c.args.path.now c.in_ok-old.ensures.entries c.in_ok-key.ensures.items
