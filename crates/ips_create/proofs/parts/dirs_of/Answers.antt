use Rattle.std.proofs.Common.{refl, arith}
use Rattle.std.specs.Prelude.{codes}
use Rattle.ips_text.proofs.Fronts.{ascii_path, records_path}
use Rattle.ips_create.proofs.Layouts.{alone_path, catalogs_path, manifests_path, payloads_path}
use Rattle.ips_create.proofs.parts.dirs_of.Goals as goal

pub path_of-requires : goal.path_of-requires
path_of-requires c = ascii_path (codes "var") refl refl refl refl refl (omega arith) (omega arith) refl

pub path_of-requires-2 : goal.path_of-requires-2
path_of-requires-2 c = records_path

pub path_of-requires-3 : goal.path_of-requires-3
path_of-requires-3 c = ascii_path (codes "publisher") refl refl refl refl refl (omega arith) (omega arith) refl

pub place_of-requires : goal.place_of-requires
place_of-requires c = alone_path c.args.publisher.now c.requires

pub place_of-requires-2 : goal.place_of-requires-2
place_of-requires-2 c = catalogs_path c.args.publisher.now c.requires

pub place_of-requires-3 : goal.place_of-requires-3
place_of-requires-3 c = manifests_path c.args.publisher.now c.requires

pub place_of-requires-4 : goal.place_of-requires-4
place_of-requires-4 c = payloads_path c.args.publisher.now c.requires
