use Rattle.std.proofs.Common.{refl, arith}
use Rattle.std.specs.Prelude.{codes}
use Rattle.ips_text.proofs.Fronts.{ascii_path}
use Rattle.ips_create.proofs.Layouts.{catalog_path}
use Rattle.ips_create.proofs.parts.parts_of.Goals as goal

pub place_of-requires : goal.place_of-requires
place_of-requires c = catalog_path c.args.publisher.now c.requires

pub path_of-requires : goal.path_of-requires
path_of-requires c = ascii_path (codes "pkg5.repository") refl refl refl refl refl (omega arith) (omega arith) refl
