use Rattle.std.proofs.Common.{refl, arith}
use Rattle.std.specs.Prelude.{codes}
use Rattle.ips_text.proofs.Fronts.{ascii_path}
use Rattle.ips_lay.proofs.records.make_records.Goals as goal

pub path_of-requires : goal.path_of-requires
path_of-requires g c = ascii_path (codes "var") refl refl refl refl refl (omega arith) (omega arith) refl

pub path_of-requires-2 : goal.path_of-requires-2
path_of-requires-2 g c = ascii_path (codes "var/pkg") refl refl refl refl refl (omega arith) (omega arith) refl
