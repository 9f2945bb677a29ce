use Rattle.std.proofs.Common.{sym, subst}
use Rattle.ips_fmri.specs.Name.{IsPublisher}
use Rattle.ips_ready.proofs.planning.catalog_path.Goals as goal

pub unreachable-requires : goal.unreachable-requires
unreachable-requires c = (rw c.in-None.is at c.in_ok-place.ensures) (c.places_are_paths.ensures.catalogs c.as_str.result.now (subst IsPublisher (sym c.as_str.ensures) c.requires.publisher))
