use Rattle.std.proofs.Common.{false, sym, subst}
use Rattle.ips_fmri.specs.Name.{IsPublisher, IsStem}
use Rattle.ips_ready.proofs.planning.manifest_path.Goals as goal

pub unreachable-requires : goal.unreachable-requires
unreachable-requires c =
    (rw c.in-None.is at c.in_ok-place.ensures)
    (c.places_are_paths.ensures.manifests c.as_str.result.now c.as_str-2.result.now c.args.asked.now.version (subst IsPublisher (sym c.as_str.ensures) c.requires.publisher) (subst (IsStem false) (sym c.as_str-2.ensures) c.requires.stem) c.requires.version)
