use Rattle.std.proofs.Common.{◌≡◌, refl, sym, subst}
use Rattle.ips_text.specs.Path.{IsPath}
use Rattle.ips_state.specs.Records.{package_path}
use Rattle.ips_state.proofs.Places.{package_is_path}
use Rattle.ips_entries.proofs.placing.package_path.Goals as goal

pub path_of-requires : goal.path_of-requires
path_of-requires c =
    let bytes : c.deref.result.now ≡ package_path c.args.stem.now =
    rw (c.deref.ensures.value, c.in_ok-extend_from_slice.ensures.items, c.in_ok-bytes.ensures.items, c.as_bytes-2.ensures.value, c.as_str.ensures, c.in_ok-quoted.ensures, c.as_bytes.ensures.value) refl in
    subst IsPath (sym bytes) (package_is_path c.args.stem.now c.requires)
