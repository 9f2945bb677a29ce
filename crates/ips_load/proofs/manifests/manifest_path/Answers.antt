use Rattle.std.proofs.Common.{◌≡◌, ℕ, List, refl, sym, subst, rules}
use Rattle.ips_text.specs.Path.{IsPath}
use Rattle.ips_state.specs.Records.{manifest_path}
use Rattle.ips_state.proofs.Places.{manifest_is_path}
use Rattle.ips_load.proofs.manifests.manifest_path.Goals as goal

pub path_of-requires : goal.path_of-requires
path_of-requires c =
    let bytes : c.deref.result.now ≡ manifest_path c.args.stem.now =
    rw (c.deref.ensures.value, c.in_ok-extend_from_slice.ensures.items, c.in_ok-bytes.ensures.items, c.as_bytes-2.ensures.value, c.as_str.ensures, c.in_ok-quoted.ensures, c.as_bytes.ensures.value) refl in
    subst IsPath (sym bytes) (manifest_is_path c.args.stem.now c.requires)
