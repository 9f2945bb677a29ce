use Rattle.std.proofs.Common.{◌≤◌, List, ℕ, None, length, sym, subst}
use Rattle.ips_text.proofs.Paths.{path_fits}
use Rattle.ips_apply.proofs.known.Known.set.Goals as goal

pub slice_bounds-copy_from_slice-end : goal.slice_bounds-copy_from_slice-end
slice_bounds-copy_from_slice-end c = subst (λ (l : List ℕ). length l ≤ 1023) (sym c.bytes-bytes.ensures.value) (path_fits None c.args.path.now.bytes c.bytes-bytes.ensures.path)
