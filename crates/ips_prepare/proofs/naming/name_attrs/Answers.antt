use Rattle.std.proofs.Common.{◌≡◌, refl}
use Rattle.ips_prepare.proofs.Named.{name_pairs, attrs_answered}
use Rattle.ips_prepare.proofs.naming.name_attrs.Goals as goal

pub returns : goal.returns
returns c =
    let pairs : c.in_ok-vec.field-0.items ≡ name_pairs c.args.fmri = rw (c.in_ok-vec.ensures.items, c.in_ok-name.ensures, c.in_ok-new.ensures) refl in
    attrs_answered c.args.fmri _ c.gather.result pairs c.gather.ensures.attrs c.gather.ensures.gathers
