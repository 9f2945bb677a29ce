use Rattle.std.proofs.Common.{List, subst, sym}
use Rattle.ips_fmri.specs.declared.fmri.Fmri.{Fmri}
use Rattle.ips_depend.proofs.Written.{Passed, none_passed, read_more, none_read, all_read}
use Rattle.ips_depend.proofs.reading.read_fmris.Goals as goal

pub loop-text-init : goal.loop-text-init
loop-text-init c = rw c.in_ok-fmris.ensures.items (none_passed c.args.texts)

pub returns-in_default-2 : goal.returns-in_default-2
returns-in_default-2 c =
    none_read c.args.texts c.loop-text.left c.in-Some.rest c.loop-text.fmris.items c.in-Some.text.now c.loop-text.invariant c.in-Some.ensures (rw c.in_default-2.is at c.in_ok-fmri.ensures)

pub loop-text-preserved : goal.loop-text-preserved
loop-text-preserved c =
    let read = rw c.in-Some-2.is at c.in_ok-fmri.ensures in
    subst (Passed c.args.texts c.in-Some.rest) (sym c.in_ok-push.ensures.items)
    (read_more c.args.texts c.loop-text.left c.in-Some.rest c.loop-text.fmris.items c.in-Some.text.now c.in-Some-2.fmri c.loop-text.invariant c.in-Some.ensures read)

pub returns : goal.returns
returns c = all_read c.args.texts c.loop-text.left c.loop-text.fmris.items c.loop-text.invariant c.in_default.ensures
