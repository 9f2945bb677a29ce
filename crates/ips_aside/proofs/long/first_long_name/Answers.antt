use Rattle.std.proofs.Common.{◌+◌, ◌&&◌, List, take, take_all, subst, arith}
use Rattle.ips_text.specs.Ancestry.{same_path}
use Rattle.ips_after.specs.Salvage.{is_long_path}
use Rattle.ips_aside.specs.declared.lost.LostName.{LostName}
use Rattle.ips_aside.specs.Long.{IsFirstAt, long_name_at}
use Rattle.ips_aside.proofs.Firsts.{any_more, first_as, path_of}
use Rattle.ips_aside.proofs.long.first_long_name.Goals as goal

pub loop-i-preserved : goal.loop-i-preserved
loop-i-preserved c =
    let names = c.args.names.now in
    let s = c.index-names-i.result in
    first_as _ (long_name_at (take (c.loop-i.i + 1) names)) (path_of c.first_of-first.result) (λ q. any_more (λ (s : LostName). same_path s.path.now.bytes q && is_long_path s.name.items) names c.loop-i.i s c.loop-i-test.true c.index-names-i.is)
    (c.first_of-first.ensures (long_name_at (take c.loop-i.i names)) (λ q. same_path s.path.now.bytes q && is_long_path s.name.items) c.loop-i.invariant c.if_long.ensures)

pub returns : goal.returns
returns c = subst (λ (l : List LostName). IsFirstAt (long_name_at l) (path_of c.loop-i.first)) (take_all c.loop-i.i c.args.names.now (omega (arith, c.loop-i-test.false))) c.loop-i.invariant
