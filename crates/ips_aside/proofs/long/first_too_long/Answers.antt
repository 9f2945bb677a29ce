use Rattle.std.proofs.Common.{◌+◌, ◌&&◌, List, take, take_all, subst, arith}
use Rattle.ips_text.specs.Ancestry.{same_path}
use Rattle.ips_aside.specs.declared.sides.side.Side.{Side}
use Rattle.ips_aside.specs.Long.{IsFirstAt, is_too_long_name, too_long_at}
use Rattle.ips_aside.proofs.Firsts.{any_more, first_as, path_of}
use Rattle.ips_aside.proofs.long.first_too_long.Goals as goal

pub loop-i-preserved : goal.loop-i-preserved
loop-i-preserved c =
    let sides = c.args.sides.now in
    let s = c.index-sides-i.result in
    first_as _ (too_long_at (take (c.loop-i.i + 1) sides)) (path_of c.first_of-first.result) (λ q. any_more (λ (s : Side). same_path s.path.now.bytes q && is_too_long_name s.name) sides c.loop-i.i s c.loop-i-test.true c.index-sides-i.is)
    (c.first_of-first.ensures (too_long_at (take c.loop-i.i sides)) (λ q. same_path s.path.now.bytes q && is_too_long_name s.name) c.loop-i.invariant c.if_too_long.ensures)

pub returns : goal.returns
returns c = subst (λ (l : List Side). IsFirstAt (too_long_at l) (path_of c.loop-i.first)) (take_all c.loop-i.i c.args.sides.now (omega (arith, c.loop-i-test.false))) c.loop-i.invariant
