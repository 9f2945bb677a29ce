use Rattle.std.proofs.Common.{◌∙◌, sym}
use Rattle.ips_outside.specs.Outside.{readable}
use Rattle.ips_change.specs.Told.{naming}
use Rattle.ips_aside.specs.sides.Sides.{side_put}
use Rattle.ips_aside.proofs.sides.Added.{no_put, no_side_added, side_added}
use Rattle.ips_aside.proofs.sides.siding.add.Goals as goal

pub returns-in_default-clause-found : goal.returns-in_default-clause-found
returns-in_default-clause-found g c = λ told r said proper table own looked.
    let t = (g.S.Source.outside.state c.args.source.now).held in
    let p = c.args.row.now.path.now.bytes in
    no_side_added (naming r) t p c.args.sides.now.items (no_put (side_put r.bytes (readable (t.look p))) c.put_beside.result c.in_default.not-Some ∙ c.put_beside.ensures r t own looked)

pub returns-clause-found : goal.returns-clause-found
returns-clause-found g c = λ told r said proper table own looked.
    let t = (g.S.Source.outside.state c.args.source.now).held in
    side_added (naming r) t c.args.sides.now.items c.push.new.self.items _ c.in_ok-push.ensures.items (record {
      is = sym (c.in-Some.ensures r t own looked);
      name = c.in_ok-name.ensures.found told r said proper table;
    })
