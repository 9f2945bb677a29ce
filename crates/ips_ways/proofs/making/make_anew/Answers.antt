use Rattle.std.proofs.Common.{Some, None, false, sym, ◌∙◌, ap}
use Rattle.ips_outside.specs.Image.{Dir}
use Rattle.ips_outside.specs.Change.{with_entry_at}
use Rattle.ips_outside.specs.State.{State}
use Rattle.ips_outside.proofs.Placed.{placed_twice}
use Rattle.ips_ways.proofs.Made.{can_new, wrote_twice}
use Rattle.ips_ways.proofs.making.make_anew.Goals as goal

pub make_dir-requires-clause-can : goal.make_dir-requires-clause-can
make_dir-requires-clause-can g c = λ told_now.
    let told = sym c.remove.ensures.call.same_kind ∙ told_now in
    can_new c.args.path.now.bytes (g.F.Source.outside.state c.args.folder.now).held (g.F.Source.outside.state c.remove.new.self).held (c.requires told) (ap (λ (s : State). s.held) (c.in-Ok.ensures.done told))

pub returns-in-Ok-make_dir-clause-done : goal.returns-in-Ok-make_dir-clause-done
returns-in-Ok-make_dir-clause-done g c = λ told.
    let p = c.args.path.now.bytes in
    ap (λ (s : State). s.held) (c.in-Ok-make_dir.ensures.done (c.remove.ensures.call.same_kind ∙ told))
    ∙ ap (λ (s : State). with_entry_at p (Some (Dir 493 false)) s.held) (c.in-Ok.ensures.done told)
    ∙ placed_twice p (Some (Dir 493 false)) None (g.F.Source.outside.state c.args.folder.now).held

pub returns-in-Ok-make_dir-clause-any_moment : goal.returns-in-Ok-make_dir-clause-any_moment
returns-in-Ok-make_dir-clause-any_moment g c = λ told.
    wrote_twice g.F.Source.outside g.met.F.Source.sane c.args.path.now.bytes c.args.folder.now c.remove.new.self c.make_dir.new.self _ _ c.remove.result c.make_dir.result told c.remove.ensures c.make_dir.ensures

pub returns-in-Err-make_dir-clause-any_moment : goal.returns-in-Err-make_dir-clause-any_moment
returns-in-Err-make_dir-clause-any_moment g c = λ told.
    wrote_twice g.F.Source.outside g.met.F.Source.sane c.args.path.now.bytes c.args.folder.now c.remove.new.self c.make_dir.new.self _ _ c.remove.result c.make_dir.result told c.remove.ensures c.make_dir.ensures
