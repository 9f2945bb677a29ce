use Rattle.std.proofs.Common.{◌≡◌, List, ℕ, sym, ◌∙◌, ap}
use Rattle.ips_text.specs.Ancestry.{covers}
use Rattle.ips_outside.specs.State.{State}
use Rattle.ips_contents.proofs.Wrote.{wrote, wrote_then}
use Rattle.ips_contents.proofs.Written.{alone_placed}
use Rattle.ips_lay.proofs.Copied.{can_new}
use Rattle.ips_lay.proofs.copying.make_new.Goals as goal

pub make_file-requires : goal.make_file-requires
make_file-requires g c = λ told_now.
    let told = sym c.remove.ensures.call.same_kind ∙ told_now in
    can_new c.args.place.now.bytes (g.F.Source.outside.state c.args.folder.now).held (g.F.Source.outside.state c.remove.new.self).held (c.requires told) (ap (λ (s : State). s.held) (c.in-Ok.ensures.done told))

pub returns-in-Ok-make_file-clause-made : goal.returns-in-Ok-make_file-clause-made
returns-in-Ok-make_file-clause-made g c = λ told.
    let told_mid = c.remove.ensures.call.same_kind ∙ told in
    alone_placed c.args.place.now.bytes (g.F.Source.outside.state c.remove.new.self).held (g.F.Source.outside.state c.make_file.new.self).held (ap (λ (s : State). s.held) (c.in-Ok-make_file.ensures.done told_mid))

pub returns-in-Ok-make_file-clause-any_moment : goal.returns-in-Ok-make_file-clause-any_moment
returns-in-Ok-make_file-clause-any_moment g c = λ told.
    let o = g.F.Source.outside in
    let p = c.args.place.now.bytes in
    wrote_then o g.met.F.Source.sane (covers p) p (λ q off. off) c.args.folder.now c.remove.new.self c.make_file.new.self _ c.make_file.result
    (wrote o g.met.F.Source.sane (covers p) p (λ q off. off) c.args.folder.now c.remove.new.self _ c.remove.result told c.remove.ensures) (c.remove.ensures.call.same_kind ∙ told) c.make_file.ensures

pub returns-in-Err-make_file-clause-any_moment : goal.returns-in-Err-make_file-clause-any_moment
returns-in-Err-make_file-clause-any_moment g c = λ told.
    let o = g.F.Source.outside in
    let p = c.args.place.now.bytes in
    wrote_then o g.met.F.Source.sane (covers p) p (λ q off. off) c.args.folder.now c.remove.new.self c.make_file.new.self _ c.make_file.result
    (wrote o g.met.F.Source.sane (covers p) p (λ q off. off) c.args.folder.now c.remove.new.self _ c.remove.result told c.remove.ensures) (c.remove.ensures.call.same_kind ∙ told) c.make_file.ensures

pub returns-in-Err-clause-any_moment : goal.returns-in-Err-clause-any_moment
returns-in-Err-clause-any_moment g c = λ told.
    let p = c.args.place.now.bytes in
    wrote g.F.Source.outside g.met.F.Source.sane (covers p) p (λ q off. off) c.args.folder.now c.remove.new.self _ c.remove.result told c.remove.ensures
