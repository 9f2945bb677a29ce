use Rattle.std.proofs.Common.{[], sym, ◌∙◌, ap, subst, arith}
use Rattle.ips_text.specs.Ancestry.{covers}
use Rattle.ips_outside.specs.State.{State}
use Rattle.ips_outside.proofs.Faults.{one_rose, rose_later}
use Rattle.ips_folder.specs.Calls.{IsSole}
use Rattle.ips_folder.proofs.Filled.{sole_placed}
use Rattle.ips_contents.proofs.Wrote.{wrote, wrote_then}
use Rattle.ips_contents.proofs.Written.{alone_filled}
use Rattle.ips_lay.proofs.Copied.{can_new}
use Rattle.ips_create.proofs.writing.make_filled.Goals as goal

pub make_file-requires : goal.make_file-requires
make_file-requires g c = λ told_now.
    let told = sym c.remove.ensures.call.same_kind ∙ told_now in
    can_new c.args.path.now.bytes (g.F.Source.outside.state c.args.folder.now).held (g.F.Source.outside.state c.remove.new.self).held (c.requires told) (ap (λ (s : State). s.held) (c.in-Ok.ensures.done told))

pub append-requires : goal.append-requires
append-requires g c = λ told_now.
    let told_mid = sym c.make_file.ensures.call.same_kind ∙ told_now in
    subst (λ (s : State). IsSole s.held c.args.path.now.bytes) (sym (c.in-Ok-make_file.ensures.done told_mid)) (sole_placed c.args.path.now.bytes 384 [] (g.F.Source.outside.state c.remove.new.self).held)

pub returns-in-Err-clause-any_moment : goal.returns-in-Err-clause-any_moment
returns-in-Err-clause-any_moment g c = λ told.
    let p = c.args.path.now.bytes in
    wrote g.F.Source.outside g.met.F.Source.sane (covers p) p (λ q off. off) c.args.folder.now c.remove.new.self _ c.remove.result told c.remove.ensures

pub returns-in-Err-make_file-clause-any_moment : goal.returns-in-Err-make_file-clause-any_moment
returns-in-Err-make_file-clause-any_moment g c = λ told.
    let o = g.F.Source.outside in
    let p = c.args.path.now.bytes in
    wrote_then o g.met.F.Source.sane (covers p) p (λ q off. off) c.args.folder.now c.remove.new.self c.make_file.new.self _ c.make_file.result
    (wrote o g.met.F.Source.sane (covers p) p (λ q off. off) c.args.folder.now c.remove.new.self _ c.remove.result told c.remove.ensures) (c.remove.ensures.call.same_kind ∙ told) c.make_file.ensures

pub returns-in-Ok-append-clause-filled : goal.returns-in-Ok-append-clause-filled
returns-in-Ok-append-clause-filled g c = λ told.
    let told_mid = c.remove.ensures.call.same_kind ∙ told in
    alone_filled c.args.path.now.bytes c.args.bytes.now (g.F.Source.outside.state c.remove.new.self).held (g.F.Source.outside.state c.make_file.new.self).held (g.F.Source.outside.state c.append.new.self).held
    (ap (λ (s : State). s.held) (c.in-Ok-make_file.ensures.done told_mid)) (ap (λ (s : State). s.held) (c.in-Ok-append.ensures.done (c.make_file.ensures.call.same_kind ∙ told_mid)))

pub returns-in-Ok-append-clause-any_moment : goal.returns-in-Ok-append-clause-any_moment
returns-in-Ok-append-clause-any_moment g c = λ told.
    let o = g.F.Source.outside in
    let p = c.args.path.now.bytes in
    let told_mid = c.remove.ensures.call.same_kind ∙ told in
    wrote_then o g.met.F.Source.sane (covers p) p (λ q off. off) c.args.folder.now c.make_file.new.self c.append.new.self _ c.append.result
    (wrote_then o g.met.F.Source.sane (covers p) p (λ q off. off) c.args.folder.now c.remove.new.self c.make_file.new.self _ c.make_file.result
    (wrote o g.met.F.Source.sane (covers p) p (λ q off. off) c.args.folder.now c.remove.new.self _ c.remove.result told c.remove.ensures) told_mid c.make_file.ensures) (c.make_file.ensures.call.same_kind ∙ told_mid) c.append.ensures

pub returns-in-Err-append-clause-any_moment : goal.returns-in-Err-append-clause-any_moment
returns-in-Err-append-clause-any_moment g c = λ told.
    let o = g.F.Source.outside in
    let p = c.args.path.now.bytes in
    let told_mid = c.remove.ensures.call.same_kind ∙ told in
    wrote_then o g.met.F.Source.sane (covers p) p (λ q off. off) c.args.folder.now c.make_file.new.self c.append.new.self _ c.append.result
    (wrote_then o g.met.F.Source.sane (covers p) p (λ q off. off) c.args.folder.now c.remove.new.self c.make_file.new.self _ c.make_file.result
    (wrote o g.met.F.Source.sane (covers p) p (λ q off. off) c.args.folder.now c.remove.new.self _ c.remove.result told c.remove.ensures) told_mid c.make_file.ensures) (c.make_file.ensures.call.same_kind ∙ told_mid) c.append.ensures

pub returns-in-Err-clause-made : goal.returns-in-Err-clause-made
returns-in-Err-clause-made g c = one_rose (g.F.Source.outside.changes c.args.folder.now) (g.F.Source.outside.changes c.remove.new.self) c.remove.ensures.one_made

pub returns-in-Err-make_file-clause-made : goal.returns-in-Err-make_file-clause-made
returns-in-Err-make_file-clause-made g c =
    let o = g.F.Source.outside in
    rose_later (o.changes c.args.folder.now) (o.changes c.remove.new.self) (o.changes c.make_file.new.self) (one_rose (o.changes c.args.folder.now) (o.changes c.remove.new.self) c.remove.ensures.one_made) c.make_file.ensures.one_made.later

pub returns-in-Ok-append-clause-made : goal.returns-in-Ok-append-clause-made
returns-in-Ok-append-clause-made g c =
    let o = g.F.Source.outside in
    rose_later (o.changes c.args.folder.now) (o.changes c.remove.new.self) (o.changes c.append.new.self) (one_rose (o.changes c.args.folder.now) (o.changes c.remove.new.self) c.remove.ensures.one_made)
    (omega (arith, c.make_file.ensures.one_made.later, c.append.ensures.one_made.later))

pub returns-in-Err-append-clause-made : goal.returns-in-Err-append-clause-made
returns-in-Err-append-clause-made g c =
    let o = g.F.Source.outside in
    rose_later (o.changes c.args.folder.now) (o.changes c.remove.new.self) (o.changes c.append.new.self) (one_rose (o.changes c.args.folder.now) (o.changes c.remove.new.self) c.remove.ensures.one_made)
    (omega (arith, c.make_file.ensures.one_made.later, c.append.ensures.one_made.later))
