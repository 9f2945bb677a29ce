use Rattle.std.proofs.Common.{[], sym, ◌∙◌, ap, subst}
use Rattle.ips_text.specs.Ancestry.{covers}
use Rattle.ips_outside.specs.State.{State}
use Rattle.ips_folder.specs.Calls.{IsSole}
use Rattle.ips_folder.proofs.Filled.{sole_placed}
use Rattle.ips_contents.proofs.Wrote.{wrote, wrote_then}
use Rattle.ips_contents.proofs.Written.{alone_filled}
use Rattle.ips_contents.proofs.contents.write_file.Goals as goal

pub append-requires : goal.append-requires
append-requires g c = λ told_now.
    let told = sym c.make_file.ensures.call.same_kind ∙ told_now in
    subst (λ (s : State). IsSole s.held c.args.path.now.bytes) (sym (c.in_ok-make_file.ensures.done told)) (sole_placed c.args.path.now.bytes 384 [] (g.F.Source.outside.state c.args.folder.now).held)

pub returns-in_err-append-clause-any_moment : goal.returns-in_err-append-clause-any_moment
returns-in_err-append-clause-any_moment g c = λ told.
    let p = c.args.path.now.bytes in
    wrote_then g.F.Source.outside g.met.F.Source.sane (covers p) p (λ q off. off) c.args.folder.now c.make_file.new.self c.append.new.self _ c.append.result
    (wrote g.F.Source.outside g.met.F.Source.sane (covers p) p (λ q off. off) c.args.folder.now c.make_file.new.self _ c.make_file.result told c.make_file.ensures) (c.make_file.ensures.call.same_kind ∙ told) c.append.ensures

pub returns-clause-written : goal.returns-clause-written
returns-clause-written g c = λ told.
    alone_filled c.args.path.now.bytes c.args.bytes.now (g.F.Source.outside.state c.args.folder.now).held (g.F.Source.outside.state c.make_file.new.self).held (g.F.Source.outside.state c.append.new.self).held
    (ap (λ (s : State). s.held) (c.in_ok-make_file.ensures.done told)) (ap (λ (s : State). s.held) (c.in_ok-append.ensures.done (c.make_file.ensures.call.same_kind ∙ told)))

pub returns-clause-any_moment : goal.returns-clause-any_moment
returns-clause-any_moment g c = λ told.
    let p = c.args.path.now.bytes in
    wrote_then g.F.Source.outside g.met.F.Source.sane (covers p) p (λ q off. off) c.args.folder.now c.make_file.new.self c.append.new.self _ c.append.result
    (wrote g.F.Source.outside g.met.F.Source.sane (covers p) p (λ q off. off) c.args.folder.now c.make_file.new.self _ c.make_file.result told c.make_file.ensures) (c.make_file.ensures.call.same_kind ∙ told) c.append.ensures
