use Rattle.std.proofs.Common.{◌≡◌, Option, Some, [], refl, sym, ◌∙◌, ap, subst}
use Rattle.ips_text.specs.Ancestry.{covers}
use Rattle.ips_outside.specs.Image.{Entry, file_bytes}
use Rattle.ips_outside.specs.State.{State, nowhere}
use Rattle.ips_outside.specs.Outside.{readable}
use Rattle.ips_folder.specs.Calls.{IsSole}
use Rattle.ips_folder.proofs.Runs.{keeps_then}
use Rattle.ips_folder.proofs.Filled.{sole_placed}
use Rattle.ips_contents.proofs.Wrote.{wrote}
use Rattle.ips_contents.proofs.Written.{alone_filled, bytes_read}
use Rattle.ips_contents.proofs.contents.write_copy.Goals as goal

pub copy-requires-clause-can : goal.copy-requires-clause-can
copy-requires-clause-can g c = λ told_now.
    let told = sym c.make_file.ensures.call.same_kind ∙ told_now in
    subst (λ (s : State). IsSole s.held c.args.path.now.bytes) (sym (c.in_ok-make_file.ensures.done told)) (sole_placed c.args.path.now.bytes 384 [] (g.F.Source.outside.state c.args.folder.now).held)

pub returns-in_err-copy-clause-any_moment : goal.returns-in_err-copy-clause-any_moment
returns-in_err-copy-clause-any_moment g c = λ told.
    let p = c.args.path.now.bytes in
    keeps_then g.F.Source.outside (covers p) nowhere c.args.folder.now c.make_file.new.self c.copy.new.folder
    (wrote g.F.Source.outside g.met.F.Source.sane (covers p) p (λ q off. off) c.args.folder.now c.make_file.new.self _ c.make_file.result told c.make_file.ensures)
    (c.copy.ensures.any_moment (c.make_file.ensures.call.same_kind ∙ told))

pub returns-clause-written : goal.returns-clause-written
returns-clause-written g c = λ told.
    let t = (g.F.Source.outside.state c.args.folder.now).held in
    let u = (g.F.Source.outside.state c.make_file.new.self).held in
    let p = c.args.path.now.bytes in
    let from = c.args.from.now.bytes in
    let made = wrote g.F.Source.outside g.met.F.Source.sane (covers p) p (λ q off. off) c.args.folder.now c.make_file.new.self _ c.make_file.result told c.make_file.ensures in
    let same : u.look from ≡ t.look from = made.now.agrees.look from c.requires.apart refl in
    let file : file_bytes (t.look from) ≡ Some (readable (u.look from)) = bytes_read (t.look from) (c.requires.standing told) ∙ ap (λ (e : Option Entry). Some (readable e)) (sym same) in (
      readable (u.look from),
      alone_filled p (readable (u.look from)) t u (g.F.Source.outside.state c.copy.new.folder).held (ap (λ (s : State). s.held) (c.in_ok-make_file.ensures.done told))
          (c.in_ok-copy.ensures.copied (c.make_file.ensures.call.same_kind ∙ told)),
      file,
    )

pub returns-clause-any_moment : goal.returns-clause-any_moment
returns-clause-any_moment g c = λ told.
    let p = c.args.path.now.bytes in
    keeps_then g.F.Source.outside (covers p) nowhere c.args.folder.now c.make_file.new.self c.copy.new.folder
    (wrote g.F.Source.outside g.met.F.Source.sane (covers p) p (λ q off. off) c.args.folder.now c.make_file.new.self _ c.make_file.result told c.make_file.ensures)
    (c.copy.ensures.any_moment (c.make_file.ensures.call.same_kind ∙ told))
