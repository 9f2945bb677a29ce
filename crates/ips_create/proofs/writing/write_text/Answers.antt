use Rattle.std.proofs.Common.{refl, sym, ◌∙◌, ap}
use Rattle.ips_text.specs.Ancestry.{covers}
use Rattle.ips_outside.specs.State.{State, nowhere}
use Rattle.ips_outside.proofs.Faults.{rose_later}
use Rattle.ips_folder.proofs.Runs.{keeps_then, keeps_wider}
use Rattle.ips_contents.proofs.Written.{alone_mode, alone_moded, moded_there}
use Rattle.ips_create.proofs.writing.write_text.Goals as goal

pub set_mode-requires-clause-can : goal.set_mode-requires-clause-can
set_mode-requires-clause-can g c = λ told_now.
    alone_mode c.args.path.now.bytes 384 c.args.bytes.now (g.F.Source.outside.state c.make_filled.new.folder).held (c.in-Ok.ensures.filled (sym c.make_filled.ensures.same_kind ∙ told_now))

pub returns-in-Err-clause-any_moment : goal.returns-in-Err-clause-any_moment
returns-in-Err-clause-any_moment g c = λ told.
    let p = c.args.path.now.bytes in
    keeps_wider g.F.Source.outside (covers p) nowhere (covers p) (covers p) c.args.folder.now c.make_filled.new.folder (λ q off. off) (λ q off. refl) (c.make_filled.ensures.any_moment told)

pub returns-in-Ok-set_mode-clause-written : goal.returns-in-Ok-set_mode-clause-written
returns-in-Ok-set_mode-clause-written g c = λ told.
    let o = g.F.Source.outside in
    let moded = alone_moded c.args.path.now.bytes 384 420 c.args.bytes.now (o.state c.make_filled.new.folder).held (o.state c.set_mode.new.self).held (c.in-Ok.ensures.filled told)
    (ap (λ (s : State). s.held) (c.in-Ok-set_mode.ensures.done (c.make_filled.ensures.same_kind ∙ told))) in
    moded.file

pub returns-in-Ok-set_mode-clause-any_moment : goal.returns-in-Ok-set_mode-clause-any_moment
returns-in-Ok-set_mode-clause-any_moment g c = λ told.
    let o = g.F.Source.outside in
    let p = c.args.path.now.bytes in
    let mid = c.make_filled.new.folder in
    keeps_then o (covers p) (covers p) c.args.folder.now mid c.set_mode.new.self (keeps_wider o (covers p) nowhere (covers p) (covers p) c.args.folder.now mid (λ q off. off) (λ q off. refl) (c.make_filled.ensures.any_moment told))
    (moded_there o g.met.F.Source.sane p 384 c.args.bytes.now mid c.set_mode.new.self _ c.set_mode.result (c.in-Ok.ensures.filled told) (c.make_filled.ensures.same_kind ∙ told) c.set_mode.ensures)

pub returns-in-Err-set_mode-clause-any_moment : goal.returns-in-Err-set_mode-clause-any_moment
returns-in-Err-set_mode-clause-any_moment g c = λ told.
    let o = g.F.Source.outside in
    let p = c.args.path.now.bytes in
    let mid = c.make_filled.new.folder in
    keeps_then o (covers p) (covers p) c.args.folder.now mid c.set_mode.new.self (keeps_wider o (covers p) nowhere (covers p) (covers p) c.args.folder.now mid (λ q off. off) (λ q off. refl) (c.make_filled.ensures.any_moment told))
    (moded_there o g.met.F.Source.sane p 384 c.args.bytes.now mid c.set_mode.new.self _ c.set_mode.result (c.in-Ok.ensures.filled told) (c.make_filled.ensures.same_kind ∙ told) c.set_mode.ensures)

pub returns-in-Ok-set_mode-clause-made : goal.returns-in-Ok-set_mode-clause-made
returns-in-Ok-set_mode-clause-made g c =
    let o = g.F.Source.outside in
    rose_later (o.changes c.args.folder.now) (o.changes c.make_filled.new.folder) (o.changes c.set_mode.new.self) c.make_filled.ensures.made c.set_mode.ensures.one_made.later

pub returns-in-Err-set_mode-clause-made : goal.returns-in-Err-set_mode-clause-made
returns-in-Err-set_mode-clause-made g c =
    let o = g.F.Source.outside in
    rose_later (o.changes c.args.folder.now) (o.changes c.make_filled.new.folder) (o.changes c.set_mode.new.self) c.make_filled.ensures.made c.set_mode.ensures.one_made.later
