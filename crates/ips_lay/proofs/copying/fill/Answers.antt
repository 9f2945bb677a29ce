use Rattle.std.proofs.Common.{◌≡◌, List, ℕ, refl, sym, ◌∙◌}
use Rattle.ips_text.specs.Ancestry.{covers}
use Rattle.ips_outside.specs.State.{nowhere}
use Rattle.ips_folder.proofs.Runs.{keeps_then, keeps_wider}
use Rattle.ips_contents.proofs.Written.{moded_there}
use Rattle.ips_lay.proofs.copying.fill.Goals as goal

pub returns-in-Ok-done-clause-any_moment : goal.returns-in-Ok-done-clause-any_moment
returns-in-Ok-done-clause-any_moment g c = λ told.
    let o = g.F.Source.outside in
    let p = c.args.place.now.bytes in
    let mid = c.copy.new.folder in
    keeps_then o (covers p) (covers p) c.args.folder.now mid c.set_mode-done.new.self (keeps_wider o (covers p) nowhere (covers p) (covers p) c.args.folder.now mid (λ q off. off) (λ q off. refl) (c.copy.ensures.any_moment told))
    (moded_there o g.met.F.Source.sane p 384 c.copy.new.payload.bytes mid c.set_mode-done.new.self _ c.set_mode-done.result (c.in-Ok.ensures.copied told) (c.copy.ensures.same_kind ∙ told) c.set_mode-done.ensures)

pub returns-in-Err-done-clause-any_moment : goal.returns-in-Err-done-clause-any_moment
returns-in-Err-done-clause-any_moment g c = λ told.
    let o = g.F.Source.outside in
    let p = c.args.place.now.bytes in
    let mid = c.copy.new.folder in
    keeps_then o (covers p) (covers p) c.args.folder.now mid c.set_mode-done.new.self (keeps_wider o (covers p) nowhere (covers p) (covers p) c.args.folder.now mid (λ q off. off) (λ q off. refl) (c.copy.ensures.any_moment told))
    (moded_there o g.met.F.Source.sane p 384 c.copy.new.payload.bytes mid c.set_mode-done.new.self _ c.set_mode-done.result (c.in-Ok.ensures.copied told) (c.copy.ensures.same_kind ∙ told) c.set_mode-done.ensures)
