use Rattle.std.proofs.Common.{sym, ◌∙◌}
use Rattle.ips_outside.specs.Change.{names}
use Rattle.ips_outside.specs.State.{nowhere}
use Rattle.ips_folder.proofs.Runs.{one_write}
use Rattle.ips_apply.proofs.Puts.{moded_alike}
use Rattle.ips_folder.proofs.Filled.{file_mode}
use Rattle.ips_apply.proofs.acting.give_mode.Goals as goal

pub returns-then-not-other_mode-clause-done : goal.returns-then-not-other_mode-clause-done
returns-then-not-other_mode-clause-done g c = λ told.
    let held = (g.F.Source.outside.state c.args.folder.now).held in
    let same = sym (c.requires.other told) ∙ c.if-not-other_mode.true in
    sym (moded_alike c.args.mode c.args.path.now.bytes held (g.met.F.Source.sane.formed c.args.folder.now told) (c.requires.file told) same)

pub set_mode-requires-clause-can : goal.set_mode-requires-clause-can
set_mode-requires-clause-can g c = λ told. file_mode _ (c.requires.file told)

pub returns-clause-any_moment : goal.returns-clause-any_moment
returns-clause-any_moment g c = λ told.
    one_write g.F.Source.outside g.met.F.Source.sane c.args.folder.now c.set_mode.new.self nowhere (names (g.F.Source.outside.state c.args.folder.now).held c.args.path.now.bytes) _ c.set_mode.result told c.set_mode.ensures
