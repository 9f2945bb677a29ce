use Rattle.std.proofs.Common.{◌≡◌, true, IsErr, ⊎_elim, sym, ◌∙◌, ap, subst}
use Rattle.ips_outside.specs.Change.{names}
use Rattle.ips_outside.specs.State.{State, nowhere}
use Rattle.ips_outside.specs.Outside.{look_of}
use Rattle.ips_outside.specs.declared.outside.Look.{Look}
use Rattle.ips_outside.proofs.Looks.{is_plain, plain_mode, plain_file}
use Rattle.ips_outside.proofs.Placed.{moded_none}
use Rattle.ips_folder.proofs.Runs.{one_read}
use Rattle.ips_apply.proofs.Changes.{looked_then_set}
use Rattle.ips_apply.proofs.acting.set_standing_mode.Goals as goal

pub returns-in_err-set_mode-in-Dir-clause-any_moment : goal.returns-in_err-set_mode-in-Dir-clause-any_moment
returns-in_err-set_mode-in-Dir-clause-any_moment g c =
    looked_then_set g.F.Source.outside g.met.F.Source.sane c.args.path.now.bytes c.args.folder.now c.look.new.self c.set_mode.new.self (IsErr c.look.result) c.look.ensures.reads _ c.set_mode.result c.set_mode.ensures

pub returns-in_ok-set_mode-in-Dir-clause-any_moment : goal.returns-in_ok-set_mode-in-Dir-clause-any_moment
returns-in_ok-set_mode-in-Dir-clause-any_moment g c =
    looked_then_set g.F.Source.outside g.met.F.Source.sane c.args.path.now.bytes c.args.folder.now c.look.new.self c.set_mode.new.self (IsErr c.look.result) c.look.ensures.reads _ c.set_mode.result c.set_mode.ensures

pub returns-in-Absent-clause-done : goal.returns-in-Absent-clause-done
returns-in-Absent-clause-done g c = λ told.
    let held = (g.F.Source.outside.state c.args.folder.now).held in
    let found : c.in_ok-look.field-0 ≡ look_of (held.look c.args.path.now.bytes) = c.in_ok-look.ensures.found told in
    let plain : is_plain (look_of (held.look c.args.path.now.bytes)) ≡ true = subst (λ (l : Look). is_plain l ≡ true) found (⊎_elim (λ e. ap is_plain e) (λ rest. ⊎_elim (λ e. ap is_plain e) (λ e. ap is_plain e) rest) c.in-Absent.is) in
    ap (λ (s : State). s.held) c.look.ensures.reads.kept ∙ sym (moded_none c.args.mode c.args.path.now.bytes held (g.met.F.Source.sane.formed c.args.folder.now told) (plain_file (held.look c.args.path.now.bytes) plain) (plain_mode c.args.mode (held.look c.args.path.now.bytes) plain))

pub returns-in-Absent-clause-any_moment : goal.returns-in-Absent-clause-any_moment
returns-in-Absent-clause-any_moment g c = λ told.
    one_read g.F.Source.outside g.met.F.Source.sane nowhere (names (g.F.Source.outside.state c.args.folder.now).held c.args.path.now.bytes) c.args.folder.now c.look.new.self (IsErr c.look.result) c.look.ensures.reads
