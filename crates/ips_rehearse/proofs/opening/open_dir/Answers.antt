use Rattle.std.proofs.Common.{sym, ◌∙◌, ap}
use Rattle.std.proofs.lemmas.Bool.{or_left}
use Rattle.ips_text.specs.Ancestry.{same_path}
use Rattle.ips_outside.specs.Image.{is_dir, is_file}
use Rattle.ips_outside.specs.State.{State}
use Rattle.ips_rehearse.proofs.Going.{dir_at, leaf_of}
use Rattle.ips_rehearse.proofs.Opens.{mode_open, no_dir_open, opens_mode, opens_read, opens_then}
use Rattle.ips_rehearse.proofs.opening.open_dir.Goals as goal

pub returns-in_err-found-clause-opens : goal.returns-in_err-found-clause-opens
returns-in_err-found-clause-opens g c = opens_read g.F.Source.outside g.met.F.Source.sane (same_path c.args.path.now.bytes) c.args.folder.now c.look.new.self _ c.look.ensures.reads

-- no directory stands there

pub returns-in_default-clause-found : goal.returns-in_default-clause-found
returns-in_default-clause-found g c = λ told.
    sym (leaf_of c.in_ok-found.found ((g.F.Source.outside.state c.args.folder.now).held.look c.args.path.now.bytes) c.in_default.not-Dir (c.in_ok-found.ensures.found told))

pub returns-in_default-clause-open : goal.returns-in_default-clause-open
returns-in_default-clause-open g c = λ told.
    let t = (g.F.Source.outside.state c.args.folder.now).held in
    no_dir_open c.args.path.now.bytes t (g.F.Source.outside.state c.look.new.self).held (leaf_of c.in_ok-found.found (t.look c.args.path.now.bytes) c.in_default.not-Dir (c.in_ok-found.ensures.found told))

pub returns-in_default-clause-opens : goal.returns-in_default-clause-opens
returns-in_default-clause-opens g c = opens_read g.F.Source.outside g.met.F.Source.sane (same_path c.args.path.now.bytes) c.args.folder.now c.look.new.self _ c.look.ensures.reads

-- it gets its mode

pub set_mode-requires-clause-can : goal.set_mode-requires-clause-can
set_mode-requires-clause-can g c = λ told_now.
    let o = g.F.Source.outside in
    let told = sym c.look.ensures.reads.call.same_kind ∙ told_now in
    let p = c.args.path.now.bytes in
    let u = (o.state c.look.new.self).held in
    let at = dir_at c.in_ok-found.found ((o.state c.args.folder.now).held.look p) c.in-Dir.mode (c.in_ok-found.ensures.found told) c.in-Dir.is in
    or_left (is_dir (u.look p)) (is_file (u.look p)) (ap (λ (s : State). is_dir (s.held.look p)) c.look.ensures.reads.kept ∙ ap is_dir at.is)

pub returns-in_err-set_mode-clause-opens : goal.returns-in_err-set_mode-clause-opens
returns-in_err-set_mode-clause-opens g c =
    let o = g.F.Source.outside in
    let sane = g.met.F.Source.sane in
    let p = c.args.path.now.bytes in
    opens_then o (same_path p) c.args.folder.now c.look.new.self c.set_mode.new.self c.look.ensures.reads.call.same_kind (opens_read o sane (same_path p) c.args.folder.now c.look.new.self _ c.look.ensures.reads)
    (opens_mode o sane p c.look.new.self c.set_mode.new.self c.set_mode.result
    (λ told_1.
    let told = sym c.look.ensures.reads.call.same_kind ∙ told_1 in
    let at = dir_at c.in_ok-found.found ((o.state c.args.folder.now).held.look p) c.in-Dir.mode (c.in_ok-found.ensures.found told) c.in-Dir.is in
    ap (λ (s : State). is_dir (s.held.look p)) c.look.ensures.reads.kept ∙ ap is_dir at.is) c.set_mode.ensures)

pub returns-clause-found : goal.returns-clause-found
returns-clause-found g c = λ told.
    let at = dir_at c.in_ok-found.found ((g.F.Source.outside.state c.args.folder.now).held.look c.args.path.now.bytes) c.in-Dir.mode (c.in_ok-found.ensures.found told) c.in-Dir.is in
    sym (ap is_dir at.is)

pub returns-clause-open : goal.returns-clause-open
returns-clause-open g c = λ told.
    let o = g.F.Source.outside in
    mode_open c.args.path.now.bytes (o.state c.args.folder.now) (o.state c.look.new.self) (o.state c.set_mode.new.self) c.look.ensures.reads.kept (c.in_ok-set_mode.ensures.done (c.look.ensures.reads.call.same_kind ∙ told))

pub returns-clause-opens : goal.returns-clause-opens
returns-clause-opens g c =
    let o = g.F.Source.outside in
    let sane = g.met.F.Source.sane in
    let p = c.args.path.now.bytes in
    opens_then o (same_path p) c.args.folder.now c.look.new.self c.set_mode.new.self c.look.ensures.reads.call.same_kind (opens_read o sane (same_path p) c.args.folder.now c.look.new.self _ c.look.ensures.reads)
    (opens_mode o sane p c.look.new.self c.set_mode.new.self c.set_mode.result
    (λ told_1.
    let told = sym c.look.ensures.reads.call.same_kind ∙ told_1 in
    let at = dir_at c.in_ok-found.found ((o.state c.args.folder.now).held.look p) c.in-Dir.mode (c.in_ok-found.ensures.found told) c.in-Dir.is in
    ap (λ (s : State). is_dir (s.held.look p)) c.look.ensures.reads.kept ∙ ap is_dir at.is) c.set_mode.ensures)
