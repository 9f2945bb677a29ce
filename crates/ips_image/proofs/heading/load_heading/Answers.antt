use Rattle.std.proofs.Common.{◌≡◌, ℕ, List, true, is_some, IsErr, sym, ◌∙◌, ap}
use Rattle.std.proofs.lemmas.Result.{IfOk-weaker}
use Rattle.ips_records.specs.Lines.{lines_text}
use Rattle.ips_state.specs.Text.{head_lines}
use Rattle.ips_state.specs.Records.{image_path}
use Rattle.ips_load.specs.HeadLines.{head_read}
use Rattle.ips_load.specs.Fault.{IsBadText, IsHeadFile}
use Rattle.ips_load.proofs.Answered.{bad_weaker}
use Rattle.ips_image.proofs.Told.{image_is_path, something_there, head_fault, still_told, still_held, moved, moved_fault}
use Rattle.ips_image.proofs.heading.load_heading.Goals as goal

pub path_of-requires : goal.path_of-requires
path_of-requires g c = image_is_path

pub returns-in-Ok-true-clause-found : goal.returns-in-Ok-true-clause-found
returns-in-Ok-true-clause-found g c = λ told.
    let o = g.F.Source.outside in
    let t = (o.state c.args.folder.now).held in
    let u = (o.state c.is_there.new.folder).held in
    let same = still_held o c.args.folder.now c.is_there.new.folder (IsErr c.is_there.result) c.is_there.ensures.reads in
    IfOk-weaker c.heading_at.result _ _ (λ h s. moved u t c.in_ok-path.path.bytes image_path (lines_text (head_lines (head_read h))) same c.in_ok-path.ensures s)
    (c.heading_at.ensures.found (still_told o c.args.folder.now c.is_there.new.folder (IsErr c.is_there.result) c.is_there.ensures.reads told))

pub returns-in-Ok-true-clause-fault : goal.returns-in-Ok-true-clause-fault
returns-in-Ok-true-clause-fault g c = λ told.
    let o = g.F.Source.outside in
    let t = (o.state c.args.folder.now).held in
    let u = (o.state c.is_there.new.folder).held in
    let same = still_held o c.args.folder.now c.is_there.new.folder (IsErr c.is_there.result) c.is_there.ensures.reads in
    let there : true ≡ is_some (t.look image_path) = sym c.in-Ok-true.field-0-test ∙ c.in-Ok-true.ensures.found told ∙ ap (λ (p : List ℕ). is_some (t.look p)) c.in_ok-path.ensures in
    bad_weaker c.heading_at.result _ _ (λ f h. head_fault t f (something_there (t.look image_path) there) (moved_fault (IsBadText IsHeadFile) u t c.in_ok-path.path.bytes image_path f same c.in_ok-path.ensures h))
    (c.heading_at.ensures.fault (still_told o c.args.folder.now c.is_there.new.folder (IsErr c.is_there.result) c.is_there.ensures.reads told))
