use Rattle.std.proofs.Common.{◌∙◌, ap, ◌≡◌, [], Some, IsTrue, sym}
use Rattle.ips_outside.specs.Image.{File}
use Rattle.ips_rehearse.proofs.Passing.{passed_by, stood_as}
use Rattle.ips_text.specs.Ancestry.{covers, is_below, parent}
use Rattle.ips_outside.proofs.Trees.{on_ok_to}
use Rattle.ips_folder.proofs.Runs.{keeps_wider}
use Rattle.ips_rehearse.specs.Tried.{try_name, IsEmptyDir, IsFileOf, Passed, Stood}
use Rattle.ips_rehearse.proofs.Paths.{plain_path, plain_parent, file_is}
use Rattle.ips_rehearse.proofs.Trials.{off_child, can_make, empty_again}
use Rattle.ips_rehearse.proofs.rehearsing.try_file_mode.Goals as goal

pub go-requires-clause-path : goal.go-requires-clause-path
go-requires-clause-path g c = plain_path

pub try_file-requires-clause-can : goal.try_file-requires-clause-can
try_file-requires-clause-can g c = λ told.
    can_make try_name c.go.new.path.bytes (g.F.Source.outside.state c.args.folder.now).held (ap parent c.go.ensures.there ∙ plain_parent) (c.requires.empty told)

pub returns-clause-empty : goal.returns-clause-empty
returns-clause-empty g c = λ told.
    let o = g.F.Source.outside in
    let p = c.go.new.path.bytes in
    on_ok_to c.try_file.result (IsEmptyDir try_name (o.state c.try_file.new.folder).held)
    (λ gone. empty_again try_name p (o.state c.args.folder.now).held (o.state c.try_file.new.folder).held (ap parent c.go.ensures.there ∙ plain_parent) (c.requires.empty told) (c.try_file.ensures.any_moment told).now.agrees gone)
    (c.try_file.ensures.gone told)

pub returns-clause-any_moment : goal.returns-clause-any_moment
returns-clause-any_moment g c = λ told.
    let p = c.go.new.path.bytes in
    let off = off_child try_name p (ap parent c.go.ensures.there ∙ plain_parent) in
    keeps_wider g.F.Source.outside (covers p) (covers p) (is_below try_name) (is_below try_name) c.args.folder.now c.try_file.new.folder off off (c.try_file.ensures.any_moment told)

pub returns-clause-seen : goal.returns-clause-seen
returns-clause-seen g c = λ told.
    let o = g.F.Source.outside in
    let a = c.args.folder.now in
    let b = c.try_file.new.folder in
    let p = c.go.new.path.bytes in
    on_ok_to c.try_file.result (Passed o a b × (IsTrue c.args.is_asked → Stood o a b (IsFileOf c.args.mode)))
    (λ seen. (
      passed_by o a b (λ t. t.look p ≡ Some (File c.args.mode [])) seen,
      λ asked. stood_as o a b (λ t. t.look p ≡ Some (File c.args.mode [])) (IsFileOf c.args.mode) (λ t is. ap t.look (sym (c.go.ensures.there ∙ file_is)) ∙ is) seen,
    ))
    (c.try_file.ensures.seen told)
