use Rattle.std.proofs.Common.{◌≡◌, ℕ, List, Option, true, false, is_some, IsErr, sym, ◌∙◌, ap}
use Rattle.ips_index.specs.Rows.{IndexedValue, index_text}
use Rattle.ips_index.specs.Text.{IsIndexFile}
use Rattle.ips_state.specs.Records.{index_path}
use Rattle.ips_load.specs.Fault.{IsBadText}
use Rattle.ips_image.proofs.Told.{index_is_path, something_there, nothing_there, index_fault, still_told, still_held, moved, moved_fault, err_weaker}
use Rattle.ips_image.proofs.index.index_of.Goals as goal

pub path_of-requires : goal.path_of-requires
path_of-requires g c = index_is_path

pub returns-in-Ok-clause-found : goal.returns-in-Ok-clause-found
returns-in-Ok-clause-found g c = λ told.
    let o = g.F.Source.outside in
    let t = (o.state c.args.folder.now).held in
    let u = (o.state c.is_there.new.folder).held in
    let same = still_held o c.args.folder.now c.is_there.new.folder (IsErr c.is_there.result) c.is_there.ensures.reads in
    moved u t c.in_ok-path.path.bytes index_path (index_text c.in-Ok.index) same c.in_ok-path.ensures
    (c.in-Ok.ensures.found (still_told o c.args.folder.now c.is_there.new.folder (IsErr c.is_there.result) c.is_there.ensures.reads told))

pub returns-in-Ok-true-clause-fault : goal.returns-in-Ok-true-clause-fault
returns-in-Ok-true-clause-fault g c = λ told.
    let o = g.F.Source.outside in
    let t = (o.state c.args.folder.now).held in
    let u = (o.state c.is_there.new.folder).held in
    let same = still_held o c.args.folder.now c.is_there.new.folder (IsErr c.is_there.result) c.is_there.ensures.reads in
    let there : true ≡ is_some (t.look index_path) = sym c.in-Ok-true.field-0-test ∙ c.in-Ok-true.ensures.found told ∙ ap (λ (p : List ℕ). is_some (t.look p)) c.in_ok-path.ensures in
    err_weaker (List IndexedValue) (Option (List IndexedValue)) c.in-Err-index_at.fault _ _ (λ f h. index_fault t f (something_there (t.look index_path) there) (moved_fault (IsBadText IsIndexFile) u t c.in_ok-path.path.bytes index_path f same c.in_ok-path.ensures h))
    (c.in-Err-index_at.ensures.fault (still_told o c.args.folder.now c.is_there.new.folder (IsErr c.is_there.result) c.is_there.ensures.reads told))

pub returns-in-Ok-false-clause-found : goal.returns-in-Ok-false-clause-found
returns-in-Ok-false-clause-found g c = λ told.
    let t = (g.F.Source.outside.state c.args.folder.now).held in
    let none : false ≡ is_some (t.look index_path) = sym c.in-Ok-false.field-0-test ∙ c.in-Ok-false.ensures.found told ∙ ap (λ (p : List ℕ). is_some (t.look p)) c.in_ok-path.ensures in
    nothing_there (t.look index_path) none
