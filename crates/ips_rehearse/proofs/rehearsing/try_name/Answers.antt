use Rattle.std.proofs.Common.{◌≡◌, ◌⊎◌, ⊎_elim, List, ℕ, [], None, ◌∙◌, ap, inr, Some, IsTrue, sym}
use Rattle.ips_outside.specs.Image.{File, is_file}
use Rattle.ips_rehearse.proofs.Passing.{passed_by, stood_as}
use Rattle.ips_text.specs.Ancestry.{covers, is_below, parent}
use Rattle.ips_text.specs.Path.{IsPath}
use Rattle.ips_folder.proofs.Runs.{keeps_wider}
use Rattle.ips_rehearse.specs.Tried.{try_name, in_try}
use Rattle.ips_rehearse.proofs.Paths.{tried_parent}
use Rattle.ips_rehearse.proofs.Trials.{off_child, can_make, empty_again}
use Rattle.ips_rehearse.proofs.rehearsing.try_name.Goals as goal

alone : (name : List ℕ) → (name ≡ []) ⊎ (IsPath name × (parent name ≡ None)) → parent name ≡ None
alone name is = ⊎_elim (λ none. ap parent none) (λ some. some.1) is

pub try_file-requires-clause-can : goal.try_file-requires-clause-can
try_file-requires-clause-can g c = λ told.
    can_make try_name c.go_in.new.path.bytes (g.F.Source.outside.state c.args.folder.now).held (ap parent c.in_ok-go_in.ensures.there ∙ tried_parent c.args.name.now (alone c.args.name.now c.requires.name)) (c.requires.empty told)

pub returns-in-Ok-clause-empty : goal.returns-in-Ok-clause-empty
returns-in-Ok-clause-empty g c = λ told.
    let o = g.F.Source.outside in
    let p = c.go_in.new.path.bytes in
    let is = ap parent c.in_ok-go_in.ensures.there ∙ tried_parent c.args.name.now (alone c.args.name.now c.requires.name) in
    empty_again try_name p (o.state c.args.folder.now).held (o.state c.try_file.new.folder).held is (c.requires.empty told) (c.try_file.ensures.any_moment told).now.agrees (c.in-Ok.ensures.gone told)

pub returns-in-Ok-clause-any_moment : goal.returns-in-Ok-clause-any_moment
returns-in-Ok-clause-any_moment g c = λ told.
    let p = c.go_in.new.path.bytes in
    let off = off_child try_name p (ap parent c.in_ok-go_in.ensures.there ∙ tried_parent c.args.name.now (alone c.args.name.now c.requires.name)) in
    keeps_wider g.F.Source.outside (covers p) (covers p) (is_below try_name) (is_below try_name) c.args.folder.now c.try_file.new.folder off off (c.try_file.ensures.any_moment told)

pub returns-in-Err-clause-any_moment : goal.returns-in-Err-clause-any_moment
returns-in-Err-clause-any_moment g c = λ told.
    let p = c.go_in.new.path.bytes in
    let off = off_child try_name p (ap parent c.in_ok-go_in.ensures.there ∙ tried_parent c.args.name.now (alone c.args.name.now c.requires.name)) in
    keeps_wider g.F.Source.outside (covers p) (covers p) (is_below try_name) (is_below try_name) c.args.folder.now c.try_file.new.folder off off (c.try_file.ensures.any_moment told)

pub returns-in-Ok-clause-seen : goal.returns-in-Ok-clause-seen
returns-in-Ok-clause-seen g c = λ told.
    let o = g.F.Source.outside in
    let a = c.args.folder.now in
    let b = c.try_file.new.folder in
    let p = c.go_in.new.path.bytes in
    let seen = c.in-Ok.ensures.seen told in (
      passed_by o a b (λ t. t.look p ≡ Some (File 384 [])) seen,
      inr (stood_as o a b (λ t. t.look p ≡ Some (File 384 [])) (λ t. IsTrue (is_file (t.look (in_try c.args.name.now)))) (λ t is. ap (λ (x : List ℕ). is_file (t.look x)) (sym c.in_ok-go_in.ensures.there) ∙ ap is_file is) seen),
    )
