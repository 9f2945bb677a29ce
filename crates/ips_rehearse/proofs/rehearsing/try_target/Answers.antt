use Rattle.std.proofs.Common.{◌∙◌, ap, inr, List, ℕ, Some}
use Rattle.ips_outside.proofs.Placed.{look_placed}
use Rattle.ips_outside.specs.Change.{with_entry_at}
use Rattle.ips_outside.specs.Image.{Link}
use Rattle.ips_rehearse.proofs.Passing.{pass_call, pass_then}
use Rattle.ips_text.specs.Ancestry.{covers, is_below, parent}
use Rattle.ips_outside.specs.State.{State}
use Rattle.ips_outside.proofs.Trees.{on_ok_to}
use Rattle.ips_folder.proofs.Runs.{keeps_then}
use Rattle.ips_rehearse.specs.Tried.{try_name, IsEmptyDir, link_name}
use Rattle.ips_rehearse.proofs.Paths.{link_path, link_parent, link_is}
use Rattle.ips_rehearse.proofs.Trials.{wrote_in, is_gone, off_child, can_make, empty_again, on_ok}
use Rattle.ips_rehearse.proofs.rehearsing.try_target.Goals as goal

pub go-requires-clause-path : goal.go-requires-clause-path
go-requires-clause-path g c = link_path

pub make_link-requires : goal.make_link-requires
make_link-requires g c = λ told. can_make try_name c.go.new.path.bytes (g.F.Source.outside.state c.args.folder.now).held (ap parent c.go.ensures.there ∙ link_parent) (c.requires.empty told)

pub returns-in_err-make_link-clause-any_moment : goal.returns-in_err-make_link-clause-any_moment
returns-in_err-make_link-clause-any_moment g c = λ told.
    let p = c.go.new.path.bytes in
    wrote_in g.F.Source.outside g.met.F.Source.sane (is_below try_name) (is_below try_name) p (off_child try_name p (ap parent c.go.ensures.there ∙ link_parent)) c.args.folder.now c.make_link.new.self _ c.make_link.result told c.make_link.ensures

pub returns-clause-any_moment : goal.returns-clause-any_moment
returns-clause-any_moment g c = λ told.
    let o = g.F.Source.outside in
    let p = c.go.new.path.bytes in
    let off = off_child try_name p (ap parent c.go.ensures.there ∙ link_parent) in
    keeps_then o (is_below try_name) (is_below try_name) c.args.folder.now c.make_link.new.self c.remove.new.self
    (wrote_in o g.met.F.Source.sane (is_below try_name) (is_below try_name) p off c.args.folder.now c.make_link.new.self _ c.make_link.result told c.make_link.ensures)
    (wrote_in o g.met.F.Source.sane (is_below try_name) (is_below try_name) p off c.make_link.new.self c.remove.new.self _ c.remove.result (c.make_link.ensures.call.same_kind ∙ told) c.remove.ensures)

pub returns-clause-empty : goal.returns-clause-empty
returns-clause-empty g c = λ told.
    let o = g.F.Source.outside in
    let p = c.go.new.path.bytes in
    let told_1 = c.make_link.ensures.call.same_kind ∙ told in
    on_ok_to c.remove.result (IsEmptyDir try_name (o.state c.remove.new.self).held)
    (λ done. empty_again try_name p (o.state c.args.folder.now).held (o.state c.remove.new.self).held (ap parent c.go.ensures.there ∙ link_parent) (c.requires.empty told)
    (keeps_then o (covers p) (covers p) c.args.folder.now c.make_link.new.self c.remove.new.self
    (wrote_in o g.met.F.Source.sane (covers p) (covers p) p (λ q off. off) c.args.folder.now c.make_link.new.self _ c.make_link.result told c.make_link.ensures)
    (wrote_in o g.met.F.Source.sane (covers p) (covers p) p (λ q off. off) c.make_link.new.self c.remove.new.self _ c.remove.result told_1 c.remove.ensures)).now.agrees
    (is_gone p (o.state c.make_link.new.self).held (o.state c.remove.new.self).held (ap (λ (s : State). s.held) done)))
    (c.remove.ensures.done told_1)

pub returns-clause-seen : goal.returns-clause-seen
returns-clause-seen g c = λ told.
    let o = g.F.Source.outside in
    let target = c.args.target.now in
    let before = pass_call o c.args.folder.now c.make_link.new.self _ c.make_link.ensures.call in
    let behind = pass_call o c.make_link.new.self c.remove.new.self _ c.remove.ensures.call in
    on_ok _ (
      pass_then o c.args.folder.now c.make_link.new.self c.remove.new.self before behind,
      inr (record {
        at = c.make_link.new.self;
        since = before;
        until = behind;
        held = ap (λ (s : State). s.held.look link_name) (c.in_ok-make_link.ensures.done told) ∙ ap (λ (p : List ℕ). (with_entry_at p (Some (Link target)) (o.state c.args.folder.now).held).look link_name) (c.go.ensures.there ∙ link_is)
            ∙ look_placed link_name (Some (Link target)) (o.state c.args.folder.now).held;
      }),
    ) c.remove.result
