use Rattle.std.proofs.Common.{◌∙◌, ap, ◌≡◌, List, ℕ, None}
use Rattle.ips_rehearse.proofs.Busy.{inner_dir_is, inner_file_is}
use Rattle.ips_outside.specs.Change.{with_entry_at}
use Rattle.ips_rehearse.proofs.Passing.{pass_call, pass_then}
use Rattle.ips_text.specs.Ancestry.{is_below, parent}
use Rattle.ips_outside.specs.State.{nowhere, State}
use Rattle.ips_folder.proofs.Runs.{keeps_then, one_read}
use Rattle.ips_rehearse.specs.Tried.{dir_name, inner_dir_name, inner_file_name}
use Rattle.ips_rehearse.proofs.Paths.{inner_dir_path, inner_file_path, inner_dir_parent, inner_file_parent}
use Rattle.ips_rehearse.proofs.Trials.{wrote_in, off_child}
use Rattle.ips_rehearse.proofs.trying.clear.Goals as goal

pub go-requires-clause-path : goal.go-requires-clause-path
go-requires-clause-path g c = inner_file_path

pub go-requires-2-clause-path : goal.go-requires-2-clause-path
go-requires-2-clause-path g c = inner_dir_path

pub returns-in_default-clause-any_moment : goal.returns-in_default-clause-any_moment
returns-in_default-clause-any_moment g c = λ told.
    let o = g.F.Source.outside in
    let r = c.go.new.path.bytes in
    keeps_then o (is_below dir_name) nowhere c.args.folder.now c.list.new.self c.remove.new.self
    (one_read o g.met.F.Source.sane (is_below dir_name) nowhere c.args.folder.now c.list.new.self _ c.list.ensures.reads)
    (wrote_in o g.met.F.Source.sane (is_below dir_name) nowhere r (off_child dir_name r (ap parent c.go.ensures.there ∙ inner_file_parent)) c.list.new.self c.remove.new.self _ c.remove.result (c.list.ensures.reads.call.same_kind ∙ told) c.remove.ensures)

pub returns-in_default-remove-clause-any_moment : goal.returns-in_default-remove-clause-any_moment
returns-in_default-remove-clause-any_moment g c = λ told.
    let o = g.F.Source.outside in
    let r = c.go.new.path.bytes in
    let p = c.go-2.new.path.bytes in
    let told_1 = c.list.ensures.reads.call.same_kind ∙ told in
    keeps_then o (is_below dir_name) nowhere c.args.folder.now c.remove.new.self c.remove-2.new.self
    (keeps_then o (is_below dir_name) nowhere c.args.folder.now c.list.new.self c.remove.new.self
    (one_read o g.met.F.Source.sane (is_below dir_name) nowhere c.args.folder.now c.list.new.self _ c.list.ensures.reads)
    (wrote_in o g.met.F.Source.sane (is_below dir_name) nowhere r (off_child dir_name r (ap parent c.go.ensures.there ∙ inner_file_parent)) c.list.new.self c.remove.new.self _ c.remove.result told_1 c.remove.ensures))
    (wrote_in o g.met.F.Source.sane (is_below dir_name) nowhere p (off_child dir_name p (ap parent c.go-2.ensures.there ∙ inner_dir_parent)) c.remove.new.self c.remove-2.new.self _ c.remove-2.result (c.remove.ensures.call.same_kind ∙ told_1) c.remove-2.ensures)

pub returns-clause-any_moment : goal.returns-clause-any_moment
returns-clause-any_moment g c = λ told.
    let o = g.F.Source.outside in
    let r = c.go.new.path.bytes in
    let p = c.go-2.new.path.bytes in
    let told_1 = c.list.ensures.reads.call.same_kind ∙ told in
    keeps_then o (is_below dir_name) nowhere c.args.folder.now c.remove.new.self c.remove-2.new.self
    (keeps_then o (is_below dir_name) nowhere c.args.folder.now c.list.new.self c.remove.new.self
    (one_read o g.met.F.Source.sane (is_below dir_name) nowhere c.args.folder.now c.list.new.self _ c.list.ensures.reads)
    (wrote_in o g.met.F.Source.sane (is_below dir_name) nowhere r (off_child dir_name r (ap parent c.go.ensures.there ∙ inner_file_parent)) c.list.new.self c.remove.new.self _ c.remove.result told_1 c.remove.ensures))
    (wrote_in o g.met.F.Source.sane (is_below dir_name) nowhere p (off_child dir_name p (ap parent c.go-2.ensures.there ∙ inner_dir_parent)) c.remove.new.self c.remove-2.new.self _ c.remove-2.result (c.remove.ensures.call.same_kind ∙ told_1) c.remove-2.ensures)

pub returns-clause-seen : goal.returns-clause-seen
returns-clause-seen g c = λ told.
    let o = g.F.Source.outside in
    let told_1 = c.list.ensures.reads.call.same_kind ∙ told in
    let told_2 = c.remove.ensures.call.same_kind ∙ told_1 in
    let first : (o.state c.remove.new.self).held ≡ with_entry_at inner_file_name None (o.state c.args.folder.now).held =
    ap (λ (s : State). s.held) (c.in-Ok-remove.ensures.done told_1) ∙ ap (λ (p : List ℕ). with_entry_at p None (o.state c.list.new.self).held) (c.go.ensures.there ∙ inner_file_is) ∙ ap (λ (s : State). with_entry_at inner_file_name None s.held) c.list.ensures.reads.kept in
    let last : (o.state c.remove-2.new.self).held ≡ with_entry_at inner_dir_name None (o.state c.remove.new.self).held =
    ap (λ (s : State). s.held) (c.in-Ok-remove-2.ensures.done told_2) ∙ ap (λ (p : List ℕ). with_entry_at p None (o.state c.remove.new.self).held) (c.go-2.ensures.there ∙ inner_dir_is) in (
      pass_then o c.args.folder.now c.list.new.self c.remove-2.new.self (pass_call o c.args.folder.now c.list.new.self _ c.list.ensures.reads.call)
          (pass_then o c.list.new.self c.remove.new.self c.remove-2.new.self (pass_call o c.list.new.self c.remove.new.self _ c.remove.ensures.call) (pass_call o c.remove.new.self c.remove-2.new.self _ c.remove-2.ensures.call)),
      last ∙ ap (with_entry_at inner_dir_name None) first,
    )
