use Rattle.std.proofs.Common.{refl, sym, ◌∙◌, ap, subst}
use Rattle.ips_text.specs.Ancestry.{covers}
use Rattle.ips_outside.specs.State.{State, IsSettled}
use Rattle.ips_outside.proofs.Faults.{rose_later}
use Rattle.ips_folder.proofs.Runs.{keeps_then, one_sync}
use Rattle.ips_create.proofs.writing.write_safe.Goals as goal

pub returns-in-Ok-sync-clause-written : goal.returns-in-Ok-sync-clause-written
returns-in-Ok-sync-clause-written g c = λ told.
    ap (λ (s : State). s.held.look c.args.path.now.bytes) (c.in-Ok-sync.ensures.done (c.write_text.ensures.same_kind ∙ told)) ∙ c.in-Ok.ensures.written told

pub returns-in-Ok-sync-clause-safe : goal.returns-in-Ok-sync-clause-safe
returns-in-Ok-sync-clause-safe g c = λ told. subst IsSettled (sym (c.in-Ok-sync.ensures.done (c.write_text.ensures.same_kind ∙ told))) (record { whole = λ q. refl; modes = λ q. refl })

pub returns-in-Ok-sync-clause-any_moment : goal.returns-in-Ok-sync-clause-any_moment
returns-in-Ok-sync-clause-any_moment g c = λ told.
    let o = g.F.Source.outside in
    let p = c.args.path.now.bytes in
    keeps_then o (covers p) (covers p) c.args.folder.now c.write_text.new.folder c.sync.new.self (c.write_text.ensures.any_moment told)
    (one_sync o g.met.F.Source.sane (covers p) (covers p) c.write_text.new.folder c.sync.new.self c.sync.result (c.write_text.ensures.same_kind ∙ told) c.sync.ensures)

pub returns-in-Err-sync-clause-any_moment : goal.returns-in-Err-sync-clause-any_moment
returns-in-Err-sync-clause-any_moment g c = λ told.
    let o = g.F.Source.outside in
    let p = c.args.path.now.bytes in
    keeps_then o (covers p) (covers p) c.args.folder.now c.write_text.new.folder c.sync.new.self (c.write_text.ensures.any_moment told)
    (one_sync o g.met.F.Source.sane (covers p) (covers p) c.write_text.new.folder c.sync.new.self c.sync.result (c.write_text.ensures.same_kind ∙ told) c.sync.ensures)

pub returns-in-Ok-sync-clause-made : goal.returns-in-Ok-sync-clause-made
returns-in-Ok-sync-clause-made g c =
    let o = g.F.Source.outside in
    rose_later (o.changes c.args.folder.now) (o.changes c.write_text.new.folder) (o.changes c.sync.new.self) c.write_text.ensures.made c.sync.ensures.one_made.later

pub returns-in-Err-sync-clause-made : goal.returns-in-Err-sync-clause-made
returns-in-Err-sync-clause-made g c =
    let o = g.F.Source.outside in
    rose_later (o.changes c.args.folder.now) (o.changes c.write_text.new.folder) (o.changes c.sync.new.self) c.write_text.ensures.made c.sync.ensures.one_made.later
