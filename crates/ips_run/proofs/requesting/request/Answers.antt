use Rattle.std.proofs.Common.{None, inl, inr, refl, sym, ◌∙◌, subst}
use Rattle.ips_steps.proofs.Lists.{clash}
use Rattle.ips_commit.proofs.Masked.{none_masked, told_alike, reads_with}
use Rattle.ips_run.specs.Ending.{is_done, is_left, is_source_fault, is_spawn_fault, TellsAtMost}
use Rattle.ips_run.specs.Comes.{Unready, Carried}
use Rattle.ips_run.proofs.Said.{said_of_change}
use Rattle.ips_commit.proofs.Staged.{can_open, unmarked}
use Rattle.ips_run.proofs.Carried.{asked_early, asked_ready}
use Rattle.ips_run.proofs.Told.{none_run, carried_as}
use Rattle.ips_run.proofs.Performed.{left_fault}
use Rattle.ips_run.proofs.Unbegun.{given_up_of, failed_refused}
use Rattle.ips_run.proofs.Leaving.{leaves_nothing}
use Rattle.ips_run.proofs.Listed.{counted_of}
use Rattle.ips_run.proofs.requesting.request.Goals as goal

pub returns-in-Err-clause-asked : goal.returns-in-Err-clause-asked
returns-in-Err-clause-asked g c = λ told clean.
    asked_early g.F.Source.outside g.met.F.Source.sane _
    c.args.folder.now clean (c.requires.shut told) _ c.prepare.new.folder c.in-Err.ending c.in-Err.ensures.early (c.prepare.ensures.owed told clean None) (c.prepare.ensures.seen told)

pub returns-in-Err-clause-comes : goal.returns-in-Err-clause-comes
returns-in-Err-clause-comes g c = λ told to_decide.
    Unready to_decide (c.in-Err.ensures.unready told) (c.in-Err.ensures.left told) refl (none_run g.P.Spawner.running c.args.spawner.now)

pub returns-in-Err-clause-begun : goal.returns-in-Err-clause-begun
returns-in-Err-clause-begun g c = λ told clean left. absurd (clash (is_left c.in-Err.ending) left c.in-Err.ensures.early.finished)

pub carry_out-requires-clause-gate : goal.carry_out-requires-clause-gate
carry_out-requires-clause-gate g c = λ told.
    let ready = c.in-Ok.ensures.readied (sym c.prepare.ensures.same_kind ∙ told) in
    can_open _ ready.after (g.F.Source.outside.state c.prepare.new.folder) (g.met.F.Source.sane.formed c.prepare.new.folder told) ready.staged

pub carry_out-requires-clause-unmarked : goal.carry_out-requires-clause-unmarked
carry_out-requires-clause-unmarked g c = λ told.
    let ready = c.in-Ok.ensures.readied (sym c.prepare.ensures.same_kind ∙ told) in
    unmarked _ ready.after (g.F.Source.outside.state c.prepare.new.folder) ready.staged

pub returns-clause-asked : goal.returns-clause-asked
returns-clause-asked g c = λ told clean.
    let ready = c.in-Ok.ensures.readied told in
    asked_ready g.F.Source.outside g.met.F.Source.sane _
    c.args.folder.now clean (c.requires.shut told) _ c.prepare.new.folder c.carry_out.new.folder _ c.carry_out.result ready.after ready.is_meant (λ a. c.prepare.ensures.owed told clean a) (c.prepare.ensures.seen told)
    (c.carry_out.ensures.carried (c.prepare.ensures.same_kind ∙ told) _ ready.after ready.staged)

pub returns-clause-comes : goal.returns-clause-comes
returns-clause-comes g c = λ told to_decide.
    let ready = c.in-Ok.ensures.readied told in
    let carried = c.carry_out.ensures.carried (c.prepare.ensures.same_kind ∙ told) _ ready.after ready.staged in
    Carried ready.change c.in-Ok.ensures.changes to_decide ready.decided ready.intact
    (leaves_nothing (g.C.Operation.effect c.args.operation.now) _ _ c.carry_out.result carried.cleared)
    (carried_as _ _ _ _ c.carry_out.result _ _ _ _ _ _ ready.before ready.behind ready.told
    (c.carry_out.ensures.told (c.prepare.ensures.same_kind ∙ told) _ ready.after ready.staged))

pub returns-clause-begun : goal.returns-clause-begun
returns-clause-begun g c = λ told clean left.
    let ready = c.in-Ok.ensures.readied told in
    record {
      ready = c.prepare.new.folder;
      steps = _;
      after = ready.after;
      staged = ready.staged;
      since = record { time = (c.prepare.ensures.owed told clean None).later; faults = c.prepare.ensures.cause.later; changes = c.prepare.ensures.later };
      until = (c.carry_out.ensures.carried (c.prepare.ensures.same_kind ∙ told) _ ready.after ready.staged).owed.later;
      rose = c.carry_out.ensures.folder.rose (left_fault c.carry_out.result left);
      changed = c.carry_out.ensures.changed left;
    }

pub returns-in-Err-clause-listed : goal.returns-in-Err-clause-listed
returns-in-Err-clause-listed g c = λ told clean done. absurd (clash (is_done c.in-Err.ending) done c.in-Err.ensures.early.undone)

pub returns-clause-listed : goal.returns-clause-listed
returns-clause-listed g c = λ told clean done.
    let ready = c.in-Ok.ensures.readied told in
    let carried = c.carry_out.ensures.carried (c.prepare.ensures.same_kind ∙ told) _ ready.after ready.staged in
    record {
      change = ready.change;
      decided = ready.decided;
      told = subst (λ t. TellsAtMost t c.carry_out.result) ready.told c.carry_out.ensures.tells;
      ready = c.prepare.new.folder;
      after = ready.after;
      staged = ready.staged;
      since = record { time = (c.prepare.ensures.owed told clean None).later; faults = c.prepare.ensures.cause.later; changes = c.prepare.ensures.later };
      opened = c.carry_out.ensures.journal (c.prepare.ensures.same_kind ∙ told) _ ready.after ready.staged done;
      counted = counted_of _ _ _ _ _ _ _ c.carry_out.result done (c.carry_out.ensures.told (c.prepare.ensures.same_kind ∙ told) _ ready.after ready.staged);
      ended = carried.done done;
    }

pub returns-clause-says : goal.returns-clause-says
returns-clause-says g c = said_of_change (g.C.Operation.says c.args.operation.now) c.in-Ok.prepared.told c.carry_out.result c.in-Ok.ensures.says c.carry_out.ensures.tells

pub returns-in-Err-clause-unbegun : goal.returns-in-Err-clause-unbegun
returns-in-Err-clause-unbegun g c = λ told clean failed. inl (c.in-Err.ensures.unbegun told)

pub returns-clause-unbegun : goal.returns-clause-unbegun
returns-clause-unbegun g c = λ told clean failed.
    let ready = c.in-Ok.ensures.readied told in
    let told_1 = c.prepare.ensures.same_kind ∙ told in
    let (refused, blamed) = failed_refused c.carry_out.result failed in
    inr (record {
      change = ready.change;
      decided = ready.decided;
      ready = c.prepare.new.folder;
      after = ready.after;
      staged = ready.staged;
      since = record { time = (c.prepare.ensures.owed told clean None).later; faults = c.prepare.ensures.cause.later; changes = c.prepare.ensures.later };
      given_up = given_up_of _ _ _ _ _ _ _ c.carry_out.result failed (carried_as _ _ _ _ c.carry_out.result _ _ _ _ _ _ ready.before ready.behind ready.told (c.carry_out.ensures.told told_1 _ ready.after ready.staged));
      kept = (c.carry_out.ensures.carried told_1 _ ready.after ready.staged).kept refused;
      rose = c.carry_out.ensures.folder.rose blamed;
    })

pub returns-in-Err-clause-spawner : goal.returns-in-Err-clause-spawner
returns-in-Err-clause-spawner g c = none_masked _ _ _ (λ is. clash (is_spawn_fault c.in-Err.ending) is c.in-Err.ensures.early.unspawned)

pub returns-clause-source : goal.returns-clause-source
returns-clause-source g c = reads_with g.S.Source.outside _ _ _ _ c.in-Ok.ensures.source
    (told_alike _ _ _ _ _ _ c.in-Ok.ensures.source.call.cause (λ bad. absurd bad) (λ is. absurd (clash (is_source_fault c.carry_out.result) is c.carry_out.ensures.read)) (λ bad. absurd bad))
