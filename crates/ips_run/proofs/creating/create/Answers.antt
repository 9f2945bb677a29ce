use Rattle.std.proofs.Common.{sym, ◌∙◌, ap}
use Rattle.ips_outside.specs.State.{State}
use Rattle.ips_outside.proofs.Reading.{reads_none}
use Rattle.ips_steps.proofs.Lists.{clash}
use Rattle.ips_commit.proofs.Masked.{none_masked, reads_with}
use Rattle.ips_history.specs.Directories.{with_directories}
use Rattle.ips_run.specs.Ending.{is_source_fault, is_spawn_fault}
use Rattle.ips_run.proofs.Created.{created_unmade, created_made, unmade_finished, comes_unmade, comes_made, comes_at, made_safe, made_shut, made_records}
use Rattle.ips_run.proofs.Opened.{failed_since}
use Rattle.ips_run.proofs.Listed.{listed_since, listed_on, unmade_undone}
use Rattle.ips_run.proofs.creating.create.Goals as goal

pub request-requires-clause-shut : goal.request-requires-clause-shut
request-requires-clause-shut g c = λ told.
    made_shut g.F.Source.outside g.met.F.Source.sane c.args.folder.now c.make_directories.new.folder (c.in-Ok.ensures.made (sym c.make_directories.ensures.same_kind ∙ told))

pub request-requires-clause-records : goal.request-requires-clause-records
request-requires-clause-records g c = λ told creates.
    made_records g.F.Source.outside g.met.F.Source.sane c.args.folder.now c.make_directories.new.folder (c.in-Ok.ensures.made (sym c.make_directories.ensures.same_kind ∙ told))

pub returns-in-Ok-clause-created : goal.returns-in-Ok-clause-created
returns-in-Ok-clause-created g c = λ told.
    let o = g.F.Source.outside in
    let at = c.make_directories.new.folder in
    let made = c.in-Ok.ensures.made told in
    created_made o _ _ c.args.folder.now c.request.new.folder _ c.request.result at made
    (c.request.ensures.asked (c.make_directories.ensures.same_kind ∙ told) (made_safe _ (o.state at) made.made))

pub returns-in-Ok-clause-comes : goal.returns-in-Ok-clause-comes
returns-in-Ok-clause-comes g c = λ told.
    let o = g.F.Source.outside in
    let r = g.S.Source.outside in
    let at = c.make_directories.new.folder in
    let made = c.in-Ok.ensures.made told in
    let n = g.C.Operation.effect c.args.operation.now in
    let D = g.C.Operation.decides c.args.operation.now (r.tells c.args.source.now) (r.state c.args.source.now).held in
    let held = (o.state c.args.folder.now).held in
    comes_made g.P.Spawner.running c.args.spawner.now n (D (with_directories held)) _ _ _ held _ c.requires.creates (c.requires.shut told) made.can _ _ c.request.result
    (comes_at n D _ _ _ _ _ _ c.request.result (o.state at).held (with_directories held) (ap (λ (s : State). s.held) made.made) (c.request.ensures.comes (c.make_directories.ensures.same_kind ∙ told)))

pub returns-in-Ok-clause-begun : goal.returns-in-Ok-clause-begun
returns-in-Ok-clause-begun g c = λ told left.
    let o = g.F.Source.outside in
    let at = c.make_directories.new.folder in
    let made = c.in-Ok.ensures.made told in
    failed_since o c.args.folder.now at c.request.new.folder
    (record { time = made.shut.later; faults = c.make_directories.ensures.cause.later; changes = c.make_directories.ensures.later })
    (c.request.ensures.begun (c.make_directories.ensures.same_kind ∙ told) (made_safe _ (o.state at) made.made) left)

pub returns-in-Err-clause-created : goal.returns-in-Err-clause-created
returns-in-Err-clause-created g c = λ told. created_unmade g.F.Source.outside _ _ c.args.folder.now c.make_directories.new.folder c.in-Err.ending (c.in-Err.ensures.unmade told)

pub returns-in-Err-clause-comes : goal.returns-in-Err-clause-comes
returns-in-Err-clause-comes g c = λ told.
    comes_unmade g.P.Spawner.running c.args.spawner.now (g.C.Operation.effect c.args.operation.now) _ _ _ _ g.F.Source.outside c.args.folder.now c.make_directories.new.folder c.in-Err.ending c.requires.creates (c.requires.shut told) (c.in-Err.ensures.unmade told)

pub returns-in-Err-clause-begun : goal.returns-in-Err-clause-begun
returns-in-Err-clause-begun g c = λ told left. absurd (unmade_finished g.F.Source.outside c.args.folder.now c.make_directories.new.folder c.in-Err.ending (c.in-Err.ensures.unmade told) left)

pub returns-in-Ok-clause-listed : goal.returns-in-Ok-clause-listed
returns-in-Ok-clause-listed g c = λ told done.
    let o = g.F.Source.outside in
    let r = g.S.Source.outside in
    let at = c.make_directories.new.folder in
    let made = c.in-Ok.ensures.made told in
    let D = g.C.Operation.decides c.args.operation.now (r.tells c.args.source.now) (r.state c.args.source.now).held in
    listed_since o _ c.request.result _ _ c.args.folder.now at c.request.new.folder
    (record { time = made.shut.later; faults = c.make_directories.ensures.cause.later; changes = c.make_directories.ensures.later })
    (listed_on o D c.request.result _ _ at c.request.new.folder (o.state at).held (with_directories (o.state c.args.folder.now).held) (ap (λ (s : State). s.held) made.made)
    (c.request.ensures.listed (c.make_directories.ensures.same_kind ∙ told) (made_safe _ (o.state at) made.made) done))

pub returns-in-Err-clause-listed : goal.returns-in-Err-clause-listed
returns-in-Err-clause-listed g c = λ told done. absurd (unmade_undone g.F.Source.outside c.args.folder.now c.make_directories.new.folder c.in-Err.ending (c.in-Err.ensures.unmade told) done)

pub returns-in-Err-clause-source : goal.returns-in-Err-clause-source
returns-in-Err-clause-source g c = reads_with g.S.Source.outside _ _ _ _ (reads_none g.S.Source.outside c.args.source.now ⊥ (λ bad. bad)) (none_masked _ _ _ (λ is. clash (is_source_fault c.in-Err.ending) is c.in-Err.ensures.read))

pub returns-in-Err-clause-spawner : goal.returns-in-Err-clause-spawner
returns-in-Err-clause-spawner g c = none_masked _ _ _ (λ is. clash (is_spawn_fault c.in-Err.ending) is c.in-Err.ensures.unspawned)
