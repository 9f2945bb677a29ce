use Rattle.std.proofs.Common.{map, refl, inl, inr, ◌∙◌}
use Rattle.ips_steps.specs.View.{step_of}
use Rattle.ips_commit.specs.Pending.{is_swept}
use Rattle.ips_commit.proofs.Staged.{rose_of, unbegun, staging_owed, staging_seen, has_staged}
use Rattle.ips_contents.proofs.Written.{own_modes}
use Rattle.ips_commit.proofs.staging.stage.Goals as goal

pub write_stage-requires-clause-counted : goal.write_stage-requires-clause-counted
write_stage-requires-clause-counted g c = λ told. (c.requires.can told).counted

pub returns-in_default-clause-owed : goal.returns-in_default-clause-owed
returns-in_default-clause-owed g c = λ told clean a.
    staging_owed g.F.Source.outside g.met.F.Source.sane c.args.folder.now told c.args.folder.now (unbegun g.F.Source.outside g.met.F.Source.sane c.args.folder.now) (c.requires.can told).shut clean a

pub returns-in-Err-clause-owed : goal.returns-in-Err-clause-owed
returns-in-Err-clause-owed g c = λ told clean a.
    staging_owed g.F.Source.outside g.met.F.Source.sane c.args.folder.now told c.write_stage.new.folder (c.write_stage.ensures.any_moment told) (c.requires.can told).shut clean a

pub returns-in-Err-clause-seen : goal.returns-in-Err-clause-seen
returns-in-Err-clause-seen g c = λ told.
    staging_seen g.F.Source.outside g.met.F.Source.sane c.args.folder.now told c.write_stage.new.folder (c.write_stage.ensures.any_moment told)

pub returns-in-Ok-write_stage-clause-owed : goal.returns-in-Ok-write_stage-clause-owed
returns-in-Ok-write_stage-clause-owed g c = λ told clean a.
    staging_owed g.F.Source.outside g.met.F.Source.sane c.args.folder.now told c.write_stage.new.folder (c.write_stage.ensures.any_moment told) (c.requires.can told).shut clean a

pub returns-in-Ok-write_stage-clause-seen : goal.returns-in-Ok-write_stage-clause-seen
returns-in-Ok-write_stage-clause-seen g c = λ told.
    staging_seen g.F.Source.outside g.met.F.Source.sane c.args.folder.now told c.write_stage.new.folder (c.write_stage.ensures.any_moment told)

pub returns-in-Ok-write_stage-clause-staged : goal.returns-in-Ok-write_stage-clause-staged
returns-in-Ok-write_stage-clause-staged g c = λ told.
    let o = g.F.Source.outside in
    has_staged (g.S.Source.outside.tells c.args.source.now) (g.S.Source.outside.state c.args.source.now).held c.args.publisher.now (map step_of c.args.steps.now) c.args.staged.now
    (o.state c.args.folder.now).held (o.state c.write_stage.new.folder) (g.met.F.Source.sane.formed c.args.folder.now told)
    (g.met.F.Source.sane.formed c.write_stage.new.folder (c.write_stage.ensures.stages.same_kind ∙ told)) c.requires.lists (c.requires.can told)
    (own_modes is_swept _ _ (c.in-Ok-write_stage.ensures.within told).agrees) (c.in-Ok-write_stage.ensures.filled told)

pub returns-in-Ok-write_stage-clause-rehearsed : goal.returns-in-Ok-write_stage-clause-rehearsed
returns-in-Ok-write_stage-clause-rehearsed g c = λ told. c.in-Ok-write_stage.ensures.rehearsed told

pub returns-in_default-clause-begun : goal.returns-in_default-clause-begun
returns-in_default-clause-begun g c = inr (refl, refl)

-- nor for the buffer
pub returns-in_default-new_buffer-clause-owed : goal.returns-in_default-new_buffer-clause-owed
returns-in_default-new_buffer-clause-owed g c = λ told clean a.
    staging_owed g.F.Source.outside g.met.F.Source.sane c.args.folder.now told c.args.folder.now (unbegun g.F.Source.outside g.met.F.Source.sane c.args.folder.now) (c.requires.can told).shut clean a

pub returns-in_default-new_buffer-clause-begun : goal.returns-in_default-new_buffer-clause-begun
returns-in_default-new_buffer-clause-begun g c = inr (refl, refl)

pub returns-in-Err-clause-begun : goal.returns-in-Err-clause-begun
returns-in-Err-clause-begun g c = inl (rose_of _ _ c.write_stage.ensures.changed)

pub returns-in-Ok-write_stage-clause-begun : goal.returns-in-Ok-write_stage-clause-begun
returns-in-Ok-write_stage-clause-begun g c = inl (rose_of _ _ c.write_stage.ensures.changed)
