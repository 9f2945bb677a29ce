use Rattle.std.proofs.Common.{[]}
use Rattle.ips_outside.proofs.Trees.{on_ok_to}
use Rattle.ips_commit.specs.Staging.{IsCleared}
use Rattle.ips_commit.proofs.Owing.{swept_seen}
use Rattle.ips_commit.proofs.Staged.{rose_of, clean_behind, staging_owed, cleared_by}
use Rattle.ips_commit.proofs.discarding.discard.Goals as goal

pub returns-clause-owed : goal.returns-clause-owed
returns-clause-owed g c = λ told clean shut a.
    let o = g.F.Source.outside in
    staging_owed o g.met.F.Source.sane c.args.folder.now told c.sweep.new.folder (clean_behind o g.met.F.Source.sane c.args.folder.now clean c.sweep.new.folder (c.sweep.ensures.any_moment told)) shut clean a

pub returns-clause-seen : goal.returns-clause-seen
returns-clause-seen g c = λ told.
    let o = g.F.Source.outside in
    swept_seen (o.state c.args.folder.now).held (o.state c.sweep.new.folder).held (c.sweep.ensures.any_moment told).now.agrees

pub returns-clause-cleared : goal.returns-clause-cleared
returns-clause-cleared g c = λ told.
    let o = g.F.Source.outside in
    on_ok_to c.sweep.result (IsCleared (o.state c.sweep.new.folder).held) (cleared_by [] (o.state c.args.folder.now).held (o.state c.sweep.new.folder).held (c.requires.unmarked told)) (c.sweep.ensures.swept told)

pub returns-clause-changed : goal.returns-clause-changed
returns-clause-changed g c = rose_of _ _ c.sweep.ensures.changed
