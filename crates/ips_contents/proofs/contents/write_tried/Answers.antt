use Rattle.std.proofs.Common.{length, map, sym, ◌∙◌, ap}
use Rattle.ips_text.specs.Ancestry.{covers}
use Rattle.ips_outside.specs.Image.{is_dir}
use Rattle.ips_outside.specs.State.{ChangedWithin}
use Rattle.ips_folder.proofs.Runs.{started}
use Rattle.ips_steps.specs.Steps.{stage_name}
use Rattle.ips_steps.specs.View.{step_of}
use Rattle.ips_contents.proofs.Tried.{untried, first_there, same_stage, contents_tried, modes_tried, alone_tried, only_tried, tried_then}
use Rattle.ips_contents.proofs.contents.write_tried.Goals as goal

pub rehearse-requires-clause-stage : goal.rehearse-requires-clause-stage
rehearse-requires-clause-stage g c = λ told_now.
    let told = sym c.write_contents.ensures.stages.same_kind ∙ told_now in
    ap is_dir (c.in_ok-write_contents.ensures.stands told) ∙ c.requires.stage told

pub rehearse-requires-clause-free : goal.rehearse-requires-clause-free
rehearse-requires-clause-free g c = λ told_now.
    let told = sym c.write_contents.ensures.stages.same_kind ∙ told_now in
    untried (length c.args.staged.now) (g.F.Source.outside.state c.write_contents.new.folder).held (c.in_ok-write_contents.ensures.only told)

pub rehearse-requires-clause-first : goal.rehearse-requires-clause-first
rehearse-requires-clause-first g c = λ told_now some.
    let told = sym c.write_contents.ensures.stages.same_kind ∙ told_now in
    first_there (g.S.Source.outside.tells c.args.source.now) (g.S.Source.outside.state c.args.source.now).held c.args.publisher.now
    (g.F.Source.outside.state c.args.folder.now).held (g.F.Source.outside.state c.write_contents.new.folder).held c.args.staged.now (c.in_ok-write_contents.ensures.written told) some

pub returns-in-Ok-clause-written : goal.returns-in-Ok-clause-written
returns-in-Ok-clause-written g c = λ told.
    let o = g.F.Source.outside in
    let told_1 = c.write_contents.ensures.stages.same_kind ∙ told in
    contents_tried (o.state c.write_contents.new.folder).held (o.state c.rehearse.new.folder).held (c.rehearse.ensures.any_moment told_1).now.agrees (c.in-Ok.ensures.gone told_1)
    (g.S.Source.outside.tells c.args.source.now) (g.S.Source.outside.state c.args.source.now).held c.args.publisher.now (o.state c.args.folder.now).held c.args.staged.now (c.in_ok-write_contents.ensures.written told)

pub returns-in-Ok-clause-modes : goal.returns-in-Ok-clause-modes
returns-in-Ok-clause-modes g c = λ told.
    let o = g.F.Source.outside in
    let told_1 = c.write_contents.ensures.stages.same_kind ∙ told in
    modes_tried (o.state c.write_contents.new.folder).held (o.state c.rehearse.new.folder).held (c.rehearse.ensures.any_moment told_1).now.agrees (c.in-Ok.ensures.gone told_1)
    (map step_of c.args.steps.now) (c.in_ok-write_contents.ensures.modes told)

pub returns-in-Ok-clause-alone : goal.returns-in-Ok-clause-alone
returns-in-Ok-clause-alone g c = λ told.
    let o = g.F.Source.outside in
    let told_1 = c.write_contents.ensures.stages.same_kind ∙ told in
    alone_tried (o.state c.write_contents.new.folder).held (o.state c.rehearse.new.folder).held (c.rehearse.ensures.any_moment told_1).now.agrees (c.in-Ok.ensures.gone told_1)
    (g.met.F.Source.sane.formed c.rehearse.new.folder (c.rehearse.ensures.same_kind ∙ told_1)) (c.in_ok-write_contents.ensures.alone told)

pub returns-in-Ok-clause-stands : goal.returns-in-Ok-clause-stands
returns-in-Ok-clause-stands g c = λ told.
    let o = g.F.Source.outside in
    let told_1 = c.write_contents.ensures.stages.same_kind ∙ told in
    same_stage (o.state c.write_contents.new.folder).held (o.state c.rehearse.new.folder).held (c.rehearse.ensures.any_moment told_1).now.agrees (c.in-Ok.ensures.gone told_1)
    ∙ c.in_ok-write_contents.ensures.stands told

pub returns-in-Ok-clause-only : goal.returns-in-Ok-clause-only
returns-in-Ok-clause-only g c = λ told.
    let o = g.F.Source.outside in
    let told_1 = c.write_contents.ensures.stages.same_kind ∙ told in
    only_tried (o.state c.write_contents.new.folder).held (o.state c.rehearse.new.folder).held (c.rehearse.ensures.any_moment told_1).now.agrees (c.in-Ok.ensures.gone told_1)
    (length c.args.staged.now) (c.in_ok-write_contents.ensures.only told)

pub returns-in-Ok-clause-any_moment : goal.returns-in-Ok-clause-any_moment
returns-in-Ok-clause-any_moment g c = λ told.
    tried_then g.F.Source.outside c.args.folder.now c.write_contents.new.folder c.rehearse.new.folder (c.write_contents.ensures.any_moment told)
    (c.rehearse.ensures.any_moment (c.write_contents.ensures.stages.same_kind ∙ told))

pub returns-in-Err-Bad-clause-any_moment : goal.returns-in-Err-Bad-clause-any_moment
returns-in-Err-Bad-clause-any_moment g c = λ told.
    tried_then g.F.Source.outside c.args.folder.now c.write_contents.new.folder c.rehearse.new.folder (c.write_contents.ensures.any_moment told)
    (c.rehearse.ensures.any_moment (c.write_contents.ensures.stages.same_kind ∙ told))

pub returns-in-Err-OutOfMemory-clause-any_moment : goal.returns-in-Err-OutOfMemory-clause-any_moment
returns-in-Err-OutOfMemory-clause-any_moment g c = λ told.
    tried_then g.F.Source.outside c.args.folder.now c.write_contents.new.folder c.rehearse.new.folder (c.write_contents.ensures.any_moment told)
    (c.rehearse.ensures.any_moment (c.write_contents.ensures.stages.same_kind ∙ told))

pub returns-in-Ok-clause-rehearsed : goal.returns-in-Ok-clause-rehearsed
returns-in-Ok-clause-rehearsed g c = λ told.
    let o = g.F.Source.outside in
    let told_1 = c.write_contents.ensures.stages.same_kind ∙ told in
    let run = tried_then o c.args.folder.now c.write_contents.new.folder c.rehearse.new.folder (c.write_contents.ensures.any_moment told) (c.rehearse.ensures.any_moment told_1) in
    record {
      from = c.write_contents.new.folder;
      to = c.rehearse.new.folder;
      since = (c.write_contents.ensures.any_moment told).moments;
      tried = c.in-Ok.ensures.rehearsed told_1;
      until = started o c.rehearse.new.folder (ChangedWithin (covers stage_name) (covers stage_name) (o.state c.args.folder.now)) (g.met.F.Source.sane.only_now c.rehearse.new.folder) run.now;
    }
