use Rattle.std.proofs.Common.{Err, ◌∙◌, ap}
use Rattle.ips_journal.specs.declared.fault.StepFault.{StepFault}
use Rattle.ips_commit.proofs.Rolls.{roll_owed, roll_line, roll_finished, roll_cut, roll_shut, roll_stuck, roll_can, roll_counted, roll_done, roll_marks, roll_number}
use Rattle.ips_commit.proofs.rolling.roll.Goals as goal

pub returns-in-Err-FolderFault-clause-owed : goal.returns-in-Err-FolderFault-clause-owed
returns-in-Err-FolderFault-clause-owed g c = λ told steps b a due is_open begins.
    roll_owed g.F.Source.outside c.args.first c.args.folder.now c.lay_marked.new.folder told (c.requires.way told) c.args.reader.now c.lay_marked.new.reader _ _ c.lay_marked.result c.lay_marked.ensures.lays steps begins a is_open b due

pub returns-in-Err-BadJournal-clause-owed : goal.returns-in-Err-BadJournal-clause-owed
returns-in-Err-BadJournal-clause-owed g c = λ told steps b a due is_open begins.
    roll_owed g.F.Source.outside c.args.first c.args.folder.now c.lay_marked.new.folder told (c.requires.way told) c.args.reader.now c.lay_marked.new.reader _ _ c.lay_marked.result c.lay_marked.ensures.lays steps begins a is_open b due

pub returns-in-Err-BadJournal-clause-meant : goal.returns-in-Err-BadJournal-clause-meant
returns-in-Err-BadJournal-clause-meant g c = λ told steps a is_open begins.
    absurd (roll_line g.F.Source.outside c.args.first c.args.folder.now c.lay_marked.new.folder told (c.requires.way told) c.args.reader.now c.lay_marked.new.reader _ _ c.lay_marked.result c.lay_marked.ensures.lays steps begins a is_open
    c.in-Err-BadJournal.line (c.in-Err-BadJournal.is ∙ ap (λ (e : StepFault). Err e) c.in-Err-BadJournal.field-0-is))

pub returns-in-Err-BadJournal-clause-refused : goal.returns-in-Err-BadJournal-clause-refused
returns-in-Err-BadJournal-clause-refused g c = λ told steps is begins.
    roll_stuck g.F.Source.outside c.args.first c.args.folder.now c.lay_marked.new.folder told (c.requires.way told) c.args.reader.now c.lay_marked.new.reader _ _ c.lay_marked.result c.lay_marked.ensures.lays steps begins is
    c.in-Err-BadJournal.line (c.in-Err-BadJournal.is ∙ ap (λ (e : StepFault). Err e) c.in-Err-BadJournal.field-0-is)

pub returns-in_default-clause-owed : goal.returns-in_default-clause-owed
returns-in_default-clause-owed g c = λ told steps b a due is_open begins.
    roll_finished g.F.Source.outside c.args.first c.args.folder.now c.lay_marked.new.folder told (c.requires.way told) c.args.reader.now c.lay_marked.new.reader _ _ c.lay_marked.result c.lay_marked.ensures.lays steps begins a is_open c.in-Ok.laid c.in-Ok.is
    c.finish.new.folder b due (c.finish.ensures.owed (c.lay_marked.ensures.same_kind ∙ told))

pub returns-clause-owed : goal.returns-clause-owed
returns-clause-owed g c = λ told steps b a due is_open begins.
    roll_finished g.F.Source.outside c.args.first c.args.folder.now c.lay_marked.new.folder told (c.requires.way told) c.args.reader.now c.lay_marked.new.reader _ _ c.lay_marked.result c.lay_marked.ensures.lays steps begins a is_open c.in-Ok.laid c.in-Ok.is
    c.finish.new.folder b due (c.finish.ensures.owed (c.lay_marked.ensures.same_kind ∙ told))

pub returns-clause-done : goal.returns-clause-done
returns-clause-done g c = λ told steps is begins.
    let o = g.F.Source.outside in
    let way = c.requires.way told in (
      roll_number o c.args.first c.args.folder.now c.lay_marked.new.folder told way c.args.reader.now c.lay_marked.new.reader _ _ c.lay_marked.result c.lay_marked.ensures.lays steps begins is c.in-Ok.laid c.in-Ok.is,
      roll_can o c.args.first c.args.folder.now c.lay_marked.new.folder told way c.args.reader.now c.lay_marked.new.reader _ _ c.lay_marked.result c.lay_marked.ensures.lays steps begins is c.in-Ok.laid c.in-Ok.is,
      roll_done o c.args.first c.args.folder.now c.lay_marked.new.folder told way c.args.reader.now c.lay_marked.new.reader _ _ c.lay_marked.result c.lay_marked.ensures.lays steps begins is c.in-Ok.laid c.in-Ok.is c.finish.new.folder
          (c.in-Ok-finish.ensures.done (c.lay_marked.ensures.same_kind ∙ told)
          (roll_marks o c.args.first c.args.folder.now c.lay_marked.new.folder told way c.args.reader.now c.lay_marked.new.reader _ _ c.lay_marked.result c.lay_marked.ensures.lays steps begins is c.in-Ok.laid c.in-Ok.is)),
      roll_counted o c.args.first c.args.folder.now c.lay_marked.new.folder told way c.args.reader.now c.lay_marked.new.reader _ _ c.lay_marked.result c.lay_marked.ensures.lays steps begins is c.in-Ok.laid c.in-Ok.is,
    )

pub returns-in-Err-FolderFault-clause-stopped : goal.returns-in-Err-FolderFault-clause-stopped
returns-in-Err-FolderFault-clause-stopped g c = λ told steps is begins unfinished.
    roll_cut g.F.Source.outside c.args.first c.args.folder.now c.lay_marked.new.folder told (c.requires.way told) c.args.reader.now c.lay_marked.new.reader _ _ c.lay_marked.result c.lay_marked.ensures.lays steps begins is
    (c.in-Err-FolderFault.is ∙ ap (λ (e : StepFault). Err e) c.in-Err-FolderFault.field-0-is)

pub returns-in-Err-BadJournal-clause-stopped : goal.returns-in-Err-BadJournal-clause-stopped
returns-in-Err-BadJournal-clause-stopped g c = λ told steps is begins unfinished. cc

pub returns-in_default-clause-stopped : goal.returns-in_default-clause-stopped
returns-in_default-clause-stopped g c = λ told steps is begins unfinished.
    let told_1 = c.lay_marked.ensures.same_kind ∙ told in
    roll_shut g.F.Source.outside c.args.first c.args.folder.now c.lay_marked.new.folder told (c.requires.way told) c.args.reader.now c.lay_marked.new.reader _ _ c.lay_marked.result c.lay_marked.ensures.lays steps begins is c.in-Ok.laid c.in-Ok.is
    c.finish.new.folder (c.in_default.ensures.left told_1) (c.finish.ensures.any_moment told_1)
