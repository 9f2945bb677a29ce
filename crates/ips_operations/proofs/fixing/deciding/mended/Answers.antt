use Rattle.std.proofs.Common.{rules}
use Rattle.ips_emit.specs.declared.emitting.Emitted.{Emitted}
use Rattle.ips_operations.proofs.fixing.Decided.{change_planned, repaired_by, some_found, unrepaired_answers, unrepaired_by}
use Rattle.ips_operations.proofs.fixing.deciding.mended.Goals as goal

pub returns-in-Ok-repair-clause-decided : goal.returns-in-Ok-repair-clause-decided
returns-in-Ok-repair-clause-decided g c = λ told a at is_new.
    let t = (g.F.Source.outside.state c.args.folder.now).held in record {
      decided = repaired_by a t c.args.new.now is_new c.args.want.now c.requires.meant (some_found c.args.found.now _ (c.requires.found.are told) c.requires.found.some) c.args.moment c.in-Ok-repair.emitted
          c.in-Ok.publisher c.change_of_steps.result at c.in-Ok.ensures c.change_of_steps.ensures (c.in-Ok-repair.ensures.repaired told) c.in-Ok-repair.ensures.within;
      planned = λ tells repository.
          change_planned c.in-Ok-repair.emitted c.in-Ok.publisher c.change_of_steps.result c.change_of_steps.ensures a c.args.moment c.args.new.now t repository tells at c.in-Ok.ensures is_new
          (c.in-Ok-repair.ensures.stages told) (c.in-Ok-repair.ensures.meant told);
    }

pub returns-in-Err-clause-decided : goal.returns-in-Err-clause-decided
returns-in-Err-clause-decided g c = λ told a at is_new.
    let t = (g.F.Source.outside.state c.args.folder.now).held in record {
      decided = unrepaired_by a t c.args.new.now is_new c.args.want.now c.requires.meant (some_found c.args.found.now _ (c.requires.found.are told) c.requires.found.some) Emitted (g.F.Source.outside.tells c.args.folder.now)
          c.args.moment c.in-Err.fault c.unrepaired.result told at c.unrepaired.ensures.told c.in-Err.ensures.refused;
      planned = search rules;
    }

pub returns-in-Err-clause-answers : goal.returns-in-Err-clause-answers
returns-in-Err-clause-answers g c =
    unrepaired_answers g.F.Source.outside c.args.folder.now c.repair.new.folder c.repair.result c.repair.ensures.reads c.in-Err.fault c.unrepaired.result c.in-Err.is c.unrepaired.ensures.told
    c.unrepaired.ensures.says
