use Rattle.std.proofs.Common.{Global, Vec}
use Rattle.ips_text.specs.declared.refusal.Or.TheVariants.{Bad}
use Rattle.ips_outside.proofs.Reading.{no_fault, reads_as, reads_none}
use Rattle.ips_filling.specs.declared.filled.Filled.{Filled}
use Rattle.ips_judged.specs.declared.verdict.Publication.{Publication}
use Rattle.ips_judged.specs.declared.verdict.JudgeFault.TheVariants as fault
use Rattle.ips_judged.proofs.Dues.{not_of_target}
use Rattle.ips_judged.proofs.Assembled.{entries_of, sourced_all}
use Rattle.ips_judged.proofs.Ends.{untaken_says, of_contents, of_sources, none_of_proto}
use Rattle.ips_judged.proofs.building.publication.Goals as goal

pub of_filled-requires-clause-entries : goal.of_filled-requires-clause-entries
of_filled-requires-clause-entries g c = entries_of c.args.drafts.items c.in-Ok.filled.items c.in-Ok.ensures.placed

pub returns-in-Ok-clause-publishes : goal.returns-in-Ok-clause-publishes
returns-in-Ok-clause-publishes g c = λ told told_target passed.
    c.of_filled.ensures.publishes told_target (g.S.Source.outside.state c.args.proto.now).held (record { drafts = c.args.drafts.items; passed = passed; filling = c.in-Ok.ensures.filled told })

pub returns-in-Ok-clause-refused : goal.returns-in-Ok-clause-refused
returns-in-Ok-clause-refused g c = λ told told_target passed.
    c.of_filled.ensures.refused told_target (g.S.Source.outside.state c.args.proto.now).held (record { drafts = c.args.drafts.items; passed = passed; filling = c.in-Ok.ensures.filled told })

pub returns-in-Ok-clause-names : goal.returns-in-Ok-clause-names
returns-in-Ok-clause-names g c = of_contents c.of_filled.result c.in-Ok.filled.items c.of_filled.ensures.same (entries_of c.args.drafts.items c.in-Ok.filled.items c.in-Ok.ensures.placed)

pub returns-in-Ok-clause-sourced : goal.returns-in-Ok-clause-sourced
returns-in-Ok-clause-sourced g c = λ told.
    let proto = (g.S.Source.outside.state c.args.proto.now).held in
    of_sources proto c.of_filled.result c.in-Ok.filled.items c.of_filled.ensures.same (sourced_all proto c.args.drafts.items c.in-Ok.filled.items (c.in-Ok.ensures.filled told) c.in-Ok.ensures.placed)

pub returns-in-Ok-clause-reads_proto : goal.returns-in-Ok-clause-reads_proto
returns-in-Ok-clause-reads_proto g c =
    reads_as g.S.Source.outside c.args.proto.now c.take_in.new.proto _ _ c.take_in.ensures.reads (λ failed. absurd (no_fault c.take_in.result c.in-Ok.filled (Bad fault.SourceFault) c.in-Ok.is failed))
    (λ failed. absurd (none_of_proto Publication c.of_filled.result c.of_filled.ensures.own failed))

pub returns-in-Err-clause-refused : goal.returns-in-Err-clause-refused
returns-in-Err-clause-refused g c = λ told told_target passed.
    let proto = (g.S.Source.outside.state c.args.proto.now).held in
    let t = (g.F.Source.outside.state c.args.target.now).held in
    untaken_says proto t c.args.asked.now c.args.repo.now.catalog c.args.drafts.items passed (Vec Filled Global) Publication c.in-Err.fault (c.in-Err.ensures.refused told)

pub returns-in-Err-clause-reads : goal.returns-in-Err-clause-reads
returns-in-Err-clause-reads g c = reads_none g.F.Source.outside c.args.target.now _ (not_of_target (Vec Filled Global) Publication c.in-Err.fault c.in-Err.ensures.own)
