use Rattle.std.proofs.Common.{refl, sym, subst, ◌∙◌}
use Rattle.ips_text.specs.declared.refusal.Or.{Or}
use Rattle.ips_text.specs.Reading.{IfBad}
use Rattle.ips_outside.proofs.Faults.{cause_as, cause_behind}
use Rattle.ips_outside.proofs.Reading.{reads_as}
use Rattle.ips_published.specs.declared.fault.PublishFault.{PublishFault}
use Rattle.ips_published.specs.Ending.{IsUnrefused}
use Rattle.ips_published.specs.Writing.{GoesBeside, GoesPutting, IsLost}
use Rattle.ips_published.proofs.Faults.{ends, stopped_beside, lost_beside, unrefused_beside, source_to, source_from, folder_to, folder_from, put_ending, put_kept, put_unrefused, put_source}
use Rattle.ips_published.proofs.Given.{are_names, are_placed, are_given, have_parents, journal, stays_as, can_put_all}
use Rattle.ips_published.proofs.carrying.write_and_put.Goals as goal

pub write_beside-written-requires-clause-named : goal.write_beside-written-requires-clause-named
write_beside-written-requires-clause-named g c = rw c.as_slice-2.ensures.value (are_names c.args.asked.now.publisher c.args.plan.now.contents.items c.requires.plan.1.placed)

pub write_beside-written-requires-clause-placed : goal.write_beside-written-requires-clause-placed
write_beside-written-requires-clause-placed g c = rw (c.as_str.ensures, c.as_slice-2.ensures.value) (are_placed c.args.asked.now.publisher c.args.plan.now.contents.items c.requires.plan.1.placed)

pub write_beside-written-requires-clause-can : goal.write_beside-written-requires-clause-can
write_beside-written-requires-clause-can g c = λ told. rw c.as_slice.ensures.value (c.requires.can told).can

pub write_beside-written-requires-clause-parents : goal.write_beside-written-requires-clause-parents
write_beside-written-requires-clause-parents g c = λ told.
    rw (c.as_slice.ensures.value, c.as_slice-2.ensures.value) (have_parents c.args.asked.now c.requires.asked c.requires.plan.0 c.args.plan.now c.requires.plan.1 (g.F.Source.outside.state c.args.target.now).held (c.requires.can told))

pub put_texts-requires-clause-lists : goal.put_texts-requires-clause-lists
put_texts-requires-clause-lists g c = journal c.args.asked.now c.requires.asked c.requires.plan.0 c.args.plan.now c.requires.plan.1

pub put_texts-requires-clause-given : goal.put_texts-requires-clause-given
put_texts-requires-clause-given g c = are_given _ _ c.args.plan.now.staged.items c.requires.plan.1.texts

pub put_texts-requires-clause-can : goal.put_texts-requires-clause-can
put_texts-requires-clause-can g c = λ told_now.
    let told = sym c.write_beside-written.ensures.same_kind ∙ told_now in
    can_put_all c.args.asked.now c.requires.asked c.requires.plan.0 c.args.plan.now c.requires.plan.1 (g.F.Source.outside.state c.args.target.now).held (c.requires.can told) g.F.Source.outside c.args.target.now c.write_beside-written.new.target
    refl (c.requires.shut told) ((rw (c.as_str.ensures, c.as_slice.ensures.value, c.as_slice-2.ensures.value) at c.in-Ok.ensures.beside) told) (stays_as c.as_str.result.now c.args.asked.now.publisher (g.F.Source.outside.state c.args.target.now).held (g.F.Source.outside.state c.write_beside-written.new.target).held c.as_slice.result.now c.args.plan.now.ways.items c.as_slice-2.result.now c.args.plan.now.contents.items c.as_str.ensures c.as_slice.ensures.value c.as_slice-2.ensures.value (c.in-Ok.ensures.stays told))

pub returns-in-Ok-clause-goes : goal.returns-in-Ok-clause-goes
returns-in-Ok-clause-goes g c = λ told kept.
    let told_mid = c.write_beside-written.ensures.same_kind ∙ told in
    let safe = c.in-Ok.ensures.safe told in
    GoesPutting c.put_texts.result c.write_beside-written.new.target
    ((rw (c.as_str.ensures, c.as_slice.ensures.value, c.as_slice-2.ensures.value) at c.in-Ok.ensures.beside) told) safe
    (stays_as c.as_str.result.now c.args.asked.now.publisher (g.F.Source.outside.state c.args.target.now).held (g.F.Source.outside.state c.write_beside-written.new.target).held c.as_slice.result.now c.args.plan.now.ways.items c.as_slice-2.result.now c.args.plan.now.contents.items c.as_str.ensures c.as_slice.ensures.value c.as_slice-2.ensures.value (c.in-Ok.ensures.stays told))
    ((rw (c.as_str.ensures, c.as_slice-2.ensures.value) at c.in-Ok.ensures.intact) told)
    (c.put_texts.ensures.puts told_mid safe) (c.put_texts.ensures.nothing told_mid safe) (put_ending c.put_texts.result (c.put_texts.ensures.faults told_mid))

pub returns-in-Err-clause-goes : goal.returns-in-Err-clause-goes
returns-in-Err-clause-goes g c = λ told kept.
    GoesBeside (ends c.unwritten.result)
    (rw c.unwritten.ensures (stopped_beside c.in-Err.fault (subst (λ (e : Or PublishFault). IsLost (ends e) → ⊥) c.unwritten.ensures kept)))
    ((rw (c.as_str.ensures, c.as_slice.ensures.value, c.as_slice-2.ensures.value) at c.in-Err.ensures.beside) told)

pub returns-in-Err-clause-kept : goal.returns-in-Err-clause-kept
returns-in-Err-clause-kept g c = λ told there lost.
    c.in-Err.ensures.kept told (rw c.as_slice-2.ensures.value there) (lost_beside c.in-Err.fault (subst (λ (e : Or PublishFault). IsLost (ends e)) c.unwritten.ensures lost))

pub returns-in-Ok-clause-kept : goal.returns-in-Ok-clause-kept
returns-in-Ok-clause-kept g c = λ told there lost. put_kept c.put_texts.result c.put_texts.ensures.own lost

pub returns-in-Err-clause-unrefused : goal.returns-in-Err-clause-unrefused
returns-in-Err-clause-unrefused g c = subst (λ (e : Or PublishFault). IfBad (ends e) IsUnrefused) (sym c.unwritten.ensures) (unrefused_beside c.in-Err.fault)

pub returns-in-Ok-clause-unrefused : goal.returns-in-Ok-clause-unrefused
returns-in-Ok-clause-unrefused g c = put_unrefused c.put_texts.result c.put_texts.ensures.own

pub returns-in-Err-clause-reads_proto : goal.returns-in-Err-clause-reads_proto
returns-in-Err-clause-reads_proto g c =
    rw c.unwritten.ensures (reads_as g.S.Source.outside c.args.proto.now c.write_beside-written.new.proto _ _ c.in-Err.ensures.reads_proto (source_to c.in-Err.fault) (source_from c.in-Err.fault))

pub returns-in-Ok-clause-reads_proto : goal.returns-in-Ok-clause-reads_proto
returns-in-Ok-clause-reads_proto g c =
    reads_as g.S.Source.outside c.args.proto.now c.write_beside-written.new.proto _ _ c.in-Ok.ensures.reads_proto (λ is. cc) (λ is. absurd (put_source c.put_texts.result c.put_texts.ensures.own is))

pub returns-in-Err-clause-cause : goal.returns-in-Err-clause-cause
returns-in-Err-clause-cause g c = rw c.unwritten.ensures (cause_as _ _ _ _ c.in-Err.ensures.cause (folder_to c.in-Err.fault) (folder_from c.in-Err.fault))

pub returns-in-Ok-clause-cause : goal.returns-in-Ok-clause-cause
returns-in-Ok-clause-cause g c = cause_behind _ _ _ _ _ _ c.in-Ok.ensures.cause (λ is. cc) c.put_texts.ensures.cause (λ h. h) (λ h. h)
