use Rattle.std.proofs.Common.{inl, inr, false, Err, refl, sym, ap, ◌∙◌}
use Rattle.std.specs.Prelude.{codes}
use Rattle.std.proofs.lemmas.Bool.{cases_Bool}
use Rattle.ips_text.specs.declared.refusal.Or.{Or}
use Rattle.ips_text.specs.declared.refusal.Or.TheVariants.{Bad, OutOfMemory}
use Rattle.ips_steps.specs.Private.{records_name}
use Rattle.ips_ways.specs.declared.making.Unmade.{Unmade}
use Rattle.ips_lay.specs.Records.{has_made}
use Rattle.ips_lay.proofs.Recorded.{makes_records}
use Rattle.ips_published.specs.declared.fault.PublishFault.TheVariants.{FolderFault}
use Rattle.ips_published.specs.Answers.{IsUnjudged, IsMadeInPart}
use Rattle.ips_published.proofs.Carried.{ends_of}
use Rattle.ips_published.proofs.Given.{can_records, can_write, clear, gate_shut, goes_as, named, records_stand, two_can}
use Rattle.ips_published.proofs.Later.{stays_same}
use Rattle.ips_published.proofs.Lead.{leads_by}
use Rattle.ips_published.proofs.Roads.{records_are, records_start}
use Rattle.ips_published.proofs.Texts.{is_set}
use Rattle.ips_published.proofs.carrying.carry_out.Goals as goal

pub make_records-requires-clause-can : goal.make_records-requires-clause-can
make_records-requires-clause-can g c = λ told.
    let o = g.F.Source.outside in
    can_records c.args.asked.now c.requires.asked c.requires.plan.0 c.args.plan.now c.requires.plan.1 (o.state c.args.target.now).held (g.met.F.Source.sane.formed c.args.target.now told) (c.requires.free told)

pub write_and_put-requires-clause-can : goal.write_and_put-requires-clause-can
write_and_put-requires-clause-can g c = λ told_now.
    let o = g.F.Source.outside in
    let told = sym c.make_records.ensures.same_kind ∙ told_now in
    can_write c.args.asked.now c.requires.asked c.requires.plan.0 c.args.plan.now c.requires.plan.1 (o.state c.args.target.now).held (o.state c.make_records.new.folder).held (g.met.F.Source.sane.formed c.args.target.now told)
    (g.met.F.Source.sane.formed c.make_records.new.folder told_now) (c.requires.free told) (c.in-Ok.ensures.done told)

pub write_and_put-requires-clause-shut : goal.write_and_put-requires-clause-shut
write_and_put-requires-clause-shut g c = λ told_now.
    let o = g.F.Source.outside in
    let told = sym c.make_records.ensures.same_kind ∙ told_now in
    gate_shut (o.state c.args.target.now).held (o.state c.make_records.new.folder).held (c.in-Ok.ensures.done told) (c.requires.shut told)

pub returns-in-Ok-clause-ends : goal.returns-in-Ok-clause-ends
returns-in-Ok-clause-ends g c = λ told_proto told is put plan judges there.
    let o = g.F.Source.outside in
    let sane = g.met.F.Source.sane in
    let a = c.args.asked.now in
    let p = c.args.plan.now in
    let old = c.args.target.now in
    let mid = c.make_records.new.folder in
    let told_mid = c.make_records.ensures.same_kind ∙ told in
    let t = (o.state old).held in
    let held = c.in-Ok.ensures.done told in
    let formed = sane.formed old told in
    let start = records_start t formed a.publisher a.stem _ (clear a is put p plan t (c.requires.free told)) in
    let stands = records_stand a is put p plan t (o.state mid).held formed (c.requires.free told) held in
    let lead = leads_by o sane old mid c.in-Ok.field-0 (λ made. makes_records o old mid (c.in-Ok.ensures.missing told made)) c.in-Ok.ensures.kept c.in-Ok.ensures.still in
    let can = can_write a is put p plan t (o.state mid).held formed (sane.formed mid told_mid) (c.requires.free told) held in
    let shut = gate_shut t (o.state mid).held held (c.requires.shut told) in
    let goes = c.write_and_put.ensures.goes told_mid (c.write_and_put.ensures.kept told_proto there) in
    ends_of o sane (g.S.Source.outside.state c.args.proto.now).held a is put p.staged.items old (is_set (g.S.Source.outside.state c.args.proto.now).held t a put p plan c.manifests_read_back.ensures.back judges (c.requires.offered told))
    (named a is put p plan) (c.requires.safe told) (c.requires.shut told) judges mid start (c.make_records.ensures.any_moment told) held (c.in-Ok.ensures.safe told) (sane.formed mid told_mid) (stands (codes "var") (inl refl)) (stands records_name (inr (inl records_are))) lead
    (two_can a is put p plan o mid can shut) c.write_and_put.new.target c.write_and_put.result (goes_as a is put p plan o mid c.write_and_put.new.target c.write_and_put.result goes)

pub returns-in-Err-Bad-clause-ends : goal.returns-in-Err-Bad-clause-ends
returns-in-Err-Bad-clause-ends g c = λ told_proto told is put plan judges there.
    let o = g.F.Source.outside in
    let old = c.args.target.now in
    let new = c.make_records.new.folder in
    elim (cases_Bool (has_made c.make_records.result)) [
      | inl begun ↦ IsMadeInPart put judges (record { makes = makes_records o old new (c.make_records.ensures.missing told begun); only = c.make_records.ensures.any_moment told })
      | inr none ↦ IsUnjudged (Err (Bad (FolderFault false))) refl (stays_same o g.met.F.Source.sane old new (c.make_records.ensures.kept none) (c.make_records.ensures.still none))
    ]

pub returns-in-Err-OutOfMemory-clause-ends : goal.returns-in-Err-OutOfMemory-clause-ends
returns-in-Err-OutOfMemory-clause-ends g c = λ told_proto told is put plan judges there.
    let none = ap (λ (e : Or Unmade). has_made (Err e)) c.in-Err-OutOfMemory.field-0-is in
    IsUnjudged (Err OutOfMemory) tt (stays_same g.F.Source.outside g.met.F.Source.sane c.args.target.now c.make_records.new.folder (c.in-Err-OutOfMemory.ensures.kept none) (c.in-Err-OutOfMemory.ensures.still none))
