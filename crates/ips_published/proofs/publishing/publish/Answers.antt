use Rattle.std.proofs.Common.{◌≡◌, List, Ok, sym, ap, subst, ◌∙◌}
use Rattle.ips_text.specs.declared.refusal.Or.{Or}
use Rattle.std.specs.List.{AllByRecursion}
use Rattle.ips_outside.specs.Children.{path_bytes}
use Rattle.ips_outside.specs.Image.{Image}
use Rattle.ips_outside.specs.State.{State, IsSettled}
use Rattle.ips_steps.specs.Private.{gate_name}
use Rattle.ips_catalog.specs.Listed.{Listed}
use Rattle.ips_repo.specs.Opening.{IsOffered, opening}
use Rattle.ips_ways.specs.Ways.{IsFree}
use Rattle.ips_sends.specs.Judged.{Judges, Publish}
use Rattle.ips_prepare.specs.Prepared.{IsSourced}
use Rattle.ips_judged.specs.Answers.{asked_of, put_of}
use Rattle.ips_outside.proofs.Faults.{cause_as, cause_behind}
use Rattle.ips_outside.proofs.Reading.{reads_as, reads_then}
use Rattle.ips_published.specs.declared.fault.PublishFault.{PublishFault}
use Rattle.ips_published.specs.Ending.{IsRefusal}
use Rattle.ips_published.specs.Answers.{Ends}
use Rattle.ips_published.proofs.Faults.{ends, ends_unjudged, any_bad, not_refused, judge_source_to, judge_source_from, judge_folder_to, judge_folder_from}
use Rattle.ips_published.proofs.Later.{stays_same, ends_later}
use Rattle.ips_published.proofs.publishing.publish.Goals as goal

pub returns-in-Err-clause-ends : goal.returns-in-Err-clause-ends
returns-in-Err-clause-ends g c = λ told_proto told is.
    let o = g.F.Source.outside in
    subst (λ (e : Or PublishFault). Ends o (g.S.Source.outside.state c.args.proto.now).held c.args.asked.now is c.args.target.now c.judged.new.target (ends e)) (sym c.unjudged.ensures)
    (ends_unjudged o (g.S.Source.outside.state c.args.proto.now).held c.args.asked.now is c.args.target.now c.judged.new.target (Unit {0}) c.in-Err.fault (c.in-Err.ensures.refused told_proto told)
    (stays_same o g.met.F.Source.sane c.args.target.now c.judged.new.target c.judged.ensures.reads.kept c.judged.ensures.reads.call.time))

pub returns-in-Err-clause-refused : goal.returns-in-Err-clause-refused
returns-in-Err-clause-refused g c =
    let o = g.F.Source.outside in
    any_bad (ends c.unjudged.result) (λ why. IsRefusal why → o.changes c.judged.new.target ≡ o.changes c.args.target.now) (λ why refusal. c.judged.ensures.reads.none_made)

pub returns-in-Err-clause-reads_proto : goal.returns-in-Err-clause-reads_proto
returns-in-Err-clause-reads_proto g c =
    rw c.unjudged.ensures (reads_as g.S.Source.outside c.args.proto.now c.judged.new.proto _ _ c.in-Err.ensures.reads_proto (judge_source_to _ c.in-Err.fault) (judge_source_from _ c.in-Err.fault))

pub returns-in-Err-clause-cause : goal.returns-in-Err-clause-cause
returns-in-Err-clause-cause g c = rw c.unjudged.ensures (cause_as _ _ _ _ c.in-Err.ensures.reads.call.cause (judge_folder_to _ c.in-Err.fault) (judge_folder_from _ c.in-Err.fault))

pub put_judged-requires-clause-free : goal.put_judged-requires-clause-free
put_judged-requires-clause-free g c = λ told_now.
    let told = sym c.judged.ensures.reads.call.same_kind ∙ told_now in
    subst (λ (s : State). IsFree s.held (path_bytes c.in-Ok.publication.ways.items)) (sym c.judged.ensures.reads.kept) (c.in-Ok.ensures.free told)

pub put_judged-requires-clause-offered : goal.put_judged-requires-clause-offered
put_judged-requires-clause-offered g c = λ told_now.
    let told = sym c.judged.ensures.reads.call.same_kind ∙ told_now in
    subst (λ (s : State). (catalog : List Listed) → opening c.args.asked.now.publisher s.held ≡ Ok catalog → IsOffered catalog) (sym c.judged.ensures.reads.kept) (c.in-Ok.ensures.offered told)

pub put_judged-requires-clause-safe : goal.put_judged-requires-clause-safe
put_judged-requires-clause-safe g c = λ told_now. subst IsSettled (sym c.judged.ensures.reads.kept) (c.requires.safe (sym c.judged.ensures.reads.call.same_kind ∙ told_now))

pub put_judged-requires-clause-shut : goal.put_judged-requires-clause-shut
put_judged-requires-clause-shut g c = λ told_now. ap (λ (s : State). s.held.look gate_name) c.judged.ensures.reads.kept ∙ c.requires.shut (sym c.judged.ensures.reads.call.same_kind ∙ told_now)

pub returns-in-Ok-clause-ends : goal.returns-in-Ok-clause-ends
returns-in-Ok-clause-ends g c = λ told_proto told is.
    let o = g.F.Source.outside in
    let so = g.S.Source.outside in
    let a = c.args.asked.now in
    let old = c.args.target.now in
    let mid = c.judged.new.target in
    let proto = (so.state c.args.proto.now).held in
    let same_proto = ap (λ (s : State). s.held) c.judged.ensures.reads_proto.kept in
    let told_mid = c.judged.ensures.reads.call.same_kind ∙ told in
    let judges = subst (λ (s : State). Judges proto s.held (asked_of a) (Publish (put_of c.in-Ok.publication))) (sym c.judged.ensures.reads.kept) (c.in-Ok.ensures.publishes told_proto told) in
    let put = c.put_judged.ensures.ends (c.judged.ensures.reads_proto.call.same_kind ∙ told_proto) told_mid is
    (subst (λ (t : Image). Judges t (o.state mid).held (asked_of a) (Publish (put_of c.in-Ok.publication))) (sym same_proto) judges)
    (subst (λ (t : Image). AllByRecursion (IsSourced t) c.in-Ok.publication.prepared.contents.items) (sym same_proto) (c.in-Ok.ensures.sourced told_proto)) in
    ends_later o g.met.F.Source.sane old mid _ c.judged.ensures.reads proto a is c.put_judged.new.target c.put_judged.result
    (subst (λ (t : Image). Ends o t a is mid c.put_judged.new.target c.put_judged.result) same_proto put)

pub returns-in-Ok-clause-refused : goal.returns-in-Ok-clause-refused
returns-in-Ok-clause-refused g c = not_refused _ c.put_judged.result c.put_judged.ensures.unrefused

pub returns-in-Ok-clause-reads_proto : goal.returns-in-Ok-clause-reads_proto
returns-in-Ok-clause-reads_proto g c =
    reads_then g.S.Source.outside c.args.proto.now c.judged.new.proto c.put_judged.new.proto _ _ (reads_as g.S.Source.outside c.args.proto.now c.judged.new.proto _ ⊥ c.in-Ok.ensures.reads_proto (λ is. cc) (λ f. absurd f)) c.put_judged.ensures.reads_proto (λ h. h) (λ h. h)

pub returns-in-Ok-clause-cause : goal.returns-in-Ok-clause-cause
returns-in-Ok-clause-cause g c = cause_behind _ _ _ _ _ _ c.in-Ok.ensures.reads.call.cause (λ is. cc) c.put_judged.ensures.cause (λ h. h) (λ h. h)
