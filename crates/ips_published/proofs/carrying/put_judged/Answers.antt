use Rattle.std.proofs.Common.{List, Err, refl, sym, ap, subst, ◌∙◌}
use Rattle.ips_text.specs.declared.refusal.Or.TheVariants.{OutOfMemory}
use Rattle.ips_digest.specs.declared.name.PayloadName.{PayloadName}
use Rattle.ips_outside.proofs.Reading.{reads_none}
use Rattle.ips_ways.specs.Ways.{IsFree}
use Rattle.ips_sends.specs.Judged as spec
use Rattle.ips_judged.specs.Answers.{put_of}
use Rattle.ips_published.specs.Answers.{IsUnjudged}
use Rattle.ips_published.proofs.Given.{are_there}
use Rattle.ips_published.proofs.Later.{stays_same}
use Rattle.ips_published.proofs.carrying.put_judged.Goals as goal

pub carry_out-requires-clause-plan : goal.carry_out-requires-clause-plan
carry_out-requires-clause-plan g c = (put_of c.args.publication, c.in-Ok.ensures.plan)

pub carry_out-requires-clause-free : goal.carry_out-requires-clause-free
carry_out-requires-clause-free g c = λ told.
    let a = c.args.asked.now in
    subst (λ paths. IsFree (g.F.Source.outside.state c.args.target.now).held paths)
    (c.requires.ways ∙ ap (λ (names : List PayloadName). spec.ways a.publisher a.stem names) c.requires.contents ∙ sym c.in-Ok.ensures.plan.ways) (c.requires.free told)

pub returns-in-Ok-clause-ends : goal.returns-in-Ok-clause-ends
returns-in-Ok-clause-ends g c = λ told_proto told is judges sourced.
    c.carry_out.ensures.ends told_proto told is (put_of c.args.publication) c.in-Ok.ensures.plan judges
    (are_there (g.S.Source.outside.state c.args.proto.now).held c.in-Ok.plan.contents.items c.args.publication.prepared.contents.items c.in-Ok.ensures.sources sourced)

pub returns-in-Err-clause-ends : goal.returns-in-Err-clause-ends
returns-in-Err-clause-ends g c = λ told_proto told is judges sourced.
    IsUnjudged (Err OutOfMemory) tt (stays_same g.F.Source.outside g.met.F.Source.sane c.args.target.now c.args.target.now refl (reads_none g.F.Source.outside c.args.target.now ⊥ (λ f. f)).call.time)
