use Rattle.std.proofs.Common.{◌∙◌, Err, ap, refl, subst}
use Rattle.ips_text.specs.declared.refusal.Or.TheVariants.{Bad}
use Rattle.ips_text.specs.Reading.{IfBad}
use Rattle.ips_outside.specs.Image.{Image}
use Rattle.ips_outside.specs.State.{State}
use Rattle.ips_outside.proofs.Reading.{handed_on, no_fault, reads_then}
use Rattle.ips_filling.specs.declared.filled.ContentFault.TheVariants as fault
use Rattle.ips_sends.specs.Judged.{HasSource}
use Rattle.ips_filling.specs.Filled.{IsLost}
use Rattle.ips_filling.proofs.Found.{found_next, lost_next}
use Rattle.ips_filling.proofs.finding.find_contents.Goals as goal

pub loop-draft-preserved : goal.loop-draft-preserved
loop-draft-preserved g c =
    let inv = c.loop-draft.invariant in
    let kept = ap (λ (s : State). s.held) inv.reads.kept in
    record {
      reads = reads_then g.S.Source.outside c.args.source.now c.loop-draft.source c.find_content.new.source _ ⊥ inv.reads c.find_content.ensures.reads (no_fault c.find_content.result _ (Bad fault.SourceFault) c.in-Ok.is) (λ f. absurd f);
      found = λ told. found_next (g.S.Source.outside.state c.args.source.now).held c.args.drafts.now c.loop-draft.draft-index c.draft-item.result c.loop-draft-test.true c.draft-item.is (inv.found told)
          (subst (λ (t : Image). HasSource t c.draft-item.result) kept (c.in-Ok.ensures.found (inv.reads.call.same_kind ∙ told)));
    }

pub returns-in-Err-clause-lost : goal.returns-in-Err-clause-lost
returns-in-Err-clause-lost g c = λ told.
    let inv = c.loop-draft.invariant in
    let kept = ap (λ (s : State). s.held) inv.reads.kept in
    lost_next (Unit {0}) c.in-Err.fault (g.S.Source.outside.state c.args.source.now).held c.args.drafts.now c.loop-draft.draft-index c.draft-item.result c.loop-draft-test.true c.draft-item.is (inv.found told)
    (subst (λ (t : Image). IfBad {X = Unit {0}} (Err c.in-Err.fault) (IsLost t c.draft-item.result)) kept (c.in-Err.ensures.lost (inv.reads.call.same_kind ∙ told)))

pub returns-in-Err-clause-reads : goal.returns-in-Err-clause-reads
returns-in-Err-clause-reads g c =
    reads_then g.S.Source.outside c.args.source.now c.loop-draft.source c.find_content.new.source _ _ c.loop-draft.invariant.reads c.find_content.ensures.reads
    (λ failed. handed_on _ c.find_content.result c.in-Err.fault (Bad fault.SourceFault) refl c.in-Err.is failed)
    (λ failed. handed_on c.find_content.result _ c.in-Err.fault (Bad fault.SourceFault) c.in-Err.is refl failed)
