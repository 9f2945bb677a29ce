use Rattle.std.proofs.Common.{[], ◌++◌, map, ◌∙◌, ap, subst, arith}
use Rattle.ips_outside.specs.Image.{Image}
use Rattle.ips_outside.specs.State.{State}
use Rattle.ips_outside.proofs.Reading.{reads_then}
use Rattle.ips_after.specs.Findings.{finding_as, with_finding}
use Rattle.ips_change.specs.wanted.Wanted.{wanted_of}
use Rattle.ips_change.specs.wanted.Named.{is_payload_of}
use Rattle.ips_change.specs.content.Failing.{HasFailed}
use Rattle.ips_verify.specs.Verified.{finding_told}
use Rattle.ips_verify.proofs.Listing.{found_next}
use Rattle.ips_verify.proofs.verifying.find.Goals as goal

pub loop-i-preserved : goal.loop-i-preserved
loop-i-preserved g c = record {
  room = omega (arith, c.loop-i.invariant.room, c.add.auto.buffer);
  reads = reads_then g.F.Source.outside c.args.folder.now c.loop-i.folder c.add.new.folder (HasFailed c.add.result) _ c.loop-i.invariant.reads c.add.ensures.reads (λ f. subst (λ (r : _). HasFailed r) c.in_default-add.is f) (λ f. absurd f);
  found = λ told.
      let kept = ap (λ (s : State). s.held) c.loop-i.invariant.reads.kept in
      let p = c.in-Some.path.now.bytes in
      c.in_default-add.ensures.found (c.loop-i.invariant.reads.call.same_kind ∙ told)
      ∙ ap (λ (t : Image). map finding_told c.loop-i.found.items ++ with_finding p (finding_as is_payload_of t p (wanted_of c.in-Some.entry.now)) []) kept
      ∙ found_next c.args.want.now c.loop-i.i p c.in-Some.entry.now c.in-Some.ensures.some is_payload_of (g.F.Source.outside.state c.args.folder.now).held
      (map finding_told c.args.found.now.items) (map finding_told c.loop-i.found.items) c.len-i-end.ensures.in_order (c.loop-i.invariant.found told);
}
