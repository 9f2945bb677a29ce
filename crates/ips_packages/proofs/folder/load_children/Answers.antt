use Rattle.std.proofs.Common.{◌∙◌, refl, ap, subst, map}
use Rattle.std.proofs.lemmas.Result.{err_from_is_err_and}
use Rattle.ips_text.specs.declared.refusal.Or.TheVariants.{Bad}
use Rattle.ips_text.specs.Kept.{Kept}
use Rattle.ips_manifest.specs.declared.package.Package.{Package}
use Rattle.ips_outside.specs.Image.{Image}
use Rattle.ips_outside.specs.State.{State}
use Rattle.ips_outside.proofs.Reading.{handed_on, no_fault, reads_none, reads_then}
use Rattle.ips_state.specs.State.{installed}
use Rattle.ips_state.specs.Form.{IsPackage}
use Rattle.ips_load.specs.Held.{HoldsPackage}
use Rattle.ips_load.specs.Fault.{IsChildFault, IsChildrenFault}
use Rattle.ips_load.specs.declared.fault.StateFault.TheVariants as fault
use Rattle.ips_packages.proofs.Loaded.{all_more, places_more, child_fault}
use Rattle.ips_packages.proofs.Handed.{bad_told}
use Rattle.ips_packages.proofs.folder.load_children.Goals as goal

pub loop-child-init : goal.loop-child-init
loop-child-init g c = record {
  reads = reads_none g.F.Source.outside c.args.folder.now ⊥ (λ f. f);
  places = rw c.requires.empty refl;
  lawful = rw c.requires.empty tt;
  found = λ told. rw c.requires.empty tt;
}

pub loop-child-preserved : goal.loop-child-preserved
loop-child-preserved g c =
    let o = g.F.Source.outside in
    let inv = c.loop-child.invariant in
    let old = c.loop-child.packages.items in
    let p = c.in-Ok.package in
    let same = ap (λ (s : State). s.held) inv.reads.kept in
    record {
      reads = reads_then o c.args.folder.now c.loop-child.folder c.load_child.new.folder _ ⊥ inv.reads c.load_child.ensures.reads
          (no_fault c.load_child.result p (Bad fault.FolderFault) c.in-Ok.is) (λ f. absurd f);
      places = places_more c.args.children.now c.loop-child.child-index c.child-item.result old c.push.new.self.items p c.loop-child-test.true c.child-item.is c.in_ok-push.ensures.items inv.places c.in-Ok.ensures.place;
      lawful = all_more IsPackage old c.push.new.self.items p c.in_ok-push.ensures.items inv.lawful c.in-Ok.ensures.lawful;
      found = λ told. all_more (HoldsPackage (o.state c.args.folder.now).held) old c.push.new.self.items p c.in_ok-push.ensures.items (inv.found told)
          (subst (λ (t : Image). HoldsPackage t (installed p)) same (c.in-Ok.ensures.found (inv.reads.call.same_kind ∙ told)));
    }

pub returns-in-Err-clause-fault : goal.returns-in-Err-clause-fault
returns-in-Err-clause-fault g c = λ told.
    let o = g.F.Source.outside in
    let inv = c.loop-child.invariant in
    let same = ap (λ (s : State). s.held) inv.reads.kept in
    bad_told Package (Unit {0}) c.in-Err.fault (IsChildFault (o.state c.loop-child.folder).held c.child-item.result.bytes) (IsChildrenFault (o.state c.args.folder.now).held (map (λ (p : Kept). p.bytes) c.args.children.now)) (λ f bad. child_fault (o.state c.args.folder.now).held c.args.children.now c.loop-child.child-index c.child-item.result (map installed c.loop-child.packages.items) f c.loop-child-test.true c.child-item.is inv.places inv.lawful (inv.found told)
    (subst (λ (t : Image). IsChildFault t c.child-item.result.bytes f) same bad)) (c.in-Err.ensures.fault (inv.reads.call.same_kind ∙ told))

pub returns-in-Err-clause-reads : goal.returns-in-Err-clause-reads
returns-in-Err-clause-reads g c =
    reads_then g.F.Source.outside c.args.folder.now c.loop-child.folder c.load_child.new.folder _ _ c.loop-child.invariant.reads c.load_child.ensures.reads
    (λ failed. handed_on _ c.load_child.result c.in-Err.fault (Bad fault.FolderFault) refl c.in-Err.is failed)
    (λ failed. handed_on c.load_child.result _ c.in-Err.fault (Bad fault.FolderFault) c.in-Err.is refl failed)

pub returns-in_err-push-clause-reads : goal.returns-in_err-push-clause-reads
returns-in_err-push-clause-reads g c =
    let left = err_from_is_err_and c.from_residual.result c.from_residual.ensures.1 in
    reads_then g.F.Source.outside c.args.folder.now c.loop-child.folder c.load_child.new.folder _ _ c.loop-child.invariant.reads c.load_child.ensures.reads
    (λ failed. absurd (no_fault c.load_child.result c.in-Ok.package (Bad fault.FolderFault) c.in-Ok.is failed))
    (λ failed. absurd (cc (left.1, left.2)))
