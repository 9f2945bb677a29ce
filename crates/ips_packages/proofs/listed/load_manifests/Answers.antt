use Rattle.std.proofs.Common.{◌∙◌, refl, ap, subst, map}
use Rattle.std.proofs.lemmas.Result.{err_from_is_err_and}
use Rattle.ips_text.specs.declared.refusal.Or.TheVariants.{Bad}
use Rattle.ips_manifest.specs.declared.package.Package.{Package}
use Rattle.ips_outside.specs.Image.{Image}
use Rattle.ips_outside.specs.State.{State}
use Rattle.ips_outside.proofs.Reading.{handed_on, no_fault, reads_none, reads_then}
use Rattle.ips_state.specs.State.{installed}
use Rattle.ips_state.specs.Form.{IsPackage}
use Rattle.ips_state.specs.Records.{manifest_path}
use Rattle.ips_load.specs.Held.{HoldsManifest}
use Rattle.ips_load.specs.Fault.{IsBadManifest, IsFileFault}
use Rattle.ips_load.specs.declared.fault.StateFault.TheVariants as fault
use Rattle.ips_packages.proofs.Loaded.{all_more, names_more, manifest_fault}
use Rattle.ips_packages.proofs.Handed.{bad_told}
use Rattle.ips_packages.proofs.listed.load_manifests.Goals as goal

pub loop-name-init : goal.loop-name-init
loop-name-init g c = record {
  reads = reads_none g.F.Source.outside c.args.folder.now ⊥ (λ f. f);
  names = rw c.requires.empty refl;
  lawful = rw c.requires.empty tt;
  found = λ told. rw c.requires.empty tt;
}

pub loop-name-preserved : goal.loop-name-preserved
loop-name-preserved g c =
    let o = g.F.Source.outside in
    let inv = c.loop-name.invariant in
    let old = c.loop-name.packages.items in
    let p = c.in-Ok.package in
    let same = ap (λ (s : State). s.held) inv.reads.kept in
    record {
      reads = reads_then o c.args.folder.now c.loop-name.folder c.load_listed.new.folder _ ⊥ inv.reads c.load_listed.ensures.reads
          (no_fault c.load_listed.result p (Bad fault.FolderFault) c.in-Ok.is) (λ f. absurd f);
      names = names_more c.args.names.now c.loop-name.name-index c.name-item.result old c.push.new.self.items p c.loop-name-test.true c.name-item.is c.in_ok-push.ensures.items inv.names c.in-Ok.ensures.name;
      lawful = all_more IsPackage old c.push.new.self.items p c.in_ok-push.ensures.items inv.lawful c.in-Ok.ensures.lawful;
      found = λ told. all_more (HoldsManifest (o.state c.args.folder.now).held) old c.push.new.self.items p c.in_ok-push.ensures.items (inv.found told)
          (subst (λ (t : Image). HoldsManifest t (installed p)) same (c.in-Ok.ensures.found (inv.reads.call.same_kind ∙ told)));
    }

pub returns-in-Err-clause-fault : goal.returns-in-Err-clause-fault
returns-in-Err-clause-fault g c = λ told.
    let o = g.F.Source.outside in
    let inv = c.loop-name.invariant in
    let same = ap (λ (s : State). s.held) inv.reads.kept in
    bad_told Package (Unit {0}) c.in-Err.fault _ _ (λ f bad. manifest_fault (o.state c.args.folder.now).held c.args.names.now c.loop-name.name-index c.name-item.result (map installed c.loop-name.packages.items) f c.loop-name-test.true c.name-item.is inv.names (inv.found told)
    (subst (λ (t : Image). IsFileFault IsBadManifest t (manifest_path c.name-item.result.stem) f) same bad)) (c.in-Err.ensures.fault (inv.reads.call.same_kind ∙ told))

pub returns-in-Err-clause-reads : goal.returns-in-Err-clause-reads
returns-in-Err-clause-reads g c =
    reads_then g.F.Source.outside c.args.folder.now c.loop-name.folder c.load_listed.new.folder _ _ c.loop-name.invariant.reads c.load_listed.ensures.reads
    (λ failed. handed_on _ c.load_listed.result c.in-Err.fault (Bad fault.FolderFault) refl c.in-Err.is failed)
    (λ failed. handed_on c.load_listed.result _ c.in-Err.fault (Bad fault.FolderFault) c.in-Err.is refl failed)

pub returns-in_err-push-clause-reads : goal.returns-in_err-push-clause-reads
returns-in_err-push-clause-reads g c =
    let left = err_from_is_err_and c.from_residual.result c.from_residual.ensures.1 in
    reads_then g.F.Source.outside c.args.folder.now c.loop-name.folder c.load_listed.new.folder _ _ c.loop-name.invariant.reads c.load_listed.ensures.reads
    (λ failed. absurd (no_fault c.load_listed.result c.in-Ok.package (Bad fault.FolderFault) c.in-Ok.is failed))
    (λ failed. absurd (cc (left.1, left.2)))
