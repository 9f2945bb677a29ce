use Rattle.std.proofs.Common.{◌∙◌, List, ap, map, subst, sym}
use Rattle.ips_fmri.specs.declared.fmri.Fmri.{Fmri}
use Rattle.ips_manifest.specs.declared.package.Package.{Package}
use Rattle.ips_state.specs.State.{Installed, installed}
use Rattle.ips_request.proofs.StemLists.{AreDistinct}
use Rattle.ips_request.proofs.Subjects.{ascending_distinct}
use Rattle.ips_request.proofs.making.made.Goals as goal

pub invariant_of-result : goal.invariant_of-result
invariant_of-result c =
    let stems = λ (fs : List Fmri). map (λ (f : Fmri). f.stem) fs in
    let frozen = c.in_ok-frozen.ensures ∙ ap stems c.deref-3.ensures.value in
    record {
      packages_known = c.in_ok-packages.ensures ∙ ap (λ (ps : List Package). map (λ (p : Installed). p.stem) (map installed ps)) c.deref.ensures.value;
      avoided_known = c.in_ok-avoided.ensures ∙ c.deref-2.ensures.value;
      frozen_known = frozen;
      one_freeze = subst AreDistinct (sym frozen) (ascending_distinct (stems c.args.state.now.freeze.items) c.requires.freeze);
    }
