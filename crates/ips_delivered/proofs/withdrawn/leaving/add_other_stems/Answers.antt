use Rattle.std.proofs.Common.{map, subst}
use Rattle.std.proofs.lemmas.Result.{on_ok_weaker}
use Rattle.ips_manifest.specs.declared.package.Package.{Package}
use Rattle.ips_delivered.specs.withdrawn.Sets.{HasMore, gone_packages}
use Rattle.ips_delivered.proofs.withdrawn.Going.{packages_go}
use Rattle.ips_delivered.proofs.withdrawn.leaving.add_other_stems.Goals as goal

pub returns : goal.returns
returns c =
    let old = c.args.old.now in
    let staying = c.in_ok-staying.staying in
    on_ok_weaker {P = HasMore c.args.gone.now c.add_packages.new.gone (gone_packages c.args.first staying (map (λ (p : Package). p.stem) old))} c.add_packages.result
    (λ h. subst (HasMore c.args.gone.now c.add_packages.new.gone) (packages_go c.args.first staying old c.args.new.now c.in_ok-staying.ensures) h) c.add_packages.ensures
