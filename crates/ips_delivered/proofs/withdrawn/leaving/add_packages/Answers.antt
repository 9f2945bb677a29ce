use Rattle.std.proofs.Common.{◌∷◌, [], ◌<◌, ℕ, not, cond, List, map, take, length, sym, subst, arith}
use Rattle.ips_text.proofs.Lists.{map_item}
use Rattle.ips_manifest.specs.declared.package.Package.{Package}
use Rattle.ips_conflict.specs.Index.{has_path}
use Rattle.ips_state.specs.Records.{package_place}
use Rattle.ips_delivered.specs.withdrawn.Sets.{HasMore, gone_packages}
use Rattle.ips_delivered.proofs.withdrawn.More.{pick_more, same_has}
use Rattle.ips_delivered.proofs.withdrawn.leaving.add_packages.Goals as goal

pub loop-held-init : goal.loop-held-init
loop-held-init c = same_has c.args.gone.now

pub loop-held-preserved : goal.loop-held-preserved
loop-held-preserved c =
    let packages = c.args.packages.now in
    let staying = c.args.staying.now in
    let i = c.loop-held.held-index in
    let lt : i < length packages = omega arith in
    let stem = c.held-item.result.stem in
    let one = subst (λ (b : List ℕ). HasMore c.loop-held.gone c.add_package.new.gone (cond (not (has_path staying b)) (package_place c.args.first b ∷ []) [])) c.as_str.ensures c.in_ok-add_package.ensures in
    subst (λ (l : List (List ℕ)). HasMore c.args.gone.now c.add_package.new.gone (gone_packages c.args.first staying l)) (sym (map_item (λ (p : Package). p.stem) packages i c.held-item.result lt c.held-item.is))
    (pick_more (λ s. not (has_path staying s)) (package_place c.args.first) c.args.gone.now c.loop-held.gone c.add_package.new.gone (map (λ (p : Package). p.stem) (take i packages)) stem c.loop-held.invariant one)
