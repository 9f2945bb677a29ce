use Rattle.std.proofs.Common.{◌∙◌, ◌∷◌, [], ◌<◌, ℕ, List, map, take, take_all, length, sym, subst, arith}
use Rattle.ips_text.proofs.Lists.{map_item}
use Rattle.ips_manifest.specs.declared.package.Package.{Package}
use Rattle.ips_delivered.specs.withdrawn.Sets.{HasJust, HasMore}
use Rattle.ips_delivered.proofs.withdrawn.More.{just_more}
use Rattle.ips_delivered.proofs.withdrawn.staying.stems.Goals as goal

pub loop-held-preserved : goal.loop-held-preserved
loop-held-preserved c =
    let packages = c.args.packages.now in
    let i = c.loop-held.held-index in
    let lt : i < length packages = omega arith in
    let stem = c.held-item.result.stem in
    let one = subst (λ (b : List ℕ). HasMore c.loop-held.stems c.add.new.set (b ∷ [])) (c.as_bytes.ensures.value ∙ c.as_str.ensures) c.in_ok-add.ensures in
    subst (HasJust c.add.new.set) (sym (map_item (λ (p : Package). p.stem) packages i c.held-item.result lt c.held-item.is))
    (just_more c.loop-held.stems c.add.new.set (map (λ (p : Package). p.stem) (take i packages)) (stem ∷ []) c.loop-held.invariant one)

pub returns : goal.returns
returns c = subst (λ (l : List Package). HasJust c.loop-held.stems (map (λ (p : Package). p.stem) l)) (take_all c.loop-held.held-index c.args.packages.now (omega arith)) c.loop-held.invariant
