use Rattle.std.proofs.Common.{nat_cmp, sym, rules}
use Rattle.std.specs.Cmp.Lexicographic.{slice_cmp}
use Rattle.std.proofs.lemmas.Fn.{always_returns_same}
use Rattle.ips_manifest.specs.declared.package.Package.{Package}
use Rattle.ips_plan_limits.proofs.Searched.{found_at, not_found, searchable}
use Rattle.ips_plan_limits.proofs.counting.version_in.Goals as goal

pub returns-in-Ok : goal.returns-in-Ok
returns-in-Ok c =
    let at = c.in-Ok.ensures.position (λ (n : Package). slice_cmp nat_cmp n.stem c.args.stem.now) (always_returns_same _ _ _ (λ a r q k. (search rules, search rules))) in
    sym (found_at c.args.packages.now c.args.stem.now c.in-Ok.i c.index-packages-i.result c.requires c.in-Ok.ensures.bound (at c.index-packages-i.result))

pub returns-in-Err : goal.returns-in-Err
returns-in-Err c =
    let at = c.in-Err.ensures.position (λ (n : Package). slice_cmp nat_cmp n.stem c.args.stem.now) (always_returns_same _ _ _ (λ a r q k. (search rules, search rules))) in
    sym (not_found c.args.packages.now c.args.stem.now c.in-Err.field-0 (at (searchable c.args.packages.now c.args.stem.now c.requires)))
