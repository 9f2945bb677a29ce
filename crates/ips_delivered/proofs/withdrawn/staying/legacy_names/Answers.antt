use Rattle.std.proofs.Common.{◌∷◌, [], ◌<◌, ℕ, List, length, arith, subst}
use Rattle.ips_due.specs.Delivered.{Legacy}
use Rattle.ips_delivered.specs.delivered.Named.{legacy_told}
use Rattle.ips_delivered.specs.withdrawn.Sets.{HasMore}
use Rattle.ips_delivered.proofs.withdrawn.More.{just_told}
use Rattle.ips_delivered.proofs.withdrawn.staying.legacy_names.Goals as goal

pub loop-one-preserved : goal.loop-one-preserved
loop-one-preserved c =
    let legacy = c.args.legacy.now in
    let i = c.loop-one.one-index in
    let lt : i < length legacy = omega arith in
    just_told legacy_told (λ (g : Legacy). g.pkg) c.loop-one.names c.add.new.set legacy i c.one-item.result lt c.one-item.is c.loop-one.invariant
    (subst (λ (b : List ℕ). HasMore c.loop-one.names c.add.new.set (b ∷ [])) c.as_bytes.ensures.value c.in_ok-add.ensures)
