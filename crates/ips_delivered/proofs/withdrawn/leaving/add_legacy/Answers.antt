use Rattle.std.proofs.Common.{◌<◌, List, not, map, take, length, sym, subst, arith}
use Rattle.ips_text.proofs.Lists.{map_item}
use Rattle.ips_conflict.specs.Index.{has_path}
use Rattle.ips_due.specs.Delivered.{Legacy, legacy_folder}
use Rattle.ips_delivered.specs.delivered.Named.{legacy_told}
use Rattle.ips_delivered.specs.withdrawn.Sets.{HasMore, gone_legacy}
use Rattle.ips_delivered.proofs.withdrawn.More.{pick_more, same_has}
use Rattle.ips_delivered.proofs.withdrawn.leaving.add_legacy.Goals as goal

pub loop-one-init : goal.loop-one-init
loop-one-init c = same_has c.args.gone.now

pub loop-one-preserved : goal.loop-one-preserved
loop-one-preserved c =
    let legacy = c.args.legacy.now in
    let staying = c.args.staying.now in
    let i = c.loop-one.one-index in
    let lt : i < length legacy = omega arith in
    subst (λ (l : List Legacy). HasMore c.args.gone.now c.add_folder.new.gone (gone_legacy staying l)) (sym (map_item legacy_told legacy i c.one-item.result lt c.one-item.is))
    (pick_more (λ (g : Legacy). not (has_path staying g.pkg)) (λ (g : Legacy). legacy_folder g.pkg) c.args.gone.now c.loop-one.gone c.add_folder.new.gone (map legacy_told (take i legacy)) (legacy_told c.one-item.result) c.loop-one.invariant c.in_ok-add_folder.ensures)
