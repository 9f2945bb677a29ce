use Rattle.std.proofs.Common.{◌≡◌, ℕ, List, Option, sym, ap, ◌∙◌}
use Rattle.ips_outside.specs.Tree.{tree_image}
use Rattle.ips_folder.specs.Crash.{without, touch}
use Rattle.ips_folder.proofs.Crashes.{placed_without}
use Rattle.ips_folder.proofs.log.crash.remove_name.Goals as goal

pub returns-in-Some : goal.returns-in-Some
returns-in-Some c =
    let t = tree_image c.args.tree.now in
    c.remove.ensures ∙ placed_without c.in-Some.name.now.bytes t ∙ sym (ap (λ (o : Option (List ℕ)). without (touch o) t) c.in-Some.ensures)
