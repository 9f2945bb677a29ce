use Rattle.std.proofs.Common.{◌||◌, ℕ, List, Vec, Global, ◌∙◌, ap}
use Rattle.std.specs.List.{list_any}
use Rattle.ips_text.specs.Ancestry.{same_path}
use Rattle.ips_outside.specs.Tearing.{in_set}
use Rattle.ips_folder.proofs.Names.{added}
use Rattle.ips_rehearse.proofs.sets.add.Goals as goal

pub returns : goal.returns
returns c = λ q.
    ap (λ (keys : List (Vec ℕ Global)). list_any (λ k. same_path k.items q) keys) c.in_ok-insert.ensures.keys ∙ added q c.in_ok-key.key c.args.paths.now.keys
    ∙ ap (λ (p : List ℕ). same_path p q || in_set c.args.paths.now q) c.in_ok-key.ensures.items
