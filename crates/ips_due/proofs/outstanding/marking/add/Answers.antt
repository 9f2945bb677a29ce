use Rattle.std.proofs.Common.{◌∙◌, ap, List, ℕ, Vec, Global, not, ◌||◌}
use Rattle.std.specs.List.{list_any}
use Rattle.ips_action.specs.Attrs.{is_same}
use Rattle.ips_conflict.specs.Index.{has_path}
use Rattle.ips_conflict.proofs.Kept.{any_insert, found_any}
use Rattle.ips_due.proofs.outstanding.marking.add.Goals as goal

pub returns-clause-new : goal.returns-clause-new
returns-clause-new c = c.in_ok-insert.ensures.added ∙ ap not (found_any c.in_ok-key.key.items c.args.keys.now.keys ∙ ap (has_path c.args.keys.now) c.in_ok-key.ensures.items)

pub returns-clause-paths : goal.returns-clause-paths
returns-clause-paths c = λ p.
    ap (λ (ks : List (Vec ℕ Global)). list_any (λ (k : Vec ℕ Global). is_same p k.items) ks) c.in_ok-insert.ensures.keys
    ∙ any_insert c.in_ok-key.key p c.args.keys.now.keys
    ∙ ap (λ (q : List ℕ). is_same p q || has_path c.args.keys.now p) c.in_ok-key.ensures.items
