use Rattle.std.proofs.Common.{◌||◌, ◌∙◌, ap, List, ℕ, Vec, Global}
use Rattle.std.specs.List.{list_any}
use Rattle.ips_action.specs.Attrs.{is_same}
use Rattle.ips_conflict.proofs.Kept.{any_insert}
use Rattle.ips_turnover.proofs.sets.insert.Goals as goal

pub returns : goal.returns
returns c = λ other.
    ap (λ (keys : List (Vec ℕ Global)). list_any (λ k. is_same other k.items) keys) c.in_ok-insert.ensures.keys
    ∙ any_insert c.in_ok-key.key other c.args.set.now.keys
    ∙ ap (λ (text : List ℕ). is_same other text || list_any (λ k. is_same other k.items) c.args.set.now.keys) (c.in_ok-key.ensures.items ∙ c.as_bytes.ensures.value)
