use Rattle.std.proofs.Common.{◌∙◌, ap, List, ℕ, Some}
use Rattle.std.specs.String.{string_bytes}
use Rattle.std.proofs.lemmas.Map.Text.{btree_map_updates_text}
use Rattle.ips_action.specs.Attrs.{is_same}
use Rattle.ips_index.proofs.Listed.{put_at}
use Rattle.ips_index.proofs.keeping.enter.Goals as goal

pub returns-clause-others : goal.returns-clause-others
returns-clause-others c =
    let key : List ℕ = string_bytes c.in_ok-key.key in
    let put = put_at c.args.stems.now c.insert.new.self key c.args.list (btree_map_updates_text key c.args.stems.now c.insert.new.self (Some c.args.list) c.in_ok-insert.ensures.updates) in
    λ q apart. put.1 q (ap (λ (k : List ℕ). is_same k q) c.in_ok-key.ensures.ok ∙ apart)
