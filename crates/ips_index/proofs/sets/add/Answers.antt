use Rattle.std.proofs.Common.{◌≡◌, ◌∙◌, ap, subst, List, ℕ, Some, cond}
use Rattle.std.specs.String.{string_bytes}
use Rattle.std.specs.BTreeMap.{get_by_text}
use Rattle.std.proofs.lemmas.Map.Text.{btree_map_updates_text}
use Rattle.ips_action.specs.Attrs.{is_same}
use Rattle.ips_index.specs.Entries.{listed_at}
use Rattle.ips_index.proofs.Scanned.{listed_more}
use Rattle.ips_index.proofs.sets.add.Goals as goal

pub returns : goal.returns
returns c =
    let text = string_bytes c.in_ok-stem.stem in
    let same : text ≡ c.args.row.stem = c.in_ok-stem.ensures.ok ∙ c.stem.ensures in
    let asked : c.as_str.result.now ≡ c.args.row.stem = c.as_str.ensures.value ∙ same in
    listed_more c.args.stems.now c.taken-rows.new.stems c.insert.new.self c.args.row.stem c.args.row c.taken-rows.result.items c.push.new.self (c.taken-rows.ensures.rows ∙ ap (listed_at c.args.stems.now) asked)
    (λ q apart. c.taken-rows.ensures.others q (ap (λ (t : List ℕ). is_same t q) asked ∙ apart)) c.in_ok-push.ensures.items
    (subst (λ (t : List ℕ). (q : List ℕ) → get_by_text c.insert.new.self q ≡ cond (is_same t q) (Some c.push.new.self) (get_by_text c.taken-rows.new.stems q)) same (btree_map_updates_text text c.taken-rows.new.stems c.insert.new.self (Some c.push.new.self) c.in_ok-insert.ensures.updates))
