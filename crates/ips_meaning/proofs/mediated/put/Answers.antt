use Rattle.std.proofs.Common.{◌∙◌, ap, List, ℕ, Some, cond}
use Rattle.std.specs.BTreeMap.{get_by_text}
use Rattle.std.specs.String.{string_bytes}
use Rattle.std.proofs.lemmas.Map.Text.{btree_map_updates_text}
use Rattle.ips_action.specs.Attrs.{is_same}
use Rattle.ips_meaning.proofs.Offered.{put_is}
use Rattle.ips_meaning.proofs.mediated.put.Goals as goal

pub returns : goal.returns
returns c =
    put_is c.args.links.now c.without-group.new.links c.insert.new.self c.args.name.now c.args.link c.without-group.result.items c.push.new.self c.without-group.ensures.links c.without-group.ensures.others c.in_ok-push.ensures.items
    (λ q.
    btree_map_updates_text (string_bytes c.in_ok-key.key) c.without-group.new.links c.insert.new.self (Some c.push.new.self) c.in_ok-insert.ensures.updates q
    ∙ ap (λ (t : List ℕ). cond (is_same t q) (Some c.push.new.self) (get_by_text c.without-group.new.links q)) c.in_ok-key.ensures.ok)
