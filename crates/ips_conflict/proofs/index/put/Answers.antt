use Rattle.std.proofs.Common.{◌++◌, ◌∷◌, [], Some}
use Rattle.std.specs.String.{string_bytes}
use Rattle.std.proofs.lemmas.Map.Text.{btree_map_updates_text}
use Rattle.ips_conflict.proofs.Indexed.{put_is}
use Rattle.ips_conflict.proofs.index.put.Goals as goal

pub returns : goal.returns
returns c = λ q.
    put_is c.args.groups.now c.insert.new.self (string_bytes c.args.text) (c.args.others.items ++ c.args.i ∷ []) c.push.new.self c.in_ok-push.ensures.items
    (btree_map_updates_text (string_bytes c.args.text) c.args.groups.now c.insert.new.self (Some c.push.new.self) c.in_ok-insert.ensures.updates) q
