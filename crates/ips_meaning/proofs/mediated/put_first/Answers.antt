use Rattle.std.proofs.Common.{◌∙◌, List, ℕ, Some, ap, cond}
use Rattle.std.specs.BTreeMap.{get_by_text}
use Rattle.std.specs.String.{string_bytes}
use Rattle.std.proofs.lemmas.Map.Text.{btree_map_updates_text}
use Rattle.ips_action.specs.Attrs.{is_same}
use Rattle.ips_meaning.proofs.SetPlaces.{first_kept, first_put}
use Rattle.ips_meaning.proofs.mediated.put_first.Goals as goal

pub returns-then-contains_key : goal.returns-then-contains_key
returns-then-contains_key c = first_kept c.args.places.now c.args.name.now c.args.i c.contains_key.result c.contains_key.ensures c.if-contains_key.true

pub returns : goal.returns
returns c =
    first_put c.args.places.now c.insert.new.self c.args.name.now c.args.i c.contains_key.result c.contains_key.ensures c.if-contains_key.false
    (λ q.
    btree_map_updates_text (string_bytes c.in_ok-key.key) c.args.places.now c.insert.new.self (Some c.args.i) c.in_ok-insert.ensures.updates q
    ∙ ap (λ (t : List ℕ). cond (is_same t q) (Some c.args.i) (get_by_text c.args.places.now q)) c.in_ok-key.ensures.ok)
