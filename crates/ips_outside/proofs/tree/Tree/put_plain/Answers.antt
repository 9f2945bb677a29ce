use Rattle.std.proofs.Common.{◌≡◌, ◌∙◌, [], ℕ, List, Some, None, ap}
use Rattle.ips_outside.specs.Change.{with_entry_at}
use Rattle.ips_outside.specs.Table.{entry_of}
use Rattle.ips_outside.specs.Making.{fault_at}
use Rattle.ips_outside.specs.Tree.{tree_image}
use Rattle.ips_outside.proofs.Trees.{image_plain, formed_plain, on_ok_to}
use Rattle.ips_outside.proofs.Rooms.{room_made}
use Rattle.ips_outside.proofs.tree.Tree.put_plain.Goals as goal

pub invariant_of-self-2 : goal.invariant_of-self-2
unfolding tree_image
invariant_of-self-2 c =
    let t = c.args.self.now in
    let key = c.in_ok-key.key.items in
    let same : key ≡ c.args.path.now.bytes = c.in_ok-key.ensures.key in
    let can : fault_at (tree_image t) key ≡ None = ap (fault_at (tree_image t)) same ∙ c.requires.free in
    record {
      room = room_made c.put.new.paths.entries c.key.new.spare c.in_ok-key.ensures.room;
      formed = formed_plain t.paths.entries c.put.new.paths.entries t.nodes.items key c.args.kind t.formed can c.requires.plain c.put.result c.in_ok-key.ensures.path c.requires.mode c.put.ensures.put c.put.ensures.as_before;
    }

pub returns-clause-made : goal.returns-clause-made
unfolding tree_image
returns-clause-made c =
    let t = c.args.self.now in
    let key = c.in_ok-key.key.items in
    let same : key ≡ c.args.path.now.bytes = c.in_ok-key.ensures.key in
    let can : fault_at (tree_image t) key ≡ None = ap (fault_at (tree_image t)) same ∙ c.requires.free in
    on_ok_to c.put.result _ (λ put. image_plain t.paths.entries c.put.new.paths.entries t.nodes.items key c.args.kind t.formed can c.requires.plain put
    ∙ ap (λ (p : List ℕ). with_entry_at p (entry_of [] (Some c.args.kind)) (tree_image t)) same) c.put.ensures.put
