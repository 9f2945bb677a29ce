use Rattle.std.proofs.Common.{◌≡◌, ◌∙◌, ℕ, List, None, ap, sym}
use Rattle.ips_outside.specs.Change.{joined}
use Rattle.ips_outside.specs.Making.{fault_at}
use Rattle.ips_outside.specs.Tree.{tree_image}
use Rattle.ips_outside.proofs.Trees.{file_at, image_joined, formed_named}
use Rattle.ips_outside.proofs.Rooms.{room_made}
use Rattle.ips_outside.proofs.tree.Tree.hard.Goals as goal

pub invariant_of-self-2 : goal.invariant_of-self-2
unfolding tree_image
invariant_of-self-2 c =
    let t = c.args.self.now in
    let key = c.in_ok-key.key.items in
    let same : key ≡ c.args.path.now.bytes = c.in_ok-key.ensures.key in
    let can : fault_at (tree_image t) key ≡ None = ap (fault_at (tree_image t)) same ∙ sym c.in_default.ensures in
    let at = file_at t.paths.entries c.args.to.now.bytes c.bytes.result.now c.in-Some-file.node c.bytes.ensures.value c.in-Some-file.ensures in
    record {
      room = room_made c.put.new.paths.entries c.key.new.spare c.in_ok-key.ensures.room;
      formed = formed_named t.paths.entries c.put.new.paths.entries t.nodes.items key c.args.to.now.bytes c.in-Some-file.node t.formed can at c.put.result c.in_ok-key.ensures.path c.put.ensures.put c.put.ensures.as_before;
    }

pub returns-clause-made : goal.returns-clause-made
unfolding tree_image
returns-clause-made c =
    let t = c.args.self.now in
    let key = c.in_ok-key.key.items in
    let same : key ≡ c.args.path.now.bytes = c.in_ok-key.ensures.key in
    let can : fault_at (tree_image t) key ≡ None = ap (fault_at (tree_image t)) same ∙ sym c.in_default.ensures in
    let at = file_at t.paths.entries c.args.to.now.bytes c.bytes.result.now c.in-Some-file.node c.bytes.ensures.value c.in-Some-file.ensures in
    image_joined t.paths.entries c.put.new.paths.entries t.nodes.items key c.args.to.now.bytes c.in-Some-file.node t.formed can at c.in_ok-put.ensures.put
    ∙ ap (λ (p : List ℕ). joined p c.args.to.now.bytes (tree_image t)) same
