use Rattle.std.proofs.Common.{◌∙◌, ℕ, List, sym, ap, arith}
use Rattle.ips_outside.specs.Change.{moded}
use Rattle.ips_outside.specs.Tree.{tree_image}
use Rattle.ips_outside.specs.declared.table.Node.{Node}
use Rattle.ips_outside.proofs.Trees.{node_within, file_at, image_moded, formed_moded, image_dir_moded, formed_dir_moded}
use Rattle.ips_outside.specs.Table.{with_dir_mode}
use Rattle.ips_outside.proofs.Rooms.{room_edited}
use Rattle.ips_outside.proofs.tree.Tree.set_mode.Goals as goal

pub index_mut-requires : goal.index_mut-requires
unfolding tree_image
index_mut-requires c =
    let t = c.args.self.now in
    let at = file_at t.paths.entries c.args.path.now.bytes c.bytes-name.result.now c.in-Some.node c.bytes-name.ensures.value c.in-Some.ensures in
    let lt = node_within t.paths.entries t.nodes.items c.args.path.now.bytes c.in-Some.node t.formed at in
    omega (arith, t.nodes.ok)

pub invariant_of-self : goal.invariant_of-self
unfolding tree_image
invariant_of-self c =
    let t = c.args.self.now in
    let old = c.index_mut.result.now in
    let node : Node = record { mode = c.args.mode; bytes = old.bytes } in
    let at = file_at t.paths.entries c.args.path.now.bytes c.bytes-name.result.now c.in-Some.node c.bytes-name.ensures.value c.in-Some.ensures in
    record { room = t.room; formed = formed_moded t.paths.entries t.nodes.items c.args.path.now.bytes c.in-Some.node node t.formed at old (ap (λ (x : Node). x.bytes.items) c.index_mut.ensures.value) c.requires }

pub invariant_of-self-in-None : goal.invariant_of-self-in-None
unfolding tree_image
invariant_of-self-in-None c =
    let t = c.args.self.now in
    record {
      room = room_edited (with_dir_mode c.args.mode) t.paths.entries c.set_dir_mode.new.paths.entries c.bytes-name.result.now t.spare t.room c.set_dir_mode.ensures;
      formed = formed_dir_moded t.paths.entries c.set_dir_mode.new.paths.entries t.nodes.items c.bytes-name.result.now c.args.mode t.formed (sym c.in-None.ensures) c.set_dir_mode.ensures c.requires;
    }

pub returns-in-Some : goal.returns-in-Some
unfolding tree_image
returns-in-Some c =
    let t = c.args.self.now in
    let old = c.index_mut.result.now in
    let node : Node = record { mode = c.args.mode; bytes = old.bytes } in
    let at = file_at t.paths.entries c.args.path.now.bytes c.bytes-name.result.now c.in-Some.node c.bytes-name.ensures.value c.in-Some.ensures in
    image_moded t.paths.entries t.nodes.items c.args.path.now.bytes c.in-Some.node node t.formed at old (ap (λ (x : Node). x.bytes.items) c.index_mut.ensures.value)

pub returns-in-None : goal.returns-in-None
unfolding tree_image
returns-in-None c =
    let t = c.args.self.now in
    image_dir_moded t.paths.entries c.set_dir_mode.new.paths.entries t.nodes.items c.bytes-name.result.now c.args.mode t.formed (sym c.in-None.ensures) c.set_dir_mode.ensures
    ∙ ap (λ (p : List ℕ). moded c.args.mode p (tree_image t)) c.bytes-name.ensures.value
