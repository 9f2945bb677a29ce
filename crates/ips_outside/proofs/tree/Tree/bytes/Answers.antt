use Rattle.std.proofs.Common.{◌∙◌, ℕ, List, Some, sym, ap, arith}
use Rattle.ips_outside.specs.Image.{file_bytes}
use Rattle.ips_outside.proofs.Trees.{node_within, file_at, entry_of-file}
use Rattle.ips_outside.specs.Tree.{tree_image}
use Rattle.ips_outside.proofs.tree.Tree.bytes.Goals as goal

pub index-requires : goal.index-requires
unfolding tree_image
index-requires c =
    let t = c.args.self.now in
    let at = file_at t.paths.entries c.args.path.now.bytes c.bytes.result.now c.in_ok-node.node c.bytes.ensures.value c.in_ok-node.ensures in
    let lt = node_within t.paths.entries t.nodes.items c.args.path.now.bytes c.in_ok-node.node t.formed at in
    omega (arith, t.nodes.ok)

pub returns : goal.returns
unfolding tree_image
returns c =
    let t = c.args.self.now in
    let at = file_at t.paths.entries c.args.path.now.bytes c.bytes.result.now c.in_ok-node.node c.bytes.ensures.value c.in_ok-node.ensures in
    let entry = entry_of-file t.paths.entries t.nodes.items c.args.path.now.bytes c.in_ok-node.node c.index.result.now t.formed at c.index.ensures in
    ap (λ (bytes : List ℕ). Some bytes) c.deref.ensures.value ∙ ap file_bytes (sym entry)
