use Rattle.std.proofs.Common.{◌≡◌, ◌∙◌, Some, length, sym, ap, arith}
use Rattle.ips_outside.specs.Table.{kind_at}
use Rattle.ips_outside.specs.Outside.{look_of}
use Rattle.ips_outside.specs.declared.outside.Look.TheVariants as look
use Rattle.ips_outside.specs.declared.table.Kind.{Kind}
use Rattle.ips_outside.specs.declared.table.Kind.TheVariants as kind
use Rattle.ips_outside.proofs.Trees.{node_within, entry_of-file}
use Rattle.ips_outside.specs.Tree.{tree_image}
use Rattle.ips_outside.proofs.Looks.{small_seen}
use Rattle.ips_outside.specs.Table.{entry_of}
use Rattle.ips_outside.proofs.tree.Tree.look.Goals as goal

pub index-node-requires : goal.index-node-requires
unfolding tree_image
index-node-requires c =
    let t = c.args.self.now in
    let at : kind_at t.paths.entries c.args.path.now.bytes ≡ Some (kind.File c.in-File.node) = ap (kind_at t.paths.entries) (sym c.bytes.ensures.value) ∙ sym c.in-Some.ensures ∙ ap (λ (k : Kind). Some k) c.in-File.is in
    let lt = node_within t.paths.entries t.nodes.items c.args.path.now.bytes c.in-File.node t.formed at in
    omega (arith, t.nodes.ok)

pub returns-in-File-clause-found : goal.returns-in-File-clause-found
unfolding tree_image
returns-in-File-clause-found c =
    let t = c.args.self.now in
    let node = c.index-node.result.now in
    let at : kind_at t.paths.entries c.args.path.now.bytes ≡ Some (kind.File c.in-File.node) = ap (kind_at t.paths.entries) (sym c.bytes.ensures.value) ∙ sym c.in-Some.ensures ∙ ap (λ (k : Kind). Some k) c.in-File.is in
    let entry = entry_of-file t.paths.entries t.nodes.items c.args.path.now.bytes c.in-File.node node t.formed at c.index-node.ensures in
    let size : c.len.result ≡ length node.bytes.items = omega (arith, c.len.ensures, node.bytes.ok) in
    ap (look.File node.mode) size ∙ ap look_of (sym entry)

pub returns-in-File-clause-mode : goal.returns-in-File-clause-mode
unfolding tree_image
returns-in-File-clause-mode c = small_seen (tree_image c.args.self.now) c.args.path.now.bytes _ c.args.self.now.formed (returns-in-File-clause-found c)

pub returns-in-Dir-clause-mode : goal.returns-in-Dir-clause-mode
unfolding tree_image
returns-in-Dir-clause-mode c =
    let t = c.args.self.now in
    let at : kind_at t.paths.entries c.args.path.now.bytes ≡ Some (kind.Dir c.in-Dir.mode c.in-Dir.foreign) = ap (kind_at t.paths.entries) (sym c.bytes.ensures.value) ∙ sym c.in-Some.ensures ∙ ap (λ (k : Kind). Some k) c.in-Dir.is in
    small_seen (tree_image t) c.args.path.now.bytes (look.Dir c.in-Dir.mode) t.formed (ap look_of (sym (ap (entry_of t.nodes.items) at)))
