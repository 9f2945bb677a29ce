use Rattle.std.proofs.Common.{◌∙◌, ◌++◌, is_ok, cond, ap, arith}
use Rattle.ips_outside.specs.declared.table.Node.{Node}
use Rattle.ips_outside.proofs.Trees.{on_err, node_within, file_at, image_appended, image_unchanged, formed_appended}
use Rattle.ips_outside.specs.Tree.{tree_image}
use Rattle.ips_outside.proofs.tree.Tree.append.Goals as goal

pub index_mut-requires : goal.index_mut-requires
unfolding tree_image
index_mut-requires c =
    let t = c.args.self.now in
    let at = file_at t.paths.entries c.args.path.now.bytes c.bytes.result.now c.in-Some.node c.bytes.ensures.value c.in-Some.ensures in
    let lt = node_within t.paths.entries t.nodes.items c.args.path.now.bytes c.in-Some.node t.formed at in
    omega (arith, t.nodes.ok)

pub invariant_of-self : goal.invariant_of-self
unfolding tree_image
invariant_of-self c =
    let t = c.args.self.now in
    let old = c.index_mut.result.now in
    let node : Node = record { mode = old.mode; bytes = c.extend_from_slice.new.self } in
    let at = file_at t.paths.entries c.args.path.now.bytes c.bytes.result.now c.in-Some.node c.bytes.ensures.value c.in-Some.ensures in
    record {
      room = t.room;
      formed = formed_appended t.paths.entries t.nodes.items c.args.path.now.bytes c.in-Some.node node t.formed at old c.args.bytes.now (is_ok c.extend_from_slice.result) (ap (λ (x : Node). x.mode) c.index_mut.ensures.value)
          (c.extend_from_slice.ensures.items ∙ ap (λ (x : Node). cond (is_ok c.extend_from_slice.result) (x.bytes.items ++ c.args.bytes.now) x.bytes.items) c.index_mut.ensures.value) c.requires.sole;
    }

pub returns-in_err-extend_from_slice-clause-as_before : goal.returns-in_err-extend_from_slice-clause-as_before
unfolding tree_image
returns-in_err-extend_from_slice-clause-as_before c =
    let t = c.args.self.now in
    let old = c.index_mut.result.now in
    let node : Node = record { mode = old.mode; bytes = c.extend_from_slice.new.self } in
    let at = file_at t.paths.entries c.args.path.now.bytes c.bytes.result.now c.in-Some.node c.bytes.ensures.value c.in-Some.ensures in
    on_err c.from_residual.result
    (image_unchanged t.paths.entries t.nodes.items c.args.path.now.bytes c.in-Some.node node t.formed at old (ap (λ (x : Node). x.mode) c.index_mut.ensures.value)
    (c.in_err-extend_from_slice.ensures.items ∙ ap (λ (x : Node). x.bytes.items) c.index_mut.ensures.value))

pub returns-in_ok-extend_from_slice-clause-appended : goal.returns-in_ok-extend_from_slice-clause-appended
unfolding tree_image
returns-in_ok-extend_from_slice-clause-appended c =
    let t = c.args.self.now in
    let old = c.index_mut.result.now in
    let node : Node = record { mode = old.mode; bytes = c.extend_from_slice.new.self } in
    let at = file_at t.paths.entries c.args.path.now.bytes c.bytes.result.now c.in-Some.node c.bytes.ensures.value c.in-Some.ensures in
    image_appended t.paths.entries t.nodes.items c.args.path.now.bytes c.in-Some.node node t.formed at old c.args.bytes.now (ap (λ (x : Node). x.mode) c.index_mut.ensures.value)
    (c.in_ok-extend_from_slice.ensures.items ∙ ap (λ (x : Node). x.bytes.items ++ c.args.bytes.now) c.index_mut.ensures.value) c.requires.sole
