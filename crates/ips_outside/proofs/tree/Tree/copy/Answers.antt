use Rattle.std.proofs.Common.{◌≡◌, ◌∙◌, sym, ap, subst}
use Rattle.std.specs.List.{each_same}
use Rattle.ips_outside.specs.Image.{IsImage}
use Rattle.ips_outside.specs.Table.{image_of}
use Rattle.ips_outside.proofs.Copies.{image_copied}
use Rattle.ips_outside.specs.Tree.{tree_image}
use Rattle.ips_outside.proofs.Rooms.{room_made}
use Rattle.ips_outside.proofs.tree.Tree.copy.Goals as goal

pub invariant_of-result : goal.invariant_of-result
unfolding tree_image
invariant_of-result c =
    let t = c.args.self.now in
    let same : image_of c.in_ok-paths.paths.entries c.in_ok-nodes.nodes.items ≡ image_of t.paths.entries t.nodes.items =
    image_copied _ (λ x y h. each_same x.items y.items h.0) t.paths.entries c.in_ok-paths.paths.entries c.deref.result.now c.in_ok-nodes.nodes.items c.in_ok-paths.ensures.cases c.in_ok-nodes.ensures.ok
    ∙ ap (image_of t.paths.entries) c.deref.ensures.value in
    record {
      room = room_made c.in_ok-paths.paths.entries c.in_ok-spare.spare c.in_ok-spare.ensures;
      formed = subst IsImage (sym same) t.formed;
    }

pub returns : goal.returns
unfolding tree_image
returns c =
    let t = c.args.self.now in
    image_copied _ (λ x y h. each_same x.items y.items h.0) t.paths.entries c.in_ok-paths.paths.entries c.deref.result.now c.in_ok-nodes.nodes.items c.in_ok-paths.ensures.cases c.in_ok-nodes.ensures.ok
    ∙ ap (image_of t.paths.entries) c.deref.ensures.value
