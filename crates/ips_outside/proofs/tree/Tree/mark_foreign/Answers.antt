use Rattle.std.proofs.Common.{◌≡◌, ◌∙◌, false, ℕ, List, sym, ap}
use Rattle.ips_outside.specs.Image.{is_dir}
use Rattle.ips_outside.specs.Change.{marked}
use Rattle.ips_outside.specs.Table.{with_dir_mark}
use Rattle.ips_outside.specs.Tree.{tree_image}
use Rattle.ips_outside.proofs.Trees.{image_marked, formed_marked, marked_none, has_dir-at}
use Rattle.ips_outside.proofs.Rooms.{room_edited}
use Rattle.ips_outside.proofs.tree.Tree.mark_foreign.Goals as goal

pub invariant_of-self : goal.invariant_of-self
unfolding tree_image
invariant_of-self c =
    let t = c.args.self.now in
    record {
      room = room_edited with_dir_mark t.paths.entries c.mark_dir.new.paths.entries c.bytes.result.now t.spare t.room c.mark_dir.ensures.marked;
      formed = formed_marked t.paths.entries c.mark_dir.new.paths.entries t.nodes.items c.bytes.result.now t.formed c.mark_dir.ensures.marked;
    }

pub returns-clause-marked : goal.returns-clause-marked
unfolding tree_image
returns-clause-marked c =
    let t = c.args.self.now in
    image_marked t.paths.entries c.mark_dir.new.paths.entries t.nodes.items c.bytes.result.now t.formed c.mark_dir.ensures.marked
    ∙ ap (λ (p : List ℕ). marked p (tree_image t)) c.bytes.ensures.value

pub returns-clause-as_before : goal.returns-clause-as_before
unfolding tree_image
returns-clause-as_before c =
    λ none.
    let t = c.args.self.now in
    let p = c.bytes.result.now in
    let no_dir : is_dir ((tree_image t).look p) ≡ false = sym (has_dir-at t.nodes.items _) ∙ sym c.mark_dir.ensures.found ∙ none in
    image_marked t.paths.entries c.mark_dir.new.paths.entries t.nodes.items p t.formed c.mark_dir.ensures.marked ∙ marked_none p (tree_image t) no_dir
