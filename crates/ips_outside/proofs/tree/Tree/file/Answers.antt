use Rattle.std.proofs.Common.{◌≡◌, ◌∙◌, [], ◌∷◌, ◌++◌, ℕ, List, length, cond, Some, None, sym, ap, subst, arith}
use Rattle.ips_text.specs.Ancestry.{same_path}
use Rattle.ips_outside.specs.Image.{File, IsImage}
use Rattle.ips_outside.specs.Change.{with_entry_at}
use Rattle.ips_outside.specs.Table.{kind_at, image_of}
use Rattle.ips_outside.specs.Making.{fault_at}
use Rattle.ips_outside.specs.Tree.{tree_image}
use Rattle.ips_outside.specs.declared.table.Kind.TheVariants as kind
use Rattle.ips_outside.specs.declared.table.Node.{Node}
use Rattle.ips_outside.proofs.Trees.{image_file, formed_file}
use Rattle.ips_outside.proofs.Rooms.{room_made}
use Rattle.ips_outside.proofs.tree.Tree.file.Goals as goal

pub invariant_of-self-2 : goal.invariant_of-self-2
unfolding tree_image
invariant_of-self-2 c =
    let t = c.args.self.now in
    let key = c.in_ok-key.key.items in
    let node : Node = record { mode = c.args.mode; bytes = c.in_ok-bytes.bytes } in
    let same : key ≡ c.args.path.now.bytes = c.in_ok-key.ensures.key in
    let can : fault_at (tree_image t) key ≡ None = ap (fault_at (tree_image t)) same ∙ sym c.in_default.ensures in
    let number : c.len-node.result ≡ length t.nodes.items = omega (arith, c.len-node.ensures, c.reserve.ensures.len, t.nodes.ok) in
    let pushed : c.push_reserved.new.self.items ≡ t.nodes.items ++ node ∷ [] = c.push_reserved.ensures.items ∙ ap (λ (nodes : List Node). nodes ++ node ∷ []) c.reserve.ensures.items in
    let put : (q : List ℕ) → kind_at c.put.new.paths.entries q ≡ cond (same_path key q) (Some (kind.File (length t.nodes.items))) (kind_at t.paths.entries q) =
    λ q. c.in_ok-put.ensures.put q ∙ ap (λ (n : ℕ). cond (same_path key q) (Some (kind.File n)) (kind_at t.paths.entries q)) number in
    record {
      room = room_made c.put.new.paths.entries c.key.new.spare c.in_ok-key.ensures.room;
      formed = subst (λ (nodes : List Node). IsImage (image_of c.put.new.paths.entries nodes)) (sym pushed) (formed_file t.paths.entries c.put.new.paths.entries t.nodes.items key node t.formed can put c.in_ok-key.ensures.path c.requires);
    }

pub returns-clause-made : goal.returns-clause-made
unfolding tree_image
returns-clause-made c =
    let t = c.args.self.now in
    let key = c.in_ok-key.key.items in
    let node : Node = record { mode = c.args.mode; bytes = c.in_ok-bytes.bytes } in
    let same : key ≡ c.args.path.now.bytes = c.in_ok-key.ensures.key in
    let can : fault_at (tree_image t) key ≡ None = ap (fault_at (tree_image t)) same ∙ sym c.in_default.ensures in
    let number : c.len-node.result ≡ length t.nodes.items = omega (arith, c.len-node.ensures, c.reserve.ensures.len, t.nodes.ok) in
    let pushed : c.push_reserved.new.self.items ≡ t.nodes.items ++ node ∷ [] = c.push_reserved.ensures.items ∙ ap (λ (nodes : List Node). nodes ++ node ∷ []) c.reserve.ensures.items in
    let put : (q : List ℕ) → kind_at c.put.new.paths.entries q ≡ cond (same_path key q) (Some (kind.File (length t.nodes.items))) (kind_at t.paths.entries q) =
    λ q. c.in_ok-put.ensures.put q ∙ ap (λ (n : ℕ). cond (same_path key q) (Some (kind.File n)) (kind_at t.paths.entries q)) number in
    ap (image_of c.put.new.paths.entries) pushed
    ∙ image_file t.paths.entries c.put.new.paths.entries t.nodes.items key node t.formed can put
    ∙ ap (λ (p : List ℕ). with_entry_at p (Some (File c.args.mode c.in_ok-bytes.bytes.items)) (tree_image t)) same
    ∙ ap (λ (bytes : List ℕ). with_entry_at c.args.path.now.bytes (Some (File c.args.mode bytes)) (tree_image t)) c.in_ok-bytes.ensures.items
