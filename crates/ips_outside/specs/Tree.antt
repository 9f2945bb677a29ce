-- What a tree in memory means.
use Rattle.ips_outside.specs.Image.{Image, IsImage}
use Rattle.ips_outside.specs.Table.{image_of}
use Rattle.ips_outside.specs.declared.tree.Tree.{Tree}

-- the image that a tree in memory holds
unfoldable pub tree_image : Tree → Image
tree_image t = image_of t.paths.entries t.nodes.items

-- each tree in memory is well formed
pub tree_formed : (t : Tree) → IsImage (tree_image t)
unfolding tree_image
tree_formed t = t.formed
