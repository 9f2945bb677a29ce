-- What a folder answers of a directory's children.
use Rattle.std.specs.Prelude.{◌≡◌, ℕ, List}
use Rattle.ips_outside.specs.Image.{Image}
use Rattle.ips_outside.specs.Children.{AreChildren, is_foreign}
use Rattle.ips_folder.specs.declared.listing.Listing.{Listing}

-- The children of the directory, each once, in the order of their bytes, and whether it also holds names that are no
-- paths.
pub record IsListing (t : Image) (dir : List ℕ) (listing : Listing) : Type 0 where
  pub children : AreChildren t dir listing.names
  pub foreign : listing.foreign ≡ is_foreign (t.look dir)
