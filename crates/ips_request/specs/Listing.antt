-- Catalogs that may be absent.
use Rattle.std.specs.Prelude.{List, [], Option, Some, None}
use Rattle.ips_catalog.specs.Listed.{Listed}

-- what a catalog lists, nothing where there is none
abbrev pub listing_of : Option (List Listed) → List Listed
listing_of None = []
listing_of (Some catalog) = catalog
