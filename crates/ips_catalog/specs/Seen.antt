-- What a listing in memory shows.
use Rattle.ips_catalog.specs.declared.packages.Listing.{Listing}
use Rattle.ips_catalog.specs.Listed.{Listed}

-- the stem and the versions, without where they lie in memory
abbrev pub seen : Listing → Listed
seen listing = record { stem = listing.stem; versions = listing.versions.items }
