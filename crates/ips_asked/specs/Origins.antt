-- The publishers whose packages an image may take.
use Rattle.std.specs.Prelude.{ℕ, Bool, true, not, ◌&&◌, if◌then◌else◌, List, [], ◌∷◌, filter, unwrap_or, Option}
use Rattle.std.specs.Str.{bytes_eq}
use Rattle.ips_state.specs.declared.state.Origin.{Origin}

-- An empty list stands for the image's publisher alone, with which installed packages stay.
abbrev pub origins_meant : List ℕ → List Origin → List Origin
origins_meant publisher [] = record { name = publisher; sticky = true } ∷ []
origins_meant publisher (o ∷ origins) = o ∷ origins

-- Packages stay with a publisher that isn't in the list unless it is said otherwise, and else as the list has it.
abbrev pub sticky_in : List ℕ → List Origin → Bool
sticky_in name [] = true
sticky_in name (o ∷ origins) = if bytes_eq o.name name then o.sticky else sticky_in name origins

-- The list with the origin in the place of the one of its name, or else last.
abbrev pub with_origin : Origin → List Origin → List Origin
with_origin origin [] = origin ∷ []
with_origin origin (o ∷ origins) = if bytes_eq o.name origin.name then origin ∷ origins else o ∷ with_origin origin origins

-- the list without the publisher
abbrev pub without_origin : List ℕ → List Origin → List Origin
without_origin name origins = filter (λ (o : Origin). not (bytes_eq o.name name)) origins

-- the origin put first, or in its place
abbrev pub origin_put : Bool → Origin → List Origin → List Origin
origin_put first origin origins = if first then origin ∷ without_origin origin.name origins else with_origin origin origins

-- The list with a publisher changed or added: first where that is said, and sticky as is said.
abbrev pub origins_changed : List ℕ → Bool → Option Bool → List Origin → List Origin
origins_changed name first sticky origins = origin_put first (record { name = name; sticky = unwrap_or sticky (sticky_in name origins) }) origins

-- The list behind `set-publisher`. An empty one stays empty where that says of the image's publisher what the empty list stands for.
abbrev pub origins_set : List ℕ → List ℕ → Bool → Option Bool → List Origin → List Origin
origins_set publisher name first sticky [] =
    if bytes_eq name publisher && unwrap_or sticky true then [] else origins_changed name first sticky (origins_meant publisher [])
origins_set publisher name first sticky (o ∷ origins) = origins_changed name first sticky (o ∷ origins)

-- The list behind `unset-publisher`, which leaves the image's own publisher.
abbrev pub origins_unset : List ℕ → List ℕ → List Origin → List Origin
origins_unset publisher name origins = if bytes_eq name publisher then origins else without_origin name origins
