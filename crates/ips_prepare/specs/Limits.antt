-- The limits of what is put, by sizes alone.
use Rattle.std.specs.Prelude.{◌≡◌, ℕ, ◌<◌, ◌≤◌, Bool, List}
use Rattle.std.specs.List.{list_any}
use Rattle.ips_text.specs.declared.limits.Which.{Which}
use Rattle.ips_text.specs.declared.limits.Which.TheVariants as which
use Rattle.ips_action.specs.Attrs.{is_same}
use Rattle.ips_catalog.specs.Listed.{Listed}
use Rattle.ips_repo.specs.Manifest.{manifest_limit}
use Rattle.ips_repo.specs.Opening.{catalog_limit, stem_limit, version_limit}

-- the catalog lists the stem
abbrev pub is_listed : List ℕ → List Listed → Bool
is_listed stem catalog = list_any (λ (l : Listed). is_same stem l.stem) catalog

-- the first limit that is passed by so many bytes of a catalog, stems, versions, and bytes of a manifest
abbrev pub IsOverSizes : ℕ → ℕ → ℕ → ℕ → Which → ℕ → Type 0
IsOverSizes catalog stems versions manifest which.CatalogBytes count = (count ≡ catalog) × (catalog_limit < count)
IsOverSizes catalog stems versions manifest which.Stems count = (catalog ≤ catalog_limit) × (count ≡ stems) × (stem_limit < count)
IsOverSizes catalog stems versions manifest which.Versions count = (catalog ≤ catalog_limit) × (stems ≤ stem_limit) × (count ≡ versions) × (version_limit < count)
IsOverSizes catalog stems versions manifest which.ManifestBytes count = (catalog ≤ catalog_limit) × (stems ≤ stem_limit) × (versions ≤ version_limit) × (count ≡ manifest) × (manifest_limit < count)
IsOverSizes catalog stems versions manifest which.AllManifests count = ⊥
IsOverSizes catalog stems versions manifest which.PayloadBytes count = ⊥
IsOverSizes catalog stems versions manifest which.ImageFileBytes count = ⊥
IsOverSizes catalog stems versions manifest which.AccountBytes count = ⊥
IsOverSizes catalog stems versions manifest which.Steps count = ⊥
IsOverSizes catalog stems versions manifest which.Names count = ⊥
