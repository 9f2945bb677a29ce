use Rattle.std.proofs.Common.{◌≡◌, ℕ, List, take}
use Rattle.ips_filter.specs.Settings.{value_at}
use Rattle.ips_asked.specs.Set.{variant_behind}
use Rattle.ips_asked.proofs.setting.set_variants.Given as goal

abbrev pub invariant-loop-word : goal.invariant-loop-word
invariant-loop-word l = ((name : List ℕ) → value_at l.settings.variants name ≡ variant_behind name (value_at l.initial.settings.variants name) (take l.word-index l.words)) × (l.settings.facets ≡ l.initial.settings.facets)
