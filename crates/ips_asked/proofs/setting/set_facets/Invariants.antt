use Rattle.std.proofs.Common.{◌≡◌, ℕ, List, take}
use Rattle.ips_filter.specs.Settings.{value_at}
use Rattle.ips_asked.specs.Set.{facet_behind}
use Rattle.ips_asked.proofs.setting.set_facets.Given as goal

abbrev pub invariant-loop-word : goal.invariant-loop-word
invariant-loop-word l = ((name : List ℕ) → value_at l.settings.facets name ≡ facet_behind name (value_at l.initial.settings.facets name) (take l.word-index l.words)) × (l.settings.variants ≡ l.initial.settings.variants)
