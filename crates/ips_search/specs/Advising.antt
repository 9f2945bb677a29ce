-- What a search knows more after advice.
use Rattle.std.specs.Prelude.{◌≡◌, length}
use Rattle.ips_refute.specs.Meaning.{Meaning}
use Rattle.ips_search.specs.declared.state.State.{State}
use Rattle.ips_search.specs.Searching.{IsSearching, KeepsCount}

-- at the same place, with what was known before
pub record Learned (m : Meaning) (before after : State) : Type 0 where
  pub searching : IsSearching m after
  pub same : after.choice.items ≡ before.choice.items
  pub pairs : after.pairs.items ≡ before.pairs.items
  pub tried : length after.top.reasons.items ≡ length before.top.reasons.items
  pub keeps : KeepsCount m before after
