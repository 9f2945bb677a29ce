-- The order in which links stand by what they offer, computed. Only the search for the best link uses it.
use Rattle.std.specs.Prelude.{◌≡◌, ℕ, Option, Some, None}
use Rattle.std.specs.declared.cmp.Ordering.{Ordering}
use Rattle.std.specs.declared.cmp.Ordering.TheVariants.{Greater}
use Rattle.std.specs.Ordering.{nat_cmp, on, then_cmp, flip_args}
use Rattle.std.specs.Option.{option_cmp}
use Rattle.std.specs.Cmp.Lexicographic.{slice_cmp}
use Rattle.std.specs.Borrow.{Bor}
use Rattle.ips_fmri.specs.Order.{version_cmp}
use Rattle.ips_action.specs.Action.{Fields}
use Rattle.ips_mediate.specs.declared.set.SetMediator.{SetMediator}
use Rattle.ips_mediate.specs.Mediation.{mediation_of, version_of, implementation_of, rank_of}
use Rattle.ips_mediate.specs.Best.{Fits}

-- Links by their own priority, then by version, and then the other way round by implementation.
abbrev pub link_cmp : Fields → Fields → Ordering
link_cmp = then_cmp (then_cmp (on rank_of nat_cmp) (on version_of (option_cmp version_cmp))) (flip_args (on implementation_of (option_cmp (slice_cmp nat_cmp))))

-- A link stands above the one that was found, if any.
abbrev pub StandsAbove : Fields → Option (ℕ × Bor Fields) → Type 0
StandsAbove link None = Unit {0}
StandsAbove link (Some found) = link_cmp link found.1.now ≡ Greater

-- A link fits what is set, and stands above the one that was found.
abbrev pub Leads : Option SetMediator → Fields → Option (ℕ × Bor Fields) → Type 0
Leads set link found = Fits set (mediation_of link) × StandsAbove link found
