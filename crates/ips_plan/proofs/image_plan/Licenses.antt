-- What is known of the licenses that a request newly delivers.
use Rattle.std.proofs.Common.{◌≡◌, ℕ, List, subst}
use Rattle.ips_manifest.specs.declared.package.Package.{Package}
use Rattle.ips_filter.specs.Settings.{Set}
use Rattle.ips_delivered.specs.new_licenses.New.{AreNewlyDelivered}

-- the licenses of packages that are lent are those of the packages
pub newly_lent : (was is : Set) (old new lent_old lent_new : List Package) (shown asked : List (List ℕ)) → lent_old ≡ old → lent_new ≡ new → AreNewlyDelivered was lent_old is lent_new shown asked → AreNewlyDelivered was old is new shown asked
newly_lent was is old new lent_old lent_new shown asked same_old same_new h =
    subst (λ (l : List Package). AreNewlyDelivered was l is new shown asked) same_old (subst (λ (l : List Package). AreNewlyDelivered was lent_old is l shown asked) same_new h)
