-- A request from what packages meant to what they mean.
use Rattle.std.specs.Prelude.{ℕ, Bool, List}
use Rattle.ips_manifest.specs.declared.package.Package.{Package}
use Rattle.ips_filter.specs.Settings.{Set}
use Rattle.ips_mediate.specs.declared.set.SetMediator.{SetMediator}
use Rattle.ips_meaning.specs.declared.entry.Entry.{Entry}
use Rattle.ips_meaning.specs.Together.{AreProper, HangTogether}
use Rattle.ips_meaning.specs.Want.{PackagesMean}
use Rattle.ips_after.specs.Request.{Over, Request}
use Rattle.ips_change.specs.wanted.Wanted.{AreLinkBytes, want_of}

-- What is known of the entries that packages mean: no path is reserved and nothing clashes, they hang together, and their parts are proper.
pub record AreMeant (settings : Set) (mediators : List SetMediator) (packages : List Package) (entries : List (List ℕ × Entry)) : Type 0 where
  pub mean : PackagesMean settings mediators packages entries
  pub together : HangTogether entries
  pub proper : AreProper entries
  pub bytes : AreLinkBytes entries

-- The request from the entries of the old packages to those of the new ones, with the bytes of each payload, whether bytes are a payload's,
-- and what account files and records say.
abbrev pub request_between : List (List ℕ × Entry) → List (List ℕ × Entry) → (List ℕ → List ℕ) → (List ℕ → List ℕ → Bool) → Over → Request
request_between old new bytes holds over = record { old = want_of old; new = want_of new; bytes = bytes; holds = holds; over = over }
