-- The states of the hash functions, by what they hold.
use Rattle.std.specs.Prelude.{ℕ, List}
use Rattle.sha1.specs.Sha1.{Holds}
use Rattle.sha2.specs.Hashers.{Holds256}
use Rattle.ips_digest.specs.Digest.{Algorithm, SHA1, SHA256}
use Rattle.ips_digest.specs.declared.hasher.State.{State}
use Rattle.ips_digest.specs.declared.hasher.State.TheVariants.{Sha1, Sha256}

-- the hash function of a state
abbrev pub algorithm_in : State → Algorithm
algorithm_in (Sha1 hasher) = SHA1
algorithm_in (Sha256 hasher) = SHA256

-- the state is that of its hash function after these bytes
abbrev pub HoldsIn : State → List ℕ → Type 0
HoldsIn (Sha1 hasher) bytes = Holds hasher bytes
HoldsIn (Sha256 hasher) bytes = Holds256 hasher bytes
