-- Digests of bytes that come in pieces.
use Rattle.std.specs.Prelude.{ℕ, List}
use Rattle.sha1.specs.Sha1.{sha1}
use Rattle.sha2.specs.Sha256.{sha256}
use Rattle.ips_digest.specs.declared.name.PayloadName.{PayloadName}
use Rattle.ips_digest.specs.declared.name.PayloadName.TheVariants.{Sha1, Sha256}

-- the hash functions that name payloads (FIPS 180-4)
pub data Algorithm : Type 0 where
  SHA1 : Algorithm
  SHA256 : Algorithm

-- the hash function by which a name was made
abbrev pub algorithm_of : PayloadName → Algorithm
algorithm_of (Sha1 bytes) = SHA1
algorithm_of (Sha256 bytes) = SHA256

-- the digest of the bytes
abbrev pub digest_of : Algorithm → List ℕ → PayloadName
digest_of SHA1 bytes = Sha1 (sha1 bytes)
digest_of SHA256 bytes = Sha256 (sha256 bytes)

-- what a hasher is: its hash function, and all bytes that it was given so far
pub record Hashing : Type 0 where
  pub algorithm : Algorithm
  pub bytes : List ℕ
