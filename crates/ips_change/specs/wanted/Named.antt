-- When bytes are a payload's, where a payload is told by the spelling of its name.
use Rattle.std.specs.Prelude.{ℕ, Bool, cond, ◌==◌, List, length}
use Rattle.ips_text.specs.Ancestry.{same_path}
use Rattle.ips_digest.specs.Digest.{Algorithm, SHA1, SHA256, digest_of}
use Rattle.ips_digest.specs.Name.{spelling}

-- the hash function of a name by how many digits it has
abbrev pub algorithm_by : ℕ → Algorithm
algorithm_by count = cond (count == 64) SHA256 SHA1

-- the bytes have this name: their digest is spelled so
abbrev pub is_payload_of : List ℕ → List ℕ → Bool
is_payload_of name bytes = same_path name (spelling (digest_of (algorithm_by (length name)) bytes))
