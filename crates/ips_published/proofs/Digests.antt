-- A digest is a name: it has as many bytes as its hash function gives.
use Rattle.std.proofs.Common.{◌≡◌, ℕ, zero, suc, ◌*◌, ◌<◌, ◌%◌, List, [], ◌∷◌, ◌++◌, length, refl, subst, arith, length-append}
use Rattle.std.specs.Prelude.{slice_index}
use Rattle.std.specs.Int.{to_be_bytes, w32}
use Rattle.std.specs.List.{AllByRecursion}
use Rattle.hex.specs.Hex.{IsBytes}
use Rattle.sha1.specs.Sha1.{sha1, digest_bytes as bytes_of_sha1}
use Rattle.sha2.specs.Sha256.{sha256, digest_bytes as bytes_of_sha256}
use Rattle.sha2.proofs.Facts256.{length-sha256}
use Rattle.ips_outside.specs.Image.{Image}
use Rattle.ips_digest.specs.Name.{IsName}
use Rattle.ips_digest.specs.declared.name.PayloadName.{PayloadName}
use Rattle.ips_digest.specs.declared.name.PayloadName.TheVariants.{Sha1, Sha256}
use Rattle.ips_repo.specs.Payload.{HasIntact, digest_by}

abbrev AreLow : List ℕ → Type 0
AreLow xs = AllByRecursion (λ (b : ℕ). b < 256) xs

append_low : (xs ys : List ℕ) → AreLow xs → AreLow ys → AreLow (xs ++ ys)
append_low [] ys hx hy = hy
append_low (x ∷ xs) ys hx hy = (hx.0, append_low xs ys hx.1 hy)

low : (m : ℕ) → m % 256 < 256
low m = omega arith

word_low : (n : ℕ) → AreLow (to_be_bytes w32 n)
word_low n = (low _, (low _, (low _, (low _, tt))))

bytes_are : (xs : List ℕ) → AreLow xs → IsBytes xs
bytes_are [] h zero = omega arith
bytes_are [] h (suc i) = omega arith
bytes_are (x ∷ xs) h zero = h.0
bytes_are (x ∷ xs) h (suc i) = bytes_are xs h.1 i

length_sha1 : (h : List ℕ) (n : ℕ) → length (bytes_of_sha1 h n) ≡ n * 4
unfolding bytes_of_sha1
length_sha1 h zero = refl
length_sha1 h (suc n) =
    let before = length_sha1 h n in
    let last : length (to_be_bytes w32 (slice_index h n)) ≡ 4 = refl in
    omega (arith, before, last, length-append (bytes_of_sha1 h n) (to_be_bytes w32 (slice_index h n)))

low_sha1 : (h : List ℕ) (n : ℕ) → AreLow (bytes_of_sha1 h n)
unfolding bytes_of_sha1
low_sha1 h zero = tt
low_sha1 h (suc n) = append_low (bytes_of_sha1 h n) (to_be_bytes w32 (slice_index h n)) (low_sha1 h n) (word_low (slice_index h n))

low_sha256 : (h : List ℕ) (n : ℕ) → AreLow (bytes_of_sha256 h n)
unfolding bytes_of_sha256
low_sha256 h zero = tt
low_sha256 h (suc n) = append_low (bytes_of_sha256 h n) (to_be_bytes w32 (slice_index h n)) (low_sha256 h n) (word_low (slice_index h n))

sha1_name : (m : List ℕ) → IsName (Sha1 (sha1 m))
unfolding sha1
sha1_name m = (length_sha1 _ 5, bytes_are (sha1 m) (low_sha1 _ 5))

sha256_name : (m : List ℕ) → IsName (Sha256 (sha256 m))
unfolding sha256
sha256_name m = (length-sha256 m, bytes_are (sha256 m) (low_sha256 _ 8))

digest_name : (name : PayloadName) (bytes : List ℕ) → IsName (digest_by name bytes)
digest_name (Sha1 x) bytes = sha1_name bytes
digest_name (Sha256 x) bytes = sha256_name bytes

-- what is intact has a name
pub intact_name : (publisher : List ℕ) (t : Image) (name : PayloadName) → HasIntact publisher t name → IsName name
intact_name publisher t name has = subst IsName has.1.named (digest_name name has.0)
