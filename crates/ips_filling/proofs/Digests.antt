-- Files whose digest was told.
use Rattle.std.proofs.Common.{◌≡◌, ℕ, List, Some, ◌∙◌, ap, subst, IsTrue}
use Rattle.ips_digest.specs.declared.name.PayloadName.{PayloadName}
use Rattle.ips_outside.specs.Image.{Image}
use Rattle.ips_files.specs.Files.{file_at}
use Rattle.ips_repo.specs.Payload.{PayloadReading, IsFrontOf, digest_by}

-- all bytes of a payload were given, and this is their digest
pub told_at_end : (t : Image) (old new : PayloadReading) (found : PayloadName) → IsFrontOf t new → IsTrue new.ended → new.name ≡ old.name → new.place ≡ old.place
    → found ≡ digest_by new.name new.bytes → (bytes : List ℕ) × (file_at t old.place ≡ Some bytes) × (found ≡ digest_by old.name bytes)
told_at_end t old new found front ended named placed is =
    let stands : file_at t old.place ≡ Some front.file = subst (λ (p : List ℕ). file_at t p ≡ Some front.file) placed front.stands in
    (front.file, stands, is ∙ ap (digest_by new.name) (front.whole ended) ∙ ap (λ (n : PayloadName). digest_by n front.file) named)
