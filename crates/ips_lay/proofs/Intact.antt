-- Whether a payload is intact.
use Rattle.std.proofs.Common.{◌≡◌, ℕ, ◌≤◌, Bool, true, false, nat_lt, List, [], length, Option, Some, None, Result, Ok, Err, refl, sym, ap, subst, ◌∙◌, arith}
use Rattle.ips_outside.specs.Image.{Image}
use Rattle.ips_digest.specs.declared.name.PayloadName.{PayloadName}
use Rattle.ips_files.specs.Files.{file_at}
use Rattle.ips_repo.specs.Answer.{IsMeantFault}
use Rattle.ips_repo.specs.Places.{payload_place}
use Rattle.ips_repo.specs.Payload.{PayloadReading, IsOpened, IsFrontOf, HasIntact, payload_opening, payload_in, payload_limit, digest_by}
use Rattle.ips_repo.specs.declared.fault.RepoFault.{RepoFault}
use Rattle.ips_repo.specs.declared.fault.RepoFault.TheVariants as fault

opens : (publisher : List ℕ) (name : PayloadName) (t : Image) (has : HasIntact publisher t name)
    → payload_opening publisher name t ≡ Ok (record { name = name; place = payload_place publisher name; size = length has.0; bytes = []; ended = false })
opens publisher name t has =
    let few : nat_lt payload_limit (length has.0) ≡ false = grind (arith, has.1.within) in
    rw (has.1.stands, few) refl

-- where it isn't opened, it isn't intact
pub unopened : (publisher : List ℕ) (name : PayloadName) (t : Image) (why : RepoFault) → IsMeantFault why (payload_opening publisher name t) → (why ≡ fault.SourceFault → ⊥) → HasIntact publisher t name → ⊥
unopened publisher name t fault.NoRepository meant not has = let bad = sym meant ∙ opens publisher name t has in cc
unopened publisher name t (fault.BadCatalog w) meant not has = let bad = sym meant ∙ opens publisher name t has in cc
unopened publisher name t fault.ManifestMissing meant not has = let bad = sym meant ∙ opens publisher name t has in cc
unopened publisher name t (fault.BadManifest w) meant not has = let bad = sym meant ∙ opens publisher name t has in cc
unopened publisher name t fault.PayloadMissing meant not has = let bad = sym meant ∙ opens publisher name t has in cc
unopened publisher name t (fault.PayloadDamaged f) meant not has = let bad = sym meant ∙ opens publisher name t has in cc
unopened publisher name t (fault.Compressed f) meant not has = let bad = sym meant ∙ opens publisher name t has in cc
unopened publisher name t (fault.TooLarge w c) meant not has = let bad = sym meant ∙ opens publisher name t has in cc
unopened publisher name t fault.SourceFault meant not has = not refl

-- a payload that was read to its end: it is intact where its digest is its name
module _ (publisher : List ℕ) (name : PayloadName) (t : Image) (r : PayloadReading) (named : r.name ≡ name) (placed : r.place ≡ payload_place publisher name) (small : r.size ≤ payload_limit) (ended : r.ended ≡ true) (front : IsFrontOf t r) where
  file_is : file_at t (payload_place publisher name) ≡ Some r.bytes
  file_is = ap (file_at t) (sym placed) ∙ front.stands ∙ ap (λ (b : List ℕ). (let o : Option (List ℕ) = Some b in o)) (sym (front.whole ended))

  pub intact_read : digest_by r.name r.bytes ≡ r.name → HasIntact publisher t name
  intact_read is = (
    r.bytes,
    record {
      stands = file_is;
      within = subst (λ (b : List ℕ). length b ≤ payload_limit) (sym (front.whole ended)) (subst (λ (n : ℕ). n ≤ payload_limit) (sym front.sized) small);
      named = subst (λ (n : PayloadName). digest_by n r.bytes ≡ n) named is;
    },
  )

  pub read_intact : HasIntact publisher t name → digest_by r.name r.bytes ≡ r.name
  read_intact has = subst (λ (n : PayloadName). digest_by n r.bytes ≡ n) (sym named) (subst (λ (b : List ℕ). digest_by name b ≡ name) (same has.0 r.bytes (sym has.1.stands ∙ file_is)) has.1.named)
    where
      same : (a b : List ℕ) → (let o : Option (List ℕ) = Some a in o) ≡ Some b → a ≡ b
      same a b e = cc
