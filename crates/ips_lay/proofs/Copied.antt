-- A content copied to its place.
use Rattle.std.proofs.Common.{◌≡◌, ℕ, ◌+◌, ◌≤◌, Bool, true, false, List, ◌++◌, length, take, min, Option, Some, None, Result, Ok, Err, refl, sym, ap, subst, ◌∙◌, arith}
use Rattle.std.specs.Prelude.{OnOk}
use Rattle.std.proofs.lemmas.List.{length-append, length-take}
use Rattle.std.proofs.Math.Nat.{min-le_left}
use Rattle.ips_outside.specs.Image.{Image, File, file_bytes, has_parent}
use Rattle.ips_outside.specs.Change.{with_entry_at}
use Rattle.ips_outside.proofs.Placed.{look_placed, parent_kept}
use Rattle.ips_folder.specs.Calls.{CanMake}
use Rattle.ips_files.specs.Files.{file_at}
use Rattle.ips_digest.specs.declared.name.PayloadName.{PayloadName}
use Rattle.ips_repo.specs.Places.{payload_place}
use Rattle.ips_repo.specs.Payload.{PayloadReading, IsFrontOf, HasIntact, payload_limit, digest_by, with_piece}
use Rattle.ips_contents.specs.Contents.{HoldsAlone}
use Rattle.ips_lay.specs.Laid.{HasLaid, IsNotThere}

-- no more is read than there is
pub small_more : (old new : PayloadReading) (count : ℕ) (buf : List ℕ) → new ≡ with_piece count buf old → length old.bytes + count ≤ old.size → length new.bytes ≤ new.size
small_more old new count buf is within =
    let few : length (take count buf) ≤ count = subst (λ (n : ℕ). n ≤ count) (sym (length-take count buf)) (min-le_left count (length buf)) in
    subst (λ (r : PayloadReading). length r.bytes ≤ r.size) (sym is) (omega (arith, length-append old.bytes (take count buf), few, within))

-- where something was taken away, something can be made
pub can_new : (p : List ℕ) (t u : Image) → has_parent t p ≡ true → u ≡ with_entry_at p None t → CanMake u p
can_new p t u parent is = subst (λ (v : Image). CanMake v p) (sym is) (record { absent = look_placed p None t; parent = parent_kept p None t parent })

pub laid_by : (place : List ℕ) (name : PayloadName) (bytes : List ℕ) (t : Image) → HoldsAlone place 420 bytes t → length bytes ≤ payload_limit → digest_by name bytes ≡ name → HasLaid place name t
laid_by place name bytes t alone within named = record { bytes = bytes; stands = alone.file; within = within; named = named }

-- the file has another digest
pub not_there : (t : Image) (r : PayloadReading) → IsFrontOf t r → r.ended ≡ true → (digest_by r.name r.bytes ≡ r.name → ⊥) → IsNotThere r.name (file_at t r.place)
not_there t r front ended other bytes stands within named = other (subst (λ (b : List ℕ). digest_by r.name b ≡ r.name) (same bytes front.file (sym front.stands ∙ stands) ∙ sym (front.whole ended)) named)
  where
    same : (a b : List ℕ) → (let o : Option (List ℕ) = Some b in o) ≡ Some a → a ≡ b
    same a b e = cc

pub intact_of : (publisher : List ℕ) (name : PayloadName) (place : List ℕ) (t : Image) → place ≡ payload_place publisher name → HasLaid place name t → HasIntact publisher t name
intact_of publisher name place t is laid =
    (laid.bytes, record { stands = subst (λ (q : List ℕ). file_at t q ≡ Some laid.bytes) is (ap file_bytes laid.stands); within = laid.within; named = laid.named })

pub laid_intact : {T E : Type 0} (r : Result T E) (publisher : List ℕ) (name : PayloadName) (place : List ℕ) (t : Image) → place ≡ payload_place publisher name → OnOk r (HasLaid place name t) → OnOk r (HasIntact publisher t name)
laid_intact (Ok x) publisher name place t is laid = intact_of publisher name place t is laid
laid_intact (Err e) publisher name place t is laid = tt
