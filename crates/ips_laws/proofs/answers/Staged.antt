-- What is staged whatever the bytes of payloads are is a payload.
use Rattle.std.proofs.Common.{◌≡◌, ◌⊎◌, inl, inr, ℕ, zero, suc, ◌<◌, Bool, true, false, cond, ◌||◌, List, [], ◌∷◌, ◌++◌, map, length, slice_get, Some, refl, sym, ◌∙◌, ap, subst, arith}
use Rattle.std.proofs.lemmas.List.{length-append}
use Rattle.std.proofs.lemmas.Option.{none-some, same_Some}
use Rattle.ips_text.specs.Ancestry.{same_path}
use Rattle.ips_text.proofs.Ancestry.{same_path-self, same_path-true}
use Rattle.ips_outside.specs.Image.{Dir, File, Image, Link, Other}
use Rattle.ips_digest.specs.Name.{spelling}
use Rattle.ips_digest.specs.declared.name.PayloadName.{PayloadName}
use Rattle.ips_journal.specs.declared.staged.Staged.{Staged}
use Rattle.ips_journal.specs.declared.staged.Staged.TheVariants.{Bytes, Payload, Standing}
use Rattle.ips_after.specs.Change.{Change, Changes, Given, Joined, Kept, Laid, Removed}
use Rattle.ips_after.specs.Lists.{listed}
use Rattle.ips_after.specs.Planned.{contents_of, with_content}
use Rattle.ips_emit.specs.Emitted.{staged_bytes}

-- ---- lists of contents

-- These bytes are among them.
abbrev pub IsAmong : List ℕ → List (List ℕ) → Type 0
IsAmong b [] = ⊥
IsAmong b (c ∷ contents) = (c ≡ b) ⊎ IsAmong b contents

among_more : (c : Change) (b : List ℕ) (contents : List (List ℕ)) → IsAmong b contents → IsAmong b (with_content c contents)
among_more Kept b contents h = h
among_more Removed b contents h = h
among_more (Laid (Dir m f)) b contents h = h
among_more (Laid (File m x)) b contents h = inr h
among_more (Laid (Link g)) b contents h = h
among_more (Laid Other) b contents h = h
among_more (Joined to) b contents h = h
among_more (Given m) b contents h = h

-- the bytes of a file that is laid are among the contents
pub laid_among : (change : Changes) (order : List (List ℕ)) (q : List ℕ) (m : ℕ) (b : List ℕ) → listed order q ≡ true → change q ≡ Laid (File m b) → IsAmong b (contents_of change order)
laid_among change [] q m b h laid = cc
laid_among change (p ∷ order) q m b h laid = go (same_path p q) refl h (λ is. laid_among change order q m b is laid)
  where
    go : (same : Bool) → same_path p q ≡ same → (same || listed order q) ≡ true → (listed order q ≡ true → IsAmong b (contents_of change order)) → IsAmong b (with_content (change p) (contents_of change order))
    go true same is later = subst (λ (c : Change). IsAmong b (with_content c (contents_of change order))) (sym (ap change (same_path-true p q same) ∙ laid)) (inl refl)
    go false same is later = among_more (change p) b (contents_of change order) (later is)

-- ---- what is staged

-- The payload of this spelling is staged.
pub record IsPayloadStaged (staged : List Staged) (payload : List ℕ) : Type 0 where
  pub at : ℕ
  pub name : PayloadName
  pub stands : slice_get staged at ≡ Some (Payload name)
  pub spelled : spelling name ≡ payload

module _ (t : Image) where
  -- the bytes of each payload where none are known, and where those of one are
  abbrev no_bytes : List ℕ → List ℕ
  no_bytes payload = []

  abbrev bytes_for : List ℕ → List ℕ → List ℕ → List ℕ
  bytes_for payload b x = cond (same_path x payload) b []

  -- bytes that are longer than all that is staged
  abbrev longer : List Staged → List ℕ
  longer [] = 0 ∷ []
  longer (s ∷ staged) = staged_bytes no_bytes t s ++ longer staged

  some_longer : (staged : List Staged) → 0 < length (longer staged)
  some_longer [] = omega arith
  some_longer (s ∷ staged) = omega (arith, length-append (staged_bytes no_bytes t s) (longer staged), some_longer staged)

  all_shorter : (staged : List Staged) (n : ℕ) (s : Staged) → slice_get staged n ≡ Some s → length (staged_bytes no_bytes t s) < length (longer staged)
  all_shorter [] n s at = absurd (none-some s at)
  all_shorter (x ∷ staged) zero s at =
      let here = ap (λ (y : Staged). length (staged_bytes no_bytes t y)) (same_Some x s at) in
      omega (arith, here, length-append (staged_bytes no_bytes t x) (longer staged), some_longer staged)
  all_shorter (x ∷ staged) (suc n) s at = omega (arith, all_shorter staged n s at, length-append (staged_bytes no_bytes t x) (longer staged))

  -- The bytes are those of something that is staged.
  record IsStagedAt (bytes : List ℕ → List ℕ) (staged : List Staged) (b : List ℕ) : Type 0 where
    at : ℕ
    what : Staged
    stands : slice_get staged at ≡ Some what
    is : staged_bytes bytes t what ≡ b

  staged_at : (bytes : List ℕ → List ℕ) (staged : List Staged) (b : List ℕ) → IsAmong b (map (staged_bytes bytes t) staged) → IsStagedAt bytes staged b
  staged_at bytes [] b h = absurd h
  staged_at bytes (s ∷ staged) b (inl is) = record { at = zero; what = s; stands = refl; is = is }
  staged_at bytes (s ∷ staged) b (inr h) = let x = staged_at bytes staged b h in record { at = suc x.at; what = x.what; stands = x.stands; is = x.is }

  module _ (staged : List Staged) (payload : List ℕ) where
    abbrev bytes : List ℕ → List ℕ
    bytes = bytes_for payload (longer staged)

    -- the payload has the long bytes
    long : bytes payload ≡ longer staged
    long = ap (λ (b : Bool). cond b (longer staged) []) (same_path-self payload)

    -- what is staged without them hasn't
    not_long : (n : ℕ) (s : Staged) → slice_get staged n ≡ Some s → staged_bytes no_bytes t s ≡ longer staged → ⊥
    not_long n s at is = omega (arith, ap length is, all_shorter staged n s at)

    named : (n : ℕ) (name : PayloadName) → slice_get staged n ≡ Some (Payload name) → bytes (spelling name) ≡ longer staged → IsPayloadStaged staged payload
    named n name at is = go (same_path (spelling name) payload) refl is
      where
        go : (same : Bool) → same_path (spelling name) payload ≡ same → cond same (longer staged) [] ≡ longer staged → IsPayloadStaged staged payload
        go true same h = record { at = n; name = name; stands = at; spelled = same_path-true (spelling name) payload same }
        go false same h = absurd (not_long n (Payload name) at h)

    found : (n : ℕ) (s : Staged) → slice_get staged n ≡ Some s → staged_bytes bytes t s ≡ longer staged → IsPayloadStaged staged payload
    found n (Payload name) at is = named n name at is
    found n (Bytes given) at is = absurd (not_long n (Bytes given) at is)
    found n (Standing path) at is = absurd (not_long n (Standing path) at is)

    -- whatever the bytes of payloads, those of this one are staged: so it is
    pub payload_staged : ((bytes : List ℕ → List ℕ) → IsAmong (bytes payload) (map (staged_bytes bytes t) staged)) → IsPayloadStaged staged payload
    payload_staged all = let x = staged_at bytes staged (bytes payload) (all bytes) in found x.at x.what x.stands (x.is ∙ long)
