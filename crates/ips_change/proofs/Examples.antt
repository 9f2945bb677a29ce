-- What is learned of what stands, in small cases that compute. Bytes are the payload that is spelled as they are.
use Rattle.std.proofs.Common.{◌≡◌, ℕ, true, false, List, [], ◌∷◌, Option, Some, None, refl}
use Rattle.ips_text.specs.Ancestry.{same_path}
use Rattle.ips_outside.specs.Image.{Entry, File, Link}
use Rattle.ips_action.specs.declared.action.Preserve.TheVariants as preserves
use Rattle.ips_after.specs.Request.{WantDir, WantFile, WantLink, Wanted}
use Rattle.ips_change.specs.declared.stands.Stands.{Stands}
use Rattle.ips_change.specs.declared.stands.Stands.TheVariants as stands
use Rattle.ips_change.specs.Stands.{stands_of}

abbrev one : List ℕ
one = 1 ∷ []

abbrev two : List ℕ
two = 2 ∷ []

abbrev three : List ℕ
three = 3 ∷ []

abbrev learned : Option Wanted → Option Wanted → Option Entry → Stands
learned = stands_of same_path

-- an equal entry asks nothing, whatever its preserve
equal : learned (Some (WantFile one 420 preserves.None)) (Some (WantFile one 420 preserves.True)) (Some (File 384 two)) ≡ stands.Unasked
equal = refl

-- a plain file that is updated isn't read
plain : learned (Some (WantFile one 420 preserves.None)) (Some (WantFile two 420 preserves.None)) (Some (File 420 one)) ≡ stands.File 420 false false
plain = refl

-- one that may be edited is compared with the old payload, and with the new one where it has another
unedited : learned (Some (WantFile one 420 preserves.True)) (Some (WantFile two 420 preserves.True)) (Some (File 420 one)) ≡ stands.File 420 true false
unedited = refl

edited : learned (Some (WantFile one 420 preserves.True)) (Some (WantFile two 420 preserves.True)) (Some (File 420 three)) ≡ stands.File 420 false false
edited = refl

foreseen : learned (Some (WantFile one 420 preserves.True)) (Some (WantFile two 420 preserves.True)) (Some (File 420 two)) ≡ stands.File 420 false true
foreseen = refl

-- a file that is first wanted is compared with its payload
found : learned None (Some (WantFile one 420 preserves.None)) (Some (File 384 one)) ≡ stands.File 384 true false
found = refl

-- where a directory or nothing is wanted any more, only the old payload counts
replaced : learned (Some (WantFile one 420 preserves.True)) (Some (WantDir None)) (Some (File 420 one)) ≡ stands.File 420 true false
replaced = refl

dropped : learned (Some (WantFile one 420 preserves.None)) None (Some (File 420 one)) ≡ stands.File 420 false false
dropped = refl

-- a link is read where one is wanted
same_link : learned None (Some (WantLink one)) (Some (Link one)) ≡ stands.Link true
same_link = refl

other_link : learned None (Some (WantDir None)) (Some (Link one)) ≡ stands.Link false
other_link = refl
