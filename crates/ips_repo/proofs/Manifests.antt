-- What a manifest's file gives.
use Rattle.std.proofs.Common.{◌≡◌, ℕ, ◌≤◌, Bool, true, false, cond, nat_lt, List, length, Option, Some, None, Result, Ok, Err, refl, ◌∙◌, ap, subst, arith}
use Rattle.std.proofs.lemmas.Bool.Decides.{nat_tests}
use Rattle.ips_text.specs.declared.limits.Which.{Which}
use Rattle.ips_text.specs.declared.limits.Which.TheVariants.{ManifestBytes}
use Rattle.ips_text.specs.declared.refusal.Or.{Or}
use Rattle.ips_text.specs.declared.refusal.Or.TheVariants.{Bad, OutOfMemory}
use Rattle.ips_text.specs.Reading.{Gives, IfBad}
use Rattle.ips_manifest.specs.declared.line.Line.{Line}
use Rattle.ips_files.specs.Files.{HasSize}
use Rattle.ips_repo.specs.Answer.{IsMeantFault, Answers}
use Rattle.ips_repo.specs.Manifest.{manifest_limit, manifest_in, HoldsManifest, IsManifestRefusal, IsManifestFault, IsBytesFault, IsTextFault}
use Rattle.ips_repo.specs.declared.fault.RepoFault.{RepoFault}
use Rattle.ips_repo.specs.declared.fault.RepoFault.TheVariants as fault

-- what is meant of bytes, by whether they are too many
abbrev judged : Bool → List ℕ → Result (List ℕ) RepoFault
judged large bytes = cond large (Err (fault.TooLarge ManifestBytes (length bytes))) (Ok bytes)

given_some : (bytes b : List ℕ) (large : Bool) → nat_lt manifest_limit (length bytes) ≡ large → judged large bytes ≡ Ok b → (Some bytes ≡ Some b) × (length b ≤ manifest_limit)
given_some bytes b true test is = cc
given_some bytes b false test is =
    let one : bytes ≡ b = cc in
    let within : length bytes ≤ manifest_limit = grind (arith, nat_tests) in
    (ap (λ (x : List ℕ). Some x) one, subst (λ (x : List ℕ). length x ≤ manifest_limit) one within)

-- the bytes that are given are the file's, and not too many
pub given_bytes : (file : Option (List ℕ)) (b : List ℕ) → manifest_in file ≡ Ok b → (file ≡ Some b) × (length b ≤ manifest_limit)
given_bytes None b is = cc
given_bytes (Some bytes) b is = given_some bytes b (nat_lt manifest_limit (length bytes)) refl is

-- the bytes of a manifest are given
pub holds_bytes : (file : Option (List ℕ)) (lines : List Line) (size : ℕ) (h : HoldsManifest file lines size) → manifest_in file ≡ Ok h.bytes
holds_bytes file lines size h =
    let within = h.within in
    let small : nat_lt manifest_limit (length h.bytes) ≡ false = grind (arith, nat_tests) in
    ap manifest_in h.stands ∙ ap (λ (large : Bool). judged large h.bytes) small

judged_missing : (bytes : List ℕ) (large : Bool) → judged large bytes ≡ Err fault.ManifestMissing → ⊥
judged_missing bytes true is = cc
judged_missing bytes false is = cc

missing_none : (file : Option (List ℕ)) → manifest_in file ≡ Err fault.ManifestMissing → file ≡ None
missing_none None is = refl
missing_none (Some bytes) is = absurd (judged_missing bytes (nat_lt manifest_limit (length bytes)) is)

judged_large : (bytes : List ℕ) (which : Which) (count : ℕ) (large : Bool) → judged large bytes ≡ Err (fault.TooLarge which count) → length bytes ≡ count
judged_large bytes which count true is = cc
judged_large bytes which count false is = cc

large_sized : (file : Option (List ℕ)) (which : Which) (count : ℕ) → manifest_in file ≡ Err (fault.TooLarge which count) → HasSize file count
large_sized None which count is = cc
large_sized (Some bytes) which count is = judged_large bytes which count (nat_lt manifest_limit (length bytes)) is

refused_why : (file : Option (List ℕ)) (why : RepoFault) → IsBytesFault why → IsMeantFault why (manifest_in file) → IsManifestRefusal file why
refused_why file fault.NoRepository is says = is
refused_why file (fault.BadCatalog why) is says = is
refused_why file fault.ManifestMissing is says = missing_none file says
refused_why file (fault.BadManifest why) is says = absurd is
refused_why file fault.PayloadMissing is says = is
refused_why file (fault.PayloadDamaged found) is says = is
refused_why file (fault.Compressed found) is says = is
refused_why file (fault.TooLarge which count) is says = (is, large_sized file which count says)
refused_why file fault.SourceFault is says = tt

bytes_why : (why : RepoFault) → IsBytesFault why → IsManifestFault why
bytes_why fault.NoRepository is = is
bytes_why (fault.BadCatalog why) is = is
bytes_why fault.ManifestMissing is = tt
bytes_why (fault.BadManifest why) is = absurd is
bytes_why fault.PayloadMissing is = is
bytes_why (fault.PayloadDamaged found) is = is
bytes_why (fault.Compressed found) is = is
bytes_why (fault.TooLarge which count) is = is
bytes_why fault.SourceFault is = tt

-- where bytes are meant, only a failed call says nothing of them
meant_why : {Y : Type 0} (meant : Y) (file : Option (List ℕ)) (bytes : List ℕ) → manifest_in file ≡ Ok bytes → (why : RepoFault) → IsMeantFault why (manifest_in file) → IsMeantFault why (Ok meant)
meant_why meant file bytes is fault.NoRepository says = cc
meant_why meant file bytes is (fault.BadCatalog why) says = cc
meant_why meant file bytes is fault.ManifestMissing says = cc
meant_why meant file bytes is (fault.BadManifest why) says = cc
meant_why meant file bytes is fault.PayloadMissing says = cc
meant_why meant file bytes is (fault.PayloadDamaged found) says = cc
meant_why meant file bytes is (fault.Compressed found) says = cc
meant_why meant file bytes is (fault.TooLarge which count) says = cc
meant_why meant file bytes is fault.SourceFault says = tt

-- the same of an answer that is a fault, or want of memory
module _ (A B : Type 0) (view : A → List ℕ) (file : Option (List ℕ)) where
  pub refused_bytes : (e : Or RepoFault) → IfBad {X = A} (Err e) IsBytesFault → Answers view (Err e) (manifest_in file) → IfBad {X = B} (Err e) (IsManifestRefusal file)
  refused_bytes (Bad why) is says = refused_why file why is says
  refused_bytes OutOfMemory is says = tt

  pub faults_bytes : (e : Or RepoFault) → IfBad {X = A} (Err e) IsBytesFault → IfBad {X = B} (Err e) IsManifestFault
  faults_bytes (Bad why) is = bytes_why why is
  faults_bytes OutOfMemory is = tt

  pub only_bytes : {Y : Type 0} (see : B → Y) (meant : Y) (bytes : List ℕ) → manifest_in file ≡ Ok bytes → (e : Or RepoFault) → Answers view (Err e) (manifest_in file) → Answers see (Err e) (Ok meant)
  only_bytes see meant bytes is (Bad why) says = meant_why meant file bytes is why says
  only_bytes see meant bytes is OutOfMemory says = tt

-- the fault of some bytes is told
text_why : (bytes : List ℕ) (file : Option (List ℕ)) → file ≡ Some bytes → length bytes ≤ manifest_limit → (why : RepoFault) → IsTextFault bytes why → IsManifestRefusal file why
text_why bytes file is within fault.NoRepository says = says
text_why bytes file is within (fault.BadCatalog why) says = says
text_why bytes file is within fault.ManifestMissing says = absurd says
text_why bytes file is within (fault.BadManifest why) says = record { bytes = bytes; stands = is; within = within; first = says }
text_why bytes file is within fault.PayloadMissing says = says
text_why bytes file is within (fault.PayloadDamaged found) says = says
text_why bytes file is within (fault.Compressed found) says = says
text_why bytes file is within (fault.TooLarge which count) says = absurd says
text_why bytes file is within fault.SourceFault says = tt

some_why : (bytes : List ℕ) (why : RepoFault) → IsTextFault bytes why → IsManifestFault why
some_why bytes fault.NoRepository says = says
some_why bytes (fault.BadCatalog why) says = says
some_why bytes fault.ManifestMissing says = tt
some_why bytes (fault.BadManifest why) says = (bytes, says)
some_why bytes fault.PayloadMissing says = says
some_why bytes (fault.PayloadDamaged found) says = says
some_why bytes (fault.Compressed found) says = says
some_why bytes (fault.TooLarge which count) says = absurd says
some_why bytes fault.SourceFault says = tt

-- the fault of bytes is no failed call
pub no_failure : (bytes : List ℕ) (why : RepoFault) → IsTextFault bytes why → why ≡ fault.SourceFault → ⊥
no_failure bytes fault.NoRepository says is = says
no_failure bytes (fault.BadCatalog why) says is = says
no_failure bytes fault.ManifestMissing says is = says
no_failure bytes (fault.BadManifest why) says is = cc
no_failure bytes fault.PayloadMissing says is = says
no_failure bytes (fault.PayloadDamaged found) says is = says
no_failure bytes (fault.Compressed found) says is = says
no_failure bytes (fault.TooLarge which count) says is = says
no_failure bytes fault.SourceFault says is = says

module _ (A B : Type 0) (bytes : List ℕ) where
  pub refused_text : (file : Option (List ℕ)) → file ≡ Some bytes → length bytes ≤ manifest_limit → (e : Or RepoFault) → IfBad {X = A} (Err e) (IsTextFault bytes) → IfBad {X = B} (Err e) (IsManifestRefusal file)
  refused_text file is within (Bad why) says = text_why bytes file is within why says
  refused_text file is within OutOfMemory says = tt

  pub faults_text : (e : Or RepoFault) → IfBad {X = A} (Err e) (IsTextFault bytes) → IfBad {X = B} (Err e) IsManifestFault
  faults_text (Bad why) says = some_why bytes why says
  faults_text OutOfMemory says = tt

  pub steady_text : (e : Or RepoFault) → IfBad {X = A} (Err e) (IsTextFault bytes) → e ≡ Bad fault.SourceFault → ⊥
  steady_text (Bad why) says is = let one : why ≡ fault.SourceFault = cc in no_failure bytes why says one
  steady_text OutOfMemory says is = cc

-- an answer that is a fault answers no lines that are meant
gives_why : {Y Z : Type 0} (lines : Y) (meant : Z) (why : RepoFault) → (let r : Result Y RepoFault = Ok lines in r) ≡ Err why → IsMeantFault why (Ok meant)
gives_why lines meant why is = absurd (cc)

pub only_text : {A B Y Z : Type 0} (view : A → Y) (see : B → Z) (lines : Y) (meant : Z) (e : Or RepoFault) → Gives view (Err e) (Ok lines) → Answers see (Err e) (Ok meant)
only_text view see lines meant (Bad why) gives = gives_why lines meant why gives
only_text view see lines meant OutOfMemory gives = tt
