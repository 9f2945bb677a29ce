-- Records that aren't read.
use Rattle.std.proofs.Common.{◌≡◌, ◌<◌, ℕ, List, Option, Some, None, Result, Ok, Err, refl, sym, subst}
use Rattle.ips_text.specs.declared.refusal.Or.{Or}
use Rattle.ips_text.specs.declared.refusal.Or.TheVariants.{Bad, OutOfMemory}
use Rattle.ips_text.specs.Reading.{IfBad}
use Rattle.ips_text.specs.declared.limits.Which.TheVariants.{ImageFileBytes}
use Rattle.ips_outside.specs.Image.{Image}
use Rattle.ips_files.specs.Files.{file_at, IsRefusal, IsOver}
use Rattle.ips_files.specs.declared.reading.FileFault.{FileFault}
use Rattle.ips_files.specs.declared.reading.FileFault.TheVariants as file
use Rattle.ips_load.specs.Held.{record_limit}
use Rattle.ips_load.specs.Fault.{IfFault, TellsLine, IsFaultFor, IsUnread}
use Rattle.ips_load.specs.declared.fault.StateFault.{StateFault}
use Rattle.ips_load.specs.declared.fault.StateFault.TheVariants.{NoImage, BadImage, TooLarge, FolderFault}

missing_told : (t : Image) (path : List ℕ) (f : StateFault) → file_at t path ≡ None → TellsLine path 0 f → IsUnread t path f
missing_told t path NoImage none h = h
missing_told t path (BadImage file line) none h = (h.0, h.1, none)
missing_told t path (TooLarge which count) none h = absurd h
missing_told t path FolderFault none h = tt

-- why a record isn't read, by why its file isn't
pub unread_told : (t : Image) (path : List ℕ) (why : FileFault) (e : Or StateFault) → IsRefusal record_limit (file_at t path) why → IsOver record_limit why → IsFaultFor why path e → IfFault e (IsUnread t path)
unread_told t path file.Missing (Bad f) refused over h = missing_told t path f refused h
unread_told t path file.Missing OutOfMemory refused over h = tt
unread_told t path (file.TooLarge count) (Bad f) refused over h =
    let same : TooLarge ImageFileBytes count ≡ f = cc in subst (IsUnread t path) same (refl, refused, over)
unread_told t path (file.TooLarge count) OutOfMemory refused over h = tt
unread_told t path file.SourceFault (Bad f) refused over h = let same : FolderFault ≡ f = cc in subst (IsUnread t path) same tt
unread_told t path file.SourceFault OutOfMemory refused over h = tt

-- a call failed in the one exactly where in the other
pub fault_to : (path : List ℕ) (why : FileFault) (e : Or StateFault) → IsFaultFor why path e → why ≡ file.SourceFault → e ≡ Bad FolderFault
fault_to path file.Missing e h is = absurd cc
fault_to path (file.TooLarge count) e h is = absurd cc
fault_to path file.SourceFault e h is = h

pub fault_from : (path : List ℕ) (why : FileFault) (e : Or StateFault) → IsFaultFor why path e → e ≡ Bad FolderFault → why ≡ file.SourceFault
fault_from path file.Missing e h is = absurd (subst (λ (x : Or StateFault). IfFault x (TellsLine path 0)) is h)
fault_from path (file.TooLarge count) e h is = absurd cc
fault_from path file.SourceFault e h is = refl

-- ---- answers

pub fault_weaker : (e : Or StateFault) (P Q : StateFault → Type 0) → ((f : StateFault) → P f → Q f) → IfFault e P → IfFault e Q
fault_weaker (Bad f) P Q to h = to f h
fault_weaker OutOfMemory P Q to h = tt

-- a fact about a fault is one about the answer
pub as_bad : (X : Type 0) (e : Or StateFault) (P : StateFault → Type 0) → IfFault e P → (let r : Result X (Or StateFault) = Err e in IfBad r P)
as_bad X (Bad f) P h = h
as_bad X OutOfMemory P h = tt

-- a file's failed call is a record's
pub failed_to : {X Y : Type 0} (r : Result X (Or FileFault)) (d : Or FileFault) (why : FileFault) (path : List ℕ) (e : Or StateFault) → r ≡ Err d → d ≡ Bad why → IsFaultFor why path e
    → r ≡ Err (Bad file.SourceFault) → (let s : Result Y (Or StateFault) = Err e in s) ≡ Err (Bad FolderFault)
failed_to r d why path e is bad h failed = let same : why ≡ file.SourceFault = cc in let told = fault_to path why e h same in cc

pub failed_from : {X Y : Type 0} (r : Result X (Or FileFault)) (d : Or FileFault) (why : FileFault) (path : List ℕ) (e : Or StateFault) → r ≡ Err d → d ≡ Bad why → IsFaultFor why path e
    → (let s : Result Y (Or StateFault) = Err e in s) ≡ Err (Bad FolderFault) → r ≡ Err (Bad file.SourceFault)
failed_from r d why path e is bad h failed = let told : e ≡ Bad FolderFault = cc in let same = fault_from path why e h told in cc

-- a bad line is no failed call
pub line_no_failure : (Y : Type 0) (e : Or StateFault) (path : List ℕ) (line : ℕ) → IfFault e (TellsLine path line) → (let s : Result Y (Or StateFault) = Err e in s) ≡ Err (Bad FolderFault) → ⊥
line_no_failure Y e path line h failed = let told : e ≡ Bad FolderFault = cc in subst (λ (x : Or StateFault). IfFault x (TellsLine path line)) told h
