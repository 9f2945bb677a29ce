-- What a call on a repository answers, by what the repository holds.
use Rattle.std.specs.Prelude.{◌≡◌, Result, Ok, Err}
use Rattle.ips_text.specs.declared.refusal.Or.{Or}
use Rattle.ips_text.specs.declared.refusal.Or.TheVariants.{Bad, OutOfMemory}
use Rattle.ips_repo.specs.declared.fault.RepoFault.{RepoFault}
use Rattle.ips_repo.specs.declared.fault.RepoFault.TheVariants as fault

-- the fault is the one that is meant; a call that failed says nothing of what is meant
abbrev pub IsMeantFault : {Y : Type 0} → RepoFault → Result Y RepoFault → Type 0
IsMeantFault fault.NoRepository meant = meant ≡ Err fault.NoRepository
IsMeantFault (fault.BadCatalog why) meant = meant ≡ Err (fault.BadCatalog why)
IsMeantFault fault.ManifestMissing meant = meant ≡ Err fault.ManifestMissing
IsMeantFault (fault.BadManifest why) meant = meant ≡ Err (fault.BadManifest why)
IsMeantFault fault.PayloadMissing meant = meant ≡ Err fault.PayloadMissing
IsMeantFault (fault.PayloadDamaged found) meant = meant ≡ Err (fault.PayloadDamaged found)
IsMeantFault (fault.Compressed found) meant = meant ≡ Err (fault.Compressed found)
IsMeantFault (fault.TooLarge which count) meant = meant ≡ Err (fault.TooLarge which count)
IsMeantFault fault.SourceFault meant = Unit {0}

-- what was answered, seen by view, is what is meant, unless a call failed or memory ran out
abbrev pub Answers : {X Y : Type 0} → (X → Y) → Result X (Or RepoFault) → Result Y RepoFault → Type 0
Answers view (Ok x) meant = meant ≡ Ok (view x)
Answers view (Err (Bad why)) meant = IsMeantFault why meant
Answers view (Err OutOfMemory) meant = Unit {0}
