-- A report tells the kind of its outcome by how it begins.
use lib.Chars.{codes}
use Rattle.std.proofs.Common.{◌≡◌, ℕ, Bool, true, false, cond, List, [], ◌∷◌, ◌++◌, IsFalse, length, refl, sym, ap, ◌∙◌}
use Rattle.std.specs.Fmt.{decimal}
use Rattle.std.specs.List.{flat_map}
use Rattle.ips_text.specs.Quote.{shown}
use Rattle.ips_steps.specs.Private.{begins}
use Rattle.ips_counts.specs.declared.counts.Counts.{Counts}
use Rattle.ips_counts.specs.declared.sorts.Sorts.{Sorts}
use Rattle.ips_meaning.specs.declared.finding.Finding.{Finding}
use Rattle.ips_meaning.specs.declared.finding.Damage.{Damage}
use Rattle.ips_meaning.specs.declared.finding.Damage.TheVariants.{Missing, WrongKind, WrongContent, WrongMode, WrongTarget, NotSame}
use Rattle.ips_report.specs.Report.{damage_text, done_text, finding_text, folder_text, line, prefixed_lines, recovered_text, report_text}
use Rattle.ips_report.specs.declared.outcome.Outcome.{Outcome}
use Rattle.ips_report.specs.declared.outcome.Outcome.TheVariants.{Usage, Unfinished, BadJournal, Recovered, NoImage, ImageExists, BadImage, OldFormat, NoIndex, NoRepository, BadCatalog, NoMatch, Ambiguous, ManifestMissing, BadManifest, BadDepend, NoSolution, SearchSpent, NothingToDo, Reserved, Clash, BadAccountLine, IdTaken, UnknownOwner, LicenseNeeded, Unmovable, PayloadMissing, PayloadDamaged, Compressed, TooLarge, ActuatorFailed, SpawnFault, SourceFault, FolderFault, Damaged, Done, Shown, OutOfMemory}
use Rattle.ips_apart.specs.Kind.{kind_of, shows}

-- how reports begin, and the kind of outcome that each beginning tells
abbrev beginnings : List (List ℕ × List ℕ)
beginnings = (codes "usage: word ", codes "usage")
    ∷ (codes "unfinished: run fix", codes "unfinished")
    ∷ (codes "bad journal line ", codes "bad journal")
    ∷ (codes "recovered: ", codes "recovered")
    ∷ (codes "no image", codes "no image")
    ∷ (codes "image exists", codes "image exists")
    ∷ (codes "bad image ", codes "bad image")
    ∷ (codes "old format: ", codes "old format")
    ∷ (codes "no index", codes "no index")
    ∷ (codes "no repository", codes "no repository")
    ∷ (codes "bad catalog", codes "bad catalog")
    ∷ (codes "no match ", codes "no match")
    ∷ (codes "ambiguous ", codes "ambiguous")
    ∷ (codes "manifest missing ", codes "manifest missing")
    ∷ (codes "bad manifest ", codes "bad manifest")
    ∷ (codes "bad depend ", codes "bad depend")
    ∷ (codes "no solution", codes "no solution")
    ∷ (codes "search limit ", codes "search spent")
    ∷ (codes "nothing to do", codes "nothing to do")
    ∷ (codes "reserved ", codes "reserved")
    ∷ (codes "clash ", codes "conflict")
    ∷ (codes "bad account line ", codes "bad account line")
    ∷ (codes "id taken ", codes "id taken")
    ∷ (codes "unknown owner ", codes "unknown owner")
    ∷ (codes "unmovable ", codes "unmovable")
    ∷ (codes "payload missing ", codes "payload missing")
    ∷ (codes "payload damaged ", codes "payload damaged")
    ∷ (codes "compressed ", codes "compressed")
    ∷ (codes "too large: ", codes "too large")
    ∷ (codes "actuator failed ", codes "actuator failed")
    ∷ (codes "spawn fault ", codes "spawn fault")
    ∷ (codes "source fault", codes "source fault")
    ∷ (codes "folder fault: ", codes "folder fault")
    ∷ (codes "missing ", codes "damaged")
    ∷ (codes "wrong ", codes "damaged")
    ∷ (codes "not same ", codes "damaged")
    ∷ (codes "damaged ", codes "damaged")
    ∷ (codes "license: ", codes "done")
    ∷ (codes "install ", codes "done")
    ∷ (codes "out of memory", codes "out of memory")
    ∷ []

-- the kind that a text tells; a text without lines asks for no license
abbrev told_in : List (List ℕ × List ℕ) → List ℕ → List ℕ
told_in [] text = codes "license needed"
told_in (x ∷ rest) text = cond (begins x.0 text) x.1 (told_in rest text)

recovered_kind : (forward : Bool) → told_in beginnings (recovered_text forward) ≡ codes "recovered"
recovered_kind true = refl
recovered_kind false = refl

folder_kind : (unfinished : Bool) → told_in beginnings (folder_text unfinished) ≡ codes "folder fault"
folder_kind true = refl
folder_kind false = refl

license_kind : (list : List (List ℕ)) → told_in beginnings (prefixed_lines (codes "license needed: ") list) ≡ codes "license needed"
license_kind [] = refl
license_kind (x ∷ rest) = refl

done_kind : (counts : Counts) (steps : Sorts) (licenses : List (List ℕ)) → told_in beginnings (done_text counts steps licenses) ≡ codes "done"
done_kind counts steps [] = refl
done_kind counts steps (x ∷ rest) = refl

damage_kind : (d : Damage) (path more rest : List ℕ) → told_in beginnings ((line (damage_text d ++ 32 ∷ path) ++ more) ++ rest) ≡ codes "damaged"
damage_kind Missing path more rest = refl
damage_kind WrongKind path more rest = refl
damage_kind WrongContent path more rest = refl
damage_kind WrongMode path more rest = refl
damage_kind WrongTarget path more rest = refl
damage_kind NotSame path more rest = refl

damaged_kind : (findings : List Finding) (rest : List ℕ) → told_in beginnings (flat_map finding_text findings ++ line (codes "damaged " ++ rest)) ≡ codes "damaged"
damaged_kind [] rest = refl
damaged_kind (f ∷ findings) rest = damage_kind f.damage (shown f.path.bytes) (flat_map finding_text findings) (line (codes "damaged " ++ rest))

-- a report begins as those of its kind
kind_told : (o : Outcome) → IsFalse (shows o) → told_in beginnings (report_text o) ≡ kind_of o
kind_told (Usage place why) h = refl
kind_told Unfinished h = refl
kind_told (BadJournal number) h = refl
kind_told (Recovered forward) h = recovered_kind forward
kind_told NoImage h = refl
kind_told ImageExists h = refl
kind_told (BadImage file number) h = refl
kind_told OldFormat h = refl
kind_told NoIndex h = refl
kind_told NoRepository h = refl
kind_told (BadCatalog fault) h = refl
kind_told (NoMatch pattern) h = refl
kind_told (Ambiguous pattern stems) h = refl
kind_told (ManifestMissing fmri) h = refl
kind_told (BadManifest fmri fault) h = refl
kind_told (BadDepend fmri number) h = refl
kind_told (NoSolution stems refutation) h = refl
kind_told (SearchSpent limit) h = refl
kind_told NothingToDo h = refl
kind_told (Reserved path) h = refl
kind_told (Clash clash) h = refl
kind_told (BadAccountLine book number) h = refl
kind_told (IdTaken id) h = refl
kind_told (UnknownOwner path name) h = refl
kind_told (LicenseNeeded list) h = license_kind list.items
kind_told (Unmovable path) h = refl
kind_told (PayloadMissing name) h = refl
kind_told (PayloadDamaged name found) h = refl
kind_told (Compressed name found) h = refl
kind_told (TooLarge which count) h = refl
kind_told (ActuatorFailed after words status) h = refl
kind_told (SpawnFault after) h = refl
kind_told SourceFault h = refl
kind_told (FolderFault unfinished) h = folder_kind unfinished
kind_told (Damaged findings) h = damaged_kind findings.items (decimal (length findings.items))
kind_told (Done counts steps licenses) h = done_kind counts steps licenses.items
kind_told (Shown text) h = absurd cc
kind_told OutOfMemory h = refl

pub kinds_apart : (o p : Outcome) → IsFalse (shows o) → IsFalse (shows p) → report_text o ≡ report_text p → kind_of o ≡ kind_of p
kinds_apart o p ho hp e = sym (kind_told o ho) ∙ ap (told_in beginnings) e ∙ kind_told p hp
