-- What becomes of a path, as the calls tell it.
use Rattle.std.specs.Prelude.{ℕ, false, List, Option, Some, None}
use Rattle.ips_outside.specs.Image.{Entry, Dir, File, Link}
use Rattle.ips_digest.specs.Name.{spelling}
use Rattle.ips_preserve.specs.declared.keep.Keep.{Keep}
use Rattle.ips_preserve.specs.declared.keep.Keep.TheVariants.{Lay, Stay, SalvageLay, SaveOld, LayNew, SaveLegacy, Drop, SalvageDrop}
use Rattle.ips_after.specs.Change as after
use Rattle.ips_after.specs.Request.{Request, WantDir, WantFile, WantHard, WantLink, Wanted}
use Rattle.ips_after.specs.Salvage.{Side, copied, legacy_suffix, new_suffix, old_suffix}
use Rattle.ips_change.specs.wanted.Named.{is_payload_of}
use Rattle.ips_change.specs.declared.change.Beside.{Beside}
use Rattle.ips_change.specs.declared.change.Beside.TheVariants.{Old, Legacy, New}
use Rattle.ips_change.specs.declared.change.Change.{Change}
use Rattle.ips_change.specs.declared.change.Change.TheVariants as told

-- the request, where payloads are told by the spelling of their names
abbrev pub naming : Request → Request
naming r = record { old = r.old; new = r.new; bytes = r.bytes; holds = is_payload_of; over = r.over }

-- what becomes of a path as it is told, with the bytes of each payload
abbrev pub change_told : (List ℕ → List ℕ) → Change → after.Change
change_told bytes told.Kept = after.Kept
change_told bytes told.Removed = after.Removed
change_told bytes (told.Dir mode) = after.Laid (Dir mode false)
change_told bytes (told.File payload mode) = after.Laid (File mode (bytes (spelling payload.now)))
change_told bytes (told.Link target) = after.Laid (Link target.now)
change_told bytes (told.Hard to) = after.Joined to.now.bytes
change_told bytes (told.Mode mode) = after.Given mode

-- the file that is wanted, beside its path
abbrev pub new_beside : (List ℕ → List ℕ) → Option Wanted → Option Side
new_beside bytes (Some (WantDir m)) = None
new_beside bytes (Some (WantFile payload m preserve)) = Some (record { suffix = new_suffix; entry = File m (bytes payload) })
new_beside bytes (Some (WantLink target)) = None
new_beside bytes (Some (WantHard to)) = None
new_beside bytes None = None

-- what is put beside a path as it is told, with what is wanted and what stands there
abbrev pub side_told : (List ℕ → List ℕ) → Option Wanted → Option Entry → Option Beside → Option Side
side_told bytes new e (Some Old) = copied old_suffix e
side_told bytes new e (Some Legacy) = copied legacy_suffix e
side_told bytes new e (Some New) = new_beside bytes new
side_told bytes new e None = None

-- what is put beside a file by the answer of the table
abbrev pub beside_for : Keep → Option Beside
beside_for SaveOld = Some Old
beside_for SaveLegacy = Some Legacy
beside_for LayNew = Some New
beside_for Lay = None
beside_for Stay = None
beside_for SalvageLay = None
beside_for Drop = None
beside_for SalvageDrop = None
