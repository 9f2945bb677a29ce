-- The keep table, this project's own reading of `preserve` (pkg(7), "File Actions"): what becomes of a file that may have been edited.
use Rattle.std.specs.Prelude.{Bool, true, false}
use Rattle.ips_action.specs.declared.action.Preserve.{Preserve}
use Rattle.ips_action.specs.declared.action.Preserve.TheVariants.{None, True, RenameOld, RenameNew, Legacy, Abandon, InstallOnly}
use Rattle.ips_preserve.specs.declared.case.Event.{Event}
use Rattle.ips_preserve.specs.declared.case.Event.TheVariants.{First, Update, Removal}
use Rattle.ips_preserve.specs.declared.case.Standing.{Standing}
use Rattle.ips_preserve.specs.declared.case.Standing.TheVariants.{Absent, Same, Different, NotFile}
use Rattle.ips_preserve.specs.declared.case.Case.{Case}
use Rattle.ips_preserve.specs.declared.keep.Keep.{Keep}
use Rattle.ips_preserve.specs.declared.keep.Keep.TheVariants.{Stay, Lay, SalvageLay, SaveOld, LayNew, SaveLegacy, Drop, SalvageDrop}

-- a row of the table: its answers where nothing stands at the path, the payload's bytes, other bytes, and no file
abbrev pub row : Keep → Keep → Keep → Keep → Standing → Keep
row absent same different not_file Absent = absent
row absent same different not_file Same = same
row absent same different not_file Different = different
row absent same different not_file NotFile = not_file

-- a file is wanted at the path, and none was before
abbrev pub at_first : Preserve → Standing → Keep
at_first None = row Lay Lay SalvageLay SalvageLay
at_first True = row Lay Lay Stay SalvageLay
at_first RenameOld = row Lay Lay SaveOld SalvageLay
at_first RenameNew = row Lay Lay LayNew SalvageLay
at_first Legacy = row Stay Stay Stay Stay
at_first Abandon = row Stay Stay Stay Stay
at_first InstallOnly = row Lay Stay Stay Stay

-- a file is wanted at the path with another payload than before
abbrev pub at_change : Preserve → Standing → Keep
at_change None = row Lay Lay Lay SalvageLay
at_change True = row Lay Lay Stay SalvageLay
at_change RenameOld = row Lay Lay SaveOld SalvageLay
at_change RenameNew = row Lay Lay LayNew SalvageLay
at_change Legacy = row Lay SaveLegacy SaveLegacy SalvageLay
at_change Abandon = row Stay Stay Stay Stay
at_change InstallOnly = row Stay Stay Stay Stay

-- a file was wanted at the path, and nothing is any more
abbrev pub at_removal : Preserve → Standing → Keep
at_removal None = row Stay Drop Drop Stay
at_removal True = row Stay Drop SalvageDrop Stay
at_removal RenameOld = row Stay Drop SalvageDrop Stay
at_removal RenameNew = row Stay Drop SalvageDrop Stay
at_removal Legacy = row Stay Drop SalvageDrop Stay
at_removal Abandon = row Stay Stay Stay Stay
at_removal InstallOnly = row Stay Stay Stay Stay

-- a file at an event, with another payload or not: one that keeps its payload stays
abbrev pub at_event : Event → Bool → Preserve → Standing → Keep
at_event First changed = at_first
at_event Update true = at_change
at_event Update false = λ preserve. row Stay Stay Stay Stay
at_event Removal changed = at_removal

-- what becomes of a file in a case
abbrev pub keep : Case → Keep
keep case = at_event case.event case.changed case.preserve case.standing
