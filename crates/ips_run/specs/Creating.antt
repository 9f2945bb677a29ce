-- The directories of an image's records, made before a request that makes the image.
use Rattle.std.specs.Prelude.{◌≡◌, ◌⊎◌, ℕ, false, IsTrue, IsFalse, List, None}
use Rattle.ips_text.specs.Ancestry.{covers}
use Rattle.ips_text.specs.declared.path.RelPath.{RelPath}
use Rattle.ips_outside.specs.Image.{Image, is_dir}
use Rattle.ips_outside.specs.State.{nowhere, untouched}
use Rattle.ips_outside.specs.Outside.{Outside, Elapses}
use Rattle.ips_folder.specs.Calls.{Throughout, ChangesOnly}
use Rattle.ips_steps.specs.Private.{records_name}
use Rattle.ips_kinds.specs.Tallies.{Carrier}
use Rattle.ips_history.specs.Directories.{var_name, with_directories, is_dir_or_free, CanHaveDirectories, IsFirstObstacle}
use Rattle.ips_history.specs.Transition.{IsNotYetSafe}
use Rattle.ips_history.specs.Run.{StaysShut}
use Rattle.ips_run.specs.declared.creating.Missing.{Missing}
use Rattle.ips_run.specs.declared.creating.Missing.TheVariants as missing
use Rattle.ips_run.specs.declared.creating.DirectoryFault.{DirectoryFault}
use Rattle.ips_run.specs.declared.creating.DirectoryFault.TheVariants as fault
use Rattle.ips_run.specs.declared.ending.Ending.{Ending}
use Rattle.ips_run.specs.declared.ending.Ending.TheVariants as ending
use Rattle.ips_run.specs.Ending.{IsEarly}
use Rattle.ips_run.specs.Phases.{IsAsked}

-- these directories are missing
abbrev pub IsMissing : Image → Missing → Type 0
IsMissing t missing.Nothing = IsTrue (is_dir (t.look var_name)) × IsTrue (is_dir (t.look records_name))
IsMissing t missing.Records = IsTrue (is_dir (t.look var_name)) × (t.look records_name ≡ None)
IsMissing t missing.Both = t.look var_name ≡ None

-- why they can't be made: something else than a directory stands at the first, or at the second alone
abbrev pub IsBlockedBy : Image → DirectoryFault → Type 0
IsBlockedBy t fault.Failed = Unit {0}
IsBlockedBy t fault.Var = IsFalse (is_dir_or_free (t.look var_name))
IsBlockedBy t fault.Records = IsTrue (is_dir_or_free (t.look var_name)) × IsFalse (is_dir_or_free (t.look records_name))

-- Some were missing: since then only what is at or below the first of them is changed and touched.
pub record IsMaking {F : Type 0} (o : Outside F) (old new : F) : Type 0 where
  pub dir : List ℕ
  pub is : (dir ≡ var_name) ⊎ (dir ≡ records_name)
  pub absent : (o.state old).held.look dir ≡ None
  pub kept : ChangesOnly o (covers dir) nowhere old new

-- The same, and at no moment the first of them stands and is safe.
pub record IsMakingInPart {F : Type 0} (o : Outside F) (old new : F) : Type 0 where
  pub making : IsMaking o old new
  pub moments : Throughout o old new (IsNotYetSafe making.dir (o.state old))

-- at every moment nothing is made at the path, or it isn't safe yet, or the state is the one at the end
abbrev pub IsSafeAtLast : {F : Type 0} → Outside F → List ℕ → F → F → Type 0
IsSafeAtLast o dir old new = Throughout o old new (λ s. IsNotYetSafe dir (o.state old) s ⊎ (s ≡ o.state new))

-- Some were missing: since then only what is at or below the first of them is changed and touched, and wherever it isn't unmade or not yet
-- safe, the state is the one at the end.
pub record IsMade {F : Type 0} (o : Outside F) (old new : F) : Type 0 where
  pub making : IsMaking o old new
  pub last : IsSafeAtLast o making.dir old new

-- nothing has happened to the image
abbrev pub IsAsBefore : {F : Type 0} → Outside F → F → F → Type 0
IsAsBefore o old new = Elapses o old new × (o.state new ≡ o.state old)

-- what is made where these are missing: nothing; or only what is at or below the first of them is changed
abbrev pub HasMade : {F : Type 0} → Outside F → Missing → F → F → Type 0
HasMade o missing.Nothing old new = new ≡ old
HasMade o missing.Records old new = ChangesOnly o (covers records_name) nowhere old new
HasMade o missing.Both old new = ChangesOnly o (covers var_name) nowhere old new

-- and wherever the first of them isn't unmade or not yet safe, the state is the one at the end
abbrev pub HasMadeAtLast : {F : Type 0} → Outside F → Missing → F → F → Type 0
HasMadeAtLast o missing.Nothing old new = Unit {0}
HasMadeAtLast o missing.Records old new = IsSafeAtLast o records_name old new
HasMadeAtLast o missing.Both old new = IsSafeAtLast o var_name old new

-- the same where that failed: something was missing, and at no moment the first of it stands and is safe
abbrev pub HasMadeInPart : {F : Type 0} → Outside F → Missing → F → F → Type 0
HasMadeInPart o missing.Nothing old new = ⊥
HasMadeInPart o missing.Records old new = Throughout o old new (IsNotYetSafe records_name (o.state old))
HasMadeInPart o missing.Both old new = Throughout o old new (IsNotYetSafe var_name (o.state old))

-- The directories stand, and nothing is touched: just those that were missing are made, or none was. The gate was closed all along.
pub record AreMade {F : Type 0} (o : Outside F) (old new : F) : Type 0 where
  pub can : CanHaveDirectories (o.state old).held
  pub made : o.state new ≡ untouched (with_directories (o.state old).held)
  pub none_made : (IsAsBefore o old new × (with_directories (o.state old).held ≡ (o.state old).held)) ⊎ IsMade o old new
  pub shut : StaysShut o old new

-- why they aren't made: something is in the way, and nothing has happened; or a call failed, before the first was made or before it was safe
abbrev pub SaysOfDirectories : {F : Type 0} → Outside F → F → F → DirectoryFault → Type 0
SaysOfDirectories o old new fault.Failed = IsAsBefore o old new ⊎ IsMakingInPart o old new
SaysOfDirectories o old new fault.Var = IsAsBefore o old new × IsFirstObstacle (o.state old).held var_name
SaysOfDirectories o old new fault.Records = IsAsBefore o old new × IsFirstObstacle (o.state old).held records_name

-- how a run ends then
abbrev pub ended_as : {T : Type 0} → DirectoryFault → RelPath → RelPath → Ending T
ended_as fault.Failed var records = ending.FolderFault false
ended_as fault.Var var records = ending.NotDirectory var
ended_as fault.Records var records = ending.NotDirectory records

-- the same of an ending
abbrev pub AreUnmade : {F T : Type 0} → Outside F → F → F → Ending T → Type 0
AreUnmade o old new (ending.FolderFault unfinished) = IsFalse unfinished × (IsAsBefore o old new ⊎ IsMakingInPart o old new)
AreUnmade o old new (ending.NotDirectory path) = IsAsBefore o old new × IsFirstObstacle (o.state old).held path.bytes
AreUnmade o old new ending.OutOfMemory = IsAsBefore o old new
AreUnmade o old new other = ⊥

-- What a command that makes an image did from a closed gate on: nothing was missing, and it is a request; or it ended before anything
-- was made; or directories are made and made safe, and from then on it is a request; or a call failed before they were safe.
pub data IsCreated {F T : Type 0} (o : Outside F) (means : Image → Image → Type 0) (x : Ending T) (before now : List Carrier) (old new : F) : Type 0 where
  Standing : (at : F) → IsAsBefore o old at → with_directories (o.state old).held ≡ (o.state old).held → IsAsked o means x before now at new → IsCreated o means x before now old new
  Uncreated : IsEarly x → IsAsBefore o old new → IsCreated o means x before now old new
  Made : (at : F) → IsMade o old at → StaysShut o old at → o.state at ≡ untouched (with_directories (o.state old).held) → IsAsked o means x before now at new → IsCreated o means x before now old new
  Failed : x ≡ ending.FolderFault false → IsMakingInPart o old new → IsCreated o means x before now old new
