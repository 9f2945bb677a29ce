-- What a request leaves at the path of an account file, where account files and records say nothing.
use Rattle.std.specs.Prelude.{◌≡◌, ℕ, Bool, true, false, cond, ◌&&◌, List, Option, Some, None, filter, is_none, is_some}
use Rattle.std.specs.List.{AllByRecursion}
use Rattle.ips_outside.specs.Image.{Entry, Dir, File, Image, Link, Other}
use Rattle.ips_outside.specs.Outside.{readable}
use Rattle.ips_digest.specs.Name.{IsName, spelling}
use Rattle.ips_after.specs.After.{change_after, image_after, ranks}
use Rattle.ips_after.specs.Change.{Changes, cleared, joins, replaces, with_given}
use Rattle.ips_after.specs.Planned.{HasWantedParts}
use Rattle.ips_after.specs.Request.{IsRequest, Request, Want, Wanted}
use Rattle.ips_change.specs.declared.change.Change.{Change as Told}
use Rattle.ips_change.specs.declared.change.Change.TheVariants as told
use Rattle.ips_change.specs.Fitting.{laid_file, stated_mode}
use Rattle.ips_change.specs.Told.{naming}
use Rattle.ips_change.specs.declared.survey.row.Row.{Row}
use Rattle.ips_change.specs.declared.survey.said.Said.{Said}
use Rattle.ips_change.specs.survey.Rows.{IsRowOf}
use Rattle.ips_change.specs.survey.Marks.{IsMarkOf, row_paths}
use Rattle.ips_change.specs.survey.Tables.{IsTable}
use Rattle.ips_emptied.specs.Emptying.{marked_in}
use Rattle.ips_emptied.specs.declared.settled.Settled.{Settled}
use Rattle.ips_emptied.specs.Joining.{SettlesRows}
use Rattle.ips_account_files.specs.declared.ledger.left.Left.{Left}
use Rattle.ips_account_files.specs.declared.ledger.left.Left.TheVariants.{Nothing, Standing, Laid}

-- Account files and records say nothing of any path.
abbrev pub IsSilent : Request → Type 0
IsSilent r = (q : List ℕ) → r.over.at q ≡ None

-- The directories that are emptied, by the marks of rows.
abbrev pub emptied_by : List Row → Settled → List ℕ → Bool
emptied_by rows s = marked_in (row_paths rows) s.emptied.items

-- What becomes of each path behind the request, with these directories emptied.
abbrev pub changes_by : Request → Image → List Row → Settled → Changes
changes_by r t rows s = change_after (naming r) t (emptied_by rows s)

-- A file, or nothing where none stands.
abbrev pub only_file : Option Entry → Option Entry
only_file (Some (Dir m f)) = None
only_file (Some (File m b)) = Some (File m b)
only_file (Some (Link g)) = None
only_file (Some Other) = None
only_file None = None

-- The file that the request leaves at a path, with these directories emptied.
abbrev pub file_left : Request → Image → (List ℕ → Bool) → List ℕ → Option Entry
file_left r t emptied q = only_file ((image_after r t emptied).look q)

-- The file that is left at a path to be edited: none where one more name of another path's file is made there.
abbrev pub own_left : Request → Image → (List ℕ → Bool) → List ℕ → Option Entry
own_left r t emptied q = cond (joins (change_after r t emptied q)) None (file_left r t emptied q)

-- The file that is left as it is told, with the bytes of each payload and what stands there.
abbrev pub left_told : (List ℕ → List ℕ) → Option Entry → Left → Option Entry
left_told bytes e Nothing = None
left_told bytes e (Standing mode) = Some (File mode (readable e))
left_told bytes e (Laid payload mode) = Some (File mode (bytes (spelling payload)))

-- The path is and was wanted, or is and wasn't: those of the first sort come first where modes decide.
abbrev pub is_ranked : Bool → Option Wanted → Option Wanted → Bool
is_ranked was old new = cond was (is_some old) (is_none old) && is_some new

-- What is wanted has modes of permission bits.
abbrev pub AreSmallWanted : Want → Type 0
AreSmallWanted new = (q : List ℕ) (w : Wanted) → new.at q ≡ Some w → HasWantedParts w

-- What is wanted, where something is, has a mode of permission bits.
abbrev pub HasSmall : Option Wanted → Type 0
HasSmall (Some w) = HasWantedParts w
HasSmall None = Unit {0}

-- A file that is laid has the payload and the mode of the wanted one, and a mode that is given is the stated one.
abbrev pub FitsFile : Option Wanted → Told → Type 0
FitsFile new (told.File payload mode) = laid_file new ≡ Some (spelling payload.now, mode)
FitsFile new (told.Mode mode) = stated_mode new ≡ Some mode
FitsFile new c = Unit {0}

-- A payload's file is left where it takes the place of what stands and is the wanted one; what stands is left where nothing takes its place.
abbrev pub IsOwnLeft : Bool → Option Wanted → Left → Type 0
IsOwnLeft replaced new Nothing = Unit {0}
IsOwnLeft replaced new (Standing mode) = replaced ≡ false
IsOwnLeft replaced new (Laid payload mode) = (replaced ≡ true) × (laid_file new ≡ Some (spelling payload, mode)) × IsName payload

-- These are the marks of the rows at which what stands goes or is replaced.
abbrev pub AreReplaced : Request → Image → List Row → Settled → List Bool → Type 0
AreReplaced r t rows s marks = IsMarkOf (λ q. replaces (changes_by r t rows s q)) (row_paths rows) marks

-- A file at the path has the second mode, where it has the first, behind the modes that are given to its names at paths of one sort.
abbrev pub GivesMode : Image → List Row → Settled → List Bool → List ℕ → Bool → ℕ → ℕ → Type 0
GivesMode t rows s replaced path was mode given = (r : Request) (body : List ℕ) → AllByRecursion (IsRowOf r) rows → IsSilent r → SettlesRows r t rows s → AreReplaced r t rows s replaced
    → Some (File given body) ≡ with_given (changes_by r t rows s) (filter (λ p. is_ranked was (r.old.at p) (r.new.at p)) (row_paths rows)) t path (Some (File mode body))

-- This is left of what stands at the path, unless something takes its place there.
abbrev pub IsLeftStanding : Image → List Row → Settled → List Bool → List ℕ → Left → Type 0
IsLeftStanding t rows s replaced path left = (r : Request) (said : List (Option Said)) → IsRequest r → IsTable r rows said → IsSilent r → SettlesRows r t rows s → AreReplaced r t rows s replaced
    → left_told r.bytes (t.look path) left ≡ only_file (cond (cleared (changes_by r t rows s) path) None (with_given (changes_by r t rows s) (ranks r) t path (t.look path)))

-- This is the file that the request leaves at the path to be edited, with these directories emptied.
pub record IsLeftOf (r : Request) (t : Image) (emptied : List ℕ → Bool) (path : List ℕ) (left : Left) : Type 0 where
  pub is : left_told r.bytes (t.look path) left ≡ own_left (naming r) t emptied path
  pub own : IsOwnLeft (replaces (change_after (naming r) t emptied path)) (r.new.at path) left

-- This is the file that each request of these rows leaves at the path to be edited.
abbrev pub IsLeft : Image → List Row → Settled → List Bool → List ℕ → Left → Type 0
IsLeft t rows s replaced path left = (r : Request) (said : List (Option Said)) → IsRequest r → IsTable r rows said → IsSilent r → SettlesRows r t rows s → AreReplaced r t rows s replaced
    → IsLeftOf r t (emptied_by rows s) path left
