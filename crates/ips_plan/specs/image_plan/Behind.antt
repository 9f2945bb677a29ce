-- The steps of a request, with the account files behind it, or why there are none.
use Rattle.std.specs.Prelude.{◌≡◌, ℕ, Bool, IsTrue, List, map, Some, None}
use Rattle.ips_outside.specs.Image.{Image}
use Rattle.ips_books.specs.Accounts.{Accounts}
use Rattle.ips_steps.specs.View.{step_of}
use Rattle.ips_due.specs.Due.{Due, DueFile, IsDue}
use Rattle.ips_delivered.specs.delivered.Delivering.{HasUnknownOwner}
use Rattle.ips_emit.specs.declared.emitting.Emitted.{Emitted}
use Rattle.ips_image_steps.specs.Answers.{CanBeListed}
use Rattle.ips_plan_limits.specs.Limits.{first_excess}
use Rattle.ips_plan_limits.specs.declared.limits.Excess.{Excess}
use Rattle.ips_request_due.specs.RequestDue.{IsRequestDue, LeavesAlone}
use Rattle.ips_plan.specs.image_plan.Licenses.{AreDisplayed, AreNeeded}
use Rattle.ips_plan.specs.image_plan.Steps.{AreStepsBetween, HasOver, IsHinderedBetween}
use Rattle.ips_plan.specs.declared.image_plan.behind.BehindFault.{BehindFault}
use Rattle.ips_plan.specs.declared.image_plan.behind.BehindFault.TheVariants as fault
use Rattle.ips_plan.specs.declared.image_plan.behind.Planned.{Planned}
use Rattle.ips_plan.specs.declared.image_plan.between.Between.{Between}

-- These are steps of the request between these states where this is due, whether or not they are too many: a journal can list them, and where the folder tells
-- what it holds, they are those over that image, for which account files and records say something.
pub record AreSteps (told : Bool) (t : Image) (moment : List ℕ) (b : Between) (due : Due) (emitted : Emitted) : Type 0 where
  pub lists : CanBeListed emitted
  pub steps : IsTrue told → AreStepsBetween moment b due t emitted
  pub over : IsTrue told → HasOver due t

-- The steps are those where this is due, with no more of them, and of the bytes that they write, than there may be; the licenses are those that are to be shown, and
-- all that must be accepted are.
pub record IsPlannedOf (told : Bool) (t : Image) (moment : List ℕ) (b : Between) (due : Due) (accept : Bool) (p : Planned) : Type 0 where
  pub steps : AreSteps told t moment b due p.emitted
  pub within : first_excess (map step_of p.emitted.steps.items) p.emitted.staged.items ≡ None
  pub displayed : AreDisplayed b.old.now b.new.now accept p.licenses.items

-- The path is the first at which the request can't be carried out, where the folder tells what it holds; all licenses that must be accepted are.
pub record IsUnmovableOf (told : Bool) (t : Image) (moment : List ℕ) (b : Between) (due : Due) (accept : Bool) (path : List ℕ) : Type 0 where
  pub shown : List (List ℕ)
  pub displayed : AreDisplayed b.old.now b.new.now accept shown
  pub hindered : IsTrue told → IsHinderedBetween moment b due t path
  pub over : IsTrue told → HasOver due t

-- The steps of the request are too many, or write too many bytes; all licenses that must be accepted are.
pub record IsTooLargeOf (told : Bool) (t : Image) (moment : List ℕ) (b : Between) (due : Due) (accept : Bool) (excess : Excess) : Type 0 where
  pub shown : List (List ℕ)
  pub displayed : AreDisplayed b.old.now b.new.now accept shown
  pub emitted : Emitted
  pub steps : AreSteps told t moment b due emitted
  pub beyond : first_excess (map step_of emitted.steps.items) emitted.staged.items ≡ Some excess

-- The fault tells what of the steps, or of the bytes that they write, is beyond its limit.
abbrev pub IsBeyond : Emitted → BehindFault → Type 0
IsBeyond emitted (fault.TooLarge excess) = first_excess (map step_of emitted.steps.items) emitted.staged.items ≡ Some excess
IsBeyond emitted (fault.UnknownOwner unknown) = ⊥
IsBeyond emitted (fault.LicenseNeeded asked) = ⊥
IsBeyond emitted (fault.Unmovable path) = ⊥
IsBeyond emitted fault.FolderFault = ⊥

-- Why there are no steps where this is due; each cause stands where those tested before it don't. That a call failed is told of the folder.
abbrev pub ComesOfDue : Bool → Image → List ℕ → Between → Due → Bool → BehindFault → Type 0
ComesOfDue told t moment b due accept (fault.UnknownOwner unknown) = ⊥
ComesOfDue told t moment b due accept (fault.LicenseNeeded asked) = AreNeeded b.old.now b.new.now accept asked.items
ComesOfDue told t moment b due accept (fault.Unmovable path) = IsUnmovableOf told t moment b due accept path.bytes
ComesOfDue told t moment b due accept (fault.TooLarge excess) = IsTooLargeOf told t moment b due accept excess
ComesOfDue told t moment b due accept fault.FolderFault = Unit {0}

-- The steps and the licenses are those of the request between these states with these account files, where owners have the numbers of these accounts; what is due
-- hangs together, and leaves alone what is salvaged.
pub record IsPlanned (told : Bool) (t : Image) (moment : List ℕ) (b : Between) (files : List DueFile) (books : Accounts) (accept : Bool) (p : Planned) : Type 0 where
  pub due : Due
  pub is_due : IsRequestDue files books b.old.now b.new.now due
  pub together : IsDue due
  pub apart : LeavesAlone due
  pub planned : IsPlannedOf told t moment b due accept p

-- All owners are known, what is due hangs together and leaves alone what is salvaged, and there are no steps for this.
pub record ComesBehind (told : Bool) (t : Image) (moment : List ℕ) (b : Between) (files : List DueFile) (books : Accounts) (accept : Bool) (why : BehindFault) : Type 0 where
  pub due : Due
  pub is_due : IsRequestDue files books b.old.now b.new.now due
  pub together : IsDue due
  pub apart : LeavesAlone due
  pub comes : ComesOfDue told t moment b due accept why

-- Why there are no steps: an owner is unknown, or else what is due tells it.
abbrev pub ComesOf : Bool → Image → List ℕ → Between → List DueFile → Accounts → Bool → BehindFault → Type 0
ComesOf told t moment b files books accept (fault.UnknownOwner unknown) = HasUnknownOwner books b.new.now.settings b.new.now.installed.items unknown.path.bytes unknown.name
ComesOf told t moment b files books accept (fault.LicenseNeeded asked) = ComesBehind told t moment b files books accept (fault.LicenseNeeded asked)
ComesOf told t moment b files books accept (fault.Unmovable path) = ComesBehind told t moment b files books accept (fault.Unmovable path)
ComesOf told t moment b files books accept (fault.TooLarge excess) = ComesBehind told t moment b files books accept (fault.TooLarge excess)
ComesOf told t moment b files books accept fault.FolderFault = Unit {0}
