-- Why there are no steps behind a request.
use Rattle.std.proofs.Common.{ℕ, Bool, List}
use Rattle.ips_outside.specs.Image.{Image}
use Rattle.ips_books.specs.Accounts.{Accounts}
use Rattle.ips_due.specs.Due.{Due, DueFile, IsDue}
use Rattle.ips_emit.specs.declared.emitting.Emitted.{Emitted}
use Rattle.ips_request_due.specs.RequestDue.{IsRequestDue, LeavesAlone}
use Rattle.ips_plan.specs.image_plan.Behind.{AreSteps, ComesOf, ComesOfDue, IsBeyond}
use Rattle.ips_plan.specs.image_plan.Licenses.{AreDisplayed}
use Rattle.ips_plan.specs.declared.image_plan.behind.BehindFault.{BehindFault}
use Rattle.ips_plan.specs.declared.image_plan.behind.BehindFault.TheVariants as fault
use Rattle.ips_plan.specs.declared.image_plan.between.Between.{Between}

module _ (told : Bool) (t : Image) (moment : List ℕ) (b : Between) (due : Due) (accept : Bool) where
  -- steps that are too many, or write too much, are told where all licenses that must be accepted are
  pub too_large : (e : Emitted) (shown : List (List ℕ)) → AreDisplayed b.old.now b.new.now accept shown → AreSteps told t moment b due e → (why : BehindFault) → IsBeyond e why → ComesOfDue told t moment b due accept why
  too_large e shown displayed steps (fault.UnknownOwner unknown) h = absurd h
  too_large e shown displayed steps (fault.LicenseNeeded asked) h = absurd h
  too_large e shown displayed steps (fault.Unmovable path) h = absurd h
  too_large e shown displayed steps (fault.TooLarge excess) h = record { shown = shown; displayed = displayed; emitted = e; steps = steps; beyond = h }
  too_large e shown displayed steps fault.FolderFault h = absurd h

  -- what is due tells why, where all owners are known
  pub comes_behind : (files : List DueFile) (books : Accounts) → IsRequestDue files books b.old.now b.new.now due → IsDue due → LeavesAlone due → (why : BehindFault) → ComesOfDue told t moment b due accept why → ComesOf told t moment b files books accept why
  comes_behind files books is together apart (fault.UnknownOwner unknown) h = absurd h
  comes_behind files books is together apart (fault.LicenseNeeded asked) h = record { due = due; is_due = is; together = together; apart = apart; comes = h }
  comes_behind files books is together apart (fault.Unmovable path) h = record { due = due; is_due = is; together = together; apart = apart; comes = h }
  comes_behind files books is together apart (fault.TooLarge excess) h = record { due = due; is_due = is; together = together; apart = apart; comes = h }
  comes_behind files books is together apart fault.FolderFault h = h
