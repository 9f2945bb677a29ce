-- From why a part of a plan isn't given to why there is no plan.
use Rattle.std.specs.Prelude.{◌≡◌, ℕ, List, codes}
use Rattle.ips_text.specs.declared.text.Text.{Text}
use Rattle.ips_text.specs.declared.path.RelPath.{RelPath}
use Rattle.ips_text.specs.declared.limits.Which.TheVariants.{AccountBytes}
use Rattle.ips_meaning.specs.declared.fault.WantFault.{WantFault}
use Rattle.ips_meaning.specs.declared.fault.WantFault.TheVariants as want
use Rattle.ips_books.specs.declared.fault.AccountFault.{AccountFault}
use Rattle.ips_books.specs.declared.fault.AccountFault.TheVariants as account
use Rattle.ips_account_files.specs.declared.ledger.fault.LedgerFault.{LedgerFault}
use Rattle.ips_account_files.specs.declared.ledger.fault.LedgerFault.TheVariants as ledger
use Rattle.ips_plan.specs.declared.image_plan.behind.BehindFault.{BehindFault}
use Rattle.ips_plan.specs.declared.image_plan.behind.BehindFault.TheVariants as behind
use Rattle.ips_plan.specs.declared.request_plan.fault.PlanFault.{PlanFault}
use Rattle.ips_plan.specs.declared.request_plan.fault.PlanFault.TheVariants.{Reserved, Clash, BadAccountLine, IdTaken, UnknownOwner, LicenseNeeded, Unmovable, Payload, TooLarge, SourceFault, FolderFault}

-- Packages mean no image.
abbrev pub unmeant : WantFault → PlanFault
unmeant (want.Reserved path) = Reserved path
unmeant (want.Clash clash) = Clash clash

-- where groups stand
abbrev pub group_path : List ℕ
group_path = codes "etc/group"

-- The group of a user is unknown: an owner that `etc/group` lacks.
pub record IsOfGroup (name : Text) (f : PlanFault) : Type 0 where
  pub path : RelPath
  pub bytes : path.bytes ≡ group_path
  pub is : f ≡ UnknownOwner path name

-- The account files can't be edited.
abbrev pub IsUnedited : AccountFault → PlanFault → Type 0
IsUnedited (account.BadAccountLine book line) f = f ≡ BadAccountLine book line
IsUnedited (account.IdTaken id) f = f ≡ IdTaken id
IsUnedited (account.UnknownGroup name) f = IsOfGroup name f

-- The account files aren't given.
abbrev pub IsUngiven : LedgerFault → PlanFault → Type 0
IsUngiven (ledger.Payload name why) f = f ≡ Payload name why
IsUngiven (ledger.TooLarge count) f = f ≡ TooLarge AccountBytes count
IsUngiven (ledger.Account why) f = IsUnedited why f
IsUngiven ledger.SourceFault f = f ≡ SourceFault
IsUngiven ledger.FolderFault f = f ≡ FolderFault

-- There are no steps.
abbrev pub unlaid : BehindFault → PlanFault
unlaid (behind.UnknownOwner unknown) = UnknownOwner unknown.path unknown.name
unlaid (behind.LicenseNeeded list) = LicenseNeeded list
unlaid (behind.Unmovable path) = Unmovable path
unlaid (behind.TooLarge excess) = TooLarge excess.which excess.count
unlaid behind.FolderFault = FolderFault
