-- Why account files are refused.
use Rattle.std.proofs.Common.{◌≡◌, ◌⊎◌, inl, inr, Bool, true, false, List, ℕ}
use Rattle.ips_action.specs.Action.{Fields}
use Rattle.ips_books.specs.declared.fault.AccountFault.{AccountFault}
use Rattle.ips_books.specs.Reading.{Texts}
use Rattle.ips_after.specs.Request.{Request}
use Rattle.ips_account_files.specs.declared.ledger.blocked.Blocked.{Blocked}
use Rattle.ips_account_files.specs.declared.ledger.fault.LedgerFault.{LedgerFault}
use Rattle.ips_account_files.specs.declared.ledger.fault.LedgerFault.TheVariants as fault
use Rattle.ips_account_files.specs.declared.ledger.left.Left.TheVariants.{Nothing, Standing, Laid}
use Rattle.ips_account_files.specs.declared.ledger.outdated.Modes.{Modes}
use Rattle.ips_account_files.specs.Around.{Around}
use Rattle.ips_account_files.specs.Bases.{AreBases, IsFirstUnread, IsUnreadWhere}
use Rattle.ips_account_files.specs.Behind.{IsEditRefused, IsRefused}

not_account : (b : Bool) (a : Around) (r : Request) (path : List ℕ) (why : AccountFault) → IsUnreadWhere b a r path (fault.Account why) → ⊥
not_account true a r path why h = h
not_account false a r path why (Nothing, leaves, unread) = unread
not_account false a r path why (Standing mode, leaves, unread) = unread
not_account false a r path why (Laid payload mode, leaves, unread) = unread

-- texts that aren't read
pub refused_by : (a : Around) (r : Request) (old new : List Fields) (why : LedgerFault) → (why ≡ fault.FolderFault) ⊎ IsFirstUnread a r why → IsRefused a r old new why
refused_by a r old new (fault.Payload name other) (inl h) = cc
refused_by a r old new (fault.Payload name other) (inr h) = h
refused_by a r old new (fault.TooLarge count) (inl h) = cc
refused_by a r old new (fault.TooLarge count) (inr h) = h
refused_by a r old new (fault.Account other) (inl h) = cc
refused_by a r old new (fault.Account other) (inr (blocked, are, inl h)) = absurd (not_account blocked.passwd a r _ other h)
refused_by a r old new (fault.Account other) (inr (blocked, are, inr (inl h))) = absurd (not_account blocked.shadow a r _ other h.1)
refused_by a r old new (fault.Account other) (inr (blocked, are, inr (inr h))) = absurd (not_account blocked.group a r _ other h.2)
refused_by a r old new fault.SourceFault (inl h) = cc
refused_by a r old new fault.SourceFault (inr h) = h
refused_by a r old new fault.FolderFault h = tt

-- files that can't be edited
pub edit_refused : (a : Around) (r : Request) (old new : List Fields) (blocked : Blocked) (base : Texts) (modes : Modes) (why : LedgerFault) → AreBases a r blocked base modes → IsEditRefused blocked base old new why → IsRefused a r old new why
edit_refused a r old new blocked base modes (fault.Account other) bases h = record { blocked = blocked; base = base; modes = modes; bases = bases; edit = h }
edit_refused a r old new blocked base modes (fault.Payload name other) bases h = absurd h
edit_refused a r old new blocked base modes (fault.TooLarge count) bases h = absurd h
edit_refused a r old new blocked base modes fault.SourceFault bases h = absurd h
edit_refused a r old new blocked base modes fault.FolderFault bases h = absurd h
