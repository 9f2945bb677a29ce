-- What is wanted fits the account files behind a request.
use Rattle.std.proofs.Common.{◌≡◌, ℕ, Bool, true, false, List, [], Result, Ok, Err, is_some, refl, sym, ap, subst, ◌∙◌}
use Rattle.ips_action.specs.Action.{Fields}
use Rattle.ips_after.specs.Request.{Request, Want}
use Rattle.ips_change.specs.wanted.Wanted.{want_of}
use Rattle.ips_due.specs.Due.{Due, DueFile, FitsAccounts, account_at}
use Rattle.ips_account_files.specs.declared.ledger.fault.LedgerFault.{LedgerFault}
use Rattle.ips_account_files.specs.Around.{Around, has_accounts}
use Rattle.ips_account_files.specs.Behind.{Behind, Files}
use Rattle.ips_plan.specs.image_plan.Accounts.{AnsweredWhere, Given, IsLedger, around_given, silent_request}
use Rattle.ips_state.specs.declared.state.State.{State}
use Rattle.ips_meaning.specs.declared.entry.Entry as meaning

-- the files that are given
abbrev due_in : Result Files LedgerFault → List DueFile
due_in (Ok files) = files.due
due_in (Err why) = []

-- just these account files are due
abbrev only_accounts : List DueFile → Due
only_accounts files = record { accounts = files; records = []; renewed = []; folders = []; gone = [] }

-- what fits one fits the other, where the same account files are due
fits_same : (a b : Due) (new : Want) → ((q : List ℕ) → account_at b.accounts q ≡ account_at a.accounts q) → FitsAccounts a new → FitsAccounts b new
fits_same a b new same fits = record {
  files = λ q there wanted. fits.files q (sym (ap is_some (same q)) ∙ there) wanted;
  above = λ p q there below wanted. fits.above p q (sym (ap is_some (same q)) ∙ there) below wanted;
}

none_fits : (new : Want) → FitsAccounts (only_accounts []) new
none_fits new = record { files = λ q there. cc; above = λ p q there. cc }

module _ (fits : (a : Around) (r : Request) (old new : List Fields) (files : Files) (due : Due) → Behind a r old new (Ok files) → due.accounts ≡ files.due → FitsAccounts due r.new) where
  pub ledger_fits : (g : Given) (old new : State) (was is : List (List ℕ × meaning.Entry)) (bytes : List ℕ → List ℕ) (files : Files) → IsLedger g old new was is bytes (Ok files)
      → (due : Due) → ((q : List ℕ) → account_at due.accounts q ≡ account_at files.due q) → FitsAccounts due (want_of is)
  ledger_fits g old new was is bytes files l due same = fits_same (only_accounts files.due) due (want_of is) same (go (has_accounts l.before l.after) l.answered)
    where
      go : (some : Bool) → AnsweredWhere some g was is bytes l.before l.after (Ok files) → FitsAccounts (only_accounts files.due) (want_of is)
      go true a = fits (around_given g a.emptied) (silent_request was is bytes) l.before l.after files (only_accounts files.due) a.behind refl
      go false e = subst (λ (x : List DueFile). FitsAccounts (only_accounts x) (want_of is)) (sym (ap due_in e)) (none_fits (want_of is))
