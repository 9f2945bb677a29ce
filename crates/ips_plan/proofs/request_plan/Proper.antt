-- The account files behind a request are at account files' paths, with modes of permission bits.
use Rattle.std.proofs.Common.{Bool, true, false, List, [], map, Result, Ok, Err, ap, sym, subst}
use Rattle.ips_action.specs.Action.{Fields}
use Rattle.ips_after.specs.Request.{Request}
use Rattle.ips_change.proofs.wanted.Found.{proper_at}
use Rattle.ips_due.specs.Due.{DueFile}
use Rattle.ips_account_files.specs.declared.ledger.fault.LedgerFault.{LedgerFault}
use Rattle.ips_account_files.specs.ledger.Left.{AreSmallWanted}
use Rattle.ips_due.specs.outstanding.Parts.{due_file}
use Rattle.ips_account_files.specs.Around.{Around, has_accounts}
use Rattle.ips_account_files.specs.Behind.{Behind, Files, files_seen}
use Rattle.ips_account_files.specs.Laws.{AreAccounts, HaveSmallModes}
use Rattle.ips_account_files.specs.declared.files.AccountFiles.{AccountFiles}
use Rattle.ips_request_due.specs.RequestDue.{AreAccountFiles}
use Rattle.ips_plan.specs.image_plan.Accounts.{AnsweredWhere, Given, around_given, silent_request}
use Rattle.ips_plan.specs.image_plan.Between.{AreMeant}
use Rattle.ips_plan.specs.declared.image_plan.between.Between.{Between}
use Rattle.ips_plan.specs.request_plan.Plans.{AreFiles}

due_in : Result Files LedgerFault → List DueFile
due_in (Ok files) = files.due
due_in (Err why) = []

none_due : AreAccountFiles []
none_due = record { paths = λ q h. cc; modes = λ q m b h. cc }

module _ (paths : (a : Around) (r : Request) (old new : List Fields) (files : Files) → Behind a r old new (Ok files) → AreAccounts files.due)
    (modes : (a : Around) (r : Request) (old new : List Fields) (files : Files) → Behind a r old new (Ok files) → AreSmallWanted r.new → HaveSmallModes files.due) where
  pub proper_files : (g : Given) (b : Between) → AreMeant b → (files : AccountFiles) → AreFiles g b files → AreAccountFiles (map due_file files.due.items)
  unfolding due_in
  proper_files g b meant files h = let l = h (λ n. []) in go l.before l.after (has_accounts l.before l.after) l.answered
    where
      go : (before after : List Fields) (some : Bool) → AnsweredWhere some g b.was.now b.is.now (λ n. []) before after (Ok (files_seen files)) → AreAccountFiles (map due_file files.due.items)
      go before after true a = record {
        paths = paths (around_given g a.emptied) (silent_request b.was.now b.is.now (λ n. [])) before after (files_seen files) a.behind;
        modes = modes (around_given g a.emptied) (silent_request b.was.now b.is.now (λ n. [])) before after (files_seen files) a.behind (λ q w at. (proper_at b.is.now q w meant.new.proper meant.new.bytes at).1);
      }
      go before after false e = subst AreAccountFiles (sym (ap due_in e)) none_due
