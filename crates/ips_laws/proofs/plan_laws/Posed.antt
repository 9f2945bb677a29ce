-- What is known of a request before its steps are told: that is one, and with it its steps and the first path at which it can't be carried out.
use Rattle.std.proofs.Common.{◌≡◌, ℕ, true, List, map, Result, Ok, sym, ap, subst, ◌∙◌, inl}
use Rattle.ips_action.specs.Action.{Fields}
use Rattle.ips_outside.specs.Image.{is_dir}
use Rattle.ips_steps.specs.Private.{records_name}
use Rattle.ips_state.specs.declared.state.State.{State}
use Rattle.ips_state.specs.State.{recorded}
use Rattle.ips_books.specs.Seen.{accounts as books_seen}
use Rattle.ips_after.specs.Request.{Over, Request}
use Rattle.ips_change.specs.wanted.Named.{is_payload_of}
use Rattle.ips_change.specs.wanted.Wanted.{want_of}
use Rattle.ips_due.specs.Due.{Due, FitsAccounts, IsDue, IsOverOf, MeansSame}
use Rattle.ips_due.proofs.Asking as asking
use Rattle.ips_due.specs.outstanding.Parts.{due_file}
use Rattle.ips_account_files.specs.Around.{Around}
use Rattle.ips_account_files.specs.Behind.{Behind, Files, IsTold, files_seen}
use Rattle.ips_account_files.specs.declared.ledger.fault.LedgerFault.{LedgerFault}
use Rattle.ips_account_files.specs.declared.files.AccountFiles.{AccountFiles}
use Rattle.ips_request_due.specs.RequestDue.{IsRequestDue, LeavesAlone}
use Rattle.ips_plan.specs.image_plan.Accounts.{Given, IsLedger}
use Rattle.ips_plan.specs.image_plan.Between.{AreMeant}
use Rattle.ips_plan.specs.image_plan.Steps.{IsSaidBetween, said_between}
use Rattle.ips_plan.specs.declared.image_plan.between.Between.{Between}
use Rattle.ips_plan.specs.request_plan.Plans.{AreFiles, IsBetween}
use Rattle.ips_plan.specs.requested.Meant.{accounts_in}
use Rattle.ips_laws.proofs.plan_laws.Dues.{due_one, over_one}
use Rattle.ips_plan.proofs.requested.Fitting.{ledger_fits}
use Rattle.ips_laws.proofs.plan_laws.Ledgers.{AnswersAreOne, files_of, ledger_one, ok_told}
use Rattle.ips_plan.proofs.requested.Legacy.{legacy_kept}
use Rattle.ips_laws.proofs.plan_laws.States.{meaning_same}
use Rattle.ips_laws.proofs.plan_laws.Steps.{IsPlain, no_bytes}
use Rattle.ips_laws.proofs.plan_laws.Wants.{want_bare, want_keyed, want_like}

-- What is wanted fits the account files behind a request that are due.
abbrev pub FilesFit : Type 0
FilesFit = (a : Around) (r : Request) (old new : List Fields) (files : Files) (due : Due) → Behind a r old new (Ok files) → due.accounts ≡ files.due → FitsAccounts due r.new

-- The request goes between the states, with these account files behind it, and this is due.
pub record IsPosed (g : Given) (old new : State) (b : Between) (files : AccountFiles) (due : Due) : Type 0 where
  pub between : IsBetween old new b
  pub meant : AreMeant b
  pub are_files : AreFiles g b files
  pub is_due : IsRequestDue (map due_file files.due.items) (books_seen files.books) b.old.now b.new.now due
  pub together : IsDue due
  pub apart : LeavesAlone due

-- ---- one request

module _ (fits : FilesFit) (g : Given) (old new : State) (b : Between) (files : AccountFiles) (due : Due) (posed : IsPosed g old new b files due) (stands : is_dir (g.image.look records_name) ≡ true) where
  fit : FitsAccounts due (want_of b.is.now)
  fit = ledger_fits fits g b.old.now b.new.now b.was.now b.is.now no_bytes (files_seen files) (posed.are_files no_bytes) due posed.is_due.means.accounts

  -- what account files and records say where this is due makes a lawful request of it
  pub said_of : (bytes : List ℕ → List ℕ) (over : Over) → IsOverOf bytes is_payload_of due g.image over → IsSaidBetween b due g.image bytes over
  said_of bytes over of = record {
    is_over = of;
    good = asking.is_asked _ _ _ _ _ _ b.was.now b.is.now posed.meant.old posed.meant.new bytes is_payload_of due g.image over posed.together of fit
        (asking.leaves _ _ _ _ _ _ b.was.now b.is.now posed.meant.old posed.meant.new bytes is_payload_of due g.image over posed.together of
        (legacy_kept (map due_file files.due.items) (recorded b.old.now) (recorded b.new.now) posed.is_due.was posed.is_due.is due posed.is_due.means posed.together b.new.now.settings b.new.now.mediators.items b.new.now.installed.items (books_seen files.books) posed.meant.new.mean.taken
        posed.is_due.is_delivered));
    stands = stands;
    leaves = inl (posed.apart bytes is_payload_of g.image over of);
  }

-- its wanted paths are listed, and it wants nothing below the folder of the records
pub posed_plain : (g : Given) (old new : State) (b : Between) (files : AccountFiles) (due : Due) → IsPosed g old new b files due → (bytes : List ℕ → List ℕ) (over : Over) → IsPlain (said_between b bytes over)
posed_plain g old new b files due posed bytes over = record { keyed = want_keyed b.is.now; bare = want_bare b.new.now b.is.now posed.meant.new }

-- ---- two between states with the same records

module _ (one : AnswersAreOne) (g : Given) (told : g.told ≡ true) (tells : g.tells ≡ true) (old other new next : State) (was_same : recorded old ≡ recorded other) (is_same : recorded new ≡ recorded next)
    (b c : Between) (hb : IsBetween old new b) (hc : IsBetween other next c) (mb : AreMeant b) (mc : AreMeant c) where
  pub olds : recorded b.old.now ≡ recorded c.old.now
  olds = ap recorded hb.old_is ∙ was_same ∙ sym (ap recorded hc.old_is)

  pub news : recorded b.new.now ≡ recorded c.new.now
  news = ap recorded hb.new_is ∙ is_same ∙ sym (ap recorded hc.new_is)

  was_wanted : want_of b.was.now ≡ want_of c.was.now
  was_wanted = want_like b.was.now c.was.now (meaning_same b.old.now c.old.now olds b.was.now c.was.now mb.old mc.old)

  is_wanted : want_of b.is.now ≡ want_of c.is.now
  is_wanted = want_like b.is.now c.is.now (meaning_same b.new.now c.new.now news b.is.now c.is.now mb.new mc.new)

  -- what is answered of the account files is one, unless a call failed
  pub posed_answers : (x y : Result Files LedgerFault) → ((bytes : List ℕ → List ℕ) → IsLedger g b.old.now b.new.now b.was.now b.is.now bytes x) → ((bytes : List ℕ → List ℕ) → IsLedger g c.old.now c.new.now c.was.now c.is.now bytes y) → IsTold x → IsTold y → x ≡ y
  posed_answers x y h k tx ty = ledger_one one g told tells b.old.now c.old.now b.new.now c.new.now olds news b.was.now b.is.now c.was.now c.is.now no_bytes x y was_wanted is_wanted (h no_bytes) (k no_bytes) tx ty

  -- and so are the files
  pub posed_files : (x y : AccountFiles) → AreFiles g b x → AreFiles g c y → files_seen x ≡ files_seen y
  posed_files x y h k = files_of (files_seen x) (files_seen y) (posed_answers (Ok (files_seen x)) (Ok (files_seen y)) h k (ok_told (files_seen x)) (ok_told (files_seen y)))

  -- the requests are one, where the same is said
  pub posed_requests : (bytes : List ℕ → List ℕ) (x y : Over) → x ≡ y → said_between b bytes x ≡ said_between c bytes y
  posed_requests bytes x y over = λ i. record { old = was_wanted i; new = is_wanted i; bytes = bytes; holds = is_payload_of; over = over i }

module _ (one : AnswersAreOne) (g : Given) (told : g.told ≡ true) (tells : g.tells ≡ true) (old other new next : State) (was_same : recorded old ≡ recorded other) (is_same : recorded new ≡ recorded next)
    (b c : Between) (x y : AccountFiles) (due dues : Due) (h : IsPosed g old new b x due) (k : IsPosed g other next c y dues) where
  -- the same is due
  pub posed_due : MeansSame due dues
  posed_due =
      let files : files_seen x ≡ files_seen y = posed_files one g told tells old other new next was_same is_same b c h.between k.between h.meant k.meant x y h.are_files k.are_files in
      let due_here : IsRequestDue (files_seen y).due (accounts_in (files_seen y).books) b.old.now b.new.now due = subst (λ (f : Files). IsRequestDue f.due (accounts_in f.books) b.old.now b.new.now due) files h.is_due in
      due_one b.old.now c.old.now b.new.now c.new.now (olds one g told tells old other new next was_same is_same b c h.between k.between h.meant k.meant) (news one g told tells old other new next was_same is_same b c h.between k.between h.meant k.meant)
      (files_seen y).due (accounts_in (files_seen y).books) due dues due_here k.is_due

  -- and the same is said
  pub posed_over : (bytes : List ℕ → List ℕ) (o p : Over) → IsOverOf bytes is_payload_of due g.image o → IsOverOf bytes is_payload_of dues g.image p → o ≡ p
  posed_over bytes o p = over_one bytes is_payload_of due dues g.image o p posed_due
