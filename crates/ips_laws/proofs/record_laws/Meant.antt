-- The image after a request holds the new state.
use Rattle.std.proofs.Common.{◌≡◌, ℕ, ◌≤◌, true, false, ◌==◌, Bool, cond, List, [], length, Option, Some, None, Result, Ok, Err, is_some, refl, sym, ◌∙◌, ap, subst, inl, inr}
use Rattle.std.specs.Prelude.{codes}
use Rattle.std.specs.List.{AllByRecursion}
use Rattle.std.proofs.lemmas.Bool.{and_from, and_parts, or_cases, true≢false}
use Rattle.ips_text.specs.Ancestry.{covers, is_below, parent}
use Rattle.ips_action.specs.Action.{Fields}
use Rattle.ips_outside.specs.Image.{Entry, Image, IsImage, is_dir}
use Rattle.ips_outside.specs.Children.{is_child, is_directory, is_foreign}
use Rattle.ips_steps.specs.Steps.{stage_name}
use Rattle.ips_steps.specs.Private.{gate_name, is_private, journal_name, mark_front, records_name, visible}
use Rattle.ips_index.specs.Rows.{IndexedValue}
use Rattle.ips_state.specs.Lawful.{IsLawful}
use Rattle.ips_state.specs.Records.{index_path, packages_path, records_of}
use Rattle.ips_state.specs.State.{Installed, recorded}
use Rattle.ips_state.specs.declared.state.State.{State}
use Rattle.ips_load.specs.Held.{Holds, HoldsIndex, HoldsPackages, record_limit}
use Rattle.ips_entries.specs.Standing.{Written, recounted}
use Rattle.ips_entries.proofs.ReadBack.{Again}
use Rattle.ips_after.specs.Request.{IsRequest, Request}
use Rattle.ips_after.specs.Salvage.{Aside, IsOwn}
use Rattle.ips_after.proofs.Seen.{visible_formed}
use Rattle.ips_change.specs.wanted.Named.{is_payload_of}
use Rattle.ips_change.specs.wanted.Wanted.{want_of}
use Rattle.ips_change.proofs.wanted.Apart.{nothing_below, nothing_legacy}
use Rattle.ips_due.specs.Apart.{LeavesSalvage, lost_path}
use Rattle.ips_due.specs.Asked.{request_between}
use Rattle.ips_due.specs.Delivered.{AreNamedByBytes, request_due}
use Rattle.ips_due.specs.Due.{Due, DueFile, FitsAccounts, IsDue, IsOverOf, LeavesOwn, MeansSame, is_own}
use Rattle.ips_due.proofs.Asking as asking
use Rattle.ips_due.proofs.Leaving.{leaves}
use Rattle.ips_due.proofs.Lying.{own_of}
use Rattle.ips_due.proofs.RequestDue.{request_is_due}
use Rattle.ips_due.proofs.Same.{over_same, together_same}
use Rattle.ips_due.proofs.StateDue.{packages_seen}
use Rattle.ips_image_steps.specs.staged_plans.Payloads.{payload_bytes}
use Rattle.ips_image_steps.proofs.staged_plans.Seen.{said_seen}
use Rattle.ips_account_files.specs.Around.{Around, has_accounts}
use Rattle.ips_account_files.specs.Behind.{Behind, Files}
use Rattle.ips_account_files.specs.Laws.{AreAccounts}
use Rattle.ips_plan.specs.image_plan.Accounts.{AnsweredWhere, Given, IsLedger, around_given, silent_request}
use Rattle.ips_account_files.specs.declared.ledger.fault.LedgerFault.{LedgerFault}
use Rattle.ips_meaning.specs.declared.entry.Entry as meaning
use Rattle.ips_plan.specs.requested.Meant.{IsMeant, accounts_in, given_telling}
use Rattle.ips_plan.proofs.requested.Fitting.{ledger_fits}
use Rattle.ips_plan.proofs.requested.Legacy.{legacy_kept}
use Rattle.ips_laws.proofs.record_laws.Own.{folder_stands, root_lost}
use Rattle.ips_laws.proofs.record_laws.Names.{LinesStand, delivered_named, packages_named}
use Rattle.ips_laws.proofs.record_laws.Stand.{HeldFolder, new_held}
use Rattle.ips_laws.proofs.record_laws.Whole.{look_seen}

-- what is wanted fits the account files behind a request that are due
abbrev pub FilesFit : Type 0
FilesFit = (a : Around) (r : Request) (old new : List Fields) (files : Files) (due : Due) → Behind a r old new (Ok files) → due.accounts ≡ files.due → FitsAccounts due r.new

-- the account files that are due stand at their paths
abbrev pub FilesProper : Type 0
FilesProper = (a : Around) (r : Request) (old new : List Fields) (files : Files) → Behind a r old new (Ok files) → AreAccounts files.due

module _ (proper : FilesProper) where
  ledger_paths : (g : Given) (old new : State) (was is : List (List ℕ × meaning.Entry)) (bytes : List ℕ → List ℕ) (files : Files) → IsLedger g old new was is bytes (Ok files) → AreAccounts files.due
  ledger_paths g old new was is bytes files l = go (has_accounts l.before l.after) l.answered
    where
      due_in : Result Files LedgerFault → List DueFile
      due_in (Ok given) = given.due
      due_in (Err why) = []

      none_due : AreAccounts []
      none_due q h = cc

      go : (some : Bool) → AnsweredWhere some g was is bytes l.before l.after (Ok files) → AreAccounts files.due
      go true a = proper (around_given g a.emptied) (silent_request was is bytes) l.before l.after files a.behind
      go false e = subst AreAccounts (sym (ap due_in e)) none_due

-- ---- paths

paths_seen : (is_private records_name ≡ false) × (is_private index_path ≡ false)
unfolding records_name stage_name journal_name gate_name mark_front
paths_seen = (refl, refl)

-- ---- what is held

module _ (t : Image) where
  child_seen : (q : List ℕ) → is_child (visible t) packages_path q ≡ true → is_child t packages_path q ≡ true
  child_seen q h = let parts = and_parts (is_some ((visible t).look q)) (is_directory packages_path (parent q)) h in and_from (is_some (t.look q)) _ (some_seen (is_private q) (t.look q) parts.0) parts.1
    where
      some_seen : (b : Bool) (e : Option Entry) → is_some (cond b None e) ≡ true → is_some e ≡ true
      some_seen true e h = cc
      some_seen false e h = h

  folder_held : (first : Bool) (packages : List Installed) → HoldsPackages first t packages → first ≡ false → HeldFolder (visible t) packages
  folder_held true packages h second = absurd (true≢false second)
  folder_held false packages h second = record {
    dir = ap is_dir (look_seen t packages_path packages_seen) ∙ h.folder;
    native = ap is_foreign (look_seen t packages_path packages_seen) ∙ h.native;
    only = λ q child. h.only q (child_seen q child);
  }

  index_bare : (o : Option (List IndexedValue)) → HoldsIndex t o → o ≡ None → (visible t).look index_path ≡ None
  index_bare None h none = look_seen t index_path paths_seen.1 ∙ h
  index_bare (Some rows) h none = absurd cc

-- ---- the image after

module _ (fits : FilesFit) (proper : FilesProper) (again : Again) (stand : LinesStand) (moment : ℕ) (old new : State) (repository t after : Image) (m : IsMeant moment old new repository t after)
    (formed : IsImage t) (held : Holds t (recorded old)) (lawful : IsLawful (recorded new)) where
  abbrev bytes : List ℕ → List ℕ
  bytes = payload_bytes new.publisher repository

  abbrev v : Image
  v = visible t

  abbrev r : Request
  r = request_between m.was m.is bytes is_payload_of m.over

  abbrev a : Aside
  a = m.image.aside

  abbrev asked : Due
  asked = request_due m.files.due (recorded old) (recorded new) m.is_due.was m.is_due.is

  paths : AreAccounts m.files.due
  paths = ledger_paths proper (given_telling new repository t) old new m.was m.is bytes m.files m.are_files

  named_old : AreNamedByBytes m.is_due.was
  named_old = delivered_named stand old.settings old.installed.items held.lawful.installed.each m.is_due.was m.is_due.was_delivered

  named : AreNamedByBytes m.is_due.is
  named = packages_named stand new.settings new.installed.items lawful.installed.each (accounts_in m.files.books) m.is_due.is m.is_due.is_delivered

  same : MeansSame m.due asked
  same = m.is_due.means

  -- what is due hangs together, and leaves alone what is salvaged
  together : IsDue m.due
  together = together_same asked m.due (record { accounts = λ q. sym (same.accounts q); records = λ q. sym (same.records q); renewed = λ q. sym (same.renewed q); folders = λ q. sym (same.folders q); gone = λ q. sym (same.gone q) })
      (request_is_due m.files.due (recorded old) (recorded new) m.is_due.was m.is_due.is paths named_old named)

  apart : LeavesSalvage m.over
  apart = leaves bytes is_payload_of m.files.due (recorded old) (recorded new) m.is_due.was m.is_due.is t m.over paths named_old named (over_same m.due asked same bytes is_payload_of t m.over m.is_over)

  stands : is_dir (v.look records_name) ≡ true
  stands =
      ap is_dir (look_seen t records_name paths_seen.0) ∙ folder_stands t _ formed held.head.file

  fit : FitsAccounts m.due (want_of m.is)
  fit = ledger_fits fits (given_telling new repository t) old new m.was m.is bytes m.files m.are_files m.due m.is_due.means.accounts

  left : LeavesOwn m.due (want_of m.is)
  left = asking.leaves _ _ _ _ _ _ m.was m.is m.old_means m.new_means bytes is_payload_of m.due t m.over together m.is_over
      (legacy_kept m.files.due (recorded old) (recorded new) m.is_due.was m.is_due.is m.due m.is_due.means together new.settings new.mediators.items new.installed.items (accounts_in m.files.books) m.new_means.mean.taken m.is_due.is_delivered)

  good : IsRequest r
  good = asking.is_asked _ _ _ _ _ _ m.was m.is m.old_means m.new_means bytes is_payload_of m.due t m.over together m.is_over fit left

  none_old : (q : List ℕ) → is_own q ≡ true → (want_of m.was).at q ≡ None
  none_old q own = elim (or_cases (is_below records_name q) (is_below (codes "var/sadm/pkg") q) own) [
    | inl h ↦ nothing_below old.settings old.mediators.items old.installed.items m.was m.old_means.mean q h
    | inr h ↦ nothing_legacy old.settings old.mediators.items old.installed.items m.was m.old_means.mean q h
  ]

  over : IsOverOf bytes is_payload_of m.due v m.over
  over =
      let o = m.is_over in
      record { at = λ q. o.at q ∙ sym (said_seen bytes is_payload_of m.due t together q); accounts = o.accounts; keyed = o.keyed; closed = o.closed; only = o.only; by_bytes = o.by_bytes }

  own : IsOwn r v a
  own = own_of m.text r v a good (visible_formed t formed) stands left.folder none_old left.none apart m.image.is_root m.image.is_aside

  lost : covers lost_path a.root ≡ true
  lost = root_lost m.text a.root m.image.is_root.times m.image.is_root.name

  pub after_holds : AllByRecursion (λ (e : Written). length e.1 ≤ record_limit) (records_of (recorded new)) → ((recorded new).index ≡ None → (recorded old).index ≡ None) → Holds after (recounted (recorded new))
  after_holds small index =
      subst (λ (u : Image). Holds u (recounted (recorded new))) (sym m.image.means)
      (new_held bytes is_payload_of r v a good (visible_formed t formed) own m.image.is_aside lost m.due m.files.due (recorded old) (recorded new) m.is_due.was m.is_due.is m.is_due.means together over
      again lawful small (λ none. index_bare t (recorded old).index held.index (index none)) (folder_held t ((recorded old).format == 1) (recorded old).installed held.packages))
