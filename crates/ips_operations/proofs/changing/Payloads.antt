-- Each fault for which a request has no plan is told.
use Rattle.std.proofs.Common.{◌≡◌, ◌⊎◌, ℕ, Bool, true, false, IsTrue, List, Option, Some, None, is_some, Ok, Err, inl, inr, refl, sym, ap, ◌∙◌}
use Rattle.std.specs.Option.{option_map}
use Rattle.ips_text.specs.declared.refusal.Or.TheVariants.{Bad}
use Rattle.ips_action.specs.Action.{Fields}
use Rattle.ips_digest.specs.declared.name.PayloadName.{PayloadName}
use Rattle.ips_outside.specs.Image.{Entry, Image}
use Rattle.ips_repo.specs.Payload.{IsDamage, IsOpenFault}
use Rattle.ips_repo.specs.declared.fault.RepoFault.{RepoFault}
use Rattle.ips_repo.specs.declared.fault.RepoFault.TheVariants as repo
use Rattle.ips_meaning.specs.declared.entry.Entry as meaning
use Rattle.ips_meaning.specs.declared.fault.WantFault.{WantFault}
use Rattle.ips_meaning.specs.declared.fault.WantFault.TheVariants as want
use Rattle.ips_after.specs.Request.{Request}
use Rattle.ips_books.specs.declared.fault.AccountFault.{AccountFault}
use Rattle.ips_books.specs.declared.fault.AccountFault.TheVariants as account
use Rattle.ips_account_files.specs.declared.ledger.fault.LedgerFault.{LedgerFault}
use Rattle.ips_account_files.specs.declared.ledger.fault.LedgerFault.TheVariants as ledger
use Rattle.ips_account_files.specs.declared.ledger.left.Left.{Left}
use Rattle.ips_account_files.specs.declared.ledger.left.Left.TheVariants as left
use Rattle.ips_account_files.specs.ledger.Texts.{IsPayloadFault, IsTextUnread}
use Rattle.ips_account_files.specs.Around.{Around, has_accounts}
use Rattle.ips_account_files.specs.Bases.{IsFirstUnread, IsUnreadWhere}
use Rattle.ips_account_files.specs.Behind.{BehindWhere, no_files}
use Rattle.ips_state.specs.declared.state.State.{State}
use Rattle.ips_plan.specs.image_plan.Accounts.{AnsweredWhere, Given, IsLedger}
use Rattle.ips_plan.specs.declared.image_plan.behind.BehindFault.{BehindFault}
use Rattle.ips_plan.specs.declared.image_plan.behind.BehindFault.TheVariants as behind
use Rattle.ips_plan.specs.declared.image_plan.between.Between.{Between}
use Rattle.ips_plan.specs.request_plan.Causes.{IsUnedited, IsUngiven, unlaid, unmeant}
use Rattle.ips_plan.specs.request_plan.Plans as plans
use Rattle.ips_plan.specs.request_plan.Plans.{ComesBetween, ComesOfPlan}
use Rattle.ips_plan.specs.declared.request_plan.fault.PlanFault.{PlanFault}
use Rattle.ips_plan.specs.declared.request_plan.fault.PlanFault.TheVariants as plan
use Rattle.ips_tell.specs.refusals.Told.{as_refused}
use Rattle.ips_operations.specs.changing.Refusals.{payload_told, unplanned_told}
use Rattle.ips_report.specs.declared.outcome.Outcome.{Outcome}

-- it is told
abbrev IsToldOf : PayloadName → RepoFault → Type 0
IsToldOf name why = is_some (payload_told name why) ≡ true

-- ---- of account files

open_told : (name : PayloadName) (why : RepoFault) → IsOpenFault why → (why ≡ repo.SourceFault → ⊥) → IsToldOf name why
open_told name repo.NoRepository h known = absurd h
open_told name (repo.BadCatalog fault) h known = absurd h
open_told name repo.ManifestMissing h known = absurd h
open_told name (repo.BadManifest fault) h known = absurd h
open_told name repo.PayloadMissing h known = refl
open_told name (repo.PayloadDamaged found) h known = absurd h
open_told name (repo.Compressed found) h known = absurd h
open_told name (repo.TooLarge which count) h known = refl
open_told name repo.SourceFault h known = absurd (known refl)

damage_told : (name other : PayloadName) (bytes : List ℕ) (why : RepoFault) → IsDamage other bytes why → IsToldOf name why
damage_told name other bytes repo.NoRepository h = absurd h
damage_told name other bytes (repo.BadCatalog fault) h = absurd h
damage_told name other bytes repo.ManifestMissing h = absurd h
damage_told name other bytes (repo.BadManifest fault) h = absurd h
damage_told name other bytes repo.PayloadMissing h = absurd h
damage_told name other bytes (repo.PayloadDamaged found) h = refl
damage_told name other bytes (repo.Compressed found) h = refl
damage_told name other bytes (repo.TooLarge which count) h = absurd h
damage_told name other bytes repo.SourceFault h = absurd h

fault_told : (tells : Bool) (publisher : List ℕ) (t : Image) (name other : PayloadName) (why : RepoFault) → IsPayloadFault tells publisher t other why → IsToldOf name why
fault_told tells publisher t name other why (inl unopened) = open_told name why unopened.fault unopened.no_call
fault_told tells publisher t name other why (inr damaged) = damage_told name other damaged.bytes why damaged.damage

text_told : (told : Bool) (file : Option (List ℕ)) (tells : Bool) (publisher : List ℕ) (t : Image) (l : Left) (name : PayloadName) (why : RepoFault)
    → IsTextUnread told file tells publisher t l (ledger.Payload name why) → IsToldOf name why
text_told told file tells publisher t left.Nothing name why h = absurd h
text_told told file tells publisher t (left.Standing mode) name why h = absurd h
text_told told file tells publisher t (left.Laid payload mode) name why h = fault_told tells publisher t name payload why h.1

unread_told_of : (blocked : Bool) (a : Around) (r : Request) (path : List ℕ) (name : PayloadName) (why : RepoFault) → IsUnreadWhere blocked a r path (ledger.Payload name why) → IsToldOf name why
unread_told_of true a r path name why h = absurd h
unread_told_of false a r path name why (l, leaves, unread) = text_told a.told _ a.tells a.publisher a.repository l name why unread

first_told : (a : Around) (r : Request) (name : PayloadName) (why : RepoFault) → IsFirstUnread a r (ledger.Payload name why) → IsToldOf name why
first_told a r name why (blocked, are, inl h) = unread_told_of blocked.passwd a r _ name why h
first_told a r name why (blocked, are, inr (inl h)) = unread_told_of blocked.shadow a r _ name why h.1
first_told a r name why (blocked, are, inr (inr h)) = unread_told_of blocked.group a r _ name why h.2

behind_told : (b : Bool) (a : Around) (r : Request) (old new : List Fields) (name : PayloadName) (why : RepoFault) → BehindWhere b a r old new (Err (ledger.Payload name why)) → IsToldOf name why
behind_told true a r old new name why h = first_told a r name why h
behind_told false a r old new name why h = absurd h

answered_told : (b : Bool) (g : Given) (was is : List (List ℕ × meaning.Entry)) (bytes : List ℕ → List ℕ) (before after : List Fields) (name : PayloadName) (why : RepoFault)
    → AnsweredWhere b g was is bytes before after (Err (ledger.Payload name why)) → IsToldOf name why
answered_told true g was is bytes before after name why h = behind_told (has_accounts before after) _ _ before after name why h.behind
answered_told false g was is bytes before after name why h = absurd (never h)
  where
    never : Err (ledger.Payload name why) ≡ Ok no_files → ⊥
    never e = cc

ledger_told : (g : Given) (old new : State) (was is : List (List ℕ × meaning.Entry)) (bytes : List ℕ → List ℕ) (name : PayloadName) (why : RepoFault)
    → IsLedger g old new was is bytes (Err (ledger.Payload name why)) → IsToldOf name why
ledger_told g old new was is bytes name why h = answered_told _ g was is bytes h.before h.after name why h.answered

-- ---- of a plan

-- the fault is told
abbrev IsToldAt : PlanFault → Type 0
IsToldAt why = is_some (unplanned_told (Bad why)) ≡ true

told_at : (why other : PlanFault) → why ≡ other → IsToldAt other → IsToldAt why
told_at why other e h = ap (λ (f : PlanFault). is_some (unplanned_told (Bad f))) e ∙ h

payload_at : (name : PayloadName) (why : RepoFault) → IsToldOf name why → IsToldAt (plan.Payload name why)
payload_at name why h = go (payload_told name why) h
  where
    go : (o : Option Outcome) → is_some o ≡ true → is_some (option_map as_refused o) ≡ true
    go (Some told) h = refl
    go None h = h

unmeant_at : (f : WantFault) → IsToldAt (unmeant f)
unmeant_at (want.Reserved path) = refl
unmeant_at (want.Clash clash) = refl

unlaid_at : (f : BehindFault) → IsToldAt (unlaid f)
unlaid_at (behind.UnknownOwner unknown) = refl
unlaid_at (behind.LicenseNeeded list) = refl
unlaid_at (behind.Unmovable path) = refl
unlaid_at (behind.TooLarge excess) = refl
unlaid_at behind.FolderFault = refl

unedited_at : (f : AccountFault) (why : PlanFault) → IsUnedited f why → IsToldAt why
unedited_at (account.BadAccountLine book line) why h = told_at why _ h refl
unedited_at (account.IdTaken id) why h = told_at why _ h refl
unedited_at (account.UnknownGroup name) why h = told_at why _ h.is refl

ungiven_at : (g : Given) (b : Between) (f : LedgerFault) (why : PlanFault) → ((bytes : List ℕ → List ℕ) → IsLedger g b.old.now b.new.now b.was.now b.is.now bytes (Err f)) → IsUngiven f why → IsToldAt why
ungiven_at g b (ledger.Payload name fault) why ledgers h =
    told_at why _ h (payload_at name fault (ledger_told g b.old.now b.new.now b.was.now b.is.now (λ q. q) name fault (ledgers (λ q. q))))
ungiven_at g b (ledger.TooLarge count) why ledgers h = told_at why _ h refl
ungiven_at g b (ledger.Account fault) why ledgers h = unedited_at fault why h
ungiven_at g b ledger.SourceFault why ledgers h = told_at why _ h refl
ungiven_at g b ledger.FolderFault why ledgers h = told_at why _ h refl

between_at : (g : Given) (moment : List ℕ) (b : Between) (accept : Bool) (why : PlanFault) → ComesBetween g moment b accept why → IsToldAt why
between_at g moment b accept why (plans.NoFiles f meant ledgers ungiven) = ungiven_at g b f why ledgers ungiven
between_at g moment b accept why (plans.NoSteps files meant are none) = told_at why _ none.is (unlaid_at none.fault)

pub plan_told : (g : Given) (moment : List ℕ) (old new : State) (accept : Bool) (why : PlanFault) → ComesOfPlan g moment old new accept why → IsTrue (is_some (unplanned_told (Bad why)))
plan_told g moment old new accept why (plans.OldFail f fails is) = told_at why _ is (unmeant_at f)
plan_told g moment old new accept why (plans.NewFail f was mean fails is) = told_at why _ is (unmeant_at f)
plan_told g moment old new accept why (plans.NonePlanned b is comes) = between_at g moment b accept why comes
