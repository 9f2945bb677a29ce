-- The image after a repair holds the state with its history.
use Rattle.std.proofs.Common.{◌≡◌, ℕ, ◌≤◌, true, Bool, List, length, None, sym, subst}
use Rattle.ips_outside.specs.Image.{Image, IsImage, is_dir}
use Rattle.ips_steps.specs.Private.{records_name}
use Rattle.ips_manifest.specs.declared.package.Package.{Package}
use Rattle.ips_filter.specs.Settings.{Set}
use Rattle.ips_mediate.specs.declared.set.SetMediator.{SetMediator}
use Rattle.ips_meaning.specs.declared.entry.Entry as meaning
use Rattle.ips_state.specs.Lawful.{IsLawful}
use Rattle.ips_state.specs.State.{Recorded, recorded}
use Rattle.ips_state.specs.declared.state.State.{State}
use Rattle.ips_records.specs.Lines.{lines_text}
use Rattle.ips_load.specs.Held.{Holds, record_limit}
use Rattle.ips_after.specs.Repaired.{IsRepair, Repair, request_of}
use Rattle.ips_after.specs.Request.{IsRequest, Over, Request}
use Rattle.ips_after.specs.Salvage.{IsImageAfter, IsOwn}
use Rattle.ips_after.proofs.Displaced.{repaired_after}
use Rattle.ips_after.proofs.Mended.{is_request}
use Rattle.ips_change.specs.wanted.Named.{is_payload_of}
use Rattle.ips_change.proofs.wanted.Apart.{own_wanted}
use Rattle.ips_due.specs.Apart.{LeavesSalvage}
use Rattle.ips_due.specs.Asked.{AreMeant}
use Rattle.ips_due.specs.Due.{IsOverOf, is_own}
use Rattle.ips_due.proofs.Lying.{own_of}
use Rattle.ips_request_due.specs.repairs.Repairing.{repair_between, repair_due}
use Rattle.ips_image_steps.specs.staged_plans.Payloads.{payload_bytes}
use Rattle.ips_repair.specs.Meant.{IsRepairedImage}
use Rattle.ips_laws.proofs.record_laws.Own.{folder_stands, root_lost}
use Rattle.ips_laws.proofs.record_laws.Mend.{mended_held}

-- a repair of what packages mean is lawful
abbrev pub RepairsLawful : Type 0
RepairsLawful = (settings : Set) (mediators : List SetMediator) (packages : List Package) (entries : List (List ℕ × meaning.Entry)) → AreMeant settings mediators packages entries
    → (bytes : List ℕ → List ℕ) (holds : List ℕ → List ℕ → Bool) (history : List (List ℕ)) (t : Image) (o : Over) → IsOverOf bytes holds (repair_due history) t o → IsRepair (repair_between entries bytes holds o)

-- it leaves the image's own folders to it, before and behind
abbrev pub LeavesNew : Type 0
LeavesNew = (settings : Set) (mediators : List SetMediator) (packages : List Package) (entries : List (List ℕ × meaning.Entry)) → AreMeant settings mediators packages entries
    → (bytes : List ℕ → List ℕ) (holds : List ℕ → List ℕ → Bool) (t : Image) (o : Over) (q : List ℕ) → is_own q ≡ true → (request_of (repair_between entries bytes holds o) t).new.at q ≡ None

abbrev pub LeavesOld : Type 0
LeavesOld = (settings : Set) (mediators : List SetMediator) (packages : List Package) (entries : List (List ℕ × meaning.Entry)) → AreMeant settings mediators packages entries
    → (bytes : List ℕ → List ℕ) (holds : List ℕ → List ℕ → Bool) (t : Image) (o : Over) (q : List ℕ) → is_own q ≡ true → (request_of (repair_between entries bytes holds o) t).old.at q ≡ None

-- what it makes due leaves alone what is salvaged
abbrev pub SalvageLeft : Type 0
SalvageLeft = (bytes : List ℕ → List ℕ) (holds : List ℕ → List ℕ → Bool) (history : List (List ℕ)) (t : Image) (o : Over) → IsOverOf bytes holds (repair_due history) t o → LeavesSalvage o

module _ (repairs : RepairsLawful) (new_left : LeavesNew) (old_left : LeavesOld) (salvage : SalvageLeft) (moment : ℕ) (old : Recorded) (new : State) (repository t after : Image) (m : IsRepairedImage moment new repository t after)
    (formed : IsImage t) (held : Holds t old) where
  abbrev bytes : List ℕ → List ℕ
  bytes = payload_bytes new.publisher repository

  abbrev f : Repair
  f = repair_between m.want bytes is_payload_of m.over

  abbrev r : Request
  r = request_of f t

  lawful : IsRepair f
  lawful = repairs new.settings new.mediators.items new.installed.items m.want m.means bytes is_payload_of new.history.items t m.over m.is_over

  good : IsRequest r
  good = is_request f t lawful

  is_after : IsImageAfter m.text r t after
  is_after = repaired_after f t lawful formed m.text after m.image

  stands : is_dir (t.look records_name) ≡ true
  stands = folder_stands t _ formed held.head.file

  own : IsOwn r t is_after.aside
  own = own_of m.text r t is_after.aside good formed stands (own_wanted new.settings new.mediators.items new.installed.items m.want m.means.mean)
      (old_left new.settings new.mediators.items new.installed.items m.want m.means bytes is_payload_of t m.over) (new_left new.settings new.mediators.items new.installed.items m.want m.means bytes is_payload_of t m.over)
      (salvage bytes is_payload_of new.history.items t m.over m.is_over) is_after.is_root is_after.is_aside

  pub repaired_holds : IsLawful (recorded new) → recorded new ≡ record old { history = new.history.items } → length (lines_text new.history.items) ≤ record_limit → Holds after (recorded new)
  repaired_holds of noted small =
      subst (λ (s : Recorded). Holds after s) (sym noted)
      (subst (λ (u : Image). Holds u (record old { history = new.history.items })) (sym is_after.means)
      (mended_held bytes is_payload_of r t is_after.aside good formed own is_after.is_aside (root_lost m.text is_after.aside.root is_after.is_root.times is_after.is_root.name) new.history.items m.is_over old held of.history small))
