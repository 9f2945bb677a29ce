-- Rules by what is seen.
use Rattle.std.proofs.Common.{◌≡◌, ℕ, Bool, true, false, cond, not, ◌&&◌, ◌||◌, List, Option, Some, None, is_some, refl, sym, ◌∙◌, ap, subst}
use Rattle.ips_outside.specs.Image.{Entry, Dir, File, Link, Other, is_file}
use Rattle.ips_action.specs.declared.action.Preserve.{Preserve}
use Rattle.ips_action.specs.declared.action.Preserve.TheVariants as preserves
use Rattle.ips_preserve.specs.declared.case.Event.{Event}
use Rattle.ips_preserve.specs.declared.case.Event.TheVariants.{First, Update, Removal}
use Rattle.ips_preserve.specs.declared.case.Standing.TheVariants.{Absent, NotFile}
use Rattle.ips_preserve.specs.declared.keep.Keep.{Keep}
use Rattle.ips_preserve.specs.declared.keep.Keep.TheVariants as keeps
use Rattle.ips_preserve.specs.Keep.{keep}
use Rattle.ips_after.specs.After as after
use Rattle.ips_after.specs.Change as change
use Rattle.ips_after.specs.Request.{Request, WantDir, WantFile, WantHard, WantLink, Wanted}
use Rattle.ips_after.specs.Salvage.{Side, copied, copies, has_bytes, legacy_suffix, new_suffix, old_suffix, saved_as, side_as, side_for}
use Rattle.ips_change.specs.wanted.Named.{is_payload_of}
use Rattle.ips_change.specs.declared.stands.Stands.{Stands}
use Rattle.ips_change.specs.declared.stands.Stands.TheVariants as stands
use Rattle.ips_change.specs.Stands.{fresh_payload, has_fresh, has_payload, is_unasked, known_payload, seen_of, stands_of, weighs}
use Rattle.ips_change.specs.declared.change.Beside.{Beside}
use Rattle.ips_change.specs.Told.{beside_for, naming, side_told}
use Rattle.ips_change.proofs.Answered.{case_of}
use Rattle.ips_change.proofs.Seen.{asked, spent_seen}

pub nothing_in : {A : Type 0} (o : Option A) → is_some o ≡ false → o ≡ None
nothing_in (Some x) h = cc
nothing_in None h = refl

-- where no rule asks, nothing becomes of the path
pub kept_if : (r : Request) (was new : Option Wanted) (e : Option Entry) → is_unasked was new ≡ true → change.Kept ≡ after.by_itself r was new e
kept_if r was (Some w) e h = sym (ap (λ (b : Bool). cond b change.Kept (after.new_change r was w e)) h)
kept_if r (Some o) None e h = cc
kept_if r None None e h = refl

-- where one asks, what is wanted decides
pub changed_if : (r : Request) (was : Option Wanted) (w : Wanted) (e : Option Entry) → is_unasked was (Some w) ≡ false → after.new_change r was w e ≡ after.by_itself r was (Some w) e
changed_if r was w e h = sym (ap (λ (b : Bool). cond b change.Kept (after.new_change r was w e)) h)

-- where no file stands, nothing is kept under another name
absent_copied : (event : Event) (changed : Bool) (preserve : Preserve) → copies (keep (case_of preserve event Absent changed)) ≡ false
absent_copied First changed preserves.None = refl
absent_copied First changed preserves.True = refl
absent_copied First changed preserves.RenameOld = refl
absent_copied First changed preserves.RenameNew = refl
absent_copied First changed preserves.Legacy = refl
absent_copied First changed preserves.Abandon = refl
absent_copied First changed preserves.InstallOnly = refl
absent_copied Update false preserve = refl
absent_copied Update true preserves.None = refl
absent_copied Update true preserves.True = refl
absent_copied Update true preserves.RenameOld = refl
absent_copied Update true preserves.RenameNew = refl
absent_copied Update true preserves.Legacy = refl
absent_copied Update true preserves.Abandon = refl
absent_copied Update true preserves.InstallOnly = refl
absent_copied Removal changed preserves.None = refl
absent_copied Removal changed preserves.True = refl
absent_copied Removal changed preserves.RenameOld = refl
absent_copied Removal changed preserves.RenameNew = refl
absent_copied Removal changed preserves.Legacy = refl
absent_copied Removal changed preserves.Abandon = refl
absent_copied Removal changed preserves.InstallOnly = refl

other_copied : (event : Event) (changed : Bool) (preserve : Preserve) → copies (keep (case_of preserve event NotFile changed)) ≡ false
other_copied First changed preserves.None = refl
other_copied First changed preserves.True = refl
other_copied First changed preserves.RenameOld = refl
other_copied First changed preserves.RenameNew = refl
other_copied First changed preserves.Legacy = refl
other_copied First changed preserves.Abandon = refl
other_copied First changed preserves.InstallOnly = refl
other_copied Update false preserve = refl
other_copied Update true preserves.None = refl
other_copied Update true preserves.True = refl
other_copied Update true preserves.RenameOld = refl
other_copied Update true preserves.RenameNew = refl
other_copied Update true preserves.Legacy = refl
other_copied Update true preserves.Abandon = refl
other_copied Update true preserves.InstallOnly = refl
other_copied Removal changed preserves.None = refl
other_copied Removal changed preserves.True = refl
other_copied Removal changed preserves.RenameOld = refl
other_copied Removal changed preserves.RenameNew = refl
other_copied Removal changed preserves.Legacy = refl
other_copied Removal changed preserves.Abandon = refl
other_copied Removal changed preserves.InstallOnly = refl

not_saved : (equal : Bool) (answer : Bool) → answer ≡ false → (not equal && answer) ≡ false
not_saved true answer h = refl
not_saved false answer h = h

-- so what is no file isn't saved
pub unsaved : (r : Request) (was new : Option Wanted) (e : Option Entry) → is_file e ≡ false → false ≡ saved_as (naming r) was new e
unsaved r was new (Some (File m b)) h = cc
unsaved r was (Some (WantFile payload m preserve)) (Some (Dir n f)) h = sym (not_saved (after.was_equal was (WantFile payload m preserve)) _ (other_copied (after.event_of was) (after.has_new_payload was payload) preserve))
unsaved r was (Some (WantFile payload m preserve)) (Some (Link g)) h = sym (not_saved (after.was_equal was (WantFile payload m preserve)) _ (other_copied (after.event_of was) (after.has_new_payload was payload) preserve))
unsaved r was (Some (WantFile payload m preserve)) (Some Other) h = sym (not_saved (after.was_equal was (WantFile payload m preserve)) _ (other_copied (after.event_of was) (after.has_new_payload was payload) preserve))
unsaved r was (Some (WantFile payload m preserve)) None h = sym (not_saved (after.was_equal was (WantFile payload m preserve)) _ (absent_copied (after.event_of was) (after.has_new_payload was payload) preserve))
unsaved r was (Some (WantDir m)) (Some (Dir n f)) h = refl
unsaved r was (Some (WantDir m)) (Some (Link g)) h = refl
unsaved r was (Some (WantDir m)) (Some Other) h = refl
unsaved r was (Some (WantDir m)) None h = refl
unsaved r was (Some (WantLink g)) (Some (Dir n f)) h = refl
unsaved r was (Some (WantLink g)) (Some (Link x)) h = refl
unsaved r was (Some (WantLink g)) (Some Other) h = refl
unsaved r was (Some (WantLink g)) None h = refl
unsaved r was (Some (WantHard g)) (Some (Dir n f)) h = refl
unsaved r was (Some (WantHard g)) (Some (Link x)) h = refl
unsaved r was (Some (WantHard g)) (Some Other) h = refl
unsaved r was (Some (WantHard g)) None h = refl
unsaved r was None (Some (Dir n f)) h = refl
unsaved r was None (Some (Link g)) h = refl
unsaved r was None (Some Other) h = refl
unsaved r was None None h = refl

-- A file is seen: it stands, and what is known of its bytes is so.
pub record FileThere (was new : Option Wanted) (known fresh : Bool) (e : Option Entry) : Type 0 where
  pub mode : ℕ
  pub bytes : List ℕ
  pub is : e ≡ Some (File mode bytes)
  pub known_is : known ≡ has_payload is_payload_of (known_payload was new) bytes
  pub fresh_is : fresh ≡ has_payload is_payload_of (fresh_payload was new known) bytes

abbrev known_bit : Stands → Bool
known_bit stands.Unasked = false
known_bit stands.Absent = false
known_bit (stands.Dir m) = false
known_bit (stands.File m known fresh) = known
known_bit (stands.Link wanted) = false
known_bit stands.Other = false

abbrev fresh_bit : Stands → Bool
fresh_bit stands.Unasked = false
fresh_bit stands.Absent = false
fresh_bit (stands.Dir m) = false
fresh_bit (stands.File m known fresh) = fresh
fresh_bit (stands.Link wanted) = false
fresh_bit stands.Other = false

pub file_there : (was new : Option Wanted) (m : ℕ) (known fresh : Bool) (e : Option Entry) → stands.File m known fresh ≡ seen_of is_payload_of was new e → FileThere was new known fresh e
file_there was new m known fresh (Some (File n b)) h =
    let same : known ≡ has_payload is_payload_of (known_payload was new) b = ap known_bit h in
    record { mode = n; bytes = b; is = refl; known_is = same; fresh_is = ap fresh_bit h ∙ ap (λ (k : Bool). has_payload is_payload_of (fresh_payload was new k) b) (sym same) }
file_there was new m known fresh (Some (Dir n f)) h = cc
file_there was new m known fresh (Some (Link g)) h = cc
file_there was new m known fresh (Some Other) h = cc
file_there was new m known fresh None h = cc

-- a file that isn't given up has the bytes that are laid just where that is seen
pub fresh_there : (was : Option Wanted) (payload : List ℕ) (m : ℕ) (preserve : Preserve) (known fresh : Bool) (e : Option Entry) (there : FileThere was (Some (WantFile payload m preserve)) known fresh e)
    → after.given_up_as is_payload_of was e ≡ false → has_fresh was known fresh ≡ has_bytes (is_payload_of payload) e
fresh_there was payload m preserve known fresh e there kept =
    go was there.known_is there.fresh_is (subst (λ (x : Option Entry). after.given_up_as is_payload_of was x ≡ false) there.is kept) ∙ ap (has_bytes (is_payload_of payload)) (sym there.is)
  where
    go : (o : Option Wanted) → known ≡ has_payload is_payload_of (known_payload o (Some (WantFile payload m preserve))) there.bytes
        → fresh ≡ has_payload is_payload_of (fresh_payload o (Some (WantFile payload m preserve)) known) there.bytes
        → after.given_up_as is_payload_of o (Some (File there.mode there.bytes)) ≡ false → has_fresh o known fresh ≡ is_payload_of payload there.bytes
    go None k f h = k
    go (Some (WantDir x)) k f h = k
    go (Some (WantLink x)) k f h = k
    go (Some (WantHard x)) k f h = k
    go (Some (WantFile w x kept)) k f h =
        let same : after.spent known kept ≡ false = ap (λ (b : Bool). after.spent b kept) k ∙ spent_seen is_payload_of w kept (weighs preserve) there.bytes ∙ h in
        f ∙ ap (λ (b : Bool). has_payload is_payload_of (cond b None (Some payload)) there.bytes) same

-- so it is saved just where that is seen, or where the table's answer keeps it under another name
pub saved_there : (r : Request) (was : Option Wanted) (payload : List ℕ) (m : ℕ) (preserve : Preserve) (e : Option Entry) (has copied : Bool)
    → has ≡ has_bytes (is_payload_of payload) e → copied ≡ copies (after.answer_at (naming r) was payload preserve e) → is_unasked was (Some (WantFile payload m preserve)) ≡ false
    → (has || copied) ≡ saved_as (naming r) was (Some (WantFile payload m preserve)) e
saved_there r was payload m preserve e has copied h c asked =
    ap (λ (b : Bool). b || copied) h
    ∙ ap (λ (b : Bool). has_bytes (is_payload_of payload) e || b) (c ∙ ap (λ (b : Bool). not b && copies (after.answer_at (naming r) was payload preserve e)) (sym asked))

-- ---- what is put beside a path

-- where no rule asks, nothing is
no_side : (r : Request) (was new : Option Wanted) (e : Option Entry) → is_unasked was new ≡ true → None ≡ side_as (naming r) was new e
no_side r was (Some (WantFile payload m preserve)) e h =
    sym (ap (λ (b : Bool). cond b None (side_for (after.answer_at (naming r) was payload preserve e) (File m (r.bytes payload)) e)) h)
no_side r was (Some (WantDir m)) e h = refl
no_side r was (Some (WantLink g)) e h = refl
no_side r was (Some (WantHard g)) e h = refl
no_side r was None e h = refl

no_copy : (suffix : List ℕ) (e : Option Entry) → is_file e ≡ false → None ≡ copied suffix e
no_copy suffix (Some (Dir m f)) h = refl
no_copy suffix (Some (File m b)) h = cc
no_copy suffix (Some (Link g)) h = refl
no_copy suffix (Some Other) h = refl
no_copy suffix None h = refl

-- nor where no file stands
no_file_side : (answer : Keep) (new : Entry) (e : Option Entry) → is_file e ≡ false → None ≡ side_for answer new e
no_file_side keeps.SaveOld new e h = no_copy old_suffix e h
no_file_side keeps.SaveLegacy new e h = no_copy legacy_suffix e h
no_file_side keeps.LayNew new e h = sym (ap (λ (b : Bool). cond b (Some (record { suffix = new_suffix; entry = new })) None) h)
no_file_side keeps.Lay new e h = refl
no_file_side keeps.Stay new e h = refl
no_file_side keeps.SalvageLay new e h = refl
no_file_side keeps.Drop new e h = refl
no_file_side keeps.SalvageDrop new e h = refl

cond_same : (b : Bool) (s : Option Side) → None ≡ s → None ≡ cond b None s
cond_same true s h = refl
cond_same false s h = h

none_beside : (r : Request) (was new : Option Wanted) (e : Option Entry) → is_file e ≡ false → None ≡ side_as (naming r) was new e
none_beside r was (Some (WantFile payload m preserve)) e h = cond_same (after.was_equal was (WantFile payload m preserve)) _ (no_file_side (after.answer_at (naming r) was payload preserve e) (File m (r.bytes payload)) e h)
none_beside r was (Some (WantDir m)) e h = refl
none_beside r was (Some (WantLink g)) e h = refl
none_beside r was (Some (WantHard g)) e h = refl
none_beside r was None e h = refl

unseen : (was new : Option Wanted) (e : Option Entry) (s : Stands) → s ≡ seen_of is_payload_of was new e → ((m : ℕ) (known fresh : Bool) → s ≡ stands.File m known fresh → ⊥) → is_file e ≡ false
unseen was new (Some (Dir m f)) s h never = refl
unseen was new (Some (File m b)) s h never = absurd (never m _ _ h)
unseen was new (Some (Link g)) s h never = refl
unseen was new (Some Other) s h never = refl
unseen was new None s h never = refl

-- where no file is learned of, nothing is put beside the path
pub sideless : (r : Request) (was new : Option Wanted) (e : Option Entry) (s : Stands) → s ≡ stands_of is_payload_of was new e → ((m : ℕ) (known fresh : Bool) → s ≡ stands.File m known fresh → ⊥) → None ≡ side_as (naming r) was new e
sideless r was new e s h never = go (is_unasked was new) refl h
  where
    go : (b : Bool) → is_unasked was new ≡ b → s ≡ cond b stands.Unasked (seen_of is_payload_of was new e) → None ≡ side_as (naming r) was new e
    go true is h = no_side r was new e is
    go false is h = none_beside r was new e (unseen was new e s h never)

told_beside : (bytes : List ℕ → List ℕ) (answer : Keep) (payload : List ℕ) (m : ℕ) (preserve : Preserve) (n : ℕ) (b : List ℕ)
    → side_told bytes (Some (WantFile payload m preserve)) (Some (File n b)) (beside_for answer) ≡ side_for answer (File m (bytes payload)) (Some (File n b))
told_beside bytes keeps.SaveOld payload m preserve n b = refl
told_beside bytes keeps.SaveLegacy payload m preserve n b = refl
told_beside bytes keeps.LayNew payload m preserve n b = refl
told_beside bytes keeps.Lay payload m preserve n b = refl
told_beside bytes keeps.Stay payload m preserve n b = refl
told_beside bytes keeps.SalvageLay payload m preserve n b = refl
told_beside bytes keeps.Drop payload m preserve n b = refl
told_beside bytes keeps.SalvageDrop payload m preserve n b = refl

some_beside : (answer : Keep) (new : Entry) (n : ℕ) (b : List ℕ) → is_some (beside_for answer) ≡ is_some (side_for answer new (Some (File n b)))
some_beside keeps.SaveOld new n b = refl
some_beside keeps.SaveLegacy new n b = refl
some_beside keeps.LayNew new n b = refl
some_beside keeps.Lay new n b = refl
some_beside keeps.Stay new n b = refl
some_beside keeps.SalvageLay new n b = refl
some_beside keeps.Drop new n b = refl
some_beside keeps.SalvageDrop new n b = refl

-- where a file is learned of, the table's answer decides
module _ (r : Request) (was : Option Wanted) (payload : List ℕ) (m : ℕ) (preserve : Preserve) (e : Option Entry) (n : ℕ) (known fresh : Bool)
    (learned : stands.File n known fresh ≡ stands_of is_payload_of was (Some (WantFile payload m preserve)) e)
    (answer : Keep) (table : stands.File n known fresh ≡ seen_of is_payload_of was (Some (WantFile payload m preserve)) e → answer ≡ after.answer_at (naming r) was payload preserve e)
    (side : Option Beside) (is : side ≡ beside_for answer) where
  both : (is_unasked was (Some (WantFile payload m preserve)) ≡ false) × (stands.File n known fresh ≡ seen_of is_payload_of was (Some (WantFile payload m preserve)) e)
  both = asked is_payload_of was (Some (WantFile payload m preserve)) e (stands.File n known fresh) learned (λ h. cc)

  answered : side ≡ beside_for (after.answer_at (naming r) was payload preserve e)
  answered = is ∙ ap beside_for (table both.1)

  open_side : side_for (after.answer_at (naming r) was payload preserve e) (File m (r.bytes payload)) e ≡ side_as (naming r) was (Some (WantFile payload m preserve)) e
  open_side = sym (ap (λ (b : Bool). cond b None (side_for (after.answer_at (naming r) was payload preserve e) (File m (r.bytes payload)) e)) both.0)

  there : FileThere was (Some (WantFile payload m preserve)) known fresh e
  there = file_there was (Some (WantFile payload m preserve)) n known fresh e both.1

  pub told_side : side_told r.bytes (Some (WantFile payload m preserve)) e side ≡ side_as (naming r) was (Some (WantFile payload m preserve)) e
  told_side =
      ap (side_told r.bytes (Some (WantFile payload m preserve)) e) answered
      ∙ subst (λ (x : Option Entry). side_told r.bytes (Some (WantFile payload m preserve)) x (beside_for (after.answer_at (naming r) was payload preserve e)) ≡ side_for (after.answer_at (naming r) was payload preserve e) (File m (r.bytes payload)) x)
      (sym there.is) (told_beside r.bytes (after.answer_at (naming r) was payload preserve e) payload m preserve there.mode there.bytes)
      ∙ open_side

  pub some_side : is_some side ≡ is_some (side_as (naming r) was (Some (WantFile payload m preserve)) e)
  some_side =
      ap (λ (x : Option Beside). is_some x) answered
      ∙ subst (λ (x : Option Entry). is_some (beside_for (after.answer_at (naming r) was payload preserve e)) ≡ is_some (side_for (after.answer_at (naming r) was payload preserve e) (File m (r.bytes payload)) x))
      (sym there.is) (some_beside (after.answer_at (naming r) was payload preserve e) (File m (r.bytes payload)) there.mode there.bytes)
      ∙ ap (λ (x : Option Side). is_some x) open_side
