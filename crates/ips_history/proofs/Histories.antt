-- What a history owes, and what is seen where its gate is closed.
use Rattle.std.proofs.Common.{◌≡◌, ◌≢◌, ◌⊎◌, inl, inr, ⊎_elim, Bool, true, false, cond, List, is_some, Option, Some, None, IfSome, refl, sym, ◌∙◌, ap, subst, arith}
use Rattle.ips_text.proofs.Ancestry.{covers-self}
use Rattle.ips_outside.specs.Image.{Entry, Image}
use Rattle.ips_outside.specs.State.{State, IsSettled, MayLeave, untouched}
use Rattle.ips_outside.specs.Outside.{Outside, IsOutside}
use Rattle.ips_steps.specs.Private.{gate_name, visible}
use Rattle.ips_steps.specs.Owed.{Owes, Old, Open, New, FolderOwes, IsPrivate}
use Rattle.ips_steps.proofs.Lists.{clash}
use Rattle.ips_steps.proofs.PrivateNames.{gate_private}
use Rattle.ips_steps.proofs.Owing.{owes_crashed, folder_old, folder_new}
use Rattle.ips_kinds.specs.Tallies.{Carrier}
use Rattle.ips_journal.specs.Text.{journal_text}
use Rattle.ips_history.specs.Due.{HasEnded}
use Rattle.ips_history.specs.Directories.{creates, with_directories, image_for}
use Rattle.ips_history.specs.Transition.{StillOwes, IsRequestRun, Transition, Kept, Asked, Created, CreatedInPart}
use Rattle.ips_history.specs.Run.{IsRecovered}
use Rattle.ips_history.specs.declared.effect.Effect.{Effect}
use Rattle.ips_history.specs.History.{Last, asked_at, LeftSince, Undue, Due, Ended, LeftAt, History, First, Then, Crash, IsMeantBy, IsRestored}

-- ---- what a closed gate shows of what is owed

-- nothing touched, nothing but private names is
pub settled_private : (s : State) → IsSettled s → IsPrivate s
settled_private s clean = record { whole = λ q is. absurd (clash (s.whole q) is (clean.whole q)); modes = λ q is. absurd (clash (s.modes q) is (clean.modes q)) }

pub ended_owes : (b : Image) (a : Option Image) (due : Bool) (s : State) → HasEnded a s → FolderOwes journal_text b a due s
ended_owes b a due s ended =
    let owes = folder_new journal_text s (settled_private s ended.safe) (ended.bare gate_name (gate_private gate_name (covers-self gate_name))) (ended.safe.whole gate_name) b due in
    subst (λ (x : Option Image). FolderOwes journal_text b x due s) (sym ended.seen) owes

pub shut_shows : (b : Image) (a : Option Image) (due : Bool) (t : Image) → Owes journal_text b a due t → t.look gate_name ≡ None
    → ((visible t ≡ b) ⊎ (a ≡ Some (visible t))) × (due ≡ true → a ≡ Some (visible t))
shut_shows b a due t (Old gone seen) shut = (inl seen, λ is. cc)
shut_shows b a due t (Open steps marks is) shut = absurd (is.gate shut)
shut_shows b a due t (New gone seen) shut = let same = ap Some (sym seen) in (inr same, λ is. same)

-- behind an open gate an image is owed that a request means
none_open : (b : Image) (due : Bool) (t : Image) → Owes journal_text b None due t → t.look gate_name ≢ None → ⊥
none_open b due t (Old gone seen) there = there gone

-- ---- a history, from run to run

module _ {F R : Type 0} (o : Outside F) (sane : IsOutside o) (means : R → Image → Image → Type 0) where
  -- what the last request says is owed
  abbrev OwedBy : State → Last R → Type 0
  OwedBy s l = FolderOwes journal_text l.before l.after l.due s

  abbrev MeansSo : Last R → Type 0
  MeansSo l = IfSome l.after (λ a. IsMeantBy means l a)

  module _ (is_done : Bool) (r : R) (at new : F) (q : IsRequestRun o (means r) is_done at new) where
    since : (s : State) (l : Last R) → LeftSince o (means r) is_done r at new q s l → OwedBy s l
    since s l (Undue was) = ⊎_elim (λ moment. q.owed.each s moment) (λ owes. owes) was
    since s l (Due {a = a} d is was) = subst (λ (x : Option Image). FolderOwes journal_text (visible (o.state at).held) x true s) (sym is) (d.owed.each s was)
    since s l (Ended is) = ended_owes (visible (o.state at).held) q.after true (o.state new) (q.done is)

    meant_by : (a : Option Image) (due : Bool) → IfSome a (means r (visible (o.state at).held)) → MeansSo (asked_at r (o.state at) a due)
    meant_by None due is = is
    meant_by (Some a) due is = (refl, (r, refl, is))

    since_means : (s : State) (l : Last R) → LeftSince o (means r) is_done r at new q s l → MeansSo l
    since_means s l (Undue was) = meant_by q.after false q.is_meant
    since_means s l (Due d is was) = meant_by q.after true q.is_meant
    since_means s l (Ended is) = meant_by q.after true q.is_meant

  abbrev Knows : State → Option (Last R) → Type 0
  Knows s w = IfSome w (λ l. OwedBy s l × MeansSo l)

  still : (w : Option (Last R)) (old at : F) → StillOwes o old at → (s : State) → o.states at (o.clock old) s → Knows (o.state old) w → Knows s w
  still None old at keeps s was knows = knows
  still (Some l) old at keeps s was knows = ((keeps l.before l.after l.due knows.0).each s was, knows.1)

  anew : (w : Option (Last R)) (s : State) (l : Last R) → w ≡ Some l → OwedBy s l → MeansSo l → Knows s w
  anew w s l is owes means_so = subst (Knows s) (sym is) (owes, means_so)

  nothing : (w : Option (Last R)) (s : State) → w ≡ None → Knows s w
  nothing w s is = subst (Knows s) (sym is) tt

  left_at : (effect : Effect) (is_done : Bool) (r : R) (old new : F) (transition : Transition o (means r) effect is_done old new) (w now : Option (Last R)) (s : State)
      → LeftAt o (means r) effect is_done r old new transition w s now → Knows (o.state old) w → Knows s now
  left_at effect is_done r old new (Kept none why k) w now s (was, is) knows = subst (Knows s) (sym is) (still w old new k s was knows)
  left_at effect is_done r old new (Asked at later changes synced same k q) w now s (inl (was, is)) knows = subst (Knows s) (sym is) (still w old at k s was knows)
  left_at effect is_done r old new (Asked at later changes synced same k q) w now s (inr (l, is, left)) knows = anew now s l is (since is_done r at new q s l left) (since_means is_done r at new q s l left)
  left_at effect is_done r old new (Created at is_creating c made q) w now s (inl (was, is)) knows = subst (Knows s) (sym is) (still w old c.from c.still s was knows)
  left_at effect is_done r old new (Created at is_creating c made q) w now s (inr (inl (was, is))) knows = nothing now s is
  left_at effect is_done r old new (Created at is_creating c made q) w now s (inr (inr (l, is, left))) knows = anew now s l is (since is_done r at new q s l left) (since_means is_done r at new q s l left)
  left_at effect is_done r old new (CreatedInPart is_creating none c) w now s (inl (was, is)) knows = subst (Knows s) (sym is) (still w old c.creating.from c.creating.still s was knows)
  left_at effect is_done r old new (CreatedInPart is_creating none c) w now s (inr (was, is)) knows = nothing now s is

  crashed : (w : Option (Last R)) (s : State) (left : Image) → MayLeave s left → Knows s w → Knows (untouched left) w
  crashed None s left may knows = knows
  crashed (Some l) s left may knows = (owes_crashed journal_text l.before l.after l.due s left knows.0 may, knows.1)

  pub known : (w : Option (Last R)) (s : State) → History o means w s → Knows s w
  known w s (First held clean shut) = (folder_old journal_text held (settled_private held clean) shut (clean.whole gate_name) None, tt)
  known w s (Then {w = earlier} r effect is_done old new transition so_far left) = left_at effect is_done r old new transition earlier w s left (known earlier (o.state old) so_far)
  known w s (Crash {s = held} left so_far may) = crashed w held left may (known w held so_far)

  -- ---- what is restored

  meant : (l : Last R) (t : Image) → MeansSo l → l.after ≡ Some t → IsMeantBy means l t
  meant l t so is = go l.after so is
    where
      go : (a : Option Image) → IfSome a (λ x. IsMeantBy means l x) → a ≡ Some t → IsMeantBy means l t
      go None so is = cc
      go (Some a) so is = let same : a ≡ t = cc in subst (IsMeantBy means l) same so

  pub restored : (l : Last R) (s : State) → Knows s (Some l) → s.held.look gate_name ≡ None → IsRestored means l (visible s.held)
  restored l s knows shut =
      let shows = shut_shows l.before l.after l.due s.held knows.0.now shut in
      record { one = ⊎_elim (λ same. inl same) (λ is. inr (meant l (visible s.held) knows.1 is)) shows.0; due = λ due. meant l (visible s.held) knows.1 (shows.1 due) }

  pub kept_until : (l : Last R) (old at : F) → StillOwes o old at → Knows (o.state old) (Some l) → Knows (o.state at) (Some l)
  kept_until l old at keeps knows =
      let run = keeps l.before l.after l.due knows.0 in
      (run.each (o.state at) (sane.counts_now at (o.clock old) run.later), knows.1)

  pub forward : (l : Last R) (old new : F) → Knows (o.state old) (Some l) → (o.state old).held.look gate_name ≢ None
      → ((b a : Image) (due : Bool) → FolderOwes journal_text b (Some a) due (o.state old) → HasEnded (Some a) (o.state new)) → IsMeantBy means l (visible (o.state new).held)
  forward l old new knows there ends = go l.after refl
    where
      go : (a : Option Image) → l.after ≡ a → IsMeantBy means l (visible (o.state new).held)
      go None is = absurd (none_open l.before l.due (o.state old).held (subst (λ (x : Option Image). Owes journal_text l.before x l.due (o.state old).held) is knows.0.now) there)
      go (Some a) is = meant l (visible (o.state new).held) knows.1 (is ∙ (ends l.before a l.due (subst (λ (x : Option Image). FolderOwes journal_text l.before x l.due (o.state old)) is knows.0)).seen)

  -- what is done is meant
  meant_at : (b : Image) (a : Option Image) (t : Image) (P : Image → Image → Type 0) → IfSome a (P b) → a ≡ Some t → P b t
  meant_at b None t P so is = cc
  meant_at b (Some a) t P so is = let same : a ≡ t = cc in subst (P b) same so

  pub done_meant : (r : R) (effect : Effect) (is_done : Bool) (old new : F) → Transition o (means r) effect is_done old new → is_done ≡ true
      → means r (visible (image_for effect (o.state old).held)) (visible (o.state new).held)
  done_meant r effect is_done old new (Kept none why k) done = clash is_done done none
  done_meant r effect is_done old new (Asked at later changes synced same k q) done =
      let here = meant_at (visible (o.state at).held) q.after (visible (o.state new).held) (means r) q.is_meant (q.done done).seen in
      let since = subst (λ (s : State). means r (visible s.held) (visible (o.state new).held)) synced here in
      subst (λ (t : Image). means r (visible t) (visible (o.state new).held)) (sym (same done)) since
  done_meant r effect is_done old new (Created at is c made q) done =
      let here = meant_at (visible (o.state at).held) q.after (visible (o.state new).held) (means r) q.is_meant (q.done done).seen in
      let since = subst (λ (s : State). means r (visible s.held) (visible (o.state new).held)) made here in
      subst (λ (b : Bool). means r (visible (cond b (with_directories (o.state old).held) (o.state old).held)) (visible (o.state new).held)) (sym is) since
  done_meant r effect is_done old new (CreatedInPart is none c) done = clash is_done done none

  -- ---- a run behind a history

  module _ (l : Last R) (old new : F) (knows : Knows (o.state old) (Some l)) where
    pub done_restored : (r : R) (effect : Effect) (is_done : Bool) → Transition o (means r) effect is_done old new → is_done ≡ true → creates effect ≡ false
        → IsRestored means l (visible (o.state old).held)
    done_restored r effect is_done (Kept none why k) done other = clash is_done done none
    done_restored r effect is_done (Asked at later changes synced same k q) done other =
        subst (λ (s : State). IsRestored means l (visible s.held)) synced (restored l (o.state at) (kept_until l old at k knows) q.shut)
    done_restored r effect is_done (Created at is c made q) done other = clash (creates effect) is other
    done_restored r effect is_done (CreatedInPart is none c) done other = clash is_done done none

    pub recovered_restored : (before now : List Carrier) (claimed : Option Bool) (way : Bool) → claimed ≡ Some way → IfSome claimed (λ way. IsRecovered o way before now old new)
        → IsRestored means l (visible (o.state new).held) × (way ≡ true → IsMeantBy means l (visible (o.state new).held))
    recovered_restored before now None way is says = cc
    recovered_restored before now (Some other) way is says =
        let same : other ≡ way = cc in
        let r = subst (λ (b : Bool). IsRecovered o b before now old new) same says in
        let there : way ≡ true → (o.state old).held.look gate_name ≢ None = λ yes none. clash way yes (r.is ∙ ap (λ (e : Option Entry). is_some e) none) in (
          restored l (o.state new) (kept_until l old new r.still knows) (r.bare gate_name (gate_private gate_name (covers-self gate_name))),
          λ yes. forward l old new knows (there yes) (λ b a due owes. r.on yes b a due owes),
        )

-- ---- a run is left somewhere

module _ {F R : Type 0} (o : Outside F) (means : Image → Image → Type 0) (effect : Effect) (is_done : Bool) (r : R) (old new : F) (w : Option (Last R)) (s : State) (was : o.states new (o.clock old) s) where
  pub left_somewhere : (t : Transition o means effect is_done old new) → (now : Option (Last R)) × LeftAt o means effect is_done r old new t w s now
  left_somewhere (Kept none why k) = (w, (was, refl))
  left_somewhere (Asked at later changes synced same k q) = ⊎_elim
      (λ before. (w, inl (before, refl)))
      (λ owes. (Some (asked_at r (o.state at) q.after false), inr (asked_at r (o.state at) q.after false, refl, Undue (inr owes))))
      (q.owed.before (o.clock old) s later was)
  left_somewhere (Created at is c made q) = ⊎_elim
      (λ before. ⊎_elim (λ older. (w, inl (older, refl))) (λ within. (None, inr (inl (inr within, refl)))) (c.moments.before (o.clock old) s c.later before))
      (λ owes. (Some (asked_at r (o.state at) q.after false), inr (inr (asked_at r (o.state at) q.after false, refl, Undue (inr owes)))))
      (q.owed.before (o.clock old) s (omega (arith, c.later, c.moments.later)) was)
  left_somewhere (CreatedInPart is none c) = ⊎_elim
      (λ older. (w, inl (older, refl)))
      (λ within. (None, inr (inr within, refl)))
      (c.creating.moments.before (o.clock old) s c.creating.later was)
