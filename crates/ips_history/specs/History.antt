-- Runs on one image folder, one after another, and what is known of the image behind them.
use Rattle.std.specs.Prelude.{◌≡◌, ◌⊎◌, Bool, true, false, IsTrue, Option, Some, None}
use Rattle.ips_text.specs.Ancestry.{covers}
use Rattle.ips_outside.specs.Image.{Image}
use Rattle.ips_outside.specs.State.{State, MayLeave, IsSettled, ChangedWithin, nowhere, untouched}
use Rattle.ips_outside.specs.Outside.{Outside}
use Rattle.ips_steps.specs.Private.{gate_name, visible}
use Rattle.ips_steps.specs.Owed.{FolderOwes}
use Rattle.ips_journal.specs.Text.{journal_text}
use Rattle.ips_commit.specs.Due.{IsDueSince}
use Rattle.ips_history.specs.Transition.{IsRequestRun, Transition, Kept, Asked, Created, CreatedInPart}
use Rattle.ips_history.specs.declared.effect.Effect.{Effect}

-- The last request of a history, if there is one: what was asked, the image before it, the one that it means, if it has
-- such a one, and whether that is due: the request has come to its end, or the sync of its gate has answered.
pub record Last (R : Type 0) : Type 0 where
  pub asked : Option R
  pub before : Image
  pub after : Option Image
  pub due : Bool

-- nothing was asked yet, and this is seen
abbrev pub none_yet : {R : Type 0} → State → Last R
none_yet s = record { asked = None; before = visible s.held; after = None; due = false }

-- this was asked, where that was seen
abbrev pub asked_at : {R : Type 0} → R → State → Option Image → Bool → Last R
asked_at r s after due = record { asked = Some r; before = visible s.held; after = after; due = due }

-- A run that is a request since a moment is left at a state: at one of the moments since, or at one that owes what these do; at one
-- since the sync of the gate, so that the image that it means is due; or at its end.
pub data LeftSince {F R : Type 0} (o : Outside F) (means : Image → Image → Type 0) (is_done : Bool) (r : R) (at new : F)
    (q : IsRequestRun o means is_done at new) : State → Last R → Type 0 where
  Undue : {s : State} → o.states new (o.clock at) s ⊎ FolderOwes journal_text (visible (o.state at).held) q.after false s → LeftSince o means is_done r at new q s (asked_at r (o.state at) q.after false)
  Due : {s : State} {a : Image} (d : IsDueSince o (visible (o.state at).held) a at new) → q.after ≡ Some a → o.states new (o.clock d.since) s
      → LeftSince o means is_done r at new q s (asked_at r (o.state at) q.after true)
  Ended : IsTrue is_done → LeftSince o means is_done r at new q (o.state new) (asked_at r (o.state at) q.after true)

-- A run is left at a state, by its end or by a stop at any of its moments; behind it that is the last request, and none is
-- known where directories of the records were made by a run that wasn't a request yet.
abbrev pub LeftAt : {F R : Type 0} (o : Outside F) (means : Image → Image → Type 0) (effect : Effect) (is_done : Bool) (r : R) (old new : F)
    → Transition o means effect is_done old new → Option (Last R) → State → Option (Last R) → Type 0
LeftAt o means effect is_done r old new (Kept none why k) w s now = o.states new (o.clock old) s × (now ≡ w)
LeftAt o means effect is_done r old new (Asked at later changes synced same k q) w s now = (o.states at (o.clock old) s × (now ≡ w))
    ⊎ ((l : Last _) × (now ≡ Some l) × LeftSince o means is_done r at new q s l)
LeftAt o means effect is_done r old new (Created at is c made q) w s now = (o.states c.from (o.clock old) s × (now ≡ w)) ⊎ (((o.states at (o.clock c.from) s ⊎ ChangedWithin (covers c.dir) nowhere (o.state c.from) s) × (now ≡ None))
    ⊎ ((l : Last _) × (now ≡ Some l) × LeftSince o means is_done r at new q s l))
LeftAt o means effect is_done r old new (CreatedInPart is none c) w s now = (o.states c.creating.from (o.clock old) s × (now ≡ w)) ⊎ ((o.states new (o.clock c.creating.from) s ⊎ ChangedWithin (covers c.creating.dir) nowhere (o.state c.creating.from) s) × (now ≡ None))

-- A history: runs on one folder, of which the first begins with nothing at the gate and nothing touched. Each begins on the
-- state at which the one before it was left, or on an image that a crash at that moment may leave, with nothing touched.
-- Behind it this is the last request, and that the state on which the next run begins.
pub data History {F R : Type 0} (o : Outside F) (means : R → Image → Image → Type 0) : Option (Last R) → State → Type 0 where
  First : (s : State) → IsSettled s → s.held.look gate_name ≡ None → History o means (Some (none_yet s)) s
  Then : {w now : Option (Last R)} {s : State} (r : R) (effect : Effect) (is_done : Bool) (old new : F) (transition : Transition o (means r) effect is_done old new)
      → History o means w (o.state old) → LeftAt o (means r) effect is_done r old new transition w s now → History o means now s
  Crash : {w : Option (Last R)} {s : State} (left : Image) → History o means w s → MayLeave s left → History o means w (untouched left)

-- the image is the one that the last request was to leave, and means of the one before it
abbrev pub IsMeantBy : {R : Type 0} → (R → Image → Image → Type 0) → Last R → Image → Type 0
IsMeantBy means l t = (l.after ≡ Some t) × ((r : _) × (l.asked ≡ Some r) × means r l.before t)

-- The image is restored: it is the one before the last request or the one that this means; the latter where that is due.
pub record IsRestored {R : Type 0} (means : R → Image → Image → Type 0) (l : Last R) (t : Image) : Type 0 where
  pub one : (t ≡ l.before) ⊎ IsMeantBy means l t
  pub due : IsTrue l.due → IsMeantBy means l t
