-- What a folder in memory means, and what each call on it does.
use Rattle.std.specs.Prelude.{◌≡◌, ◌⊎◌, ℕ, ◌+◌, ◌≤◌, Bool, true, false, cond, ◌||◌, nat_le, IsTrue, List, [], ◌∷◌, ◌++◌, length, take, Option, Some, None, Result, Ok, Err, is_err}
use Rattle.std.proofs.Common.{sym, ap, subst, ◌∙◌}
use Rattle.std.proofs.Math.Nat.{le_refl}
use Rattle.std.proofs.lemmas.List.{take_all}
use Rattle.ips_outside.specs.Image.{IsImage}
use Rattle.ips_outside.specs.State.{State}
use Rattle.ips_outside.specs.Outside.{Outside, IsOutside, HasCause, OneMore, risen}
use Rattle.ips_outside.specs.Tally.{Tally, fresh, next_fails, after_call}
use Rattle.ips_outside.specs.declared.tree.Tree.{Tree}
use Rattle.ips_outside.specs.Tree.{tree_image, tree_formed}
use Rattle.ips_folder.specs.History.{Moment, begun, replay}
use Rattle.ips_folder.specs.declared.call.Call.{Call}
use Rattle.ips_folder.specs.declared.listing.ListFault.{ListFault}
use Rattle.ips_folder.specs.declared.listing.ListFault.TheVariants as list_fault
use Rattle.ips_folder.specs.declared.log.CallLog.{CallLog}
use Rattle.ips_folder.specs.declared.stop.Stop.{Stop}
use Rattle.ips_folder.specs.declared.stop.Choice.{Choice}
use Rattle.ips_folder.specs.declared.stop.Choice.TheVariants.{After}
use Rattle.ips_folder.specs.declared.memory.MemFolder.{MemFolder}

-- what a tree was when its record began, with nothing touched
abbrev pub first_moment : CallLog → Moment
first_moment r = begun (tree_image r.first)

-- where a record of calls stands
abbrev pub moment_of : CallLog → Moment
moment_of r = replay r.calls.items (first_moment r)

-- where a folder in memory stands
abbrev pub moment : MemFolder → Moment
moment f = moment_of f.log

-- The state after some of the calls, from a moment on.
pub record Since (calls : List Call) (first : Moment) (time : ℕ) (s : State) : Type 0 where
  pub at : ℕ
  pub low : time ≤ at
  pub high : at ≤ length calls
  pub is : s ≡ (replay (take at calls) first).state

-- Its record of calls answers for every moment.
abbrev pub mem_folder : Outside MemFolder
mem_folder = record {
  tells = λ f. true;
  state = λ f. (moment f).state;
  clock = λ f. length f.log.calls.items;
  states = λ f time s. Since f.log.calls.items (first_moment f.log) time s;
  faults = λ f. f.calls.failed;
  changes = λ f. f.changes;
}

-- how many calls failed because memory was refused to them
abbrev pub starved : MemFolder → ℕ
starved f = f.starved

-- the calls on the folder so far, and which of them are listed to fail
abbrev pub tally_of : MemFolder → Tally
tally_of f = f.calls

-- where the folder is to stop
abbrev pub stop_of : MemFolder → Option Stop
stop_of f = f.stop

-- after so many calls, the next is the stop or behind it
abbrev pub is_stopped : Option Stop → ℕ → Bool
is_stopped (Some stop) made = nat_le stop.call (made + 1)
is_stopped None made = false

-- after so many calls, the stop was made
abbrev pub is_past : Option Stop → ℕ → Bool
is_past (Some stop) made = nat_le stop.call made
is_past None made = false

-- the next call comes after the stop, so it changes nothing
abbrev pub is_over : MemFolder → Bool
is_over f = is_past f.stop f.calls.made

-- the next call is one of those that fail: it is listed, or at or after the stop
abbrev pub must_fail : MemFolder → Bool
must_fail f = next_fails (tally_of f) || is_stopped f.stop f.calls.made

-- what a crash does: what the stop says, and nothing where there is none
abbrev pub choice_of : Option Stop → Choice
choice_of (Some stop) = stop.choice
choice_of None = After

-- A folder that holds this tree: nothing is touched, no call was made, and these calls, and those from the stop on, are
-- to fail.
pub record Begins (tree : Tree) (fails : List ℕ) (stop : Option Stop) (f : MemFolder) : Type 0 where
  pub moment : moment f ≡ begun (tree_image tree)
  pub time : mem_folder.clock f ≡ 0
  pub tally : tally_of f ≡ fresh fails
  pub stops : stop_of f ≡ stop
  pub starved : f.starved ≡ 0
  pub changes : mem_folder.changes f ≡ 0

-- A call that leaves this moment, unless it comes after the stop, and fails exactly where it must.
pub record IsServed (to : Moment) (old new : MemFolder) (failed : Bool) : Type 0 where
  pub answer : failed ≡ must_fail old
  pub starved : new.starved ≡ old.starved
  pub moment : moment new ≡ cond (is_over old) (moment old) to

-- A call to which memory was refused: it fails and has no effect.
pub record IsStarved (old new : MemFolder) (failed : Bool) : Type 0 where
  pub answer : IsTrue failed
  pub starved : new.starved ≡ risen old.starved
  pub moment : moment new ≡ moment old

-- the answer is that the call failed, and not that memory ran out
abbrev pub has_failed : {T : Type 0} → Result T ListFault → Bool
has_failed (Ok x) = false
has_failed (Err list_fault.Failed) = true
has_failed (Err list_fault.OutOfMemory) = false

-- A call is counted, and so is its failure; the stop stays.
pub record IsTallied (old new : MemFolder) (failed : Bool) : Type 0 where
  pub tally : tally_of new ≡ after_call failed (tally_of old)
  pub stop : stop_of new ≡ stop_of old

-- What a call does that takes memory and, where it isn't refused, leaves this moment.
pub record Does {T E : Type 0} (to : Moment) (old new : MemFolder) (result : Result T E) : Type 0 where
  pub tallied : IsTallied old new (is_err result)
  pub ends : IsServed to old new (is_err result) ⊎ IsStarved old new (is_err result)

-- What a call does that takes no memory and has no effect. It failed or didn't.
pub record Passes (old new : MemFolder) (failed : Bool) : Type 0 where
  pub tallied : IsTallied old new failed
  pub served : IsServed (moment old) old new failed

-- A call is counted, and so is its failure, which has its cause; nothing else changes.
pub record IsCounted (old new : MemFolder) (failed : Bool) : Type 0 where
  pub tallied : IsTallied old new failed
  pub cause : HasCause old.calls.failed new.calls.failed (IsTrue failed)

-- The record goes on with this call.
pub record IsRecorded (call : Call) (old new : CallLog) : Type 0 where
  pub first : new.first ≡ old.first
  pub calls : new.calls.items ≡ old.calls.items ++ call ∷ []

-- The record stays.
pub record IsSameRecord (old new : CallLog) : Type 0 where
  pub first : new.first ≡ old.first
  pub calls : new.calls.items ≡ old.calls.items

-- A call before or at the stop, which has its whole effect.
pub record IsMade (call : Call) (old new : MemFolder) (failed : Bool) : Type 0 where
  pub counts : IsCounted old new failed
  pub answer : failed ≡ must_fail old
  pub starved : new.starved ≡ old.starved
  pub one_made : OneMore old.changes new.changes
  pub before : is_over old ≡ false
  pub recorded : IsRecorded call old.log new.log

-- A call after the stop, which has none.
pub record IsLate (old new : MemFolder) (failed : Bool) : Type 0 where
  pub counts : IsCounted old new failed
  pub answer : failed ≡ must_fail old
  pub starved : new.starved ≡ old.starved
  pub one_made : OneMore old.changes new.changes
  pub after : is_over old ≡ true
  pub same : IsSameRecord old.log new.log

-- A call to which memory was refused.
pub record IsRefused (old new : MemFolder) (failed : Bool) : Type 0 where
  pub counts : IsCounted old new failed
  pub answer : IsTrue failed
  pub one_made : OneMore old.changes new.changes
  pub starved : new.starved ≡ risen old.starved
  pub same : IsSameRecord old.log new.log

-- What became of a call that was to be carried out.
abbrev pub IsActed : Call → MemFolder → MemFolder → Bool → Type 0
IsActed call old new failed = IsMade call old new failed ⊎ IsLate old new failed ⊎ IsRefused old new failed

-- a folder in memory is as each folder has to be
pub mem_folder_sane : IsOutside mem_folder
mem_folder_sane = record {
  formed = λ f told. subst IsImage (sym f.log.left.held) (tree_formed f.log.tree);
  only_now = λ f s was. was.is ∙ ap (λ (l : List Call). (replay l (first_moment f.log)).state) (take_all was.at f.log.calls.items was.low);
  counts_now = λ f t le. record { at = length f.log.calls.items; low = le; high = le_refl (length f.log.calls.items); is = sym (ap (λ (l : List Call). (replay l (first_moment f.log)).state) (take_all (length f.log.calls.items) f.log.calls.items (le_refl (length f.log.calls.items)))) };
}
