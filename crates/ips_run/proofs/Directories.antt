-- The directories of an image's records: what stands once they are made, and what is so at every moment until then.
use Rattle.std.proofs.Common.{◌≡◌, ◌⊎◌, ⊎_elim, ℕ, Bool, true, false, cond, List, [], ◌∷◌, Option, Some, None, is_none, inl, inr, Result, Ok, Err, OnOk, OnErr, codes, refl, sym, ◌∙◌, ap, subst, arith}
use Rattle.std.proofs.lemmas.Bool.{and_parts, and_from, or_left, or_right}
use Rattle.ips_text.specs.Path.{IsPath}
use Rattle.ips_text.specs.Ancestry.{covers, same_path, parent}
use Rattle.ips_text.proofs.Ancestry.{same_path-self, covers-self, covers_trans}
use Rattle.ips_outside.specs.Image.{Entry, Dir, Image, is_dir, dir_or_none}
use Rattle.ips_outside.specs.Change.{with_entry_at}
use Rattle.ips_outside.specs.State.{State, MayChange, nowhere, written, settled, untouched}
use Rattle.ips_outside.specs.Outside.{Outside, IsOutside, Elapses}
use Rattle.ips_outside.proofs.Moments.{placed_within}
use Rattle.ips_folder.specs.Calls.{CanMake, Writes, Syncs, Throughout, ChangesOnly}
use Rattle.ips_folder.proofs.Runs.{started, goes_on, joins, weaker, one_write, one_sync, keeps_then, keeps_wider}
use Rattle.ips_steps.specs.Private.{records_name, gate_name}
use Rattle.ips_steps.proofs.Lists.{clash}
use Rattle.ips_repo.proofs.Joined.{joined_path}
use Rattle.ips_history.specs.Directories.{var_name, with_dir, with_directories, is_dir_or_free, CanHaveDirectories, IsFirstObstacle}
use Rattle.ips_history.specs.Transition.{IsNotYetSafe}
use Rattle.ips_history.specs.Run.{StaysShut}
use Rattle.ips_run.specs.Creating.{IsSafeAtLast}

-- ---- the names

pub var_path : IsPath (codes "var")
var_path = joined_path (codes "var" ∷ []) (record { bytes = refl; some = omega arith; few = omega arith; no_dots = refl }) (omega arith)

pub records_below : covers var_name records_name ≡ true
unfolding var_name records_name
records_below = refl

records_other : same_path var_name records_name ≡ false
unfolding var_name records_name
records_other = refl

var_above : covers records_name var_name ≡ false
unfolding var_name records_name
var_above = refl

records_parent : parent records_name ≡ Some var_name
unfolding var_name records_name
records_parent = refl

var_parent : parent var_name ≡ None
unfolding var_name
var_parent = refl

gate_below : covers records_name gate_name ≡ true
unfolding records_name gate_name
gate_below = refl

gate_other : same_path records_name gate_name ≡ false
unfolding records_name gate_name
gate_other = refl

var_gate : same_path var_name gate_name ≡ false
unfolding var_name gate_name
var_gate = refl

-- ---- what stands once they are made

abbrev pub made_dir : Option Entry
made_dir = Some (Dir 493 false)

with_there : (p : List ℕ) (t : Image) (e : Entry) → t.look p ≡ Some e → with_dir p t ≡ t
with_there p t e is = ap (λ (x : Option Entry). cond (is_none x) (with_entry_at p made_dir t) t) is

with_old : (p : List ℕ) (t : Image) → is_dir (t.look p) ≡ true → with_dir p t ≡ t
with_old p t dir = go (t.look p) refl dir
  where
    go : (e : Option Entry) → t.look p ≡ e → is_dir e ≡ true → with_dir p t ≡ t
    go None is dir = cc
    go (Some e) is dir = with_there p t e is

with_new : (p : List ℕ) (t : Image) → t.look p ≡ None → with_dir p t ≡ with_entry_at p made_dir t
with_new p t is = ap (λ (e : Option Entry). cond (is_none e) (with_entry_at p made_dir t) t) is

dir_made : (p : List ℕ) (t : Image) → is_dir_or_free (t.look p) ≡ true → is_dir ((with_dir p t).look p) ≡ true
dir_made p t free = go (t.look p) refl free
  where
    go : (e : Option Entry) → t.look p ≡ e → is_dir_or_free e ≡ true → is_dir ((with_dir p t).look p) ≡ true
    go None is f = ap (λ (u : Image). is_dir (u.look p)) (with_new p t is) ∙ ap (λ (b : Bool). is_dir (cond b made_dir (cond (covers p p) None (t.look p)))) (same_path-self p)
    go (Some e) is f = ap (λ (u : Image). is_dir (u.look p)) (with_there p t e is) ∙ ap is_dir is ∙ f

dir_apart : (p q : List ℕ) (t : Image) → covers p q ≡ false → (with_dir p t).look q ≡ t.look q
dir_apart p q t off = go (is_none (t.look p))
  where
    go : (b : Bool) → (cond b (with_entry_at p made_dir t) t).look q ≡ t.look q
    go true = (placed_within p made_dir t).look q off refl
    go false = refl

pub below_new : (t : Image) → (with_entry_at var_name made_dir t).look records_name ≡ None
below_new t = rw (records_other, records_below) refl

records_free : (t : Image) → is_dir_or_free (t.look records_name) ≡ true → is_dir_or_free ((with_dir var_name t).look records_name) ≡ true
records_free t free = go (is_none (t.look var_name))
  where
    go : (b : Bool) → is_dir_or_free ((cond b (with_entry_at var_name made_dir t) t).look records_name) ≡ true
    go true = ap is_dir_or_free (below_new t)
    go false = free

pub directories_stand : (t : Image) → CanHaveDirectories t → (is_dir ((with_directories t).look var_name) ≡ true) × (is_dir ((with_directories t).look records_name) ≡ true)
directories_stand t can =
    let parts = and_parts (is_dir_or_free (t.look var_name)) (is_dir_or_free (t.look records_name)) can in (
      ap is_dir (dir_apart records_name var_name (with_dir var_name t) var_above) ∙ dir_made var_name t parts.0,
      dir_made records_name (with_dir var_name t) (records_free t parts.1),
    )

pub can_have_still : (t : Image) → CanHaveDirectories t → CanHaveDirectories (with_directories t)
can_have_still t can =
    let both = directories_stand t can in
    and_from _ _ (or_right (is_none ((with_directories t).look var_name)) _ both.0) (or_right (is_none ((with_directories t).look records_name)) _ both.1)

pub none_to_make : (t : Image) → is_dir (t.look var_name) ≡ true → is_dir (t.look records_name) ≡ true → with_directories t ≡ t
none_to_make t var records = ap (with_dir records_name) (with_old var_name t var) ∙ with_old records_name t records

pub records_to_make : (t : Image) → is_dir (t.look var_name) ≡ true → t.look records_name ≡ None → with_directories t ≡ with_entry_at records_name made_dir t
records_to_make t var records = ap (with_dir records_name) (with_old var_name t var) ∙ with_new records_name t records

pub both_to_make : (t : Image) → t.look var_name ≡ None → with_directories t ≡ with_entry_at records_name made_dir (with_entry_at var_name made_dir t)
both_to_make t var = ap (with_dir records_name) (with_new var_name t var) ∙ with_new records_name (with_entry_at var_name made_dir t) (below_new t)

-- ---- they can be made

pub can_make_var : (t : Image) → t.look var_name ≡ None → CanMake t var_name
can_make_var t var = record { absent = var; parent = ap (dir_or_none t) var_parent }

pub can_make_records : (t : Image) → is_dir (t.look var_name) ≡ true → t.look records_name ≡ None → CanMake t records_name
can_make_records t var records = record { absent = records; parent = ap (dir_or_none t) records_parent ∙ var }

pub can_make_after : (t : Image) → CanMake (with_entry_at var_name made_dir t) records_name
can_make_after t = can_make_records (with_entry_at var_name made_dir t) (ap (λ (b : Bool). is_dir (cond b made_dir (cond (covers var_name var_name) None (t.look var_name)))) (same_path-self var_name)) (below_new t)

pub gate_after : (t : Image) → (with_entry_at records_name made_dir t).look gate_name ≡ None
gate_after t = rw (gate_other, gate_below) refl

pub gate_after_var : (t : Image) → (with_entry_at var_name made_dir t).look gate_name ≡ None
gate_after_var t = rw (var_gate, covers_trans var_name records_name gate_name records_below gate_below) refl

-- the gate stays closed
pub gate_with : (t : Image) → t.look gate_name ≡ None → (with_directories t).look gate_name ≡ None
gate_with t gate = go (is_none ((with_dir var_name t).look records_name)) (is_none (t.look var_name))
  where
    inner : (b : Bool) → (cond b (with_entry_at var_name made_dir t) t).look gate_name ≡ None
    inner true = gate_after_var t
    inner false = gate

    go : (a b : Bool) → (cond a (with_entry_at records_name made_dir (cond b (with_entry_at var_name made_dir t) t)) (cond b (with_entry_at var_name made_dir t) t)).look gate_name ≡ None
    go true b = gate_after (cond b (with_entry_at var_name made_dir t) t)
    go false b = inner b

pub free_of : (e : Option Entry) → is_dir e ≡ true → is_dir_or_free e ≡ true
free_of e is = or_right (is_none e) _ is

-- where they stand, nothing is in their way
pub nothing_in_the_way : (t : Image) → CanHaveDirectories t → (p : List ℕ) → IsFirstObstacle (with_directories t) p → ⊥
nothing_in_the_way t can p (blocked, one) =
    let both = directories_stand t can in
    ⊎_elim
    (λ is. clash (is_dir_or_free ((with_directories t).look p)) (subst (λ (q : List ℕ). is_dir_or_free ((with_directories t).look q) ≡ true) (sym is) (free_of _ both.0)) blocked)
    (λ second. clash (is_dir_or_free ((with_directories t).look p)) (subst (λ (q : List ℕ). is_dir_or_free ((with_directories t).look q) ≡ true) (sym second.0) (free_of _ both.1)) blocked)
    one

-- ---- at every moment

pub on_ok : {T E : Type 0} {P Q : Type 0} (r : Result T E) → OnOk r P → (P → Q) → OnOk r Q
on_ok (Ok x) p f = f p
on_ok (Err e) p f = p

pub on_failure : {T E : Type 0} {P Q : Type 0} (r : Result T E) → OnErr r P → (P → Q) → OnErr r Q
on_failure (Ok x) p f = p
on_failure (Err e) p f = f p

-- what is changed at and below a path isn't safe there
unsafe_at : (p : List ℕ) (old s : State) → MayChange (covers p) nowhere old s → IsNotYetSafe p old s
unsafe_at p old s (inl same) = inl same
unsafe_at p old s (inr changed) = inr (ap (λ (f : List ℕ → Bool). f p) changed.whole ∙ or_left (covers p p) (old.whole p) (covers-self p))

-- what isn't safe stays so
unsafe_still : (free : List ℕ → Bool) (p : List ℕ) (old s : State) → old.whole p ≡ true → MayChange free nowhere old s → s.whole p ≡ true
unsafe_still free p old s touched (inl same) = ap (λ (t : State). t.whole p) same ∙ touched
unsafe_still free p old s touched (inr changed) = ap (λ (f : List ℕ → Bool). f p) changed.whole ∙ or_right (free p) (old.whole p) touched

module _ {F : Type 0} (o : Outside F) (sane : IsOutside o) where
  -- since the one call
  one_change : (p q : List ℕ) → p ≡ q → (old new : F) → o.tells old ≡ true → {T E : Type 0} (made : Result T E) → Writes o (covers p) nowhere (written p (with_entry_at p made_dir (o.state old).held) (o.state old)) old new made
      → Throughout o old new (MayChange (covers q) nowhere (o.state old))
  one_change p q same old new told made w = goes_on o old old new (MayChange (covers q) nowhere (o.state old)) (started o old (MayChange (covers q) nowhere (o.state old)) (sane.only_now old) (inl refl)) w.call.time
      (subst (λ (r : List ℕ). MayChange (covers r) nowhere (o.state old) (o.state new)) same (w.only told))

  pub unsafe_since : (p : List ℕ) (old new : F) → Throughout o old new (MayChange (covers p) nowhere (o.state old)) → Throughout o old new (IsNotYetSafe p (o.state old))
  unsafe_since p old new run = weaker o old new (MayChange (covers p) nowhere (o.state old)) (IsNotYetSafe p (o.state old)) (λ s may. unsafe_at p (o.state old) s may) run

  pub safe_at_last : (p : List ℕ) (old new : F) → Throughout o old new (λ s. MayChange (covers p) nowhere (o.state old) s ⊎ (s ≡ o.state new)) → IsSafeAtLast o p old new
  safe_at_last p old new run = weaker o old new (λ s. MayChange (covers p) nowhere (o.state old) s ⊎ (s ≡ o.state new)) (λ s. IsNotYetSafe p (o.state old) s ⊎ (s ≡ o.state new))
      (λ s is. ⊎_elim (λ may. inl (unsafe_at p (o.state old) s may)) (λ end. inr end) is) run

  abbrev Shut : State → Type 0
  Shut s = s.held.look gate_name ≡ None

  pub shut_now : (old : F) → Shut (o.state old) → StaysShut o old old
  shut_now old here = started o old Shut (sane.only_now old) here

  pub shut_on : (old mid new : F) → StaysShut o old mid → Elapses o mid new → Shut (o.state new) → StaysShut o old new
  shut_on old mid new so_far time here = goes_on o old mid new Shut so_far time here

  pub shut_then : (old mid new : F) → StaysShut o old mid → StaysShut o mid new → StaysShut o old new
  shut_then old mid new first second = joins o old mid new Shut first second

  pub both_kept : (old mid new : F) → ChangesOnly o (covers var_name) nowhere old mid → ChangesOnly o (covers records_name) nowhere mid new → ChangesOnly o (covers var_name) nowhere old new
  both_kept old mid new first second = keeps_then o (covers var_name) nowhere old mid new first
      (keeps_wider o (covers records_name) nowhere (covers var_name) nowhere mid new (λ q off. below_off q off) (λ q off. off) second)
    where
      below_off : (q : List ℕ) → covers var_name q ≡ false → covers records_name q ≡ false
      below_off q off = go (covers records_name q) refl
        where
          go : (b : Bool) → covers records_name q ≡ b → covers records_name q ≡ false
          go true is = absurd (clash (covers var_name q) (covers_trans var_name records_name q records_below is) off)
          go false is = is

  -- the folder of the records is made, and that is made safe
  module _ (p : List ℕ) (same : p ≡ records_name) (old mid : F) (told : o.tells old ≡ true) {T E : Type 0} (made : Result T E)
      (w : Writes o (covers p) nowhere (written p (with_entry_at p made_dir (o.state old).held) (o.state old)) old mid made) where
    pub records_failed : ChangesOnly o (covers records_name) nowhere old mid
    records_failed = subst (λ (q : List ℕ). ChangesOnly o (covers q) nowhere old mid) same (one_write o sane old mid (covers p) nowhere (written p (with_entry_at p made_dir (o.state old).held) (o.state old)) made told w)

    pub records_in_part : Throughout o old mid (MayChange (covers records_name) nowhere (o.state old))
    records_in_part = one_change p records_name same old mid told made w

    abbrev Within : F → State → Type 0
    Within end s = MayChange (covers records_name) nowhere (o.state old) s ⊎ (s ≡ o.state end)

    within_then : (end : F) → Throughout o old mid (Within end)
    within_then end = weaker o old mid (MayChange (covers records_name) nowhere (o.state old)) (Within end) (λ s may. inl may) records_in_part

    pub records_last_failed : Throughout o old mid (Within mid)
    records_last_failed = within_then mid

    module _ (new : F) {U V : Type 0} (safe : Result U V) (s : Syncs o mid new safe) where
      pub records_last : Throughout o old new (Within new)
      records_last = goes_on o old mid new (Within new) (within_then new) s.call.time (inr refl)

      pub records_unsynced : OnErr safe (Throughout o old new (MayChange (covers records_name) nowhere (o.state old)))
      records_unsynced = on_failure safe s.kept (λ kept.
          goes_on o old mid new (MayChange (covers records_name) nowhere (o.state old)) records_in_part s.call.time (subst (MayChange (covers records_name) nowhere (o.state old)) (sym kept) (subst (λ (q : List ℕ). MayChange (covers q) nowhere (o.state old) (o.state mid)) same (w.only told))))

      pub records_kept : ChangesOnly o (covers records_name) nowhere old new
      records_kept = keeps_then o (covers records_name) nowhere old mid new records_failed (one_sync o sane (covers records_name) nowhere mid new safe (w.call.same_kind ∙ told) s)

      module _ (is : o.state mid ≡ written p (with_entry_at p made_dir (o.state old).held) (o.state old)) where
        pub records_made : OnOk safe (o.state new ≡ untouched (with_entry_at records_name made_dir (o.state old).held))
        records_made = on_ok safe (s.done (w.call.same_kind ∙ told)) (λ synced. synced ∙ ap (λ (t : State). settled t) is ∙ ap (λ (q : List ℕ). untouched (with_entry_at q made_dir (o.state old).held)) same)

        pub records_shut : (o.state old).held.look gate_name ≡ None → OnOk safe (StaysShut o old new)
        records_shut gate = on_ok safe records_made (λ done.
            let there : Shut (o.state mid) = ap (λ (t : State). t.held.look gate_name) is ∙ ap (λ (q : List ℕ). (with_entry_at q made_dir (o.state old).held).look gate_name) same ∙ gate_after (o.state old).held in
            shut_on old mid new (shut_on old old mid (shut_now old gate) w.call.time there) s.call.time (ap (λ (t : State). t.held.look gate_name) done ∙ gate_after (o.state old).held))

  -- both are
  module _ (p : List ℕ) (same : p ≡ var_name) (old mid : F) (told : o.tells old ≡ true) {T E : Type 0} (made : Result T E)
      (w : Writes o (covers p) nowhere (written p (with_entry_at p made_dir (o.state old).held) (o.state old)) old mid made) where
    pub var_failed : ChangesOnly o (covers var_name) nowhere old mid
    var_failed = subst (λ (q : List ℕ). ChangesOnly o (covers q) nowhere old mid) same (one_write o sane old mid (covers p) nowhere (written p (with_entry_at p made_dir (o.state old).held) (o.state old)) made told w)

    pub var_in_part : Throughout o old mid (IsNotYetSafe var_name (o.state old))
    var_in_part = unsafe_since var_name old mid (one_change p var_name same old mid told made w)

    abbrev UnsafeUntil : F → State → Type 0
    UnsafeUntil end s = IsNotYetSafe var_name (o.state old) s ⊎ (s ≡ o.state end)

    unsafe_then : (end : F) → Throughout o old mid (UnsafeUntil end)
    unsafe_then end = weaker o old mid (IsNotYetSafe var_name (o.state old)) (UnsafeUntil end) (λ s is. inl is) var_in_part

    pub var_last_failed : IsSafeAtLast o var_name old mid
    var_last_failed = unsafe_then mid

    module _ (is : o.state mid ≡ written p (with_entry_at p made_dir (o.state old).held) (o.state old)) where
      var_touched : (o.state mid).whole var_name ≡ true
      var_touched = ap (λ (t : State). t.whole var_name) is ∙ or_left (covers p var_name) ((o.state old).whole var_name) (ap (λ (q : List ℕ). covers q var_name) same ∙ covers-self var_name)

      pub both_in_part : (new : F) {U V : Type 0} (rest : Result U V) → OnErr rest (Throughout o mid new (MayChange (covers records_name) nowhere (o.state mid))) → OnErr rest (Throughout o old new (IsNotYetSafe var_name (o.state old)))
      both_in_part new rest later = on_failure rest later (λ run. joins o old mid new (IsNotYetSafe var_name (o.state old)) var_in_part
          (weaker o mid new (MayChange (covers records_name) nowhere (o.state mid)) (IsNotYetSafe var_name (o.state old)) (λ s may. inr (unsafe_still (covers records_name) var_name (o.state mid) s var_touched may)) run))

      pub both_last : (new : F) → Throughout o mid new (λ s. MayChange (covers records_name) nowhere (o.state mid) s ⊎ (s ≡ o.state new)) → IsSafeAtLast o var_name old new
      both_last new later = joins o old mid new (UnsafeUntil new) (unsafe_then new)
          (weaker o mid new (λ s. MayChange (covers records_name) nowhere (o.state mid) s ⊎ (s ≡ o.state new)) (UnsafeUntil new)
          (λ s is. ⊎_elim (λ may. inl (inr (unsafe_still (covers records_name) var_name (o.state mid) s var_touched may))) (λ end. inr end) is) later)

      pub var_held : (o.state mid).held ≡ with_entry_at var_name made_dir (o.state old).held
      var_held = ap (λ (t : State). t.held) is ∙ ap (λ (q : List ℕ). with_entry_at q made_dir (o.state old).held) same

      pub var_can : CanMake (o.state mid).held records_name
      var_can = subst (λ (t : Image). CanMake t records_name) (sym var_held) (can_make_after (o.state old).held)

      pub var_gate_shut : (o.state mid).held.look gate_name ≡ None
      var_gate_shut = ap (λ (t : Image). t.look gate_name) var_held ∙ gate_after_var (o.state old).held

      module _ (new : F) {U V : Type 0} (safe : Result U V) where
        pub both_made : OnOk safe (o.state new ≡ untouched (with_entry_at records_name made_dir (o.state mid).held)) → OnOk safe (o.state new ≡ untouched (with_entry_at records_name made_dir (with_entry_at var_name made_dir (o.state old).held)))
        both_made done = on_ok safe done (λ is_made. is_made ∙ ap (λ (t : Image). untouched (with_entry_at records_name made_dir t)) var_held)

        pub both_shut : (o.state old).held.look gate_name ≡ None → OnOk safe (StaysShut o mid new) → OnOk safe (StaysShut o old new)
        both_shut gate later = on_ok safe later (λ stays. shut_then old mid new (shut_on old old mid (shut_now old gate) w.call.time var_gate_shut) stays)
