-- How a run of calls goes on.
use Rattle.std.proofs.Common.{◌≡◌, ◌⊎◌, inl, inr, ⊎_elim, ℕ, Bool, true, false, ◌||◌, List, Result, Ok, Err, OnOk, OnErr, sym, subst, arith}
use Rattle.ips_outside.specs.Image.{Image, Agrees}
use Rattle.ips_outside.specs.State.{State, MayLeave, MayChange, ChangedWithin, settled}
use Rattle.ips_outside.proofs.Moments.{within_self, within_may, within_crash, within_settled, within_then, within_wider}
use Rattle.ips_outside.specs.Outside.{Outside, IsOutside, Elapses, Reads}
use Rattle.ips_folder.specs.Calls.{Writes, Syncs, Throughout, ChangesOnly}

module _ {F : Type 0} (o : Outside F) where
  -- before the first call
  pub started : (old : F) (P : State → Type 0) → ((s : State) → o.states old (o.clock old) s → s ≡ o.state old) → P (o.state old) → Throughout o old old P
  started old P only here = record { later = omega arith; each = λ s was. subst P (sym (only s was)) here; before = λ t s le was. inl was }

  -- one call more
  pub goes_on : (old mid new : F) (P : State → Type 0) → Throughout o old mid P → Elapses o mid new → P (o.state new) → Throughout o old new P
  goes_on old mid new P so_far time here = record {
    later = omega (arith, so_far.later, time.later);
    each = λ s was. ⊎_elim (so_far.each s) (λ now. subst P (sym now) here) (time.nothing_else (o.clock old) s so_far.later was);
    before = λ t s le was. ⊎_elim (so_far.before t s le) (λ now. inr (subst P (sym now) here)) (time.nothing_else t s (omega (arith, le, so_far.later)) was);
  }

  -- one phase more
  pub joins : (old mid new : F) (P : State → Type 0) → Throughout o old mid P → Throughout o mid new P → Throughout o old new P
  joins old mid new P first second = record {
    later = omega (arith, first.later, second.later);
    each = λ s was. ⊎_elim (first.each s) (λ now. now) (second.before (o.clock old) s first.later was);
    before = λ t s le was. ⊎_elim (first.before t s le) (λ now. inr now) (second.before t s (omega (arith, le, first.later)) was);
  }

  pub weaker : (old new : F) (P Q : State → Type 0) → ((s : State) → P s → Q s) → Throughout o old new P → Throughout o old new Q
  weaker old new P Q f run = record {
    later = run.later;
    each = λ s was. f s (run.each s was);
    before = λ t s le was. ⊎_elim (λ a. inl a) (λ b. inr (f s b)) (run.before t s le was);
  }

  module _ (free loose : List ℕ → Bool) where
    pub begun : (old : F) → ((s : State) → o.states old (o.clock old) s → s ≡ o.state old) → ChangesOnly o free loose old old
    begun old only = record { moments = started old (ChangedWithin free loose (o.state old)) only (within_self free loose (o.state old)); now = within_self free loose (o.state old) }

    pub goes_within : (old mid new : F) → ChangesOnly o free loose old mid → Elapses o mid new → ChangedWithin free loose (o.state old) (o.state new) → ChangesOnly o free loose old new
    goes_within old mid new run time here = record { moments = goes_on old mid new (ChangedWithin free loose (o.state old)) run.moments time here; now = here }

    pub changes : (old mid new : F) → ChangesOnly o free loose old mid → Elapses o mid new → MayChange free loose (o.state mid) (o.state new) → ChangesOnly o free loose old new
    changes old mid new run time may = goes_within old mid new run time (within_may free loose (o.state old) (o.state mid) (o.state new) run.now may)

    pub syncs : (old mid new : F) → ChangesOnly o free loose old mid → Elapses o mid new → (o.state new ≡ o.state mid) ⊎ (o.state new ≡ settled (o.state mid)) → ChangesOnly o free loose old new
    syncs old mid new run time may = goes_within old mid new run time (⊎_elim
        (λ same. subst (ChangedWithin free loose (o.state old)) (sym same) run.now)
        (λ done. subst (ChangedWithin free loose (o.state old)) (sym done) (within_settled free loose (o.state old) (o.state mid) run.now)) may)

    -- a call that changes nothing
    pub stays : (old mid new : F) → ChangesOnly o free loose old mid → Elapses o mid new → o.state new ≡ o.state mid → ChangesOnly o free loose old new
    stays old mid new run time same = goes_within old mid new run time (subst (ChangedWithin free loose (o.state old)) (sym same) run.now)

    pub crashes : (old new : F) → ChangesOnly o free loose old new → (s : State) (c : Image) → o.states new (o.clock old) s → MayLeave s c
        → Agrees (λ q. free q || (o.state old).whole q) (λ q. loose q || (o.state old).modes q) (o.state old).held c
    crashes old new run s c was may = within_crash free loose (o.state old) s c (run.moments.each s was) may

module _ {F : Type 0} (o : Outside F) where
  -- one run of calls after another
  pub keeps_then : (free loose : List ℕ → Bool) (old mid new : F) → ChangesOnly o free loose old mid → ChangesOnly o free loose mid new → ChangesOnly o free loose old new
  keeps_then free loose old mid new first second = record {
    moments = joins o old mid new (ChangedWithin free loose (o.state old)) first.moments
        (weaker o mid new (ChangedWithin free loose (o.state mid)) (ChangedWithin free loose (o.state old)) (λ s w. within_then free loose (o.state old) (o.state mid) s first.now w) second.moments);
    now = within_then free loose (o.state old) (o.state mid) (o.state new) first.now second.now;
  }

  -- a run that may change more
  pub keeps_wider : (free loose more looser : List ℕ → Bool) (old new : F) → ((q : List ℕ) → more q ≡ false → free q ≡ false) → ((q : List ℕ) → looser q ≡ false → loose q ≡ false) → ChangesOnly o free loose old new → ChangesOnly o more looser old new
  keeps_wider free loose more looser old new m l run = record {
    moments = weaker o old new (ChangedWithin free loose (o.state old)) (ChangedWithin more looser (o.state old)) (λ s w. within_wider free loose more looser (o.state old) s m l w) run.moments;
    now = within_wider free loose more looser (o.state old) (o.state new) m l run.now;
  }

  -- one call is a run
  pub one_write : (sane : IsOutside o) (old new : F) (free loose : List ℕ → Bool) (to : State) {T E : Type 0} (result : Result T E) → o.tells old ≡ true → Writes o free loose to old new result → ChangesOnly o free loose old new
  one_write sane old new free loose to result told w = changes o free loose old old new (begun o free loose old (sane.only_now old)) w.call.time (w.only told)

  pub one_read : (sane : IsOutside o) (free loose : List ℕ → Bool) (old new : F) (failure : Type 0) → Reads o old new failure → ChangesOnly o free loose old new
  one_read sane free loose old new failure r = stays o free loose old old new (begun o free loose old (sane.only_now old)) r.call.time r.kept

  pub one_sync : (sane : IsOutside o) (free loose : List ℕ → Bool) (old new : F) {T E : Type 0} (result : Result T E) → o.tells old ≡ true → Syncs o old new result → ChangesOnly o free loose old new
  one_sync sane free loose old new result told s = syncs o free loose old old new (begun o free loose old (sane.only_now old)) s.call.time (whatever result (s.done told) s.kept)
    where
      whatever : {T E : Type 0} {P Q : Type 0} (r : Result T E) → OnOk r P → OnErr r Q → Q ⊎ P
      whatever (Ok x) done kept = inr done
      whatever (Err e) done kept = inl kept
