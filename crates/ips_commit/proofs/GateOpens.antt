-- The gate as it opens: not safely open until its sync.
use Rattle.std.proofs.Common.{◌≡◌, ◌⊎◌, inl, inr, ⊎_elim, ℕ, Bool, true, List, None, Result, Ok, Err, OnErr, refl, sym, ◌∙◌, ap, subst, arith}
use Rattle.std.proofs.lemmas.Bool.{or_left}
use Rattle.ips_text.specs.Ancestry.{covers}
use Rattle.ips_text.proofs.Ancestry.{covers-self}
use Rattle.ips_outside.specs.State.{State, MayChange, nowhere, settled}
use Rattle.ips_outside.specs.Outside.{Outside, IsOutside, Elapses}
use Rattle.ips_folder.specs.Calls.{Writes, Throughout}
use Rattle.ips_folder.proofs.Runs.{started, goes_on, weaker}
use Rattle.ips_steps.specs.Private.{gate_name}
use Rattle.ips_steps.proofs.Lists.{clash}
use Rattle.ips_commit.specs.Due.{gate_file, IsSafelyOpen}
use Rattle.ips_commit.specs.Phases.{Opens}

-- nothing stands at the gate, or what stands there isn't safe
abbrev pub IsNotYet : State → Type 0
IsNotYet s = (s.held.look gate_name ≡ None) ⊎ (s.whole gate_name ≡ true)

pub not_open : (s : State) → IsNotYet s → IsSafelyOpen s → ⊥
not_open s not_yet is = ⊎_elim (λ none. is.stands none) (λ touched. clash (s.whole gate_name) touched is.safe) not_yet

pub on_err : {T E : Type 0} (r : Result T E) (P : Type 0) → P → OnErr r P
on_err (Ok x) P p = tt
on_err (Err e) P p = p

-- a write at the gate that may have failed
still_not : (p : List ℕ) → p ≡ gate_name → (s u : State) → IsNotYet s → MayChange (covers p) nowhere s u → IsNotYet u
still_not p at s u not_yet may = ⊎_elim
    (λ same. subst IsNotYet (sym same) not_yet)
    (λ change. inr (ap (λ (f : List ℕ → Bool). f gate_name) change.whole ∙ or_left (covers p gate_name) (s.whole gate_name) (ap (λ (x : List ℕ). covers x gate_name) at ∙ covers-self gate_name)))
    may

module _ {F : Type 0} (o : Outside F) (sane : IsOutside o) where
  pub not_begun : (old : F) → (o.state old).held.look gate_name ≡ None → Throughout o old old IsNotYet
  not_begun old shut = started o old IsNotYet (sane.only_now old) (inl shut)

  pub not_behind : (old : F) → Throughout o old old IsNotYet → IsNotYet (o.state old)
  not_behind old run = run.each (o.state old) (sane.counts_now old (o.clock old) (omega arith))

  module _ (p : List ℕ) (at : p ≡ gate_name) (old mid new : F) (to : State) {T E : Type 0} (result : Result T E) where
    pub not_written : Throughout o old mid IsNotYet → IsNotYet (o.state mid) → o.tells mid ≡ true → Writes o (covers p) nowhere to mid new result → Throughout o old new IsNotYet
    not_written run here told w = goes_on o old mid new IsNotYet run w.call.time (still_not p at (o.state mid) (o.state new) here (w.only told))

    pub not_now : IsNotYet (o.state mid) → o.tells mid ≡ true → Writes o (covers p) nowhere to mid new result → IsNotYet (o.state new)
    not_now here told w = still_not p at (o.state mid) (o.state new) here (w.only told)

  -- a sync that failed
  pub not_synced : (old mid new : F) → Throughout o old mid IsNotYet → IsNotYet (o.state mid) → Elapses o mid new → o.state new ≡ o.state mid → Throughout o old new IsNotYet
  not_synced old mid new run here time kept = goes_on o old mid new IsNotYet run time (subst IsNotYet (sym kept) here)

  pub never : (old new : F) → Throughout o old new IsNotYet → Throughout o old new (λ s. IsSafelyOpen s → ⊥)
  never old new run = weaker o old new IsNotYet (λ s. IsSafelyOpen s → ⊥) not_open run

  pub opens : (old mid new : F) → Throughout o old mid IsNotYet → Elapses o mid new → o.state new ≡ settled (o.state mid) → (o.state mid).held.look gate_name ≡ gate_file → Opens o old new
  opens old mid new run time done there = record {
    before = mid;
    not_yet = never old mid run;
    written = there;
    call = time;
    sync = done;
    is_open = subst IsSafelyOpen (sym done) (record { stands = λ none. let bad : gate_file ≡ None = sym there ∙ none in cc; safe = refl });
  }
