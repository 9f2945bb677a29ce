-- Failures that are told as their own, or masked by another one.
use Rattle.std.proofs.Common.{◌≤◌, inl, inr, ⊎_elim, ℕ, refl, arith}
use Rattle.std.proofs.lemmas.Bool.{cases_lt}
use Rattle.ips_outside.specs.Outside.{Outside, HasCause, Reads}
use Rattle.ips_commit.specs.Answers.{IsToldOrMasked}

module _ (before now : ℕ) (own other : Type 0) where
  -- the failure itself is told
  pub told_own : HasCause before now own → HasCause before now (IsToldOrMasked before now own other)
  told_own cause = record {
    later = cause.later;
    rose = λ is. ⊎_elim cause.rose (λ masked. masked.1) is;
    steady = λ none. cause.steady (λ is. none (inl is));
  }

  -- another one is
  pub told_other : before ≤ now → (own → ⊥) → other → HasCause before now (IsToldOrMasked before now own other)
  told_other later not_own is = record {
    later = later;
    rose = λ told. ⊎_elim (λ bad. absurd (not_own bad)) (λ masked. masked.1) told;
    steady = λ none. ⊎_elim (λ up. absurd (none (inr (is, inl up)))) (λ down. omega (arith, later, down)) (cases_lt before now);
  }

  -- the same of failures that are told alike
  pub told_alike : (own' other' : Type 0) → HasCause before now (IsToldOrMasked before now own other) → (own → own') → (own' → own) → (other → other') → HasCause before now (IsToldOrMasked before now own' other')
  told_alike own' other' cause to from on = record {
    later = cause.later;
    rose = λ is. ⊎_elim (λ told. cause.rose (inl (from told))) (λ masked. masked.1) is;
    steady = λ none. cause.steady (λ is. none (⊎_elim (λ told. inl (to told)) (λ masked. inr (on masked.0, masked.1)) is));
  }

-- nothing failed
pub none_masked : (before : ℕ) (own other : Type 0) → (own → ⊥) → HasCause before before (IsToldOrMasked before before own other)
none_masked before own other not_own = record { later = omega arith; rose = λ is. ⊎_elim (λ told. absurd (not_own told)) (λ masked. masked.1) is; steady = λ none. refl }

-- a source that is only read, under another failure
pub reads_with : {S : Type 0} (q : Outside S) (old new : S) (failed failure : Type 0) → Reads q old new failed → HasCause (q.faults old) (q.faults new) failure → Reads q old new failure
reads_with q old new failed failure reads cause = record { call = record { same_kind = reads.call.same_kind; time = reads.call.time; cause = cause }; kept = reads.kept; none_made = reads.none_made }
