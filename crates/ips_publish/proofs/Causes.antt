-- Causes of faults, as the outcome tells them.
use Rattle.std.proofs.Common.{◌≡◌, ◌⊎◌, ⊎_elim, inl, inr, ℕ, Ok, Err, refl, ap, subst}
use Rattle.ips_text.specs.declared.refusal.Or.{Or}
use Rattle.ips_text.specs.declared.refusal.Or.TheVariants.{Bad}
use Rattle.ips_text.specs.declared.refusal.Or.TheVariants as or
use Rattle.ips_outside.specs.Outside.{Outside, HasCause, Reads}
use Rattle.ips_outside.proofs.Faults.{cause_as}
use Rattle.ips_outside.proofs.Reading.{reads_as}
use Rattle.ips_commit.specs.declared.fault.CommitFault.{CommitFault}
use Rattle.ips_commit.specs.declared.fault.CommitFault.TheVariants as commit
use Rattle.ips_put.specs.Settling.{Settled}
use Rattle.ips_judged.specs.declared.verdict.Asked.{Asked}
use Rattle.ips_published.specs.declared.fault.PublishFault.TheVariants as publish
use Rattle.ips_published.specs.Ending as ending
use Rattle.ips_published.specs.Ending.{Ending}
use Rattle.ips_create.specs.declared.fault.CreateFault.TheVariants as create
use Rattle.ips_create.specs.Created as created
use Rattle.ips_send_report.specs.declared.outcome.SendOutcome.{SendOutcome}
use Rattle.ips_send_report.specs.declared.outcome.SendOutcome.TheVariants as outcome
use Rattle.ips_publish.specs.Told.{unsettled_as, created_as, published_as, BlamesFolder}
use Rattle.ips_publish.proofs.Outcomes.{Made, refused_unblamed, published_unread}

-- a call failed while it was settled
abbrev pub FailsSettling : Settled → Type 0
FailsSettling x = (x ≡ Err (Bad commit.Unchanged)) ⊎ (x ≡ Err (Bad commit.Unfinished))

-- why it isn't settled
abbrev pub isnt_settled : Or CommitFault → Settled
isnt_settled why = Err why

to_blame : (why : Or CommitFault) → FailsSettling (isnt_settled why) → BlamesFolder (unsettled_as why)
to_blame (Bad commit.Unchanged) fails = tt
to_blame (Bad commit.Unfinished) fails = tt
to_blame (Bad (commit.BadJournal line)) fails = ⊎_elim (λ is. cc) (λ is. cc) fails
to_blame or.OutOfMemory fails = ⊎_elim (λ is. cc) (λ is. cc) fails

of_blame : (why : Or CommitFault) → BlamesFolder (unsettled_as why) → FailsSettling (isnt_settled why)
of_blame (Bad commit.Unchanged) blames = inl refl
of_blame (Bad commit.Unfinished) blames = inr refl
of_blame (Bad (commit.BadJournal line)) blames = absurd blames
of_blame or.OutOfMemory blames = absurd blames

pub unsettled_cause : (a b : ℕ) (why : Or CommitFault) → HasCause a b (FailsSettling (isnt_settled why)) → HasCause a b (BlamesFolder (unsettled_as why))
unsettled_cause a b why cause = cause_as a b (FailsSettling (isnt_settled why)) (BlamesFolder (unsettled_as why)) cause (to_blame why) (of_blame why)

-- it is settled, so no call failed
pub settled_unfailed : (x : Settled) → x ≡ Ok tt → FailsSettling x → ⊥
settled_unfailed x is fails = ⊎_elim (λ bad. cc) (λ bad. cc) fails

-- ---- a repository that is made, or isn't

made_blame : (x : Made) → created.IsFolderFault x → BlamesFolder (created_as x)
made_blame (Ok done) fails = fails
made_blame (Err (Bad create.Exists)) fails = fails
made_blame (Err (Bad (create.Blocked path))) fails = fails
made_blame (Err (Bad (create.FolderFault unfinished))) fails = tt
made_blame (Err or.OutOfMemory) fails = fails

blame_made : (x : Made) → BlamesFolder (created_as x) → created.IsFolderFault x
blame_made (Ok done) blames = blames
blame_made (Err (Bad create.Exists)) blames = blames
blame_made (Err (Bad (create.Blocked path))) blames = blames
blame_made (Err (Bad (create.FolderFault unfinished))) blames = tt
blame_made (Err or.OutOfMemory) blames = blames

pub made_cause : (a b : ℕ) (x : Made) (told : SendOutcome) → created_as x ≡ told → HasCause a b (created.IsFolderFault x) → HasCause a b (BlamesFolder told)
made_cause a b x told is cause = subst (λ (o : SendOutcome). HasCause a b (BlamesFolder o)) is (cause_as a b (created.IsFolderFault x) (BlamesFolder (created_as x)) cause (made_blame x) (blame_made x))

-- ---- a package that is published, or isn't

module _ (asked : Asked) where
  put_blame : (x : Ending) → ending.IsFolderFault x → BlamesFolder (published_as asked x)
  put_blame (Ok done) fails = fails
  put_blame (Err (Bad (publish.Refused why))) fails = absurd fails
  put_blame (Err (Bad (publish.Lost text))) fails = fails
  put_blame (Err (Bad publish.SourceFault)) fails = fails
  put_blame (Err (Bad (publish.FolderFault unfinished))) fails = tt
  put_blame (Err (Bad (publish.BadJournal line))) fails = fails
  put_blame (Err or.OutOfMemory) fails = fails

  blame_put : (x : Ending) → BlamesFolder (published_as asked x) → ending.IsFolderFault x
  blame_put (Ok done) blames = blames
  blame_put (Err (Bad (publish.Refused why))) blames = refused_unblamed why blames
  blame_put (Err (Bad (publish.Lost text))) blames = blames
  blame_put (Err (Bad publish.SourceFault)) blames = blames
  blame_put (Err (Bad (publish.FolderFault unfinished))) blames = tt
  blame_put (Err (Bad (publish.BadJournal line))) blames = blames
  blame_put (Err or.OutOfMemory) blames = blames

  pub published_cause : (a b : ℕ) (x : Ending) (told : SendOutcome) → published_as asked x ≡ told → HasCause a b (ending.IsFolderFault x) → HasCause a b (BlamesFolder told)
  published_cause a b x told is cause =
      subst (λ (o : SendOutcome). HasCause a b (BlamesFolder o)) is (cause_as a b (ending.IsFolderFault x) (BlamesFolder (published_as asked x)) cause (put_blame x) (blame_put x))

  pub published_reads : {S : Type 0} (q : Outside S) (old new : S) (x : Ending) (told : SendOutcome) → published_as asked x ≡ told → Reads q old new (x ≡ Err (Bad publish.SourceFault)) → Reads q old new (told ≡ outcome.SourceFault)
  published_reads q old new x told is reads =
      subst (λ (o : SendOutcome). Reads q old new (o ≡ outcome.SourceFault)) is
      (reads_as q old new (x ≡ Err (Bad publish.SourceFault)) (published_as asked x ≡ outcome.SourceFault) reads (λ fails. ap (λ (e : Ending). published_as asked e) fails) (published_unread asked x))
