-- How a run leads to the moment at which contents are written.
use Rattle.std.proofs.Common.{◌≡◌, ◌⊎◌, inl, inr, Bool, true, false, List, [], ◌∷◌, refl, subst}
use Rattle.ips_outside.specs.State.{State}
use Rattle.ips_outside.specs.Outside.{Outside, IsOutside, Elapses}
use Rattle.ips_folder.specs.Calls.{Throughout}
use Rattle.ips_folder.proofs.Runs.{started, goes_on, joins}
use Rattle.ips_journal.specs.Text.{journal_text}
use Rattle.ips_sends.specs.Keeps.{Keeps}
use Rattle.ips_sends.specs.Sends.{IsSend, MakesRecords}
use Rattle.ips_sends.specs.Whole.{Attempt, AreWholeOrOut}

-- what is said of attempts
abbrev pub Says : List Attempt → State → Type 0
Says xs s = Keeps journal_text (AreWholeOrOut xs) s

-- From the moment of the beginning, or of the directories of the records where one was made, to the middle.
pub record Leads {F : Type 0} (o : Outside F) (old mid : F) : Type 1 where
  pub from : F
  pub first : (from ≡ old) ⊎ MakesRecords o old from
  pub leads : (P : State → Type 0) → P (o.state mid) → Throughout o from mid P

-- A run whose attempt begins so, and ends so. What is so in the middle and at each moment behind it is so since the attempt began.
pub record Sent {F : Type 0} (o : Outside F) (begun ended : Attempt) (old mid new : F) : Type 1 where
  pub keeps : IsSend journal_text o AreWholeOrOut (begun ∷ []) (ended ∷ []) old new
  pub since : (P : State → Type 0) → P (o.state mid) → Throughout o mid new P → Throughout o keeps.from new P

module _ {F : Type 0} (o : Outside F) (sane : IsOutside o) (old mid : F) where
  -- no call changed anything
  pub leads_still : o.state mid ≡ o.state old → Elapses o old mid → Leads o old mid
  leads_still same time = record {
    from = old;
    first = inl refl;
    leads = λ P here. goes_on o old old mid P (started o old P (sane.only_now old) (subst P same here)) time here;
  }

  -- directories of the records were made
  pub leads_made : MakesRecords o old mid → Leads o old mid
  leads_made makes = record { from = mid; first = inr makes; leads = λ P here. started o mid P (sane.only_now mid) here }

  -- whether one was made
  pub leads_by : (made : Bool) → (made ≡ true → MakesRecords o old mid) → (made ≡ false → o.state mid ≡ o.state old) → (made ≡ false → Elapses o old mid) → Leads o old mid
  leads_by true makes same time = leads_made (makes refl)
  leads_by false makes same time = leads_still (same refl) (time refl)

  -- a run whose attempt begins then
  pub sent : (begun ended : Attempt) (lead : Leads o old mid) (new : F) → ((xs : List Attempt) → Says xs (o.state old) → Says (begun ∷ xs) (o.state mid)) → ((xs : List Attempt) → Says xs (o.state old) → Throughout o mid new (Says (begun ∷ xs)))
      → ((xs : List Attempt) → Says xs (o.state old) → Says (ended ∷ xs) (o.state new)) → Sent o begun ended old mid new
  sent begun ended lead new here still at_end = record {
    keeps = record {
      at = old;
      before = λ xs was. started o old (Says xs) (sane.only_now old) was;
      from = lead.from;
      first = lead.first;
      still = λ xs was. joins o lead.from mid new (Says (begun ∷ xs)) (lead.leads (Says (begun ∷ xs)) (here xs was)) (still xs was);
      at_end = at_end;
    };
    since = λ P here_now rest. joins o lead.from mid new P (lead.leads P here_now) rest;
  }
