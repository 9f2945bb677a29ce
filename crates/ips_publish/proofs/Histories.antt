-- How a history of runs goes on.
use Rattle.std.proofs.Common.{◌⊎◌, inl, inr, ℕ, Bool, false, List, [], ◌∷◌, subst}
use Rattle.std.specs.List.{Contains}
use Rattle.std.proofs.lemmas.List.Elements.{Contains-push}
use Rattle.ips_outside.specs.Image.{Image}
use Rattle.ips_outside.specs.Outside.{Outside}
use Rattle.ips_steps.proofs.Lists.{clash}
use Rattle.ips_journal.specs.Text.{journal_text}
use Rattle.ips_sends.specs.Sends.{Sends, Finished}
use Rattle.ips_sends.specs.Whole.{Attempt, AreWholeOrOut}
use Rattle.ips_published.specs.Publishing.{attempt}
use Rattle.ips_send_report.specs.declared.outcome.SendOutcome.{SendOutcome}
use Rattle.ips_publish.specs.Told.{is_published}
use Rattle.ips_publish.specs.Stops.{Stops, NoneBegun, OneBegun, MadeInPart, GoesOn, BreaksOff}

module _ {F : Type 0} (o : Outside F) (proto : Image) (words : List (List ℕ)) (moment : ℕ) (old new : F) (xs : List Attempt) (sends : Sends journal_text o AreWholeOrOut xs (o.state old)) where
  pub goes_on : (x : SendOutcome) → Stops o proto words moment old new x → GoesOn o words moment xs new x ⊎ BreaksOff o old new x
  goes_on x (NoneBegun unpublished is) = inl (record {
    ended = [];
    sends = Finished [] [] old new is sends;
    answered = λ yes. clash (is_published x) yes unpublished;
  })
  goes_on x (OneBegun a is put at asks has judges send) = inl (record {
    ended = attempt a is put (is_published x) ∷ [];
    sends = Finished (attempt a is put false ∷ []) (attempt a is put (is_published x) ∷ []) old new send sends;
    answered = λ yes. (a, is, put, asks, subst (λ (answered : Bool). Contains (attempt a is put (is_published x) ∷ []) (attempt a is put answered)) yes (Contains-push [] (attempt a is put (is_published x))));
  })
  goes_on x (MadeInPart at blames has makes) = inr (record { blames = blames; at = at; has = has; makes = makes })
