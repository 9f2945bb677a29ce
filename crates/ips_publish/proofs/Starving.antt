-- What is so where memory ran out.
use Rattle.std.proofs.Common.{◌≡◌, ◌⊎◌, ⊎_elim, inl, ℕ, IsTrue, List, Err, ◌∙◌, ap, subst}
use Rattle.ips_text.specs.declared.refusal.Or.{Or}
use Rattle.ips_outside.specs.Image.{Image}
use Rattle.ips_outside.specs.Outside.{Outside, IsOutside}
use Rattle.ips_kinds.specs.Tallies.{Carrier}
use Rattle.ips_commit.specs.declared.fault.CommitFault.{CommitFault}
use Rattle.ips_put.specs.Settling.{Settles}
use Rattle.ips_judged.specs.declared.verdict.Asked.{Asked}
use Rattle.ips_judged.specs.Answers.{IsAsked}
use Rattle.ips_published.specs.Ending.{Ending}
use Rattle.ips_published.specs.Answers.{Ends, IsRefused, IsUnjudged, IsMadeInPart, IsUnput, IsUnfinished, IsPublished}
use Rattle.ips_send_words.specs.declared.request.Request.{Request}
use Rattle.ips_send_report.specs.declared.outcome.SendOutcome.{SendOutcome}
use Rattle.ips_send_report.specs.declared.outcome.SendOutcome.TheVariants as outcome
use Rattle.ips_publish.specs.Told.{IsEarly, published_as}
use Rattle.ips_publish.specs.Comes.{IsSettledAt, Does, Makes, Publishes, Comes, Misworded, Starved, Unsettled, Done, Untold}
use Rattle.ips_publish.specs.Done.{StarvesEarly, Unasked, Synced, Unchanged, Unput}
use Rattle.ips_publish.proofs.Outcomes.{unsettled_starved, made_starved}
use Rattle.ips_publish.proofs.Settlings.{settling_starved}
use Rattle.ips_publish.proofs.Stopping.{holds_now}

-- memory ran out, or may be told to have in the place of this
abbrev pub MayStarve : SendOutcome → Type 0
MayStarve x = IsEarly x ⊎ (x ≡ outcome.OutOfMemory)

module _ {S F : Type 0} (q : Outside S) (o : Outside F) (sane : IsOutside o) (old new : F) (before : List Carrier) where
  module _ (at : F) (mid : List Carrier) (settled : IsSettledAt o old at before mid) where
    ending_starves : (proto : Image) (a : Asked) (is : IsAsked a) (x : Ending) → Ends o proto a is at new x → MayStarve (published_as a x) → StarvesEarly o old new before
    ending_starves proto a is x (IsRefused why judges stays) which = Unchanged at mid settled (holds_now o sane at new (λ s. s ≡ o.state at) stays)
    ending_starves proto a is x (IsUnjudged y stopped stays) which = Unchanged at mid settled (holds_now o sane at new (λ s. s ≡ o.state at) stays)
    ending_starves proto a is x (IsMadeInPart put judges makes) which = ⊎_elim (λ early. absurd early) (λ none. cc) which
    ending_starves proto a is x (IsUnput put y judges stopped keeps leaves) which = Unput a is put at mid settled keeps leaves
    ending_starves proto a is x (IsUnfinished put judges keeps leaves) which = ⊎_elim (λ early. absurd early) (λ none. cc) which
    ending_starves proto a is x (IsPublished put judges keeps leaves) which = ⊎_elim (λ early. absurd early) (λ none. cc) which

    does_starve : (source : S) (request : Request) (x : SendOutcome) → Does q o source at new request x → IsTrue (q.tells source) → IsTrue (o.tells at) → MayStarve x → StarvesEarly o old new before
    does_starve source request x (Makes publisher y ends) tells told which = Unchanged at mid settled ((ends told).kept (made_starved y which))
    does_starve source request x (Publishes a is y ends) tells told which = ending_starves (q.state source).held a is y (ends tells told) which

  module _ (words : List (List ℕ)) (moment : ℕ) (source : S) (now : List Carrier) (tells : IsTrue (q.tells source)) (told : IsTrue (o.tells old)) where
    pub starves : (x : SendOutcome) → Comes q o words moment source old new before now x → MayStarve x → StarvesEarly o old new before
    starves x (Misworded place why usage same counted) which = Unasked (ap (λ (f : F). o.state f) same)
    starves x (Starved same counted) which = Unasked (ap (λ (f : F). o.state f) same)
    starves x (Unsettled request why asks how) which =
        ⊎_elim (λ same. Unasked same) (λ safe. Synced safe)
        (settling_starved o old new before now (subst (λ (w : Or CommitFault). Settles o old new before now (Err w)) (unsettled_starved why which) (how told)))
    starves x (Done request at mid y asks settled does) which = does_starve at mid (settled told) source request y does tells ((settled told).same_kind ∙ told) which
    starves x (Untold y early comes) which = starves y comes (inl early)
