-- What is so where it is told that something is made or published.
use Rattle.std.proofs.Common.{◌≡◌, ℕ, IsTrue, List, Ok, refl, ◌∙◌, ap, subst}
use Rattle.ips_outside.specs.Image.{Image}
use Rattle.ips_outside.specs.Outside.{Outside}
use Rattle.ips_kinds.specs.Tallies.{Carrier}
use Rattle.ips_text.specs.declared.refusal.Or.{Or}
use Rattle.ips_commit.specs.declared.fault.CommitFault.{CommitFault}
use Rattle.ips_syntax.specs.declared.table.Why.{Why}
use Rattle.ips_catalog.specs.Listed.{Listed}
use Rattle.ips_repo.specs.Opening.{opening}
use Rattle.ips_sends.specs.Judged as judged
use Rattle.ips_sends.specs.Judged.{Put, Verdict, Judges, IsUnopened, HasNoManifest, HasLargeManifest, HasBadManifest, LacksSource, IsListedYet, HasLargeContent, IsBlocked, IsTooLarge, CanBePublished}
use Rattle.ips_create.specs.Created.{IsCreated}
use Rattle.ips_judged.specs.declared.verdict.Asked.{Asked}
use Rattle.ips_judged.specs.Answers.{IsAsked, asked_of}
use Rattle.ips_published.specs.Ending.{Ending, IsStopped}
use Rattle.ips_published.specs.Publishing.{HasPublished}
use Rattle.ips_published.specs.Answers.{Ends, IsRefused, IsUnjudged, IsMadeInPart, IsUnput, IsUnfinished, IsPublished}
use Rattle.ips_send_words.specs.Words.{Asks}
use Rattle.ips_send_words.specs.declared.request.Request.{Request}
use Rattle.ips_send_words.specs.declared.request.Request.TheVariants.{Create}
use Rattle.ips_send_report.specs.declared.outcome.SendOutcome.{SendOutcome}
use Rattle.ips_send_report.specs.declared.outcome.SendOutcome.TheVariants as outcome
use Rattle.ips_publish.specs.Told.{IsFault, unsettled_as}
use Rattle.ips_publish.specs.Comes.{IsSettledAt, Does, Makes, Publishes, Comes, Misworded, Starved, Unsettled, Done, Untold}
use Rattle.ips_publish.specs.Done.{SaysCreated, SaysPublished}
use Rattle.ips_publish.proofs.Outcomes.{unsettled_fault, made_so, made_not_published, published_not_made, published_so}

-- what can be published is over an open repository
was_opened : (proto t : Image) (a : judged.Asked) (v : Verdict) → Judges proto t a v → (put : Put) → v ≡ judged.Publish put → (catalog : List Listed) × (opening a.publisher t ≡ Ok catalog)
was_opened proto t a v (IsUnopened why is) put is_put = cc
was_opened proto t a v (HasNoManifest catalog opened none) put is_put = cc
was_opened proto t a v (HasLargeManifest catalog bytes opened stands large) put is_put = cc
was_opened proto t a v (HasBadManifest has f bad) put is_put = cc
was_opened proto t a v (LacksSource has drafts text are missing) put is_put = cc
was_opened proto t a v (IsListedYet has drafts are sources listed) put is_put = cc
was_opened proto t a v (HasLargeContent new count over) put is_put = cc
was_opened proto t a v (IsBlocked new filled path fit are first) put is_put = cc
was_opened proto t a v (IsTooLarge other can limit count over) put is_put = cc
was_opened proto t a v (CanBePublished other can within) put is_put = (can.new.has.catalog, can.new.has.opened)

-- it is told that something is made or published
abbrev IsGood : SendOutcome → Type 0
IsGood x = IsFault x → ⊥

-- these aren't
usage_isnt : (place : ℕ) (why : Why) (x : SendOutcome) → outcome.Usage place why ≡ x → IsGood x → ⊥
usage_isnt place why x is good = good (subst (λ (y : SendOutcome). IsFault y) is tt)

starved_isnt : (x : SendOutcome) → outcome.OutOfMemory ≡ x → IsGood x → ⊥
starved_isnt x is good = good (subst (λ (y : SendOutcome). IsFault y) is tt)

unsettled_isnt : (why : Or CommitFault) (x : SendOutcome) → unsettled_as why ≡ x → IsGood x → ⊥
unsettled_isnt why x is good = good (subst (λ (y : SendOutcome). IsFault y) is (unsettled_fault why))

module _ {S F : Type 0} (q : Outside S) (o : Outside F) where
  -- it is published
  ended_so : (proto : Image) (a : Asked) (is : IsAsked a) (at new : F) (x : Ending) → Ends o proto a is at new x → x ≡ Ok tt → (put : Put) × Judges proto (o.state at).held (asked_of a) (judged.Publish put) × HasPublished o a is put at new
  ended_so proto a is at new x (IsRefused why judges stays) done = cc
  ended_so proto a is at new x (IsUnjudged y stopped stays) done = absurd (subst (λ (e : Ending). IsStopped e) done stopped)
  ended_so proto a is at new x (IsMadeInPart put judges makes) done = cc
  ended_so proto a is at new x (IsUnput put y judges stopped keeps leaves) done = absurd (subst (λ (e : Ending). IsStopped e) done stopped)
  ended_so proto a is at new x (IsUnfinished put judges keeps leaves) done = cc
  ended_so proto a is at new x (IsPublished put judges keeps has) done = (put, judges, has)

  module _ (words : List (List ℕ)) (moment : ℕ) (source : S) (old new : F) (before now : List Carrier) (told : IsTrue (o.tells old)) where
    -- ---- a repository

    does_make : (at : F) (request : Request) (x : SendOutcome) → Does q o source at new request x → Asks moment words request → x ≡ outcome.Created → IsTrue (o.tells at)
        → (publisher : List ℕ) × Asks moment words (Create publisher) × IsCreated publisher (o.state at).held (o.state new)
    does_make at request x (Makes publisher y ends) asks is tells = (publisher, asks, made_so y (IsCreated publisher (o.state at).held (o.state new)) is (ends tells).created)
    does_make at request x (Publishes a sane y ends) asks is tells = absurd (published_not_made a y is)

    settled_so : (at : F) (mid : List Carrier) → IsSettledAt o old at before mid → (request : Request) (x : SendOutcome) → Asks moment words request → Does q o source at new request x → x ≡ outcome.Created → SaysCreated o words moment old new before
    settled_so at mid settled request x asks does is =
        let says = does_make at request x does asks is (settled.same_kind ∙ told) in
        record { publisher = says.0; asks = says.1; at = at; mid = mid; settled = settled; created = says.2 }

    pub says_created : (x : SendOutcome) → Comes q o words moment source old new before now x → x ≡ outcome.Created → SaysCreated o words moment old new before
    says_created x (Misworded place why usage same counted) is = absurd (usage_isnt place why outcome.Created is (λ fault. fault))
    says_created x (Starved same counted) is = absurd (starved_isnt outcome.Created is (λ fault. fault))
    says_created x (Unsettled request why asks how) is = absurd (unsettled_isnt why outcome.Created is (λ fault. fault))
    says_created x (Done request at mid y asks settled does) is = settled_so at mid (settled told) request y asks does is
    says_created x (Untold y early comes) is = absurd (starved_isnt outcome.Created is (λ fault. fault))

    -- ---- a package

    module _ (fmri : List ℕ) (at : F) (mid : List Carrier) (settled : IsSettledAt o old at before mid) where
      does_publish : (request : Request) (x : SendOutcome) → Does q o source at new request x → Asks moment words request → x ≡ outcome.Published fmri → IsTrue (q.tells source) → SaysPublished o (q.state source).held words moment old new before fmri
      does_publish request x (Makes publisher y ends) asks is tells = absurd (made_not_published y fmri is)
      does_publish request x (Publishes a sane y ends) asks is tells =
          let so = published_so a y fmri is in
          let ended = ended_so (q.state source).held a sane at new y (ends tells (settled.same_kind ∙ told)) so.0 in
          let opened = was_opened (q.state source).held (o.state at).held (asked_of a) (judged.Publish ended.0) ended.1 ended.0 refl in
          record {
            asked = a;
            is = sane;
            asks = asks;
            named = so.1;
            at = at;
            mid = mid;
            settled = settled;
            put = ended.0;
            judged = ended.1;
            published = ended.2;
            catalog = opened.0;
            opened = opened.1;
            opens = ap (λ (t : Image). opening a.publisher t) ended.2.committed.seen ∙ ended.2.published.opened opened.0 opened.1;
          }

    pub says_published : (fmri : List ℕ) (x : SendOutcome) → Comes q o words moment source old new before now x → x ≡ outcome.Published fmri → IsTrue (q.tells source) → SaysPublished o (q.state source).held words moment old new before fmri
    says_published fmri x (Misworded place why usage same counted) is tells = absurd (usage_isnt place why (outcome.Published fmri) is (λ fault. fault))
    says_published fmri x (Starved same counted) is tells = absurd (starved_isnt (outcome.Published fmri) is (λ fault. fault))
    says_published fmri x (Unsettled request why asks how) is tells = absurd (unsettled_isnt why (outcome.Published fmri) is (λ fault. fault))
    says_published fmri x (Done request at mid y asks settled does) is tells = does_publish fmri at mid (settled told) request y does asks is tells
    says_published fmri x (Untold y early comes) is tells = absurd (starved_isnt (outcome.Published fmri) is (λ fault. fault))
