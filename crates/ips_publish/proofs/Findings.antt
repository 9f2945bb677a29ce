-- What a run has found, by its outcome.
use Rattle.std.proofs.Common.{◌≡◌, ℕ, IsTrue, List, Err, ◌∙◌, subst}
use Rattle.ips_text.specs.declared.refusal.Or.TheVariants.{Bad}
use Rattle.ips_outside.specs.Image.{Image}
use Rattle.ips_outside.specs.Outside.{Outside}
use Rattle.ips_kinds.specs.Tallies.{Carrier}
use Rattle.ips_journal.specs.Text.{journal_text}
use Rattle.ips_commit.specs.declared.fault.CommitFault.{CommitFault}
use Rattle.ips_text.specs.declared.refusal.Or.{Or}
use Rattle.ips_sends.specs.Keeps.{Keeps}
use Rattle.ips_put.specs.Settling.{Settles}
use Rattle.ips_judged.specs.declared.verdict.Asked.{Asked}
use Rattle.ips_judged.specs.Answers.{IsAsked}
use Rattle.ips_published.specs.declared.fault.PublishFault.TheVariants as publish
use Rattle.ips_published.specs.Ending.{Ending, IsStopped}
use Rattle.ips_published.specs.Answers.{Ends, IsRefused, IsUnjudged, IsMadeInPart, IsUnput, IsUnfinished, IsPublished}
use Rattle.ips_send_words.specs.declared.request.Request.{Request}
use Rattle.ips_send_report.specs.declared.outcome.SendOutcome.{SendOutcome}
use Rattle.ips_send_report.specs.declared.outcome.SendOutcome.TheVariants as outcome
use Rattle.ips_publish.specs.Told.{IsFault}
use Rattle.ips_publish.specs.Comes.{IsSettledAt, Does, Makes, Publishes, Comes, Misworded, Starved, Unsettled, Done, Untold}
use Rattle.ips_publish.proofs.Outcomes.{unsettled_fault, unsettled_bad, made_not_bad, published_bad}
use Rattle.ips_publish.proofs.Settlings.{settling_reads}

module _ {S F : Type 0} (q : Outside S) (o : Outside F) where
  -- no publication ends with a bad journal
  ending_reads : (proto : Image) (a : Asked) (is : IsAsked a) (at new : F) (x : Ending) → Ends o proto a is at new x → (line : ℕ) → x ≡ Err (Bad (publish.BadJournal line)) → ⊥
  ending_reads proto a is at new x (IsRefused why judges stays) line bad = cc
  ending_reads proto a is at new x (IsUnjudged y stopped stays) line bad = subst (λ (e : Ending). IsStopped e) bad stopped
  ending_reads proto a is at new x (IsMadeInPart put judges makes) line bad = cc
  ending_reads proto a is at new x (IsUnput put y judges stopped keeps leaves) line bad = subst (λ (e : Ending). IsStopped e) bad stopped
  ending_reads proto a is at new x (IsUnfinished put judges keeps leaves) line bad = cc
  ending_reads proto a is at new x (IsPublished put judges keeps leaves) line bad = cc

  does_reads : (source : S) (at new : F) (request : Request) (x : SendOutcome) → Does q o source at new request x → IsTrue (q.tells source) → IsTrue (o.tells at) → (line : ℕ) → x ≡ outcome.BadJournal line → ⊥
  does_reads source at new request x (Makes publisher y ends) tells told line bad = made_not_bad y line bad
  does_reads source at new request x (Publishes a is y ends) tells told line bad = ending_reads (q.state source).held a is at new y (ends tells told) line (published_bad a y line bad)

  module _ (words : List (List ℕ)) (moment : ℕ) (source : S) (old new : F) (before now : List Carrier) (told : IsTrue (o.tells old)) where
    -- a run that ends with no fault has found a settled target
    pub settled_at : (x : SendOutcome) → Comes q o words moment source old new before now x → (IsFault x → ⊥) → (at : F) × (mid : List Carrier) × IsSettledAt o old at before mid
    settled_at x (Misworded place why usage same counted) sound = absurd (sound tt)
    settled_at x (Starved same counted) sound = absurd (sound tt)
    settled_at x (Unsettled request why asks how) sound = absurd (sound (unsettled_fault why))
    settled_at x (Done request at mid y asks settled does) sound = (at, mid, settled told)
    settled_at x (Untold y early comes) sound = absurd (sound tt)

    -- none ends with a bad journal, where something is said of the target
    pub never_bad : (x : SendOutcome) → Comes q o words moment source old new before now x → (line : ℕ) → x ≡ outcome.BadJournal line → IsTrue (q.tells source) → IsTrue (o.tells new) → (Q : Image → Type 0) → Keeps journal_text Q (o.state old) → ⊥
    never_bad x (Misworded place why usage same counted) line bad tells told_new Q keeps = cc
    never_bad x (Starved same counted) line bad tells told_new Q keeps = cc
    never_bad x (Unsettled request why asks how) line bad tells told_new Q keeps =
        settling_reads o Q old new before now line (subst (λ (w : Or CommitFault). Settles o old new before now (Err w)) (unsettled_bad why line bad) (how told)) told_new keeps
    never_bad x (Done request at mid y asks settled does) line bad tells told_new Q keeps = does_reads source at new request y does tells ((settled told).same_kind ∙ told) line bad
    never_bad x (Untold y early comes) line bad tells told_new Q keeps = cc
