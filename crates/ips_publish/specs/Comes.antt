-- What a run of `send` comes to: under which cause each outcome comes.
use Rattle.std.specs.Prelude.{◌≡◌, ◌⊎◌, ℕ, true, IsTrue, IsFalse, List, Result, Ok, Err, OnOk}
use Rattle.ips_text.specs.declared.refusal.Or.{Or}
use Rattle.ips_text.specs.declared.refusal.Or.TheVariants.{Bad}
use Rattle.ips_text.specs.Reading.{IfBad}
use Rattle.ips_outside.specs.Outside.{Outside}
use Rattle.ips_kinds.specs.Tallies.{Carrier}
use Rattle.ips_journal.specs.Text.{journal_text}
use Rattle.ips_commit.specs.declared.fault.CommitFault.{CommitFault}
use Rattle.ips_syntax.specs.declared.table.Why.{Why}
use Rattle.ips_send_words.specs.Words.{Asks, IsUsage}
use Rattle.ips_send_words.specs.declared.request.Request.{Request}
use Rattle.ips_send_words.specs.declared.request.Request.TheVariants.{Create, Publish}
use Rattle.ips_send_report.specs.declared.outcome.SendOutcome.{SendOutcome}
use Rattle.ips_send_report.specs.declared.outcome.SendOutcome.TheVariants as outcome
use Rattle.ips_sends.specs.Sends.{HasSettled}
use Rattle.ips_sends.specs.Whole.{AreWholeOrOut}
use Rattle.ips_put.specs.Settling.{Settles}
use Rattle.ips_judged.specs.declared.verdict.Asked.{Asked}
use Rattle.ips_judged.specs.Answers.{IsAsked}
use Rattle.ips_published.specs.Ending.{Ending}
use Rattle.ips_published.specs.Answers.{Ends}
use Rattle.ips_create.specs.declared.fault.CreateFault.{CreateFault}
use Rattle.ips_create.specs.declared.fault.CreateFault.TheVariants as create
use Rattle.ips_create.specs.Created.{IsCreated, SaysOfCreate, has_begun}
use Rattle.ips_create.specs.Making.{Creates, StaysMarkedLast}
use Rattle.ips_ways.specs.Ways.{HasBegun}
use Rattle.ips_lay.specs.Records.{MakesInPart}
use Rattle.ips_repo.specs.Mark.{is_repository}
use Rattle.ips_publish.specs.Told.{unsettled_as, created_as, published_as, IsEarly}

-- The target is settled: what was stopped is brought to its end, and nothing that was said of it is lost.
pub record IsSettledAt {F : Type 0} (o : Outside F) (old at : F) (before now : List Carrier) : Type 0 where
  pub settles : Settles o old at before now (Ok tt)
  pub has : HasSettled journal_text o AreWholeOrOut old at
  pub same_kind : o.tells at ≡ o.tells old

-- How the making of a repository ends, on a target in which nothing is touched and nothing stands at the gate: it is made; or a repository is there, or something is in the way, or
-- a call failed, and then nothing is changed before such a call is made that may change something. What was said is kept at each moment, unless directories of the records were
-- made and not yet made safe; and at none a mark is valid before the rest stands. A call that may change something was made where that is told, and only there.
pub record EndsMaking {F : Type 0} (o : Outside F) (publisher : List ℕ) (old new : F) (x : Result (Unit {0}) (Or CreateFault)) : Type 0 where
  pub created : OnOk x (IsCreated publisher (o.state old).held (o.state new))
  pub says : IfBad x (SaysOfCreate publisher (o.state old).held)
  pub creates : Creates o publisher old new ⊎ (MakesInPart o old new × (x ≡ Err (Bad (create.FolderFault true))))
  pub marked : IsFalse (is_repository (o.state old).held) → StaysMarkedLast o publisher old new
  pub kept : IsFalse (has_begun x) → o.state new ≡ o.state old
  pub begun : HasBegun (o.changes old) (o.changes new) (has_begun x)

-- What comes of a request, once the target is settled: a repository is made, or why it isn't; or a package is published, or why it isn't.
pub data Does {S F : Type 0} (q : Outside S) (o : Outside F) (source : S) (at new : F) : Request → SendOutcome → Type 0 where
  Makes : (publisher : List ℕ) (x : Result (Unit {0}) (Or CreateFault)) → (IsTrue (o.tells at) → EndsMaking o publisher at new x) → Does q o source at new (Create publisher) (created_as x)
  Publishes : (a : Asked) (is : IsAsked a) (x : Ending) → (IsTrue (q.tells source) → IsTrue (o.tells at) → Ends o (q.state source).held a is at new x)
      → Does q o source at new (Publish a.publisher a.stem a.version a.path) (published_as a x)

-- Each outcome comes under its cause, phase by phase: words that are of no form are told so, with the first place at which they go wrong, and nothing is asked of either
-- folder; memory for them is refused; the target isn't settled, for this cause; or it is, and then the request is done or refused. Of what is refused
-- before the gate's call, and with no call that failed, the report may find no memory.
pub data Comes {S F : Type 0} (q : Outside S) (o : Outside F) (words : List (List ℕ)) (moment : ℕ) (source : S) (old new : F) (before now : List Carrier) : SendOutcome → Type 0 where
  Misworded : (place : ℕ) (why : Why) → IsUsage moment words place why → new ≡ old → now ≡ before → Comes q o words moment source old new before now (outcome.Usage place why)
  Starved : new ≡ old → now ≡ before → Comes q o words moment source old new before now outcome.OutOfMemory
  Unsettled : (request : Request) (why : Or CommitFault) → Asks moment words request → (IsTrue (o.tells old) → Settles o old new before now (Err why))
      → Comes q o words moment source old new before now (unsettled_as why)
  Done : (request : Request) (at : F) (mid : List Carrier) (x : SendOutcome) → Asks moment words request → (IsTrue (o.tells old) → IsSettledAt o old at before mid) → Does q o source at new request x
      → Comes q o words moment source old new before now x
  Untold : (x : SendOutcome) → IsEarly x → Comes q o words moment source old new before now x → Comes q o words moment source old new before now outcome.OutOfMemory
