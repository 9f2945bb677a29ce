-- What a run of `send` promises.
use Rattle.std.specs.Prelude.{◌≡◌, ℕ, false, IsTrue, List}
use Rattle.ips_outside.specs.Outside.{Outside, HasCause, Reads}
use Rattle.ips_kinds.specs.Tallies.{Carrier}
use Rattle.ips_fmri.specs.Name.{IsPublisher, IsStem}
use Rattle.ips_fmri.specs.Version.{IsVersion}
use Rattle.ips_send_words.specs.declared.request.Request.{Request}
use Rattle.ips_send_words.specs.declared.request.Request.TheVariants.{Create, Publish}
use Rattle.ips_send_report.specs.declared.outcome.SendOutcome.{SendOutcome}
use Rattle.ips_send_report.specs.declared.outcome.SendOutcome.TheVariants as outcome
use Rattle.ips_publish.specs.Told.{BlamesFolder}
use Rattle.ips_publish.specs.Comes.{Comes}
use Rattle.ips_publish.specs.Stops.{Stops}

-- A run on the folder of what is published and on the repository: under which cause its outcome comes; what it does to what is said of the repository, wherever it is stopped;
-- and that a fault of one of both is told exactly where its count rose. Nothing in the folder of what is published is changed.
pub record IsSent {S F : Type 0} (q : Outside S) (o : Outside F) (words : List (List ℕ)) (moment : ℕ) (source source_new : S) (old new : F) (before now : List Carrier) (x : SendOutcome) : Type 0 where
  pub comes : Comes q o words moment source old new before now x
  pub stops : IsTrue (q.tells source) → IsTrue (o.tells old) → Stops o (q.state source).held words moment old new x
  pub reads : Reads q source source_new (x ≡ outcome.SourceFault)
  pub cause : HasCause (o.faults old) (o.faults new) (BlamesFolder x)
  pub same_kind : o.tells new ≡ o.tells old

-- what is asked for is well formed
abbrev pub IsFit : Request → Type 0
IsFit (Create publisher) = IsPublisher publisher
IsFit (Publish publisher stem version path) = IsPublisher publisher × IsStem false stem × IsVersion version
