-- What is promised of an operation that is carried out and told.
use Rattle.std.specs.Prelude.{◌≡◌, ◌≢◌, ◌⊎◌, Bool, IsTrue, IsFalse, List, None}
use Rattle.ips_outside.specs.Image.{Image}
use Rattle.ips_outside.specs.Outside.{Outside, HasCause, OneMore, Reads}
use Rattle.ips_outside.specs.Running.{Running}
use Rattle.ips_steps.specs.Private.{gate_name}
use Rattle.ips_kinds.specs.Tallies.{Carrier}
use Rattle.ips_commit.specs.Answers.{IsToldOrMasked}
use Rattle.ips_commit.specs.Pending.{IsBare}
use Rattle.ips_history.specs.Directories.{shows, creates, fixes, image_for}
use Rattle.ips_history.specs.Run.{IsRun}
use Rattle.ips_history.specs.declared.effect.Effect.{Effect}
use Rattle.ips_report.specs.declared.outcome.Outcome.{Outcome}
use Rattle.ips_run.specs.declared.operation.Decision.{Decision}
use Rattle.ips_run.specs.declared.ending.Ending.{Ending}
use Rattle.ips_run.specs.Comes.{Comes, HasNoMore, HasRun}
use Rattle.ips_run.specs.Phases.{HasFailedInCommit, HasFailedInRecovery, HasListed, IsKeptOrSettled, IsLeftReady, IsUnbegun}
use Rattle.ips_run.specs.Unopened.{NeverOpens}
use Rattle.ips_tell.specs.told.Told.{blames_folder, blames_source, blames_spawner, claimed, claims_done, claims_failed, claims_refused, claims_unfinished, manner_of, told_as}

-- The outcome tells an ending that comes.
abbrev pub ComesAs : (Ending Outcome → Type 0) → Outcome → Type 0
ComesAs comes o = (x : Ending Outcome) × (o ≡ told_as x) × comes x

-- The folder of an image, the repository and the spawner at a moment, and what the kinds have counted.
pub record At (F S P : Type 0) : Type 0 where
  pub folder : F
  pub source : S
  pub spawner : P
  pub counted : List Carrier

-- An operation is carried out, from one moment to another, and told as this outcome: what the outcome claims holds of the image, at every moment and at the end; it has
-- its cause, and these actuators and no others were run; a fault of the folder is told exactly where its count rose, and so is one of the repository or the spawner, unless a call on the folder
-- failed too, as where what was staged was to be taken away: then that is told; what is left unfinished was begun; where it tells a change as done, the journal that stood ready in this run listed just the steps that were counted, those of the decision by which it is told; behind what is refused at a closed gate no call
-- that may change something was made there (of one that makes an image, since its directories are safe); what is told as unchanged leaves no list of steps ready and safe, but where one was to be taken away since an actuator
-- before it wasn't run to its end (not said of one that makes an image, nor of one that recovers and finds something pending); any other refusal leaves nothing where staging writes, or the image as before; and where something is shown, or an open gate is left as it was, the opening sync is the only call that may change something, and nothing
-- but that has happened to the image.
pub record IsPerformed {F S P : Type 0} (o : Outside F) (q : Outside S) (r : Running P) (effect : Effect) (decides : Bool → Image → Image → Decision Outcome → Type 0) (means : Bool → Image → Image → Image → Type 0) (old new : At F S P) (outcome : Outcome) : Type 0 where
  pub run : IsTrue (o.tells old.folder) → IsRun o (means (q.tells old.source) (q.state old.source).held) effect (claimed (manner_of outcome)) old.counted new.counted old.folder new.folder
  pub comes : IsTrue (o.tells old.folder) → ComesAs (Comes effect (decides (q.tells old.source) (q.state old.source).held (image_for effect (o.state old.folder).held))
      (q.tells old.source) (q.state old.source).held (o.state old.folder).held (o.state new.folder).held old.counted new.counted (HasRun r old.spawner new.spawner)) outcome
  pub folder : HasCause (o.faults old.folder) (o.faults new.folder) (IsTrue (blames_folder (manner_of outcome)))
  pub source : Reads q old.source new.source
      (IsToldOrMasked (q.faults old.source) (q.faults new.source) (IsTrue (blames_source (manner_of outcome))) (IsTrue (claims_failed (manner_of outcome)) × IsFalse (shows effect)))
  pub spawner : HasCause (r.faults old.spawner) (r.faults new.spawner)
      (IsToldOrMasked (r.faults old.spawner) (r.faults new.spawner) (IsTrue (blames_spawner (manner_of outcome))) (IsTrue (claims_failed (manner_of outcome)) × IsFalse (shows effect)))
  pub shows_unasked : IsTrue (shows effect) → IsFalse (blames_source (manner_of outcome))
  pub shows_unspawned : IsTrue (shows effect) → IsFalse (blames_spawner (manner_of outcome))
  pub begun : IsTrue (o.tells old.folder) → IsTrue (claims_unfinished (manner_of outcome)) → HasFailedInCommit o old.folder new.folder ⊎ HasFailedInRecovery o old.folder new.folder
  pub listed : IsTrue (o.tells old.folder) → IsTrue (claims_done (manner_of outcome)) → ComesAs (λ x. HasListed o (decides (q.tells old.source) (q.state old.source).held (image_for effect (o.state old.folder).held))
      x old.counted new.counted old.folder new.folder) outcome
  pub unopened : IsTrue (o.tells old.folder) → (o.state old.folder).held.look gate_name ≡ None → IsTrue (claims_refused (manner_of outcome)) → NeverOpens o effect old.folder new.folder
  pub unbegun : IsTrue (o.tells old.folder) → IsFalse (creates effect) → (IsTrue (fixes effect) → IsBare (o.state old.folder).held) → IsTrue (claims_failed (manner_of outcome))
      → IsUnbegun (o.state old.folder) (o.state new.folder)
      ⊎ IsLeftReady o (decides (q.tells old.source) (q.state old.source).held (image_for effect (o.state old.folder).held)) old.counted new.counted (HasRun r old.spawner new.spawner) old.folder new.folder
  pub left : IsTrue (o.tells old.folder) → IsTrue (claims_refused (manner_of outcome)) → IsFalse (claims_failed (manner_of outcome)) → HasNoMore effect (o.state old.folder).held (o.state new.folder).held
  pub shows_once : IsTrue (shows effect) → OneMore (o.changes old.folder) (o.changes new.folder)
  pub untouched_once : IsTrue (o.tells old.folder) → (o.state old.folder).held.look gate_name ≢ None → IsTrue (claims_refused (manner_of outcome)) → OneMore (o.changes old.folder) (o.changes new.folder)
  pub shows_kept : IsTrue (o.tells old.folder) → IsTrue (shows effect) → IsKeptOrSettled o old.folder new.folder
  pub untouched_kept : IsTrue (o.tells old.folder) → (o.state old.folder).held.look gate_name ≢ None → IsTrue (claims_refused (manner_of outcome)) → IsKeptOrSettled o old.folder new.folder
  pub same_kind : o.tells new.folder ≡ o.tells old.folder
