-- How a publication ends, by its cause.
use Rattle.std.specs.Prelude.{◌≡◌, true, false, [], ◌∷◌, Ok, Err}
use Rattle.ips_text.specs.declared.refusal.Or.TheVariants.{Bad}
use Rattle.ips_outside.specs.Image.{Image}
use Rattle.ips_outside.specs.Outside.{Outside}
use Rattle.ips_folder.specs.Calls.{Throughout}
use Rattle.ips_journal.specs.Text.{journal_text}
use Rattle.ips_sends.specs.Whole.{Attempt, AreWholeOrOut}
use Rattle.ips_sends.specs.Sends.{IsSend}
use Rattle.ips_sends.specs.Judged.{Put, Judges, Publish}
use Rattle.ips_sends.specs.Judged as judged
use Rattle.ips_judged.specs.declared.verdict.Asked.{Asked}
use Rattle.ips_judged.specs.declared.verdict.Refusal.{Refusal}
use Rattle.ips_judged.specs.Answers.{IsAsked, asked_of, refusal_of}
use Rattle.ips_published.specs.declared.fault.PublishFault.TheVariants.{Refused, FolderFault}
use Rattle.ips_published.specs.Ending.{Ending, IsStopped}
use Rattle.ips_lay.specs.Records.{MakesInPart}
use Rattle.ips_published.specs.Publishing.{attempt, LeavesUnput, LeavesUnfinished, HasPublished}

-- at no moment anything is changed
abbrev pub StaysSame : {F : Type 0} → Outside F → F → F → Type 0
StaysSame o old new = Throughout o old new (λ s. s ≡ o.state old)

-- what is said of attempts is kept, of this one too, which is begun, and ends so
abbrev pub KeepsAttempt : {F : Type 0} → Outside F → Attempt → Attempt → F → F → Type 0
KeepsAttempt o begun ended old new = IsSend journal_text o AreWholeOrOut (begun ∷ []) (ended ∷ []) old new

-- How it ends, where both folders tell what they hold, and nothing in the repository is touched and nothing stands at the gate as it begins.
pub data Ends {F : Type 0} (o : Outside F) (proto : Image) (a : Asked) (is : IsAsked a) (old new : F) : Ending → Type 0 where
  IsRefused : (r : Refusal) → Judges proto (o.state old).held (asked_of a) (judged.Refused (refusal_of r)) → StaysSame o old new → Ends o proto a is old new (Err (Bad (Refused r)))
  IsUnjudged : (x : Ending) → IsStopped x → StaysSame o old new → Ends o proto a is old new x
  IsMadeInPart : (put : Put) → Judges proto (o.state old).held (asked_of a) (Publish put) → MakesInPart o old new → Ends o proto a is old new (Err (Bad (FolderFault false)))
  IsUnput : (put : Put) (x : Ending) → Judges proto (o.state old).held (asked_of a) (Publish put) → IsStopped x → (keeps : KeepsAttempt o (attempt a is put false) (attempt a is put false) old new)
      → LeavesUnput o a put old keeps.from new → Ends o proto a is old new x
  IsUnfinished : (put : Put) → Judges proto (o.state old).held (asked_of a) (Publish put) → KeepsAttempt o (attempt a is put false) (attempt a is put false) old new
      → LeavesUnfinished o a is put old new → Ends o proto a is old new (Err (Bad (FolderFault true)))
  IsPublished : (put : Put) → Judges proto (o.state old).held (asked_of a) (Publish put) → KeepsAttempt o (attempt a is put false) (attempt a is put true) old new
      → HasPublished o a is put old new → Ends o proto a is old new (Ok tt)
