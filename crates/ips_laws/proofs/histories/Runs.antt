-- What is done for a command that goes by the image, as a run of a history.
use Rattle.std.proofs.Common.{◌≡◌, ℕ, Bool, true, false, IsTrue, List, refl, sym, ap}
use Rattle.std.proofs.lemmas.Bool.{true≢false}
use Rattle.std.proofs.lemmas.Option.{cond_some}
use Rattle.ips_steps.proofs.Lists.{clash}
use Rattle.ips_outside.specs.Image.{Image}
use Rattle.ips_outside.specs.Outside.{Outside}
use Rattle.ips_outside.specs.Running.{Running}
use Rattle.ips_history.specs.Directories.{creates}
use Rattle.ips_history.specs.Run.{IsRun}
use Rattle.ips_history.specs.declared.effect.Effect.{Effect}
use Rattle.ips_history.specs.declared.effect.Effect.TheVariants as effect
use Rattle.ips_report.specs.declared.outcome.Outcome.{Outcome}
use Rattle.ips_report.specs.declared.outcome.Outcome.TheVariants as outcome
use Rattle.ips_tell.specs.told.Told.{claimed, manner_of}
use Rattle.ips_words.specs.declared.command.Command.{Command}
use Rattle.ips_words.specs.declared.what.What.{What}
use Rattle.ips_words.specs.declared.what.What.TheVariants as what
use Rattle.ips_kinds.specs.Tallies.{Carrier}
use Rattle.ips_trial.specs.Generated.{IsTried, Starved, Summed}
use Rattle.ips_operations.specs.creating.Creations.{makes_image}
use Rattle.ips_laws.specs.histories.Histories.{Requested, Means, Stays, Led, Made, Mended}
use Rattle.ips_tell.specs.performing.Performed.{At}
use Rattle.ips_top.specs.Runs.{Does, IsAnswer, IsAnswered, goes_by_image, is_answered}
use Rattle.ips_top.specs.Runs as does
use Rattle.ips_laws.proofs.histories.Wider.{run_means_more}

-- Something is shown, or memory is wanted.
abbrev pub IsShownAtMost : Outcome → Type 0
IsShownAtMost (outcome.Shown text) = Unit {0}
IsShownAtMost outcome.OutOfMemory = Unit {0}
IsShownAtMost other = ⊥

tried_shows : (n : ℕ) (old new : List Carrier) (told : Outcome) → IsTried n old new told → IsShownAtMost told
tried_shows n old new told (Summed finished) = tt
tried_shows n old new told Starved = tt

answered_shows : (w : What) (told : Outcome) → IsAnswered w told → IsShownAtMost told
answered_shows w (outcome.Shown text) is = tt
answered_shows w outcome.OutOfMemory is = tt
answered_shows w other is = is

-- what is answered doesn't go by the image
answer_without : (w : What) → is_answered w ≡ true → goes_by_image w ≡ false
answer_without (what.Help command) is = refl
answer_without what.Version is = refl
answer_without w is = absurd (true≢false (sym is))

answer_is : (w : What) (text : List ℕ) → IsAnswer w text → is_answered w ≡ true
answer_is (what.Help command) text is = refl
answer_is what.Version text is = refl
answer_is w text is = absurd is

goes_without : (w : What) (told : Outcome) → IsAnswered w told → goes_by_image w ≡ false
goes_without w (outcome.Shown text) is = answer_without w (answer_is w text is)
goes_without w outcome.OutOfMemory is = answer_without w is
goes_without w other is = absurd is

module _ {F S P : Type 0} (o : Outside F) (q : Outside S) (r : Running P) (c : Command) (moment : ℕ) (old new : At F S P) (told : Outcome) where
  -- The command as a request.
  abbrev requested : Requested
  requested = record { command = c; moment = moment; tells = q.tells old.source; repository = (q.state old.source).held }

  -- The run of a history that it is; it makes an image only where the command does.
  abbrev pub IsOneRun : Type 0
  IsOneRun = (e : Effect) × (IsTrue (creates e) → IsTrue (makes_image c.what)) × IsRun o (Means requested) e (claimed (manner_of told)) old.counted new.counted old.folder new.folder

  wider : (e : Effect) (means : Image → Image → Type 0) → (IsTrue (creates e) → IsTrue (makes_image c.what)) → ((before after : Image) → means before after → Means requested before after)
      → IsRun o means e (claimed (manner_of told)) old.counted new.counted old.folder new.folder → IsOneRun
  wider e means makes more run = (e, makes, run_means_more o means (Means requested) more e (claimed (manner_of told)) old.counted new.counted old.folder new.folder run)

  -- So it is, unless it doesn't go by the image, and then something is shown or memory is wanted.
  pub is_a_run : (goes_by_image c.what ≡ false → IsShownAtMost told → ⊥) → Does o q r c moment old new told → IsTrue (o.tells old.folder) → IsOneRun
  is_a_run goes (does.Shows a asks performed) tells = wider effect.Shows _ (λ is. clash false is refl) (λ before after same. Stays a asks same) (performed.run tells)
  is_a_run goes (does.Changes changes performed) tells = wider effect.Changes _ (λ is. clash false is refl) (λ before after led. Led changes led) (performed.run tells)
  is_a_run goes (does.Creates a making performed) tells = wider effect.Creates _ (λ is. (cond_some (makes_image c.what) _ a making).0) (λ before after made. Made a making made) (performed.run tells)
  is_a_run goes (does.Fixes a fixes performed) tells = wider effect.Fixes _ (λ is. clash false is refl) (λ before after mended. Mended a fixes mended) (performed.run tells)
  is_a_run goes (does.Tries number is tried alone) tells = absurd (goes (ap goes_by_image is) (tried_shows number old.counted new.counted told tried))
  is_a_run goes (does.Answers answered same) tells = absurd (goes (goes_without c.what told answered) (answered_shows c.what told answered))
