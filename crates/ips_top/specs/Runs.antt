-- What a run does, by its words.
use Rattle.std.specs.Prelude.{◌≡◌, ◌≤◌, ℕ, Bool, true, false, List, Some, IsTrue}
use Rattle.ips_outside.specs.Outside.{Outside}
use Rattle.ips_outside.specs.Running.{Running}
use Rattle.ips_records.specs.Lines.{ended}
use Rattle.ips_history.specs.declared.effect.Effect.TheVariants as effect
use Rattle.ips_report.specs.declared.outcome.Outcome.{Outcome}
use Rattle.ips_report.specs.declared.outcome.Outcome.TheVariants as outcome
use Rattle.ips_words.specs.Command.{IsCommand, IsUsage}
use Rattle.ips_words.specs.Help.{help_text, version_text}
use Rattle.ips_words.specs.declared.command.Command.{Command}
use Rattle.ips_words.specs.declared.what.What.{What}
use Rattle.ips_words.specs.declared.what.What.TheVariants as what
use Rattle.ips_words.specs.declared.what.Usage.{Usage}
use Rattle.ips_showing.specs.Asked.{Asked, asked_by}
use Rattle.ips_showing.specs.Shows as showing
use Rattle.ips_operations.specs.changing.Commands.{is_changing}
use Rattle.ips_operations.specs.changing.Decides.{Decides, asked_of}
use Rattle.ips_operations.specs.changing.Leads.{LeadsWhere}
use Rattle.ips_operations.specs.creating.Creations.{Creation, creating_at}
use Rattle.ips_operations.specs.creating.Decides as creating
use Rattle.ips_operations.specs.fixing.Fixes.{Repairing, fixing_at}
use Rattle.ips_operations.specs.fixing.Decides as fixing
use Rattle.ips_trial.specs.Generated.{IsTried}
use Rattle.ips_tell.specs.performing.Performed.{At, IsPerformed}

-- The command goes by the image of the folder.
abbrev pub goes_by_image : What → Bool
goes_by_image (what.Gen number) = false
goes_by_image (what.Help command) = false
goes_by_image what.Version = false
goes_by_image w = true

-- The command asks for the help or the version.
abbrev pub is_answered : What → Bool
is_answered (what.Help command) = true
is_answered what.Version = true
is_answered w = false

-- The text is the help or the version, as the command asks for it.
abbrev pub IsAnswer : What → List ℕ → Type 0
IsAnswer (what.Help command) text = text ≡ help_text command
IsAnswer what.Version text = text ≡ ended version_text
IsAnswer w text = ⊥

-- What is answered with nothing done: the help or the version, unless memory ran out.
abbrev pub IsAnswered : What → Outcome → Type 0
IsAnswered w (outcome.Shown text) = IsAnswer w text
IsAnswered w outcome.OutOfMemory = IsTrue (is_answered w)
IsAnswered w other = ⊥

-- A trial has as many packages as words can ask for.
abbrev pub HasNumber : What → Type 0
HasNumber (what.Gen number) = (1 ≤ number) × (number ≤ 2000)
HasNumber w = Unit {0}

-- Nothing is asked of the folder, the repository and the spawner, and they are as before.
pub record AreLeftAlone {F S P : Type 0} (old new : At F S P) : Type 0 where
  pub folder : new.folder ≡ old.folder
  pub source : new.source ≡ old.source
  pub spawner : new.spawner ≡ old.spawner

-- What is done for a command at a moment: something of the image is shown; it is changed to what the command leads it to; it is made; what was stopped is brought to its end, or
-- what is damaged is repaired; or, without it, a trial is made in memory, or something is answered.
pub data Does {F S P : Type 0} (o : Outside F) (q : Outside S) (r : Running P) (c : Command) (moment : ℕ) (old new : At F S P) (told : Outcome) : Type 0 where
  Shows : (a : Asked) → asked_by c.what ≡ Some a → IsPerformed o q r effect.Shows (λ tells repository t d. showing.Shows t a d) (λ tells repository t u. u ≡ t) old new told → Does o q r c moment old new told
  Changes : IsTrue (is_changing c.what) → IsPerformed o q r effect.Changes (λ tells repository t d. Decides (asked_of c moment tells repository t) d) (LeadsWhere c moment) old new told → Does o q r c moment old new told
  Creates : (a : Creation) → creating_at c moment ≡ Some a → IsPerformed o q r effect.Creates (λ tells repository t d. creating.Decides a t d) (creating.makes_of a) old new told → Does o q r c moment old new told
  Fixes : (a : Repairing) → fixing_at c moment ≡ Some a → IsPerformed o q r effect.Fixes (λ tells repository t d. fixing.Decides a t d) (fixing.repairs_of a) old new told → Does o q r c moment old new told
  Tries : (number : ℕ) → c.what ≡ what.Gen number → IsTried number old.counted new.counted told → AreLeftAlone old new → Does o q r c moment old new told
  Answers : IsAnswered c.what told → new ≡ old → Does o q r c moment old new told

-- What a run does: words that are no command are told so, with the first word at fault; and else what the command asks for is done. Where memory for the words is refused,
-- nothing is.
pub data Runs {F S P : Type 0} (o : Outside F) (q : Outside S) (r : Running P) (words : List (List ℕ)) (moment : ℕ) (old new : At F S P) (told : Outcome) : Type 0 where
  Misworded : (u : Usage) → IsUsage words u → told ≡ outcome.Usage u.place u.why → new ≡ old → Runs o q r words moment old new told
  Starved : told ≡ outcome.OutOfMemory → new ≡ old → Runs o q r words moment old new told
  Worded : (c : Command) → IsCommand words c → Does o q r c moment old new told → Runs o q r words moment old new told
