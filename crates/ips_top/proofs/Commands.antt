-- What a run does, from what was carried out and told.
use Rattle.std.proofs.Common.{◌≡◌, inl, inr, ℕ, true, List, Some, None, refl, sym, subst}
use Rattle.std.proofs.lemmas.Option.{cond_some}
use Rattle.ips_outside.specs.Outside.{Outside}
use Rattle.ips_outside.specs.Running.{Running}
use Rattle.ips_history.specs.declared.effect.Effect.TheVariants as effect
use Rattle.ips_report.specs.declared.outcome.Outcome.{Outcome}
use Rattle.ips_report.specs.declared.outcome.Outcome.TheVariants as outcome
use Rattle.ips_tell.specs.telling.Finishing.{IsToldFor}
use Rattle.ips_words.specs.Command.{IsUsage}
use Rattle.ips_words.specs.declared.command.Command.{Command}
use Rattle.ips_words.specs.declared.what.What.{What}
use Rattle.ips_words.specs.declared.what.What.TheVariants as what
use Rattle.ips_words.specs.declared.what.Usage.{Usage}
use Rattle.ips_kinds.specs.Tallies.{Carrier}
use Rattle.ips_showing.specs.Asked.{asked_by}
use Rattle.ips_operations.specs.creating.Creations.{creating_at}
use Rattle.ips_operations.specs.fixing.Fixes.{fixing_at}
use Rattle.ips_trial.specs.Generated.{IsTried}
use Rattle.ips_trial.specs.Generated as trial
use Rattle.ips_operations.specs.changing.Commands.{CommandAt, changing_at, is_changing}
use Rattle.ips_operations.specs.changing.Decides.{Decides, asked_of}
use Rattle.ips_operations.specs.changing.Leads.{LeadsWhere}
use Rattle.ips_tell.specs.performing.Performed.{At, IsPerformed}
use Rattle.ips_top.specs.Runs.{Does, IsAnswered, Runs, is_answered, Changes, Misworded, Starved}

module _ {F S P : Type 0} (o : Outside F) (q : Outside S) (r : Running P) (old new : At F S P) (told : Outcome) where
  -- A changing command at a moment is carried out as that command.
  pub changes_so : (c : Command) (moment : ℕ) (a : CommandAt) → Some a ≡ changing_at c moment
      → IsPerformed o q r effect.Changes (λ tells repository t d. Decides (asked_of a.command a.moment tells repository t) d) (λ tells repository before after. LeadsWhere a.command a.moment tells repository before after) old new told
      → Does o q r c moment old new told
  changes_so c moment a is performed =
      let known = cond_some (is_changing c.what) (record { command = c; moment = moment }) a (sym is) in
      Changes known.0 (subst (λ (x : CommandAt). IsPerformed o q r effect.Changes (λ tells repository t d. Decides (asked_of x.command x.moment tells repository t) d) (λ tells repository before after. LeadsWhere x.command x.moment tells repository before after) old new told) (sym known.1) performed)

-- Words that are no command are told so, unless memory for that is wanted.
pub misworded : {F S P : Type 0} (o : Outside F) (q : Outside S) (r : Running P) (words : List (List ℕ)) (moment : ℕ) (here : At F S P) (told : Outcome) (u : Usage)
    → IsUsage words u → IsToldFor (outcome.Usage u.place u.why) told → Runs o q r words moment here here told
misworded o q r words moment here told u is (inl same) = Misworded u is same refl
misworded o q r words moment here told u is (inr early) = Starved early.1 refl

-- ---- what doesn't go by the image

-- A trial is told, unless memory for that is wanted.
pub tried_told : (n : ℕ) (old new : List Carrier) (o told : Outcome) → IsTried n old new o → IsToldFor o told → IsTried n old new told
tried_told n old new o told tried (inl same) = subst (IsTried n old new) (sym same) tried
tried_told n old new o told tried (inr early) = subst (IsTried n old new) (sym early.1) trial.Starved

-- So is an answer.
pub answer_told : (w : What) (o told : Outcome) → is_answered w ≡ true → IsAnswered w o → IsToldFor o told → IsAnswered w told
answer_told w o told asks answered (inl same) = subst (IsAnswered w) (sym same) answered
answer_told w o told asks answered (inr early) = subst (IsAnswered w) (sym early.1) asks

-- A command that neither shows, changes, makes nor repairs an image, and makes no trial, asks for the help or the version.
pub others_answer : (w : What) (history : List ℕ) (moment : ℕ) → let c : Command = record { what = w; history = history } in asked_by w ≡ None → None ≡ changing_at c moment → None ≡ creating_at c moment → None ≡ fixing_at c moment
    → ((n : ℕ) → w ≡ what.Gen n → ⊥) → is_answered w ≡ true
others_answer (what.Help command) history moment shows changes makes mends tries = refl
others_answer what.Version history moment shows changes makes mends tries = refl
others_answer (what.Gen n) history moment shows changes makes mends tries = absurd (tries n refl)
others_answer w history moment shows changes makes mends tries = cc
