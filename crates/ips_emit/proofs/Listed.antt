-- The next of steps that a journal lists.
use Rattle.std.proofs.Common.{◌≡◌, ℕ, ◌+◌, ◌<◌, List, [], ◌∷◌, ◌++◌, map, take, drop, sym, ap, ◌∙◌, subst}
use Rattle.std.proofs.lemmas.List.{map-append, take-append-drop}
use Rattle.ips_steps.specs.declared.step.Step as program
use Rattle.ips_steps.specs.Journal.{IsJournal}
use Rattle.ips_steps.specs.Steps.{Step}
use Rattle.ips_steps.specs.View.{step_of}
use Rattle.ips_journal.specs.Reading.{puts_in}
use Rattle.ips_journal.proofs.Journals.{IsNext, journal_front, journal_last}

abbrev pub IsByte : ℕ → Type 0
IsByte b = b < 256

pub next_listed : (steps : List program.Step) (i : ℕ) (s : Step) → map step_of (take (i + 1) steps) ≡ map step_of (take i steps) ++ s ∷ [] → IsJournal (map step_of steps) → IsNext (puts_in (map step_of (take i steps))) s
next_listed steps i s more journal =
    let whole : map step_of (take (i + 1) steps) ++ map step_of (drop (i + 1) steps) ≡ map step_of steps = sym (map-append step_of (take (i + 1) steps) (drop (i + 1) steps)) ∙ ap (map step_of) (take-append-drop (i + 1) steps) in
    journal_last (map step_of (take i steps)) s (subst IsJournal more (journal_front (map step_of (take (i + 1) steps)) (map step_of (drop (i + 1) steps)) (subst IsJournal (sym whole) journal)))
