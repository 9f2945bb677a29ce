-- The next state can be recorded.
use Rattle.std.proofs.Common.{◌≡◌, ℕ, zero, suc, ◌-◌, Bool, true, false, List, [], ◌∷◌, ◌++◌, drop, length, Option, Some, None, Vec, Global, IfSome, refl, sym, ap, subst, ◌∙◌}
use Rattle.std.specs.List.{AllByRecursion}
use Rattle.std.proofs.lemmas.Bool.{true≢false}
use Rattle.ips_text.proofs.Lists.{all_append}
use Rattle.ips_index.specs.Rows.{IndexedValue}
use Rattle.ips_index.specs.Text.{AreIndexRows}
use Rattle.ips_moment.specs.Moment.{stamp_number}
use Rattle.ips_records.specs.Form.{IsRequestLine}
use Rattle.ips_state.specs.State.{Installed, Recorded}
use Rattle.ips_state.specs.Lawful.{ArePackages, AreStems, IsLawful}
use Rattle.ips_state.specs.Records.{with_line}
use Rattle.ips_words.specs.declared.what.What.{What}
use Rattle.ips_words.specs.declared.what.What.TheVariants.{Avoid, Search, Unavoid}
use Rattle.ips_asked.specs.Formed.{CanBeKept, HasLine}
use Rattle.ips_next.specs.Decided.{chosen_over}
use Rattle.ips_next.specs.Next.{IsIndexed, IsLineOf, searches}

-- the words of a command that is no search stand in a line
pub words_there : (w : What) (words : List ℕ) → searches w ≡ false → HasLine w words → CanBeKept words
words_there (Search pattern) words other line = absurd (true≢false other)
words_there w words other line = line

-- the line of a command is one of the history
line_lawful : (moment : ℕ) (words line : List ℕ) → CanBeKept words → IsLineOf moment words line → IsRequestLine line
line_lawful moment words line kept (text, at, is) =
    subst IsRequestLine (sym (is ∙ ap (λ (t : List ℕ). t ++ 32 ∷ words) at.written)) (kept (stamp_number at.clock) at.stamp)

dropped : (P : List ℕ → Type 0) (n : ℕ) (lines : List (List ℕ)) → AllByRecursion P lines → AllByRecursion P (drop n lines)
dropped P zero lines all = all
dropped P (suc n) [] all = tt
dropped P (suc n) (line ∷ lines) all = dropped P n lines all.1

-- the history behind one more line
pub history_lawful : (moment : ℕ) (words : List ℕ) (old new : List (List ℕ)) → (line : List ℕ) × IsLineOf moment words line × (new ≡ with_line old line) → CanBeKept words → AllByRecursion IsRequestLine old → AllByRecursion IsRequestLine new
history_lawful moment words old new (line, is_line, is) are all =
    subst (AllByRecursion IsRequestLine) (sym is)
    (dropped IsRequestLine (length (old ++ line ∷ []) - 1000) (old ++ line ∷ []) (all_append IsRequestLine old (line ∷ []) all (line_lawful moment words line are is_line, tt)))

-- the rows of an index, where there is one
pub rows_lawful : (due : Bool) (packages : List Installed) (index : Option (List IndexedValue)) → IsIndexed due packages index → IfSome index AreIndexRows
rows_lawful true packages None is = absurd is
rows_lawful true packages (Some rows) is = is.each
rows_lawful false packages index is = subst (λ i. IfSome i AreIndexRows) (sym is) tt

-- the records that packages are chosen over
pub over_lawful : (w : What) (old asked : Recorded) → IsLawful old → IsLawful asked → IsLawful (chosen_over w old asked)
over_lawful (Avoid stems) old asked was lawful = was
over_lawful (Unavoid stems) old asked was lawful = was
over_lawful w old asked was lawful = lawful

-- they are those that are asked for, unless the command is about avoided stems alone
pub over_asked : (w : What) (old asked : Recorded) → ((stems : Vec (List ℕ) Global) → w ≡ Avoid stems → ⊥) → ((stems : Vec (List ℕ) Global) → w ≡ Unavoid stems → ⊥) → chosen_over w old asked ≡ asked
over_asked (Avoid stems) old asked not_avoid not_unavoid = absurd (not_avoid stems refl)
over_asked (Unavoid stems) old asked not_avoid not_unavoid = absurd (not_unavoid stems refl)
over_asked w old asked not_avoid not_unavoid = refl

-- what is asked, with other packages, avoided stems and index
pub settled_lawful : (asked s : Recorded) → IsLawful asked → ArePackages s.installed → AreStems s.avoid → IfSome s.index AreIndexRows → s ≡ record asked { installed = s.installed; avoid = s.avoid; index = s.index } → IsLawful s
settled_lawful asked s lawful packages stems rows is =
    subst IsLawful (sym is) (record {
      head = lawful.head;
      installed = packages;
      avoid = stems;
      freeze = lawful.freeze;
      mediators = lawful.mediators;
      history = lawful.history;
      index = rows;
    })

-- the same with another history
pub line_added : (s : Recorded) (history : List (List ℕ)) → IsLawful s → AllByRecursion IsRequestLine history → IsLawful (record s { history = history })
line_added s history lawful lines = record {
  head = lawful.head;
  installed = lawful.installed;
  avoid = lawful.avoid;
  freeze = lawful.freeze;
  mediators = lawful.mediators;
  history = lines;
  index = lawful.index;
}
