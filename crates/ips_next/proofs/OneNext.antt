-- The next state is one.
use Rattle.std.proofs.Common.{◌≡◌, ℕ, ◌+◌, ◌*◌, Bool, true, false, List, ◌∷◌, ◌++◌, Option, Some, None, sym, ap, subst, ◌∙◌}
use Rattle.std.specs.Prelude.{unsigned_abs}
use Rattle.std.specs.Option.{is_some}
use Rattle.jiff_core.specs.declared.civil.datetime.DateTime.{DateTime}
use Rattle.jiff_core.specs.DateTime.{civil_nanos}
use Rattle.jiff_core.proofs.DateLemmas.{epoch_day_injective}
use Rattle.jiff_core.proofs.DateTimeLemmas.{civil_nanos_injective, time_nanos_injective}
use Rattle.ips_fmri.specs.Version.{stamp_text}
use Rattle.ips_index.specs.Rows.{IndexedValue}
use Rattle.ips_index.proofs.InSets.{same_rows}
use Rattle.ips_moment.specs.Moment.{IsMomentText, stamp_number}
use Rattle.ips_state.specs.State.{Installed, Recorded}
use Rattle.ips_state.specs.Records.{with_line}
use Rattle.ips_asked.proofs.One.{asked_one}
use Rattle.ips_next.specs.Decided.{IsDecided}
use Rattle.ips_next.specs.Next.{ChangesNothing, Given, IsIndexed, IsIndexOf, IsLineOf, IsNext, IsSettled, IsUnchanged, is_index_due}
use Rattle.ips_next.proofs.OneDecided.{decided_one}

-- ---- the line

-- a clock shows a moment in one way
clock_one : (a b : DateTime) → civil_nanos a ≡ civil_nanos b → stamp_number a ≡ stamp_number b
clock_one a b same =
    let parts = civil_nanos_injective a b same in
    let date = epoch_day_injective a.date b.date parts.0 in
    let time = time_nanos_injective a.time b.time parts.1 in
    λ i. (unsigned_abs (date.0 i) * 10_000 + date.1 i * 100 + date.2 i) * 1_000_000 + (time.0 i * 10_000 + time.1 i * 100 + time.2 i)

pub moment_one : (moment : ℕ) (a b : List ℕ) → IsMomentText moment a → IsMomentText moment b → a ≡ b
moment_one moment a b x y = x.written ∙ ap stamp_text (clock_one x.clock y.clock (x.shown ∙ sym y.shown)) ∙ sym y.written

pub line_one : (moment : ℕ) (words a b : List ℕ) → IsLineOf moment words a → IsLineOf moment words b → a ≡ b
line_one moment words a b (s, x, at) (t, y, is) = at ∙ ap (λ (l : List ℕ). l ++ 32 ∷ words) (moment_one moment s t x y) ∙ sym is

-- ---- the index

rows_one : (packages : List Installed) (a b : List IndexedValue) → IsIndexOf packages a → IsIndexOf packages b → a ≡ b
rows_one packages a b x y =
    same_rows (record { keys = a }) (record { keys = b }) x.scan.ascend y.scan.ascend
    (λ row. (λ h. (y.scan.each row).1 ((x.scan.each row).0 h), λ h. (x.scan.each row).1 ((y.scan.each row).0 h)))

index_one : (due : Bool) (packages : List Installed) (a b : Option (List IndexedValue)) → IsIndexed due packages a → IsIndexed due packages b → a ≡ b
index_one true packages None b x y = absurd x
index_one true packages (Some rows) None x y = absurd y
index_one true packages (Some rows) (Some others) x y = ap (λ (r : List IndexedValue). Some r) (rows_one packages rows others x y)
index_one false packages a b x y = x ∙ sym y

-- ---- all of it

-- what is meant before the history is one
settled_one : (g : Given) (asked other s t : Recorded) → IsSettled g asked s → IsSettled g other t → s ≡ t
settled_one g asked other s t x y =
    let same = asked_one g.what g.old asked other x.asks.is_asked y.asks.is_asked in
    let decided = decided_one g.what g.old other g.held s.installed t.installed s.avoid t.avoid (subst (λ (a : Recorded). IsDecided g.what g.old a g.held s.installed s.avoid) same x.decided) y.decided in
    let due = is_index_due g.what (is_some g.old.index) in
    let index = index_one due t.installed s.index t.index (subst (λ (ps : List Installed). IsIndexed due ps s.index) decided.0 x.index) y.index in
    x.rest ∙ (λ i. record (same i) { installed = decided.0 i; avoid = decided.1 i; index = index i }) ∙ sym y.rest

-- the next state is one
pub next_one : (g : Given) (a b : Recorded) → IsNext g a → IsNext g b → a ≡ b
next_one g a b x y =
    let settled = settled_one g x.asked y.asked x.settled y.settled x.is_settled y.is_settled in
    let line = line_one g.moment g.words x.line y.line x.is_line y.is_line in
    x.is ∙ (λ i. record (settled i) { history = with_line (settled i).history (line i) }) ∙ sym y.is

-- and where there is one, the command changes something
pub next_changes : (g : Given) (new : Recorded) → IsNext g new → ChangesNothing g → ⊥
next_changes g new x none = x.changed (subst (IsUnchanged g.old) (settled_one g none.asked x.asked none.settled x.settled none.is_settled x.is_settled) none.unchanged)
