use Rattle.std.proofs.Common.{◌≡◌, ℕ, List, subst}
use Rattle.ips_text.specs.Quote.{quoted}
use Rattle.ips_action.specs.Kind.{kind_name}
use Rattle.ips_records.specs.Listed.{Sole}
use Rattle.ips_records.proofs.Found.{found_some, found_none}
use Rattle.ips_index.specs.Rows.{IndexedValue, row_line}
use Rattle.ips_index.specs.Text.{IsRow, AreWords, Spell}
use Rattle.ips_index.proofs.RowLines.{row_sole, row_words, spelled_by}
use Rattle.ips_index.proofs.reading.RowsListing.read.Goals as goal

pub returns-in-Some-clause-sole : goal.returns-in-Some-clause-sole
returns-in-Some-clause-sole c = found_some c.read_row.result IsRow (Sole row_line IsRow) row_sole c.read_row.ensures.row

pub returns-in-Some-clause-none : goal.returns-in-Some-clause-none
returns-in-Some-clause-none c =
    let w = c.in-Some.words in
    found_none c.read_row.result ((row : IndexedValue) → IsRow row → Spell w.token.now w.index.now w.kind.now w.value.now w.stem.now row → ⊥) ((item : IndexedValue) → IsRow item → row_line item ≡ c.args.bytes.now → ⊥)
    (λ never item fits e. never item fits (spelled_by c.args.bytes.now w.token.now w.index.now w.kind.now w.value.now w.stem.now c.in-Some.ensures.some item fits e)) c.read_row.ensures.none

pub returns-in-None-clause-none : goal.returns-in-None-clause-none
returns-in-None-clause-none c = λ item fits e.
    c.in-None.ensures.none (quoted item.token) item.index (kind_name item.kind) (quoted item.value) item.stem (subst (λ (l : List ℕ). AreWords l (quoted item.token) item.index (kind_name item.kind) (quoted item.value) item.stem) e (row_words item fits))
