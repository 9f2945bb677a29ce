use Rattle.std.proofs.Common.{◌≡◌, ◌∙◌, sym, subst, rules}
use Rattle.ips_text.specs.Quote.{quoted}
use Rattle.ips_index.specs.Entries.{index_name}
use Rattle.ips_index.specs.Text.{HasIndex, IsRow}
use Rattle.ips_index.proofs.Facts.{row_is}
use Rattle.ips_index.proofs.RowLines.{no_token}
use Rattle.ips_index.proofs.reading.read_row.Goals as goal

pub returns-in_default-3-clause-none : goal.returns-in_default-3-clause-none
returns-in_default-3-clause-none c = λ row is s.
    let form : c.args.words.value.now ≡ quoted c.as_str-value.result.now = search rules in
    no_token (index_name c.in-Some.place.0 c.in-Some.place.1) c.as_str-value.result.now c.args.words.token.now row is (sym s.index ∙ c.in-Some.ensures.index) (sym s.value ∙ form) c.as_str-value.utf8 s.token (rw c.in_default-3.is at c.in_ok-token.ensures.none)

pub returns-clause-row : goal.returns-clause-row
returns-clause-row c =
    let kind = c.in-Some.place.0 in
    let index = index_name kind c.in-Some.place.1 in
    subst IsRow (sym c.in_ok-entry.ensures)
    (row_is c.as_str.result.now kind index c.as_str-value.result.now c.in-Some-3.token (search rules) (subst (HasIndex kind) c.in-Some.ensures.index c.in-Some.ensures.has) c.as_str-value.utf8 (rw c.in-Some-3.is at c.in_ok-token.ensures.cut) (rw c.in-Some-3.is at c.in_ok-token.ensures.found))
