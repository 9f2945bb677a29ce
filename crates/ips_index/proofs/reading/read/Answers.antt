use Rattle.std.proofs.Common.{◌<◌, ◌^◌, length, subst, List, inl, inr, arith, rules}
use Rattle.std.specs.Prelude.{Contains}
use Rattle.ips_records.specs.Lines.{lines_in}
use Rattle.ips_records.specs.Listed.{IsListed}
use Rattle.ips_index.specs.Rows.{IndexedValue, row_line}
use Rattle.ips_index.specs.Text.{IsRow, StandsBefore}
use Rattle.ips_index.proofs.Growing.{none_there}
use Rattle.ips_index.proofs.IndexFiles.{bad_head, bad_rows, low_number, read_rows}
use Rattle.ips_index.proofs.reading.read.Goals as goal

pub returns-in_default-clause-bad : goal.returns-in_default-clause-bad
returns-in_default-clause-bad c = bad_head (lines_in c.args.bytes.now) c.in_default.ensures.none

pub overflow_add-result : goal.overflow_add-result
overflow_add-result c =
    let low = low_number (IsListed row_line IsRow StandsBefore) c.in-Some.rest.now c.in-Err-Bad.line (rw c.in-Err-Bad.field-0-is at c.in-Err-Bad.ensures.bad) in
    let room : length c.args.bytes.now < 2 ^ 64 = search rules in
    rw c.in-Err-Bad.field-0-is (omega (arith, low, room, c.in-Some.ensures.shorter))

pub returns-in_ok-insert_all-in-Ok-clause-rows : goal.returns-in_ok-insert_all-in-Ok-clause-rows
returns-in_ok-insert_all-in-Ok-clause-rows c =
    read_rows c.args.bytes.now c.in-Some.rest.now c.in-Ok.list.items c.insert_all.new.set c.in-Some.ensures.some c.in-Ok.ensures.sole c.in-Ok.ensures.chain c.in-Ok.ensures.lines (c.insert_all.ensures.order c.new-rows.ensures.ordered)
    (λ row. (
      λ h. elim (c.insert_all.ensures.only row h) [ inl had ↦ absurd (none_there row (subst (λ (l : List IndexedValue). Contains l row) c.new-rows.ensures.empty had)) | inr one ↦ one ],
      λ h. c.in_ok-insert_all-in-Ok.ensures.all row h,
    ))

pub returns-in-Err-Bad-clause-bad : goal.returns-in-Err-Bad-clause-bad
returns-in-Err-Bad-clause-bad c =
    rw c.in-Err-Bad.field-0-is (bad_rows (lines_in c.args.bytes.now) (lines_in c.in-Some.rest.now) c.in-Err-Bad.line c.in-Some.ensures.some (rw c.in-Err-Bad.field-0-is at c.in-Err-Bad.ensures.bad))
