use Rattle.std.proofs.Common.{rules, ◌∙◌, ap}
use Rattle.std.specs.Option.{option_map}
use Rattle.ips_outside.specs.Outside.{readable}
use Rattle.ips_change.specs.survey.Rows.{row_pair}
use Rattle.ips_aside.specs.sides.Sides.{side_put}
use Rattle.ips_aside.proofs.sides.Beside.{by_row, legacy_beside, old_beside}
use Rattle.ips_aside.proofs.sides.putting.put_beside.Goals as goal

pub returns-in-Some-Old : goal.returns-in-Some-Old
returns-in-Some-Old c = λ r t own looked.
    let row = c.args.row.now in
    let e = t.look row.path.now.bytes in
    ap (option_map (side_put r.bytes (readable e))) (search rules)
    ∙ old_beside r (row_pair row).was (row_pair row).wanted e row.stands looked (rw c.in-Some-Old.field-0-is at (c.in-Some-Old.ensures.told r e looked)) ∙ by_row r t row own

pub returns-in-Some-Legacy : goal.returns-in-Some-Legacy
returns-in-Some-Legacy c = λ r t own looked.
    let row = c.args.row.now in
    let e = t.look row.path.now.bytes in
    ap (option_map (side_put r.bytes (readable e))) (search rules)
    ∙ legacy_beside r (row_pair row).was (row_pair row).wanted e row.stands looked (rw c.in-Some-Legacy.field-0-is at (c.in-Some-Legacy.ensures.told r e looked)) ∙ by_row r t row own

pub returns-in-Some-New : goal.returns-in-Some-New
returns-in-Some-New c = λ r t own looked.
    let row = c.args.row.now in
    let e = t.look row.path.now.bytes in
    c.wanted_file.ensures r.bytes (readable e) ∙ (rw c.in-Some-New.field-0-is at (c.in-Some-New.ensures.told r e looked)) ∙ by_row r t row own

pub returns-in-None : goal.returns-in-None
returns-in-None c = λ r t own looked.
    let row = c.args.row.now in
    c.in-None.ensures.told r (t.look row.path.now.bytes) looked ∙ by_row r t row own
