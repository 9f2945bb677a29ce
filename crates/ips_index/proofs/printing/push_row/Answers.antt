use Rattle.ips_text.specs.Quote.{quoted}
use Rattle.ips_action.specs.Kind.{kind_name}
use Rattle.std.specs.Prelude.{string_bytes}
use Rattle.ips_index.specs.Rows.{IndexedValue}
use Rattle.ips_index.proofs.RowLines.{line_written}
use Rattle.ips_index.proofs.printing.push_row.Goals as goal

pub returns : goal.returns
returns c =
    let row : IndexedValue = c.args.row.now in
    rw (c.in_ok-push_str-2.ensures.bytes, c.in_ok-push_word-3.ensures, c.in_ok-push_quoted-2.ensures, c.in_ok-push_str.ensures.bytes, c.in_ok-push_word-2.ensures, c.in_ok-push_word.ensures, c.in_ok-push_quoted.ensures, c.stem.ensures, c.value.ensures, c.kind_name.ensures, c.index.ensures, c.token.ensures)
    (line_written (string_bytes c.args.out.now) (quoted row.token) row.index (kind_name row.kind) (quoted row.value) row.stem)
