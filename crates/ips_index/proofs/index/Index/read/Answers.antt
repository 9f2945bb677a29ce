use Rattle.std.proofs.Common.{◌∙◌, sym, ap, List, Ok, IfOk, rules}
use Rattle.ips_text.specs.Reading.{IfBad}
use Rattle.ips_records.specs.Lines.{lines_in, IsFirstBadLine}
use Rattle.ips_index.specs.Text.{IsIndexText, IsIndexFile}
use Rattle.ips_index.specs.Rows.{IndexedValue}
use Rattle.ips_index.proofs.Listed.{kept_listed}
use Rattle.ips_index.proofs.IndexFiles.{read_back, rows_one}
use Rattle.ips_index.proofs.index.Index.read.Goals as goal

pub returns-in_err-rows-clause-back : goal.returns-in_err-rows-clause-back
returns-in_err-rows-clause-back c =
    let good : IfOk c.from_residual.result (λ rows. IsIndexText rows c.args.bytes.now) = search rules in
    let bad : IfBad c.from_residual.result (λ fault. IsFirstBadLine IsIndexFile (lines_in c.args.bytes.now) fault.line) = search rules in
    read_back c.args.bytes.now c.from_residual.result good bad

pub invariant_of-result : goal.invariant_of-result
invariant_of-result c = kept_listed c.in_ok-rows.rows c.in_ok-stems.stems c.in_ok-rows.ensures.rows.0 c.in_ok-stems.ensures

pub returns-clause-back : goal.returns-clause-back
returns-clause-back c = λ rows is. ap (λ (l : List IndexedValue). Ok l) (rows_one rows c.in_ok-rows.rows.keys is.0 c.in_ok-rows.ensures.rows.0 (sym is.1 ∙ c.in_ok-rows.ensures.rows.1))
