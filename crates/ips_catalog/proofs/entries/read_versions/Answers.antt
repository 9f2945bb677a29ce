use Rattle.std.proofs.Common.{◌+◌, drop, Result, Ok, ap, sym, ◌∙◌, List}
use Rattle.std.proofs.lemmas.Result.{err_from_is_err_and}
use Rattle.ips_catalog.specs.Outline.{entry_data, entries_data}
use Rattle.ips_text.specs.Reading.{◌>>=◌}
use Rattle.ips_fmri.specs.Version.{Parts}
use Rattle.ips_catalog.specs.declared.fault.CatalogFault.{CatalogFault}
use Rattle.ips_catalog.specs.Reading.{entry_at, versions_at}
use Rattle.ips_catalog.proofs.Walks.{fails_then, entry_first, entries_end}
use Rattle.ips_catalog.proofs.entries.read_versions.Goals as goal

pub returns-in_err-add_entry : goal.returns-in_err-add_entry
returns-in_err-add_entry c =
    let p = err_from_is_err_and c.from_residual.result c.from_residual.ensures.1 in
    let publisher = c.args.publisher.now in
    let stem = c.args.stem.now in
    let entries = c.args.entries.now in
    let index = c.loop-index.index in
    let entry = c.index-entries-index.result in
    let before = c.loop-index.versions.keys in
    rw (p.1, p.2, c.loop-index.invariant, entry_first publisher stem index before entries entry c.loop-index-test.true c.index-entries-index.is)
    (fails_then c.in_err-add_entry.field-0.0 (entry_at publisher stem index before (entry_data entry)) (λ (versions : List Parts). versions_at publisher stem (index + 1) versions (entries_data (drop (index + 1) entries))) c.in_err-add_entry.ensures)

pub loop-index-preserved : goal.loop-index-preserved
loop-index-preserved c =
    let publisher = c.args.publisher.now in
    let stem = c.args.stem.now in
    let entries = c.args.entries.now in
    let index = c.loop-index.index in
    c.loop-index.invariant
    ∙ entry_first publisher stem index c.loop-index.versions.keys entries c.index-entries-index.result c.loop-index-test.true c.index-entries-index.is
    ∙ ap (λ (r : Result (List Parts) CatalogFault). r >>= λ versions. versions_at publisher stem (index + 1) versions (entries_data (drop (index + 1) entries))) c.in_ok-add_entry.ensures

pub returns : goal.returns
returns c =
    c.loop-index.invariant
    ∙ entries_end c.args.publisher.now c.args.stem.now c.loop-index.index c.loop-index.versions.keys c.args.entries.now c.loop-index-test.false
    ∙ ap (λ (vs : List Parts). Ok vs) (sym c.in_ok-listed.ensures)
