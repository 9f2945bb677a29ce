use Rattle.std.proofs.Common.{◌≡◌, ◌∙◌, ◌&&◌, true, sym, codes}
use Rattle.std.proofs.lemmas.Str.{IsCharBoundary-start}
use Rattle.ips_action.specs.Attrs.{is_same}
use Rattle.ips_index.specs.Rows.{has_slash}
use Rattle.ips_index.specs.Entries.{index_name}
use Rattle.ips_index.proofs.Facts.{row_is, whole_found, last_found}
use Rattle.ips_index.proofs.scanning.push_value.Goals as goal

pub push_row-requires : goal.push_row-requires
push_row-requires c = IsCharBoundary-start c.args.value.now c.utf8.value

pub returns-in_ok-push_row-2-clause-fit : goal.returns-in_ok-push_row-2-clause-fit
returns-in_ok-push_row-2-clause-fit c = λ fit.
    let index = index_name c.args.kind c.args.field in
    let slash : (is_same index (codes "path") && has_slash c.args.value.now) ≡ true = sym c.has_last.ensures ∙ c.if-has_last.true in
    c.in_ok-push_row-2.ensures.fit
    (row_is c.args.stem.now c.args.kind index c.args.value.now c.last_part.result c.requires.stem c.requires.index c.utf8.value c.last_part.ensures.cut (last_found index c.args.value.now c.last_part.result slash c.last_part.ensures.last))
    (c.in_ok-push_row.ensures.fit (row_is c.args.stem.now c.args.kind index c.args.value.now 0 c.requires.stem c.requires.index c.utf8.value (IsCharBoundary-start c.args.value.now c.utf8.value) (whole_found index c.args.value.now)) fit)
