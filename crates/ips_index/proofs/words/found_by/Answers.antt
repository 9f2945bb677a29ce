use Rattle.std.proofs.Common.{◌≡◌, ◌&&◌, true, codes, rules}
use Rattle.std.proofs.lemmas.Str.{IsCharBoundary-start}
use Rattle.ips_action.specs.Attrs.{is_same}
use Rattle.ips_index.specs.Rows.{has_slash}
use Rattle.ips_index.specs.Entries.{index_name}
use Rattle.ips_index.proofs.Facts.{last_found}
use Rattle.ips_index.proofs.words.found_by.Goals as goal

pub returns-then-eq-clause-cut : goal.returns-then-eq-clause-cut
returns-then-eq-clause-cut c = IsCharBoundary-start c.args.value.now c.utf8.value

pub returns-then-eq-2-clause-found : goal.returns-then-eq-2-clause-found
returns-then-eq-2-clause-found c =
    let index = index_name c.args.place.0 c.args.place.1 in
    let slash : (is_same index (codes "path") && has_slash c.args.value.now) ≡ true = search rules in
    last_found index c.args.value.now c.last_part-last.result slash c.last_part-last.ensures.last
