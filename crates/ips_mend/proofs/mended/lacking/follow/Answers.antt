use Rattle.std.proofs.Common.{◌<◌, List, length, map, take, take_all, ◌∙◌, ap, arith}
use Rattle.ips_after.specs.Repaired.{mended}
use Rattle.ips_change.specs.Told.{change_told}
use Rattle.ips_change.specs.declared.survey.row.Row.{Row}
use Rattle.ips_change.specs.survey.Marks.{row_paths}
use Rattle.ips_links.proofs.Linked.{all_here, told_here}
use Rattle.ips_mend.specs.mended.Mending.{IsRowFor, links_among}
use Rattle.ips_mend.proofs.mended.Linking.{links_more}
use Rattle.ips_mend.proofs.mended.lacking.follow.Goals as goal

pub loop-i-preserved : goal.loop-i-preserved
loop-i-preserved c =
    let rows = c.args.rows.now in
    let i = c.loop-i.i in
    let row = c.index-rows-i.result in
    let own = c.index-own-i.result in
    let lt : i < length rows = c.loop-i-test.true in
    let within : i < length c.args.own.now = omega (arith, lt, c.requires.own) in
    record {
      long = c.add.auto.led ∙ c.loop-i.invariant.long;
      so_far = λ f t are by.
          c.add.ensures f.bytes (links_among f t (row_paths (take i rows))) (c.loop-i.invariant.so_far f t are by)
          ∙ links_more f t rows i row (change_told f.bytes own) (row_paths rows) lt c.index-rows-i.is (all_here (IsRowFor f.want) rows i row lt c.index-rows-i.is are.entries)
          (told_here (change_told f.bytes) (mended f t) c.args.own.now rows i own row by within c.index-own-i.is lt c.index-rows-i.is);
    }

pub returns : goal.returns
returns c = λ f t are by.
    let rows = c.args.rows.now in
    c.loop-i.invariant.so_far f t are by
    ∙ ap (λ (l : List Row). map (links_among f t (row_paths l)) (row_paths rows)) (take_all c.loop-i.i rows (omega (arith, c.loop-i-test.false)))
