use Rattle.std.proofs.Common.{◌<◌, ◌∷◌, [], List, length, map, take_all, ◌∙◌, ap, arith}
use Rattle.std.proofs.lemmas.List.{map-append}
use Rattle.ips_after.specs.Repaired.{mended}
use Rattle.ips_change.specs.Fitting.{Fits}
use Rattle.ips_change.specs.Told.{change_told}
use Rattle.ips_change.specs.declared.survey.row.Row.{Row}
use Rattle.ips_change.specs.survey.Rows.{row_pair}
use Rattle.ips_links.proofs.Fitted.{fit_more}
use Rattle.ips_links.proofs.Linked.{all_here, at_path, by_rows, one_more, row_more}
use Rattle.ips_verify.specs.Verified.{damage_told, finding_told}
use Rattle.std.specs.Option.{option_map}
use Rattle.ips_mend.specs.mended.Mending.{IsRowFor}
use Rattle.ips_mend.specs.mended.Merging.{damage_next}
use Rattle.ips_mend.proofs.mended.Merged.{goes, mended_here}
use Rattle.ips_mend.proofs.mended.listing.mended.Goals as goal

pub loop-i-preserved : goal.loop-i-preserved
loop-i-preserved c =
    let rows = c.args.rows.now in
    let i = c.loop-i.i in
    let row = c.index-rows-i.result in
    let p = row.path.now.bytes in
    let there = c.index-rows-i.is in
    let lt : i < length rows = c.loop-i-test.true in
    let left = map finding_told c.loop-i.left.now in
    record {
      long = one_more c.loop-i.own.items c.push.new.self.items c.remedy.result i c.in_ok-push.ensures.items c.loop-i.invariant.long;
      left = λ f t are found. c.next-damage.ensures.left ∙ (goes f t rows i row left lt there c.requires.order (c.loop-i.invariant.left f t are found)).rest;
      so_far = λ f t are found.
          let next = goes f t rows i row left lt there c.requires.order (c.loop-i.invariant.left f t are found) in
          let here = c.remedy.ensures.told f.bytes
          ∙ mended_here f t p (row_pair row).wanted (option_map damage_told c.next-damage.result.0) (damage_next p left) (all_here (IsRowFor f.want) rows i row lt there are.entries) c.next-damage.ensures.damage next.damage in
          ap (map (change_told f.bytes)) c.in_ok-push.ensures.items ∙ map-append (change_told f.bytes) c.loop-i.own.items (c.remedy.result ∷ [])
          ∙ row_more (mended f t) rows i row (map (change_told f.bytes) c.loop-i.own.items) (change_told f.bytes c.remedy.result) lt there (c.loop-i.invariant.so_far f t are found) here;
      fit = fit_more Fits rows c.loop-i.own.items c.push.new.self.items i row c.remedy.result c.in_ok-push.ensures.items c.loop-i.invariant.long there c.remedy.ensures.fits c.loop-i.invariant.fit;
    }

pub returns-clause-told : goal.returns-clause-told
returns-clause-told c = λ f t are found.
    let rows = c.args.rows.now in
    c.loop-i.invariant.so_far f t are found
    ∙ ap (λ (l : List Row). map (at_path (mended f t)) l) (take_all c.loop-i.i rows (omega (arith, c.loop-i-test.false)))
    ∙ by_rows (mended f t) rows
