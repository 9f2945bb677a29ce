use Rattle.std.proofs.Common.{◌<◌, ◌∷◌, [], ℕ, false, List, Bool, length, map, take_all, sym, ◌∙◌, ap, subst, arith}
use Rattle.std.proofs.lemmas.List.{map-append}
use Rattle.ips_after.specs.Change.{Change}
use Rattle.ips_after.specs.Repaired.{is_relaid, mended, relinked_as}
use Rattle.ips_change.specs.Fitting.{Fits}
use Rattle.ips_change.specs.Told.{change_told}
use Rattle.ips_change.specs.declared.survey.row.Row.{Row}
use Rattle.ips_change.specs.survey.Marks.{IsMarkOf, row_paths}
use Rattle.ips_links.proofs.Fitted.{fit_here, fit_more}
use Rattle.ips_links.proofs.Linked.{all_here, at_path, at_row, by_rows, one_more, row_more, told_here}
use Rattle.ips_mend.specs.mended.Mending.{IsRowFor, lacks}
use Rattle.ips_mend.proofs.mended.relinking.relinked.Goals as goal

pub loop-i-preserved : goal.loop-i-preserved
loop-i-preserved c =
    let rows = c.args.rows.now in
    let i = c.loop-i.i in
    let row = c.index-rows-i.result in
    let there = c.index-rows-i.is in
    let own = c.index-own-i.result in
    let lt : i < length rows = c.loop-i-test.true in
    let within : i < length c.args.own.now = omega (arith, lt, c.requires.own) in
    record {
      long = one_more c.loop-i.changes.items c.push.new.self.items c.relinked_at.result i c.in_ok-push.ensures.items c.loop-i.invariant.long;
      so_far = λ f t good are by marks.
          let what : List ℕ → Change = λ p. relinked_as f t p (f.want.at p) in
          let seen = subst (λ (l : List Bool). IsMarkOf (is_relaid f t) (row_paths rows) l) (sym c.deref.ensures.value) (c.in_ok-relaid.ensures.marks f t good are by marks) in
          let here = c.relinked_at.ensures.told f t (all_here (IsRowFor f.want) rows i row lt there are.entries)
          (told_here (change_told f.bytes) (mended f t) c.args.own.now rows i own row by within c.index-own-i.is lt there)
          (at_row (lacks f t) c.args.lacking.now rows i row false marks lt there) seen in
          ap (map (change_told f.bytes)) c.in_ok-push.ensures.items ∙ map-append (change_told f.bytes) c.loop-i.changes.items (c.relinked_at.result ∷ [])
          ∙ row_more what rows i row (map (change_told f.bytes) c.loop-i.changes.items) (change_told f.bytes c.relinked_at.result) lt there (c.loop-i.invariant.so_far f t good are by marks) here;
      fit = λ fit. fit_more Fits rows c.loop-i.changes.items c.push.new.self.items i row c.relinked_at.result c.in_ok-push.ensures.items c.loop-i.invariant.long there
          (c.relinked_at.ensures.fits (fit_here Fits rows c.args.own.now i row own lt there within c.index-own-i.is fit)) (c.loop-i.invariant.fit fit);
    }

pub returns-clause-told : goal.returns-clause-told
returns-clause-told c = λ f t good are by marks.
    let rows = c.args.rows.now in
    let what : List ℕ → Change = λ p. relinked_as f t p (f.want.at p) in
    c.loop-i.invariant.so_far f t good are by marks
    ∙ ap (λ (l : List Row). map (at_path what) l) (take_all c.loop-i.i rows (omega (arith, c.loop-i-test.false)))
    ∙ by_rows what rows
