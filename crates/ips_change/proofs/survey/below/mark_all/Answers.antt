use Rattle.std.proofs.Common.{◌≡◌, ◌<◌, ℕ, List, length, take, [], Some, slice_get, sym, ◌∙◌, ap, subst}
use Rattle.std.proofs.lemmas.Option.{slice_get-get_or}
use Rattle.ips_change.specs.declared.survey.row.Row.{Row}
use Rattle.ips_change.specs.survey.Marks.{holds_below, row_paths}
use Rattle.ips_change.proofs.survey.Marking.{below_more, mark_there}
use Rattle.ips_change.proofs.survey.Placed.{count, path_at}
use Rattle.ips_change.proofs.survey.below.mark_all.Goals as goal

pub loop-i-preserved : goal.loop-i-preserved
loop-i-preserved c =
    let rows = c.args.rows.now in
    let paths = row_paths rows in
    let i = c.loop-i.i in
    let path = c.bytes.result.now in
    let within : i < length paths = subst (λ (n : ℕ). i < n) (sym (count rows)) c.loop-i-test.true in
    let there : slice_get paths i ≡ Some path =
    slice_get-get_or paths i [] within ∙ ap (λ (p : List ℕ). Some p) (path_at rows i c.index-rows-i.result c.loop-i-test.true c.index-rows-i.is ∙ ap (λ (row : Row). row.path.now.bytes) c.index-rows-i.is ∙ sym c.bytes.ensures.value) in
    record {
      long = c.add.auto.found ∙ c.loop-i.invariant.long;
      marked = λ test mark. c.add.ensures (holds_below test (take i paths)) (c.loop-i.invariant.marked test mark)
          ∙ below_more test paths i path _ there (mark_there test paths c.args.marks.now i path _ mark.are there);
    }
