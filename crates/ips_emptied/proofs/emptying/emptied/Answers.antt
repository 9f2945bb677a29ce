use Rattle.std.proofs.Common.{Bool, List, length, sym, ◌∙◌, ap, subst, Ok, Err}
use Rattle.std.specs.Prelude.{IfOk, Result}
use Rattle.std.proofs.lemmas.Result.{IfOk-weaker}
use Rattle.ips_after.specs.After.{change_settled}
use Rattle.ips_after.specs.Change.{replaces}
use Rattle.ips_after.proofs.Sorted.{sorted_once}
use Rattle.ips_change.specs.Told.{naming}
use Rattle.ips_change.specs.declared.survey.row.Row.{Row}
use Rattle.ips_change.specs.survey.Marks.{IsMarkOf, row_paths}
use Rattle.ips_change.proofs.survey.Placed.{count}
use Rattle.ips_emptied.specs.Emptying.{AreAnswers, marked_in}
use Rattle.ips_emptied.proofs.Asked.{all_right}
use Rattle.ips_emptied.proofs.Placed.{marks_are}
use Rattle.ips_emptied.proofs.emptying.emptied.Goals as goal

pub returns-clause-marks : goal.returns-clause-marks
returns-clause-marks g c =
    let rows = c.args.table.now.rows.items in
    let paths = row_paths rows in
    IfOk-weaker c.ask_all.result _ (λ emptied. IsMarkOf (marked_in paths emptied.items) paths emptied.items)
    (λ emptied long. marks_are paths emptied.items (long ∙ ap length c.deref.ensures.value ∙ sym (count rows)) (sorted_once paths c.requires.order)) c.ask_all.ensures.long

pub returns-clause-found : goal.returns-clause-found
returns-clause-found g c = λ told.
    both_ok c.ask_all.result _ _ _ (λ emptied long right r good table are supports.
    let rows = c.args.table.now.rows.items in
    let paths = row_paths rows in
    let t = (g.F.Source.outside.state c.args.folder.now).held in
    let test : List _ → Bool = λ p. replaces (change_settled (naming r) t p) in
    let answers = subst (λ (l : List Row). AreAnswers t l c.deref-2.result.now c.deref-3.result.now emptied.items) c.deref.ensures.value right in
    let marks = subst (IsMarkOf test paths) (sym c.deref-3.ensures.value) (c.in_ok-replaced.ensures.marks r t good table are) in
    let candidates = c.deref-2.ensures.value ∙ c.in_ok-candidates.ensures.told r t good table are supports in
    all_right r t rows c.args.table.now.said.items good (g.met.F.Source.sane.formed c.args.folder.now told) table emptied.items (long ∙ ap length c.deref.ensures.value ∙ sym (count rows))
    (answers r c.args.table.now.said.items good table marks candidates)) c.ask_all.ensures.long (c.ask_all.ensures.found told)
  where
    both_ok : {X E : Type 0} (r : Result X E) (P Q R : X → Type 0) → ((x : X) → P x → Q x → R x) → IfOk r P → IfOk r Q → IfOk r R
    both_ok (Ok x) P Q R f p q = f x p q
    both_ok (Err e) P Q R f p q = tt
