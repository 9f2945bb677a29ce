use Rattle.std.proofs.Common.{◌≡◌, Bool, List, ℕ, map, sym, subst}
use Rattle.std.proofs.lemmas.Result.{IfOk-weaker}
use Rattle.ips_after.specs.After.{change_settled}
use Rattle.ips_after.specs.Change.{makes}
use Rattle.ips_change.specs.Told.{naming}
use Rattle.ips_change.specs.declared.survey.row.Row.{Row}
use Rattle.ips_change.specs.survey.Marks.{IsMarkOf, holds_below, row_paths}
use Rattle.ips_emptied.proofs.candidates.made_below.Goals as goal

pub returns-clause-told : goal.returns-clause-told
returns-clause-told c = IfOk-weaker c.marked_below.result _ _ (λ below marks r t good table are.
    let rows = c.args.table.now.rows.items in
    let paths = row_paths rows in
    let made : List ℕ → Bool = λ q. makes (change_settled (naming r) t q) in
    let seen = subst (λ (l : List Row). IsMarkOf made (row_paths l) c.deref-2.result.now) (sym c.deref.ensures.value)
    (subst (λ (l : List Bool). IsMarkOf made paths l) (sym c.deref-2.ensures.value) (c.in_ok-made.ensures.marks r t good table are)) in
    subst (λ (l : List Row). below.items ≡ map (holds_below made (row_paths l)) (row_paths l)) c.deref.ensures.value (marks made seen)) c.marked_below.ensures.below
