use Rattle.std.proofs.Common.{◌≡◌, ◌+◌, ◌-◌, ◌<◌, ℕ, true, false, List, length, get_or, [], Some, slice_get, sym, ◌∙◌, ap, subst, arith, rules}
use Rattle.std.proofs.lemmas.List.{length-set}
use Rattle.std.proofs.lemmas.Option.{slice_get-get_or, slice_get_within}
use Rattle.ips_text.specs.Ancestry.{is_below}
use Rattle.ips_outside.specs.Image.{Image}
use Rattle.ips_outside.specs.State.{State}
use Rattle.ips_outside.proofs.Reading.{reads_then}
use Rattle.ips_after.proofs.Sorted.{sorted_downward}
use Rattle.ips_change.specs.content.Failing.{HasFailed}
use Rattle.ips_change.specs.Told.{naming}
use Rattle.ips_change.specs.survey.Rows.{IsRowOf}
use Rattle.ips_change.specs.survey.Marks.{row_paths}
use Rattle.ips_change.proofs.survey.Placed.{count, path_at}
use Rattle.ips_links.proofs.Linked.{all_here, at_row}
use Rattle.ips_emptied.specs.Emptying.{IsAnswer, IsEmptiedAt, is_candidate}
use Rattle.ips_emptied.proofs.Placed.{behind, set_more}
use Rattle.ips_emptied.proofs.emptying.ask.Goals as goal

pub loop-i-preserved : goal.loop-i-preserved
loop-i-preserved g c =
    let rows = c.args.rows.now in
    let paths = row_paths rows in
    let i = c.loop-i.i - 1 in
    let row = c.index-rows-i.result in
    let q = row.path.now.bytes in
    let o = g.F.Source.outside in
    let t = (o.state c.args.folder.now).held in
    let kept = ap (λ (s : State). s.held) c.loop-i.invariant.reads.kept in
    let lt : i < length rows = omega (arith, c.loop-i-test.true, c.loop-i.invariant.within) in
    let next : i + 1 ≡ c.loop-i.i = omega (arith, c.loop-i-test.true) in
    let within : i < length paths = subst (λ (n : ℕ). i < n) (sym (count rows)) lt in
    let there : slice_get paths i ≡ Some q = slice_get-get_or paths i [] within ∙ ap (λ (p : List ℕ). Some p) (path_at rows i row lt c.index-rows-i.is) in
    record {
      within = omega (arith, lt);
      long = length-set c.loop-i.emptied i c.in_ok-gone.gone ∙ c.loop-i.invariant.long;
      reads = reads_then o c.args.folder.now c.loop-i.folder c.ask_at.new.folder (HasFailed c.ask_at.result) _ c.loop-i.invariant.reads c.ask_at.ensures.reads (λ f. subst (λ (r : _). HasFailed r) c.in_ok-gone.was f) (λ f. absurd f);
      found = λ told r said good table marks are.
          let so_far = c.loop-i.invariant.found told r said good table marks are in
          let asked = subst (λ (u : Image). IsAnswer u rows c.args.replaced.now c.loop-i.emptied row (get_or c.args.candidates.now i false) c.in_ok-gone.gone) kept (c.in_ok-gone.ensures.found (c.loop-i.invariant.reads.call.same_kind ∙ told)) in
          let known : (k : ℕ) (p : List ℕ) → slice_get paths k ≡ Some p → is_below q p ≡ true → IsEmptiedAt (naming r) t p (get_or c.loop-i.emptied k false) =
          λ k p at up. so_far k p (let less = behind paths i k q p (sorted_downward paths table.order) there at up in omega (arith, less, next)) at in
          set_more (IsEmptiedAt (naming r) t) paths c.loop-i.emptied i c.loop-i.i q c.in_ok-gone.gone next (subst (λ (n : ℕ). i < n) (sym c.loop-i.invariant.long) lt) there so_far
          (asked r said good table (all_here (IsRowOf r) rows i row lt c.index-rows-i.is table.entries) marks (at_row (is_candidate (naming r) t paths) c.args.candidates.now rows i row false are lt c.index-rows-i.is) known);
    }

pub loop-i-init : goal.loop-i-init
loop-i-init g c =
    let rows = c.args.rows.now in
    record {
      within = omega arith;
      long = c.requires.emptied;
      reads = search rules;
      found = λ told r said good table marks are k p le there.
          let less = slice_get_within (row_paths rows) k p there in
          let long = count rows in
          absurd (omega (arith, less, long, le));
    }

pub returns-clause-found : goal.returns-clause-found
returns-clause-found g c = λ told r said good table marks are k p there. c.loop-i.invariant.found told r said good table marks are k p (omega (arith, c.loop-i-test.false)) there
