use Rattle.std.proofs.Common.{◌≡◌, ◌+◌, ◌++◌, ◌∷◌, [], ◌∙◌, List, ℕ, drop, get_or, false, string_bytes, append_assoc, ap, sym, arith}
use Rattle.std.proofs.lemmas.List.{drop_more}
use Rattle.ips_refute.specs.declared.nogoods.Reason.TheVariants.{Test}
use Rattle.ips_refute.specs.Text.{run_text}
use Rattle.ips_refute.proofs.InRuns.{ended_text, full_run, grows, grown_text, joined_runs, other_reason}
use Rattle.ips_refute.proofs.printing.push_runs.Goals as goal
use Rattle.ips_refute.proofs.printing.push_runs.Goals.{then-is_same+then-run-lt-MOST, else-is_same+in_ok-push_run+in_ok-push_str, else-is_same-via-then-is_same+else-run-lt-MOST, else-is_same-via-else-is_same}

pub loop-reason-preserved : goal.loop-reason-preserved
loop-reason-preserved c =
    let xs = c.args.others.now in
    let i = c.loop-reason.reason-index in
    let x = c.loop-reason.run.reason in
    let n = c.loop-reason.run.count in
    let y = get_or xs i (Test 0) in
    let ys = drop (i + 1) xs in
    let out = string_bytes c.loop-reason.out in
    let cut = ap (joined_runs x n) (sym (drop_more xs i (Test 0) c.loop-reason-test.true)) in
    elim c.if-is_same.branch [
      | then-is_same+then-run-lt-MOST w ↦
          rw (w.out-is, w.run-is) (
            ap (λ (l : List ℕ). out ++ l) (grown_text x n y ys (sym c.is_same.ensures ∙ w.if-is_same.true) w.if-run-lt-MOST.true ∙ cut) ∙ c.loop-reason.invariant.0,
            omega (arith, w.if-run-lt-MOST.true),
          )
      | else-is_same+in_ok-push_run+in_ok-push_str w ↦
          let ends = elim w.else-is_same.branch as (λ _. grows x n y ≡ false) [
            | else-is_same-via-then-is_same+else-run-lt-MOST v ↦ full_run x n y v.if-run-lt-MOST.false
            | else-is_same-via-else-is_same v ↦ other_reason x n y (sym c.is_same.ensures ∙ v.if-is_same.false)
          ] in
          let rest = joined_runs y 1 ys in
          let one = run_text c.loop-reason.run in
          rw (w.out-is, w.run-is, w.in_ok-push_str.ensures.bytes, w.in_ok-push_run.ensures) (
            append_assoc (out ++ one) (32 ∷ []) rest ∙ append_assoc out one (32 ∷ rest) ∙ ap (λ (l : List ℕ). out ++ l) (ended_text x n y ys ends ∙ cut) ∙ c.loop-reason.invariant.0,
            omega arith,
          )
    ]
