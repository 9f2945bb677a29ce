use Rattle.std.proofs.Common.{◌≡◌, true, take, length, refl, sym, subst, ◌∙◌, inl, inr, arith, ℕ}
use Rattle.std.specs.List.{list_all}
use Rattle.ips_fmri.specs.Name as name
use Rattle.ips_fmri.proofs.components.run.Goals as goal
use Rattle.ips_text.proofs.Runs.{run_at}

pub returns-then-not-may_go_on-clause-run : goal.returns-then-not-may_go_on-clause-run
returns-then-not-may_go_on-clause-run c = run_at (name.may_go_on c.args.wild) c.args.bytes.now c.loop-i.i (omega arith) c.loop-i.invariant (inr (sym c.may_go_on.ensures ∙ c.if-not-may_go_on.true))

pub returns-clause-run : goal.returns-clause-run
returns-clause-run c =
    let end : c.loop-i.i ≡ length c.args.bytes.now = omega arith in
    run_at (name.may_go_on c.args.wild) c.args.bytes.now (length c.args.bytes.now) (omega arith) (subst (λ (n : ℕ). list_all (name.may_go_on c.args.wild) (take n c.args.bytes.now) ≡ true) end c.loop-i.invariant) (inl refl)
