use Rattle.std.proofs.Common.{◌≡◌, true, take, length, refl, sym, subst, ◌∙◌, inl, inr, arith, ℕ}
use Rattle.std.specs.List.{list_all}
use Rattle.ips_line.specs.Classes.{passes}
use Rattle.ips_line.proofs.Runs.{run_cut}
use Rattle.ips_line.proofs.classes.run_length.Goals as goal
use Rattle.ips_text.proofs.Runs.{run_at}

pub returns-then-not-has-clause-run : goal.returns-then-not-has-clause-run
returns-then-not-has-clause-run c = run_at (passes c.args.class) c.args.bytes.now c.loop-i.i (omega arith) c.loop-i.invariant (inr (sym c.has.ensures ∙ c.if-not-has.true))

pub returns-then-not-has-clause-cut : goal.returns-then-not-has-clause-cut
returns-then-not-has-clause-cut c = λ utf8. run_cut c.args.class c.args.bytes.now c.loop-i.i utf8 (omega arith) c.loop-i.invariant (inr (sym c.has.ensures ∙ c.if-not-has.true))

pub returns-clause-run : goal.returns-clause-run
returns-clause-run c =
    let end : c.loop-i.i ≡ length c.args.bytes.now = omega arith in
    run_at (passes c.args.class) c.args.bytes.now (length c.args.bytes.now) (omega arith) (subst (λ (n : ℕ). list_all (passes c.args.class) (take n c.args.bytes.now) ≡ true) end c.loop-i.invariant) (inl refl)
