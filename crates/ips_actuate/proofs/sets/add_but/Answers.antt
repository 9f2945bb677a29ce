use Rattle.std.proofs.Common.{◌≡◌, ℕ, List, refl, subst}
use Rattle.std.specs.Prelude.{Contains}
use Rattle.ips_actuate.specs.Gathering.{Gives, Lacks}
use Rattle.ips_actuate.proofs.Gathered.{none_left_out, one_taken, all_taken, grown_same}
use Rattle.ips_actuate.proofs.sets.add_but.Goals as goal

pub loop-text-init : goal.loop-text-init
loop-text-init c = none_left_out (λ (text other : List ℕ). (text ≡ other) × Lacks c.args.others.now other) c.args.texts c.args.set.now

pub loop-text-preserved : goal.loop-text-preserved
loop-text-preserved c =
    one_taken (λ (text other : List ℕ). (text ≡ other) × Lacks c.args.others.now other) c.args.texts c.loop-text.left c.in-Some.rest c.in-Some.text.now c.args.set.now c.loop-text.set c.add_unless.new.set c.loop-text.invariant c.in-Some.ensures c.in_ok-add_unless.ensures

pub returns : goal.returns
returns c =
    let texts = c.args.texts in
    let others = c.args.others.now in
    let each = all_taken (λ (text other : List ℕ). (text ≡ other) × Lacks others other) texts c.loop-text.left c.args.set.now c.loop-text.set c.loop-text.invariant c.in_default.ensures in
    grown_same (Gives (λ (text other : List ℕ). (text ≡ other) × Lacks others other) texts) (λ text. Contains texts text × Lacks others text) c.args.set.now c.loop-text.set
    (λ text w. (subst (λ (t : List ℕ). Contains texts t) w.2.0 w.1, w.2.1)) (λ text w. (text, w.0, (refl, w.1))) each
