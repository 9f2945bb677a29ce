use Rattle.std.proofs.Common.{◌≡◌, ℕ, ◌+◌, true, eqb, List, take, sym, ◌∙◌, subst, arith}
use Rattle.std.specs.Cmp.Lexicographic.{pointwise}
use Rattle.ips_text.specs.Ancestry.{same_path}
use Rattle.ips_steps.specs.Private.{mark_name}
use Rattle.ips_commit.proofs.Numbered.{same_is, any_here}
use Rattle.ips_commit.proofs.names.is_among.Goals as goal

pub returns-then-eq : goal.returns-then-eq
returns-then-eq c =
    let p = c.args.path.now.bytes in
    let found : pointwise eqb (take c.write_mark-end.result c.write_mark-end.new.bytes) c.bytes.result.now ≡ true = sym c.eq.ensures ∙ c.if-eq.true in
    let same : pointwise eqb (mark_name (c.loop-before.before + 1)) p ≡ true = subst (λ (l : List ℕ). pointwise eqb (mark_name (c.loop-before.before + 1)) l ≡ true) c.bytes.ensures.value
    (subst (λ (l : List ℕ). pointwise eqb l c.bytes.result.now ≡ true) c.write_mark-end.ensures.written found) in
    sym (any_here (λ m. same_path m p) c.loop-before.before c.args.count (omega arith) (sym (same_is (mark_name (c.loop-before.before + 1)) p) ∙ same))
