use Rattle.std.proofs.Common.{nat_cmp, sym, rules}
use Rattle.std.specs.Cmp.Lexicographic.{slice_cmp}
use Rattle.std.proofs.lemmas.Fn.{always_returns_same}
use Rattle.ips_due.specs.declared.outstanding.verdict.Named.{Named}
use Rattle.ips_due_laying.proofs.Searched.{found_at, not_found, searchable}
use Rattle.ips_due_laying.proofs.laying.verdict_at.Goals as goal

pub returns-in-Ok : goal.returns-in-Ok
returns-in-Ok c =
    let at = c.in-Ok.ensures.position (λ (n : Named). slice_cmp nat_cmp n.path.bytes c.args.path.now.bytes) (always_returns_same _ _ _ (λ a r q k. (search rules, search rules))) in
    sym (found_at c.args.named.now c.args.path.now.bytes c.in-Ok.i c.index-named-i.result c.requires c.in-Ok.ensures.bound (at c.index-named-i.result))

pub returns-in-Err : goal.returns-in-Err
returns-in-Err c =
    let at = c.in-Err.ensures.position (λ (n : Named). slice_cmp nat_cmp n.path.bytes c.args.path.now.bytes) (always_returns_same _ _ _ (λ a r q k. (search rules, search rules))) in
    sym (not_found c.args.named.now c.args.path.now.bytes c.in-Err.field-0 (at (searchable c.args.named.now c.args.path.now.bytes c.requires)))
