use Rattle.std.proofs.Common.{◌≡◌, ◌⊎◌, ◌++◌, ℕ, List, OnOk, rules, subst}
use Rattle.ips_state.proofs.HeadTexts.{first_format, second_format, where_ok}
use Rattle.ips_state.proofs.head.push_format.Goals as goal

pub returns-then-format-eq1 : goal.returns-then-format-eq1
returns-then-format-eq1 c =
    let is : c.args.format ≡ 1 = search rules in
    let done = c.extend_from_slice in
    subst (λ (line : List ℕ). OnOk done.result (done.new.self.items ≡ c.args.out.now.items ++ line)) (first_format c.args.format is) (where_ok done.result done.new.self.items _ _ done.ensures.items)

pub returns-else-format-eq1 : goal.returns-else-format-eq1
returns-else-format-eq1 c =
    let is : c.args.format ≡ 2 = search rules in
    let done = c.extend_from_slice-else-format-eq1 in
    subst (λ (line : List ℕ). OnOk done.result (done.new.self.items ≡ c.args.out.now.items ++ line)) (second_format c.args.format is) (where_ok done.result done.new.self.items _ _ done.ensures.items)
