use Rattle.std.proofs.Common.{sym, ◌∙◌}
use Rattle.ips_books.specs.Writing.{with_line}
use Rattle.ips_accounts.specs.Editing.{number_for, group_text, standing_members}
use Rattle.ips_accounts.specs.Seen.{tables_seen}
use Rattle.ips_accounts.proofs.Steps.{group_added}
use Rattle.ips_accounts.proofs.groups.add_group.Goals as goal

pub returns : goal.returns
returns c =
    let name = c.value_of-name.ensures in
    let for_number = c.as_bytes.ensures.value ∙ name in
    let for_line = c.as_bytes-2.ensures.value ∙ name in
    let same = c.in_ok-gid.ensures.same in
    let lines = c.named.ensures ∙ same in
    let text = c.in_ok-text.ensures ∙ (λ i. group_text (name i) c.in_ok-gid.gid (standing_members (lines i) (name i))) in
    group_added c.args.group.now (tables_seen c.args.tables.now) c.in_ok-gid.gid c.put.new.self
    (sym (λ i. number_for c.args.tables.now.group (for_number i) (c.number_given.ensures i)) ∙ c.in_ok-gid.ensures.number)
    (c.in_ok-put.ensures ∙ (λ i. with_line (for_line i) (text i) (same i)))
