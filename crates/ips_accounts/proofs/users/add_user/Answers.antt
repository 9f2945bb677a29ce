use Rattle.std.proofs.Common.{unwrap_or, sym, ap, ◌∙◌}
use lib.Chars.{codes}
use Rattle.ips_action.specs.Attrs.{values_of}
use Rattle.ips_action.specs.Action.{Fields}
use Rattle.ips_books.specs.Accounts.{gid_at}
use Rattle.ips_books.specs.Writing.{with_line}
use Rattle.ips_accounts.specs.Editing.{number_for, passwd_text, in_groups}
use Rattle.ips_accounts.specs.Seen.{tables_seen}
use Rattle.ips_accounts.proofs.Steps.{user_added}
use Rattle.ips_accounts.proofs.users.add_user.Goals as goal

pub returns : goal.returns
returns c =
    let a = c.args.user.now in
    let name = c.value_of-name.ensures in
    let for_number = c.as_bytes.ensures.value ∙ name in
    let for_line = c.as_bytes-2.ensures.value ∙ name in
    let same = c.in_ok-uid.ensures.same in
    let found = c.gid_at.ensures ∙ (λ i. gid_at (c.named.ensures i) (c.value_of.ensures i)) in
    let gid = c.unwrap_or-gid.ensures ∙ (λ i. unwrap_or (found i) 0) in
    let text = c.in_ok-text.ensures ∙ (λ i. passwd_text a c.in_ok-uid.uid (gid i)) in
    let asked = c.values.ensures ∙ ap (λ (x : Fields). values_of (codes "group-list") x.attrs) c.user.view_is in
    user_added a (tables_seen c.args.tables.now) c.in_ok-uid.uid c.put.new.self c.add_password.new.lines c.join_groups.new.lines
    (sym (λ i. number_for c.args.tables.now.passwd (for_number i) (c.number_given.ensures i)) ∙ c.in_ok-uid.ensures.number)
    (c.in_ok-put.ensures ∙ (λ i. with_line (for_line i) (text i) (same i)))
    c.in_ok-add_password.ensures
    (c.in_ok-join_groups.ensures ∙ (λ i. in_groups (name i) (asked i) c.args.tables.now.group))
