use Rattle.std.proofs.Common.{◌≡◌, map, arith, ◌∙◌}
use Rattle.std.specs.Vec.{with_items}
use Rattle.std.proofs.lemmas.List.{with_items_is}
use Rattle.ips_turnover.specs.Seen.{has_gone}
use Rattle.ips_turnover.specs.Turnover.{without, left_by, is_gone, user_name, group_name, users_in, groups_in}
use Rattle.ips_turnover.proofs.gone.remove_gone.Goals as goal

pub returns : goal.returns
returns c =
    let files = c.args.files.now in
    let users : has_gone c.in_ok-users.users ≡ is_gone user_name (users_in c.args.old.now) (users_in c.args.new.now) = (λ i name. c.in_ok-users.ensures name i) in
    let groups : has_gone c.in_ok-groups.groups ≡ is_gone group_name (groups_in c.args.old.now) (groups_in c.args.new.now) = (λ i name. c.in_ok-groups.ensures name i) in
    let left = with_items files.group c.remove_members.new.lines in
    let items : left.items ≡ c.remove_members.new.lines = with_items_is c.args.files.now.group c.remove_members.new.lines (omega arith) in
    let passwd = c.remove_lines.ensures ∙ (λ i. without (users i) files.passwd.items) in
    let shadow = c.remove_lines-2.ensures ∙ (λ i. without (users i) files.shadow.items) in
    let members = items ∙ c.in_ok-remove_members.ensures ∙ (λ i. map (left_by (users i)) (c.deref_mut.ensures.value i)) in
    let group = c.remove_lines-3.ensures ∙ (λ i. without (groups i) (members i)) in
    (λ i. record { passwd = passwd i; shadow = shadow i; group = group i })
