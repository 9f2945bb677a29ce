use Rattle.std.proofs.Common.{Bor, List, map, sym, ap, subst, ◌∙◌}
use Rattle.std.proofs.lemmas.Result.{err_from_is_err_and}
use Rattle.ips_action.specs.Action.{Fields}
use Rattle.ips_text.specs.Reading.{Gives, Fails}
use Rattle.ips_accounts.specs.Editing.{each, with_group, with_user, if_known}
use Rattle.ips_accounts.specs.Seen.{tables_seen}
use Rattle.ips_accounts.proofs.Steps.{edited_is, groups_fail, users_fail}
use Rattle.ips_accounts.proofs.editing.change.Goals as goal

pub returns-in_err-add_groups : goal.returns-in_err-add_groups
returns-in_err-add_groups c =
    let p = err_from_is_err_and c.from_residual-in_err-add_groups.result c.from_residual-in_err-add_groups.ensures.1 in
    let seen = λ (items : List (Bor Fields)). map (λ (a : Bor Fields). a.now) items in
    let groups = ap seen c.deref.ensures.value ∙ c.in_ok-groups.ensures in
    rw (p.1, p.2) (groups_fail c.in_err-add_groups.field-0.0 (tables_seen c.args.tables.now) c.args.old.now c.args.new.now
    (subst (Fails c.in_err-add_groups.field-0.0) (λ i. each with_group (groups i) (tables_seen c.args.tables.now)) c.in_err-add_groups.ensures))

pub returns-in_err-add_users : goal.returns-in_err-add_users
returns-in_err-add_users c =
    let p = err_from_is_err_and c.from_residual-in_err-add_users.result c.from_residual-in_err-add_users.ensures.1 in
    let seen = λ (items : List (Bor Fields)). map (λ (a : Bor Fields). a.now) items in
    let groups = ap seen c.deref.ensures.value ∙ c.in_ok-groups.ensures in
    let users = ap seen c.deref-2.ensures.value ∙ c.in_ok-users.ensures in
    let grouped = sym (λ i. each with_group (groups i) (tables_seen c.args.tables.now)) ∙ c.in_ok-add_groups.ensures in
    rw (p.1, p.2) (users_fail c.in_err-add_users.field-0.0 (tables_seen c.args.tables.now) (tables_seen c.add_groups.new.tables) c.args.old.now c.args.new.now grouped
    (subst (Fails c.in_err-add_users.field-0.0) (λ i. each with_user (users i) (tables_seen c.add_groups.new.tables)) c.in_err-add_users.ensures))

pub returns : goal.returns
returns c =
    let seen = λ (items : List (Bor Fields)). map (λ (a : Bor Fields). a.now) items in
    let groups = ap seen c.deref.ensures.value ∙ c.in_ok-groups.ensures in
    let users = ap seen c.deref-2.ensures.value ∙ c.in_ok-users.ensures in
    let known = ap seen c.deref-3.ensures.value ∙ c.in_ok-users.ensures in
    let grouped = sym (λ i. each with_group (groups i) (tables_seen c.args.tables.now)) ∙ c.in_ok-add_groups.ensures in
    let done = sym (λ i. each with_user (users i) (tables_seen c.add_groups.new.tables)) ∙ c.in_ok-add_users.ensures in
    let whole = edited_is (tables_seen c.args.tables.now) (tables_seen c.add_groups.new.tables) (tables_seen c.add_users.new.tables) c.args.old.now c.args.new.now grouped done in
    subst (λ r. Gives (λ (u : Unit {0}). tables_seen c.add_users.new.tables) c.are_known.result r) ((λ i. if_known (known i) (tables_seen c.add_users.new.tables)) ∙ sym whole) c.are_known.ensures
