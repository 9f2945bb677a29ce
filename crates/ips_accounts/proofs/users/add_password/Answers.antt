use Rattle.std.proofs.Common.{List, ℕ, sym, ap, ◌∙◌}
use Rattle.std.specs.List.{position}
use Rattle.std.proofs.lemmas.Result.{on_ok_weaker}
use Rattle.ips_books.specs.Accounts.{is_of}
use Rattle.ips_books.specs.Writing.{added}
use Rattle.ips_accounts.proofs.Passwords.{shadow_there, shadow_none}
use Rattle.ips_accounts.proofs.users.add_password.Goals as goal

pub returns-in-Some : goal.returns-in-Some
returns-in-Some c =
    let name = c.as_bytes.ensures.value ∙ c.value_of.ensures in
    shadow_there c.args.user.now c.args.lines.now c.in-Some.field-0 (sym (c.in-Some.ensures ∙ (λ i. position (is_of (name i)) c.args.lines.now)))

pub returns-in_ok-shadow_text-in-None : goal.returns-in_ok-shadow_text-in-None
returns-in_ok-shadow_text-in-None c =
    let name = c.as_bytes.ensures.value ∙ c.value_of.ensures in
    on_ok_weaker c.add.result (λ e.
    e ∙ ap (λ (text : List ℕ). added text c.args.lines.now) c.in_ok-shadow_text-in-None.ensures
    ∙ sym (shadow_none c.args.user.now c.args.lines.now (sym (c.in-None.ensures ∙ (λ i. position (is_of (name i)) c.args.lines.now))))) c.add.ensures.added
