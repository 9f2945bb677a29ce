-- Lines of shadow.
use Rattle.std.proofs.Common.{◌≡◌, ℕ, Bool, true, cond, List, [], Some, None, sym, ap}
use Rattle.std.specs.List.{position}
use Rattle.std.proofs.lemmas.List.Folds.{list_any_at}
use Rattle.std.proofs.lemmas.List.Quantifiers.{position-Some}
use Rattle.ips_action.specs.Action.{Fields}
use Rattle.ips_books.specs.Lines.{AccountLine}
use Rattle.ips_books.specs.Accounts.{is_of}
use Rattle.ips_books.specs.Writing.{added}
use Rattle.ips_books.proofs.Read.{none_first}
use Rattle.ips_turnover.specs.Turnover.{user_name}
use Rattle.ips_accounts.specs.Editing.{with_shadow, shadow_text}

pub shadow_there : (a : Fields) (lines : List AccountLine) (i : ℕ) → position (is_of (user_name a)) lines ≡ Some i → lines ≡ with_shadow a lines
shadow_there a lines i e =
    let d : AccountLine = record { text = []; ended = true } in
    let first = position-Some (is_of (user_name a)) lines i d e in
    sym (ap (λ (t : Bool). cond t lines (added (shadow_text a) lines)) (list_any_at (is_of (user_name a)) lines i d first.0 first.1))

pub shadow_none : (a : Fields) (lines : List AccountLine) → position (is_of (user_name a)) lines ≡ None → with_shadow a lines ≡ added (shadow_text a) lines
shadow_none a lines e = ap (λ (t : Bool). cond t lines (added (shadow_text a) lines)) (none_first (is_of (user_name a)) lines e)
