-- A user joins the group whose line stands at a place.
use Rattle.std.proofs.Common.{◌≡◌, ℕ, ◌<◌, List, [], length, get_or, set, Some, None, sym, ◌∙◌, true}
use Rattle.std.specs.List.{position}
use Rattle.std.proofs.lemmas.List.{get_or_default, set-get_or}
use Rattle.std.proofs.lemmas.List.Quantifiers.{position-Some}
use Rattle.ips_books.specs.Lines.{AccountLine}
use Rattle.ips_books.specs.Accounts.{is_of}
use Rattle.ips_books.specs.Writing.{at_first}
use Rattle.ips_books.proofs.Read.{none_first}
use Rattle.ips_books.proofs.Written.{first_at, first_none}
use Rattle.ips_accounts.specs.Editing.{joined_by}

-- a line that is left as it is
pub left_there : (user : List ℕ) (lines : List AccountLine) (place : ℕ) (line there : AccountLine) → place < length lines → there ≡ get_or lines place there → line ≡ get_or lines place line → there ≡ joined_by user there → lines ≡ set lines place (joined_by user line)
left_there user lines place line there within at is stays =
    let one : there ≡ line = at ∙ get_or_default lines place there line within ∙ sym is in
    sym (set-get_or lines place there) ∙ (λ i. set lines place (sym at i)) ∙ (λ i. set lines place (stays i)) ∙ (λ i. set lines place (joined_by user (one i)))

pub joined_first : (user group : List ℕ) (lines new : List AccountLine) (place : ℕ) → position (is_of group) lines ≡ Some place → ((line : AccountLine) → line ≡ get_or lines place line → new ≡ set lines place (joined_by user line)) → new ≡ at_first (is_of group) (joined_by user) lines
joined_first user group lines new place found joins =
    let none : AccountLine = record { text = []; ended = true } in
    let first = position-Some (is_of group) lines place none found in
    let line = get_or lines place none in
    let at : line ≡ get_or lines place line = get_or_default lines place none line first.0 in
    joins line at ∙ sym (first_at (is_of group) (joined_by user) lines place line found at)

pub joined_none : (user group : List ℕ) (lines : List AccountLine) → position (is_of group) lines ≡ None → lines ≡ at_first (is_of group) (joined_by user) lines
joined_none user group lines found = sym (first_none (is_of group) (joined_by user) lines (none_first (is_of group) lines found))
