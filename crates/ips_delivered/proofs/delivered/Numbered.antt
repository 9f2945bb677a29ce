-- Where no owner is unknown, all have numbers; and what files say of owners is told by the numbers that they give.
use Rattle.std.proofs.Common.{◌≡◌, Bool, true, false, cond, ℕ, List, [], ◌∷◌, Option, Some, None, refl, sym, ap, ◌∙◌}
use Rattle.std.specs.Prelude.{option_map, Result, Ok, Err}
use Rattle.std.specs.Ordering.{nat_cmp, is_gt}
use Rattle.std.specs.Cmp.Lexicographic.{slice_cmp}
use Rattle.std.specs.List.{AllByRecursion}
use Rattle.std.proofs.lemmas.List.Elements.{All-weaker}
use Rattle.std.proofs.lemmas.Option.{none-some}
use Rattle.ips_books.specs.declared.fault.Unknown.{Unknown}
use Rattle.ips_books.specs.declared.fault.Unknown.TheVariants as unknown
use Rattle.ips_books.specs.Accounts.{Accounts, resolved}
use Rattle.ips_conflict.specs.declared.placed.Placed.{Placed}
use Rattle.ips_conflict.specs.Alike.{has_mode}
use Rattle.ips_metafiles.specs.declared.owner.OwnerRow.{OwnerRow}
use Rattle.ips_delivered.specs.delivered.Delivering.{AreOwnerRows, IsOwnerRow, first_unknown, group_name, least_unknown, lesser_unknown, missing_name, owned_path, owner_name, unknown_of}

abbrev Missed : Type 0
Missed = Option (List ℕ × List ℕ)

lesser_none : (a b : Missed) → lesser_unknown a b ≡ None → (a ≡ None) × (b ≡ None)
lesser_none None None is = (refl, refl)
lesser_none None (Some y) is = absurd (none-some y (sym is))
lesser_none (Some x) None is = absurd (none-some x (sym is))
lesser_none (Some x) (Some y) is = go (is_gt (slice_cmp nat_cmp x.0 y.0)) is
  where
    go : (t : Bool) → cond t (Some y) (Some x) ≡ None → (Some x ≡ None) × (Some y ≡ None)
    go true is = absurd (none-some y (sym is))
    go false is = absurd (none-some x (sym is))

-- The owner and the group of the action are known, if it has them.
abbrev pub HasNone : Accounts → Placed → Type 0
HasNone books p = unknown_of books p ≡ None

least_none : (books : Accounts) (found : Missed) (xs : List Placed) → least_unknown books found xs ≡ None → (found ≡ None) × AllByRecursion (HasNone books) xs
least_none books found [] is = (is, tt)
least_none books found (x ∷ xs) is =
    let w = least_none books (lesser_unknown found (unknown_of books x)) xs is in
    let parts = lesser_none found (unknown_of books x) w.0 in
    (parts.0, (parts.1, w.1))

pub none_unknown : (books : Accounts) (admitted : List Placed) → first_unknown books admitted ≡ None → AllByRecursion (HasNone books) admitted
none_unknown books admitted is = (least_none books None admitted is).1

pub has_numbers : (books : Accounts) (p : Placed) → has_mode p.action ≡ true → HasNone books p → (n : ℕ × ℕ) × (resolved books (owner_name p) (group_name p) ≡ Ok n)
has_numbers books p mode none = go (resolved books (owner_name p) (group_name p)) refl (sym (ap (λ (m : Bool). cond m (told (resolved books (owner_name p) (group_name p))) None) mode) ∙ none)
  where
    told : Result (ℕ × ℕ) Unknown → Missed
    told r = option_map (λ (name : List ℕ). (owned_path p, name)) (missing_name r p)

    go : (r : Result (ℕ × ℕ) Unknown) → resolved books (owner_name p) (group_name p) ≡ r → told r ≡ None → (n : ℕ × ℕ) × (resolved books (owner_name p) (group_name p) ≡ Ok n)
    go (Ok n) is none = (n, is)
    go (Err unknown.Owner) is none = absurd (none-some (owned_path p, owner_name p) (sym none))
    go (Err unknown.Group) is none = absurd (none-some (owned_path p, group_name p) (sym none))

-- Files that give the same numbers.
abbrev pub GiveSame : Accounts → Accounts → Type 0
GiveSame a b = (owner group : List ℕ) → resolved a owner group ≡ resolved b owner group

same_unknown : (a b : Accounts) (p : Placed) → GiveSame a b → unknown_of a p ≡ unknown_of b p
same_unknown a b p same = ap (λ (r : Result (ℕ × ℕ) Unknown). cond (has_mode p.action) (option_map (λ (name : List ℕ). (owned_path p, name)) (missing_name r p)) None) (same (owner_name p) (group_name p))

same_least : (a b : Accounts) (found : Missed) (xs : List Placed) → GiveSame a b → least_unknown a found xs ≡ least_unknown b found xs
same_least a b found [] same = refl
same_least a b found (x ∷ xs) same =
    same_least a b (lesser_unknown found (unknown_of a x)) xs same ∙ ap (λ (m : Missed). least_unknown b (lesser_unknown found m) xs) (same_unknown a b x same)

-- by them the same owner is unknown
pub same_first : (a b : Accounts) (admitted : List Placed) → GiveSame a b → first_unknown a admitted ≡ first_unknown b admitted
same_first a b admitted same = same_least a b None admitted same

-- and the same rows tell the owners
pub same_rows : (a b : Accounts) (admitted : List Placed) (rows : List OwnerRow) → GiveSame a b → AreOwnerRows a admitted rows → AreOwnerRows b admitted rows
same_rows a b admitted rows same are = record {
  in_order = are.in_order;
  each = All-weaker (IsOwnerRow a admitted) (IsOwnerRow b admitted) (λ row is. record { action = is.action; owning = is.owning; owner = is.owner; group = is.group; numbers = sym (same row.owner row.group) ∙ is.numbers }) rows are.each;
  whole = are.whole;
}
