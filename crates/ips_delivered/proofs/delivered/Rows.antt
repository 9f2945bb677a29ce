-- The rows of owners, path by path.
use Rattle.std.proofs.Common.{◌≡◌, ◌∙◌, ◌++◌, ◌∷◌, [], ℕ, Bool, true, false, cond, List, map, Option, Some, Bor, Vec, Global, nat_cmp, refl, sym, ap, subst, arith}
use Rattle.std.specs.Prelude.{IfSome, is_some}
use Rattle.std.specs.Map.{keys_of, lookup}
use Rattle.std.specs.Map.Iter.{deref_pair}
use Rattle.std.specs.List.{All, AllByRecursion, Contains}
use Rattle.std.specs.List.Sorted.{IsStrictlySortedBy}
use Rattle.std.specs.Ordering.{is_eq}
use Rattle.std.specs.Cmp.Lexicographic.{slice_cmp}
use Rattle.std.specs.declared.cmp.Ordering.TheVariants.{Less}
use Rattle.std.proofs.lemmas.Bool.{false≢true}
use Rattle.std.proofs.lemmas.List.Elements.{Contains-append_right, All-nil, All-push}
use Rattle.ips_action.specs.Attrs.{is_same}
use Rattle.ips_action.proofs.KeyOrder.{same_true}
use Rattle.ips_books.specs.Accounts.{Accounts}
use Rattle.ips_conflict.specs.declared.placed.Placed.{Placed}
use Rattle.ips_conflict.proofs.Kept.{found_at}
use Rattle.ips_metafiles.specs.declared.owner.OwnerRow.{OwnerRow}
use Rattle.ips_delivered.specs.delivered.Delivering.{AreOwnerRows, IsOwnerRow, owning}
use Rattle.ips_delivered.specs.delivered.Kept.{AreOwners, PathOwners, owner_at}
use Rattle.ips_delivered.proofs.delivered.Owning.{HasOwnPath}

-- what the map lends
abbrev pub LentOwner : Type 0
LentOwner = Bor (Vec ℕ Global) × Bor Placed

-- the paths that were gone through
abbrev pub gone_through : List LentOwner → List (List ℕ)
gone_through seen = map (λ b. b.0.now.items) seen

-- the paths of rows
abbrev pub row_paths : List OwnerRow → List (List ℕ)
row_paths rows = map (λ r. r.path.bytes) rows

-- the rows that were made so far, for these paths
pub record MadeRows (books : Accounts) (admitted : List Placed) (paths : List (List ℕ)) (rows : List OwnerRow) : Type 0 where
  pub paths_are : row_paths rows ≡ paths
  pub each : All (IsOwnerRow books admitted) rows

pub rows_none : (books : Accounts) (admitted : List Placed) (rows : List OwnerRow) → rows ≡ [] → MadeRows books admitted [] rows
rows_none books admitted rows is = subst (MadeRows books admitted []) (sym is) (record { paths_are = refl; each = All-nil (IsOwnerRow books admitted) })

through_more : (seen : List LentOwner) (b : LentOwner) → gone_through (seen ++ b ∷ []) ≡ gone_through seen ++ b.0.now.items ∷ []
through_more [] b = refl
through_more (x ∷ seen) b = ap (λ (l : List (List ℕ)). x.0.now.items ∷ l) (through_more seen b)

row_more : (rows : List OwnerRow) (row : OwnerRow) → row_paths (rows ++ row ∷ []) ≡ row_paths rows ++ row.path.bytes ∷ []
row_more [] row = refl
row_more (r ∷ rows) row = ap (λ (l : List (List ℕ)). r.path.bytes ∷ l) (row_more rows row)

pub rows_more : (books : Accounts) (admitted : List Placed) (seen : List LentOwner) (rows next : List OwnerRow) (b : LentOwner) (row : OwnerRow) → MadeRows books admitted (gone_through seen) rows → next ≡ rows ++ row ∷ []
    → row.path.bytes ≡ b.0.now.items → IsOwnerRow books admitted row → MadeRows books admitted (gone_through (seen ++ b ∷ [])) next
rows_more books admitted seen rows next b row so_far pushed at is = record {
  paths_are =
      ap row_paths pushed
      ∙ row_more rows row
      ∙ ap (λ (p : List ℕ). row_paths rows ++ p ∷ []) at
      ∙ ap (λ (l : List (List ℕ)). l ++ b.0.now.items ∷ []) so_far.paths_are
      ∙ sym (through_more seen b);
  each = subst (All (IsOwnerRow books admitted)) (sym pushed) (All-push (IsOwnerRow books admitted) rows row so_far.each is);
}

-- ---- all rows

-- the paths of keys
abbrev key_paths : List (Vec ℕ Global) → List (List ℕ)
key_paths keys = map (λ k. k.items) keys

all_through : (seen : List LentOwner) → gone_through seen ≡ key_paths (keys_of (map deref_pair seen))
all_through [] = refl
all_through (b ∷ seen) = ap (λ (l : List (List ℕ)). b.0.now.items ∷ l) (all_through seen)

less_all : (k : Vec ℕ Global) (keys : List (Vec ℕ Global)) → AllByRecursion (λ y. slice_cmp nat_cmp k.items y.items ≡ Less) keys → AllByRecursion (λ y. slice_cmp nat_cmp k.items y ≡ Less) (key_paths keys)
less_all k [] all = tt
less_all k (x ∷ keys) all = (all.0, less_all k keys all.1)

paths_sorted : (keys : List (Vec ℕ Global)) → IsStrictlySortedBy (λ a b. slice_cmp nat_cmp a.items b.items) keys → IsStrictlySortedBy (slice_cmp nat_cmp) (key_paths keys)
unfolding IsStrictlySortedBy
paths_sorted [] sorted = tt
paths_sorted (k ∷ keys) sorted = (less_all k keys sorted.0, paths_sorted keys sorted.1)

path_there : (path : List ℕ) (es : List (Vec ℕ Global × Placed)) → is_some (lookup (λ k. is_same path k.items) es) ≡ true → Contains (key_paths (keys_of es)) path
path_there path [] h = absurd (false≢true h)
path_there path (e ∷ es) h = go (is_same path e.0.items) refl h (path_there path es)
  where
    go : (t : Bool) → is_same path e.0.items ≡ t → is_some (cond t (Some e.1) (lookup (λ k. is_same path k.items) es)) ≡ true → (is_some (lookup (λ k. is_same path k.items) es) ≡ true → Contains (key_paths (keys_of es)) path) → Contains (key_paths (keys_of (e ∷ es))) path
    go true here found more = (0, omega arith, sym (same_true path e.0.items here))
    go false here found more = Contains-append_right (e.0.items ∷ []) (key_paths (keys_of es)) path (more found)

pub all_rows : (books : Accounts) (admitted : List Placed) (owners : PathOwners) (seen : List LentOwner) (rows : List OwnerRow) → map deref_pair seen ≡ owners.entries → MadeRows books admitted (gone_through seen) rows
    → IsStrictlySortedBy (λ a b. slice_cmp nat_cmp a.items b.items) (keys_of owners.entries) → AreOwners admitted owners → AreOwnerRows books admitted rows
all_rows books admitted owners seen rows all made sorted are =
    let paths : row_paths rows ≡ key_paths (keys_of owners.entries) = made.paths_are ∙ all_through seen ∙ ap (λ (es : List (Vec ℕ Global × Placed)). key_paths (keys_of es)) all in
    record {
      in_order = subst (IsStrictlySortedBy (slice_cmp nat_cmp)) (sym paths) (paths_sorted (keys_of owners.entries) sorted);
      each = made.each;
      whole = λ path some. subst (λ (l : List (List ℕ)). Contains l path) (sym paths) (path_there path owners.entries (ap is_some (are path) ∙ some));
    }

-- ---- one path

pub owner_found : (admitted : List Placed) (owners : PathOwners) (key : Vec ℕ Global) (p : Placed) → AreOwners admitted owners → lookup (λ k. is_eq (slice_cmp nat_cmp key.items k.items)) owners.entries ≡ Some p → owning admitted key.items ≡ Some p
owner_found admitted owners key p are found = sym (are key.items) ∙ sym (found_at key.items owners.entries) ∙ found

pub path_of_owner : (owners : PathOwners) (key : Vec ℕ Global) (p : Placed) → ((path : List ℕ) → IfSome (owner_at owners path) (HasOwnPath path)) → lookup (λ k. is_eq (slice_cmp nat_cmp key.items k.items)) owners.entries ≡ Some p → HasOwnPath key.items p
path_of_owner owners key p proper found = subst (λ (o : Option Placed). IfSome o (HasOwnPath key.items)) (sym (found_at key.items owners.entries) ∙ found) (proper key.items)
