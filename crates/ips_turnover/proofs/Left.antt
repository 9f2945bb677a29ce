-- Members that go.
use Rattle.std.proofs.Common.{◌≡◌, ℕ, Bool, true, false, cond, not, ◌&&◌, ◌||◌, List, [], ◌∷◌, map, filter, refl, sym, ap, ◌∙◌}
use Rattle.std.specs.List.{list_any}
use Rattle.ips_books.specs.Lines.{AccountLine}
use Rattle.ips_books.specs.Accounts.{is_kept, members_of}
use Rattle.ips_books.specs.Writing.{with_members}
use Rattle.ips_turnover.specs.Turnover.{left_by}

-- what is seen of those that pass
pub seen_filter : {A B : Type 0} (view : A → B) (test : B → Bool) (xs : List A) → map view (filter (λ x. test (view x)) xs) ≡ filter test (map view xs)
seen_filter view test [] = refl
seen_filter {A} {B} view test (x ∷ xs) = go (test (view x)) (seen_filter view test xs)
  where
    go : (t : Bool) → map view (filter (λ x. test (view x)) xs) ≡ filter test (map view xs) → map view (cond t (x ∷ filter (λ x. test (view x)) xs) (filter (λ x. test (view x)) xs)) ≡ cond t (view x ∷ filter test (map view xs)) (filter test (map view xs))
    go true e = ap (λ l. view x ∷ l) e
    go false e = e

-- a test of what is seen
pub seen_any : {A B : Type 0} (view : A → B) (test : B → Bool) (xs : List A) → list_any (λ x. test (view x)) xs ≡ list_any test (map view xs)
seen_any view test [] = refl
seen_any view test (x ∷ xs) = ap (λ (t : Bool). test (view x) || t) (seen_any view test xs)

module _ (gone : List ℕ → Bool) (line : AccountLine) where
  pub left_kept : is_kept line ≡ true → line ≡ left_by gone line
  left_kept e = sym (ap (λ (t : Bool). cond (not t && list_any gone (members_of line)) (with_members (filter (λ member. not (gone member)) (members_of line)) line) line) e)

  pub left_none : is_kept line ≡ false → list_any gone (members_of line) ≡ false → line ≡ left_by gone line
  left_none e f =
      sym (ap (λ (t : Bool). cond (not t && list_any gone (members_of line)) (with_members (filter (λ member. not (gone member)) (members_of line)) line) line) e
      ∙ ap (λ (t : Bool). cond t (with_members (filter (λ member. not (gone member)) (members_of line)) line) line) f)

  pub left_some : (members : List (List ℕ)) → is_kept line ≡ false → list_any gone (members_of line) ≡ true → members ≡ filter (λ member. not (gone member)) (members_of line) → with_members members line ≡ left_by gone line
  left_some members e f is =
      ap (λ (l : List (List ℕ)). with_members l line) is
      ∙ sym (ap (λ (t : Bool). cond (not t && list_any gone (members_of line)) (with_members (filter (λ member. not (gone member)) (members_of line)) line) line) e
      ∙ ap (λ (t : Bool). cond t (with_members (filter (λ member. not (gone member)) (members_of line)) line) line) f)
