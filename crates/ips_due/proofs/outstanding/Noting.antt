-- What is noted, path by path.
use Rattle.std.proofs.Common.{◌≡◌, ℕ, zero, suc, Bool, true, false, cond, ◌||◌, List, [], ◌∷◌, ◌++◌, map, take, Option, Some, None, refl, sym, ap, ◌∙◌, inl, inr}
use Rattle.std.specs.Prelude.{slice_get, is_some}
use Rattle.std.specs.Option.{option_map}
use Rattle.std.proofs.lemmas.Bool.{cases_Bool, or_parts}
use Rattle.std.proofs.lemmas.Option.{same_Some}
use Rattle.ips_text.specs.Ancestry.{same_path}
use Rattle.ips_text.proofs.Ancestry.{same_path-true, same_path-self}
use Rattle.ips_outside.specs.Image.{Entry}
use Rattle.ips_after.specs.Lists.{listed}
use Rattle.ips_due.specs.Due.{Due}
use Rattle.ips_action.specs.Attrs.{is_same}
use Rattle.ips_action.proofs.KeyOrder.{same_true}
use Rattle.ips_due.specs.declared.outstanding.notes.Notes.{Notes}
use Rattle.ips_due.specs.declared.outstanding.verdict.Verdict.{Verdict}
use Rattle.ips_due.specs.outstanding.Noted.{Adds, either, noted, shown}
use Rattle.ips_due.specs.outstanding.Verdicts.{meant}
use Rattle.ips_due.proofs.outstanding.Gone.{one_path}
use Rattle.ips_after.proofs.Order.{listed_last}

-- what is said of a path
abbrev pub Says : Type 0
Says = Option (Option Entry)

none_more : {X : Type 0} (o : Option X) → o ≡ either o None
none_more (Some x) = refl
none_more None = refl

pub adds_none : (bytes : List ℕ → List ℕ) (due : Due) (notes : Notes) (says : List ℕ → Says) → Adds bytes due notes notes [] says
adds_none bytes due notes says q = none_more (shown bytes due notes q)

step : (old mid new : Option Says) (there same : Bool) (says own : Says) → mid ≡ either old (cond there (Some says) None) → new ≡ either mid (cond (same || false) (Some own) None)
    → (same ≡ true → there ≡ false → own ≡ says) → new ≡ either old (cond (there || same) (Some says) None)
step (Some x) mid new there same says own is more one = more ∙ ap (λ (o : Option Says). either o (cond (same || false) (Some own) None)) is
step None mid new true same says own is more one = more ∙ ap (λ (o : Option Says). either o (cond (same || false) (Some own) None)) is
step None mid new false true says own is more one = more ∙ ap (λ (o : Option Says). either o (Some own)) is ∙ ap (λ (s : Says). Some s) (one refl refl)
step None mid new false false says own is more one = more ∙ ap (λ (o : Option Says). either o None) is

-- one path more is noted, of which the same is said if it wasn't among those before
pub adds_more : (bytes : List ℕ → List ℕ) (due : Due) (first mid new : Notes) (paths : List (List ℕ)) (p : List ℕ) (says : List ℕ → Says) (own : Says) → Adds bytes due first mid paths says → Adds bytes due mid new (p ∷ []) (λ q. own)
    → (listed paths p ≡ false → own ≡ says p) → Adds bytes due first new (paths ++ p ∷ []) says
adds_more bytes due first mid new paths p says own so_far more one q =
    step (shown bytes due first q) (shown bytes due mid q) (shown bytes due new q) (listed paths q) (same_path p q) (says q) own (so_far q) (more q)
    (λ same apart. let is = same_path-true p q same in one (ap (listed paths) is ∙ apart) ∙ ap says is)
    ∙ ap (λ (b : Bool). either (shown bytes due first q) (cond b (Some (says q)) None)) (sym (listed_last paths p q))

-- nothing new is noted where something was
pub adds_had : (bytes : List ℕ → List ℕ) (due : Due) (notes : Notes) (p : List ℕ) (says : List ℕ → Says) → is_some (shown bytes due notes p) ≡ true → Adds bytes due notes notes (p ∷ []) says
adds_had bytes due notes p says had q = elim (cases_Bool (same_path p q)) [
  | inl same ↦ go (shown bytes due notes q) (same_path p q || false) (ap (λ (x : List ℕ). is_some (shown bytes due notes x)) (sym (same_path-true p q same)) ∙ had)
  | inr apart ↦ none_more (shown bytes due notes q) ∙ ap (λ (b : Bool). either (shown bytes due notes q) (cond (b || false) (Some (says q)) None)) (sym apart)
]
  where
    go : (o : Option Says) (b : Bool) → is_some o ≡ true → o ≡ either o (cond b (Some (says q)) None)
    go (Some x) b is = refl
    go None b is = cc

-- ---- one path

-- what is noted of one path, of which nothing was, is noted with no other
pub adds_noted : (bytes : List ℕ → List ℕ) (due : Due) (old new : Notes) (p : List ℕ) (v : Option Verdict) → noted old p ≡ None → ((q : List ℕ) → noted new q ≡ cond (is_same q p) (Some v) (noted old q)) → Adds bytes due old new (p ∷ []) (λ q. meant bytes due v)
adds_noted bytes due old new p v fresh is q =
    ap (option_map (meant bytes due)) (is q) ∙ go (is_same q p) refl ∙ ap (λ (b : Bool). either (shown bytes due old q) (cond (b || false) (Some (meant bytes due v)) None)) (sym (one_path p q))
  where
    go : (b : Bool) → is_same q p ≡ b → option_map (meant bytes due) (cond b (Some v) (noted old q)) ≡ either (shown bytes due old q) (cond (b || false) (Some (meant bytes due v)) None)
    go true same = sym (ap (λ (o : Option Says). either o (Some (meant bytes due v))) (ap (shown bytes due old) (same_true q p same) ∙ ap (option_map (meant bytes due)) fresh))
    go false apart = none_more (shown bytes due old q)

pub is_shown : (bytes : List ℕ → List ℕ) (due : Due) (notes : Notes) (p : List ℕ) → is_some (noted notes p) ≡ true → is_some (shown bytes due notes p) ≡ true
is_shown bytes due notes p is = go (noted notes p) is
  where
    go : (o : Option (Option Verdict)) → is_some o ≡ true → is_some (option_map (meant bytes due) o) ≡ true
    go (Some v) h = refl
    go None h = cc

pub not_noted : (o : Option (Option Verdict)) → is_some o ≡ false → o ≡ None
not_noted (Some v) is = cc
not_noted None is = refl

pub adds_as : (bytes : List ℕ → List ℕ) (due : Due) (old new : Notes) (paths : List (List ℕ)) (says other : List ℕ → Says) → Adds bytes due old new paths says → ((q : List ℕ) → says q ≡ other q) → Adds bytes due old new paths other
adds_as bytes due old new paths says other adds same q = adds q ∙ ap (λ (s : Says). either (shown bytes due old q) (cond (listed paths q) (Some s) None)) (same q)

-- ---- the first of a list at a path

module _ {X Y : Type 0} (key : X → List ℕ) (value : X → Y) where
  -- what the first of the list at a path has
  abbrev pub first_at : List X → List ℕ → Option Y
  first_at [] q = None
  first_at (x ∷ xs) q = cond (same_path (key x) q) (Some (value x)) (first_at xs q)

  pub first_listed : (xs : List X) (q : List ℕ) → listed (map key xs) q ≡ is_some (first_at xs q)
  first_listed [] q = refl
  first_listed (x ∷ xs) q = go (same_path (key x) q) (first_listed xs q)
    where
      go : (b : Bool) → listed (map key xs) q ≡ is_some (first_at xs q) → (b || listed (map key xs) q) ≡ is_some (cond b (Some (value x)) (first_at xs q))
      go true rest = refl
      go false rest = rest

  pub first_here : (xs : List X) (n : ℕ) (x : X) → slice_get xs n ≡ Some x → listed (map key (take n xs)) (key x) ≡ false → first_at xs (key x) ≡ Some (value x)
  first_here [] n x is apart = cc
  first_here (y ∷ xs) zero x is apart =
      let same : y ≡ x = same_Some y x is in
      ap (λ (b : Bool). cond b (Some (value y)) (first_at xs (key x))) (ap (λ (z : X). same_path (key z) (key x)) same ∙ same_path-self (key x)) ∙ ap (λ (z : X). Some (value z)) same
  first_here (y ∷ xs) (suc n) x is apart =
      let parts = or_parts (same_path (key y) (key x)) (listed (map key (take n xs)) (key x)) apart in
      ap (λ (b : Bool). cond b (Some (value y)) (first_at xs (key x))) parts.0 ∙ first_here xs n x is parts.1
