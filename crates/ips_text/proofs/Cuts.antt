-- Lists cut at the first place of a byte.
use Rattle.std.proofs.Common.{◌≡◌, ℕ, suc, ◌+◌, ◌-◌, ◌<◌, ◌≤◌, Bool, true, false, cond, not, eqb, ltb, ◌||◌, List, [], ◌∷◌, ◌++◌, length, take, drop, Option, Some, None, refl, sym, ap, ◌∙◌, arith}
use Rattle.std.specs.List.{position_or_len, position, AllByRecursion}
use Rattle.std.proofs.Math.Numerals.{one-add, add-one}
use Rattle.std.proofs.lemmas.Bool.{or_parts, eqb-true, eqb-false, ltb-true, ltb-false, true≢false}
use Rattle.std.proofs.lemmas.List.Folds.{list_any-append}
use Rattle.ips_text.specs.Cut.{has_byte, IsCut}

-- at most one place cuts a list
pub cut_once : (b : ℕ) (x a y c : List ℕ) → has_byte b x ≡ false → has_byte b y ≡ false → x ++ b ∷ a ≡ y ++ b ∷ c → (x ≡ y) × (a ≡ c)
cut_once b [] a [] c hx hy e = (refl, cc)
cut_once b [] a (q ∷ y) c hx hy e = absurd (eqb-false q b (or_parts (eqb q b) (has_byte b y) hy).0 cc)
cut_once b (p ∷ x) a [] c hx hy e = absurd (eqb-false p b (or_parts (eqb p b) (has_byte b x) hx).0 cc)
cut_once b (p ∷ x) a (q ∷ y) c hx hy e =
    let more = cut_once b x a y c (or_parts (eqb p b) (has_byte b x) hx).1 (or_parts (eqb q b) (has_byte b y) hy).1 cc in
    let first : p ≡ q = cc in
    (rw (first, more.0) refl, more.1)

abbrev first_of_byte : ℕ → List ℕ → ℕ
first_of_byte b bytes = position_or_len (λ c. eqb c b) bytes

-- the list is cut where the byte stands first
record IsCutAt (b : ℕ) (bytes : List ℕ) (n : ℕ) : Type 0 where
  pub parts : bytes ≡ take n bytes ++ b ∷ drop (n + 1) bytes
  pub lacks : has_byte b (take n bytes) ≡ false

first_cuts : (b : ℕ) (bytes : List ℕ) → first_of_byte b bytes < length bytes → IsCutAt b bytes (first_of_byte b bytes)
first_cuts b [] lt = absurd (omega arith)
first_cuts b (c ∷ bytes) lt = go (eqb c b) refl (first_cuts b bytes) lt
  where
    go : (t : Bool) → eqb c b ≡ t → (first_of_byte b bytes < length bytes → IsCutAt b bytes (first_of_byte b bytes)) → cond (not t) (1 + first_of_byte b bytes) 0 < suc (length bytes)
        → IsCutAt b (c ∷ bytes) (cond (not t) (1 + first_of_byte b bytes) 0)
    go true is later lt = record { parts = ap (λ (x : ℕ). x ∷ bytes) (eqb-true c b is); lacks = refl }
    go false is later lt =
        let behind = later (omega arith) in
        rw one-add (record {
          parts = rw add-one (ap (λ (l : List ℕ). c ∷ l) (rw add-one at behind.parts));
          lacks = rw is behind.lacks;
        })

first_lacks : (b : ℕ) (bytes : List ℕ) → length bytes ≤ first_of_byte b bytes → has_byte b bytes ≡ false
first_lacks b [] le = refl
first_lacks b (c ∷ bytes) le = go (eqb c b) refl (first_lacks b bytes) le
  where
    go : (t : Bool) → eqb c b ≡ t → (length bytes ≤ first_of_byte b bytes → has_byte b bytes ≡ false) → suc (length bytes) ≤ cond (not t) (1 + first_of_byte b bytes) 0 → (t || has_byte b bytes) ≡ false
    go true is later le = absurd (omega arith)
    go false is later le = later (omega arith)

-- where the byte stands, the list is cut there
pub found_cuts : (b : ℕ) (bytes : List ℕ) (n : ℕ) → Some n ≡ position (λ c. eqb c b) bytes → (n < length bytes) × IsCut b bytes (take n bytes) (drop (n + 1) bytes)
found_cuts b bytes n e = go (ltb (first_of_byte b bytes) (length bytes)) refl e
  where
    go : (t : Bool) → ltb (first_of_byte b bytes) (length bytes) ≡ t → Some n ≡ cond t (Some (first_of_byte b bytes)) None → (n < length bytes) × IsCut b bytes (take n bytes) (drop (n + 1) bytes)
    go true t h =
        let at : n ≡ first_of_byte b bytes = cc in
        let lt = ltb-true (first_of_byte b bytes) (length bytes) t in
        let cuts = first_cuts b bytes lt in
        rw at (lt, record { parts = cuts.parts; first_lacks = cuts.lacks })
    go false t h = absurd cc

pub none_lacks : (b : ℕ) (bytes : List ℕ) → None ≡ position (λ c. eqb c b) bytes → has_byte b bytes ≡ false
none_lacks b bytes e = go (ltb (first_of_byte b bytes) (length bytes)) refl e
  where
    go : (t : Bool) → ltb (first_of_byte b bytes) (length bytes) ≡ t → None ≡ cond t (Some (first_of_byte b bytes)) None → has_byte b bytes ≡ false
    go true t h = absurd cc
    go false t h = first_lacks b bytes (ltb-false _ _ t)

pub some_there : (bytes : List ℕ) → eqb (length bytes) 0 ≡ false → 0 < length bytes
some_there [] e = cc
some_there (b ∷ bytes) e = omega arith

-- a list that lacks the byte isn't cut at it
pub not_cut : (b : ℕ) (bytes x a : List ℕ) → has_byte b bytes ≡ false → bytes ≡ x ++ b ∷ a → ⊥
not_cut b bytes [] a h e = let here : has_byte b (b ∷ a) ≡ false = ap (has_byte b) (sym e) ∙ h in eqb-false b b (or_parts (eqb b b) (has_byte b a) here).0 refl
not_cut b [] (c ∷ x) a h e = cc
not_cut b (d ∷ bytes) (c ∷ x) a h e = not_cut b bytes x a (or_parts (eqb d b) (has_byte b bytes) h).1 cc

-- both parts lack the byte
pub lacks_append : (b : ℕ) (x y : List ℕ) → has_byte b x ≡ false → has_byte b y ≡ false → has_byte b (x ++ y) ≡ false
lacks_append b x y hx hy = list_any-append (λ c. eqb c b) x y ∙ rw (hx, hy) refl

-- so do two parts with a blank between them
pub newline_in : (x y : List ℕ) → has_byte 10 x ≡ false → has_byte 10 y ≡ false → has_byte 10 (x ++ 32 ∷ y) ≡ false
newline_in x y hx hy = lacks_append 10 x (32 ∷ y) hx hy

-- ---- fields: bytes behind the blank

-- each byte is behind the blank
abbrev pub IsClear : List ℕ → Type 0
IsClear bytes = AllByRecursion (λ b. 32 < b) bytes

pub clear_append : (x y : List ℕ) → IsClear x → IsClear y → IsClear (x ++ y)
clear_append [] y hx hy = hy
clear_append (b ∷ x) y hx hy = (hx.0, clear_append x y hx.1 hy)

-- neither a blank nor a newline stands in a field
pub clear_lacks : (c : ℕ) (x : List ℕ) → c ≤ 32 → IsClear x → has_byte c x ≡ false
clear_lacks c [] le h = refl
clear_lacks c (b ∷ x) le h = rw (apart c b le h.0, clear_lacks c x le h.1) refl
  where
    apart : (c b : ℕ) → c ≤ 32 → 32 < b → eqb b c ≡ false
    apart c b le lt = grind arith
