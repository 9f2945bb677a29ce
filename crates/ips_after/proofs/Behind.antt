-- Paths behind paths, and names with suffixes, are paths where they aren't too long.
use Rattle.std.proofs.Common.{◌≡◌, ℕ, ◌≤◌, Bool, true, false, cond, ◌==◌, eqb, ltb, List, [], ◌∷◌, ◌++◌, length, IsUtf8, inl, inr, ◌⊎◌, refl, sym, ap, ◌∙◌, subst, arith, length-append}
use Rattle.std.specs.Prelude.{nat_lt}
use Rattle.std.specs.List.{list_any, list_all, onto_first}
use Rattle.std.proofs.lemmas.Bool.{and_parts, or_parts, or_from, false_from_ne_true, eqb-true, lt-ltb, false≢true}
use Rattle.std.proofs.lemmas.List.Folds.{list_any-append}
use Rattle.std.proofs.lemmas.Str.{IsUtf8-append}
use Rattle.ips_text.specs.Ancestry.{covers}
use Rattle.ips_text.specs.Path.{IsPath, parts, is_dots, is_nothing, is_long, begins_at_root}
use Rattle.ips_text.specs.declared.path.PathFault.TheVariants.{Empty, Absolute, DotPart, EmptyPart, NulByte, NotText, TooLong}
use Rattle.ips_text.proofs.Fronts.{ascii_text, front_path, parts_at, some_part}
use Rattle.ips_after.specs.Salvage.{is_long_path}

-- the bytes are a path but for their number
pub record IsButLong (q : List ℕ) : Type 0 where
  pub some : is_nothing q ≡ false
  pub root : begins_at_root q ≡ false
  pub dots : list_any is_dots (parts q) ≡ false
  pub empty : list_any is_nothing (parts q) ≡ false
  pub nul : list_any (λ b. b == 0) q ≡ false
  pub text : (IsUtf8 q → ⊥) → ⊥

pub but_long : (q : List ℕ) → IsPath q → IsButLong q
but_long q is = record {
  some = false_from_ne_true _ (is Empty);
  root = false_from_ne_true _ (is Absolute);
  dots = false_from_ne_true _ (is DotPart);
  empty = false_from_ne_true _ (is EmptyPart);
  nul = false_from_ne_true _ (is NulByte);
  text = is NotText;
}

pub not_long : (q : List ℕ) → IsButLong q → is_long_path q ≡ false → IsPath q
not_long q is short Empty h = false≢true (sym is.some ∙ h)
not_long q is short Absolute h = false≢true (sym is.root ∙ h)
not_long q is short DotPart h = false≢true (sym is.dots ∙ h)
not_long q is short EmptyPart h = false≢true (sym is.empty ∙ h)
not_long q is short NulByte h = false≢true (sym is.nul ∙ h)
not_long q is short NotText h = is.text h
not_long q is short TooLong h = let both = or_parts (nat_lt 1023 (length q)) (list_any is_long (parts q)) short in elim h [
  | inl far ↦ false≢true (sym both.0 ∙ lt-ltb 1023 (length q) far)
  | inr part ↦ false≢true (sym both.1 ∙ part)
]

slash_text : IsUtf8 (47 ∷ [])
slash_text = ascii_text (47 ∷ []) refl

not_nothing : (b : ℕ) (q : List ℕ) → is_nothing (b ∷ q) ≡ false
not_nothing b q = false_from_ne_true _ (λ h. let none = eqb-true (length (b ∷ q)) 0 h in absurd (omega arith))

-- a path behind a path
pub behind_path : (p q : List ℕ) → IsButLong p → IsButLong q → IsButLong (p ++ 47 ∷ q)
behind_path p q a b = record {
  some = some p;
  root = root p a.some a.root;
  dots = ap (list_any is_dots) (parts_at p q) ∙ list_any-append is_dots (parts p) (parts q) ∙ or_from _ _ a.dots b.dots;
  empty = ap (list_any is_nothing) (parts_at p q) ∙ list_any-append is_nothing (parts p) (parts q) ∙ or_from _ _ a.empty b.empty;
  nul = list_any-append (λ x. x == 0) p (47 ∷ q) ∙ or_from _ _ a.nul b.nul;
  text = λ no. a.text (λ up. b.text (λ uq. no (IsUtf8-append p (47 ∷ q) up (IsUtf8-append (47 ∷ []) q slash_text uq))));
}
  where
    some : (p : List ℕ) → is_nothing (p ++ 47 ∷ q) ≡ false
    some [] = not_nothing 47 q
    some (x ∷ p) = not_nothing x (p ++ 47 ∷ q)

    root : (p : List ℕ) → is_nothing p ≡ false → begins_at_root p ≡ false → begins_at_root (p ++ 47 ∷ q) ≡ false
    root [] s r = absurd (false≢true (sym s))
    root (x ∷ p) s r = r

-- a suffix: one part of ASCII bytes, of two bytes at least
pub record IsSuffix (s : List ℕ) : Type 0 where
  pub part : parts s ≡ s ∷ []
  pub nul : list_any (λ b. b == 0) s ≡ false
  pub ascii : list_all (λ b. ltb b 128) s ≡ true
  pub long : 2 ≤ length s

-- the last part with the suffix
abbrev on_last : List ℕ → List (List ℕ) → List (List ℕ)
on_last s [] = []
on_last s (x ∷ []) = (x ++ s) ∷ []
on_last s (x ∷ y ∷ rest) = x ∷ on_last s (y ∷ rest)

first_last : (b : ℕ) (s x : List ℕ) (rest : List (List ℕ)) → onto_first b (on_last s (x ∷ rest)) ≡ on_last s (onto_first b (x ∷ rest))
first_last b s x [] = refl
first_last b s x (y ∷ rest) = refl

empty_last : (s x : List ℕ) (rest : List (List ℕ)) → [] ∷ on_last s (x ∷ rest) ≡ on_last s ([] ∷ x ∷ rest)
empty_last s x rest = refl

suffixed_parts : (p s : List ℕ) → parts s ≡ s ∷ [] → parts (p ++ s) ≡ on_last s (parts p)
suffixed_parts [] s one = one
suffixed_parts (b ∷ p) s one = go (eqb b 47) (suffixed_parts p s one) (some_part p)
  where
    go : (t : Bool) → parts (p ++ s) ≡ on_last s (parts p) → ((x : List ℕ) × (xs : List (List ℕ)) × (parts p ≡ x ∷ xs))
        → cond t ([] ∷ parts (p ++ s)) (onto_first b (parts (p ++ s))) ≡ on_last s (cond t ([] ∷ parts p) (onto_first b (parts p)))
    go true e w = rw (e, w.2) refl
    go false e w = rw (e, w.2) (first_last b s w.0 w.1)

far_dots : (x : List ℕ) → 3 ≤ length x → is_dots x ≡ false
far_dots [] h = absurd (omega arith)
far_dots (a ∷ []) h = absurd (omega arith)
far_dots (a ∷ b ∷ []) h = absurd (omega arith)
far_dots (a ∷ b ∷ c ∷ x) h = refl

some_length : (x : List ℕ) → is_nothing x ≡ false → 1 ≤ length x
some_length [] h = absurd (false≢true (sym h))
some_length (a ∷ x) h = omega arith

last_dots : (s : List ℕ) (l : List (List ℕ)) → 2 ≤ length s → list_any is_nothing l ≡ false → list_any is_dots l ≡ false → list_any is_dots (on_last s l) ≡ false
last_dots s [] long empty dots = refl
last_dots s (x ∷ []) long empty dots = or_from _ _ (far_dots (x ++ s) (let one = some_length x (or_parts (is_nothing x) false empty).0 in omega (arith, length-append x s))) refl
last_dots s (x ∷ y ∷ rest) long empty dots =
    let e = or_parts (is_nothing x) (list_any is_nothing (y ∷ rest)) empty in
    let d = or_parts (is_dots x) (list_any is_dots (y ∷ rest)) dots in
    or_from _ _ d.0 (last_dots s (y ∷ rest) long e.1 d.1)

more_nothing : (x s : List ℕ) → is_nothing x ≡ false → is_nothing (x ++ s) ≡ false
more_nothing [] s h = absurd (false≢true (sym h))
more_nothing (a ∷ x) s h = not_nothing a (x ++ s)

last_empty : (s : List ℕ) (l : List (List ℕ)) → list_any is_nothing l ≡ false → list_any is_nothing (on_last s l) ≡ false
last_empty s [] empty = refl
last_empty s (x ∷ []) empty = or_from _ _ (more_nothing x s (or_parts (is_nothing x) false empty).0) refl
last_empty s (x ∷ y ∷ rest) empty = let e = or_parts (is_nothing x) (list_any is_nothing (y ∷ rest)) empty in or_from _ _ e.0 (last_empty s (y ∷ rest) e.1)

-- a path with a suffix
pub suffixed_path : (p s : List ℕ) → IsButLong p → IsSuffix s → IsButLong (p ++ s)
suffixed_path p s a b = record {
  some = more_nothing p s a.some;
  root = root p a.some a.root;
  dots = ap (list_any is_dots) (suffixed_parts p s b.part) ∙ last_dots s (parts p) b.long a.empty a.dots;
  empty = ap (list_any is_nothing) (suffixed_parts p s b.part) ∙ last_empty s (parts p) a.empty;
  nul = list_any-append (λ x. x == 0) p s ∙ or_from _ _ a.nul b.nul;
  text = λ no. a.text (λ up. no (IsUtf8-append p s up (ascii_text s b.ascii)));
}
  where
    root : (p : List ℕ) → is_nothing p ≡ false → begins_at_root p ≡ false → begins_at_root (p ++ s) ≡ false
    root [] n r = absurd (false≢true (sym n))
    root (x ∷ p) n r = r

-- what is at or above a path is one
pub above_path : (q p : List ℕ) → IsPath q → covers p q ≡ true → IsPath p
above_path q p path over = elim (cases p q over) [ inl same ↦ subst IsPath (sym same) path | inr w ↦ front_path p w.0 (subst IsPath w.1 path) ]
  where
    cases : (p q : List ℕ) → covers p q ≡ true → (p ≡ q) ⊎ ((r : List ℕ) × (q ≡ p ++ 47 ∷ r))
    cases [] [] h = inl refl
    cases [] (b ∷ q) h = inr (q, ap (λ (x : ℕ). x ∷ q) (eqb-true b 47 h))
    cases (a ∷ p) [] h = absurd (false≢true h)
    cases (a ∷ p) (b ∷ q) h =
        let w = and_parts (a == b) (covers p q) h in
        let same = eqb-true a b w.0 in
        go same (cases p q w.1)
      where
        go : a ≡ b → (p ≡ q) ⊎ ((r : List ℕ) × (q ≡ p ++ 47 ∷ r)) → (a ∷ p ≡ b ∷ q) ⊎ ((r : List ℕ) × (b ∷ q ≡ (a ∷ p) ++ 47 ∷ r))
        go same (inl e) = inl (ap (λ (x : ℕ). x ∷ p) same ∙ ap (λ (l : List ℕ). b ∷ l) e)
        go same (inr w) = inr (w.0, ap (λ (x : ℕ). x ∷ q) (sym same) ∙ ap (λ (l : List ℕ). a ∷ l) w.1)
