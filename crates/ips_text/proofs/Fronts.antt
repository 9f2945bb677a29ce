-- What stands above a path is one, and texts of ASCII bytes are paths.
use Rattle.std.proofs.Common.{◌≡◌, ℕ, ◌+◌, ◌<◌, ◌≤◌, Bool, true, false, cond, ◌||◌, ◌==◌, eqb, ltb, List, [], ◌∷◌, ◌++◌, length, IsUtf8, inl, inr, ⊎_elim, get_or, refl, sym, ap, ◌∙◌, subst, arith, length-append}
use Rattle.std.specs.Prelude.{codes}
use Rattle.std.specs.List.{list_any, list_all, onto_first}
use Rattle.std.proofs.lemmas.Bool.{eqb-true, false≢true, cases_lt}
use borrow.Author.Tests.{ltb-true}
use Rattle.std.proofs.lemmas.List.{get_or_past}
use Rattle.std.proofs.lemmas.List.Sums.{AllPass-from_list_all}
use Rattle.std.proofs.lemmas.List.Folds.{list_any-append}
use Rattle.std.proofs.Math.Seq.{take-append_seam, drop-append-add}
use Rattle.std.proofs.lemmas.Str.{IsUtf8-append, IsUtf8-from_ascii, IsUtf8-take, IsUtf8-drop, IsCharBoundary-after_ascii, IsCharBoundary-at_seam}
use Rattle.ips_text.specs.Path.{IsPath, parts, is_dots, is_nothing, is_long, begins_at_root}
use Rattle.ips_text.specs.declared.path.PathFault.TheVariants.{Empty, Absolute, DotPart, EmptyPart, NulByte, NotText, TooLong}

-- ---- parts

pub some_part : (bs : List ℕ) → (x : List ℕ) × (xs : List (List ℕ)) × (parts bs ≡ x ∷ xs)
some_part [] = ([], [], refl)
some_part (b ∷ bs) = go (eqb b 47) (parts bs)
  where
    go : (t : Bool) (rest : List (List ℕ)) → (x : List ℕ) × (xs : List (List ℕ)) × (cond t ([] ∷ rest) (onto_first b rest) ≡ x ∷ xs)
    go true rest = ([], rest, refl)
    go false [] = (b ∷ [], [], refl)
    go false (x ∷ xs) = (b ∷ x, xs, refl)

-- the parts before and behind a `/`
pub parts_at : (q r : List ℕ) → parts (q ++ 47 ∷ r) ≡ parts q ++ parts r
parts_at [] r = refl
parts_at (b ∷ q) r = go (eqb b 47) (parts_at q r) (some_part q)
  where
    go : (t : Bool) → parts (q ++ 47 ∷ r) ≡ parts q ++ parts r → ((x : List ℕ) × (xs : List (List ℕ)) × (parts q ≡ x ∷ xs))
        → cond t ([] ∷ parts (q ++ 47 ∷ r)) (onto_first b (parts (q ++ 47 ∷ r))) ≡ cond t ([] ∷ parts q) (onto_first b (parts q)) ++ parts r
    go true e w = ap (λ (l : List (List ℕ)). [] ∷ l) e
    go false e w = rw (e, w.2) refl

pub or_left : (a b : Bool) → a ≡ true → (a || b) ≡ true
or_left a b e = rw e refl

pub any_front : (test : List ℕ → Bool) (q last : List ℕ) → list_any test (parts q) ≡ true → list_any test (parts (q ++ 47 ∷ last)) ≡ true
any_front test q last h = ap (list_any test) (parts_at q last) ∙ list_any-append test (parts q) (parts last) ∙ or_left (list_any test (parts q)) (list_any test (parts last)) h

pub ascii_text : (text : List ℕ) → list_all (λ b. ltb b 128) text ≡ true → IsUtf8 text
ascii_text text e =
    let each = AllPass-from_list_all (λ b. ltb b 128) text e in
    IsUtf8-from_ascii text (λ i. ⊎_elim (λ lt. ltb-true _ 128 (each i 0 lt)) (λ past. rw (get_or_past text i 0 past) (omega arith)) (cases_lt i (length text)))

pub front_text : (q last : List ℕ) → IsUtf8 (q ++ 47 ∷ last) → IsUtf8 q
front_text q last u =
    let within : length q < length (q ++ 47 ∷ last) = omega (arith, length-append q (47 ∷ last)) in
    let mark : get_or (q ++ 47 ∷ last) (length q) 0 ≡ 47 = at_mark q in
    let behind_mark : IsUtf8 last = subst IsUtf8 (drop-append-add q (47 ∷ last) 1) (IsUtf8-drop (q ++ 47 ∷ last) (length q + 1) u (IsCharBoundary-after_ascii (q ++ 47 ∷ last) (length q) u within (omega arith))) in
    let from_mark : IsUtf8 (47 ∷ last) = IsUtf8-append (47 ∷ []) last slash behind_mark in
    subst IsUtf8 (take-append_seam q (47 ∷ last)) (IsUtf8-take (q ++ 47 ∷ last) (length q) u (IsCharBoundary-at_seam (q ++ 47 ∷ last) q (47 ∷ last) refl from_mark))
  where
    at_mark : (q : List ℕ) → get_or (q ++ 47 ∷ last) (length q) 0 ≡ 47
    at_mark [] = refl
    at_mark (b ∷ q) = at_mark q

    slash : IsUtf8 (47 ∷ [])
    slash = ascii_text (47 ∷ []) refl

pub root_front : (q last : List ℕ) → begins_at_root q ≡ true → begins_at_root (q ++ 47 ∷ last) ≡ true
root_front [] last e = refl
root_front (b ∷ q) last e = e

pub root_empty : (q last : List ℕ) → is_nothing q ≡ true → begins_at_root (q ++ 47 ∷ last) ≡ true
root_empty [] last e = refl
root_empty (b ∷ q) last e = absurd (let none = eqb-true (length (b ∷ q)) 0 e in omega arith)

pub front_path : (q last : List ℕ) → IsPath (q ++ 47 ∷ last) → IsPath q
front_path q last h Empty e = h Absolute (root_empty q last e)
front_path q last h Absolute e = h Absolute (root_front q last e)
front_path q last h DotPart e = h DotPart (any_front is_dots q last e)
front_path q last h EmptyPart e = h EmptyPart (any_front is_nothing q last e)
front_path q last h NulByte e = h NulByte (list_any-append (λ b. b == 0) q (47 ∷ last) ∙ or_left (list_any (λ b. b == 0) q) (list_any (λ b. b == 0) (47 ∷ last)) e)
front_path q last h NotText e = h NotText (λ u. e (front_text q last u))
front_path q last h TooLong e = ⊎_elim (λ long. h TooLong (inl (omega (arith, length-append q (47 ∷ last))))) (λ part. h TooLong (inr (any_front is_long q last part))) e

-- a short text of ASCII bytes is a path
pub ascii_path : (path : List ℕ) → begins_at_root path ≡ false → list_any is_dots (parts path) ≡ false → list_any is_nothing (parts path) ≡ false → list_any (λ b. b == 0) path ≡ false → list_all (λ b. ltb b 128) path ≡ true → length path ≤ 255 → 0 < length path → list_any is_long (parts path) ≡ false → IsPath path
ascii_path path root dots empty nul ascii short some long Empty e = absurd (let none = eqb-true (length path) 0 e in omega arith)
ascii_path path root dots empty nul ascii short some long Absolute e = false≢true (sym root ∙ e)
ascii_path path root dots empty nul ascii short some long DotPart e = false≢true (sym dots ∙ e)
ascii_path path root dots empty nul ascii short some long EmptyPart e = false≢true (sym empty ∙ e)
ascii_path path root dots empty nul ascii short some long NulByte e = false≢true (sym nul ∙ e)
ascii_path path root dots empty nul ascii short some long NotText e = e (ascii_text path ascii)
ascii_path path root dots empty nul ascii short some long TooLong e = elim e [ inl far ↦ absurd (omega arith) | inr part ↦ false≢true (sym long ∙ part) ]

-- the path of the image's own records
pub records_path : IsPath (codes "var/pkg")
records_path = ascii_path (codes "var/pkg") refl refl refl refl refl (omega arith) (omega arith) refl
