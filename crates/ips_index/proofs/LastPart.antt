-- The last part of a path, behind its last `/`.
use Rattle.std.proofs.Common.{◌≡◌, ℕ, ◌<◌, ◌+◌, false, eqb, List, [], ◌∷◌, ◌++◌, length, take, drop, get_or, refl, sym, ◌∙◌, ap, arith}
use Rattle.std.specs.Prelude.{◌≢◌}
use Rattle.std.proofs.lemmas.Bool.{ne_eqb}
use Rattle.std.proofs.lemmas.List.{take-append-drop, drop_more, get_or-drop, length-drop}
use Rattle.std.proofs.lemmas.List.Elements.{All-from_get_or}
use Rattle.std.proofs.lemmas.List.Splits.{slice_split_none}
use Rattle.ips_text.specs.Path.{parts}
use Rattle.ips_text.proofs.Fronts.{some_part, parts_at}
use Rattle.ips_action.specs.Check.{last_of}

last_behind : (front : List (List ℕ)) (x : List ℕ) (xs : List (List ℕ)) → last_of (front ++ x ∷ xs) ≡ last_of (x ∷ xs)
last_behind [] x xs = refl
last_behind (f ∷ []) x xs = refl
last_behind (f ∷ g ∷ front) x xs = last_behind (g ∷ front) x xs

-- what stands behind a `/` has the same last part
last_moved : (text before rest : List ℕ) → text ≡ before ++ 47 ∷ rest → last_of (parts rest) ≡ last_of (parts text)
last_moved text before rest e = go (some_part rest)
  where
    go : (x : List ℕ) × (xs : List (List ℕ)) × (parts rest ≡ x ∷ xs) → last_of (parts rest) ≡ last_of (parts text)
    go w = sym (ap (λ t. last_of (parts t)) e ∙ ap last_of (parts_at before rest) ∙ ap (λ (l : List (List ℕ)). last_of (parts before ++ l)) w.2 ∙ last_behind (parts before) w.0 w.1 ∙ ap last_of (sym w.2))

-- a text without `/` is its last part
pub last_whole : (text : List ℕ) → ((i : ℕ) → i < length text → get_or text i 0 ≢ 47) → last_of (parts text) ≡ text
last_whole text none = ap last_of (slice_split_none (λ b. eqb b 47) text (All-from_get_or (λ b. eqb b 47 ≡ false) text 0 (λ i within. ne_eqb (get_or text i 0) 47 (none i within))))

-- what stands behind the last `/` is the last part
pub last_from : (text : List ℕ) (slash : ℕ) → slash < length text → get_or text slash 0 ≡ 47 → ((i : ℕ) → slash < i → i < length text → get_or text i 0 ≢ 47) → drop (slash + 1) text ≡ last_of (parts text)
last_from text slash within is none =
    sym (last_whole rest (λ i short e. none (slash + 1 + i) (omega arith) (omega (arith, short, length-drop (slash + 1) text)) (sym (get_or-drop (slash + 1) text i 0) ∙ e)))
    ∙ last_moved text (take slash text) rest (sym (take-append-drop slash text) ∙ ap (λ (l : List ℕ). take slash text ++ l) (drop_more text slash 0 within ∙ ap (λ (b : ℕ). b ∷ rest) is))
  where
    rest : List ℕ
    rest = drop (slash + 1) text
