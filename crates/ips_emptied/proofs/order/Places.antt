-- Places that are marked, and the paths at them.
use Rattle.std.proofs.Common.{◌≡◌, ℕ, zero, suc, ◌+◌, ◌<◌, ◌≤◌, Bool, true, false, cond, List, [], ◌∷◌, ◌++◌, map, filter, length, take, get_or, refl, sym, ap, ◌∙◌, arith}
use Rattle.std.specs.List.{AllByRecursion}
use Rattle.std.proofs.lemmas.List.{append_assoc, length-take-le, map-append}
use Rattle.ips_text.proofs.Lists.{all_append, take_item}
use Rattle.ips_after.specs.Lists.{turned}
use Rattle.ips_emptied.specs.order.Chosen.{chosen, path_in, turned_places}

-- one place more
pub chosen_more : (k : ℕ) (marks : List Bool) (b : Bool) → chosen k (marks ++ b ∷ []) ≡ chosen k marks ++ cond b ((k + length marks) ∷ []) []
chosen_more k [] true = ap (λ (n : ℕ). n ∷ []) (omega arith)
chosen_more k [] false = refl
chosen_more k (a ∷ marks) b = go a (chosen_more (k + 1) marks b)
  where
    count : k + 1 + length marks ≡ k + length (a ∷ marks)
    count = omega arith

    go : (c : Bool) → chosen (k + 1) (marks ++ b ∷ []) ≡ chosen (k + 1) marks ++ cond b ((k + 1 + length marks) ∷ []) []
        → cond c (k ∷ chosen (k + 1) (marks ++ b ∷ [])) (chosen (k + 1) (marks ++ b ∷ [])) ≡ cond c (k ∷ chosen (k + 1) marks) (chosen (k + 1) marks) ++ cond b ((k + length (a ∷ marks)) ∷ []) []
    go true e = ap (λ (l : List ℕ). k ∷ l) (e ∙ ap (λ (n : ℕ). chosen (k + 1) marks ++ cond b (n ∷ []) []) count)
    go false e = e ∙ ap (λ (n : ℕ). chosen (k + 1) marks ++ cond b (n ∷ []) []) count

-- the paths at the places that a test marks are those that pass it
at_cons : (x : List ℕ) (paths : List (List ℕ)) (k : ℕ) (marks : List Bool) → map (path_in (x ∷ paths)) (chosen (k + 1) marks) ≡ map (path_in paths) (chosen k marks)
at_cons x paths k [] = refl
at_cons x paths k (a ∷ marks) = go a (at_cons x paths (k + 1) marks)
  where
    go : (c : Bool) → map (path_in (x ∷ paths)) (chosen (k + 1 + 1) marks) ≡ map (path_in paths) (chosen (k + 1) marks)
        → map (path_in (x ∷ paths)) (cond c ((k + 1) ∷ chosen (k + 1 + 1) marks) (chosen (k + 1 + 1) marks)) ≡ map (path_in paths) (cond c (k ∷ chosen (k + 1) marks) (chosen (k + 1) marks))
    go true e =
        let next : k + 1 ≡ suc k = omega arith in
        let here : path_in (x ∷ paths) (k + 1) ≡ path_in paths k = ap (path_in (x ∷ paths)) next in
        rw (here, e) refl
    go false e = e

pub chosen_paths : (test : List ℕ → Bool) (paths : List (List ℕ)) → map (path_in paths) (chosen 0 (map test paths)) ≡ filter test paths
chosen_paths test [] = refl
chosen_paths test (p ∷ paths) = go (test p) (at_cons p paths 0 (map test paths) ∙ chosen_paths test paths)
  where
    go : (c : Bool) → map (path_in (p ∷ paths)) (chosen 1 (map test paths)) ≡ filter test paths
        → map (path_in (p ∷ paths)) (cond c (0 ∷ chosen 1 (map test paths)) (chosen 1 (map test paths))) ≡ cond c (p ∷ filter test paths) (filter test paths)
    go true e = ap (λ (l : List (List ℕ)). p ∷ l) e
    go false e = e

pub turned_paths : (paths : List (List ℕ)) (places : List ℕ) → map (path_in paths) (turned_places places) ≡ turned (map (path_in paths) places)
turned_paths paths [] = refl
turned_paths paths (i ∷ places) = map-append (path_in paths) (turned_places places) (i ∷ []) ∙ ap (λ (l : List (List ℕ)). l ++ path_in paths i ∷ []) (turned_paths paths places)

any_default : (xs : List Bool) (i : ℕ) (d e : Bool) → i < length xs → get_or xs i d ≡ get_or xs i e
any_default [] i d e lt = absurd (omega arith)
any_default (x ∷ xs) zero d e lt = refl
any_default (x ∷ xs) (suc i) d e lt = any_default xs i d e (omega (arith, lt))

-- a place that is marked is added to those before it, and one that isn't is passed over
pub place_on : (old before after : List ℕ) (marks : List Bool) (i : ℕ) (b : Bool) → i < length marks → b ≡ get_or marks i false → before ≡ old ++ chosen 0 (take i marks) → after ≡ before ++ cond b (i ∷ []) [] → after ≡ old ++ chosen 0 (take (i + 1) marks)
place_on old before after marks i b lt is so_far more =
    let count : 0 + length (take i marks) ≡ i = omega (arith, length-take-le i marks (omega (arith, lt)), lt) in
    more ∙ ap (λ (l : List ℕ). l ++ cond b (i ∷ []) []) so_far ∙ append_assoc old (chosen 0 (take i marks)) (cond b (i ∷ []) [])
    ∙ ap (λ (n : ℕ). old ++ (chosen 0 (take i marks) ++ cond b (n ∷ []) [])) (sym count) ∙ ap (λ (l : List ℕ). old ++ l) (sym (chosen_more 0 (take i marks) b))
    ∙ ap (λ (l : List Bool). old ++ chosen 0 l) (sym (take_item marks i b lt (is ∙ any_default marks i false b lt)))

-- ---- within a list

pub chosen_within : (n k : ℕ) (marks : List Bool) → k + length marks ≤ n → AllByRecursion (λ i. i < n) (chosen k marks)
chosen_within n k [] le = tt
chosen_within n k (b ∷ marks) le = go b (chosen_within n (k + 1) marks (omega (arith, le)))
  where
    go : (b : Bool) → AllByRecursion (λ i. i < n) (chosen (k + 1) marks) → AllByRecursion (λ i. i < n) (cond b (k ∷ chosen (k + 1) marks) (chosen (k + 1) marks))
    go true rest = (omega (arith, le), rest)
    go false rest = rest

pub turned_within : (P : ℕ → Type 0) (xs : List ℕ) → AllByRecursion P xs → AllByRecursion P (turned_places xs)
turned_within P [] all = tt
turned_within P (x ∷ xs) all = all_append P (turned_places xs) (x ∷ []) (turned_within P xs all.1) (all.0, tt)
