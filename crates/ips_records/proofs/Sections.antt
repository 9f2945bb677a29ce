-- Files of two sections that are told apart line by line: where they go wrong.
use Rattle.std.proofs.Common.{◌≡◌, ℕ, ◌+◌, Bool, true, false, not, List, [], ◌∷◌, ◌++◌, length, refl, sym, ◌∙◌, ap, ap₂, subst, append_assoc, arith, length-append}
use Rattle.std.specs.List.{list_all}
use Rattle.std.proofs.lemmas.Bool.{and_parts, true≢false}
use Rattle.std.proofs.lemmas.List.{append-nil}
use Rattle.std.proofs.lemmas.List.Folds.{list_all-append}
use Rattle.ips_text.proofs.Truths.{not_true}
use Rattle.ips_records.specs.Lines.{BeginsFile, StopsFile, IsFirstBadLine}
use Rattle.ips_records.specs.Sections.{IsBoth, StartsOther}

module _ (mine : List ℕ → Bool) where
  abbrev AllMine : List (List ℕ) → Type 0
  AllMine lines = list_all mine lines ≡ true

  abbrev NoneMine : List (List ℕ) → Type 0
  NoneMine lines = list_all (λ line. not (mine line)) lines ≡ true

  apart : (x y : List ℕ) → mine x ≡ true → mine y ≡ false → x ≡ y → ⊥
  apart x y ex ey e = true≢false (sym ex ∙ ap mine e ∙ ey)

  first_other : (y : List ℕ) (b : List (List ℕ)) → NoneMine (y ∷ b) → mine y ≡ false
  first_other y b n = not_true (mine y) (and_parts (not (mine y)) (list_all (λ line. not (mine line)) b) n).0

  first_mine : (x : List ℕ) (a : List (List ℕ)) → AllMine (x ∷ a) → mine x ≡ true
  first_mine x a m = (and_parts (mine x) (list_all mine a) m).0

  rest_mine : (x : List ℕ) (a : List (List ℕ)) → AllMine (x ∷ a) → AllMine a
  rest_mine x a m = (and_parts (mine x) (list_all mine a) m).1

  -- the lines that pass end where one comes that doesn't
  split_once : (a b r s : List (List ℕ)) → AllMine a → NoneMine b → AllMine r → StartsOther mine s → a ++ b ≡ r ++ s → (a ≡ r) × (b ≡ s)
  split_once [] b [] s ma nb mr ns e = (refl, e)
  split_once [] [] (y ∷ r) s ma nb mr ns e = absurd cc
  split_once [] (x ∷ b) (y ∷ r) s ma nb mr ns e = let same : y ≡ x = cc in absurd (apart y x (first_mine y r mr) (first_other x b nb) same)
  split_once (x ∷ a) b [] [] ma nb mr ns e = absurd cc
  split_once (x ∷ a) b [] (z ∷ s) ma nb mr ns e = let same : x ≡ z = cc in absurd (apart x z (first_mine x a ma) ns same)
  split_once (x ∷ a) b (y ∷ r) s ma nb mr ns e =
      let first : x ≡ y = cc in
      let tail : a ++ b ≡ r ++ s = cc in
      let h = split_once a b r s (rest_mine x a ma) nb (rest_mine y r mr) ns tail in
      (rw (first, h.0) refl, h.1)

  -- lines that pass belong to the first section
  covers : (p more a b : List (List ℕ)) → AllMine p → NoneMine b → p ++ more ≡ a ++ b → (rest : List (List ℕ)) × (a ≡ p ++ rest)
  covers [] more a b mp nb e = (a, refl)
  covers (x ∷ p) more [] [] mp nb e = absurd cc
  covers (x ∷ p) more [] (y ∷ b) mp nb e = let same : x ≡ y = cc in absurd (apart x y (first_mine x p mp) (first_other y b nb) same)
  covers (x ∷ p) more (y ∷ a) b mp nb e =
      let first : x ≡ y = cc in
      let tail : p ++ more ≡ a ++ b = cc in
      let h = covers p more a b (rest_mine x p mp) nb tail in
      (h.0, ap₂ (λ (l : List ℕ) (ls : List (List ℕ)). l ∷ ls) (sym first) h.1)

  mine_append : (p q : List (List ℕ)) → AllMine (p ++ q) → AllMine p
  mine_append p q m = (and_parts (list_all mine p) (list_all mine q) (sym (list_all-append mine p q) ∙ m)).0

  starts_alike : (front : List (List ℕ)) (line : List ℕ) (rest more : List (List ℕ)) → StartsOther mine (front ++ line ∷ rest) → StartsOther mine (front ++ line ∷ more)
  starts_alike [] line rest more h = h
  starts_alike (x ∷ front) line rest more h = h

  module _ (First : List (List ℕ) → Type 0) (Second : List (List ℕ) → List (List ℕ) → Type 0)
      (firsts : (a : List (List ℕ)) → First a → AllMine a) (seconds : (a b : List (List ℕ)) → Second a b → NoneMine b) where
    -- what a file of both has behind lines that pass
    both_split : (lines r s : List (List ℕ)) → AllMine r → StartsOther mine s → lines ≡ r ++ s → IsBoth First Second lines → First r × Second r s
    both_split lines r s mr ns e h =
        let parts = split_once h.0 h.1 r s (firsts h.0 h.2) (seconds h.0 h.1 h.3) mr ns (sym h.4 ∙ e) in
        (subst First parts.0 h.2, subst (λ (b : List (List ℕ)). Second r b) parts.1 (subst (λ (a : List (List ℕ)). Second a h.1) parts.0 h.3))

    module _ (lines r s : List (List ℕ)) (mr : AllMine r) (ns : StartsOther mine s) (cut : lines ≡ r ++ s) where
      -- where the first section goes wrong, both do
      pub bad_first : (n : ℕ) → ((a : List (List ℕ)) → First a → (b : List (List ℕ)) × Second a b) → IsFirstBadLine First r n → IsFirstBadLine (IsBoth First Second) lines n
      bad_first n some bad = record {
        front = bad.front;
        rest = bad.rest ++ s;
        cut = cut ∙ ap (λ (l : List (List ℕ)). l ++ s) bad.cut ∙ append_assoc bad.front bad.rest s;
        place = bad.place;
        begins =
            let second = some (bad.front ++ bad.begins.0) bad.begins.1 in
            (bad.begins.0 ++ second.0, (bad.front ++ bad.begins.0, second.0, bad.begins.1, second.1, sym (append_assoc bad.front bad.begins.0 second.0)));
        stops = stops_first bad.front bad.rest s bad.cut ns bad.stops;
      }
        where
          stops_first : (front rest after : List (List ℕ)) → r ≡ front ++ rest → StartsOther mine after → StopsFile First front rest → StopsFile (IsBoth First Second) front (rest ++ after)
          stops_first front [] [] is other stop = λ h. stop (both_split front front [] (mine_append front [] (subst AllMine is mr)) tt (sym (append-nil front)) h).0
          stops_first front [] (l ∷ after) is other stop = λ h.
              stop (both_split ((front ++ l ∷ []) ++ h.0) front (l ∷ h.0) (mine_append front [] (subst AllMine is mr)) other (append_assoc front (l ∷ []) h.0) h.1).0
          stops_first front (l ∷ rest) after is other stop = λ h.
              let mine_here : AllMine (front ++ l ∷ []) = mine_append (front ++ l ∷ []) rest (subst AllMine (is ∙ sym (append_assoc front (l ∷ []) rest)) mr) in
              let c = covers (front ++ l ∷ []) h.0 h.1.0 h.1.1 mine_here (seconds h.1.0 h.1.1 h.1.3) h.1.4 in
              stop (c.0, subst First c.1 h.1.2)

      -- where the second section goes wrong behind a whole first one, both do
      pub bad_second : (n : ℕ) → First r → IsFirstBadLine (Second r) s n → IsFirstBadLine (IsBoth First Second) lines (length r + n)
      bad_second n first bad = record {
        front = r ++ bad.front;
        rest = bad.rest;
        cut = cut ∙ ap (λ (l : List (List ℕ)). r ++ l) bad.cut ∙ sym (append_assoc r bad.front bad.rest);
        place = omega (arith, bad.place, length-append r bad.front);
        begins = (bad.begins.0, (r, bad.front ++ bad.begins.0, first, bad.begins.1, append_assoc r bad.front bad.begins.0));
        stops = stops_second bad.front bad.rest bad.cut bad.stops;
      }
        where
          stops_second : (front rest : List (List ℕ)) → s ≡ front ++ rest → StopsFile (Second r) front rest → StopsFile (IsBoth First Second) (r ++ front) rest
          stops_second front [] is stop = λ h. stop (both_split (r ++ front) r front mr (subst (StartsOther mine) (is ∙ append-nil front) ns) refl h).1
          stops_second front (l ∷ rest) is stop = λ h.
              let other = starts_alike front l rest h.0 (subst (StartsOther mine) is ns) in
              let whole : ((r ++ front) ++ l ∷ []) ++ h.0 ≡ r ++ (front ++ l ∷ h.0) =
              append_assoc (r ++ front) (l ∷ []) h.0 ∙ append_assoc r front (l ∷ h.0) in
              let second = (both_split (((r ++ front) ++ l ∷ []) ++ h.0) r (front ++ l ∷ h.0) mr other whole h.1).1 in
              stop (h.0, subst (λ (b : List (List ℕ)). Second r b) (sym (append_assoc front (l ∷ []) h.0)) second)
