-- Items of a file, one a line.
use Rattle.std.proofs.Common.{◌≡◌, ℕ, suc, ◌+◌, List, [], ◌∷◌, ◌++◌, length, map, refl, sym, ◌∙◌, ap, ap₂, subst, append_assoc}
use Rattle.std.proofs.lemmas.List.{append_cancel_right, append-nil}
use Rattle.std.specs.List.{AllByRecursion, IsLastAndRest}
use Rattle.ips_records.specs.Lines.{ended, BeginsFile, StopsFile, IsFirstBadLine}
use Rattle.ips_records.specs.Listed.{Chain, MayEnd, Sole, IsListed, NoneNext}

-- behind the last of these is behind these
end_to : {A : Type 0} (Follows : A → A → Type 0) (front : List A) (last x : A) → Follows last x → MayEnd Follows (front ++ last ∷ []) x
end_to Follows [] last x f = f
end_to Follows (y ∷ []) last x f = f
end_to Follows (y ∷ z ∷ front) last x f = end_to Follows (z ∷ front) last x f

end_from : {A : Type 0} (Follows : A → A → Type 0) (front : List A) (last x : A) → MayEnd Follows (front ++ last ∷ []) x → Follows last x
end_from Follows [] last x f = f
end_from Follows (y ∷ []) last x f = f
end_from Follows (y ∷ z ∷ front) last x f = end_from Follows (z ∷ front) last x f

pub may_end_last : {A : Type 0} (Follows : A → A → Type 0) (items front : List A) (last x : A) → IsLastAndRest items last front → (Follows last x → MayEnd Follows items x) × (MayEnd Follows items x → Follows last x)
may_end_last {A} Follows items front last x h =
    (λ f. subst (λ (l : List A). MayEnd Follows l x) (sym h.0) (end_to Follows front last x f), λ m. end_from Follows front last x (subst (λ (l : List A). MayEnd Follows l x) h.0 m))

pub chain_more : {A : Type 0} (Follows : A → A → Type 0) (items : List A) (x : A) → Chain Follows items → MayEnd Follows items x → Chain Follows (items ++ x ∷ [])
chain_more Follows [] x chain may = tt
chain_more Follows (y ∷ []) x chain may = (may, tt)
chain_more Follows (y ∷ z ∷ items) x chain may = (chain.0, chain_more Follows (z ∷ items) x chain.1 may)

-- an item of a chain may stand behind those before it
chain_may : {A : Type 0} (Follows : A → A → Type 0) (items : List A) (x : A) (rest : List A) → Chain Follows (items ++ x ∷ rest) → MayEnd Follows items x
chain_may Follows [] x rest chain = tt
chain_may Follows (y ∷ []) x rest chain = chain.0
chain_may Follows (y ∷ z ∷ items) x rest chain = chain_may Follows (z ∷ items) x rest chain.1

module _ {A : Type 0} (line : A → List ℕ) (Fits : A → Type 0) (Follows : A → A → Type 0) where
  -- the lines of items
  abbrev lines_from : List A → List (List ℕ)
  lines_from items = map ended (map line items)

  length_lines : (items : List A) → length (lines_from items) ≡ length items
  length_lines [] = refl
  length_lines (x ∷ items) = ap (λ (n : ℕ). suc n) (length_lines items)

  lines_more : (items : List A) (x : A) → lines_from (items ++ x ∷ []) ≡ lines_from items ++ ended (line x) ∷ []
  lines_more [] x = refl
  lines_more (y ∷ items) x = ap (λ (l : List (List ℕ)). ended (line y) ∷ l) (lines_more items x)

  -- with one more line
  pub lines_step : (all : List (List ℕ)) (items : List A) (x : A) (rest behind : List (List ℕ)) → all ≡ lines_from items ++ rest → rest ≡ ended (line x) ∷ behind → all ≡ lines_from (items ++ x ∷ []) ++ behind
  lines_step all items x rest behind ea er =
      ea ∙ ap (λ (l : List (List ℕ)). lines_from items ++ l) er
      ∙ sym (ap (λ (l : List (List ℕ)). l ++ behind) (lines_more items x) ∙ append_assoc (lines_from items) (ended (line x) ∷ []) behind)

  same_item : (a b : A) → Sole line Fits a → Fits b → ended (line a) ≡ ended (line b) → b ≡ a
  same_item a b sole fits e = sole.alone b fits (sym (append_cancel_right (line a) (line b) (10 ∷ []) e))

  all_fit : (items : List A) → AllByRecursion (Sole line Fits) items → AllByRecursion Fits items
  all_fit [] all = tt
  all_fit (x ∷ items) all = (all.0.fits, all_fit items all.1)

  -- items whose lines begin with those of others begin with these others
  begin_alike : (items all : List A) (next : List ℕ) (more : List (List ℕ)) → AllByRecursion (Sole line Fits) items → AllByRecursion Fits all → (lines_from items ++ next ∷ []) ++ more ≡ lines_from all
      → (x : A) × (rest : List A) × (all ≡ items ++ x ∷ rest) × Fits x × (next ≡ ended (line x))
  begin_alike [] [] next more sole others e = absurd cc
  begin_alike [] (x ∷ all) next more sole others e = let here : next ≡ ended (line x) = cc in (x, all, refl, others.0, here)
  begin_alike (y ∷ items) [] next more sole others e = absurd cc
  begin_alike (y ∷ items) (x ∷ all) next more sole others e =
      let first : ended (line y) ≡ ended (line x) = cc in
      let behind : (lines_from items ++ next ∷ []) ++ more ≡ lines_from all = cc in
      let h = begin_alike items all next more sole.1 others.1 behind in
      (h.0, h.1, ap₂ (λ (a : A) (l : List A). a ∷ l) (same_item y x sole.0 others.0 first) h.2, h.3, h.4)

  stops : (items : List A) (lines : List (List ℕ)) → AllByRecursion (Sole line Fits) items → (lines ≡ [] → ⊥) → NoneNext line Fits Follows items lines → StopsFile (IsListed line Fits Follows) (lines_from items) lines
  stops items [] sole some none = absurd (some refl)
  stops items (next ∷ lines) sole some none = λ begins.
      let h = begin_alike items begins.1.0 next begins.0 sole begins.1.1 begins.1.3 in
      none h.0 lines h.3 (chain_may Follows items h.0 h.1 (subst (Chain Follows) h.2 begins.1.2)) (ap (λ (l : List ℕ). l ∷ lines) h.4)

  -- where no item can come next, that line is the first bad one
  pub bad_next : (all : List (List ℕ)) (items : List A) (lines : List (List ℕ)) → AllByRecursion (Sole line Fits) items → Chain Follows items → all ≡ lines_from items ++ lines
      → (lines ≡ [] → ⊥) → NoneNext line Fits Follows items lines → IsFirstBadLine (IsListed line Fits Follows) all (length items + 1)
  bad_next all items lines sole chain cut some none = record {
    front = lines_from items;
    rest = lines;
    cut = cut;
    place = ap (λ (n : ℕ). n + 1) (sym (length_lines items));
    begins = ([], (items, all_fit items sole, chain, append-nil (lines_from items)));
    stops = stops items lines sole some none;
  }

  -- what no line gives can't come next
  pub none_by_line : (items : List A) (here : List ℕ) (lines : List (List ℕ)) → ((x : A) → Fits x → line x ≡ here → ⊥) → NoneNext line Fits Follows items (ended here ∷ lines)
  none_by_line items here lines none x others fits may e =
      let first : ended here ≡ ended (line x) = cc in none x fits (sym (append_cancel_right here (line x) (10 ∷ []) first))

  -- the one item of the line can't, where it may not stand there
  pub none_by_place : (items : List A) (x : A) (lines : List (List ℕ)) → Sole line Fits x → (MayEnd Follows items x → ⊥) → NoneNext line Fits Follows items (ended (line x) ∷ lines)
  none_by_place items x lines sole never y others fits may e =
      let first : ended (line x) ≡ ended (line y) = cc in never (subst (MayEnd Follows items) (same_item x y sole fits first) may)
