-- Rows by their stems, and sets of rows in which they stand.
use Rattle.std.proofs.Common.{◌≡◌, ◌⊎◌, inl, inr, ℕ, Bool, true, false, cond, List, [], ◌∷◌, ◌++◌, refl, sym, ◌∙◌, ap, subst, Some, None}
use Rattle.std.specs.Prelude.{◌↔◌, Contains, Result, Ok, Err, IfOk}
use Rattle.std.specs.Option.{option_map_or}
use Rattle.std.specs.declared.vec.Vec.{Vec}
use Rattle.std.specs.declared.alloc.Global.{Global}
use Rattle.std.specs.BTreeMap.{get_by_text}
use Rattle.std.specs.BTreeSet.{BTreeSet}
use Rattle.std.proofs.lemmas.Bool.{true≢false}
use Rattle.std.proofs.lemmas.List.Elements.{Contains-append_left, Contains-push, Contains-push_cases}
use Rattle.ips_action.specs.Attrs.{is_same}
use Rattle.ips_action.proofs.KeyOrder.{same_true, same_self}
use Rattle.std.specs.List.Sorted.{IsStrictlySortedBy}
use Rattle.ips_index.specs.Rows.{IndexedValue, row_cmp}
use Rattle.ips_index.specs.Scan.{IsDropped, IsPut}
use Rattle.ips_index.proofs.Growing.{none_there}
use Rattle.ips_index.specs.Text.{AreIndexRows}
use Rattle.ips_index.specs.Entries.{Stems, listed_at, IsKept, AreOf}
use Rattle.ips_index.proofs.InSets.{same_rows, in_or_not}

-- at each stem are those of the rows that are of it
pub AreListed : List IndexedValue → Stems → Type 0
AreListed rows stems = (stem : List ℕ) (row : IndexedValue) → Contains (listed_at stems stem) row ↔ (Contains rows row × (row.stem ≡ stem))

pub listed_none : (stems : Stems) → stems.entries ≡ [] → AreListed [] stems
unfolding AreListed
listed_none stems empty stem row = (λ h. absurd (none_there row (subst (λ (l : List IndexedValue). Contains l row) (nothing stem) h)), λ w. absurd (none_there row w.0))
  where
    nothing : (q : List ℕ) → listed_at stems q ≡ []
    nothing q = rw empty refl

pub listed_next : (rows : List IndexedValue) (row : IndexedValue) (old new : Stems) → AreListed rows old → ((stem : List ℕ) → listed_at new stem ≡ cond (is_same row.stem stem) (listed_at old stem ++ row ∷ []) (listed_at old stem)) → AreListed (rows ++ row ∷ []) new
unfolding AreListed
listed_next rows row old new so_far put stem other = go (is_same row.stem stem) refl (put stem)
  where
    go : (t : Bool) → is_same row.stem stem ≡ t → listed_at new stem ≡ cond t (listed_at old stem ++ row ∷ []) (listed_at old stem) → Contains (listed_at new stem) other ↔ (Contains (rows ++ row ∷ []) other × (other.stem ≡ stem))
    go true same e = subst (λ (l : List IndexedValue). Contains l other ↔ (Contains (rows ++ row ∷ []) other × (other.stem ≡ stem))) (sym e) (
      λ h. elim (Contains-push_cases (listed_at old stem) row other h) [
        | inl had ↦ let w = (so_far stem other).0 had in (Contains-append_left rows (row ∷ []) other w.0, w.1)
        | inr last ↦ (subst (λ (r : IndexedValue). Contains (rows ++ row ∷ []) r) last (Contains-push rows row), ap (λ (r : IndexedValue). r.stem) (sym last) ∙ same_true row.stem stem same)
      ],
      λ w. elim (Contains-push_cases rows row other w.0) [
        | inl before ↦ Contains-append_left (listed_at old stem) (row ∷ []) other ((so_far stem other).1 (before, w.1))
        | inr last ↦ subst (λ (r : IndexedValue). Contains (listed_at old stem ++ row ∷ []) r) last (Contains-push (listed_at old stem) row)
      ],
    )
    go false same e = subst (λ (l : List IndexedValue). Contains l other ↔ (Contains (rows ++ row ∷ []) other × (other.stem ≡ stem))) (sym e) (
      λ h. let w = (so_far stem other).0 h in (Contains-append_left rows (row ∷ []) other w.0, w.1),
      λ w. elim (Contains-push_cases rows row other w.0) [
        | inl before ↦ (so_far stem other).1 (before, w.1)
        | inr last ↦ absurd (true≢false (sym (same_self row.stem stem (ap (λ (r : IndexedValue). r.stem) last ∙ w.1)) ∙ same))
      ],
    )

pub listed_whole : (rows all : List IndexedValue) (stems : Stems) → rows ≡ all → AreListed rows stems → (stem : List ℕ) (row : IndexedValue) → Contains (listed_at stems stem) row ↔ (Contains all row × (row.stem ≡ stem))
unfolding AreListed
listed_whole rows all stems e h = subst (λ (l : List IndexedValue). (stem : List ℕ) (row : IndexedValue) → Contains (listed_at stems stem) row ↔ (Contains l row × (row.stem ≡ stem))) e h

-- a set whose rows are listed so is kept
pub kept_listed : (rows : BTreeSet IndexedValue) (stems : Stems) → AreIndexRows rows.keys → ((stem : List ℕ) (row : IndexedValue) → Contains (listed_at stems stem) row ↔ (Contains rows.keys row × (row.stem ≡ stem))) → IsKept rows stems
kept_listed rows stems are listed = record {
  listed = λ row h. (listed row.stem row).1 (h, refl);
  own = λ stem row h. ((listed stem row).0 h).1;
  lawful = are;
}

-- the rows of a stem are taken away
pub stem_dropped : (rows left : BTreeSet IndexedValue) (old new : Stems) (stem : List ℕ) (list : List IndexedValue) → IsKept rows old → list ≡ listed_at old stem → ((row : IndexedValue) → Contains left.keys row ↔ (Contains rows.keys row × (Contains list row → ⊥)))
    → IsDropped stem rows.keys left.keys
stem_dropped rows left old new stem list kept is removed row = (
  λ h. let w = (removed row).0 h in (w.0, λ same. w.1 (subst (λ (l : List IndexedValue). Contains l row) (sym is) (subst (λ (s : List ℕ). Contains (listed_at old s) row) same (kept.listed row w.0)))),
  λ w. (removed row).1 (w.0, λ in_list. w.1 (kept.own stem row (subst (λ (l : List IndexedValue). Contains l row) is in_list))),
)

same_or_apart : (stem q : List ℕ) → (is_same stem q ≡ true) ⊎ (is_same stem q ≡ false)
same_or_apart stem q = go (is_same stem q) refl
  where
    go : (t : Bool) → is_same stem q ≡ t → (is_same stem q ≡ true) ⊎ (is_same stem q ≡ false)
    go true e = inl e
    go false e = inr e

apart_from : (stem q : List ℕ) → (stem ≡ q → ⊥) → is_same stem q ≡ false
apart_from stem q differs = elim (same_or_apart stem q) [ inl same ↦ absurd (differs (same_true stem q same)) | inr apart ↦ apart ]

pub kept_dropped : (rows left : BTreeSet IndexedValue) (old new : Stems) (stem : List ℕ) → IsKept rows old → IsDropped stem rows.keys left.keys → listed_at new stem ≡ [] → ((q : List ℕ) → is_same stem q ≡ false → listed_at new q ≡ listed_at old q) → IsStrictlySortedBy row_cmp left.keys → IsKept left new
kept_dropped rows left old new stem kept dropped gone others ascend = record {
  listed = λ row h. let w = (dropped row).0 h in
      subst (λ (l : List IndexedValue). Contains l row) (sym (others row.stem (apart_from stem row.stem (λ e. w.1 (sym e))))) (kept.listed row w.0);
  own = λ q row h. elim (same_or_apart stem q) [
    | inl same ↦ absurd (none_there row (subst (λ (l : List IndexedValue). Contains l row) (ap (listed_at new) (sym (same_true stem q same)) ∙ gone) h))
    | inr not_same ↦ kept.own q row (subst (λ (l : List IndexedValue). Contains l row) (others q not_same) h)
  ];
  lawful = record { each = λ row h. kept.lawful.each row ((dropped row).0 h).0; ascend = ascend };
}

-- ---- rows put in

-- a stem whose rows are replaced: the fresh ones come, and then those go that it has no more
module _ (rows more left : BTreeSet IndexedValue) (old new : Stems) (stem : List ℕ) (list fresh gone : List IndexedValue) (kept : IsKept rows old)
    (fresh_is : (row : IndexedValue) → Contains fresh row ↔ (Contains list row × (Contains rows.keys row → ⊥)))
    (stay : (row : IndexedValue) → Contains rows.keys row → Contains more.keys row)
    (only : (row : IndexedValue) → Contains more.keys row → Contains rows.keys row ⊎ Contains fresh row) where
  module _ (gone_is : (row : IndexedValue) → Contains gone row ↔ (Contains (listed_at old stem) row × (Contains list row → ⊥))) (come : (row : IndexedValue) → Contains fresh row → Contains more.keys row)
      (removed : (row : IndexedValue) → Contains left.keys row ↔ (Contains more.keys row × (Contains gone row → ⊥))) where
    pub stem_put : IsPut stem list rows.keys left.keys
    stem_put row = (
      λ h. let w = (removed row).0 h in
          elim (only row w.0) [
            | inl had ↦ elim (in_or_not list row) [
              | inl in_list ↦ inl in_list
              | inr lacks ↦ inr (had, λ same. w.1 ((gone_is row).1 (subst (λ (s : List ℕ). Contains (listed_at old s) row) same (kept.listed row had), lacks)))
            ]
            | inr one ↦ inl ((fresh_is row).0 one).0
          ],
      λ w. elim w [
        | inl in_list ↦ (removed row).1
            (elim (in_or_not rows.keys row) [ inl had ↦ stay row had | inr lacks ↦ come row ((fresh_is row).1 (in_list, lacks)) ], λ g. ((gone_is row).0 g).1 in_list)
        | inr had ↦ (removed row).1 (stay row had.0, λ g. had.1 (kept.own stem row ((gone_is row).0 g).0))
      ],
    )

    pub kept_put : AreOf stem list → listed_at new stem ≡ list → ((q : List ℕ) → is_same stem q ≡ false → listed_at new q ≡ listed_at old q) → IsStrictlySortedBy row_cmp left.keys → IsKept left new
    kept_put are put others ascend = record {
      listed = λ row h. elim ((stem_put row).0 h) [
        | inl one ↦ subst (λ (l : List IndexedValue). Contains l row) (sym (ap (listed_at new) (are.of_stem row one) ∙ put)) one
        | inr had ↦ subst (λ (l : List IndexedValue). Contains l row) (sym (others row.stem (apart_from stem row.stem (λ e. had.1 (sym e))))) (kept.listed row had.0)
      ];
      own = λ q row h. elim (same_or_apart stem q) [
        | inl same ↦ are.of_stem row (subst (λ (l : List IndexedValue). Contains l row) (ap (listed_at new) (sym (same_true stem q same)) ∙ put) h) ∙ same_true stem q same
        | inr apart ↦ kept.own q row (subst (λ (l : List IndexedValue). Contains l row) (others q apart) h)
      ];
      lawful = record { each = λ row h. elim ((stem_put row).0 h) [ inl one ↦ are.each row one | inr had ↦ kept.lawful.each row had.0 ]; ascend = ascend };
    }

  -- where the fresh ones are taken away again, all is as before
  pub undone : ((row : IndexedValue) → Contains left.keys row ↔ (Contains more.keys row × (Contains fresh row → ⊥))) → IsStrictlySortedBy row_cmp left.keys → left.keys ≡ rows.keys
  undone removed ascend = same_rows left rows ascend kept.lawful.ascend
      (λ row. (
        λ h. let w = (removed row).0 h in elim (only row w.0) [ inl had ↦ had | inr one ↦ absurd (w.1 one) ],
        λ had. (removed row).1 (stay row had, λ one. ((fresh_is row).0 one).1 had),
      ))

-- ---- what a map has once a stem is taken out of it, or put into it

pub gone_at : (old new : Stems) (stem : List ℕ) → ((q : List ℕ) → get_by_text new q ≡ cond (is_same stem q) None (get_by_text old q)) → (listed_at new stem ≡ []) × ((q : List ℕ) → is_same stem q ≡ false → listed_at new q ≡ listed_at old q)
gone_at old new stem updates = (
  ap (λ (o : _). option_map_or (λ rows. rows.items) o []) (updates stem ∙ ap (λ (t : Bool). cond t None (get_by_text old stem)) (same_self stem stem refl)),
  λ q apart. ap (λ (o : _). option_map_or (λ rows. rows.items) o []) (updates q ∙ ap (λ (t : Bool). cond t None (get_by_text old q)) apart),
)

pub put_at : (old new : Stems) (stem : List ℕ) (v : Vec IndexedValue Global) → ((q : List ℕ) → get_by_text new q ≡ cond (is_same stem q) (Some v) (get_by_text old q)) → (listed_at new stem ≡ v.items) × ((q : List ℕ) → is_same stem q ≡ false → listed_at new q ≡ listed_at old q)
put_at old new stem v updates = (
  ap (λ (o : _). option_map_or (λ rows. rows.items) o []) (updates stem ∙ ap (λ (t : Bool). cond t (Some v) (get_by_text old stem)) (same_self stem stem refl)),
  λ q apart. ap (λ (o : _). option_map_or (λ rows. rows.items) o []) (updates q ∙ ap (λ (t : Bool). cond t (Some v) (get_by_text old q)) apart),
)

-- a set from which nothing is taken
pub nothing_taken : (keys : List IndexedValue) (row : IndexedValue) → Contains keys row ↔ (Contains keys row × (Contains [] row → ⊥))
nothing_taken keys row = (λ h. (h, none_there row), λ w. w.0)

-- a set of the same rows, which are listed alike
pub kept_same : (rows left : BTreeSet IndexedValue) (old new : Stems) → left.keys ≡ rows.keys → ((q : List ℕ) → listed_at new q ≡ listed_at old q) → IsKept rows old → IsKept left new
kept_same rows left old new same alike kept = record {
  listed = λ row h. subst (λ (l : List IndexedValue). Contains l row) (sym (alike row.stem)) (kept.listed row (subst (λ (l : List IndexedValue). Contains l row) same h));
  own = λ stem row h. kept.own stem row (subst (λ (l : List IndexedValue). Contains l row) (alike stem) h);
  lawful = subst AreIndexRows (sym same) kept.lawful;
}

pub listed_same : (old new : Stems) → new.entries ≡ old.entries → (stem : List ℕ) → listed_at new stem ≡ listed_at old stem
listed_same old new e stem = rw e refl

-- rows of a stem that aren't among others, told by a set of these
pub gone_found : {E : Type 0} (r : Result (Vec IndexedValue Global) E) (seen listed keys list : List IndexedValue) → seen ≡ listed → ((row : IndexedValue) → Contains keys row → Contains list row) → ((row : IndexedValue) → Contains list row → Contains keys row)
    → IfOk r (λ found. (row : IndexedValue) → Contains found.items row ↔ (Contains seen row × (Contains keys row → ⊥))) → IfOk r (λ found. (row : IndexedValue) → Contains found.items row ↔ (Contains listed row × (Contains list row → ⊥)))
gone_found (Ok found) seen listed keys list is only all h = λ row. (
  λ g. let w = (h row).0 g in (subst (λ (l : List IndexedValue). Contains l row) is w.0, λ there. w.1 (all row there)),
  λ w. (h row).1 (subst (λ (l : List IndexedValue). Contains l row) (sym is) w.0, λ there. w.1 (only row there)),
)
gone_found (Err e) seen listed keys list is only all h = tt

-- ---- the same said of a list that was lent

pub among : (keys found seen list : List IndexedValue) → seen ≡ list → ((row : IndexedValue) → Contains found row ↔ (Contains seen row × (Contains keys row → ⊥))) → (row : IndexedValue) → Contains found row ↔ (Contains list row × (Contains keys row → ⊥))
among keys found seen list e h = subst (λ (l : List IndexedValue). (row : IndexedValue) → Contains found row ↔ (Contains l row × (Contains keys row → ⊥))) e h

pub but_not : (keys found seen list : List IndexedValue) → seen ≡ list → ((row : IndexedValue) → Contains found row ↔ (Contains keys row × (Contains seen row → ⊥))) → (row : IndexedValue) → Contains found row ↔ (Contains keys row × (Contains list row → ⊥))
but_not keys found seen list e h = subst (λ (l : List IndexedValue). (row : IndexedValue) → Contains found row ↔ (Contains keys row × (Contains l row → ⊥))) e h

pub only_among : (keys more seen list : List IndexedValue) → seen ≡ list → ((row : IndexedValue) → Contains more row → Contains keys row ⊎ Contains seen row) → (row : IndexedValue) → Contains more row → Contains keys row ⊎ Contains list row
only_among keys more seen list e h = subst (λ (l : List IndexedValue). (row : IndexedValue) → Contains more row → Contains keys row ⊎ Contains l row) e h

pub all_in : (more seen list : List IndexedValue) → seen ≡ list → ((row : IndexedValue) → Contains seen row → Contains more row) → (row : IndexedValue) → Contains list row → Contains more row
all_in more seen list e h = subst (λ (l : List IndexedValue). (row : IndexedValue) → Contains l row → Contains more row) e h
