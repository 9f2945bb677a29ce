-- The manifests that were read of a stem give its candidates and what they ask for.
use Rattle.std.proofs.Common.{◌≡◌, ℕ, suc, ◌+◌, Bool, true, false, not, cond, ◌&&◌, ◌||◌, List, [], ◌∷◌, ◌++◌, map, filter, flat_map, reverse, length, slice_get, Option, Some, None, is_some, option_map, refl, sym, ap, subst, ◌∙◌, inl, inr, ◌⊎◌, arith}
use Rattle.std.specs.List.{AllByRecursion, AllZip, list_any, last_or}
use Rattle.std.specs.Ordering.{is_lt, is_eq}
use Rattle.std.specs.declared.cmp.Ordering.{Ordering}
use Rattle.std.specs.declared.cmp.Ordering.TheVariants.{Less, Equal, Greater}
use Rattle.std.proofs.lemmas.Bool.{both_ways, cases_Bool, or_left, or_right, and_from, cond-true, cond-false, false_from_ne_true}
use Rattle.std.specs.Cmp.{Equal-is}
use Rattle.std.proofs.Math.Bool.{and-true}
use Rattle.std.proofs.lemmas.List.Sorted.{IsPermutation-reverse, list_any-IsPermutation}
use Rattle.std.proofs.lemmas.Map.Views.{any-filter_same}
use Rattle.std.proofs.lemmas.List.Folds.{list_any-append}
use Rattle.std.proofs.lemmas.Option.{none-some, same_Some}
use Rattle.ips_fmri.specs.Version.{Parts}
use Rattle.ips_fmri.specs.Order.{version_cmp}
use Rattle.ips_fmri.proofs.Orders.{tells_equal, tells_greater, versions_tell}
use Rattle.ips_catalog.specs.Listed.{versions_of}
use Rattle.ips_request.specs.declared.kind.Kind.{Kind}
use Rattle.ips_request.specs.declared.kind.Kind.TheVariants.{Install, Update, Uninstall, Keep}
use Rattle.ips_request.specs.declared.role.Role.{Role}
use Rattle.ips_request.specs.declared.role.Role.TheVariants.{Refused, Gone, Asked, Renewed, Standing, Free}
use Rattle.ips_request.specs.declared.read.Read.{Read}
use Rattle.ips_request.specs.Stems.{has}
use Rattle.ips_request.specs.Case.{Case, is_named, is_installed, installed_version, manifest_facts}
use Rattle.ips_request.specs.Candidates.{with_installed, newest, may_come, coming, greatest, is_version, is_obsolete, is_obsolete_at, says_obsolete, present, present_or_gone, beyond, candidates_in, candidates, role, role_by, is_target_of, is_spared}
use Rattle.ips_request.specs.Manifests.{is_needed, needed}
use Rattle.ips_request.specs.Reads.{is_taken_out, is_gone_at, is_installed_at, stands_at}
use Rattle.ips_problem.specs.declared.rows.Row as declared
use Rattle.ips_problem.specs.Reach.{dependencies_of, dependencies_said, stems_wanted}
use Rattle.ips_problem.specs.Posed.{numbered, lines_said, offer_of, tests_of_candidates}
use Rattle.ips_problem.specs.Seen.{seen_read, seen_candidate}
use Rattle.ips_problem.specs.Gathered.{IsReadOf, IsRowOf, is_newest_gone, coming_from, asked, asked_at, tests_asked}

-- ---- lists that are alike place by place

abbrev pub Both : {X Y : Type 0} → (X → Y → Type 0) → Option X → Option Y → Type 0
Both R None None = Unit {0}
Both R None (Some y) = ⊥
Both R (Some x) None = ⊥
Both R (Some x) (Some y) = R x y

module _ {X Y : Type 0} (R : X → Y → Type 0) where
  zip_append : (us ws : List X) (xs ys : List Y) → AllZip R us xs → AllZip R ws ys → AllZip R (us ++ ws) (xs ++ ys)
  zip_append [] ws [] ys h t = t
  zip_append [] ws (x ∷ xs) ys h t = absurd h
  zip_append (a ∷ us) ws [] ys h t = absurd h
  zip_append (a ∷ us) ws (x ∷ xs) ys h t = (h.0, zip_append us ws xs ys h.1 t)

  zip_cond : (b : Bool) (us ws : List X) (xs ys : List Y) → AllZip R us xs → AllZip R ws ys → AllZip R (cond b us ws) (cond b xs ys)
  zip_cond true us ws xs ys h t = h
  zip_cond false us ws xs ys h t = t

  zip_if : (b c : Bool) (us ws : List X) (xs ys : List Y) → b ≡ c → AllZip R us xs → AllZip R ws ys → AllZip R (cond b us ws) (cond c xs ys)
  zip_if b c us ws xs ys e h t = subst (λ c. AllZip R (cond b us ws) (cond c xs ys)) e (zip_cond b us ws xs ys h t)

  zip_filter : (p : X → Bool) (q : Y → Bool) → ((x : X) (y : Y) → R x y → p x ≡ q y) → (xs : List X) (ys : List Y) → AllZip R xs ys → AllZip R (filter p xs) (filter q ys)
  zip_filter p q w [] [] h = tt
  zip_filter p q w [] (y ∷ ys) h = absurd h
  zip_filter p q w (x ∷ xs) [] h = absurd h
  zip_filter p q w (x ∷ xs) (y ∷ ys) h =
      let rest = zip_filter p q w xs ys h.1 in
      zip_if (p x) (q y) (x ∷ filter p xs) (filter p xs) (y ∷ filter q ys) (filter q ys) (w x y h.0) (h.0, rest) rest

  zip_some : (xs : List X) (ys : List Y) → AllZip R xs ys → AllZip (Both R) (map (λ x. Some x) xs) (map (λ y. Some y) ys)
  zip_some [] [] h = tt
  zip_some [] (y ∷ ys) h = absurd h
  zip_some (x ∷ xs) [] h = absurd h
  zip_some (x ∷ xs) (y ∷ ys) h = (h.0, zip_some xs ys h.1)

module _ {X Y : Type 0} (R : X → Y → Type 0) (gone stands : X → Bool) (goes stays : Y → Bool) (w : (x : X) (y : Y) → R x y → gone x ≡ goes y) (z : (x : X) (y : Y) → R x y → stands x ≡ stays y) where
  zip_present : (xs : List X) (ys : List Y) → AllZip R xs ys → AllZip (Both R) (present gone xs) (present goes ys)
  zip_present xs ys h = zip_some R (filter (λ x. not (gone x)) xs) (filter (λ y. not (goes y)) ys)
      (zip_filter R (λ x. not (gone x)) (λ y. not (goes y)) (λ x y r. ap not (w x y r)) xs ys h)

  zip_present_or_gone : (xs : List X) (ys : List Y) → AllZip R xs ys → AllZip (Both R) (present_or_gone gone xs) (present_or_gone goes ys)
  zip_present_or_gone [] [] h = tt
  zip_present_or_gone [] (y ∷ ys) h = absurd h
  zip_present_or_gone (x ∷ xs) [] h = absurd h
  zip_present_or_gone (x ∷ xs) (y ∷ ys) h =
      zip_if (Both R) (gone x) (goes y) (None ∷ present gone xs) (Some x ∷ present_or_gone gone xs) (None ∷ present goes ys) (Some y ∷ present_or_gone goes ys)
      (w x y h.0) (tt, zip_present xs ys h.1) (h.0, zip_present_or_gone xs ys h.1)

  zip_beyond : (kind : Kind) (xs : List X) (ys : List Y) → AllZip R xs ys → AllZip (Both R) (beyond kind gone xs) (beyond kind goes ys)
  zip_beyond Install xs ys h = zip_present xs ys h
  zip_beyond Update xs ys h = zip_present_or_gone xs ys h
  zip_beyond Uninstall xs ys h = tt
  zip_beyond Keep xs ys h = tt

  zip_candidates : (q : Role) (kind : Kind) (xs : List X) (ys : List Y) → AllZip R xs ys → AllZip (Both R) (candidates_in q kind gone stands xs) (candidates_in q kind goes stays ys)
  zip_candidates Refused kind xs ys h = tt
  zip_candidates Gone kind xs ys h = (tt, tt)
  zip_candidates Asked kind xs ys h = zip_present xs ys h
  zip_candidates Renewed kind xs ys h = zip_present_or_gone xs ys h
  zip_candidates Standing kind xs ys h =
      zip_append (Both R) (map (λ x. Some x) (filter stands xs)) (beyond kind gone (filter (λ x. not (stands x)) xs)) (map (λ y. Some y) (filter stays ys)) (beyond kind goes (filter (λ y. not (stays y)) ys))
      (zip_some R (filter stands xs) (filter stays ys) (zip_filter R stands stays z xs ys h))
      (zip_beyond kind (filter (λ x. not (stands x)) xs) (filter (λ y. not (stays y)) ys) (zip_filter R (λ x. not (stands x)) (λ y. not (stays y)) (λ x y r. ap not (z x y r)) xs ys h))
  zip_candidates Free kind xs ys h = (tt, zip_present xs ys h)

  zip_ignored : (q : Role) (kind : Kind) (xs : List X) (ys : List Y) → (q ≡ Refused) ⊎ (q ≡ Gone) → AllZip (Both R) (candidates_in q kind gone stands xs) (candidates_in q kind goes stays ys)
  zip_ignored q kind xs ys (inl e) = subst (λ q. AllZip (Both R) (candidates_in q kind gone stands xs) (candidates_in q kind goes stays ys)) (sym e) tt
  zip_ignored q kind xs ys (inr e) = subst (λ q. AllZip (Both R) (candidates_in q kind gone stands xs) (candidates_in q kind goes stays ys)) (sym e) (tt, tt)

-- ---- what was read, numbered

numbered_more : (b : Bool) (k : ℕ) (us ws more : List ℕ) → ws ≡ us ++ more → cond b (k ∷ ws) ws ≡ cond b (k ∷ us) us ++ more
numbered_more true k us ws more e = ap (λ vs. k ∷ vs) e
numbered_more false k us ws more e = e

pub coming_more : (k : ℕ) (xs : List Read) (x : Read) → coming_from k (xs ++ x ∷ []) ≡ coming_from k xs ++ cond x.comes ((k + length xs) ∷ []) []
coming_more k [] x = ap (λ (n : ℕ). cond x.comes (n ∷ []) []) (omega arith)
coming_more k (y ∷ ys) x =
    numbered_more y.comes k (coming_from (k + 1) ys) (coming_from (k + 1) (ys ++ x ∷ [])) (cond x.comes ((k + suc (length ys)) ∷ []) [])
    (coming_more (k + 1) ys x ∙ ap (λ (n : ℕ). coming_from (k + 1) ys ++ cond x.comes (n ∷ []) []) (omega arith))

-- ---- versions by their numbers

-- the version with the number was read
pub record IsAt (c : Case) (stem : List ℕ) (reads : List Read) (i : ℕ) (v : Parts) : Type 0 where
  pub read : Read
  pub at : slice_get reads i ≡ Some read
  pub is : IsReadOf c stem v read

zip_coming : (c : Case) (stem : List ℕ) (reads : List Read) (k : ℕ) (xs : List Read) (vs : List Parts) → ((j : ℕ) → slice_get reads (k + j) ≡ slice_get xs j) → AllZip (IsReadOf c stem) vs xs
    → AllZip (IsAt c stem reads) (coming_from k xs) (filter (may_come c stem) vs)
zip_coming c stem reads k [] [] at h = tt
zip_coming c stem reads k [] (v ∷ vs) at h = absurd h
zip_coming c stem reads k (x ∷ xs) [] at h = absurd h
zip_coming c stem reads k (x ∷ xs) (v ∷ vs) at h =
    let here : slice_get reads k ≡ Some x = ap (slice_get reads) (omega arith) ∙ at 0 in
    let behind = λ (j : ℕ). ap (slice_get reads) (omega arith) ∙ at (suc j) in
    let rest = zip_coming c stem reads (k + 1) xs vs behind h.1 in
    zip_if (IsAt c stem reads) x.comes (may_come c stem v) (k ∷ coming_from (k + 1) xs) (coming_from (k + 1) xs) (v ∷ filter (may_come c stem) vs) (filter (may_come c stem) vs)
    h.0.comes (record { read = x; at = here; is = h.0 }, rest) rest

gone_alike : (c : Case) (stem : List ℕ) (reads : List Read) (i : ℕ) (v : Parts) → IsAt c stem reads i v → is_gone_at reads i ≡ is_obsolete c stem v
gone_alike c stem reads i v a = ap is_taken_out a.at ∙ a.is.gone ∙ ap says_obsolete (sym a.is.says)

stands_alike : (c : Case) (stem : List ℕ) (reads : List Read) (i : ℕ) (v : Parts) → IsAt c stem reads i v → stands_at reads i ≡ is_version (installed_version c stem) v
stands_alike c stem reads i v a = ap is_installed_at a.at ∙ a.is.stands

-- ---- which versions are gone through

filter_within : (p q r : Parts → Bool) (vs : List Parts) → ((v : Parts) → p v ≡ true → q v ≡ true) → AllByRecursion (λ v. r v ≡ true) (filter q vs) → filter (λ v. p v && r v) vs ≡ filter p (filter q vs)
filter_within p q r [] w all = refl
filter_within p q r (v ∷ vs) w all = elim (cases_Bool (q v)) [
  | inl e ↦
      let taken = cond-true (q v) (v ∷ filter q vs) (filter q vs) e in
      let both = subst (AllByRecursion (λ v. r v ≡ true)) taken all in
      let rest = filter_within p q r vs w both.1 in
      let same = ap (λ b. p v && b) both.0 ∙ and-true (p v) in
      (λ i. cond (same i) (v ∷ rest i) (rest i)) ∙ sym (ap (filter p) taken)
  | inr e ↦
      let left = cond-false (q v) (v ∷ filter q vs) (filter q vs) e in
      let rest = filter_within p q r vs w (subst (AllByRecursion (λ v. r v ≡ true)) left all) in
      let not_p = false_from_ne_true (p v) (λ h. both_ways (q v) e (w v h)) in
      (λ i. cond (not_p i && r v) (v ∷ rest i) (rest i)) ∙ sym (ap (filter p) left)
]

-- the request goes through the versions of a stem
abbrev goes_through : Kind → Bool → Bool
goes_through Install rejected = not rejected
goes_through Update rejected = not rejected
goes_through Uninstall rejected = true
goes_through Keep rejected = true

comes_needed : (k : Kind) (c : Case) (stem : List ℕ) (v : Parts) → goes_through k (has stem c.rejected) ≡ true → may_come c stem v ≡ true → is_needed k c stem v ≡ true
comes_needed Install c stem v h e = or_right (is_version (greatest c stem) v) (not (has stem c.rejected) && may_come c stem v) (and_from (not (has stem c.rejected)) (may_come c stem v) h e)
comes_needed Update c stem v h e = or_right (is_version (greatest c stem) v) (not (has stem c.rejected) && may_come c stem v) (and_from (not (has stem c.rejected)) (may_come c stem v) h e)
comes_needed Uninstall c stem v h e = refl
comes_needed Keep c stem v h e = refl

role_ignores : (k : Kind) (named rejected target installed : Bool) → goes_through k rejected ≡ false → (role_by k named rejected target installed ≡ Refused) ⊎ (role_by k named rejected target installed ≡ Gone)
role_ignores Install true true target installed h = inl refl
role_ignores Install false true target installed h = inr refl
role_ignores Install named false target installed h = absurd (both_ways true h refl)
role_ignores Update named true target installed h = inr refl
role_ignores Update named false target installed h = absurd (both_ways true h refl)
role_ignores Uninstall named rejected target installed h = absurd (both_ways true h refl)
role_ignores Keep named rejected target installed h = absurd (both_ways true h refl)

all_said : (c : Case) (stem : List ℕ) (vs : List Parts) (reads : List Read) → AllZip (IsReadOf c stem) vs reads → AllByRecursion (λ v. is_some (manifest_facts c stem v) ≡ true) vs
all_said c stem [] reads h = tt
all_said c stem (v ∷ vs) [] h = absurd h
all_said c stem (v ∷ vs) (x ∷ reads) h = (ap is_some h.0.says, all_said c stem vs reads h.1)

-- the candidates by their numbers are those of the stem
pub offered_alike : (c : Case) (stem : List ℕ) (reads : List Read) → AllZip (IsReadOf c stem) (needed c stem) reads
    → AllZip (Both (IsAt c stem reads)) (candidates_in (role c stem) c.kind (is_gone_at reads) (stands_at reads) (coming_from 0 reads)) (candidates c stem)
offered_alike c stem reads h = elim (cases_Bool (goes_through c.kind (has stem c.rejected))) [
  | inl e ↦
      let through = filter_within (may_come c stem) (is_needed c.kind c stem) (λ v. is_some (manifest_facts c stem v)) (newest c stem) (λ v m. comes_needed c.kind c stem v e m) (all_said c stem (needed c stem) reads h) in
      let zipped = zip_coming c stem reads 0 reads (needed c stem) (λ j. ap (slice_get reads) (omega arith)) h in
      let all = subst (AllZip (IsAt c stem reads) (coming_from 0 reads)) (sym through) zipped in
      zip_candidates (IsAt c stem reads) (is_gone_at reads) (stands_at reads) (is_obsolete c stem) (is_version (installed_version c stem)) (gone_alike c stem reads) (stands_alike c stem reads)
      (role c stem) c.kind (coming_from 0 reads) (coming c stem) all
  | inr e ↦
      zip_ignored (IsAt c stem reads) (is_gone_at reads) (stands_at reads) (is_obsolete c stem) (is_version (installed_version c stem)) (gone_alike c stem reads) (stands_alike c stem reads)
      (role c stem) c.kind (coming_from 0 reads) (coming c stem) (role_ignores c.kind (is_named c stem) (has stem c.rejected) (is_target_of c.named c stem) (is_installed c stem) e)
]

-- ---- what they offer and ask for

offer_alike : (c : Case) (stem : List ℕ) (reads : List Read) (o : Option ℕ) (p : Option Parts) → Both (IsAt c stem reads) o p → seen_candidate reads o ≡ offer_of c stem p
offer_alike c stem reads None None h = refl
offer_alike c stem reads None (Some v) h = absurd h
offer_alike c stem reads (Some i) None h = absurd h
offer_alike c stem reads (Some i) (Some v) h =
    ap (option_map seen_read) h.at
    ∙ (λ j. Some (record { version = h.is.version j; lines = lines_said (sym h.is.says j) }))

pub offers_alike : (c : Case) (stem : List ℕ) (reads : List Read) (os : List (Option ℕ)) (ps : List (Option Parts)) → AllZip (Both (IsAt c stem reads)) os ps → map (seen_candidate reads) os ≡ map (offer_of c stem) ps
offers_alike c stem reads [] [] h = refl
offers_alike c stem reads [] (p ∷ ps) h = absurd h
offers_alike c stem reads (o ∷ os) [] h = absurd h
offers_alike c stem reads (o ∷ os) (p ∷ ps) h = λ j. offer_alike c stem reads o p h.0 j ∷ offers_alike c stem reads os ps h.1 j

asked_alike : (c : Case) (stem : List ℕ) (reads : List Read) (o : Option ℕ) (p : Option Parts) → Both (IsAt c stem reads) o p → asked_at reads o ≡ dependencies_of c stem p
asked_alike c stem reads None None h = refl
asked_alike c stem reads None (Some v) h = absurd h
asked_alike c stem reads (Some i) None h = absurd h
asked_alike c stem reads (Some i) (Some v) h = ap asked h.at ∙ ap dependencies_said (sym h.is.says)

pub all_asked : (c : Case) (stem : List ℕ) (reads : List Read) (os : List (Option ℕ)) (ps : List (Option Parts)) → AllZip (Both (IsAt c stem reads)) os ps
    → AllZip (λ o p. asked_at reads o ≡ dependencies_of c stem p) os ps
all_asked c stem reads [] [] h = tt
all_asked c stem reads [] (p ∷ ps) h = absurd h
all_asked c stem reads (o ∷ os) [] h = absurd h
all_asked c stem reads (o ∷ os) (p ∷ ps) h = (asked_alike c stem reads o p h.0, all_asked c stem reads os ps h.1)

pub tests_alike : (c : Case) (i k : ℕ) (stem : List ℕ) (reads : List Read) (os : List (Option ℕ)) (ps : List (Option Parts)) → AllZip (λ o p. asked_at reads o ≡ dependencies_of c stem p) os ps
    → tests_asked i k reads os ≡ tests_of_candidates c i stem k ps
tests_alike c i k stem reads [] [] h = refl
tests_alike c i k stem reads [] (p ∷ ps) h = absurd h
tests_alike c i k stem reads (o ∷ os) [] h = absurd h
tests_alike c i k stem reads (o ∷ os) (p ∷ ps) h = λ j. numbered i k (h.0 j) ++ tests_alike c i (k + 1) stem reads os ps h.1 j

pub drawn_alike : (c : Case) (stem : List ℕ) (reads : List Read) (os : List (Option ℕ)) (ps : List (Option Parts)) → AllZip (λ o p. asked_at reads o ≡ dependencies_of c stem p) os ps
    → flat_map (λ o. stems_wanted (asked_at reads o)) os ≡ flat_map (λ p. stems_wanted (dependencies_of c stem p)) ps
drawn_alike c stem reads [] [] h = refl
drawn_alike c stem reads [] (p ∷ ps) h = absurd h
drawn_alike c stem reads (o ∷ os) [] h = absurd h
drawn_alike c stem reads (o ∷ os) (p ∷ ps) h = λ j. stems_wanted (h.0 j) ++ drawn_alike c stem reads os ps h.1 j

-- ---- the greatest version of the catalog

standing_same : (g v : Parts) → is_version (Some g) v ≡ true → v ≡ g
standing_same g v e = (tells_equal (version_cmp v g) (versions_tell v g)).0 ((Equal-is (version_cmp v g)).0 e)

standing_itself : (g : Parts) → is_version (Some g) g ≡ true
standing_itself g = ap is_eq ((tells_equal (version_cmp g g) (versions_tell g g)).1 refl)

any_left : {X : Type 0} (p : X → Bool) (xs ys : List X) → list_any p xs ≡ true → list_any p (xs ++ ys) ≡ true
any_left p xs ys h = list_any-append p xs ys ∙ or_left (list_any p xs) (list_any p ys) h

any_right : {X : Type 0} (p : X → Bool) (xs ys : List X) → list_any p ys ≡ true → list_any p (xs ++ ys) ≡ true
any_right p xs ys h = list_any-append p xs ys ∙ or_right (list_any p xs) (list_any p ys) h

last_any : (p : Parts → Bool) (o : Option Parts) (xs : List Parts) (g : Parts) → last_or o xs ≡ Some g → p g ≡ true → (o ≡ Some g) ⊎ (list_any p xs ≡ true)
last_any p o [] g e h = inl e
last_any p o (x ∷ xs) g e h = elim (last_any p (Some x) xs g e h) [
  | inl here ↦ inr (or_left (p x) (list_any p xs) (ap p (same_Some x g here) ∙ h))
  | inr rest ↦ inr (or_right (p x) (list_any p xs) rest)
]

by_order : (o : Ordering) → (o ≡ Less) ⊎ ((o ≡ Equal) ⊎ (o ≡ Greater))
by_order Less = inl refl
by_order Equal = inr (inl refl)
by_order Greater = inr (inr refl)

-- a version that is listed is among those of the stem
any_installed : (g : Parts) (listed : List Parts) (o : Option Parts) → list_any (is_version (Some g)) listed ≡ true → list_any (is_version (Some g)) (with_installed listed o) ≡ true
any_installed g listed None h = h
any_installed g listed (Some w) h =
    let p = is_version (Some g) in
    let below = filter (λ v. is_lt (version_cmp v w)) listed in
    let above = filter (λ v. is_lt (version_cmp w v)) listed in
    elim (by_order (version_cmp g w)) [
      | inl less ↦
          any_left p below (w ∷ above) (any-filter_same p (λ v. is_lt (version_cmp v w)) true (λ v e. ap (λ v. is_lt (version_cmp v w)) (standing_same g v e) ∙ ap is_lt less) listed ∙ h)
      | inr (inl equal) ↦
          let same = (tells_equal (version_cmp g w) (versions_tell g w)).0 equal in
          any_right p below (w ∷ above) (or_left (p w) (list_any p above) (ap p (sym same) ∙ standing_itself g))
      | inr (inr greater) ↦
          let less = (versions_tell w g).less ((tells_greater (version_cmp g w) (versions_tell g w)).0 greater) in
          let rest = any-filter_same p (λ v. is_lt (version_cmp w v)) true (λ v e. ap (λ v. is_lt (version_cmp w v)) (standing_same g v e) ∙ ap is_lt less) listed ∙ h in
          any_right p below (w ∷ above) (or_right (p w) (list_any p above) rest)
    ]

greatest_needed : (k : Kind) (c : Case) (stem : List ℕ) (v : Parts) → is_version (greatest c stem) v ≡ true → is_needed k c stem v ≡ true
greatest_needed Install c stem v e = or_left (is_version (greatest c stem) v) (not (has stem c.rejected) && may_come c stem v) e
greatest_needed Update c stem v e = or_left (is_version (greatest c stem) v) (not (has stem c.rejected) && may_come c stem v) e
greatest_needed Uninstall c stem v e = refl
greatest_needed Keep c stem v e = refl

greatest_read : (c : Case) (stem : List ℕ) (g : Parts) → greatest c stem ≡ Some g → list_any (is_version (Some g)) (needed c stem) ≡ true
greatest_read c stem g e = elim (last_any (is_version (Some g)) None (versions_of c.catalog stem) g e (standing_itself g)) [
  | inl none ↦ absurd (none-some g none)
  | inr there ↦
      let all = with_installed (versions_of c.catalog stem) (installed_version c stem) in
      any-filter_same (is_version (Some g)) (is_needed c.kind c stem) true (λ v h. greatest_needed c.kind c stem v (ap (λ o. is_version o v) e ∙ h)) (newest c stem)
      ∙ sym (list_any-IsPermutation (is_version (Some g)) all (reverse all) (IsPermutation-reverse all)) ∙ any_installed g (versions_of c.catalog stem) (installed_version c stem) there
]

and_alike : (m s x b : Bool) → m ≡ s → (s ≡ true → x ≡ b) → (m && x) ≡ (s && b)
and_alike m true x b e w = (λ i. e i && w refl i)
and_alike m false x b e w = ap (λ m. m && x) e

both_or : (s t b : Bool) → ((s && b) || (t && b)) ≡ ((s || t) && b)
both_or true true true = refl
both_or true true false = refl
both_or true false true = refl
both_or true false false = refl
both_or false t b = refl

gone_told : (c : Case) (stem : List ℕ) (g : Parts) (vs : List Parts) (reads : List Read) → greatest c stem ≡ Some g → AllZip (IsReadOf c stem) vs reads
    → is_newest_gone reads ≡ (list_any (is_version (Some g)) vs && is_obsolete c stem g)
gone_told c stem g [] [] e h = refl
gone_told c stem g [] (x ∷ reads) e h = absurd h
gone_told c stem g (v ∷ vs) [] e h = absurd h
gone_told c stem g (v ∷ vs) (x ∷ reads) e h =
    let r = h.0 in
    let first = and_alike x.newest (is_version (Some g) v) x.gone (is_obsolete c stem g) (r.newest ∙ ap (λ o. is_version o v) e)
    (λ s. r.gone ∙ ap says_obsolete (sym r.says) ∙ ap (is_obsolete c stem) (standing_same g v s)) in
    (λ i. first i || gone_told c stem g vs reads e h.1 i) ∙ both_or (is_version (Some g) v) (list_any (is_version (Some g)) vs) (is_obsolete c stem g)

none_told : (c : Case) (stem : List ℕ) (vs : List Parts) (reads : List Read) → greatest c stem ≡ None → AllZip (IsReadOf c stem) vs reads → is_newest_gone reads ≡ false
none_told c stem [] [] e h = refl
none_told c stem [] (x ∷ reads) e h = absurd h
none_told c stem (v ∷ vs) [] e h = absurd h
none_told c stem (v ∷ vs) (x ∷ reads) e h =
    let r = h.0 in
    let first = r.newest ∙ ap (λ o. is_version o v) e in
    (λ i. (first i && x.gone) || none_told c stem vs reads e h.1 i)

some_or_none : (o : Option Parts) → (o ≡ None) ⊎ ((g : Parts) × (o ≡ Some g))
some_or_none None = inl refl
some_or_none (Some g) = inr (g, refl)

-- whether the greatest version is obsolete is known from what was read
pub newest_gone : (c : Case) (stem : List ℕ) (reads : List Read) → AllZip (IsReadOf c stem) (needed c stem) reads → is_obsolete_at c stem (greatest c stem) ≡ is_newest_gone reads
newest_gone c stem reads h = elim (some_or_none (greatest c stem)) [
  | inl e ↦ ap (is_obsolete_at c stem) e ∙ sym (none_told c stem (needed c stem) reads e h)
  | inr (g, e) ↦ ap (is_obsolete_at c stem) e ∙ sym (gone_told c stem g (needed c stem) reads e h ∙ ap (λ b. b && is_obsolete c stem g) (greatest_read c stem g e))
]

-- ---- one stem

-- what is known of a stem is what the case says of it
pub row_known : (c : Case) (stem : List ℕ) (row : declared.Row) (reads : List Read) → AllZip (IsReadOf c stem) (needed c stem) reads → row.reads.items ≡ reads
    → row.candidates.items ≡ candidates_in (role c stem) c.kind (is_gone_at reads) (stands_at reads) (coming_from 0 reads) → row.before ≡ installed_version c stem → row.spared ≡ is_spared c stem → IsRowOf c stem row
row_known c stem row reads h same those before spared =
    let os = candidates_in (role c stem) c.kind (is_gone_at reads) (stands_at reads) (coming_from 0 reads) in
    let alike = offered_alike c stem reads h in
    let offers : map (seen_candidate row.reads.items) row.candidates.items ≡ map (offer_of c stem) (candidates c stem) = (λ i. map (seen_candidate (same i)) (those i)) ∙ offers_alike c stem reads os (candidates c stem) alike in
    let asks = all_asked c stem reads os (candidates c stem) alike in
    record {
      seen = λ i. record { before = before i; spared = spared i; candidates = offers i };
      asks = subst (λ os. AllZip (λ o p. asked_at row.reads.items o ≡ dependencies_of c stem p) os (candidates c stem)) (sym those)
          (subst (λ rs. AllZip (λ o p. asked_at rs o ≡ dependencies_of c stem p) os (candidates c stem)) (sym same) asks);
    }
