-- The first fault of needed manifests is one, and where a puzzle is posed there is none.
use Rattle.std.proofs.Common.{◌≡◌, ℕ, ◌+◌, ◌<◌, ◌≤◌, true, List, [], ◌∷◌, ◌++◌, take, drop, length, slice_get, is_some, refl, sym, ap, subst, ◌∙◌, inl, inr, arith, append_assoc, append-nil}
use Rattle.std.proofs.lemmas.Bool.{cases_lt}
use Rattle.std.proofs.lemmas.List.{map-append, take_all, take-append-drop}
use Rattle.std.proofs.lemmas.List.Concat.{flat_map-append}
use Rattle.std.proofs.lemmas.List.Sums.{sum_by-append, sum_by-cons}
use Rattle.std.proofs.lemmas.Option.{same_Some}
use Rattle.ips_fmri.specs.Version.{Parts}
use Rattle.ips_filter.specs.Settings.{Set}
use Rattle.ips_repo.specs.Manifest.{manifest_limit}
use Rattle.ips_request.specs.declared.fault.ProblemFault.{ProblemFault}
use Rattle.ips_request.specs.Case.{Case, IsReading, manifest_facts}
use Rattle.ips_request.specs.Manifests.{IsManifestFault, Needed, bytes_read, needed}
use Rattle.ips_problem.specs.Fault.{AreRead, IsFirstFault, all_bytes, manifests_at, manifests_of}
use Rattle.ips_problem.specs.Gathered.{IsPosedBy}
use Rattle.ips_problem.specs.Posed.{Posed}
use Rattle.ips_problem.specs.Reach.{grown}
use Rattle.ips_aside.proofs.Ordered.{at_middle}
use Rattle.ips_laws.proofs.next_laws.Fetched.{IsTold, fault_once, fault_or_read}
use Rattle.ips_laws.proofs.next_laws.Walks.{IsWalk, grown_alike, take_fewer, turn_alike, whole_walk}

-- ---- lists

-- of two places in a list, each with what stands before it, the one is the other or comes before it
data Places {A : Type 0} (xs : List A) (x : A) (ys : List A) (y : A) : Type 0 where
  same : xs ≡ ys → x ≡ y → Places xs x ys y
  sooner : (more : List A) → ys ≡ xs ++ x ∷ more → Places xs x ys y
  later : (more : List A) → xs ≡ ys ++ y ∷ more → Places xs x ys y

first_item : {A : Type 0} (x y : A) (xs ys : List A) → x ∷ xs ≡ y ∷ ys → (x ≡ y) × (xs ≡ ys)
first_item x y xs ys e = (let first : x ≡ y = cc in first, let rest : xs ≡ ys = cc in rest)

places : {A : Type 0} (xs : List A) (x : A) (behind ys : List A) (y : A) (after : List A) → xs ++ x ∷ behind ≡ ys ++ y ∷ after → Places xs x ys y
places [] x behind [] y after e = same refl (first_item x y behind after e).0
places [] x behind (z ∷ ys) y after e = sooner ys (ap (λ w. w ∷ ys) (sym (first_item x z behind (ys ++ y ∷ after) e).0))
places (z ∷ xs) x behind [] y after e = later xs (ap (λ w. w ∷ xs) (first_item z y (xs ++ x ∷ behind) after e).0)
places (z ∷ xs) x behind (w ∷ ys) y after e = further (first_item z w (xs ++ x ∷ behind) (ys ++ y ∷ after) e).0 (places xs x behind ys y after (first_item z w (xs ++ x ∷ behind) (ys ++ y ∷ after) e).1)
  where
    further : z ≡ w → Places xs x ys y → Places (z ∷ xs) x (w ∷ ys) y
    further first (same e f) = same (λ i. first i ∷ e i) f
    further first (sooner more e) = sooner more (λ i. sym first i ∷ e i)
    further first (later more e) = later more (λ i. first i ∷ e i)

-- ---- what was read

-- the manifest in a list of those that were read has no fault
read_faultless : (settings : Set) (c : Case) (before : List Needed) (n : Needed) (behind : List Needed) (why : ProblemFault) → IsReading settings c.reading → IsTold why → AreRead c (before ++ n ∷ behind)
    → IsManifestFault settings c (all_bytes c before) n why → ⊥
read_faultless settings c before n behind why reading told read bad =
    let said = at_middle (λ (n : Needed). is_some (manifest_facts c n.stem n.version) ≡ true) before n behind read.said in
    let alone = at_middle (λ (n : Needed). bytes_read c n ≤ manifest_limit) before n behind read.each in
    let all = read.all in
    let sum = sum_by-append (bytes_read c) before (n ∷ behind) in
    let rest = sum_by-cons (bytes_read c) n behind in
    fault_or_read settings c (all_bytes c before) n why reading told bad said alone (omega arith)

-- ---- one fault

-- the manifest that is at fault
abbrev at_fault : List ℕ → Parts → Needed
at_fault stem version = record { stem = stem; version = version }

module _ (settings : Set) (c : Case) (reading : IsReading settings c.reading) (why : ProblemFault) (told : IsTold why) (x : IsFirstFault settings c why) where
  -- the manifests before it
  abbrev earlier : List Needed
  earlier = manifests_of c (take x.turn x.reach) ++ manifests_at x.stem x.before

  walk : IsWalk c x.reach x.turn
  walk = record { grows = x.grows; on_list = λ k l. x.on_list k (omega arith) }

  own_needs : (more : List Parts) → manifests_at x.stem (x.before ++ x.version ∷ more) ≡ manifests_at x.stem x.before ++ at_fault x.stem x.version ∷ manifests_at x.stem more
  own_needs more = map-append (at_fault x.stem) x.before (x.version ∷ more)

  -- a list that went on behind the stem needs this manifest too, behind the same ones
  needs_too : (reach : List (List ℕ)) (n : ℕ) → IsWalk c reach n → x.turn < n → (rest : List Needed) × (manifests_of c (take n reach) ≡ earlier ++ at_fault x.stem x.version ∷ rest)
  needs_too reach n w l =
      let needs : List ℕ → List Needed = λ stem. manifests_at stem (needed c stem) in
      let k = x.turn + 1 in
      let cut : take n reach ≡ (take x.turn x.reach ++ x.stem ∷ []) ++ drop k (take n reach) =
      sym (take-append-drop k (take n reach)) ∙ ap (λ ss. ss ++ drop k (take n reach)) (take_fewer k n reach (omega arith) ∙ turn_alike c x.reach reach x.turn n x.stem walk w l x.at_turn)
      in
      let before = manifests_of c (take x.turn x.reach) in
      let own = manifests_at x.stem x.before in
      let behind = manifests_at x.stem x.behind in
      let after = manifests_of c (drop k (take n reach)) in
      let split : manifests_of c (take n reach) ≡ (before ++ (needs x.stem ++ [])) ++ after =
      ap (manifests_of c) cut ∙ flat_map-append needs (take x.turn x.reach ++ x.stem ∷ []) (drop k (take n reach)) ∙ ap (λ ns. ns ++ after) (flat_map-append needs (take x.turn x.reach) (x.stem ∷ []))
      in
      let here : needs x.stem ≡ own ++ at_fault x.stem x.version ∷ behind = ap (manifests_at x.stem) x.next ∙ own_needs x.behind in (
        (behind ++ []) ++ after,
        split ∙ ap (λ ns. (before ++ (ns ++ [])) ++ after) here ∙ joined before own (at_fault x.stem x.version) behind after,
      )
    where
      joined : (before own : List Needed) (n : Needed) (behind after : List Needed) → (before ++ ((own ++ n ∷ behind) ++ [])) ++ after ≡ (before ++ own) ++ n ∷ ((behind ++ []) ++ after)
      joined before own n behind after =
          append_assoc before ((own ++ n ∷ behind) ++ []) after
          ∙ ap (λ ns. before ++ (ns ++ after)) (append_assoc own (n ∷ behind) [])
          ∙ ap (λ ns. before ++ ns) (append_assoc own (n ∷ (behind ++ [])) after)
          ∙ sym (append_assoc before own (n ∷ ((behind ++ []) ++ after)))

  -- so of what the stem needs up to this manifest not all was read
  pub not_among : (more : List Parts) → AreRead c (manifests_of c (take x.turn x.reach) ++ manifests_at x.stem (x.before ++ x.version ∷ more)) → ⊥
  not_among more read =
      let before = manifests_of c (take x.turn x.reach) in
      let own = manifests_at x.stem x.before in
      let same : before ++ manifests_at x.stem (x.before ++ x.version ∷ more) ≡ earlier ++ at_fault x.stem x.version ∷ manifests_at x.stem more =
      ap (λ ns. before ++ ns) (own_needs more) ∙ sym (append_assoc before own (at_fault x.stem x.version ∷ manifests_at x.stem more))
      in
      read_faultless settings c earlier (at_fault x.stem x.version) (manifests_at x.stem more) why reading told (subst (AreRead c) same read) x.fault

  -- nor were those of such a list
  pub not_read : (reach : List (List ℕ)) (n : ℕ) (more : List Needed) → IsWalk c reach n → x.turn < n → AreRead c (manifests_of c (take n reach) ++ more) → ⊥
  not_read reach n more w l read =
      let (rest, e) = needs_too reach n w l in
      let same : manifests_of c (take n reach) ++ more ≡ earlier ++ at_fault x.stem x.version ∷ (rest ++ more) = ap (λ ns. ns ++ more) e ∙ append_assoc earlier (at_fault x.stem x.version ∷ rest) more in
      read_faultless settings c earlier (at_fault x.stem x.version) (rest ++ more) why reading told (subst (AreRead c) same read) x.fault

  -- nor is a puzzle posed
  pub not_posed : (p : Posed) → IsPosedBy c p → ⊥
  not_posed p posed = elim (cases_lt x.turn (length p.stems)) [
    | inl h ↦
        let whole : manifests_of c p.stems ≡ manifests_of c (take (length p.stems) p.stems) ++ [] = ap (manifests_of c) (sym (take_all (length p.stems) p.stems (omega arith))) ∙ sym (append-nil (manifests_of c (take (length p.stems) p.stems))) in
        not_read p.stems (length p.stems) [] (whole_walk c p.stems posed.reach) h (subst (AreRead c) whole posed.read)
    | inr h ↦
        let long = x.on_list (length p.stems) (omega arith) in
        let same = grown_alike c p.stems x.reach (length p.stems) x.turn (length p.stems) (whole_walk c p.stems posed.reach) walk (omega arith) (omega arith) in
        let short = ap (λ (ss : List (List ℕ)). length ss) (posed.reach.whole ∙ same) in
        omega arith
  ]

-- ---- two faults

module _ (settings : Set) (c : Case) (reading : IsReading settings c.reading) (why other : ProblemFault) (told : IsTold why) (tells : IsTold other) (x : IsFirstFault settings c why) (y : IsFirstFault settings c other) where
  -- at one turn they are of one stem, behind the same manifests of stems before it
  module _ (turn : x.turn ≡ y.turn) where
    same_reach : x.reach ≡ y.reach
    same_reach =
        x.grows ∙ grown_alike c x.reach y.reach x.turn y.turn x.turn (walk settings c reading why told x) (walk settings c reading other tells y) (omega arith) (omega arith) ∙ ap (grown c y.reach) turn ∙ sym y.grows

    same_stem : x.stem ≡ y.stem
    same_stem = same_Some x.stem y.stem (sym x.at_turn ∙ (λ i. slice_get (same_reach i) (turn i)) ∙ y.at_turn)

    one_turn : Places x.before x.version y.before y.version → why ≡ other
    one_turn (same before version) =
        let bytes : all_bytes c (earlier settings c reading why told x) ≡ all_bytes c (earlier settings c reading other tells y) =
        λ i. all_bytes c (manifests_of c (take (turn i) (same_reach i)) ++ manifests_at (same_stem i) (before i))
        in
        let n : at_fault x.stem x.version ≡ at_fault y.stem y.version = λ i. at_fault (same_stem i) (version i) in
        let moved = subst (λ (n : Needed). IsManifestFault settings c (all_bytes c (earlier settings c reading other tells y)) n why) n
        (subst (λ (k : ℕ). IsManifestFault settings c k (at_fault x.stem x.version) why) bytes x.fault)
        in
        fault_once settings c (all_bytes c (earlier settings c reading other tells y)) (at_fault y.stem y.version) why other told tells moved y.fault
    one_turn (sooner more e) =
        let moved : manifests_of c (take y.turn y.reach) ++ manifests_at y.stem y.before ≡ manifests_of c (take x.turn x.reach) ++ manifests_at x.stem (x.before ++ x.version ∷ more) =
        λ i. manifests_of c (take (sym turn i) (sym same_reach i)) ++ manifests_at (sym same_stem i) (e i)
        in
        absurd (not_among settings c reading why told x more (subst (AreRead c) moved y.read))
    one_turn (later more e) =
        let moved : manifests_of c (take x.turn x.reach) ++ manifests_at x.stem x.before ≡ manifests_of c (take y.turn y.reach) ++ manifests_at y.stem (y.before ++ y.version ∷ more) =
        λ i. manifests_of c (take (turn i) (same_reach i)) ++ manifests_at (same_stem i) (e i)
        in
        absurd (not_among settings c reading other tells y more (subst (AreRead c) moved x.read))

  pub first_fault_once : why ≡ other
  first_fault_once = elim (cases_lt x.turn y.turn) [
    | inl h ↦ absurd (not_read settings c reading why told x y.reach y.turn (manifests_at y.stem y.before) (walk settings c reading other tells y) h y.read)
    | inr f ↦ elim (cases_lt y.turn x.turn) [
      | inl h ↦ absurd (not_read settings c reading other tells y x.reach x.turn (manifests_at x.stem x.before) (walk settings c reading why told x) h x.read)
      | inr g ↦
          let turn : x.turn ≡ y.turn = omega arith in
          one_turn turn (places x.before x.version x.behind y.before y.version y.behind (sym x.next ∙ ap (needed c) (same_stem turn) ∙ y.next))
    ]
  ]
