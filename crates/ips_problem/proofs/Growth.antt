-- The list of stems in reach is gone through stem by stem.
use Rattle.std.proofs.Common.{◌≡◌, ℕ, suc, ◌+◌, ◌<◌, ◌≤◌, true, List, [], ◌∷◌, ◌++◌, map, flat_map, take, drop, length, sum_by, slice_get, get_or, Option, Some, is_some, refl, sym, ap, subst, ◌∙◌, inl, inr, arith, append_assoc, append-nil, All, String, Global, string_bytes}
use Rattle.std.specs.List.{AllByRecursion, AllZip}
use Rattle.std.proofs.lemmas.List.{length_push, length-take-le, drop_more, length-map, take_all, take-append-drop, take-append-le, map_push, take_more}
use Rattle.std.proofs.lemmas.Bool.{cond_both, cases_lt}
use Rattle.std.proofs.lemmas.List.Elements.{All-append, All-from_recursion, All-map, All-nil, All-same, All-weaker, recursion_from_All}
use Rattle.std.proofs.lemmas.List.Concat.{flat_map-append}
use Rattle.std.proofs.lemmas.List.Sums.{sum_by-append, sum_by_push}
use Rattle.std.proofs.lemmas.Option.{slice_get_within, get_or_from_slice_get}
use Rattle.ips_fmri.specs.Version.{Parts}
use Rattle.ips_filter.specs.Settings.{Set}
use Rattle.ips_depend.specs.Dependency.{Dependency}
use Rattle.ips_repo.specs.Manifest.{manifest_limit}
use Rattle.ips_request.specs.declared.fault.ProblemFault.{ProblemFault}
use Rattle.ips_request.specs.declared.read.Read.{Read}
use Rattle.ips_request.specs.Stems.{has, put, put_all, firsts, stems_of}
use Rattle.ips_request.specs.Case.{Case, manifest_facts}
use Rattle.ips_request.specs.Candidates.{candidates}
use Rattle.ips_request.specs.Manifests.{Needed, IsManifestFault, all_manifests_limit, bytes_read, needed}
use Rattle.ips_request.proofs.Lookups.{put_all_append}
use Rattle.ips_problem.specs.declared.rows.Numbered as numbers
use Rattle.ips_problem.specs.declared.rows.Row as declared
use Rattle.ips_problem.specs.Fault.{AreRead, IsFirstFault, all_bytes, manifests_at, manifests_of}
use Rattle.ips_problem.specs.Reach.{drawn_in, grown, seeds, stems_wanted}
use Rattle.ips_problem.specs.Posed.{Numbered, StemRow, numbered, row_of, still_avoided, tests_from, tests_of_candidates}
use Rattle.ips_problem.specs.Seen.{seen_row, seen_test}
use Rattle.ips_problem.proofs.Offering.{drawn_alike, tests_alike}
use Rattle.ips_problem.specs.Gathered.{AreReadBehind, IsFaultAmong, IsGoneThrough, IsPosedBy, IsReadBehind, IsReadOf, IsRowOf, asked_at, tests_asked}
use Rattle.ips_text.proofs.Lists.{all_append, take_item}

-- ---- lists

-- more stands behind what stood there
pub list_next : {X : Type 0} (init now new before more after : List X) → after ≡ before ++ more → now ≡ init ++ before → new ≡ now ++ more → new ≡ init ++ after
list_next init now new before more after split done next = next ∙ ap (λ l. l ++ more) done ∙ append_assoc init before more ∙ ap (λ l. init ++ l) (sym split)

-- a prefix of the list with more put last is that of the list
put_once : (k : ℕ) (xs : List (List ℕ)) (y : List ℕ) → k ≤ length xs → take k (put xs y) ≡ take k xs
put_once k xs y l = cond_both (has y xs) xs (xs ++ y ∷ []) (λ z. take k z ≡ take k xs) (λ e. refl) (λ e. take-append-le k xs (y ∷ []) l)

longer : (k : ℕ) (xs : List (List ℕ)) (y : List ℕ) → k ≤ length xs → k ≤ length (put xs y)
longer k xs y l = cond_both (has y xs) xs (xs ++ y ∷ []) (λ z. k ≤ length z) (λ e. l) (λ e. let long = length_push xs y in omega arith)

pub put_prefix : (k : ℕ) (xs more : List (List ℕ)) → k ≤ length xs → take k (put_all xs more) ≡ take k xs
put_prefix k xs [] l = refl
put_prefix k xs (y ∷ more) l = put_prefix k (put xs y) more (longer k xs y l) ∙ put_once k xs y l

put_longer : (k : ℕ) (xs more : List (List ℕ)) → k ≤ length xs → k ≤ length (put_all xs more)
put_longer k xs [] l = l
put_longer k xs (y ∷ more) l = put_longer k (put xs y) more (longer k xs y l)

-- ---- one stem

told_of : (c : Case) (stem : List ℕ) (vs : List Parts) (reads : List Read) → AllZip (IsReadOf c stem) vs reads → AllByRecursion (λ (n : Needed). is_some (manifest_facts c n.stem n.version) ≡ true) (manifests_at stem vs)
told_of c stem [] reads h = tt
told_of c stem (v ∷ vs) [] h = absurd h
told_of c stem (v ∷ vs) (x ∷ reads) h = (ap is_some h.0.says, told_of c stem vs reads h.1)

zip_more : (c : Case) (stem : List ℕ) (vs : List Parts) (reads : List Read) (v : Parts) (x : Read) → AllZip (IsReadOf c stem) vs reads → IsReadOf c stem v x → AllZip (IsReadOf c stem) (vs ++ v ∷ []) (reads ++ x ∷ [])
zip_more c stem [] [] v x h r = (r, tt)
zip_more c stem [] (y ∷ reads) v x h r = absurd h
zip_more c stem (w ∷ vs) [] v x h r = absurd h
zip_more c stem (w ∷ vs) (y ∷ reads) v x h r = (h.0, zip_more c stem vs reads v x h.1 r)

manifests_more : (stem : List ℕ) (vs : List Parts) (v : Parts) → manifests_at stem (vs ++ v ∷ []) ≡ manifests_at stem vs ++ record { stem = stem; version = v } ∷ []
manifests_more stem vs v = let needed_at : Parts → Needed = λ v. record { stem = stem; version = v } in map_push needed_at vs v

-- nothing was read of no versions
pub none_read : (c : Case) (total : ℕ) (stem : List ℕ) → AreReadBehind c total total stem [] []
none_read c total stem = record { each = tt; few = tt; counted = omega arith }

read_more : (c : Case) (before mid now : ℕ) (stem : List ℕ) (vs : List Parts) (reads : List Read) (v : Parts) (x : Read) → AreReadBehind c before mid stem vs reads → IsReadBehind c mid now stem v x
    → AreReadBehind c before now stem (vs ++ v ∷ []) (reads ++ x ∷ [])
read_more c before mid now stem vs reads v x h r =
    let n : Needed = record { stem = stem; version = v } in
    let more = manifests_more stem vs v in
    let few = all_append (λ (n : Needed). bytes_read c n ≤ manifest_limit) (manifests_at stem vs) (n ∷ []) h.few (r.few, tt) in
    let sum = ap (sum_by (bytes_read c)) more ∙ sum_by_push (bytes_read c) (manifests_at stem vs) n in
    let first = h.counted in
    let last = r.counted in
    record {
      each = zip_more c stem vs reads v x h.each r.is;
      few = subst (AllByRecursion (λ (n : Needed). bytes_read c n ≤ manifest_limit)) (sym more) few;
      counted = omega arith;
    }

-- one version more
pub read_next : (c : Case) (before mid now : ℕ) (stem : List ℕ) (vs : List Parts) (i : ℕ) (v : Parts) (reads : List Read) (x : Read) → i < length vs → v ≡ get_or vs i v
    → AreReadBehind c before mid stem (take i vs) reads → IsReadBehind c mid now stem v x → AreReadBehind c before now stem (take (i + 1) vs) (reads ++ x ∷ [])
read_next c before mid now stem vs i v reads x l at h r =
    subst (λ ws. AreReadBehind c before now stem ws (reads ++ x ∷ [])) (sym (take_item vs i v l at)) (read_more c before mid now stem (take i vs) reads v x h r)

-- the first that has a fault
pub fault_next : (settings : Set) (c : Case) (before mid : ℕ) (stem : List ℕ) (vs : List Parts) (i : ℕ) (v : Parts) (reads : List Read) (why : ProblemFault) → i < length vs → v ≡ get_or vs i v
    → mid ≤ all_manifests_limit → AreReadBehind c before mid stem (take i vs) reads → IsManifestFault settings c mid (record { stem = stem; version = v }) why → IsFaultAmong settings c before stem vs why
fault_next settings c before mid stem vs i v reads why l at few h f =
    let counted = h.counted in
    record {
      before = take i vs;
      version = v;
      behind = drop (i + 1) vs;
      next = sym (take-append-drop i vs) ∙ ap (λ ws. take i vs ++ ws) (drop_more vs i v l ∙ ap (λ w. w ∷ drop (i + 1) vs) (sym at));
      told = told_of c stem (take i vs) reads h.each;
      few = h.few;
      all = omega arith;
      fault = subst (λ (n : ℕ). IsManifestFault settings c n (record { stem = stem; version = v }) why) counted f;
    }

-- ---- one stem more

tests_more : (c : Case) (i : ℕ) (xs : List (List ℕ)) (x : List ℕ) → tests_from c i (xs ++ x ∷ []) ≡ tests_from c i xs ++ tests_of_candidates c (i + length xs) x 0 (candidates c x)
tests_more c i [] x =
    let place : i ≡ i + 0 = omega arith in
    append-nil (tests_of_candidates c i x 0 (candidates c x)) ∙ ap (λ (n : ℕ). tests_of_candidates c n x 0 (candidates c x)) place
tests_more c i (y ∷ ys) x =
    let own = tests_of_candidates c i y 0 (candidates c y) in
    let place : i + 1 + length ys ≡ i + suc (length ys) = omega arith in
    ap (λ ts. own ++ ts) (tests_more c (i + 1) ys x ∙ ap (λ (n : ℕ). tests_from c (i + 1) ys ++ tests_of_candidates c n x 0 (candidates c x)) place)
    ∙ sym (append_assoc own (tests_from c (i + 1) ys) (tests_of_candidates c (i + suc (length ys)) x 0 (candidates c x)))

needs_more : (c : Case) (xs : List (List ℕ)) (x : List ℕ) → manifests_of c (xs ++ x ∷ []) ≡ manifests_of c xs ++ manifests_at x (needed c x)
needs_more c xs x =
    flat_map-append (λ stem. manifests_at stem (needed c stem)) xs (x ∷ []) ∙ ap (λ ns. manifests_of c xs ++ ns) (append-nil (manifests_at x (needed c x)))

drawn_more : (c : Case) (xs : List (List ℕ)) (x : List ℕ) → flat_map (drawn_in c) (xs ++ x ∷ []) ≡ flat_map (drawn_in c) xs ++ drawn_in c x
drawn_more c xs x = flat_map-append (drawn_in c) xs (x ∷ []) ∙ ap (λ ns. flat_map (drawn_in c) xs ++ ns) (append-nil (drawn_in c x))

module _ (c : Case) (cur : List (List ℕ)) (k : ℕ) (stem : List ℕ) (at : slice_get cur k ≡ Some stem) where
  abbrev pub drawn : List (List ℕ)
  drawn = put_all cur (drawn_in c stem)

  taken : take (k + 1) drawn ≡ take k cur ++ stem ∷ []
  taken =
      let l = slice_get_within cur k stem at in
      put_prefix (k + 1) cur (drawn_in c stem) (omega arith) ∙ take_more cur k stem l ∙ ap (λ (s : List ℕ). take k cur ++ s ∷ []) (get_or_from_slice_get cur k stem stem at)

  same_before : (j : ℕ) → j ≤ k → grown c drawn j ≡ grown c cur j
  same_before j le =
      let l = slice_get_within cur k stem at in
      ap (λ ss. firsts (seeds c ++ flat_map (drawn_in c) ss)) (put_prefix j cur (drawn_in c stem) (omega arith))

  grows_more : cur ≡ grown c cur k → drawn ≡ grown c drawn (k + 1)
  grows_more e =
      let all = flat_map (drawn_in c) (take k cur) in
      sym (ap (λ ss. firsts (seeds c ++ flat_map (drawn_in c) ss)) taken
      ∙ ap (λ ds. firsts (seeds c ++ ds)) (drawn_more c (take k cur) stem)
      ∙ ap firsts (sym (append_assoc (seeds c) all (drawn_in c stem)))
      ∙ put_all_append [] (seeds c ++ all) (drawn_in c stem)
      ∙ ap (λ ss. put_all ss (drawn_in c stem)) (sym e))

  long_before : cur ≡ grown c cur k → ((j : ℕ) → j < k → j < length (grown c cur j)) → (j : ℕ) → j < k + 1 → j < length (grown c drawn j)
  long_before e w j l = elim (cases_lt j k) [
    | inl h ↦ let same = ap (λ (ss : List (List ℕ)). length ss) (same_before j (omega arith)) in let long = w j h in omega arith
    | inr h ↦
        let here : j ≡ k = omega arith in
        let same = ap (λ (ss : List (List ℕ)). length ss) (same_before j (omega arith) ∙ ap (grown c cur) here ∙ sym e) in
        let long = slice_get_within cur k stem at in
        omega arith
  ]

  pub gone_more : (rows : List StemRow) (tests : List Numbered) (total now : ℕ) (reads : List Read) → IsGoneThrough c cur k rows tests total → AreReadBehind c total now stem (needed c stem) reads → now ≤ all_manifests_limit
      → IsGoneThrough c drawn (k + 1) (rows ++ row_of c stem ∷ []) (tests ++ tests_of_candidates c k stem 0 (candidates c stem)) now
  gone_more rows tests total now reads g r few =
      let before = manifests_of c (take k cur) in
      let own = manifests_at stem (needed c stem) in
      let all = ap (manifests_of c) taken ∙ needs_more c (take k cur) stem in
      let sum = ap (sum_by (bytes_read c)) all ∙ sum_by-append (bytes_read c) before own in
      let l = slice_get_within cur k stem at in
      let place : 0 + length (take k cur) ≡ k = omega (arith, length-take-le k cur (omega arith)) in
      let first = g.counted in
      let last = r.counted in
      record {
        grows = grows_more g.grows;
        on_list = long_before g.grows g.on_list;
        known = ap (λ rs. rs ++ row_of c stem ∷ []) g.known ∙ sym (ap (map (row_of c)) taken ∙ map_push (row_of c) (take k cur) stem);
        asks = ap (λ ts. ts ++ tests_of_candidates c k stem 0 (candidates c stem)) g.asks
            ∙ ap (λ (n : ℕ). tests_from c 0 (take k cur) ++ tests_of_candidates c n stem 0 (candidates c stem)) (sym place)
            ∙ sym (ap (tests_from c 0) taken ∙ tests_more c 0 (take k cur) stem);
        read = record {
          said = subst (AllByRecursion (λ (n : Needed). is_some (manifest_facts c n.stem n.version) ≡ true)) (sym all)
              (all_append (λ (n : Needed). is_some (manifest_facts c n.stem n.version) ≡ true) before own g.read.said (told_of c stem (needed c stem) reads r.each));
          each = subst (AllByRecursion (λ (n : Needed). bytes_read c n ≤ manifest_limit)) (sym all) (all_append (λ (n : Needed). bytes_read c n ≤ manifest_limit) before own g.read.each r.few);
          all = omega arith;
        };
        counted = omega arith;
      }

  -- the first fault of what the stem needs is the first of all
  pub first_fault : (settings : Set) (rows : List StemRow) (tests : List Numbered) (total : ℕ) (why : ProblemFault) → IsGoneThrough c cur k rows tests total → IsFaultAmong settings c total stem (needed c stem) why
      → IsFirstFault settings c why
  first_fault settings rows tests total why g f =
      let earlier = manifests_of c (take k cur) in
      let own = manifests_at stem f.before in
      let sum = sum_by-append (bytes_read c) earlier own in
      let first = g.counted in
      let few = f.all in
      let place : total + all_bytes c own ≡ all_bytes c (earlier ++ own) = omega arith in
      let l = slice_get_within cur k stem at in
      record {
        reach = cur;
        turn = k;
        stem = stem;
        before = f.before;
        version = f.version;
        behind = f.behind;
        grows = g.grows;
        on_list = λ j le. elim (cases_lt j k) [
          | inl h ↦ g.on_list j h
          | inr h ↦
              let here : j ≡ k = omega arith in
              let same = ap (λ (ss : List (List ℕ)). length ss) (ap (grown c cur) here ∙ sym g.grows) in
              omega arith
        ];
        at_turn = at;
        next = f.next;
        read = record {
          said = all_append (λ (n : Needed). is_some (manifest_facts c n.stem n.version) ≡ true) earlier own g.read.said f.told;
          each = all_append (λ (n : Needed). bytes_read c n ≤ manifest_limit) earlier own g.read.each f.few;
          all = omega arith;
        };
        fault = subst (λ (n : ℕ). IsManifestFault settings c n (record { stem = stem; version = f.version }) why) place f.fault;
      }

-- before any stem was gone through
pub gone_none : (c : Case) → IsGoneThrough c (firsts (seeds c)) 0 [] [] 0
gone_none c = record {
  grows = ap firsts (sym (append-nil (seeds c)));
  on_list = λ j l. absurd (omega arith);
  known = refl;
  asks = refl;
  read = record { said = tt; each = tt; all = omega arith };
  counted = refl;
}

-- once all of them were
pub gone_all : (c : Case) (cur : List (List ℕ)) (k : ℕ) (rows : List StemRow) (tests : List Numbered) (total : ℕ) (avoid : List (List ℕ)) → k ≡ length cur → avoid ≡ still_avoided c
    → IsGoneThrough c cur k rows tests total → IsPosedBy c (record { stems = cur; rows = rows; tests = tests; avoid = avoid })
gone_all c cur k rows tests total avoid e a g =
    let whole = take_all k cur (omega arith) in
    record {
      reach = record {
        before_turn = λ j l. g.on_list j (omega arith);
        whole = g.grows ∙ ap (grown c cur) e;
      };
      read = subst (λ ss. AreRead c (manifests_of c ss)) whole g.read;
      same = λ i. record { stems = cur; rows = (g.known ∙ ap (map (row_of c)) whole) i; tests = (g.asks ∙ ap (tests_from c 0) whole) i; avoid = a i };
    }

-- ---- what was gathered

-- the tests of one candidate more
pub tests_asked_more : (i k : ℕ) (reads : List Read) (os : List (Option ℕ)) (o : Option ℕ) → tests_asked i k reads (os ++ o ∷ []) ≡ tests_asked i k reads os ++ numbered i (k + length os) (asked_at reads o)
tests_asked_more i k reads [] o =
    let place : k ≡ k + 0 = omega arith in
    append-nil (numbered i k (asked_at reads o)) ∙ ap (λ (n : ℕ). numbered i n (asked_at reads o)) place
tests_asked_more i k reads (p ∷ os) o =
    let own = numbered i k (asked_at reads p) in
    let place : k + 1 + length os ≡ k + suc (length os) = omega arith in
    ap (λ ts. own ++ ts) (tests_asked_more i (k + 1) reads os o ∙ ap (λ (n : ℕ). tests_asked i (k + 1) reads os ++ numbered i n (asked_at reads o)) place)
    ∙ sym (append_assoc own (tests_asked i (k + 1) reads os) (numbered i (k + suc (length os)) (asked_at reads o)))

-- the tests of the candidates of a stem are of its number
of_stem : (i k : ℕ) (reads : List Read) (os : List (Option ℕ)) → All (λ (n : Numbered). n.stem ≡ i) (tests_asked i k reads os)
of_stem i k reads [] = All-nil (λ (n : Numbered). n.stem ≡ i)
of_stem i k reads (o ∷ os) =
    let test : Dependency → Numbered = λ d. record { stem = i; candidate = k; dependency = d } in
    All-append (λ (n : Numbered). n.stem ≡ i) (numbered i k (asked_at reads o)) (tests_asked i (k + 1) reads os)
    (All-map (λ (n : Numbered). n.stem ≡ i) test (asked_at reads o) (λ j d l. refl)) (of_stem i (k + 1) reads os)

seen_all : (P : Numbered → Type 0) (ns : List numbers.Numbered) → AllByRecursion P (map seen_test ns) → AllByRecursion (λ (n : numbers.Numbered). P (seen_test n)) ns
seen_all P [] h = tt
seen_all P (n ∷ ns) h = (h.0, seen_all P ns h.1)

-- with those of one stem more, the tests are of the stems that were gone through
pub known_more : (k n : ℕ) (reads : List Read) (os : List (Option ℕ)) (old new : List numbers.Numbered) → n ≡ k + 1 → All (λ (t : numbers.Numbered). t.stem < k) old
    → map seen_test new ≡ map seen_test old ++ tests_asked k 0 reads os → All (λ (t : numbers.Numbered). t.stem < n) new
known_more k n reads os old new one known e =
    let P = λ (t : Numbered). t.stem < n in
    let Q = λ (t : numbers.Numbered). t.stem < n in
    let asked = tests_asked k 0 reads os in
    let before = All-map P seen_test old (All-weaker (λ (t : numbers.Numbered). t.stem < k) Q (λ t l. omega arith) old known) in
    let own = All-weaker (λ (t : Numbered). t.stem ≡ k) P (λ t same. omega arith) asked (of_stem k 0 reads os) in
    let all = All-same P (map seen_test new) (map seen_test old ++ asked) e (All-append P (map seen_test old) asked before own) in
    All-from_recursion Q new (seen_all P new (recursion_from_All P (map seen_test new) all))

-- the list of stems doesn't become shorter
pub within_more : (keys new : List (String Global)) (more : List (List ℕ)) (k : ℕ) → stems_of new ≡ put_all (stems_of keys) more → k ≤ length keys → k ≤ length new
within_more keys new more k e l =
    let old = length-map keys (λ (s : String Global). string_bytes s) in
    let now = length-map new (λ (s : String Global). string_bytes s) in
    let same = ap (λ (ss : List (List ℕ)). length ss) e in
    let long = put_longer k (stems_of keys) more (omega arith) in
    omega arith

-- with the next stem
pub gathered_next : (c : Case) (cur : List (List ℕ)) (k : ℕ) (stem : List ℕ) (rows : List StemRow) (tests : List Numbered) (total now : ℕ) (row : declared.Row) → slice_get cur k ≡ Some stem
    → IsGoneThrough c cur k rows tests total → IsRowOf c stem row → AreReadBehind c total now stem (needed c stem) row.reads.items → now ≤ all_manifests_limit
    → (more : List (List ℕ)) (after : ℕ) (others : List StemRow) (asked : List Numbered) → more ≡ put_all cur (flat_map (λ o. stems_wanted (asked_at row.reads.items o)) row.candidates.items) → after ≡ k + 1
    → others ≡ rows ++ seen_row row ∷ [] → asked ≡ tests ++ tests_asked k 0 row.reads.items row.candidates.items → IsGoneThrough c more after others asked now
gathered_next c cur k stem rows tests total now row at g r h few more after others asked m a o t =
    let reads = row.reads.items in
    let os = row.candidates.items in
    let ps = candidates c stem in
    let stems = m ∙ ap (put_all cur) (drawn_alike c stem reads os ps r.asks) in
    let known = o ∙ ap (λ r. rows ++ r ∷ []) r.seen in
    let asks = t ∙ ap (λ ts. tests ++ ts) (tests_alike c k 0 stem reads os ps r.asks) in
    let whole = gone_more c cur k stem at rows tests total now reads g h few in
    subst (λ ss. IsGoneThrough c ss after others asked now) (sym stems)
    (subst (λ (n : ℕ). IsGoneThrough c (put_all cur (drawn_in c stem)) n others asked now) (sym a)
    (subst (λ rs. IsGoneThrough c (put_all cur (drawn_in c stem)) (k + 1) rs asked now) (sym known)
    (subst (λ ts. IsGoneThrough c (put_all cur (drawn_in c stem)) (k + 1) (rows ++ row_of c stem ∷ []) ts now) (sym asks) whole)))

-- where the list begins
pub gathered_none : (c : Case) (stems : List (List ℕ)) (k : ℕ) (rows : List StemRow) (tests : List Numbered) (total : ℕ) → stems ≡ firsts (seeds c) → k ≡ 0 → rows ≡ [] → tests ≡ [] → total ≡ 0 → IsGoneThrough c stems k rows tests total
gathered_none c stems k rows tests total s a o t n =
    subst (λ ss. IsGoneThrough c ss k rows tests total) (sym s)
    (subst (λ (k : ℕ). IsGoneThrough c (firsts (seeds c)) k rows tests total) (sym a)
    (subst (λ rs. IsGoneThrough c (firsts (seeds c)) 0 rs tests total) (sym o)
    (subst (λ ts. IsGoneThrough c (firsts (seeds c)) 0 [] ts total) (sym t)
    (subst (λ (n : ℕ). IsGoneThrough c (firsts (seeds c)) 0 [] [] n) (sym n) (gone_none c)))))
