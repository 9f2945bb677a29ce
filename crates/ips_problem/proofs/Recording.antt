-- Whatever is chosen in a problem over records can be recorded.
use Rattle.std.proofs.Common.{◌≡◌, ◌⊎◌, ℕ, zero, suc, ◌+◌, Bool, true, false, cond, List, [], ◌∷◌, ◌++◌, map, filter, find, take, length, slice_get, Contains, Option, Some, None, refl, sym, ap, subst, ◌∙◌, inl, inr, arith, bytes_eq, option_map}
use Rattle.std.specs.List.{AllByRecursion}
use Rattle.std.specs.Option.{option_and_then}
use Rattle.std.proofs.lemmas.List.{take_all, take_more}
use Rattle.std.proofs.lemmas.List.Elements.{All-contains, All-contains_itself, All-from_recursion, All-weaker, recursion_from_All}
use Rattle.std.proofs.lemmas.Option.{none-some, same_Some, slice_get_within, get_or_from_slice_get}
use Rattle.ips_text.proofs.Lists.{all_append}
use Rattle.ips_fmri.specs.Name.{IsStem}
use Rattle.ips_fmri.specs.Version.{Parts}
use Rattle.ips_fmri.specs.declared.fmri.Fmri.{Fmri}
use Rattle.ips_manifest.specs.declared.line.Line.{Line}
use Rattle.ips_filter.specs.Settings.{Set}
use Rattle.ips_depend.specs.Asking.{AreWritten, LineAsks, LinesAsk}
use Rattle.ips_depend.specs.Dependency.{Dependency, Group, GroupAny, grouped, objects, stems}
use Rattle.ips_state.specs.Form.{IsPackage}
use Rattle.ips_state.specs.Lawful.{ArePackages, AreStems, IsLawful}
use Rattle.ips_state.specs.State.{Installed, Recorded}
use Rattle.ips_request.specs.declared.asking.Subject.{Subject}
use Rattle.ips_request.specs.declared.read.Read.{Read}
use Rattle.ips_request.specs.declared.request.Request.{Request}
use Rattle.ips_request.specs.Case.{Case, ManifestReading, at_version, is_same_version, own}
use Rattle.ips_request.specs.Request.{IsSubjectOf}
use Rattle.ips_request.specs.Stems.{put_all, stems_of}
use Rattle.ips_request.specs.Subject.{case_of}
use Rattle.ips_repo.specs.Opening.{Opened}
use Rattle.ips_problem.specs.declared.gathered.Gathered.{Gathered}
use Rattle.ips_problem.specs.declared.rows.Row as declared
use Rattle.ips_problem.specs.Avoided.{AreAvoided, IsMissed}
use Rattle.ips_problem.specs.Gathered.{asked, asked_at, tests_asked}
use Rattle.ips_problem.specs.Posed.{Numbered, Offer, Posed, StemRow, numbered, still_avoided}
use Rattle.ips_problem.specs.Recordable.{IsManifest, NamesStems, IsSoundOffer, IfSoundOffer, IsRecordable, IsOverSound, IsSoundRead, IsSoundlyGathered}
use Rattle.ips_problem.specs.Seen.{seen_candidate, seen_read, seen_row, seen_test}
use Rattle.ips_problem.specs.Taken.{AreTaken, offer_at, package_of, selected_at}
use Rattle.ips_problem.proofs.Growth.{put_prefix}

-- ---- lists

-- what holds of each holds of one at a place
all_at : {A : Type 0} (P : A → Type 0) (xs : List A) (i : ℕ) (x : A) → AllByRecursion P xs → slice_get xs i ≡ Some x → P x
all_at P [] i x all at = absurd (none-some x at)
all_at P (y ∷ xs) zero x all at = subst P (same_Some y x at) all.0
all_at P (y ∷ xs) (suc i) x all at = all_at P xs i x all.1 at

-- what holds of what is contained holds of each
all_contained : {A : Type 0} (P : A → Type 0) (xs : List A) → ((x : A) → Contains xs x → P x) → AllByRecursion P xs
all_contained P xs each = recursion_from_All P xs (All-weaker (Contains xs) P each xs (All-contains_itself xs))

found_all : {A : Type 0} (P : A → Type 0) (test : A → Bool) (xs : List A) (x : A) → AllByRecursion P xs → find test xs ≡ Some x → P x
found_all P test [] x all at = absurd (none-some x at)
found_all P test (y ∷ xs) x all at = go (test y) at (found_all P test xs x all.1)
  where
    go : (b : Bool) → cond b (Some y) (find test xs) ≡ Some x → (find test xs ≡ Some x → P x) → P x
    go true at later = subst P (same_Some y x at) all.0
    go false at later = later at

-- stems that are left are stems
left_stems : (test : List ℕ → Bool) (stems : List (List ℕ)) → AllByRecursion (IsStem false) stems → AllByRecursion (IsStem false) (filter test stems)
left_stems test [] all = tt
left_stems test (stem ∷ stems) all = go (test stem) (left_stems test stems all.1)
  where
    go : (b : Bool) → AllByRecursion (IsStem false) (filter test stems) → AllByRecursion (IsStem false) (cond b (stem ∷ filter test stems) (filter test stems))
    go true rest = (all.0, rest)
    go false rest = rest

-- ---- dependencies

written_stems : (texts : List (List ℕ)) (fmris : List Fmri) → AreWritten texts fmris → AllByRecursion (λ (f : Fmri). IsStem false f.stem) fmris
written_stems [] [] are = tt
written_stems [] (f ∷ fmris) are = absurd are
written_stems (text ∷ texts) [] are = absurd are
written_stems (text ∷ texts) (f ∷ fmris) are = (are.0.stem, written_stems texts fmris are.2)

-- a dependency groups nothing but what it is about
grouped_stems : (d : Dependency) → AllByRecursion (λ (f : Fmri). IsStem false f.stem) (objects d) → NamesStems d
grouped_stems (Group f) all = all
grouped_stems (GroupAny fs) all = all
grouped_stems d all = tt

line_stems : (settings : Set) (line : Line) (ds : List Dependency) → LineAsks settings line ds → AllByRecursion NamesStems ds
line_stems settings line ds (inl (not, none)) = subst (AllByRecursion NamesStems) (sym none) tt
line_stems settings line ds (inr (judged, (d, asks, is))) = subst (AllByRecursion NamesStems) (sym is) (grouped_stems d (written_stems _ (objects d) asks.objects), tt)

-- the dependencies that lines ask for name stems
pub asked_stems : (settings : Set) (lines : List Line) (ds : List Dependency) → LinesAsk settings lines ds → AllByRecursion NamesStems ds
asked_stems settings [] ds none = subst (AllByRecursion NamesStems) (sym none) tt
asked_stems settings (line ∷ lines) ds (first, rest, here, later, is) =
    subst (AllByRecursion NamesStems) (sym is) (all_append NamesStems first rest (line_stems settings line first here) (asked_stems settings lines rest later))

-- ---- manifests

-- the image's own package has a manifest
pub own_manifest : (c : Case) (stem : List ℕ) (v : Parts) (p : Installed) → AllByRecursion IsPackage c.installed → own c stem v ≡ Some p → IsManifest p.lines
own_manifest c stem v p all at = go (find (λ (q : Installed). bytes_eq stem q.stem) c.installed) refl at
  where
    when : (b : Bool) (q : Installed) → (let o : Option Installed = cond b (Some q) None in o) ≡ Some p → q ≡ p
    when true q is = same_Some q p is
    when false q is = absurd (none-some p is)

    go : (o : Option Installed) → find (λ (q : Installed). bytes_eq stem q.stem) c.installed ≡ o → at_version o v ≡ Some p → IsManifest p.lines
    go None found is = absurd (none-some p is)
    go (Some q) found is =
        let same = when (is_same_version v q.version) q is in
        subst (λ (r : Installed). IsManifest r.lines) same (found_all IsPackage (λ (q : Installed). bytes_eq stem q.stem) c.installed q all found).manifest

-- ---- one stem

asked_sound : (o : Option Read) → ((r : Read) → o ≡ Some r → IsSoundRead r) → AllByRecursion NamesStems (asked o)
asked_sound None each = tt
asked_sound (Some r) each = (each r refl).tests

asked_at_sound : (reads : List Read) (o : Option ℕ) → AllByRecursion IsSoundRead reads → AllByRecursion NamesStems (asked_at reads o)
asked_at_sound reads None all = tt
asked_at_sound reads (Some i) all = asked_sound (slice_get reads i) (λ r at. all_at IsSoundRead reads i r all at)

numbered_sound : (i k : ℕ) (ds : List Dependency) → AllByRecursion NamesStems ds → AllByRecursion (λ (n : Numbered). NamesStems n.dependency) (numbered i k ds)
numbered_sound i k [] all = tt
numbered_sound i k (d ∷ ds) all = (all.0, numbered_sound i k ds all.1)

-- what the candidates of a stem ask for names stems
tests_sound : (i k : ℕ) (reads : List Read) (os : List (Option ℕ)) → AllByRecursion IsSoundRead reads → AllByRecursion (λ (n : Numbered). NamesStems n.dependency) (tests_asked i k reads os)
tests_sound i k reads [] all = tt
tests_sound i k reads (o ∷ os) all =
    all_append (λ (n : Numbered). NamesStems n.dependency) (numbered i k (asked_at reads o)) (tests_asked i (k + 1) reads os) (numbered_sound i k (asked_at reads o) (asked_at_sound reads o all)) (tests_sound i (k + 1) reads os all)

candidate_sound : (reads : List Read) (o : Option ℕ) → AllByRecursion IsSoundRead reads → IfSoundOffer (seen_candidate reads o)
candidate_sound reads None all = tt
candidate_sound reads (Some i) all = go (slice_get reads i) refl
  where
    go : (r : Option Read) → slice_get reads i ≡ r → IfSoundOffer (option_map seen_read r)
    go None at = tt
    go (Some r) at = let sound = all_at IsSoundRead reads i r all at in record { version = sound.version; manifest = sound.manifest }

candidates_sound : (reads : List Read) (os : List (Option ℕ)) → AllByRecursion IsSoundRead reads → AllByRecursion IfSoundOffer (map (seen_candidate reads) os)
candidates_sound reads [] all = tt
candidates_sound reads (o ∷ os) all = (candidate_sound reads o all, candidates_sound reads os all)

rows_sound : (rows : List declared.Row) → AllByRecursion (λ (row : declared.Row). AllByRecursion IsSoundRead row.reads.items) rows → AllByRecursion (λ (row : StemRow). AllByRecursion IfSoundOffer row.candidates) (map seen_row rows)
rows_sound [] all = tt
rows_sound (row ∷ rows) all = (candidates_sound row.reads.items row.candidates.items all.0, rows_sound rows all.1)

-- ---- all of them

-- before any stem was gone through
pub none_gathered : (g : Gathered) → g.rows.items ≡ [] → map seen_test g.tests.items ≡ [] → IsSoundlyGathered g
none_gathered g rows tests = record {
  each = subst (λ (rs : List declared.Row). AllByRecursion (IsStem false) (take (length rs) (stems_of g.stems.keys))) (sym rows) tt;
  reads = subst (AllByRecursion (λ (row : declared.Row). AllByRecursion IsSoundRead row.reads.items)) (sym rows) tt;
  tests = subst (AllByRecursion (λ (n : Numbered). NamesStems n.dependency)) (sym tests) tt;
}

-- with the next stem
pub more_gathered : (old new : Gathered) (stem : List ℕ) (row : declared.Row) (more : List (List ℕ)) → slice_get (stems_of old.stems.keys) (length old.rows.items) ≡ Some stem → IsStem false stem
    → AllByRecursion IsSoundRead row.reads.items → new.rows.items ≡ old.rows.items ++ row ∷ [] → length new.rows.items ≡ length old.rows.items + 1
    → map seen_test new.tests.items ≡ map seen_test old.tests.items ++ tests_asked (length old.rows.items) 0 row.reads.items row.candidates.items
    → stems_of new.stems.keys ≡ put_all (stems_of old.stems.keys) more → IsSoundlyGathered old → IsSoundlyGathered new
more_gathered old new stem row more at is reads rows one tests keys sound =
    let cur = stems_of old.stems.keys in
    let k = length old.rows.items in
    let l = slice_get_within cur k stem at in
    let taken : take (length new.rows.items) (stems_of new.stems.keys) ≡ take k cur ++ stem ∷ [] =
    (λ j. take (one j) (keys j)) ∙ put_prefix (k + 1) cur more (omega arith) ∙ take_more cur k stem l ∙ ap (λ (s : List ℕ). take k cur ++ s ∷ []) (get_or_from_slice_get cur k stem stem at) in
    record {
      each = subst (AllByRecursion (IsStem false)) (sym taken) (all_append (IsStem false) (take k cur) (stem ∷ []) sound.each (is, tt));
      reads = subst (AllByRecursion (λ (r : declared.Row). AllByRecursion IsSoundRead r.reads.items)) (sym rows)
          (all_append (λ (r : declared.Row). AllByRecursion IsSoundRead r.reads.items) old.rows.items (row ∷ []) sound.reads (reads, tt));
      tests = subst (AllByRecursion (λ (n : Numbered). NamesStems n.dependency)) (sym tests)
          (all_append (λ (n : Numbered). NamesStems n.dependency) (map seen_test old.tests.items) (tests_asked k 0 row.reads.items row.candidates.items) sound.tests (tests_sound k 0 row.reads.items row.candidates.items reads));
    }

-- how manifests are read doesn't matter to what is installed and avoided
pub no_reading : ManifestReading
no_reading = record { lines = λ bytes. None; dependencies = λ lines. None }

-- once all stems were gone through
pub whole_recordable : (s : Subject) (g : Gathered) (p : Posed) (avoid : List (List ℕ)) → IsOverSound s → IsSoundlyGathered g → length g.rows.items ≡ length (stems_of g.stems.keys)
    → ((file : List ℕ → Parts → Option (List ℕ)) (r : ManifestReading) → avoid ≡ still_avoided (case_of s file r))
    → p ≡ record { stems = stems_of g.stems.keys; rows = map seen_row g.rows.items; tests = map seen_test g.tests.items; avoid = avoid } → IsRecordable p
whole_recordable s g p avoid over sound all kept is =
    subst IsRecordable (sym is) (record {
      stems = subst (AllByRecursion (IsStem false)) (ap (λ (n : ℕ). take n (stems_of g.stems.keys)) all ∙ take_all (length (stems_of g.stems.keys)) (stems_of g.stems.keys) (omega arith)) sound.each;
      offers = rows_sound g.rows.items sound.reads;
      tests = sound.tests;
      avoid = subst (AllByRecursion (IsStem false)) (sym (kept (λ stem v. None) no_reading)) (left_stems _ s.state.now.avoid.items over.avoided);
    })

-- over records that are lawful
pub over_lawful : (q : Request) (s : Recorded) (repo : Option Opened) (subject : Subject) → IsSubjectOf q s repo subject → IsLawful s → IsOverSound subject
over_lawful q s repo subject is lawful =
    let same = is.same (λ stem v. None) no_reading in
    record {
      packages = subst (AllByRecursion IsPackage) (sym (ap (λ (c : Case). c.installed) same)) lawful.installed.each;
      avoided = subst (AllByRecursion (IsStem false)) (sym (ap (λ (c : Case). c.avoid) same)) lawful.avoid.each;
    }

-- ---- choices

-- the packages that a choice selects are such
pub taken_packages : (p : Posed) (choice : List ℕ) (packages : List Installed) → IsRecordable p → AreTaken p choice packages → ArePackages packages
taken_packages p choice packages sound taken = record { each = all_contained IsPackage packages (λ q there. let at = (taken.each q).0 there in selected at.0 q at.1); order = taken.order }
  where
    offered : (row : Option StemRow) (k : Option ℕ) (o : Offer) → ((r : StemRow) → row ≡ Some r → AllByRecursion IfSoundOffer r.candidates) → offer_at row k ≡ Some o → IsSoundOffer o
    offered None k o each at = absurd (none-some o at)
    offered (Some r) None o each at = absurd (none-some o at)
    offered (Some r) (Some k) o each at = go (slice_get r.candidates k) refl at
      where
        go : (c : Option (Option Offer)) → slice_get r.candidates k ≡ c → option_and_then (λ x. x) c ≡ Some o → IsSoundOffer o
        go None there is = absurd (none-some o is)
        go (Some None) there is = absurd (none-some o is)
        go (Some (Some x)) there is = subst IsSoundOffer (same_Some x o is) (all_at IfSoundOffer r.candidates k (Some x) (each r refl) there)

    made : (stem : Option (List ℕ)) (o : Option Offer) (q : Installed) → ((s : List ℕ) → stem ≡ Some s → IsStem false s) → ((x : Offer) → o ≡ Some x → IsSoundOffer x) → package_of stem o ≡ Some q → IsPackage q
    made None o q is sound at = absurd (none-some q at)
    made (Some s) None q is sound at = absurd (none-some q at)
    made (Some s) (Some x) q is sound at = subst IsPackage (same_Some _ q at) (record { stem = is s refl; version = (sound x refl).version; manifest = (sound x refl).manifest })

    selected : (i : ℕ) (q : Installed) → selected_at p choice i ≡ Some q → IsPackage q
    selected i q at =
        made (slice_get p.stems i) (offer_at (slice_get p.rows i) (slice_get choice i)) q (λ s there. all_at (IsStem false) p.stems i s sound.stems there)
        (λ x there. offered (slice_get p.rows i) (slice_get choice i) x (λ r row. all_at (λ (r : StemRow). AllByRecursion IfSoundOffer r.candidates) p.rows i r sound.offers row) there) at

-- the stems that are avoided from a choice on are such
pub avoided_stems : (p : Posed) (avoid : List (List ℕ)) (numbers : List ℕ) → IsRecordable p → AreAvoided p numbers avoid → AreStems avoid
avoided_stems p avoid numbers sound avoided = record { each = all_contained (IsStem false) avoid (λ stem there. from stem ((avoided.each stem).0 there)); order = avoided.order }
  where
    among : (fs : List Fmri) → AllByRecursion (λ (f : Fmri). IsStem false f.stem) fs → AllByRecursion (IsStem false) (stems fs)
    among [] all = tt
    among (f ∷ fs) all = (all.0, among fs all.1)

    from : (stem : List ℕ) → (Contains p.avoid stem ⊎ IsMissed p numbers stem) → IsStem false stem
    from stem (inl was) = All-contains (IsStem false) p.avoid stem (All-from_recursion (IsStem false) p.avoid sound.avoid) was
    from stem (inr missed) =
        let test = All-contains (λ (n : Numbered). NamesStems n.dependency) p.tests missed.test (All-from_recursion (λ (n : Numbered). NamesStems n.dependency) p.tests sound.tests) missed.asked in
        All-contains (IsStem false) (stems (grouped missed.test.dependency)) stem (All-from_recursion (IsStem false) (stems (grouped missed.test.dependency)) (among (grouped missed.test.dependency) test)) missed.named
