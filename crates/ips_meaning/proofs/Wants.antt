-- What is wanted at a path.
use Rattle.std.proofs.Common.{◌≡◌, ◌==◌, ◌++◌, ◌∷◌, [], ◌<◌, ℕ, Bool, true, false, cond, List, map, length, Option, Some, None, Bor, Vec, Global, refl, sym, ap, subst, ◌∙◌, inl, inr, arith}
use Rattle.std.specs.Prelude.{is_some, slice_get}
use Rattle.std.specs.Map.{keys_of, lookup}
use Rattle.std.specs.Map.Iter.{deref_pair}
use Rattle.std.specs.List.{All, Contains, AllByRecursion}
use Rattle.std.specs.List.Sorted.{IsStrictlySortedBy}
use Rattle.std.specs.Option.{option_map_or, unwrap_or}
use Rattle.std.specs.Ordering.{nat_cmp, is_eq, ordering_then}
use Rattle.std.specs.Cmp.Lexicographic.{slice_cmp}
use Rattle.std.specs.declared.cmp.Ordering.TheVariants.{Less}
use Rattle.std.proofs.lemmas.Bool.{false≢true}
use Rattle.std.proofs.lemmas.Option.{slice_get_within}
use Rattle.std.proofs.lemmas.List.Elements.{Contains-append_right, All-nil, All-map, All-push}
use Rattle.ips_text.specs.Path.{IsPath}
use Rattle.ips_text.specs.Ancestry.{covers, is_below}
use Rattle.ips_text.proofs.Ancestry.{covers-self}
use Rattle.ips_action.specs.Attrs.{is_same}
use Rattle.ips_action.specs.declared.kind.ActionKind.{ActionKind}
use Rattle.ips_action.specs.declared.kind.ActionKind.TheVariants.{File}
use Rattle.ips_conflict.specs.declared.placed.Placed.{Placed}
use Rattle.ips_conflict.specs.declared.placed.Sort.TheVariants.{Path}
use Rattle.ips_conflict.specs.Key.{sort_of}
use Rattle.ips_conflict.specs.Order.{place_cmp}
use Rattle.ips_conflict.specs.Alike.{kind_place, takes_place}
use Rattle.ips_conflict.specs.Clash.{HasKey, path_key, file_rank, file_cmp}
use Rattle.ips_conflict.proofs.Places.{one_there}
use Rattle.ips_conflict.proofs.Kept.{found_at}
use Rattle.ips_meaning.specs.declared.entry.Entry.{Entry}
use Rattle.ips_meaning.specs.declared.wanted.Wanted.{Wanted}
use Rattle.ips_meaning.specs.Want.{MeansEntry, GivesEntry, IsGiven, IsImplicit, IsWanted, IsWantOf}
use Rattle.ips_meaning.specs.View.{paths_of, entries_of, AreByPath}
use Rattle.ips_meaning.specs.Together.{HasProperParts, AreProper}
use Rattle.ips_meaning.specs.Places.{PathMap, found_in, rank_of, rank_at, count_cmp, Leads, IsLeading, AreLeading, IsWantedPath, AreWanted}
use Rattle.ips_meaning.proofs.Given.{sort_is}
use Rattle.ips_meaning.proofs.Fronts.{covered}
use Rattle.ips_action.proofs.KeyOrder.{same_true}

-- ---- the action that counts

pub leads_at : (kept : List Placed) (path : List ℕ) (place : Option ℕ) (i : ℕ) → IsLeading kept path place → place ≡ Some i → Leads kept path i
leads_at kept path place i is e = subst (IsLeading kept path) e is

pub none_given : (kept : List Placed) (path : List ℕ) (place : Option ℕ) → IsLeading kept path place → place ≡ None → IsGiven kept path → ⊥
none_given kept path place is e = subst (IsLeading kept path) e is

pub leads_within : (kept : List Placed) (path : List ℕ) (i : ℕ) → Leads kept path i → i < length kept
leads_within kept path i h = slice_get_within kept i h.p h.at.here

pub leads_sort : (kept : List Placed) (path : List ℕ) (i : ℕ) (q : Placed) → Leads kept path i → slice_get kept i ≡ Some q → sort_of q.action.kind ≡ Some Path
leads_sort kept path i q h here =
    let one : h.p ≡ q = one_there kept i h.p q h.at.here here in
    ap (λ (p : Placed). sort_of p.action.kind) (sym one) ∙ sort_is h.p path h.at.key_is

-- a file's rank is that among files
rank_same : (kept : List Placed) (i : ℕ) (q : Placed) → slice_get kept i ≡ Some q → q.action.kind ≡ File → rank_at kept i ≡ file_rank kept i
rank_same kept i q here file =
    ap (λ (o : Option Placed). option_map_or rank_of o 2) here
    ∙ ap (λ (k : ActionKind). cond (kind_place k == 1) (cond (takes_place q.action) 0 1) 2) file
    ∙ sym (ap (λ (o : Option Placed). option_map_or (λ p. cond (takes_place p.action) 0 1) o 1) here)

pub leads_gives : (kept : List Placed) (path : List ℕ) (i : ℕ) (q : Placed) (entry : Entry) → Leads kept path i → slice_get kept i ≡ Some q → MeansEntry q.action entry → GivesEntry kept path entry
leads_gives kept path i q entry h here means =
    let one : h.p ≡ q = one_there kept i h.p q h.at.here here in
    let at : HasKey kept (path_key path) i q = subst (λ (p : Placed). HasKey kept (path_key path) i p) one h.at in
    record {
      i = i;
      p = q;
      at = at;
      counts = λ file. record {
        at = record { at = at; file = file };
        first = λ j r there.
            let ranks : file_rank kept i ≡ rank_at kept i = sym (rank_same kept i q here file) in
            let others : file_rank kept j ≡ rank_at kept j = sym (rank_same kept j r there.at.here there.file) in
            let same : file_cmp kept i j ≡ count_cmp kept i j = ap (λ (n : ℕ). ordering_then (nat_cmp n (file_rank kept j)) (place_cmp kept i j)) ranks ∙ ap (λ (n : ℕ). ordering_then (nat_cmp (rank_at kept i) n) (place_cmp kept i j)) others in
            λ more. h.first j r there.at (sym same ∙ more);
      };
      means = means;
    }

-- ---- implicit directories

pub implied : (kept : List Placed) (path : List ℕ) → (IsGiven kept path → ⊥) → IsWantedPath kept path → IsImplicit kept path
implied kept path none w = record {
  not_given = none;
  needed = elim w [
    | inl need ↦ inl need
    | inr below ↦ inr (
      below.0,
      below.1,
      elim ((covered path below.0).0 below.2) [
        | inl same ↦ absurd (none (subst (IsGiven kept) (sym (same_true path below.0 same)) below.1))
        | inr lower ↦ lower
      ],
    )
  ];
}

-- each path at which an entry is wanted is a wanted one
pub wanted_path : (kept : List Placed) (path : List ℕ) (entry : Entry) → IsWanted kept path entry → IsWantedPath kept path
wanted_path kept path entry w = elim w [
  | inl gives ↦ inr (path, (gives.i, gives.p, gives.at), covers-self path)
  | inr implicit ↦ elim implicit.0.needed [ inl need ↦ inl need | inr below ↦ inr (below.0, below.1, (below_parts path below.0 below.2)) ]
]
  where
    below_parts : (p q : List ℕ) → is_below p q ≡ true → covers p q ≡ true
    below_parts p q h = (covered p q).1 (inr h)

-- ---- the entries, path by path

abbrev pub bytes_of : List (Vec ℕ Global) → List (List ℕ)
bytes_of keys = map (λ k. k.items) keys

-- what a map lends
abbrev pub Lent : Type 0
Lent = Bor (Vec ℕ Global) × Bor (Option ℕ)

-- the paths that were gone through
abbrev pub seen_paths : List Lent → List (List ℕ)
seen_paths seen = map (λ b. b.0.now.items) seen

-- the path is one, and the entry has proper parts
abbrev pub HasProper : Wanted → Type 0
HasProper w = IsPath w.path.bytes × HasProperParts w.entry

-- the entries that were made so far, for these paths
pub record Made (kept : List Placed) (paths : List (List ℕ)) (entries : List Wanted) : Type 0 where
  pub paths_are : paths_of entries ≡ paths
  pub each : All (λ w. IsWanted kept w.path.bytes w.entry) entries
  pub proper : All HasProper entries

pub made_none : (kept : List Placed) (entries : List Wanted) → entries ≡ [] → Made kept [] entries
made_none kept entries e = subst (Made kept []) (sym e) (record { paths_are = refl; each = All-nil (λ w. IsWanted kept w.path.bytes w.entry); proper = All-nil HasProper })

seen_more : (seen : List Lent) (b : Lent) → seen_paths (seen ++ b ∷ []) ≡ seen_paths seen ++ b.0.now.items ∷ []
seen_more [] b = refl
seen_more (x ∷ seen) b = ap (λ (l : List (List ℕ)). x.0.now.items ∷ l) (seen_more seen b)

paths_more : (entries : List Wanted) (w : Wanted) → paths_of (entries ++ w ∷ []) ≡ paths_of entries ++ w.path.bytes ∷ []
paths_more [] w = refl
paths_more (e ∷ entries) w = ap (λ (l : List (List ℕ)). e.path.bytes ∷ l) (paths_more entries w)

pub made_more : (kept : List Placed) (seen : List Lent) (entries next : List Wanted) (b : Lent) (w : Wanted) → Made kept (seen_paths seen) entries → next ≡ entries ++ w ∷ [] → w.path.bytes ≡ b.0.now.items → IsWanted kept b.0.now.items w.entry → HasProper w → Made kept (seen_paths (seen ++ b ∷ [])) next
made_more kept seen entries next b w so_far pushed at wanted proper = record {
  paths_are =
      ap paths_of pushed
      ∙ paths_more entries w
      ∙ ap (λ (p : List ℕ). paths_of entries ++ p ∷ []) at
      ∙ ap (λ (l : List (List ℕ)). l ++ b.0.now.items ∷ []) so_far.paths_are
      ∙ sym (seen_more seen b);
  each = subst (All (λ v. IsWanted kept v.path.bytes v.entry)) (sym pushed) (All-push (λ v. IsWanted kept v.path.bytes v.entry) entries w so_far.each (subst (λ (p : List ℕ). IsWanted kept p w.entry) (sym at) wanted));
  proper = subst (All HasProper) (sym pushed) (All-push HasProper entries w so_far.proper proper);
}

all_seen : (seen : List Lent) → seen_paths seen ≡ bytes_of (keys_of (map deref_pair seen))
all_seen [] = refl
all_seen (b ∷ seen) = ap (λ (l : List (List ℕ)). b.0.now.items ∷ l) (all_seen seen)

pub first_paths : (entries : List Wanted) → map (λ (e : List ℕ × Entry). e.0) (entries_of entries) ≡ paths_of entries
first_paths [] = refl
first_paths (e ∷ entries) = ap (λ (l : List (List ℕ)). e.path.bytes ∷ l) (first_paths entries)

below_all : (k : Vec ℕ Global) (keys : List (Vec ℕ Global)) → AllByRecursion (λ y. slice_cmp nat_cmp k.items y.items ≡ Less) keys → AllByRecursion (λ y. slice_cmp nat_cmp k.items y ≡ Less) (bytes_of keys)
below_all k [] all = tt
below_all k (x ∷ keys) all = (all.0, below_all k keys all.1)

sorted_bytes : (keys : List (Vec ℕ Global)) → IsStrictlySortedBy (λ a b. slice_cmp nat_cmp a.items b.items) keys → IsStrictlySortedBy (slice_cmp nat_cmp) (bytes_of keys)
unfolding IsStrictlySortedBy
sorted_bytes [] sorted = tt
sorted_bytes (k ∷ keys) sorted = (below_all k keys sorted.0, sorted_bytes keys sorted.1)

has_contains : (path : List ℕ) (es : List (Vec ℕ Global × Option ℕ)) → is_some (lookup (λ k. is_same path k.items) es) ≡ true → Contains (bytes_of (keys_of es)) path
has_contains path [] h = absurd (false≢true h)
has_contains path (e ∷ es) h = go (is_same path e.0.items) refl h (has_contains path es)
  where
    go : (t : Bool) → is_same path e.0.items ≡ t → is_some (cond t (Some e.1) (lookup (λ k. is_same path k.items) es)) ≡ true → (is_some (lookup (λ k. is_same path k.items) es) ≡ true → Contains (bytes_of (keys_of es)) path) → Contains (bytes_of (keys_of (e ∷ es))) path
    go true here found more = (0, omega arith, sym (same_true path e.0.items here))
    go false here found more = Contains-append_right (e.0.items ∷ []) (bytes_of (keys_of es)) path (more found)

pub made_sorted : (kept : List Placed) (paths : PathMap) (seen : List Lent) (entries : List Wanted) → map deref_pair seen ≡ paths.entries → Made kept (seen_paths seen) entries
    → IsStrictlySortedBy (λ a b. slice_cmp nat_cmp a.items b.items) (keys_of paths.entries) → AreByPath entries
made_sorted kept paths seen entries e made sorted =
    subst (IsStrictlySortedBy (slice_cmp nat_cmp)) (sym (made.paths_are ∙ all_seen seen ∙ ap (λ (es : List (Vec ℕ Global × Option ℕ)). bytes_of (keys_of es)) e)) (sorted_bytes (keys_of paths.entries) sorted)

-- each wanted path has its entry
pub made_whole : (kept : List Placed) (paths : PathMap) (seen : List Lent) (entries : List Wanted) → map deref_pair seen ≡ paths.entries → Made kept (seen_paths seen) entries → AreWanted kept paths
    → (path : List ℕ) → IsWantedPath kept path → Contains (map (λ (e : List ℕ × Entry). e.0) (entries_of entries)) path
made_whole kept paths seen entries e made are path w =
    subst (λ (l : List (List ℕ)). Contains l path) (sym (first_paths entries ∙ made.paths_are ∙ all_seen seen ∙ ap (λ (es : List (Vec ℕ Global × Option ℕ)). bytes_of (keys_of es)) e)) (has_contains path paths.entries ((are.paths path).1 w))

pub made_proper : (kept : List Placed) (paths : List (List ℕ)) (entries : List Wanted) → Made kept paths entries → AreProper (entries_of entries)
made_proper kept paths entries made = All-map (λ (x : List ℕ × Entry). IsPath x.0 × HasProperParts x.1) (λ (w : Wanted). (w.path.bytes, w.entry)) entries made.proper

pub made_all : (kept : List Placed) (paths : PathMap) (seen : List Lent) (entries : List Wanted) → map deref_pair seen ≡ paths.entries → Made kept (seen_paths seen) entries
    → IsStrictlySortedBy (λ a b. slice_cmp nat_cmp a.items b.items) (keys_of paths.entries) → AreWanted kept paths → IsWantOf kept (entries_of entries)
made_all kept paths seen entries e made sorted are = record {
  in_order = subst (IsStrictlySortedBy (slice_cmp nat_cmp)) (sym (first_paths entries)) (made_sorted kept paths seen entries e made sorted);
  each = All-map (λ (x : List ℕ × Entry). IsWanted kept x.0 x.1) (λ (w : Wanted). (w.path.bytes, w.entry)) entries made.each;
  whole = λ path entry w. made_whole kept paths seen entries e made are path (wanted_path kept path entry w);
}

-- ---- what a map has for a path that is met in it

pub key_found : (paths : PathMap) (key : Vec ℕ Global) (place : Option ℕ) → lookup (λ k. is_eq (slice_cmp nat_cmp key.items k.items)) paths.entries ≡ Some place → found_in paths key.items ≡ Some place
key_found paths key place found = sym (found_at key.items paths.entries) ∙ found

-- it is a wanted path
pub key_wanted : (kept : List Placed) (paths : PathMap) (key path : List ℕ) (place : Option ℕ) → AreWanted kept paths → found_in paths key ≡ Some place → path ≡ key → IsWantedPath kept path
key_wanted kept paths key path place are found e = subst (IsWantedPath kept) (sym e) ((are.paths key).0 (ap is_some found))

pub key_proper : (kept : List Placed) (paths : PathMap) (key path : List ℕ) (place : Option ℕ) → AreWanted kept paths → found_in paths key ≡ Some place → path ≡ key → IsPath path
key_proper kept paths key path place are found e = subst IsPath (sym e) (are.proper key (ap is_some found))

-- and its place is that of the action that counts there
pub key_leading : (kept : List Placed) (paths : PathMap) (key path : List ℕ) (place : Option ℕ) → AreLeading kept paths → found_in paths key ≡ Some place → path ≡ key → IsLeading kept path place
key_leading kept paths key path place are found e =
    subst (λ (p : List ℕ). IsLeading kept p place) (sym e) (subst (IsLeading kept key) (ap (λ (o : Option (Option ℕ)). unwrap_or o None) found) (are key))
