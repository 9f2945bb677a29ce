-- Packages mean one list of entries, but for room.
use Rattle.std.proofs.Common.{◌≡◌, inl, inr, ℕ, List, [], ◌∷◌, ◌++◌, map, flat_map, refl, sym, ap, subst, ◌∙◌}
use Rattle.std.specs.List.{All, Contains}
use Rattle.std.proofs.lemmas.List.Elements.{All-contains, All-head, All-tail}
use Rattle.ips_manifest.specs.declared.package.Package.{Package}
use Rattle.ips_filter.specs.Settings.{Set}
use Rattle.ips_filter.specs.Admitted.{Admits}
use Rattle.ips_mediate.specs.declared.set.SetMediator.{SetMediator}
use Rattle.ips_state.specs.State.{Installed, installed}
use Rattle.ips_conflict.specs.declared.placed.Placed.{Placed}
use Rattle.ips_meaning.specs.declared.entry.Entry.{Entry}
use Rattle.ips_meaning.specs.Taken.{Leaves, Stays, Taken, all_placed, placed_of}
use Rattle.ips_meaning.specs.Want.{IsWanted, IsWantOf, IsFreeOfClashes, PackagesMean}
use Rattle.ips_laws.specs.Alike.{AreLike}
use Rattle.ips_laws.proofs.InOrder.{same_paths}
use Rattle.ips_laws.proofs.OneEntry.{wanted_like}
use Rattle.ips_laws.proofs.Apart.{one_left}
use Rattle.ips_meaning.proofs.Together.{entry_there}

-- ---- what an image takes

-- the actions of a package, as it is seen, in their places
abbrev seen_placed : Installed → List Placed
seen_placed q = map (λ line. record { stem = q.stem; line = line.number; action = line.action }) q.lines

pub all_seen : (ps : List Package) → all_placed ps ≡ flat_map seen_placed (map installed ps)
all_seen [] = refl
all_seen (p ∷ ps) = ap (λ (l : List Placed). placed_of p ++ l) (all_seen ps)

-- an image takes the same kept actions of packages that show the same
one_kept : (s : Set) (mediators : List SetMediator) (a b : List Package) → map installed a ≡ map installed b → (x : Taken s mediators a) (y : Taken s mediators b) → x.kept ≡ y.kept
one_kept s mediators a b same x y =
    let placed = all_seen a ∙ ap (flat_map seen_placed) same ∙ sym (all_seen b) in
    let admits : Placed → Type 0 = λ p. Admits s p.action.attrs in
    let moved : Leaves admits (all_placed b) x.admitted = subst (λ (l : List Placed). Leaves admits l x.admitted) placed x.are_admitted in
    let admitted : x.admitted ≡ y.admitted = one_left admits (all_placed b) x.admitted y.admitted moved y.are_admitted in
    one_left (Stays mediators y.admitted) y.admitted x.kept y.kept (subst (λ (l : List Placed). Leaves (Stays mediators l) l x.kept) admitted x.are_kept) y.are_kept

-- ---- what is wanted

abbrev paths_in : List (List ℕ × Entry) → List (List ℕ)
paths_in entries = map (λ e. e.0) entries

abbrev AreWanted : List Placed → List (List ℕ × Entry) → Type 0
AreWanted kept entries = All (λ e. IsWanted kept e.0 e.1) entries

paths_within : (kept : List Placed) (x y : List (List ℕ × Entry)) → IsWantOf kept x → IsWantOf kept y → (p : List ℕ) → Contains (paths_in x) p → Contains (paths_in y) p
paths_within kept x y a b p one =
    let found = entry_there x p one in
    b.whole p found.0 (All-contains (λ (e : List ℕ × Entry). IsWanted kept e.0 e.1) x (p, found.0) a.each found.1)

entries_like : (kept : List Placed) → IsFreeOfClashes kept → (x y : List (List ℕ × Entry)) → paths_in x ≡ paths_in y → AreWanted kept x → AreWanted kept y → AreLike x y
entries_like kept free [] [] same a b = tt
entries_like kept free [] (f ∷ y) same a b = absurd cc
entries_like kept free (e ∷ x) [] same a b = absurd cc
entries_like kept free (e ∷ x) (f ∷ y) same a b =
    let path : e.0 ≡ f.0 = cc in
    let rest : paths_in x ≡ paths_in y = cc in
    let here : IsWanted kept e.0 e.1 = All-head (λ (z : List ℕ × Entry). IsWanted kept z.0 z.1) e x a in
    let there : IsWanted kept f.0 f.1 = All-head (λ (z : List ℕ × Entry). IsWanted kept z.0 z.1) f y b in (
      path,
      wanted_like kept free e.0 e.1 f.1 here (subst (λ (p : List ℕ). IsWanted kept p f.1) (sym path) there),
      entries_like kept free x y rest (All-tail (λ (z : List ℕ × Entry). IsWanted kept z.0 z.1) e x a) (All-tail (λ (z : List ℕ × Entry). IsWanted kept z.0 z.1) f y b),
    )

want_like : (kept : List Placed) → IsFreeOfClashes kept → (x y : List (List ℕ × Entry)) → IsWantOf kept x → IsWantOf kept y → AreLike x y
want_like kept free x y a b =
    entries_like kept free x y (same_paths (paths_in x) (paths_in y) a.in_order b.in_order (paths_within kept x y a b) (paths_within kept y x b a)) a.each b.each

pub meaning_like : (s : Set) (mediators : List SetMediator) (a b : List Package) (x y : List (List ℕ × Entry)) → map installed a ≡ map installed b → PackagesMean s mediators a x → PackagesMean s mediators b y → AreLike x y
meaning_like s mediators a b x y same m n =
    let kept = one_kept s mediators a b same m.taken n.taken in
    want_like m.taken.kept m.no_clash x y m.want (subst (λ (l : List Placed). IsWantOf l y) (sym kept) n.want)
