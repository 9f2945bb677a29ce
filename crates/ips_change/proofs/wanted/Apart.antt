-- Packages leave the folder of the image's records alone.
use Rattle.std.proofs.Common.{◌≡◌, ℕ, zero, suc, ◌||◌, ◌&&◌, true, List, [], ◌∷◌, map, length, Option, Some, None, is_some, refl, sym, ap, subst, ◌∙◌, inl, inr, arith, Bool, false}
use Rattle.std.specs.Prelude.{codes, slice_get}
use Rattle.std.specs.List.{Contains}
use Rattle.std.proofs.lemmas.Bool.{and_parts, or_cases, or_left, or_right, not-true, cases_Bool, false_from_ne_true}
use Rattle.std.proofs.lemmas.List.Elements.{All-contains, Contains-append_right}
use Rattle.ips_text.specs.Ancestry.{covers, is_below}
use Rattle.ips_text.proofs.Ancestry.{covers_trans}
use Rattle.ips_steps.specs.Private.{records_name}
use Rattle.ips_steps.specs.Journal.{may_name}
use Rattle.ips_steps.proofs.Lists.{clash}
use Rattle.ips_manifest.specs.declared.package.Package.{Package}
use Rattle.ips_filter.specs.Settings.{Set}
use Rattle.ips_mediate.specs.declared.set.SetMediator.{SetMediator}
use Rattle.ips_conflict.specs.declared.placed.Placed.{Placed}
use Rattle.ips_conflict.specs.declared.clashing.Rule.TheVariants.{Below}
use Rattle.ips_conflict.specs.Key.{is_dir}
use Rattle.ips_conflict.specs.Alike.{mode_of}
use Rattle.ips_conflict.specs.Clash.{HasKey, has_legacy, is_held_by, path_key}
use Rattle.ips_action.specs.declared.kind.ActionKind.{ActionKind}
use Rattle.ips_action.specs.declared.kind.ActionKind.TheVariants as kind
use Rattle.ips_meaning.specs.declared.entry.Entry.{Entry}
use Rattle.ips_meaning.specs.declared.entry.Entry.TheVariants.{Dir, File, Link, Hard}
use Rattle.ips_meaning.specs.Reserved.{is_reserved}
use Rattle.ips_meaning.specs.Taken.{Leaves}
use Rattle.ips_meaning.specs.Want.{IsGiven, IsWanted, MeansEntry, PackagesMean}
use Rattle.ips_meaning.proofs.Together.{entry_there}
use Rattle.ips_after.specs.Request.{Wanted, is_dir_wanted}
use Rattle.ips_after.proofs.Fits.{apart, below_trans}
use Rattle.ips_after.proofs.Places.{may_of, private_own}
use Rattle.ips_after.proofs.Sorted.{sorted_once}
use Rattle.ips_change.specs.wanted.Wanted.{wanted_among, wanted_of}
use Rattle.ips_change.proofs.wanted.Found.{found_at, in_either, only_at}

contained : (xs : List Placed) (i : ℕ) (x : Placed) → slice_get xs i ≡ Some x → Contains xs x
contained [] i x is = cc
contained (y ∷ ys) zero x is = (0, omega arith, cc)
contained (y ∷ ys) (suc i) x is = Contains-append_right (y ∷ []) ys x (contained ys i x is)

-- what is left of a list is of it
of_list : {A : Type 0} (P : A → Type 0) (xs left : List A) (x : A) → Leaves P xs left → Contains left x → Contains xs x
of_list P [] left x h (k, l, is) = absurd (let none = ap length h in omega arith)
of_list P (y ∷ ys) left x h there = elim h [
  | inl w ↦ elim (in_either y x w.1.0 (subst (λ (l : List _). Contains l x) w.1.2 there)) [
    | inl is ↦ (0, omega arith, is)
    | inr more ↦ Contains-append_right (y ∷ []) ys x (of_list P ys w.1.0 x w.1.1 more)
  ]
  | inr w ↦ Contains-append_right (y ∷ []) ys x (of_list P ys left x w.1 there)
]

own_covers : (q : List ℕ) → is_below records_name q ≡ true → covers (codes "var/pkg") q ≡ true
unfolding records_name
own_covers q below = (and_parts (covers (codes "var/pkg") q) _ below).0

own_above : (q : List ℕ) → is_below records_name q ≡ true → covers q (codes "var/pkg") ≡ true → ⊥
unfolding records_name
own_above q below up = let parts = and_parts (covers (codes "var/pkg") q) _ below in apart (codes "var/pkg") q parts.0 (not-true _ parts.1) up

own_name : codes "var/pkg" ≡ records_name
unfolding records_name
own_name = refl

module _ (settings : Set) (mediators : List SetMediator) (packages : List Package) (entries : List (List ℕ × Entry)) (mean : PackagesMean settings mediators packages entries) where
  abbrev kept : List Placed
  kept = mean.taken.kept

  -- no kept action gives a reserved path
  none_given : (q : List ℕ) → is_reserved q ≡ true → IsGiven kept q → ⊥
  none_given q reserved (i, p, at) = mean.no_reserved q ((p, of_list _ mean.taken.admitted kept p mean.taken.are_kept (contained kept i p at.here), at.key_is), reserved)

  none_wanted : (q : List ℕ) (entry : Entry) → is_below records_name q ≡ true → IsWanted kept q entry → ⊥
  none_wanted q entry below (inl gives) = none_given q (or_left _ _ (own_covers q below)) (gives.i, gives.p, gives.at)
  none_wanted q entry below (inr (implicit, is)) = elim implicit.needed [
    | inl need ↦ elim (or_cases (covers q (codes "var/pkg")) (has_legacy kept && covers q (codes "var/sadm/pkg")) need) [
      | inl up ↦ own_above q below up
      | inr legacy ↦
          let over = (and_parts (has_legacy kept) (covers q (codes "var/sadm/pkg")) legacy).1 in
          let far : covers (codes "var/pkg") (codes "var/sadm/pkg") ≡ true = covers_trans (codes "var/pkg") q (codes "var/sadm/pkg") (own_covers q below) over in
          absurd (cc)
    ]
    | inr (lower, given, up) ↦
        let over : covers q lower ≡ true = (and_parts (covers q lower) _ up).0 in
        none_given lower (or_left _ _ (covers_trans (codes "var/pkg") q lower (own_covers q below) over)) given
  ]

  -- nothing below the folder of the records is wanted
  pub nothing_below : (q : List ℕ) → is_below records_name q ≡ true → wanted_among entries q ≡ None
  nothing_below q below = go (wanted_among entries q) refl
    where
      go : (o : Option Wanted) → wanted_among entries q ≡ o → o ≡ None
      go None is = refl
      go (Some w) is = absurd (let e = only_at entries q w is in none_wanted q e.0 below (All-contains (λ (x : List ℕ × Entry). IsWanted kept x.0 x.1) entries (q, e.0) mean.want.each e.1))

  none_legacy : (q : List ℕ) (entry : Entry) → is_below (codes "var/sadm/pkg") q ≡ true → IsWanted kept q entry → ⊥
  none_legacy q entry below (inl gives) = none_given q (or_right (covers (codes "var/pkg") q) _ below) (gives.i, gives.p, gives.at)
  none_legacy q entry below (inr (implicit, is)) =
      let parts = and_parts (covers (codes "var/sadm/pkg") q) _ below in
      elim implicit.needed [
        | inl need ↦ elim (or_cases (covers q (codes "var/pkg")) (has_legacy kept && covers q (codes "var/sadm/pkg")) need) [
          | inl up ↦ let far : covers (codes "var/sadm/pkg") (codes "var/pkg") ≡ true = covers_trans (codes "var/sadm/pkg") q (codes "var/pkg") parts.0 up in absurd (cc)
          | inr legacy ↦ apart (codes "var/sadm/pkg") q parts.0 (not-true _ parts.1) (and_parts (has_legacy kept) (covers q (codes "var/sadm/pkg")) legacy).1
        ]
        | inr (lower, given, up) ↦ none_given lower (or_right (covers (codes "var/pkg") lower) _ (below_trans (codes "var/sadm/pkg") q lower below up)) given
      ]

  -- nor is anything below the folder of legacy packages
  pub nothing_legacy : (q : List ℕ) → is_below (codes "var/sadm/pkg") q ≡ true → wanted_among entries q ≡ None
  nothing_legacy q below = go (wanted_among entries q) refl
    where
      go : (o : Option Wanted) → wanted_among entries q ≡ o → o ≡ None
      go None is = refl
      go (Some w) is = absurd (let e = only_at entries q w is in none_legacy q e.0 below (All-contains (λ (x : List ℕ × Entry). IsWanted kept x.0 x.1) entries (q, e.0) mean.want.each e.1))

  abbrev folder : List ℕ
  folder = codes "var/sadm/pkg"

  -- an action at that folder, where a legacy package has an entry, gives a directory
  folder_dir : has_legacy kept ≡ true → (i : ℕ) (p : Placed) → HasKey kept (path_key folder) i p → is_dir p.action.kind ≡ true
  folder_dir legacy i p at = go (is_dir p.action.kind) refl
    where
      go : (b : Bool) → is_dir p.action.kind ≡ b → is_dir p.action.kind ≡ true
      go true is = is
      go false is = absurd (mean.no_clash (record { key = path_key folder; rule = Below; first = i; second = None }) (record {
        path = folder;
        a = p;
        of_path = refl;
        a_key = at;
        other = is;
        above = held (has_legacy kept) legacy;
      }))
        where
          held : (l : Bool) → l ≡ true → is_held_by l folder ≡ true
          held true e = refl
          held false e = cc

  dir_means : (k : ActionKind) → is_dir k ≡ true → k ≡ kind.Dir
  dir_means kind.Dir h = refl
  dir_means kind.Set h = cc
  dir_means kind.Depend h = cc
  dir_means kind.File h = cc
  dir_means kind.Link h = cc
  dir_means kind.Hardlink h = cc
  dir_means kind.User h = cc
  dir_means kind.Group h = cc
  dir_means kind.Driver h = cc
  dir_means kind.License h = cc
  dir_means kind.Legacy h = cc
  dir_means kind.Signature h = cc

  folder_entry : has_legacy kept ≡ true → (entry : Entry) → IsWanted kept folder entry → is_dir_wanted (Some (wanted_of entry)) ≡ true
  folder_entry legacy entry (inr (implicit, is)) = ap (λ (x : Entry). is_dir_wanted (Some (wanted_of x))) is
  folder_entry legacy entry (inl gives) = go entry gives.means
    where
      dir : is_dir gives.p.action.kind ≡ true
      dir = folder_dir legacy gives.i gives.p gives.at

      other : (k : ActionKind) → gives.p.action.kind ≡ k → is_dir k ≡ false → ⊥
      other k is off = clash (is_dir k) (ap is_dir (sym is) ∙ dir) off

      go : (x : Entry) → MeansEntry gives.p.action x → is_dir_wanted (Some (wanted_of x)) ≡ true
      go (Dir m) h = refl
      go (File payload m preserve) h = absurd (other kind.File h.0 refl)
      go (Link g) h = absurd (other kind.Link h.0 refl)
      go (Hard to) h = absurd (other kind.Hardlink h.0 refl)

  -- something is wanted there then
  folder_some : has_legacy kept ≡ true → wanted_among entries folder ≡ None → ⊥
  folder_some legacy none = missing (Dir None) (inr (record { not_given = not_given; needed = inl (or_right (covers folder (codes "var/pkg")) _ (need (has_legacy kept) legacy)) }, refl))
    where
      need : (l : Bool) → l ≡ true → (l && covers folder folder) ≡ true
      need true e = refl
      need false e = cc

      missing : (entry : Entry) → IsWanted kept folder entry → ⊥
      missing entry is = let e = entry_there entries folder (mean.want.whole folder entry is) in
          none≢some (sym none ∙ found_at entries folder e.0 (sorted_once (map (λ (e : List ℕ × Entry). e.0) entries) mean.want.in_order) e.1)
        where
          none≢some : {w : Wanted} → None ≡ Some w → ⊥
          none≢some h = cc

      not_given : IsGiven kept folder → ⊥
      not_given (i, p, at) =
          let dir = dir_means p.action.kind (folder_dir legacy i p at) in
          missing (Dir (Some (mode_of p.action))) (inl (record { i = i; p = p; at = at; counts = λ file. absurd (no_file (sym dir ∙ file)); means = (dir, refl) }))
        where
          no_file : kind.Dir ≡ kind.File → ⊥
          no_file h = cc

  -- that folder is wanted as a directory where a legacy package has an entry
  pub legacy_wanted : has_legacy kept ≡ true → is_dir_wanted (wanted_among entries folder) ≡ true
  legacy_wanted legacy = go (wanted_among entries folder) refl
    where
      go : (o : Option Wanted) → wanted_among entries folder ≡ o → is_dir_wanted o ≡ true
      go None is = absurd (folder_some legacy is)
      go (Some w) is =
          let e = only_at entries folder w is in
          ap (λ (x : Wanted). is_dir_wanted (Some x)) e.2 ∙ folder_entry legacy e.0 (All-contains (λ (x : List ℕ × Entry). IsWanted kept x.0 x.1) entries (folder, e.0) mean.want.each e.1)

  own_implicit : IsWanted kept (codes "var/pkg") (Dir None)
  own_implicit = inr (record { not_given = none_given (codes "var/pkg") refl; needed = inl refl }, refl)

  own_entry : (entry : Entry) → IsWanted kept (codes "var/pkg") entry → entry ≡ Dir None
  own_entry entry (inl gives) = absurd (none_given (codes "var/pkg") refl (gives.i, gives.p, gives.at))
  own_entry entry (inr (implicit, is)) = is

  -- that folder is wanted as a directory
  pub own_wanted : is_dir_wanted (wanted_among entries records_name) ≡ true
  own_wanted =
      let e = entry_there entries (codes "var/pkg") (mean.want.whole (codes "var/pkg") (Dir None) own_implicit) in
      ap (λ (q : List ℕ). is_dir_wanted (wanted_among entries q)) (sym own_name)
      ∙ ap is_dir_wanted (found_at entries (codes "var/pkg") e.0 (sorted_once (map (λ (e : List ℕ × Entry). e.0) entries) mean.want.in_order) e.1)
      ∙ ap (λ (x : Entry). is_dir_wanted (Some (wanted_of x))) (own_entry e.0 (All-contains (λ (x : List ℕ × Entry). IsWanted kept x.0 x.1) entries (codes "var/pkg", e.0) mean.want.each e.1))

  -- a journal can name what is wanted, but for that folder and what is above it
  pub wanted_named : (q : List ℕ) → is_some (wanted_among entries q) ≡ true → (may_name q || covers q records_name) ≡ true
  wanted_named q there = elim (cases_Bool (covers q records_name)) [
    | inl up ↦ or_right _ _ up
    | inr off ↦ or_left _ _ (may_of q (false_from_ne_true _ (λ h. clash (is_some (wanted_among entries q)) there (ap is_some (nothing_below q (private_own q h))))) off)
  ]
