-- The ways are those of the definition.
use Rattle.std.proofs.Common.{◌≡◌, ◌⊎◌, inl, inr, ℕ, Bool, true, false, cond, not, ◌||◌, List, [], ◌∷◌, ◌++◌, Option, Some, None, is_none, refl, sym, ◌∙◌, ap, subst}
use Rattle.std.specs.List.{AllByRecursion, list_any}
use Rattle.std.proofs.lemmas.Bool.{and_from, and_parts, false≢true, false_from_ne_true, not-true, not_from_false, or_cases, or_left, or_right}
use Rattle.ips_text.specs.Ancestry.{covers, is_below, same_path}
use Rattle.ips_text.proofs.Ancestry.{covers-self, same_path-self, same_path-true}
use Rattle.ips_outside.specs.Image.{Entry, Image, IsImage, is_dir}
use Rattle.ips_steps.specs.Private.{records_name}
use Rattle.ips_after.specs.Lists.{listed}
use Rattle.ips_after.specs.Request.{Request}
use Rattle.ips_after.specs.Salvage.{Aside, Beside, GoesTo, Salvage, SavedBelow, is_lost, side_at, side_name}
use Rattle.ips_after.specs.Salvage as salvage
use Rattle.ips_after.proofs.Fits.{any_from, below_covers, below_of, below_trans}
use Rattle.ips_after.proofs.Names.{beside_out, tried_below}
use Rattle.ips_after.proofs.Order.{listed_append}
use Rattle.ips_after.proofs.Saved.{below_slash, comparable}
use Rattle.ips_conflict.proofs.Marked as marked
use Rattle.ips_aside.specs.declared.sides.side.Side.{Side}
use Rattle.ips_aside.specs.declared.lost.LostName.{LostName}
use Rattle.ips_aside.specs.declared.ways.Ways.{Ways}
use Rattle.ips_aside.specs.Lost.{AreNamesOf, HasName, folder_paths, in_folder, lost_seen, names_of}
use Rattle.ips_aside.specs.Ways.{IsMarkedAbove, IsStandingAbove, is_standing, is_way, bytes_if_any}
use Rattle.ips_aside.proofs.Defined.{IsLostSide, all_tried, any_at, folder_listed, front_named, goes_name, told}

-- one of the paths, at which a test holds
record Passing (test : List ℕ → Bool) (paths : List (List ℕ)) : Type 0 where
  path : List ℕ
  there : listed paths path ≡ true
  passes : test path ≡ true

passing : (test : List ℕ → Bool) (paths : List (List ℕ)) → list_any test paths ≡ true → Passing test paths
passing test [] h = cc
passing test (x ∷ paths) h = go (test x) refl h (passing test paths)
  where
    go : (b : Bool) → test x ≡ b → (b || list_any test paths) ≡ true → (list_any test paths ≡ true → Passing test paths) → Passing test (x ∷ paths)
    go true e h rest = record { path = x; there = or_left _ _ (same_path-self x); passes = e }
    go false e h rest = let y = rest h in record { path = y.path; there = or_right (same_path x y.path) _ y.there; passes = y.passes }

-- ---- directories, up and down

dir_up : (t : Image) (q p : List ℕ) → IsImage t → covers q p ≡ true → is_dir (t.look p) ≡ true → is_dir (t.look q) ≡ true
dir_up t q p formed up dir = go (same_path q p) refl
  where
    none : (e : Option Entry) → is_dir e ≡ true → is_none e ≡ false
    none (Some e) h = refl
    none None h = cc

    later : (b c : Bool) → b ≡ false → (b || c) ≡ true → c ≡ true
    later false c e h = h
    later true c e h = cc

    go : (b : Bool) → same_path q p ≡ b → is_dir (t.look q) ≡ true
    go true e = ap (λ (l : List ℕ). is_dir (t.look l)) (same_path-true q p e) ∙ dir
    go false e = later (is_none (t.look p)) (is_dir (t.look q)) (none (t.look p) dir) (formed.below_dirs q p up e)

-- nothing is a directory where nothing stands above
none_below : (t : Image) (root q : List ℕ) → IsImage t → t.look root ≡ None → covers root q ≡ true → is_dir (t.look q) ≡ false
none_below t root q formed none up = false_from_ne_true _ (λ dir. false≢true (ap is_dir (sym none) ∙ dir_up t root q formed up dir))

-- above the path, but not at or above the lowest directory, there is none
none_above : (t : Image) (root q : List ℕ) (o : Option (List ℕ)) → IsStandingAbove t root o → is_below q root ≡ true → is_standing o q ≡ false → is_dir (t.look q) ≡ false
none_above t root q (Some p) standing below off = go (comparable p q root (below_covers p root standing.0) (below_covers q root below))
  where
    go : (covers p q ≡ true) ⊎ (covers q p ≡ true) → is_dir (t.look q) ≡ false
    go (inl up) = standing.2 q below (below_of p q up (false_from_ne_true _ (λ same. false≢true (sym off ∙ subst (λ (l : List ℕ). covers l p ≡ true) (same_path-true p q same) (covers-self p)))))
    go (inr up) = absurd (false≢true (sym off ∙ up))
none_above t root q None standing below off = standing q below

module _ (r : Request) (t : Image) (a : Aside) (things : List (List ℕ)) (sides : List Side) (names : List LostName) (are : AreNamesOf r t a things sides names) where
  -- what goes to a path in the salvage folder
  record Inner (n : List ℕ) : Type 0 where
    goes : GoesTo r t a n
    inside : is_below a.root n ≡ true

  inner_thing : (xs : List (List ℕ)) → ((x : List ℕ) → listed xs x ≡ true → listed things x ≡ true) → (n : List ℕ) → listed (folder_paths a.root xs) n ≡ true → Inner n
  inner_thing [] sub n h = cc
  inner_thing (x ∷ xs) sub n h = go (same_path (in_folder a.root x) n) refl h (inner_thing xs (λ y e. sub y (or_right (same_path x y) _ e)) n)
    where
      here : Inner (in_folder a.root x)
      here = record { goes = Salvage x (sym (are.things_are x) ∙ sub x (or_left _ _ (same_path-self x))); inside = below_slash a.root x }

      go : (b : Bool) → same_path (in_folder a.root x) n ≡ b → (b || listed (folder_paths a.root xs) n) ≡ true → (listed (folder_paths a.root xs) n ≡ true → Inner n) → Inner n
      go true e h rest = subst Inner (same_path-true (in_folder a.root x) n e) here
      go false e h rest = rest h

  inner_name : (xs : List LostName) → AllByRecursion (λ x. IsLostSide r t (lost_seen x)) xs → AllByRecursion (HasName a) xs → (n : List ℕ) → listed (names_of xs) n ≡ true → Inner n
  inner_name [] lost has n h = cc
  inner_name (x ∷ xs) lost has n h = go (same_path x.name.items n) refl h (inner_name xs lost.1 has.1 n)
    where
      here : Inner x.name.items
      here =
          let l = lost.0 in
          let one = all_tried r t a things sides names are x.path.now.bytes l.side l.at l.lost in
          record {
            goes = subst (GoesTo r t a) (goes_name r t a things sides names are x l has.0) (Beside x.path.now.bytes l.side l.at);
            inside = ap (is_below a.root) (sym has.0 ∙ one.name) ∙ tried_below a.root one.times x.path.now.bytes l.side;
          }

      go : (b : Bool) → same_path x.name.items n ≡ b → (b || listed (names_of xs) n) ≡ true → (listed (names_of xs) n ≡ true → Inner n) → Inner n
      go true e h rest = subst Inner (same_path-true x.name.items n e) here
      go false e h rest = rest h

  abbrev goers : List (List ℕ)
  goers = folder_paths a.root things ++ names_of names

  inner : (n : List ℕ) → listed goers n ≡ true → Inner n
  inner n h = go (or_cases _ _ (sym (listed_append (folder_paths a.root things) (names_of names) n) ∙ h))
    where
      go : (listed (folder_paths a.root things) n ≡ true) ⊎ (listed (names_of names) n ≡ true) → Inner n
      go (inl e) = inner_thing things (λ x k. k) n e
      go (inr e) = inner_name names (told r t a things sides names are) are.has n e

  module _ (w : Ways) (above : IsMarkedAbove w.above goers) (standing : IsStandingAbove t a.root (bytes_if_any w.standing)) (formed : IsImage t) (none : t.look a.root ≡ None) where
    no_dir : (q : List ℕ) → is_standing (bytes_if_any w.standing) q ≡ false → (covers q a.root ≡ true) ⊎ (covers a.root q ≡ true) → is_dir (t.look q) ≡ false
    no_dir q off (inr down) = none_below t a.root q formed none down
    no_dir q off (inl up) = go (same_path q a.root) refl
      where
        go : (b : Bool) → same_path q a.root ≡ b → is_dir (t.look q) ≡ false
        go true e = ap is_dir (ap t.look (same_path-true q a.root e) ∙ none)
        go false e = none_above t a.root q (bytes_if_any w.standing) standing (below_of q a.root up e) off

    near : (q n : List ℕ) → is_below q n ≡ true → is_below a.root n ≡ true → (covers q a.root ≡ true) ⊎ (covers a.root q ≡ true)
    near q n up down = comparable q a.root n (below_covers q n up) (below_covers a.root n down)

    either : (x y : Bool) → (x ≡ true) ⊎ (y ≡ true) → (x || y) ≡ true
    either x y (inl e) = or_left x y e
    either x y (inr e) = or_right x y e

    pub only_ways : (q : List ℕ) → is_way w q ≡ true → SavedBelow r t a q × (is_dir (t.look q) ≡ false) × ((covers q a.root || covers a.root q) ≡ true)
    only_ways q h =
        let parts = and_parts _ (not (is_standing (bytes_if_any w.standing) q)) h in
        let one = passing (is_below q) goers (sym (above q) ∙ parts.0) in
        let there = inner one.path one.there in
        let side = near q one.path one.passes there.inside in
        (record { at = one.path; inside_it = one.passes; goes = there.goes }, no_dir q (not-true _ parts.1) side, either _ _ side)

    module _ (bare : (q : List ℕ) → is_below records_name q ≡ true → r.new.at q ≡ None) (under : is_below records_name a.root ≡ true) (folder : is_dir (t.look records_name) ≡ true) where
      -- a file that is put beside its path lies out of the folder of the records, so what is above it and near the salvage folder stands
      not_beside : (q x : List ℕ) (side : salvage.Side) → side_at r t x ≡ Some side → is_below q (x ++ side.suffix) ≡ true → is_dir (t.look q) ≡ false → (covers q a.root ≡ true) ⊎ (covers a.root q ≡ true) → ⊥
      not_beside q x side at up dir (inr down) = beside_out r t a.root bare under x side at (below_trans records_name q (x ++ side.suffix) (marked.below_covers records_name a.root q under down) up)
      not_beside q x side at up dir (inl over) = go (comparable q records_name a.root over (below_covers records_name a.root under))
        where
          stands : covers q records_name ≡ true → ⊥
          stands e = false≢true (sym dir ∙ dir_up t q records_name formed e folder)

          below : covers records_name q ≡ true → (b : Bool) → same_path records_name q ≡ b → ⊥
          below e true same = false≢true (sym dir ∙ ap (λ (l : List ℕ). is_dir (t.look l)) (sym (same_path-true records_name q same)) ∙ folder)
          below e false apart = beside_out r t a.root bare under x side at (below_trans records_name q (x ++ side.suffix) (below_of records_name q e apart) up)

          go : (covers q records_name ≡ true) ⊎ (covers records_name q ≡ true) → ⊥
          go (inl e) = stands e
          go (inr e) = below e (same_path records_name q) refl

      goer : (q n : List ℕ) → GoesTo r t a n → is_below q n ≡ true → is_dir (t.look q) ≡ false → (covers q a.root ≡ true) ⊎ (covers a.root q ≡ true) → list_any (is_below q) goers ≡ true
      goer q n (Salvage x s) up dir side = any_from (is_below q) goers (a.root ++ 47 ∷ x) (listed_append (folder_paths a.root things) (names_of names) (a.root ++ 47 ∷ x) ∙ or_left _ _ (folder_listed a.root things x (are.things_are x ∙ s))) up
      goer q n (Beside x other on) up dir side = go (is_lost r t (x ++ other.suffix)) refl up
        where
          go : (l : Bool) → is_lost r t (x ++ other.suffix) ≡ l → is_below q (cond l (a.lost x) (x ++ other.suffix)) ≡ true → list_any (is_below q) goers ≡ true
          go true lost h = any_from (is_below q) goers (a.lost x)
              (listed_append (folder_paths a.root things) (names_of names) (a.lost x) ∙ or_right (listed (folder_paths a.root things) (a.lost x)) _ (front_named a names x are.has (any_at r t a things sides names are x other on lost))) h
          go false free h = absurd (not_beside q x other on h dir side)

      not_standing : (o : Option (List ℕ)) → IsStandingAbove t a.root o → (q : List ℕ) → is_dir (t.look q) ≡ false → is_standing o q ≡ false
      not_standing (Some p) s q dir = false_from_ne_true _ (λ up. false≢true (sym dir ∙ dir_up t q p formed up s.1))
      not_standing None s q dir = refl

      pub all_ways : (q : List ℕ) → SavedBelow r t a q → is_dir (t.look q) ≡ false → (covers q a.root || covers a.root q) ≡ true → is_way w q ≡ true
      all_ways q b dir side = and_from _ _ (above q ∙ goer q b.at b.goes b.inside_it dir (or_cases _ _ side)) (not_from_false _ (not_standing (bytes_if_any w.standing) standing q dir))
