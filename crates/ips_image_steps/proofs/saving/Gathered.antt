-- What is placed last at each path is what is saved there.
use Rattle.std.proofs.Common.{◌≡◌, ℕ, ◌==◌, Bool, true, false, cond, not, ◌&&◌, ◌||◌, List, [], ◌∷◌, ◌++◌, Option, Some, None, Vec, Global, refl, sym, ◌∙◌, ap}
use Rattle.std.specs.Prelude.{IfSome}
use Rattle.std.specs.List.{AllByRecursion, flat_map, list_any}
use Rattle.std.specs.Option.{option_map}
use Rattle.std.proofs.lemmas.Bool.{eq-eqb, eqb-true, or_left, or_right}
use Rattle.ips_text.specs.Ancestry.{is_below, same_path}
use Rattle.ips_text.proofs.Ancestry.{same_path-self, same_path-true}
use Rattle.ips_text.proofs.Lists.{all_append}
use Rattle.ips_action.specs.Attrs.{is_same}
use Rattle.ips_action.proofs.KeyOrder.{same_self, same_true}
use Rattle.ips_outside.specs.Image.{Dir, Entry, File, Image, Link, Other, file_bytes, is_file}
use Rattle.ips_steps.specs.Private.{records_name}
use Rattle.ips_steps.specs.Steps.{content_bytes}
use Rattle.ips_after.specs.Lists.{listed}
use Rattle.ips_after.specs.Request.{IsWant, Request}
use Rattle.ips_after.specs.Salvage.{Aside, has_long_side, inside, moved, moved_inside, put_beside, salvaged, salvaged_inside, saved, side_at, way_entry}
use Rattle.ips_after.proofs.Changed.{both_ways}
use Rattle.ips_found.specs.Found.{AreThings, Found, FoundDir, FoundFile, FoundLink, FoundOther, IsThing, found_of, found_told, thing_paths}
use Rattle.ips_found.specs.declared.found.Thing.{Thing}
use Rattle.ips_movable.specs.Movable.{CanMove}
use Rattle.ips_aside.specs.declared.sides.side.Side.{Side}
use Rattle.ips_aside.specs.declared.lost.LostName.{LostName}
use Rattle.ips_aside.specs.declared.ways.Ways.{Ways}
use Rattle.ips_aside.specs.Lost.{AreNamesOf, in_folder}
use Rattle.ips_aside.specs.Ways.{is_standing, is_way, bytes_if_any}
use Rattle.ips_filter.proofs.Facets.{all_weaker}
use Rattle.ips_image_steps.specs.declared.saving.saved.Saved.{Saved as Told}
use Rattle.ips_image_steps.specs.saving.Saving.{CanBeMade, IsSavedFrom, Placing, Saved, SavedThing, SavedWay, all_placed, entry_saved, found_entry, last_at, name_placed, named_placed, provenances_found, provenances_saved, saved_told, side_placed, thing_placed, way_at, way_placed}
use Rattle.ips_aside.specs.declared.sides.side.SideName.{SideName}
use Rattle.ips_aside.specs.declared.sides.side.SideName.TheVariants as name
use Rattle.ips_image_steps.proofs.saving.Last.{all_flat, each_always, last_append, last_of}
use Rattle.ips_image_steps.proofs.saving.Named.{SentTo, all_sent, files_last}

-- bytes are the same just where they are one path
pub same_as : (p q : List ℕ) → is_same p q ≡ same_path q p
same_as p q = both_ways (λ h. ap (same_path q) (same_true p q h) ∙ same_path-self q) (λ h. same_self p q (sym (same_path-true q p h)))

-- ---- things

-- the rest of a path in a folder, if it is this
abbrev is_rest : List ℕ → Option (List ℕ) → Bool
is_rest p (Some x) = same_path p x
is_rest p None = false

turned : (b : ℕ) → (47 == b) ≡ (b == 47)
turned b = both_ways (λ h. eq-eqb b 47 (sym (eqb-true 47 b h))) (λ h. eq-eqb 47 b (sym (eqb-true b 47 h)))

inside_same : (root p q : List ℕ) → same_path (in_folder root p) q ≡ is_rest p (inside root q)
inside_same [] p [] = refl
inside_same [] p (b ∷ q) = ap (λ (c : Bool). c && same_path p q) (turned b) ∙ go (b == 47)
  where
    go : (c : Bool) → (c && same_path p q) ≡ is_rest p (cond c (Some q) None)
    go true = refl
    go false = refl
inside_same (a ∷ root) p [] = refl
inside_same (a ∷ root) p (b ∷ q) = ap (λ (c : Bool). (a == b) && c) (inside_same root p q) ∙ go (a == b)
  where
    go : (c : Bool) → (c && is_rest p (inside root q)) ≡ is_rest p (cond c (inside root q) None)
    go true = refl
    go false = refl

module _ (t : Image) where
  moved_of : (p : List ℕ) (e : Option Entry) (f : Found) → t.look p ≡ e → Some f ≡ found_of e → Some (found_entry t p f) ≡ moved e
  moved_of p (Some (Dir m d)) f at is = let same : f ≡ FoundDir m d = cc in ap (λ (x : Found). Some (found_entry t p x)) same
  moved_of p (Some (File m b)) f at is =
      let same : f ≡ FoundFile m = cc in
      ap (λ (x : Found). Some (found_entry t p x)) same ∙ ap (λ (x : Option Entry). Some (File m (content_bytes (file_bytes x)))) at
  moved_of p (Some (Link g)) f at is = let same : f ≡ FoundLink g = cc in ap (λ (x : Found). Some (found_entry t p x)) same
  moved_of p (Some Other) f at is = let same : f ≡ FoundOther = cc in ap (λ (x : Found). Some (found_entry t p x)) same
  moved_of p None f at is = cc

  found_moved : (x : Thing) → IsThing t x → Some (found_entry t x.path.bytes (found_told x.found)) ≡ moved (t.look x.path.bytes)
  found_moved x is = moved_of x.path.bytes (t.look x.path.bytes) (found_told x.found) refl is

-- the rest of a path in a folder is among these
abbrev listed_rest : List (List ℕ) → Option (List ℕ) → Bool
listed_rest paths (Some x) = listed paths x
listed_rest paths None = false

none_listed : (i : Option (List ℕ)) → listed_rest [] i ≡ false
none_listed (Some x) = refl
none_listed None = refl

-- either branch is this
one_branch : {A : Type 0} (b : Bool) (x y : A) → y ≡ x → cond b x y ≡ x
one_branch true x y same = refl
one_branch false x y same = same

module _ (bytes : List ℕ → List ℕ) (t : Image) (root : List ℕ) where
  pub things_last : (xs : List Thing) → AreThings t xs → (q : List ℕ) (o : Option Saved)
      → option_map (entry_saved bytes t) (last_at (flat_map (thing_placed root) xs) q o) ≡ cond (listed_rest (thing_paths xs) (inside root q)) (moved_inside t (inside root q)) (option_map (entry_saved bytes t) o)
  things_last [] all q o = sym (ap (λ (b : Bool). cond b (moved_inside t (inside root q)) (option_map (entry_saved bytes t) o)) (none_listed (inside root q)))
  things_last (x ∷ xs) all q o = things_last xs all.1 q (cond (same_path (in_folder root x.path.bytes) q) (Some what) o) ∙ go (inside root q) (inside_same root x.path.bytes q)
    where
      what : Saved
      what = SavedThing x.path.bytes (found_told x.found)

      here : (y : List ℕ) (b : Bool) → same_path x.path.bytes y ≡ b → cond (listed (thing_paths xs) y) (moved (t.look y)) (option_map (entry_saved bytes t) (cond b (Some what) o)) ≡ cond (b || listed (thing_paths xs) y) (moved (t.look y)) (option_map (entry_saved bytes t) o)
      here y true e =
          let is = found_moved t x all.0 ∙ ap (λ (l : List ℕ). moved (t.look l)) (same_path-true x.path.bytes y e) in
          one_branch (listed (thing_paths xs) y) (moved (t.look y)) _ is
      here y false e = refl

      go : (i : Option (List ℕ)) → same_path (in_folder root x.path.bytes) q ≡ is_rest x.path.bytes i
          → cond (listed_rest (thing_paths xs) i) (moved_inside t i) (option_map (entry_saved bytes t) (cond (same_path (in_folder root x.path.bytes) q) (Some what) o)) ≡ cond (listed_rest (thing_paths (x ∷ xs)) i) (moved_inside t i) (option_map (entry_saved bytes t) o)
      go (Some y) e = ap (λ (b : Bool). cond (listed (thing_paths xs) y) (moved (t.look y)) (option_map (entry_saved bytes t) (cond b (Some what) o))) e ∙ here y (same_path x.path.bytes y) refl
      go None e = ap (λ (b : Bool). option_map (entry_saved bytes t) (cond b (Some what) o)) e

-- ---- directories on the way

module _ (bytes : List ℕ → List ℕ) (t : Image) (standing : Option (List ℕ)) where
  pub ways_last : (keys : List (Vec ℕ Global)) (q : List ℕ) (o : Option Saved)
      → option_map (entry_saved bytes t) (last_at (flat_map (way_placed standing) keys) q o) ≡ cond (list_any (λ k. is_same q k.items) keys && not (is_standing standing q)) (Some (Dir 493 false)) (option_map (entry_saved bytes t) o)
  ways_last [] q o = refl
  ways_last (k ∷ keys) q o =
      ap (option_map (entry_saved bytes t)) (last_append (way_at standing k.items) (flat_map (way_placed standing) keys) q o) ∙ ways_last keys q (last_at (way_at standing k.items) q o) ∙ go (is_same q k.items) refl
    where
      W : Option Entry
      W = Some (Dir 493 false)

      rest : Bool
      rest = list_any (λ k. is_same q k.items) keys

      one : (s : Bool) (b : Bool) → last_at (cond s [] ((k.items, SavedWay) ∷ [])) q o ≡ cond s o (cond (same_path k.items q) (Some SavedWay) o)
      one true b = refl
      one false b = refl

      here : (s : Bool) → cond (rest && not s) W (option_map (entry_saved bytes t) (cond s o (Some SavedWay))) ≡ cond (not s) W (option_map (entry_saved bytes t) o)
      here true = ap (λ (b : Bool). cond b W (option_map (entry_saved bytes t) o)) (none rest)
        where
          none : (b : Bool) → (b && false) ≡ false
          none true = refl
          none false = refl
      here false = one_branch (rest && true) W W refl

      placed : last_at (way_at standing k.items) q o ≡ cond (is_standing standing k.items) o (cond (same_path k.items q) (Some SavedWay) o)
      placed = one (is_standing standing k.items) true

      go : (b : Bool) → is_same q k.items ≡ b → cond (rest && not (is_standing standing q)) W (option_map (entry_saved bytes t) (last_at (way_at standing k.items) q o)) ≡ cond ((b || rest) && not (is_standing standing q)) W (option_map (entry_saved bytes t) o)
      go true e =
          let same : q ≡ k.items = same_true q k.items e in
          let at : last_at (way_at standing k.items) q o ≡ cond (is_standing standing q) o (Some SavedWay) =
          placed ∙ ap (λ (b : Bool). cond (is_standing standing k.items) o (cond b (Some SavedWay) o)) (sym (same_as q k.items) ∙ e) ∙ ap (λ (l : List ℕ). cond (is_standing standing l) o (Some SavedWay)) (sym same) in
          ap (λ (x : Option Saved). cond (rest && not (is_standing standing q)) W (option_map (entry_saved bytes t) x)) at ∙ here (is_standing standing q)
      go false e =
          let at : last_at (way_at standing k.items) q o ≡ o =
          placed ∙ ap (λ (b : Bool). cond (is_standing standing k.items) o (cond b (Some SavedWay) o)) (sym (same_as q k.items) ∙ e) ∙ one_branch (is_standing standing k.items) o o refl in
          ap (λ (x : Option Saved). cond (rest && not (is_standing standing q)) W (option_map (entry_saved bytes t) x)) at

-- ---- all of it

sources_found : (r : Request) (t : Image) (p : List ℕ) (f : Found) → Some f ≡ found_of (t.look p) → salvaged r t p ≡ true → AllByRecursion (IsSavedFrom r t) (provenances_found p f)
sources_found r t p (FoundDir m d) is s = tt
sources_found r t p (FoundFile m) is s = ((file (t.look p) is, or_left _ _ s), tt)
  where
    file : (e : Option Entry) → Some (FoundFile m) ≡ found_of e → is_file e ≡ true
    file (Some (Dir n d)) is = cc
    file (Some (File n b)) is = refl
    file (Some (Link g)) is = cc
    file (Some Other) is = cc
    file None is = cc
sources_found r t p (FoundLink g) is s = tt
sources_found r t p FoundOther is s = tt

all_listed : (xs : List Thing) → AllByRecursion (λ x. listed (thing_paths xs) x.path.bytes ≡ true) xs
all_listed [] = tt
all_listed (x ∷ xs) = (or_left _ _ (same_path-self x.path.bytes), all_weaker (λ y. listed (thing_paths xs) y.path.bytes ≡ true) (λ y. listed (thing_paths (x ∷ xs)) y.path.bytes ≡ true) xs (λ y h. or_right (same_path x.path.bytes y.path.bytes) _ h) (all_listed xs))

way_all : (P : List ℕ → Saved → Type 0) (standing : Option (List ℕ)) (p : List ℕ) → P p SavedWay → AllByRecursion (λ x. P x.0 x.1) (way_at standing p)
way_all P standing p holds = go (is_standing standing p)
  where
    go : (b : Bool) → AllByRecursion (λ (x : Placing). P x.0 x.1) (cond b [] ((p, SavedWay) ∷ []))
    go true = tt
    go false = (holds, tt)

-- what holds of each kind of what is placed holds of all of it
placed_all : (P : List ℕ → Saved → Type 0) (root : List ℕ) (things : List Thing) (sides : List Side) (names : List LostName) (ways : Ways) → ((p : List ℕ) → P p SavedWay)
    → AllByRecursion (λ x. P x.0 x.1) (flat_map side_placed sides ++ flat_map name_placed names) → AllByRecursion (λ (x : Thing). P (in_folder root x.path.bytes) (SavedThing x.path.bytes (found_told x.found))) things
    → AllByRecursion (λ x. P x.0 x.1) (all_placed root things sides names ways)
placed_all P root things sides names ways way files each =
    all_append (λ x. P x.0 x.1) (flat_map (way_placed (bytes_if_any ways.standing)) ways.above.keys) _
    (all_flat (λ x. P x.0 x.1) (way_placed (bytes_if_any ways.standing)) ways.above.keys (each_always (λ k. AllByRecursion (λ x. P x.0 x.1) (way_placed (bytes_if_any ways.standing) k)) ways.above.keys (λ k. way_all P (bytes_if_any ways.standing) k.items (way k.items))))
    (all_append (λ x. P x.0 x.1) (flat_map side_placed sides ++ flat_map name_placed names) (flat_map (thing_placed root) things) files
    (all_flat (λ x. P x.0 x.1) (thing_placed root) things (all_weaker (λ (x : Thing). P (in_folder root x.path.bytes) (SavedThing x.path.bytes (found_told x.found))) (λ x. AllByRecursion (λ y. P y.0 y.1) (thing_placed root x)) things (λ x h. (h, tt)) each)))

-- a step can make what is placed, where it can make the things
pub can_place : (root : List ℕ) (things : List Thing) (sides : List Side) (names : List LostName) (ways : Ways) → AllByRecursion (CanMove root) things → (q : List ℕ) → IfSome (last_at (all_placed root things sides names ways) q None) CanBeMade
can_place root things sides names ways can q = go (last_at (all_placed root things sides names ways) q None) refl
  where
    beside : (s : Side) → AllByRecursion (λ x. CanBeMade x.1) (side_placed s)
    beside s = named s.name
      where
        named : (n : SideName) → AllByRecursion (λ x. CanBeMade x.1) (named_placed s n)
        named (name.Free path) = (tt, tt)
        named name.Lost = tt
        named name.TooLong = tt

    files : AllByRecursion (λ x. CanBeMade x.1) (flat_map side_placed sides ++ flat_map name_placed names)
    files = all_append (λ x. CanBeMade x.1) (flat_map side_placed sides) (flat_map name_placed names)
        (all_flat (λ x. CanBeMade x.1) side_placed sides (each_always (λ s. AllByRecursion (λ x. CanBeMade x.1) (side_placed s)) sides beside))
        (all_flat (λ x. CanBeMade x.1) name_placed names (each_always (λ x. AllByRecursion (λ y. CanBeMade y.1) (name_placed x)) names (λ x. (tt, tt))))

    go : (o : Option Saved) → last_at (all_placed root things sides names ways) q None ≡ o → IfSome o CanBeMade
    go (Some what) is = last_of (λ p w. CanBeMade w) (all_placed root things sides names ways) q what (placed_all (λ p w. CanBeMade w) root things sides names ways (λ p. tt) files (all_weaker (CanMove root) (λ x. CanBeMade (SavedThing x.path.bytes (found_told x.found))) things (λ x c. c.made) can)) is
    go None is = tt

module _ (r : Request) (t : Image) (a : Aside) (things : List Thing) (sides : List Side) (names : List LostName) (ways : Ways) (found : AreThings t things) (are : AreNamesOf r t a (thing_paths things) sides names) (want : IsWant r.new)
    (bare : (q : List ℕ) → is_below records_name q ≡ true → r.new.at q ≡ None) (under : is_below records_name a.root ≡ true) (short : (p : List ℕ) → has_long_side r t a p (side_at r t p) ≡ false) where
  abbrev all : List Placing
  all = all_placed a.root things sides names ways

  -- the rest of a path in the salvage folder is that of a thing just where it is salvaged
  rest_salvaged : (i : Option (List ℕ)) → listed_rest (thing_paths things) i ≡ salvaged_inside r t i
  rest_salvaged (Some x) = are.things_are x
  rest_salvaged None = refl

  pub saved_last : ((q : List ℕ) → a.ways q ≡ is_way ways q) → (q : List ℕ) → option_map (entry_saved r.bytes t) (last_at all q None) ≡ saved r t a q
  saved_last same q =
      let W = flat_map (way_placed (bytes_if_any ways.standing)) ways.above.keys in
      let S = flat_map side_placed sides ++ flat_map name_placed names in
      let T = flat_map (thing_placed a.root) things in
      ap (option_map (entry_saved r.bytes t)) (last_append W (S ++ T) q None ∙ last_append S T q (last_at W q None))
      ∙ things_last r.bytes t a.root things found q (last_at S q (last_at W q None))
      ∙ ap (λ (b : Bool). cond b (moved_inside t (inside a.root q)) (option_map (entry_saved r.bytes t) (last_at S q (last_at W q None)))) (rest_salvaged (inside a.root q))
      ∙ ap (cond (salvaged_inside r t (inside a.root q)) (moved_inside t (inside a.root q)))
      (files_last r t a (thing_paths things) sides names are want bare under short q (last_at W q None)
      ∙ ap (put_beside r t a r.new.keys q) (ways_last r.bytes t (bytes_if_any ways.standing) ways.above.keys q None ∙ ap way_entry (sym (same q))))

  thing_sources : AllByRecursion (λ (x : Thing). AllByRecursion (IsSavedFrom r t) (provenances_found x.path.bytes (found_told x.found))) things
  thing_sources = joined things found (all_listed things)
    where
      joined : (xs : List Thing) → AreThings t xs → AllByRecursion (λ (x : Thing). listed (thing_paths things) x.path.bytes ≡ true) xs → AllByRecursion (λ (x : Thing). AllByRecursion (IsSavedFrom r t) (provenances_found x.path.bytes (found_told x.found))) xs
      joined [] is there = tt
      joined (x ∷ xs) is there = (sources_found r t x.path.bytes (found_told x.found) is.0 (sym (are.things_are x.path.bytes) ∙ there.0), joined xs is.1 there.1)

  -- contents come from files that are salvaged or beside which they are put, or are payloads that are put beside paths
  pub sources_last : (q : List ℕ) (what : Saved) → last_at all q None ≡ Some what → AllByRecursion (IsSavedFrom r t) (provenances_saved what)
  sources_last q what is = last_of (λ p w. AllByRecursion (IsSavedFrom r t) (provenances_saved w)) all q what
      (placed_all (λ p w. AllByRecursion (IsSavedFrom r t) (provenances_saved w)) a.root things sides names ways (λ p. tt)
      (all_weaker (λ x. SentTo r t a x.0 x.1) (λ x. AllByRecursion (IsSavedFrom r t) (provenances_saved x.1)) (flat_map side_placed sides ++ flat_map name_placed names) (λ x s. s.sources) (all_sent r t a (thing_paths things) sides names are want bare under short))
      thing_sources) is

-- what is put under a path, as it is told
pub told_cond : (b : Bool) (what : Told) (o : Option Told) → option_map saved_told (cond b (Some what) o) ≡ cond b (Some (saved_told what)) (option_map saved_told o)
told_cond true what o = refl
told_cond false what o = refl
