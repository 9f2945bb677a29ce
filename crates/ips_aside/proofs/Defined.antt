-- The names that are found are those of the definitions.
use Rattle.std.proofs.Common.{◌≡◌, ◌⊎◌, ◌<◌, ◌+◌, inl, inr, List, [], ◌∷◌, ◌++◌, ℕ, suc, Bool, true, false, cond, ◌||◌, map, Some, None, is_some, refl, sym, ◌∙◌, ap, subst, arith}
use Rattle.std.specs.List.{AllByRecursion, list_any}
use Rattle.std.specs.List.Sorted.{IsSortedBy}
use Rattle.std.specs.Ordering.{is_lt}
use Rattle.std.proofs.lemmas.Bool.{and_from, false≢true, or_cases, or_left, or_right}
use Rattle.std.proofs.lemmas.List.{map-append}
use Rattle.std.proofs.lemmas.List.Elements.{All-from_recursion, recursion_from_All}
use Rattle.std.proofs.lemmas.List.Folds.{list_any-append}
use Rattle.std.proofs.lemmas.List.Sorted.{All-permutation, list_any-IsPermutation}
use Rattle.ips_text.specs.Ancestry.{covers, is_below, same_path}
use Rattle.ips_text.proofs.Ancestry.{covers-self, same_path-self, same_path-true}
use Rattle.ips_outside.specs.Image.{Image}
use Rattle.ips_outside.specs.Outside.{readable}
use Rattle.ips_steps.specs.Private.{records_name}
use Rattle.ips_after.specs.Lists.{listed}
use Rattle.ips_after.specs.Request.{Request}
use Rattle.ips_after.specs.Salvage.{Aside, Beside, GoesTo, Holding, IsLostName, Lesser, NameTaken, Salvage, Salvaged, SavedBelow, depth, is_lost, lesser, salvaged, side_at, side_name, with_suffix}
use Rattle.ips_after.specs.Salvage as salvage
use Rattle.ips_after.proofs.Fits.{any_from, below_covers, below_of, below_trans}
use Rattle.ips_after.proofs.Names.{AllTried, Tried, beside_out, depth_below, depth_tried, side_facts, tried, tried_below, tried_of}
use Rattle.ips_after.proofs.Order.{listed_append, listed_filter}
use Rattle.ips_aside.specs.declared.sides.side.Put.{Put}
use Rattle.ips_aside.specs.declared.sides.side.Put.TheVariants.{Legacy, New, Old}
use Rattle.ips_aside.specs.declared.sides.side.Side.{Side}
use Rattle.ips_aside.specs.declared.sides.side.SideName.{SideName}
use Rattle.ips_aside.specs.declared.sides.side.SideName.TheVariants as name
use Rattle.ips_aside.specs.sides.Sides.{IsNameOf, IsSide, ending_of, has_side, side_paths, side_put}
use Rattle.ips_aside.specs.declared.lost.Lost.{Lost}
use Rattle.ips_aside.specs.declared.lost.LostName.{LostName}
use Rattle.ips_aside.specs.Lost.{AreFirstFree, AreNamesOf, HasName, IsFirstFree, comes_first, finding_order, first_name_of, folder_paths, in_folder, is_lost_name, is_taken, lost_of, lost_seen, names_of}
use Rattle.ips_aside.proofs.FirstFree.{assoc, none_behind}
use Rattle.ips_aside.proofs.Ordered.{at_middle, deeper_first, first_lesser, first_ranks, lesser_first, sorted_halves}

-- ---- files that are put beside paths, and cannot be used there

pub suffix_put : (bytes : List ℕ → List ℕ) (standing : List ℕ) (put : Put) → (side_put bytes standing put).suffix ≡ ending_of put
suffix_put bytes standing (Old m) = refl
suffix_put bytes standing (Legacy m) = refl
suffix_put bytes standing (New payload m) = refl

-- the file is put beside its path, where its name can't be used
pub record IsLostSide (r : Request) (t : Image) (l : Lost) : Type 0 where
  pub side : salvage.Side
  pub at : side_at r t l.path.now.bytes ≡ Some side
  pub own : side ≡ side_put r.bytes (readable (t.look l.path.now.bytes)) l.put
  pub ending : side.suffix ≡ ending_of l.put
  pub lost : is_lost r t (l.path.now.bytes ++ side.suffix) ≡ true

lost_side : (r : Request) (t : Image) (s : Side) → IsSide r t s → s.name ≡ name.Lost → IsLostSide r t (record { path = s.path; put = s.put })
lost_side r t s one is =
    let p = s.path.now.bytes in
    let ending = suffix_put r.bytes (readable (t.look p)) s.put in
    record {
      side = side_put r.bytes (readable (t.look p)) s.put;
      at = one.is;
      own = refl;
      ending = ending;
      lost = ap (λ (e : List ℕ). is_lost r t (p ++ e)) ending ∙ (subst (IsNameOf r t (p ++ ending_of s.put)) is one.name).1;
    }

lost_told : (r : Request) (t : Image) (sides : List Side) → AllByRecursion (IsSide r t) sides → AllByRecursion (IsLostSide r t) (lost_of sides)
lost_told r t [] all = tt
lost_told r t (s ∷ sides) all = go s.name refl (lost_told r t sides all.1)
  where
    go : (n : SideName) → s.name ≡ n → AllByRecursion (IsLostSide r t) (lost_of sides) → AllByRecursion (IsLostSide r t) (cond (is_lost_name n) (record { path = s.path; put = s.put } ∷ lost_of sides) (lost_of sides))
    go (name.Free path) is rest = rest
    go name.Lost is rest = (lost_side r t s all.0 is, rest)
    go name.TooLong is rest = rest

-- what is told of a name that can't be used is that
told_lost : (r : Request) (t : Image) (q : List ℕ) (n : SideName) → IsNameOf r t q n → is_lost r t q ≡ true → is_lost_name n ≡ true
told_lost r t q (name.Free path) told lost = absurd (false≢true (sym told.2 ∙ lost))
told_lost r t q name.Lost told lost = refl
told_lost r t q name.TooLong told lost = absurd (false≢true (sym told.1 ∙ lost))

-- the file is put beside this path
abbrev pub is_at : List ℕ → Lost → Bool
is_at p l = same_path l.path.now.bytes p

lost_listed : (r : Request) (t : Image) (sides : List Side) (p : List ℕ) (side : salvage.Side) → AllByRecursion (IsSide r t) sides → listed (side_paths sides) p ≡ true → side_at r t p ≡ Some side → is_lost r t (p ++ side.suffix) ≡ true
    → list_any (is_at p) (lost_of sides) ≡ true
lost_listed r t [] p side all there at lost = cc
lost_listed r t (s ∷ sides) p side all there at lost = go (same_path s.path.now.bytes p) refl there (λ h. lost_listed r t sides p side all.1 h at lost)
  where
    one : Lost
    one = record { path = s.path; put = s.put }

    later : (b : Bool) → list_any (is_at p) (lost_of sides) ≡ true → list_any (is_at p) (cond b (one ∷ lost_of sides) (lost_of sides)) ≡ true
    later true h = or_right (is_at p one) _ h
    later false h = h

    here : (b : Bool) → b ≡ true → is_at p one ≡ true → list_any (is_at p) (cond b (one ∷ lost_of sides) (lost_of sides)) ≡ true
    here true e h = or_left (is_at p one) _ h
    here false e h = cc

    same : s.path.now.bytes ≡ p → is_lost_name s.name ≡ true
    same e =
        let seen : Some (side_put r.bytes (readable (t.look s.path.now.bytes)) s.put) ≡ Some side = sym all.0.is ∙ ap (side_at r t) e ∙ at in
        let is : side_put r.bytes (readable (t.look s.path.now.bytes)) s.put ≡ side = cc in
        let ending : ending_of s.put ≡ side.suffix = sym (suffix_put r.bytes (readable (t.look s.path.now.bytes)) s.put) ∙ ap (λ (x : salvage.Side). x.suffix) is in
        let at_name : s.path.now.bytes ++ ending_of s.put ≡ p ++ side.suffix = ap (λ (l : List ℕ). l ++ ending_of s.put) e ∙ ap (λ (l : List ℕ). p ++ l) ending in
        told_lost r t (s.path.now.bytes ++ ending_of s.put) s.name all.0.name (ap (is_lost r t) at_name ∙ lost)

    go : (b : Bool) → same_path s.path.now.bytes p ≡ b → (b || listed (side_paths sides) p) ≡ true → (listed (side_paths sides) p ≡ true → list_any (is_at p) (lost_of sides) ≡ true) → list_any (is_at p) (lost_of (s ∷ sides)) ≡ true
    go true e h rest = here (is_lost_name s.name) (same (same_path-true s.path.now.bytes p e)) e
    go false e h rest = later (is_lost_name s.name) (rest h)

-- ---- names, one among them

unseen_all : (P : Lost → Type 0) (names : List LostName) → AllByRecursion P (map lost_seen names) → AllByRecursion (λ x. P (lost_seen x)) names
unseen_all P [] all = tt
unseen_all P (x ∷ names) all = (all.0, unseen_all P names all.1)

-- The name of the file that is put beside a path, among all.
pub record NameAt (names : List LostName) (p : List ℕ) : Type 0 where
  pub front : List LostName
  pub one : LostName
  pub back : List LostName
  pub there : names ≡ front ++ one ∷ back
  pub path : one.path.now.bytes ≡ p

name_at : (names : List LostName) (p : List ℕ) → list_any (is_at p) (map lost_seen names) ≡ true → NameAt names p
name_at [] p h = cc
name_at (x ∷ names) p h = go (same_path x.path.now.bytes p) refl h (name_at names p)
  where
    go : (b : Bool) → same_path x.path.now.bytes p ≡ b → (b || list_any (is_at p) (map lost_seen names)) ≡ true → (list_any (is_at p) (map lost_seen names) ≡ true → NameAt names p) → NameAt (x ∷ names) p
    go true e h rest = record { front = []; one = x; back = names; there = refl; path = same_path-true x.path.now.bytes p e }
    go false e h rest = let n = rest h in record { front = x ∷ n.front; one = n.one; back = n.back; there = ap (λ (l : List LostName). x ∷ l) n.there; path = n.path }

-- the first free name of one among them, where those before it are taken
free_at : (root : List ℕ) (before : List (List ℕ)) (front : List LostName) (one : LostName) (back : List LostName) → AreFirstFree root before (front ++ one ∷ back)
    → IsFirstFree (is_taken (before ++ names_of front)) (ending_of one.put) (first_name_of root one.path.now.bytes one.put) one.name.items
free_at root before [] one back are =
    subst (λ (l : List (List ℕ)). IsFirstFree (is_taken l) (ending_of one.put) (first_name_of root one.path.now.bytes one.put) one.name.items) (sym (none_behind before)) are.0
free_at root before (x ∷ front) one back are =
    subst (λ (l : List (List ℕ)). IsFirstFree (is_taken l) (ending_of one.put) (first_name_of root one.path.now.bytes one.put) one.name.items) (assoc before (x.name.items ∷ []) (names_of front))
    (free_at root (before ++ x.name.items ∷ []) front one back are.1)

front_all : (P : LostName → Type 0) (front : List LostName) (one : LostName) (back : List LostName) → AllByRecursion P (front ++ one ∷ back) → AllByRecursion P front
front_all P [] one back all = tt
front_all P (x ∷ front) one back all = (all.0, front_all P front one back all.1)

back_all : (P : LostName → Type 0) (front : List LostName) (one : LostName) (back : List LostName) → AllByRecursion P (front ++ one ∷ back) → AllByRecursion P back
back_all P [] one back all = all.1
back_all P (x ∷ front) one back all = back_all P front one back all.1

-- one that has a name which the path is or stands above
pub record TakenBy (P : LostName → Type 0) (names : List LostName) (q : List ℕ) : Type 0 where
  pub one : LostName
  pub holds : P one
  pub up : covers q one.name.items ≡ true
  pub there : listed (names_of names) one.name.items ≡ true

taken_by : (P : LostName → Type 0) (names : List LostName) (q : List ℕ) → AllByRecursion P names → is_taken (names_of names) q ≡ true → TakenBy P names q
taken_by P [] q all h = cc
taken_by P (x ∷ names) q all h = go (covers q x.name.items) refl h (taken_by P names q all.1)
  where
    go : (b : Bool) → covers q x.name.items ≡ b → (b || is_taken (names_of names) q) ≡ true → (is_taken (names_of names) q ≡ true → TakenBy P names q) → TakenBy P (x ∷ names) q
    go true e h rest = record { one = x; holds = all.0; up = e; there = or_left _ _ (same_path-self x.name.items) }
    go false e h rest = let y = rest h in record { one = y.one; holds = y.holds; up = y.up; there = or_right (same_path x.name.items y.one.name.items) _ y.there }

-- a thing whose path in the folder is this one, or stands below it
pub record ThingBelow (root : List ℕ) (things : List (List ℕ)) (q : List ℕ) : Type 0 where
  pub path : List ℕ
  pub there : listed things path ≡ true
  pub up : covers q (in_folder root path) ≡ true

thing_below : (root : List ℕ) (things : List (List ℕ)) (q : List ℕ) → is_taken (folder_paths root things) q ≡ true → ThingBelow root things q
thing_below root [] q h = cc
thing_below root (x ∷ things) q h = go (covers q (in_folder root x)) refl h (thing_below root things q)
  where
    go : (b : Bool) → covers q (in_folder root x) ≡ b → (b || is_taken (folder_paths root things) q) ≡ true → (is_taken (folder_paths root things) q ≡ true → ThingBelow root things q) → ThingBelow root (x ∷ things) q
    go true e h rest = record { path = x; there = or_left _ _ (same_path-self x); up = e }
    go false e h rest = let y = rest h in record { path = y.path; there = or_right (same_path x y.path) _ y.there; up = y.up }

pub folder_listed : (root : List ℕ) (things : List (List ℕ)) (x : List ℕ) → listed things x ≡ true → listed (folder_paths root things) (in_folder root x) ≡ true
folder_listed root [] x h = cc
folder_listed root (y ∷ things) x h = go (or_cases (same_path y x) (listed things x) h) (folder_listed root things x)
  where
    go : (same_path y x ≡ true) ⊎ (listed things x ≡ true) → (listed things x ≡ true → listed (folder_paths root things) (in_folder root x) ≡ true) → listed (folder_paths root (y ∷ things)) (in_folder root x) ≡ true
    go (inl e) rest = or_left _ _ (ap (λ (l : List ℕ). same_path (in_folder root l) (in_folder root x)) (same_path-true y x e) ∙ same_path-self (in_folder root x))
    go (inr e) rest = or_right (same_path (in_folder root y) (in_folder root x)) _ (rest e)

-- ---- the name of one file, among all

-- The name of the file that is put beside a path, and what is known of it.
pub record Placed (r : Request) (t : Image) (a : Aside) (things : List (List ℕ)) (names : List LostName) (p : List ℕ) (side : salvage.Side) : Type 0 where
  pub among : NameAt names p
  pub name : a.lost p ≡ among.one.name.items
  pub free : IsFirstFree (is_taken (folder_paths a.root things ++ names_of among.front)) side.suffix ((a.root ++ 47 ∷ p) ++ side.suffix) (a.lost p)
  pub front : AllByRecursion (λ x. is_lt (finding_order p x.path.now.bytes) ≡ false) among.front
  pub back : AllByRecursion (λ x. is_lt (finding_order x.path.now.bytes p) ≡ false) among.back

pub front_named : (a : Aside) (front : List LostName) (x : List ℕ) → AllByRecursion (HasName a) front → list_any (is_at x) (map lost_seen front) ≡ true → listed (names_of front) (a.lost x) ≡ true
front_named a [] x all h = cc
front_named a (y ∷ front) x all h = go (or_cases (same_path y.path.now.bytes x) _ h) (front_named a front x all.1)
  where
    go : (same_path y.path.now.bytes x ≡ true) ⊎ (list_any (is_at x) (map lost_seen front) ≡ true) → (list_any (is_at x) (map lost_seen front) ≡ true → listed (names_of front) (a.lost x) ≡ true) → listed (names_of (y ∷ front)) (a.lost x) ≡ true
    go (inl e) rest = or_left _ _ (ap (λ (l : List ℕ). same_path l (a.lost x)) (sym all.0 ∙ ap a.lost (same_path-true y.path.now.bytes x e)) ∙ same_path-self (a.lost x))
    go (inr e) rest = or_right (same_path y.name.items (a.lost x)) _ (rest e)

back_none : (p : List ℕ) (back : List LostName) (x : List ℕ) → AllByRecursion (λ y. is_lt (finding_order y.path.now.bytes p) ≡ false) back → list_any (is_at x) (map lost_seen back) ≡ true → is_lt (finding_order x p) ≡ true → ⊥
back_none p [] x all h first = cc
back_none p (y ∷ back) x all h first = go (or_cases (same_path y.path.now.bytes x) _ h) (λ e. back_none p back x all.1 e first)
  where
    go : (same_path y.path.now.bytes x ≡ true) ⊎ (list_any (is_at x) (map lost_seen back) ≡ true) → (list_any (is_at x) (map lost_seen back) ≡ true → ⊥) → ⊥
    go (inl e) rest = false≢true (sym all.0 ∙ ap (λ (l : List ℕ). is_lt (finding_order l p)) (same_path-true y.path.now.bytes x e) ∙ first)
    go (inr e) rest = rest e

not_itself : (l : Lost) → comes_first l l ≡ true → ⊥
not_itself l h = false≢true (sym (first_ranks.one_way l l h) ∙ h)

-- ---- what is taken by things and by names before

module _ (r : Request) (t : Image) (a : Aside) (things : List (List ℕ)) (sides : List Side) (names : List LostName) (are : AreNamesOf r t a things sides names) where
  pub listed_side : (p : List ℕ) (side : salvage.Side) → side_at r t p ≡ Some side → listed (side_paths sides) p ≡ true
  listed_side p side at =
      let has : has_side r t p ≡ true = ap is_some at in
      ap (λ (l : List (List ℕ)). listed l p) are.sides_are.paths_are ∙ listed_filter (has_side r t) are.paths p ∙ and_from _ _ has (are.all p has)

  pub any_at : (p : List ℕ) (side : salvage.Side) → side_at r t p ≡ Some side → is_lost r t (p ++ side.suffix) ≡ true → list_any (is_at p) (map lost_seen names) ≡ true
  any_at p side at lost = sym (list_any-IsPermutation (is_at p) (lost_of sides) (map lost_seen names) are.names_are.just) ∙ lost_listed r t sides p side are.sides_are.each (listed_side p side at) at lost

  pub told : AllByRecursion (λ x. IsLostSide r t (lost_seen x)) names
  told = unseen_all (IsLostSide r t) names (recursion_from_All (IsLostSide r t) (map lost_seen names)
      (All-permutation (IsLostSide r t) (lost_of sides) (map lost_seen names) are.names_are.just (All-from_recursion (IsLostSide r t) (lost_of sides) (lost_told r t sides are.sides_are.each))))

  -- the same of a name among them, and of those before it
  told_front : (p : List ℕ) (n : NameAt names p) → AllByRecursion (λ x. IsLostSide r t (lost_seen x)) n.front
  told_front p n = front_all (λ x. IsLostSide r t (lost_seen x)) n.front n.one n.back (subst (AllByRecursion (λ x. IsLostSide r t (lost_seen x))) n.there told)

  has_front : (p : List ℕ) (n : NameAt names p) → AllByRecursion (HasName a) n.front
  has_front p n = front_all (HasName a) n.front n.one n.back (subst (AllByRecursion (HasName a)) n.there are.has)

  same_ending : (p : List ℕ) (side : salvage.Side) (n : NameAt names p) → side_at r t p ≡ Some side → side.suffix ≡ ending_of n.one.put
  same_ending p side n at =
      let l = at_middle (λ x. IsLostSide r t (lost_seen x)) n.front n.one n.back (subst (AllByRecursion (λ x. IsLostSide r t (lost_seen x))) n.there told) in
      let both : Some side ≡ Some l.side = sym at ∙ ap (side_at r t) (sym n.path) ∙ l.at in
      let one : side ≡ l.side = cc in
      ap (λ (x : salvage.Side). x.suffix) one ∙ l.ending

  sorted_seen : (p : List ℕ) (n : NameAt names p) → IsSortedBy comes_first (map lost_seen n.front ++ lost_seen n.one ∷ map lost_seen n.back)
  sorted_seen p n = subst (IsSortedBy comes_first) (ap (map lost_seen) n.there ∙ map-append lost_seen n.front (n.one ∷ n.back)) are.names_are.order

  placed_at : (p : List ℕ) (side : salvage.Side) (n : NameAt names p) → side_at r t p ≡ Some side → Placed r t a things names p side
  placed_at p side n at =
      let T = is_taken (folder_paths a.root things ++ names_of n.front) in
      let name : a.lost p ≡ n.one.name.items = ap a.lost (sym n.path) ∙ at_middle (HasName a) n.front n.one n.back (subst (AllByRecursion (HasName a)) n.there are.has) in
      let halves = sorted_halves (map lost_seen n.front) (lost_seen n.one) (map lost_seen n.back) (sorted_seen p n) in
      let first = free_at a.root (folder_paths a.root things) n.front n.one n.back (subst (AreFirstFree a.root (folder_paths a.root things)) n.there are.names_are.first_free) in
      let here = subst (λ (l : List ℕ). IsFirstFree T (ending_of n.one.put) ((a.root ++ 47 ∷ l) ++ ending_of n.one.put) n.one.name.items) n.path first in
      let ended = subst (λ (e : List ℕ). IsFirstFree T e ((a.root ++ 47 ∷ p) ++ e) n.one.name.items) (sym (same_ending p side n at)) here in
      record {
        among = n;
        name = name;
        free = subst (λ (l : List ℕ). IsFirstFree T side.suffix ((a.root ++ 47 ∷ p) ++ side.suffix) l) (sym name) ended;
        front = subst (λ (l : List ℕ). AllByRecursion (λ x. is_lt (finding_order l x.path.now.bytes) ≡ false) n.front) n.path (unseen_all (λ x. comes_first (lost_seen n.one) x ≡ false) n.front halves.0);
        back = subst (λ (l : List ℕ). AllByRecursion (λ x. is_lt (finding_order x.path.now.bytes l) ≡ false) n.back) n.path (unseen_all (λ x. comes_first x (lost_seen n.one) ≡ false) n.back halves.1);
      }

  pub placed : (p : List ℕ) (side : salvage.Side) → side_at r t p ≡ Some side → is_lost r t (p ++ side.suffix) ≡ true → Placed r t a things names p side
  placed p side at lost = placed_at p side (name_at names p (any_at p side at lost)) at

  pub all_tried : AllTried r t a.root a
  all_tried x side at lost = let one = placed x side at lost in record { times = one.free.times; name = one.free.is }

  -- a name that is found before is taken
  before_taken : (p : List ℕ) (side : salvage.Side) (one : Placed r t a things names p side) (x : List ℕ) (other : salvage.Side) → side_at r t x ≡ Some other → is_lost r t (x ++ other.suffix) ≡ true → is_lt (finding_order x p) ≡ true
      → listed (names_of one.among.front) (a.lost x) ≡ true
  before_taken p side one x other at lost first =
      go (or_cases _ _ (sym (list_any-append (is_at x) (map lost_seen n.front) (lost_seen n.one ∷ map lost_seen n.back)) ∙ ap (list_any (is_at x)) (sym (ap (map lost_seen) n.there ∙ map-append lost_seen n.front (n.one ∷ n.back))) ∙ any_at x other at lost))
    where
      n : NameAt names p
      n = one.among

      rest : (is_at x (lost_seen n.one) ≡ true) ⊎ (list_any (is_at x) (map lost_seen n.back) ≡ true) → ⊥
      rest (inl e) = not_itself (lost_seen n.one) (ap (λ (l : List ℕ). is_lt (finding_order l n.one.path.now.bytes)) (same_path-true n.one.path.now.bytes x e) ∙ ap (λ (l : List ℕ). is_lt (finding_order x l)) n.path ∙ first)
      rest (inr e) = back_none p n.back x one.back e first

      go : (list_any (is_at x) (map lost_seen n.front) ≡ true) ⊎ (list_any (is_at x) (lost_seen n.one ∷ map lost_seen n.back) ≡ true) → listed (names_of n.front) (a.lost x) ≡ true
      go (inl e) = front_named a n.front x (has_front p n) e
      go (inr e) = absurd (rest (or_cases _ _ e))

  -- a name that was given is the side name of its path
  pub goes_name : (x : LostName) (l : IsLostSide r t (lost_seen x)) → HasName a x → side_name r t a x.path.now.bytes l.side ≡ x.name.items
  goes_name x l has = ap (λ (b : Bool). cond b (a.lost x.path.now.bytes) (x.path.now.bytes ++ l.side.suffix)) l.lost ∙ has

  module _ (bare : (q : List ℕ) → is_below records_name q ≡ true → r.new.at q ≡ None) (under : is_below records_name a.root ≡ true)
      (p : List ℕ) (side : salvage.Side) (at : side_at r t p ≡ Some side) (one : Placed r t a things names p side) where
    abbrev taken : List (List ℕ)
    taken = folder_paths a.root things ++ names_of one.among.front

    depth_here : (n : ℕ) → depth (tried a.root n p side) ≡ depth a.root + suc (depth p)
    depth_here n = depth_tried a.root n p side (side_facts r t p side at).0.free

    depth_name : (x : List ℕ) (other : salvage.Side) (n : Tried a.root (side_name r t a x other) x other) → side_at r t x ≡ Some other → depth (side_name r t a x other) ≡ depth a.root + suc (depth x)
    depth_name x other n on = ap depth n.name ∙ depth_tried a.root n.times x other (side_facts r t x other on).0.free

    beside_taken : (x : List ℕ) (other : salvage.Side) → side_at r t x ≡ Some other → is_below a.root (side_name r t a x other) ≡ true → is_lt (finding_order x p) ≡ true → listed taken (side_name r t a x other) ≡ true
    beside_taken x other on inner first = go (is_lost r t (x ++ other.suffix)) refl inner
      where
        go : (l : Bool) → is_lost r t (x ++ other.suffix) ≡ l → is_below a.root (cond l (a.lost x) (x ++ other.suffix)) ≡ true → listed taken (cond l (a.lost x) (x ++ other.suffix)) ≡ true
        go true lost h = listed_append (folder_paths a.root things) (names_of one.among.front) (a.lost x) ∙ or_right (listed (folder_paths a.root things) (a.lost x)) _ (before_taken p side one x other on lost first)
        go false free h = absurd (beside_out r t a.root bare under x other on (below_trans records_name a.root (x ++ other.suffix) under h))

    thing_taken : (x : List ℕ) → salvaged r t x ≡ true → listed taken (a.root ++ 47 ∷ x) ≡ true
    thing_taken x s = listed_append (folder_paths a.root things) (names_of one.among.front) (a.root ++ 47 ∷ x) ∙ or_left _ _ (folder_listed a.root things x (are.things_are x ∙ s))

    goes_taken : (q : List ℕ) → GoesTo r t a q → depth a.root + suc (depth p) < depth q → is_below a.root q ≡ true → listed taken q ≡ true
    goes_taken q (Salvage x s) deep inner = thing_taken x s
    goes_taken q (Beside x other on) deep inner =
        let long = depth_name x other (tried_of r t a.root bare under a all_tried x other on inner) on in
        beside_taken x other on inner (deeper_first x p (omega (arith, deep, long)))

    taken_found : (n : ℕ) (name : List ℕ) → NameTaken r t a p name → name ≡ tried a.root n p side → is_taken taken name ≡ true
    taken_found n name (Holding other held) e =
        let long = ap depth e ∙ depth_here n in
        let more = depth_below other held.at held.inside_it in
        let inner = below_trans a.root other held.at (ap (is_below a.root) e ∙ tried_below a.root n p side) held.inside_it in
        any_from (covers other) taken held.at (goes_taken held.at held.goes (omega (arith, long, more)) inner) (below_covers other held.at held.inside_it)
    taken_found n name (Salvaged x s) e = any_from (covers (a.root ++ 47 ∷ x)) taken (a.root ++ 47 ∷ x) (thing_taken x s) (covers-self (a.root ++ 47 ∷ x))
    taken_found n name (Lesser x other on less) e =
        let inner = ap (is_below a.root) e ∙ tried_below a.root n p side in
        let long = depth_name x other (tried_of r t a.root bare under a all_tried x other on inner) on in
        let mine = ap depth e ∙ depth_here n in
        let first = lesser_first x p (omega (arith, long, mine)) less in
        any_from (covers (side_name r t a x other)) taken (side_name r t a x other) (beside_taken x other on inner first) (covers-self (side_name r t a x other))

    -- a name that is at or above something that goes there is taken
    at_or_above : (q at : List ℕ) → covers q at ≡ true → GoesTo r t a at → (q ≡ at → NameTaken r t a p q) → NameTaken r t a p q
    at_or_above q at up goes same = go (same_path q at) refl
      where
        go : (b : Bool) → same_path q at ≡ b → NameTaken r t a p q
        go true e = same (same_path-true q at e)
        go false e = Holding q (record { at = at; inside_it = below_of q at up e; goes = goes })

    thing_first : (q : List ℕ) → ThingBelow a.root things q → NameTaken r t a p q
    thing_first q x =
        let s = sym (are.things_are x.path) ∙ x.there in
        at_or_above q (a.root ++ 47 ∷ x.path) x.up (Salvage x.path s) (λ e. subst (NameTaken r t a p) (sym e) (Salvaged x.path s))

    -- what is known of a name before this one
    record Earlier (x : LostName) : Type 0 where
      lost : IsLostSide r t (lost_seen x)
      has : HasName a x
      behind : is_lt (finding_order p x.path.now.bytes) ≡ false

    earlier : (front : List LostName) → AllByRecursion (λ x. IsLostSide r t (lost_seen x)) front → AllByRecursion (HasName a) front → AllByRecursion (λ x. is_lt (finding_order p x.path.now.bytes) ≡ false) front → AllByRecursion Earlier front
    earlier [] l h b = tt
    earlier (x ∷ front) l h b = (record { lost = l.0; has = h.0; behind = b.0 }, earlier front l.1 h.1 b.1)

    same_name : (n : ℕ) (x : LostName) (e : Earlier x) → listed (names_of one.among.front) x.name.items ≡ true → tried a.root n p side ≡ x.name.items → NameTaken r t a p (tried a.root n p side)
    same_name n x e there same = go (first_lesser x.path.now.bytes p depths e.behind)
      where
        path : List ℕ
        path = x.path.now.bytes

        tried_name : Tried a.root (a.lost path) path e.lost.side
        tried_name = all_tried path e.lost.side e.lost.at e.lost.lost

        depths : depth path ≡ depth p
        depths =
            let other : depth (a.lost path) ≡ depth a.root + suc (depth path) = ap depth tried_name.name ∙ depth_tried a.root tried_name.times path e.lost.side (side_facts r t path e.lost.side e.lost.at).0.free in
            let mine : depth (a.lost path) ≡ depth a.root + suc (depth p) = ap depth (e.has ∙ sym same) ∙ depth_here n in
            omega (arith, other, mine)

        not_taken : path ≡ p → ⊥
        not_taken same_p = false≢true (sym one.free.free ∙ any_from (covers (a.lost p)) taken (a.lost p)
            (listed_append (folder_paths a.root things) (names_of one.among.front) (a.lost p) ∙ or_right (listed (folder_paths a.root things) (a.lost p)) _ (ap (listed (names_of one.among.front)) (ap a.lost (sym same_p) ∙ e.has) ∙ there)) (covers-self (a.lost p)))

        go : (lesser path p ≡ true) ⊎ (path ≡ p) → NameTaken r t a p (tried a.root n p side)
        go (inl less) = subst (NameTaken r t a p) (goes_name x e.lost e.has ∙ sym same) (Lesser path e.lost.side e.lost.at less)
        go (inr same_p) = absurd (not_taken same_p)

    name_first : (n : ℕ) → TakenBy Earlier one.among.front (tried a.root n p side) → NameTaken r t a p (tried a.root n p side)
    name_first n x =
        let e = x.holds in
        at_or_above (tried a.root n p side) x.one.name.items x.up (subst (GoesTo r t a) (goes_name x.one e.lost e.has) (Beside x.one.path.now.bytes e.lost.side e.lost.at)) (same_name n x.one e x.there)

    taken_first : (n : ℕ) → is_taken taken (tried a.root n p side) ≡ true → NameTaken r t a p (tried a.root n p side)
    taken_first n h = go (or_cases _ _ (sym (list_any-append (covers (tried a.root n p side)) (folder_paths a.root things) (names_of one.among.front)) ∙ h))
      where
        go : (is_taken (folder_paths a.root things) (tried a.root n p side) ≡ true) ⊎ (is_taken (names_of one.among.front) (tried a.root n p side) ≡ true) → NameTaken r t a p (tried a.root n p side)
        go (inl e) = thing_first (tried a.root n p side) (thing_below a.root things (tried a.root n p side) e)
        go (inr e) = name_first n (taken_by Earlier one.among.front (tried a.root n p side) (earlier one.among.front (told_front p one.among) (has_front p one.among) one.front) e)

    pub is_lost_name_at : IsLostName r t a p side
    is_lost_name_at = record {
      times = one.free.times;
      name = one.free.is;
      free = λ h. false≢true (sym one.free.free ∙ taken_found one.free.times (a.lost p) h one.free.is);
      first = λ n less. taken_first n (one.free.first n less);
    }

  pub names_defined : ((q : List ℕ) → is_below records_name q ≡ true → r.new.at q ≡ None) → is_below records_name a.root ≡ true
      → (p : List ℕ) (side : salvage.Side) → side_at r t p ≡ Some side → is_lost r t (p ++ side.suffix) ≡ true → IsLostName r t a p side
  names_defined bare under p side at lost = is_lost_name_at bare under p side at (placed p side at lost)
