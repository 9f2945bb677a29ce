-- Names in the salvage folder of files that can't be used beside their paths.
use Rattle.std.specs.Prelude.{◌≡◌, ◌<◌, ℕ, Bool, true, false, cond, IsTrue, IsFalse, List, [], ◌∷◌, ◌++◌, map}
use Rattle.std.specs.List.{AllByRecursion, list_any}
use Rattle.std.specs.List.Sorted.{IsPermutation, IsSortedBy}
use Rattle.std.specs.Ordering.{is_lt, nat_cmp, ordering_then}
use Rattle.std.specs.declared.cmp.Ordering.{Ordering}
use Rattle.std.specs.Cmp.Lexicographic.{slice_cmp}
use Rattle.std.specs.BTreeSet.{BTreeSet}
use Rattle.std.specs.declared.vec.Vec.{Vec}
use Rattle.std.specs.declared.alloc.Global.{Global}
use Rattle.ips_text.specs.Ancestry.{covers, same_path}
use Rattle.ips_after.specs.Lists.{listed}
use Rattle.ips_after.specs.Request.{Request}
use Rattle.ips_after.specs.Salvage.{Aside, depth, salvaged, with_suffix}
use Rattle.ips_outside.specs.Image.{Image}
use Rattle.ips_conflict.specs.Index.{has_path}
use Rattle.ips_aside.specs.declared.sides.side.Put.{Put}
use Rattle.ips_aside.specs.declared.sides.side.Side.{Side}
use Rattle.ips_aside.specs.declared.sides.side.SideName.{SideName}
use Rattle.ips_aside.specs.declared.sides.side.SideName.TheVariants as name
use Rattle.ips_aside.specs.sides.Sides.{AreSides, ending_of, has_side}
use Rattle.ips_aside.specs.declared.lost.Lost.{Lost}
use Rattle.ips_aside.specs.declared.lost.LostName.{LostName}

-- Which of two names is found first: that of the deeper path, then that of the lesser one.
abbrev pub finding_order : List ℕ → List ℕ → Ordering
finding_order p q = ordering_then (nat_cmp (depth q) (depth p)) (slice_cmp nat_cmp p q)

-- the name of the first is found before that of the second
abbrev pub comes_first : Lost → Lost → Bool
comes_first x y = is_lt (finding_order x.path.now.bytes y.path.now.bytes)

-- the name can't be used beside its path
abbrev pub is_lost_name : SideName → Bool
is_lost_name (name.Free path) = false
is_lost_name name.Lost = true
is_lost_name name.TooLong = false

-- the files whose names can't be used beside their paths
abbrev pub lost_of : List Side → List Lost
lost_of [] = []
lost_of (s ∷ sides) = cond (is_lost_name s.name) (record { path = s.path; put = s.put } ∷ lost_of sides) (lost_of sides)

-- the file of a name
abbrev pub lost_seen : LostName → Lost
lost_seen x = record { path = x.path; put = x.put }

-- the names
abbrev pub names_of : List LostName → List (List ℕ)
names_of names = map (λ x. x.name.items) names

-- the path in a folder
abbrev pub in_folder : List ℕ → List ℕ → List ℕ
in_folder root p = root ++ 47 ∷ p

-- the paths in a folder
abbrev pub folder_paths : List ℕ → List (List ℕ) → List (List ℕ)
folder_paths root paths = map (in_folder root) paths

-- the path in the folder with the extension of a file
abbrev pub first_name_of : List ℕ → List ℕ → Put → List ℕ
first_name_of root p put = in_folder root p ++ ending_of put

-- the name is one of these or stands above one
abbrev pub is_taken : List (List ℕ) → List ℕ → Bool
is_taken names q = list_any (covers q) names

-- Just these names and all above them are marked.
abbrev pub IsMarked : BTreeSet (Vec ℕ Global) → List (List ℕ) → Type 0
IsMarked set names = (q : List ℕ) → has_path set q ≡ is_taken names q

-- The name is the first at which the test fails, where the suffix is put on again and again.
pub record IsFirstFree (test : List ℕ → Bool) (suffix start name : List ℕ) : Type 0 where
  pub times : ℕ
  pub is : name ≡ with_suffix times suffix start
  pub free : IsFalse (test name)
  pub first : (n : ℕ) → n < times → IsTrue (test (with_suffix n suffix start))

-- Each name is the first free one of its file, where these and the names before it are taken.
abbrev pub AreFirstFree : List ℕ → List (List ℕ) → List LostName → Type 0
AreFirstFree root taken [] = Unit {0}
AreFirstFree root taken (x ∷ names) = IsFirstFree (is_taken taken) (ending_of x.put) (first_name_of root x.path.now.bytes x.put) x.name.items × AreFirstFree root (taken ++ x.name.items ∷ []) names

-- Just the files whose names can't be used beside their paths, deepest path first, then by bytes. Each has the first free name in the folder, where
-- things and the names before it are taken.
pub record AreLostNames (root : List ℕ) (things : List (List ℕ)) (sides : List Side) (names : List LostName) : Type 0 where
  pub just : IsPermutation (lost_of sides) (map lost_seen names)
  pub order : IsSortedBy comes_first (map lost_seen names)
  pub first_free : AreFirstFree root (folder_paths root things) names

-- The name of the file that is put beside a path, by the names of all.
abbrev pub lost_in : List LostName → List ℕ → List ℕ
lost_in [] p = []
lost_in (x ∷ names) p = cond (same_path x.path.now.bytes p) x.name.items (lost_in names p)

-- The salvage has this name for the file that is put beside the path.
abbrev pub HasName : Aside → LostName → Type 0
HasName a x = a.lost x.path.now.bytes ≡ x.name.items

-- These are the names of a request's salvage: just what is salvaged are the things, the files are those that are put beside paths, and the salvage has
-- the names that were found in its folder.
pub record AreNamesOf (r : Request) (t : Image) (a : Aside) (things : List (List ℕ)) (sides : List Side) (names : List LostName) : Type 0 where
  pub paths : List (List ℕ)
  pub sides_are : AreSides r t paths sides
  pub all : (p : List ℕ) → IsTrue (has_side r t p) → IsTrue (listed paths p)
  pub things_are : (p : List ℕ) → listed things p ≡ salvaged r t p
  pub names_are : AreLostNames a.root things sides names
  pub has : AllByRecursion (HasName a) names
