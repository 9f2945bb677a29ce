-- What a crash leaves of a folder in memory, by the choice that was made.
use Rattle.std.specs.Prelude.{◌≡◌, ℕ, Bool, false, cond, ◌||◌, IsTrue, IsFalse, List, [], ◌++◌, Option, Some, None, codes}
use Rattle.std.specs.List.{list_any}
use Rattle.ips_text.specs.Ancestry.{same_path, covers}
use Rattle.ips_text.specs.Path.{IsPath}
use Rattle.ips_outside.specs.Image.{Dir, File, Image, is_dir, has_parent}
use Rattle.ips_outside.specs.Tearing.{IsTorn}
use Rattle.ips_folder.specs.History.{Moment, name_of}
use Rattle.ips_folder.specs.declared.call.Call.{Call}
use Rattle.ips_folder.specs.declared.stop.Choice.{Choice}
use Rattle.ips_folder.specs.declared.stop.Choice.TheVariants as choice

-- without these paths
abbrev pub without : (List ℕ → Bool) → Image → Image
without gone t = record {
  look = λ q. cond (gone q) None (t.look q);
  same = λ a b. cond (gone a || gone b) false (t.same a b);
}

-- the path is a touched name
abbrev pub is_name : Moment → List ℕ → Bool
is_name m q = list_any (λ p. same_path p q) m.touched

-- the path of the file that stands in each directory of junk
abbrev pub junk_in : List ℕ → List ℕ
junk_in p = p ++ codes "/junk"

-- Each touched name, where its parent is a directory, is a directory of mode 0700, and in it is an empty file `junk` of
-- mode 0600, where that is a path and no touched name. Nothing else stands at or below a touched name.
pub record IsJunked (m : Moment) (left : Image) : Type 0 where
  pub untouched : (q : List ℕ) → IsFalse (m.state.whole q) → left.look q ≡ m.zeroed.look q
  pub names : (q : List ℕ) → IsTrue (is_name m q) → left.look q ≡ cond (has_parent left q) (Some (Dir 448 false)) None
  pub junk : (p : List ℕ) → IsTrue (is_name m p) → IsTrue (is_dir (left.look p)) → IsFalse (is_name m (junk_in p)) → IsPath (junk_in p) → left.look (junk_in p) ≡ Some (File 384 [])
  pub nothing_else : (q : List ℕ) → IsTrue (m.state.whole q) → IsFalse (is_name m q) → ((p : List ℕ) → IsTrue (is_name m p) → IsTrue (is_dir (left.look p)) → q ≡ junk_in p → ⊥) → left.look q ≡ None
  pub same : (a b : List ℕ) → IsFalse (m.state.whole a) → IsFalse (m.state.whole b) → left.same a b ≡ m.zeroed.same a b
  pub alone : (a b : List ℕ) → IsTrue (m.state.whole a) → IsTrue (left.same a b) → b ≡ a

-- The image that a crash leaves by this choice. Except after Before and After, each mode that was set since the last sync
-- is 0.
abbrev pub IsLeftBy : Choice → Moment → Image → Type 0
IsLeftBy choice.Before m left = left ≡ m.safe
IsLeftBy choice.After m left = left ≡ m.state.held
IsLeftBy choice.Gone m left = left ≡ without m.state.whole m.zeroed
IsLeftBy choice.Junk m left = IsJunked m left
IsLeftBy choice.Torn m left = IsTorn (is_name m) m.zeroed left

-- a call touches the path, or a name above it
abbrev pub touch : Option (List ℕ) → List ℕ → Bool
touch (Some p) q = covers p q
touch None q = false

-- some of the calls does
abbrev pub touches : List Call → List ℕ → Bool
touches calls q = list_any (λ c. touch (name_of c) q) calls

-- a call touches the path by its name
abbrev pub name_it : Option (List ℕ) → List ℕ → Bool
name_it (Some p) q = same_path p q
name_it None q = false

-- some of the calls does so
abbrev pub names_it : List Call → List ℕ → Bool
names_it calls q = list_any (λ c. name_it (name_of c) q) calls
