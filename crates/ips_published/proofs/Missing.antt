-- What is missing of directories, and that making them changes no file.
use Rattle.std.proofs.Common.{◌≡◌, ℕ, Bool, true, false, cond, ◌&&◌, ◌||◌, List, [], ◌∷◌, Option, Some, None, inl, inr, refl, sym, ap, subst, ◌∙◌}
use Rattle.std.specs.Prelude.{codes, is_none}
use Rattle.std.proofs.lemmas.Bool.{cases_Bool, or_cases, and_parts, and_from, or_left, or_right, false_from_ne_true}
use Rattle.ips_text.specs.Ancestry.{same_path, covers}
use Rattle.ips_text.proofs.Ancestry.{same_path-true, same_covers}
use Rattle.ips_outside.specs.Image.{Entry, Dir, Image, IsImage, is_dir, file_bytes}
use Rattle.ips_outside.specs.Change.{with_entry_at}
use Rattle.ips_files.specs.Files.{file_at}
use Rattle.ips_ways.specs.Ways.{gives_way, is_missing, with_dir, with_dirs}
use Rattle.ips_ways.proofs.Giving.{gives_none, none_below}
use Rattle.ips_lay.specs.Records.{record_dirs}
use Rattle.ips_ways.proofs.Stand.{In, AreDirs, CanStart, stand, formed_then, free_then}

none_of : (e : Option Entry) → is_none e ≡ true → e ≡ None
none_of None h = refl
none_of (Some x) h = cc

left_one : (a : Bool) → (a || false) ≡ true → a ≡ true
left_one true h = refl
left_one false h = h

-- one of the directories, to which what stands there gives way, and the path is at or below it
pub record Missed (t : Image) (paths : List (List ℕ)) (q : List ℕ) : Type 0 where
  pub road : List ℕ
  pub among : In paths road
  pub room : gives_way road (t.look road) ≡ true
  pub over : covers road q ≡ true

pub missed : (t : Image) (paths : List (List ℕ)) (q : List ℕ) → is_missing t paths q ≡ true → Missed t paths q
missed t [] q h = absurd (let bad : false ≡ true = h in cc)
missed t (p ∷ paths) q h = elim (or_cases (gives_way p (t.look p) && covers p q) (is_missing t paths q) h) [
  | inl here ↦ let parts = and_parts (gives_way p (t.look p)) (covers p q) here in record { road = p; among = inl refl; room = parts.0; over = parts.1 }
  | inr more ↦ let m = missed t paths q more in record { road = m.road; among = inr m.among; room = m.room; over = m.over }
]

pub is_missed : (t : Image) (paths : List (List ℕ)) (q r : List ℕ) → In paths r → gives_way r (t.look r) ≡ true → covers r q ≡ true → is_missing t paths q ≡ true
is_missed t [] q r has room over = absurd has
is_missed t (p ∷ paths) q r (inl is) room over =
    or_left (gives_way p (t.look p) && covers p q) (is_missing t paths q)
    (and_from (gives_way p (t.look p)) (covers p q) (subst (λ (x : List ℕ). gives_way x (t.look x) ≡ true) (sym is) room) (subst (λ (x : List ℕ). covers x q ≡ true) (sym is) over))
is_missed t (p ∷ paths) q r (inr has) room over = or_right (gives_way p (t.look p) && covers p q) (is_missing t paths q) (is_missed t paths q r has room over)

pub not_missing : (t : Image) (paths : List (List ℕ)) (q : List ℕ) → ((r : List ℕ) → In paths r → gives_way r (t.look r) ≡ true → covers r q ≡ true → ⊥) → is_missing t paths q ≡ false
not_missing t paths q none = false_from_ne_true (is_missing t paths q) (λ h. let m = missed t paths q h in none m.road m.among m.room m.over)

-- what is missing was missing, where nothing more gives way
pub missing_back : (t u : Image) (paths : List (List ℕ)) (q : List ℕ) → ((r : List ℕ) → gives_way r (u.look r) ≡ true → gives_way r (t.look r) ≡ true) → is_missing u paths q ≡ true → is_missing t paths q ≡ true
missing_back t u paths q back h = let m = missed u paths q h in is_missed t paths q m.road m.among (back m.road m.room) m.over

-- nothing stands at or below what is absent
none_under : (t : Image) → IsImage t → (r q : List ℕ) → t.look r ≡ None → covers r q ≡ true → t.look q ≡ None
none_under t formed r q absent over = elim (cases_Bool (same_path r q)) [
  | inl same ↦ ap t.look (sym (same_path-true r q same)) ∙ absent
  | inr apart ↦ none_of (t.look q) (left_one (is_none (t.look q)) (subst (λ (e : Option Entry). (is_none (t.look q) || is_dir e) ≡ true) absent (formed.below_dirs r q over apart)))
]

pub none_file : (t : Image) (q bytes : List ℕ) → t.look q ≡ None → file_at t q ≡ Some bytes → ⊥
none_file t q bytes absent is = none_some bytes (sym (ap file_bytes absent) ∙ is)
  where
    none_some : (bytes : List ℕ) → (let o : Option (List ℕ) = None in o) ≡ Some bytes → ⊥
    none_some bytes e = cc

-- a file isn't below what is missing, nor in its place
pub file_not_missing : (t : Image) → IsImage t → (paths : List (List ℕ)) (q bytes : List ℕ) → ((r : List ℕ) → In paths r → same_path r q ≡ false) → file_at t q ≡ Some bytes → is_missing t paths q ≡ false
file_not_missing t formed paths q bytes apart is = not_missing t paths q (λ r among room over. none_file t q bytes (none_below t r q formed room over (apart r among)) is)

-- ---- making directories

placed_file : (p q : List ℕ) (t : Image) → IsImage t → t.look p ≡ None → (s c : Bool) → same_path p q ≡ s → covers p q ≡ c → file_bytes (cond s (Some (Dir 493 false)) (cond c None (t.look q))) ≡ file_at t q
placed_file p q t formed absent true c es ec = sym (ap file_bytes (none_under t formed p q absent (same_covers p q es)))
placed_file p q t formed absent false true es ec = sym (ap file_bytes (none_under t formed p q absent ec))
placed_file p q t formed absent false false es ec = refl

dir_file : (p : List ℕ) (t : Image) → IsImage t → covers (codes "publisher") p ≡ false → (q : List ℕ) → file_at (with_dir p t) q ≡ file_at t q
dir_file p t formed elsewhere q = elim (cases_Bool (gives_way p (t.look p))) [
  | inl room ↦ ap (λ (b : Bool). file_at (cond b (with_entry_at p (Some (Dir 493 false)) t) t) q) room ∙ placed_file p q t formed (gives_none p (t.look p) elsewhere room) (same_path p q) (covers p q) refl refl
  | inr stands ↦ ap (λ (b : Bool). file_at (cond b (with_entry_at p (Some (Dir 493 false)) t) t) q) stands
]

abbrev Path : Type 0
Path = List ℕ

alone : (before paths : List Path) (p : Path) (u : Image) → CanStart before (p ∷ paths) u → CanStart before (p ∷ []) u
alone before paths p u s = record { formed = s.formed; dirs = s.dirs; free = (s.free.0, tt); ways = (s.ways.0, s.ways.1, tt) }

then_can : (before paths : List Path) (p : Path) (u : Image) → CanStart before (p ∷ paths) u → CanStart (p ∷ before) paths (with_dir p u)
then_can before paths p u s =
    let one = alone before paths p u s in
    let made = stand before (p ∷ []) u one in
    record {
      formed = formed_then before (p ∷ []) u one;
      dirs = both made.0 made.1;
      free = free_then (p ∷ []) u paths s.free.1;
      ways = s.ways.2;
    }
  where
    both : AreDirs (with_dirs (p ∷ []) u) before → AreDirs (with_dirs (p ∷ []) u) (p ∷ []) → AreDirs (with_dirs (p ∷ []) u) (p ∷ before)
    both first last d (inl is) = last d (inl is)
    both first last d (inr has) = first d has

-- no file is changed, where none of them is at or below `publisher`
pub dirs_file : (before paths : List Path) (u : Image) → CanStart before paths u → ((r : Path) → In paths r → covers (codes "publisher") r ≡ false) → (q : Path) → file_at (with_dirs paths u) q ≡ file_at u q
dirs_file before [] u s elsewhere q = refl
dirs_file before (p ∷ paths) u s elsewhere q =
    dirs_file (p ∷ before) paths (with_dir p u) (then_can before paths p u s) (λ r has. elsewhere r (inr has)) q ∙ dir_file p u s.formed (elsewhere p (inl refl)) q

-- as those of the records
pub records_elsewhere : (r : Path) → In record_dirs r → covers (codes "publisher") r ≡ false
records_elsewhere r (inl is) = subst (λ (x : Path). covers (codes "publisher") x ≡ false) is refl
records_elsewhere r (inr (inl is)) = subst (λ (x : Path). covers (codes "publisher") x ≡ false) is refl
records_elsewhere r (inr (inr none)) = absurd none
