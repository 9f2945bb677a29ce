-- What gives way to a directory.
use Rattle.std.proofs.Common.{◌≡◌, ℕ, Bool, true, false, cond, ◌&&◌, ◌||◌, List, [], ◌∷◌, length, Option, Some, None, refl, sym, ap, ◌∙◌, arith}
use Rattle.std.specs.Prelude.{◌==◌, codes, is_none}
use Rattle.std.proofs.lemmas.Bool.{eqb-true, false≢true, false_from_ne_true}
use Rattle.ips_text.specs.Ancestry.{same_path, covers}
use Rattle.ips_outside.specs.Image.{Entry, Dir, File, Link, Other, Image, IsImage, is_dir}
use Rattle.ips_outside.specs.Outside.{look_of}
use Rattle.ips_ways.specs.Ways.{gives_way, gives_at, is_dir_at, is_dir_or_free, is_none_or_empty}

abbrev Path : Type 0
Path = List ℕ

-- ---- as a look answers it

-- a file by its length, at or below `publisher` or elsewhere
by_length : (c z : Bool) (n : Bool) → (c ≡ true → z ≡ n) → (z && c) ≡ cond c n false
by_length true true n h = h refl
by_length true false n h = h refl
by_length false true n h = refl
by_length false false n h = refl

none_left : (m : ℕ) (bytes : List ℕ) → (length bytes == 0) ≡ is_none_or_empty (Some (File m bytes))
none_left m [] = refl
none_left m (b ∷ bytes) = false_from_ne_true (length (b ∷ bytes) == 0) (λ e. let none = eqb-true (length (b ∷ bytes)) 0 e in omega (arith, none))

by_size : (c : Bool) (m : ℕ) (bytes : List ℕ) → ((length bytes == 0) && c) ≡ cond c (is_none_or_empty (Some (File m bytes))) false
by_size c m bytes = by_length c (length bytes == 0) (is_none_or_empty (Some (File m bytes))) (λ e. none_left m bytes)

never : (c : Bool) → false ≡ cond c false false
never true = refl
never false = refl

always : (c : Bool) → true ≡ cond c true true
always true = refl
always false = refl

pub gives_looked : (p : Path) (e : Option Entry) → gives_at p (look_of e) ≡ gives_way p e
gives_looked p (Some (Dir m f)) = never (covers (codes "publisher") p)
gives_looked p (Some (File m bytes)) = by_size (covers (codes "publisher") p) m bytes
gives_looked p (Some (Link g)) = never (covers (codes "publisher") p)
gives_looked p (Some Other) = never (covers (codes "publisher") p)
gives_looked p None = always (covers (codes "publisher") p)

dir_looked : (e : Option Entry) → is_dir_at (look_of e) ≡ is_dir e
dir_looked (Some (Dir m f)) = refl
dir_looked (Some (File m bytes)) = refl
dir_looked (Some (Link g)) = refl
dir_looked (Some Other) = refl
dir_looked None = refl

pub free_looked : (p : Path) (e : Option Entry) → (gives_at p (look_of e) || is_dir_at (look_of e)) ≡ is_dir_or_free p e
free_looked p e = ap (λ (a : Bool). a || is_dir_at (look_of e)) (gives_looked p e) ∙ ap (λ (b : Bool). gives_way p e || b) (dir_looked e)

-- ---- what doesn't, and what stands below

-- by a flag in place of the path
abbrev pub gives : Bool → Option Entry → Bool
gives c e = cond c (is_none_or_empty e) (is_none e)

no_dir_by : (c : Bool) (e : Option Entry) → gives c e ≡ true → is_dir e ≡ false
no_dir_by true (Some (Dir m f)) h = absurd (false≢true h)
no_dir_by false (Some (Dir m f)) h = absurd (false≢true h)
no_dir_by c (Some (File m bytes)) h = refl
no_dir_by c (Some (Link g)) h = refl
no_dir_by c (Some Other) h = refl
no_dir_by c None h = refl

-- a directory doesn't give way
pub gives_no_dir : (p : Path) (e : Option Entry) → gives_way p e ≡ true → is_dir e ≡ false
gives_no_dir p e h = no_dir_by (covers (codes "publisher") p) e h

pub gives_dir : (c : Bool) → gives c (Some (Dir 493 false)) ≡ false
gives_dir true = refl
gives_dir false = refl

pub none_by : (c : Bool) (e : Option Entry) → e ≡ None → gives c e ≡ true
none_by true e is = ap is_none_or_empty is
none_by false e is = ap is_none is

-- nothing gives way
pub none_gives : (p : Path) (e : Option Entry) → e ≡ None → gives_way p e ≡ true
none_gives p e is = none_by (covers (codes "publisher") p) e is

none_of : (e : Option Entry) → is_none e ≡ true → e ≡ None
none_of None h = refl
none_of (Some x) h = cc

by_dir : (a b : Bool) → b ≡ false → (a || b) ≡ true → a ≡ true
by_dir true b off h = refl
by_dir false b off h = absurd (false≢true (sym off ∙ h))

-- nothing stands below what gives way
pub none_below : (t : Image) (p q : Path) → IsImage t → gives_way p (t.look p) ≡ true → covers p q ≡ true → same_path p q ≡ false → t.look q ≡ None
none_below t p q formed room below apart = none_of (t.look q) (by_dir (is_none (t.look q)) (is_dir (t.look p)) (gives_no_dir p (t.look p) room) (formed.below_dirs p q below apart))

-- elsewhere nothing alone gives way
pub gives_none : (p : Path) (e : Option Entry) → covers (codes "publisher") p ≡ false → gives_way p e ≡ true → e ≡ None
gives_none p e off h = none_of e (sym (ap (λ (c : Bool). cond c (is_none_or_empty e) (is_none e)) off) ∙ h)
