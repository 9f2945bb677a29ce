-- A file made and filled.
use Rattle.std.proofs.Common.{◌≡◌, ℕ, ◌+◌, ◌≤◌, Bool, true, false, List, [], ◌++◌, length, take, Option, Some, None, Result, refl, sym, ◌∙◌, ap, subst, arith}
use Rattle.std.proofs.lemmas.List.{length-append, length-take}
use Rattle.std.proofs.Math.Nat.{min-le_left}
use Rattle.std.proofs.lemmas.Bool.{or_from, false_from_ne_true}
use Rattle.ips_text.specs.Ancestry.{same_path, covers}
use Rattle.ips_text.proofs.Ancestry.{same_path-self, covers-self, uncovered}
use Rattle.ips_outside.specs.Image.{Entry, Dir, File, Link, Other, Image, Agrees, is_file, file_bytes, with_mode}
use Rattle.ips_outside.specs.Change.{with_entry_at, appended, more_bytes, moded, names}
use Rattle.ips_outside.specs.State.{State, nowhere}
use Rattle.ips_outside.specs.Outside.{Outside, IsOutside, readable}
use Rattle.ips_outside.proofs.Placed.{look_placed, placed_sole}
use Rattle.ips_folder.specs.Calls.{Writes, ChangesOnly, has_mode}
use Rattle.ips_folder.proofs.Runs.{keeps_wider, one_write}
use Rattle.ips_steps.proofs.Lists.{clash}
use Rattle.ips_repo.specs.Payload.{PayloadReading, with_piece}
use Rattle.ips_contents.specs.Contents.{HoldsAlone}

pub look_appended : (p more bytes : List ℕ) (m : ℕ) (t : Image) → t.look p ≡ Some (File m bytes) → (appended p more t).look p ≡ Some (File m (bytes ++ more))
look_appended p more bytes m t there = rw (same_path-self p) (ap (more_bytes more) there)

pub alone_placed : (p : List ℕ) (t u : Image) → u ≡ with_entry_at p (Some (File 384 [])) t → HoldsAlone p 384 [] u
alone_placed p t u made = subst (HoldsAlone p 384 []) (sym made) (record { file = look_placed p (Some (File 384 [])) t; sole = λ q same. placed_sole p q (Some (File 384 [])) t same })

pub alone_appended : (p bytes more : List ℕ) (t u : Image) → HoldsAlone p 384 bytes t → u ≡ appended p more t → HoldsAlone p 384 (bytes ++ more) u
alone_appended p bytes more t u alone made = subst (HoldsAlone p 384 (bytes ++ more)) (sym made) (record { file = look_appended p more bytes 384 t alone.file; sole = alone.sole })

-- a file that was made and then filled
pub alone_filled : (p bytes : List ℕ) (t u v : Image) → u ≡ with_entry_at p (Some (File 384 [])) t → v ≡ appended p bytes u → HoldsAlone p 384 bytes v
alone_filled p bytes t u v made filled = alone_appended p [] bytes u v (alone_placed p t u made) filled

-- ---- a payload that is read

-- no more is read than there is
pub small_more : (old new : PayloadReading) (count : ℕ) (buf : List ℕ) → new ≡ with_piece count buf old → length old.bytes + count ≤ old.size → length new.bytes ≤ new.size
small_more old new count buf is within =
    let few : length (take count buf) ≤ count = subst (λ (n : ℕ). n ≤ count) (sym (length-take count buf)) (min-le_left count (length buf)) in
    subst (λ (r : PayloadReading). length r.bytes ≤ r.size) (sym is) (omega (arith, length-append old.bytes (take count buf), few, within))

-- ---- the mode of a file that has one name

pub alone_mode : (p : List ℕ) (old : ℕ) (bytes : List ℕ) (t : Image) → HoldsAlone p old bytes t → has_mode (t.look p) ≡ true
alone_mode p old bytes t alone = ap has_mode alone.file

pub alone_moded : (p : List ℕ) (old mode : ℕ) (bytes : List ℕ) (t u : Image) → HoldsAlone p old bytes t → u ≡ moded mode p t → HoldsAlone p mode bytes u
alone_moded p old mode bytes t u alone made = subst (HoldsAlone p mode bytes) (sym made) (record { file = rw (same_path-self p) (ap (with_mode mode) alone.file); sole = alone.sole })

-- it is set at that name alone
names_alone : (p : List ℕ) (old : ℕ) (bytes : List ℕ) (t : Image) → HoldsAlone p old bytes t → (q : List ℕ) → covers p q ≡ false → names t p q ≡ false
names_alone p old bytes t alone q off = or_from (same_path p q) (t.same p q) (uncovered p q off)
    (false_from_ne_true (t.same p q) (λ same. clash (covers p q) (ap (covers p) (alone.sole q same) ∙ covers-self p) off))

pub moded_there : {F : Type 0} (o : Outside F) (sane : IsOutside o) (p : List ℕ) (old : ℕ) (bytes : List ℕ) (mid new : F) (to : State) {T E : Type 0} (result : Result T E) → HoldsAlone p old bytes (o.state mid).held → o.tells mid ≡ true
    → Writes o nowhere (names (o.state mid).held p) to mid new result → ChangesOnly o (covers p) (covers p) mid new
moded_there o sane p old bytes mid new to result alone told w = keeps_wider o nowhere (names (o.state mid).held p) (covers p) (covers p) mid new
    (λ q off. refl) (names_alone p old bytes (o.state mid).held alone) (one_write o sane mid new nowhere (names (o.state mid).held p) to result told w)

-- where nothing but freed paths may have another mode, none has
pub own_modes : (free : List ℕ → Bool) (t u : Image) → Agrees free free t u → Agrees free nowhere t u
own_modes free t u h = record { look = λ q f l. h.look q f f; but_mode = h.but_mode; same = h.same }

-- a file's bytes are what can be read of it
pub bytes_read : (e : Option Entry) → is_file e ≡ true → file_bytes e ≡ Some (readable e)
bytes_read (Some (Dir m f)) is = cc
bytes_read (Some (File m b)) is = refl
bytes_read (Some (Link g)) is = cc
bytes_read (Some Other) is = cc
bytes_read None is = cc
