-- Files made, filled and given a mode.
use Rattle.std.proofs.Common.{◌≡◌, ℕ, Bool, true, false, cond, ◌||◌, List, [], ◌++◌, append_assoc, append-nil, Option, Some, None, refl, sym, ◌∙◌, ap, subst}
use Rattle.ips_text.specs.Ancestry.{same_path, covers}
use Rattle.ips_outside.specs.Image.{Entry, Dir, File, Link, Other, Image, is_file, with_mode}
use Rattle.ips_outside.specs.Change.{with_entry_at, moded, more_bytes, appended}
use Rattle.ips_folder.specs.Calls.{IsSole, has_mode}
use Rattle.ips_text.proofs.Ancestry.{same_path-self}
use Rattle.ips_outside.proofs.Images.{image_ext}
use Rattle.ips_outside.proofs.Placed.{look_placed, placed_sole}

-- bytes behind bytes
pub more_twice : (a b : List ℕ) (e : Option Entry) → more_bytes b (more_bytes a e) ≡ more_bytes (a ++ b) e
more_twice a b (Some (Dir m f)) = refl
more_twice a b (Some (File m x)) = ap (λ (y : List ℕ). Some (File m y)) (append_assoc x a b)
more_twice a b (Some (Link g)) = refl
more_twice a b (Some Other) = refl
more_twice a b None = refl

pub more_none : (e : Option Entry) → more_bytes [] e ≡ e
more_none (Some (Dir m f)) = refl
more_none (Some (File m x)) = ap (λ (y : List ℕ). Some (File m y)) (append-nil x)
more_none (Some (Link g)) = refl
more_none (Some Other) = refl
more_none None = refl

pub file_mode : (e : Option Entry) → is_file e ≡ true → has_mode e ≡ true
file_mode (Some (Dir m f)) h = cc
file_mode (Some (File m x)) h = refl
file_mode (Some (Link g)) h = cc
file_mode (Some Other) h = cc
file_mode None h = cc

-- a file with one name has a mode
pub sole_mode : (p : List ℕ) (t : Image) → IsSole t p → has_mode (t.look p) ≡ true
sole_mode p t own = file_mode (t.look p) own.file

pub appended_twice : (p a b : List ℕ) (t : Image) → appended p b (appended p a t) ≡ appended p (a ++ b) t
appended_twice p a b t = image_ext _ _ (λ q. at (same_path p q) (t.look q)) (λ x y. refl)
  where
    at : (s : Bool) (e : Option Entry) → cond s (more_bytes b (cond s (more_bytes a e) e)) (cond s (more_bytes a e) e) ≡ cond s (more_bytes (a ++ b) e) e
    at true e = more_twice a b e
    at false e = refl

pub appended_none : (p : List ℕ) (t : Image) → appended p [] t ≡ t
appended_none p t = image_ext _ _ (λ q. at (same_path p q) (t.look q)) (λ x y. refl)
  where
    at : (s : Bool) (e : Option Entry) → cond s (more_bytes [] e) e ≡ e
    at true e = more_none e
    at false e = refl

-- a file that was made has one name
pub sole_placed : (p : List ℕ) (m : ℕ) (bytes : List ℕ) (t : Image) → IsSole (with_entry_at p (Some (File m bytes)) t) p
sole_placed p m bytes t = record { file = rw (look_placed p (Some (File m bytes)) t) refl; sole = λ q same. placed_sole p q (Some (File m bytes)) t same }

pub appended_placed : (p : List ℕ) (m : ℕ) (bytes : List ℕ) (t : Image) → appended p bytes (with_entry_at p (Some (File m [])) t) ≡ with_entry_at p (Some (File m bytes)) t
appended_placed p m bytes t = image_ext _ _ (λ q. at (same_path p q) (cond (covers p q) None (t.look q))) (λ x y. refl)
  where
    at : (s : Bool) (e : Option Entry) → cond s (more_bytes bytes (cond s (Some (File m [])) e)) (cond s (Some (File m [])) e) ≡ cond s (Some (File m bytes)) e
    at true e = refl
    at false e = refl

pub moded_placed : (p : List ℕ) (m old : ℕ) (bytes : List ℕ) (t : Image) → moded m p (with_entry_at p (Some (File old bytes)) t) ≡ with_entry_at p (Some (File m bytes)) t
moded_placed p m old bytes t = image_ext _ _ (λ q. at q (same_path p q) refl ((with_entry_at p (Some (File old bytes)) t).same p q) refl) (λ x y. refl)
  where
    at : (q : List ℕ) (s : Bool) → same_path p q ≡ s → (n : Bool) → (with_entry_at p (Some (File old bytes)) t).same p q ≡ n
        → cond (s || n) (with_mode m (cond s (Some (File old bytes)) (cond (covers p q) None (t.look q)))) (cond s (Some (File old bytes)) (cond (covers p q) None (t.look q))) ≡ cond s (Some (File m bytes)) (cond (covers p q) None (t.look q))
    at q true is n own = refl
    at q false is true own = let one : q ≡ p = placed_sole p q (Some (File old bytes)) t own in let self = same_path-self p in absurd (let bad : same_path p q ≡ true = ap (same_path p) one ∙ self in cc)
    at q false is false own = refl

-- a file that is made, filled and given a mode is placed
pub filled : (p bytes : List ℕ) (m : ℕ) (t : Image) → moded m p (appended p bytes (with_entry_at p (Some (File 384 [])) t)) ≡ with_entry_at p (Some (File m bytes)) t
filled p bytes m t = ap (moded m p) (appended_placed p 384 bytes t) ∙ moded_placed p m 384 bytes t
