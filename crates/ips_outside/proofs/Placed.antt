-- What stands after a change at a path.
use Rattle.std.proofs.Common.{◌≡◌, ℕ, Bool, true, false, cond, ◌&&◌, ◌||◌, List, Option, Some, None, refl, sym, subst}
use Rattle.ips_text.specs.Ancestry.{same_path, covers, parent}
use Rattle.ips_outside.specs.Image.{Entry, Image, IsImage, is_file, with_mode, has_parent, dir_or_none}
use Rattle.ips_outside.specs.Change.{with_entry_at, moded, names}
use Rattle.ips_text.proofs.Ancestry.{same_path-true, same_path-self, covers-self, uncovered, covers-parent}
use Rattle.ips_outside.proofs.Images.{image_ext}

pub look_placed : (p : List ℕ) (e : Option Entry) (t : Image) → (with_entry_at p e t).look p ≡ e
look_placed p e t = rw (same_path-self p) refl

over : {A : Type 0} (s c : Bool) (e f n x : A) → cond s e (cond c n (cond s f (cond c n x))) ≡ cond s e (cond c n x)
over true c e f n x = refl
over false true e f n x = refl
over false false e f n x = refl

over_same : (c x y z : Bool) → cond c x (cond c y z) ≡ cond c x z
over_same true x y z = refl
over_same false x y z = refl

pub placed_twice : (p : List ℕ) (e f : Option Entry) (t : Image) → with_entry_at p e (with_entry_at p f t) ≡ with_entry_at p e t
placed_twice p e f t = image_ext _ _ (λ q. over (same_path p q) (covers p q) e f None (t.look q)) (λ a b. over_same (covers p a || covers p b) _ _ _)

own_name : (c d s x f y : Bool) → c ≡ true → s ≡ true → cond (c || d) (s && (x && f)) y ≡ true → x ≡ true
own_name true d true true f y ec es h = refl
own_name true d true false f y ec es h = h
own_name true d false x f y ec es h = cc
own_name false d s x f y ec es h = cc

-- what was placed shares its node with nothing
pub placed_sole : (p q : List ℕ) (e : Option Entry) (t : Image) → (with_entry_at p e t).same p q ≡ true → q ≡ p
placed_sole p q e t h = sym (same_path-true p q (own_name (covers p p) (covers p q) (same_path p p) (same_path p q) (is_file e) _ (covers-self p) (same_path-self p) h))

-- a change at a path leaves its parent
pub parent_kept : (p : List ℕ) (e : Option Entry) (t : Image) → has_parent t p ≡ true → has_parent (with_entry_at p e t) p ≡ true
parent_kept p e t here = go (parent p) refl here
  where
    go : (o : Option (List ℕ)) → parent p ≡ o → dir_or_none t o ≡ true → dir_or_none (with_entry_at p e t) o ≡ true
    go (Some q) is dir = let off = covers-parent p q is in rw (uncovered p q off, off) dir
    go None is dir = refl

-- a mode that meets nothing
pub moded_none : (m : ℕ) (p : List ℕ) (t : Image) → IsImage t → is_file (t.look p) ≡ false → with_mode m (t.look p) ≡ t.look p → moded m p t ≡ t
moded_none m p t formed no_file plain = image_ext _ _ (λ q. at q (same_path p q) refl (t.same p q) refl) (λ a b. refl)
  where
    at : (q : List ℕ) (s : Bool) → same_path p q ≡ s → (n : Bool) → t.same p q ≡ n → cond (names t p q) (with_mode m (t.look q)) (t.look q) ≡ t.look q
    at q true is n own = rw is (subst (λ (x : List ℕ). with_mode m (t.look x) ≡ t.look x) (same_path-true p q is) plain)
    at q false is true own = let file = (formed.files p q own).0 in absurd (cc)
    at q false is false own = rw (is, own) refl
