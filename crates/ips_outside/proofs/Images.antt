-- Images: when two are one, and which names share a file.
use Rattle.std.proofs.Common.{◌≡◌, ℕ, Bool, true, false, cond, not, ◌&&◌, ◌||◌, List, Option, None, refl, sym, ◌∙◌, ap}
use Rattle.ips_text.specs.Ancestry.{same_path, covers}
use Rattle.ips_outside.specs.Image.{Entry, Image, is_file, with_mode}
use Rattle.ips_outside.specs.Change.{with_entry_at, joined, moded, names}
use Rattle.ips_text.proofs.Ancestry.{same_path-true, same_path-self, covers-self, uncovered, same_covers}
use Rattle.ips_outside.proofs.Agree.{is_file-mode}

-- two names of one node
pub record Twins (t : Image) (a b : List ℕ) : Type 0 where
  pub alike : (x : List ℕ) → t.same x a ≡ t.same x b
  pub there : t.same a b ≡ true
  pub back : t.same b a ≡ true

both_or : (x y s s' : Bool) → s ≡ s' → (x ≡ true → s' ≡ true) → (y ≡ true → s ≡ true) → (x || s) ≡ (y || s')
both_or true true s s' e f g = refl
both_or true false s s' e f g = sym (f refl)
both_or false true s s' e f g = g refl
both_or false false s s' e f g = e

pub names_twins : (p : List ℕ) (t : Image) (a b : List ℕ) → Twins t a b → names t p a ≡ names t p b
names_twins p t a b h = both_or (same_path p a) (same_path p b) (t.same p a) (t.same p b) (h.alike p)
    (λ at. ap (λ (x : List ℕ). t.same x b) (same_path-true p a at) ∙ h.there)
    (λ at. ap (λ (x : List ℕ). t.same x a) (same_path-true p b at) ∙ h.back)

-- each file's name shares its own node
pub record HasNodes (t : Image) : Type 0 where
  pub self : (a : List ℕ) → is_file (t.look a) ≡ true → t.same a a ≡ true

placed_self : (s c f x : Bool) (e y : Option Entry) → f ≡ is_file e → (s ≡ true → c ≡ true) → (is_file y ≡ true → x ≡ true) → is_file (cond s e (cond c None y)) ≡ true → cond (c || c) (s && (s && f)) x ≡ true
placed_self true true f x e y is sc h here = is ∙ here
placed_self true false f x e y is sc h here = absurd (let no = sc refl in cc)
placed_self false true f x e y is sc h here = here
placed_self false false f x e y is sc h here = h here

pub placed_nodes : (p : List ℕ) (e : Option Entry) (t : Image) → HasNodes t → HasNodes (with_entry_at p e t)
placed_nodes p e t h = record { self = λ a here. placed_self (same_path p a) (covers p a) (is_file e) (t.same a a) e (t.look a) refl (same_covers p a) (h.self a) here }

pub moded_file : (n : Bool) (m : ℕ) (y : Option Entry) → is_file (cond n (with_mode m y) y) ≡ is_file y
moded_file true m y = is_file-mode m y
moded_file false m y = refl

pub moded_nodes : (m : ℕ) (p : List ℕ) (t : Image) → HasNodes t → HasNodes (moded m p t)
moded_nodes m p t h = record { self = λ a here. h.self a (sym (moded_file (names t p a) m (t.look a)) ∙ here) }

joined_self : (t : Image) (to a : List ℕ) (s c : Bool) → HasNodes t → is_file (cond s (t.look to) (cond c None (t.look a))) ≡ true → cond ((c && not s) || (c && not s)) false (t.same (cond s to a) (cond s to a)) ≡ true
joined_self t to a true true h here = h.self to here
joined_self t to a true false h here = h.self to here
joined_self t to a false true h here = here
joined_self t to a false false h here = h.self a here

pub joined_nodes : (p to : List ℕ) (t : Image) → HasNodes t → HasNodes (joined p to t)
joined_nodes p to t h = record { self = λ a here. joined_self t to a (same_path p a) (covers p a) h here }

-- the new name and the old one
pub joined_new : (p to : List ℕ) (t : Image) → HasNodes t → covers p to ≡ false → is_file (t.look to) ≡ true → Twins (joined p to t) p to
joined_new p to t h ct file =
    let sp = same_path-self p in
    let st = uncovered p to ct in
    let own = h.self to file in
    record {
      alike = λ x. rw (ct, st, sp) (rw (covers-self p) refl);
      there = rw (ct, st, sp) (rw (covers-self p) own);
      back = rw (ct, st, sp) (rw (covers-self p) own);
    }

pub image_ext : (t u : Image) → ((q : List ℕ) → t.look q ≡ u.look q) → ((a b : List ℕ) → t.same a b ≡ u.same a b) → t ≡ u
image_ext t u looks sames = λ i. record { look = λ q. looks q i; same = λ a b. sames a b i }
