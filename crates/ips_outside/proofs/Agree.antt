-- One change to two images that agree.
use Rattle.std.proofs.Common.{◌≡◌, ℕ, Bool, true, false, cond, not, ◌&&◌, ◌||◌, List, Option, Some, None, refl, sym, ◌∙◌, ap}
use Rattle.std.proofs.lemmas.Bool.{or_from}
use Rattle.ips_text.specs.Ancestry.{same_path, covers, is_below}
use Rattle.ips_outside.specs.Image.{Entry, Dir, File, Link, Other, Image, Agrees, is_dir, is_file, with_mode}
use Rattle.ips_outside.specs.Change.{with_entry_at, joined, moded, names}
use Rattle.ips_text.proofs.Ancestry.{same_path-true}

pub mode_over : (v w : ℕ) (x : Option Entry) → with_mode v (with_mode w x) ≡ with_mode v x
mode_over v w (Some (Dir m f)) = refl
mode_over v w (Some (File m b)) = refl
mode_over v w (Some (Link g)) = refl
mode_over v w (Some Other) = refl
mode_over v w None = refl

pub mode_any : (w : ℕ) (x y : Option Entry) → with_mode 0 x ≡ with_mode 0 y → with_mode w x ≡ with_mode w y
mode_any w x y e = sym (mode_over w 0 x) ∙ ap (with_mode w) e ∙ mode_over w 0 y

pub is_dir-mode : (w : ℕ) (x : Option Entry) → is_dir (with_mode w x) ≡ is_dir x
is_dir-mode w (Some (Dir m f)) = refl
is_dir-mode w (Some (File m b)) = refl
is_dir-mode w (Some (Link g)) = refl
is_dir-mode w (Some Other) = refl
is_dir-mode w None = refl

pub is_file-mode : (w : ℕ) (x : Option Entry) → is_file (with_mode w x) ≡ is_file x
is_file-mode w (Some (Dir m f)) = refl
is_file-mode w (Some (File m b)) = refl
is_file-mode w (Some (Link g)) = refl
is_file-mode w (Some Other) = refl
is_file-mode w None = refl

pub is_dir-alike : (x y : Option Entry) → with_mode 0 x ≡ with_mode 0 y → is_dir x ≡ is_dir y
is_dir-alike x y e = sym (is_dir-mode 0 x) ∙ ap is_dir e ∙ is_dir-mode 0 y

pub is_file-alike : (x y : Option Entry) → with_mode 0 x ≡ with_mode 0 y → is_file x ≡ is_file y
is_file-alike x y e = sym (is_file-mode 0 x) ∙ ap is_file e ∙ is_file-mode 0 y

look_two : {A : Type 0} (s c : Bool) (e e' n x y : A) → (s ≡ true → e ≡ e') → (c ≡ false → x ≡ y) → cond s e (cond c n x) ≡ cond s e' (cond c n y)
look_two true c e e' n x y g h = g refl
look_two false true e e' n x y g h = refl
look_two false false e e' n x y g h = h refl

mode_two : (s c : Bool) (e e' n x y : Option Entry) → (s ≡ true → with_mode 0 e ≡ with_mode 0 e') → (c ≡ false → with_mode 0 x ≡ with_mode 0 y) → with_mode 0 (cond s e (cond c n x)) ≡ with_mode 0 (cond s e' (cond c n y))
mode_two true c e e' n x y g h = g refl
mode_two false true e e' n x y g h = refl
mode_two false false e e' n x y g h = h refl

pub same_two : (c d x y z : Bool) → (c ≡ false → d ≡ false → y ≡ z) → cond (c || d) x y ≡ cond (c || d) x z
same_two true d x y z h = refl
same_two false true x y z h = refl
same_two false false x y z h = h refl refl

pub placed_agrees : (p : List ℕ) (e : Option Entry) (free loose : List ℕ → Bool) (t u : Image) → Agrees (λ q. covers p q || free q) loose t u → Agrees free loose (with_entry_at p e t) (with_entry_at p e u)
placed_agrees p e free loose t u h = record {
  look = λ q fq lq. look_two (same_path p q) (covers p q) e e None (u.look q) (t.look q) (λ _. refl) (λ c. h.look q (or_from _ _ c fq) lq);
  but_mode = λ q fq. mode_two (same_path p q) (covers p q) e e None (u.look q) (t.look q) (λ _. refl) (λ c. h.but_mode q (or_from _ _ c fq));
  same = λ a b fa fb. same_two (covers p a) (covers p b) (same_path p a && (same_path p b && is_file e)) (u.same a b) (t.same a b) (λ ca cb. h.same a b (or_from _ _ ca fa) (or_from _ _ cb fb));
}

moded_look : (n l : Bool) (w : ℕ) (x y : Option Entry) → with_mode 0 x ≡ with_mode 0 y → ((n || l) ≡ false → x ≡ y) → l ≡ false → cond n (with_mode w x) x ≡ cond n (with_mode w y) y
moded_look true l w x y e h le = mode_any w x y e
moded_look false l w x y e h le = h le

pub moded_mode : (n : Bool) (w : ℕ) (x : Option Entry) → with_mode 0 (cond n (with_mode w x) x) ≡ with_mode 0 x
moded_mode true w x = mode_over 0 w x
moded_mode false w x = refl

pub moded_agrees : (w : ℕ) (p : List ℕ) (free loose : List ℕ → Bool) (t u : Image) → free p ≡ false → Agrees free (λ q. names t p q || loose q) t u → Agrees free loose (moded w p t) (moded w p u)
moded_agrees w p free loose t u fp h = record {
  look = λ q fq lq.
      ap (λ (n : Bool). cond n (with_mode w (u.look q)) (u.look q)) (ap (λ (n : Bool). same_path p q || n) (h.same p q fp fq))
      ∙ moded_look (names t p q) (loose q) w (u.look q) (t.look q) (h.but_mode q fq) (λ nl. h.look q fq nl) lq;
  but_mode = λ q fq. moded_mode (names u p q) w (u.look q) ∙ h.but_mode q fq ∙ sym (moded_mode (names t p q) w (t.look q));
  same = λ a b fa fb. h.same a b fa fb;
}

pub redirected : (s c : Bool) (to a : List ℕ) (free : List ℕ → Bool) → (c && not s) ≡ false → free to ≡ false → (c ≡ false → free a ≡ false) → free (cond s to a) ≡ false
redirected true c to a free b ft h = ft
redirected false true to a free b ft h = cc
redirected false false to a free b ft h = h refl

pub joined_agrees : (p to : List ℕ) (free loose : List ℕ → Bool) (t u : Image) → covers p to ≡ false → free to ≡ false → (free p ≡ false → loose p ≡ false → loose to ≡ false) → Agrees (λ q. covers p q || free q) loose t u → Agrees free loose (joined p to t) (joined p to u)
joined_agrees p to free loose t u ct ft respects h = record {
  look = λ q fq lq. look_two (same_path p q) (covers p q) (u.look to) (t.look to) None (u.look q) (t.look q) (λ s. h.look to (or_from _ _ ct ft) (at_target q s fq lq)) (λ c. h.look q (or_from _ _ c fq) lq);
  but_mode = λ q fq. mode_two (same_path p q) (covers p q) (u.look to) (t.look to) None (u.look q) (t.look q) (λ _. h.but_mode to (or_from _ _ ct ft)) (λ c. h.but_mode q (or_from _ _ c fq));
  same = λ a b fa fb. same_two (is_below p a) (is_below p b) false _ _ (λ ba bb. h.same _ _ (kept a fa ba) (kept b fb bb));
}
  where
    at_target : (q : List ℕ) → same_path p q ≡ true → free q ≡ false → loose q ≡ false → loose to ≡ false
    at_target q s fq lq = let is = same_path-true p q s in respects (ap free is ∙ fq) (ap loose is ∙ lq)

    kept : (a : List ℕ) → free a ≡ false → is_below p a ≡ false → (covers p (cond (same_path p a) to a) || free (cond (same_path p a) to a)) ≡ false
    kept a fa ba = redirected (same_path p a) (covers p a) to a (λ q. covers p q || free q) ba (or_from _ _ ct ft) (λ c. or_from _ _ c fa)
