-- A change leaves a well-formed image well formed.
use Rattle.std.proofs.Common.{◌≡◌, ℕ, Bool, true, false, cond, not, ◌&&◌, ◌||◌, ◌<◌, List, Option, Some, None, is_none, is_some, refl, sym, ◌∙◌, ap, subst}
use Rattle.std.proofs.lemmas.Bool.{false_from_ne_true, lt-ltb}
use Rattle.ips_text.specs.Ancestry.{same_path, covers, is_below}
use Rattle.ips_text.specs.Path.{IsPath}
use Rattle.ips_outside.specs.Image.{has_small_mode, Entry, Dir, File, Link, Other, Image, IsImage, is_dir, is_file, with_mode, has_parent, dir_or_none}
use Rattle.ips_outside.specs.Change.{with_entry_at, joined, moded, names, appended, more_bytes, marked, with_mark}
use Rattle.ips_text.proofs.Ancestry.{same_path-true, same_path-self, uncovered, covers_trans, above, at_parent_of, same_covers}
use Rattle.ips_outside.proofs.Agree.{is_dir-mode, is_file-mode}
use Rattle.ips_outside.proofs.Images.{placed_nodes, joined_nodes, moded_nodes, Twins, names_twins}

dir_not_none : (e f : Option Entry) → is_dir e ≡ true → (is_none e || is_dir f) ≡ true → is_dir f ≡ true
dir_not_none (Some e) f d h = h
dir_not_none None f d h = cc

-- what is strictly above a path with a parent is a directory
pub dirs_above : (a p : List ℕ) (t : Image) → IsImage t → has_parent t p ≡ true → covers a p ≡ true → same_path a p ≡ false → is_dir (t.look a) ≡ true
dirs_above a p t formed has c s =
    let up = at_parent_of a p c s in
    let dir : is_dir (t.look up.dir) ≡ true = ap (dir_or_none t) (sym up.is) ∙ has in
    go up.dir up.up dir (same_path a up.dir) refl
  where
    go : (r : List ℕ) → covers a r ≡ true → is_dir (t.look r) ≡ true → (s : Bool) → same_path a r ≡ s → is_dir (t.look a) ≡ true
    go r up dir true same = ap (λ (x : List ℕ). is_dir (t.look x)) (same_path-true a r same) ∙ dir
    go r up dir false same = dir_not_none (t.look r) (t.look a) dir (formed.below_dirs a r up same)

-- below directories, after an entry is put at a path
put_below : (p : List ℕ) (e : Option Entry) (t : Image) → IsImage t → (is_none e ≡ false → has_parent t p ≡ true) → (a q : List ℕ) → covers a q ≡ true → same_path a q ≡ false
    → (is_none (cond (same_path p q) e (cond (covers p q) None (t.look q))) || is_dir (cond (same_path p a) e (cond (covers p a) None (t.look a)))) ≡ true
put_below p e t formed has a q c s = go (same_path p q) refl (covers p q) refl
  where
    at_path : (x : Option Entry) → (is_none x ≡ false → is_dir (t.look a) ≡ true) → (is_none x || is_dir (t.look a)) ≡ true
    at_path (Some x) h = h refl
    at_path None h = refl

    go : (s' : Bool) → same_path p q ≡ s' → (c' : Bool) → covers p q ≡ c' → (is_none (cond s' e (cond c' None (t.look q))) || is_dir (cond (same_path p a) e (cond (covers p a) None (t.look a)))) ≡ true
    go true is c' cov =
        let same : p ≡ q = same_path-true p q is in
        let up : covers a p ≡ true = ap (covers a) same ∙ c in
        let apart : same_path a p ≡ false = ap (same_path a) same ∙ s in
        let off = above a p up apart in
        rw (uncovered p a off, off) (at_path e (λ some. dirs_above a p t formed (has some) up apart))
    go false is true cov = refl
    go false is false cov =
        let off : covers p a ≡ false = false_from_ne_true _ (λ ca. let all = covers_trans p a q ca c in absurd (cc)) in
        rw (uncovered p a off, off) (formed.below_dirs a q c s)

module _ (p : List ℕ) (e : Option Entry) (t : Image) (formed : IsImage t) where
  -- something still stands only at paths, with modes of permission bits
  put_paths : (is_some e ≡ true → IsPath p) → (q : List ℕ) → is_some (cond (same_path p q) e (cond (covers p q) None (t.look q))) ≡ true → IsPath q
  put_paths path q = go (same_path p q) refl (covers p q)
    where
      go : (s : Bool) → same_path p q ≡ s → (c : Bool) → is_some (cond s e (cond c None (t.look q))) ≡ true → IsPath q
      go true is c some = subst IsPath (same_path-true p q is) (path some)
      go false is true some = cc
      go false is false some = formed.paths q some

  put_modes : has_small_mode e ≡ true → (q : List ℕ) → has_small_mode (cond (same_path p q) e (cond (covers p q) None (t.look q))) ≡ true
  put_modes small q = go (same_path p q) (covers p q)
    where
      go : (s c : Bool) → has_small_mode (cond s e (cond c None (t.look q))) ≡ true
      go true c = small
      go false true = refl
      go false false = formed.modes q

  placed_files : (ca sa cb sb : Bool) (a b : List ℕ) → (sa ≡ true → ca ≡ true) → (sb ≡ true → cb ≡ true) → cond (ca || cb) (sa && (sb && is_file e)) (t.same a b) ≡ true
      → (is_file (cond sa e (cond ca None (t.look a))) ≡ true) × (cond sa e (cond ca None (t.look a)) ≡ cond sb e (cond cb None (t.look b)))
  placed_files true true cb true a b ha hb h = (h, refl)
  placed_files true true cb false a b ha hb h = cc
  placed_files true false cb sb a b ha hb h = cc
  placed_files false true cb sb a b ha hb h = absurd (let bad = ha refl in cc)
  placed_files false false true sb a b ha hb h = cc
  placed_files false false false true a b ha hb h = absurd (let bad = hb refl in cc)
  placed_files false false false false a b ha hb h = formed.files a b h

  placed_sym : (ca sa cb sb x y : Bool) → x ≡ y → cond (ca || cb) (sa && (sb && is_file e)) x ≡ cond (cb || ca) (sb && (sa && is_file e)) y
  placed_sym true true true true x y h = refl
  placed_sym true true true false x y h = refl
  placed_sym true true false true x y h = refl
  placed_sym true true false false x y h = refl
  placed_sym true false true true x y h = refl
  placed_sym true false true false x y h = refl
  placed_sym true false false true x y h = refl
  placed_sym true false false false x y h = refl
  placed_sym false true true true x y h = refl
  placed_sym false true true false x y h = refl
  placed_sym false false true true x y h = refl
  placed_sym false false true false x y h = refl
  placed_sym false sa false sb x y h = h

  placed_trans : (ca sa cb sb cz sz : Bool) (ab az bz : Bool) → (sa ≡ true → ca ≡ true) → (sb ≡ true → cb ≡ true) → (ab ≡ true → az ≡ bz) → cond (ca || cb) (sa && (sb && is_file e)) ab ≡ true
      → cond (ca || cz) (sa && (sz && is_file e)) az ≡ cond (cb || cz) (sb && (sz && is_file e)) bz
  placed_trans true true true true cz sz ab az bz ha hb f h = refl
  placed_trans true true false true cz sz ab az bz ha hb f h = absurd (let bad = hb refl in cc)
  placed_trans true true cb false cz sz ab az bz ha hb f h = cc
  placed_trans true false cb sb cz sz ab az bz ha hb f h = cc
  placed_trans false true cb sb cz sz ab az bz ha hb f h = absurd (let bad = ha refl in cc)
  placed_trans false false true sb cz sz ab az bz ha hb f h = cc
  placed_trans false false false true cz sz ab az bz ha hb f h = absurd (let bad = hb refl in cc)
  placed_trans false false false false true sz ab az bz ha hb f h = refl
  placed_trans false false false false false sz ab az bz ha hb f h = f h

  pub placed_formed : (is_none e ≡ false → has_parent t p ≡ true) → (is_some e ≡ true → IsPath p) → has_small_mode e ≡ true → IsImage (with_entry_at p e t)
  placed_formed has path small = record {
    paths = put_paths path;
    modes = put_modes small;
    below_dirs = put_below p e t formed has;
    files = λ a b h. placed_files (covers p a) (same_path p a) (covers p b) (same_path p b) a b (same_covers p a) (same_covers p b) h;
    self = (placed_nodes p e t (record { self = formed.self })).self;
    sym = λ a b. placed_sym (covers p a) (same_path p a) (covers p b) (same_path p b) (t.same a b) (t.same b a) (formed.sym a b);
    trans = λ a b z h. placed_trans (covers p a) (same_path p a) (covers p b) (same_path p b) (covers p z) (same_path p z) (t.same a b) (t.same a z) (t.same b z) (same_covers p a) (same_covers p b) (formed.trans a b z) h;
  }

module _ (p to : List ℕ) (t : Image) (formed : IsImage t) where
  joined_look : (s c : Bool) (a : List ℕ) → (c && not s) ≡ false → cond s (t.look to) (cond c None (t.look a)) ≡ t.look (cond s to a)
  joined_look true c a h = refl
  joined_look false true a h = cc
  joined_look false false a h = refl

  joined_files : (a b : List ℕ) (ba bb : Bool) → is_below p a ≡ ba → is_below p b ≡ bb → cond (ba || bb) false (t.same (cond (same_path p a) to a) (cond (same_path p b) to b)) ≡ true
      → (is_file ((joined p to t).look a) ≡ true) × ((joined p to t).look a ≡ (joined p to t).look b)
  joined_files a b true bb ea eb h = cc
  joined_files a b false true ea eb h = cc
  joined_files a b false false ea eb h =
      let la = joined_look (same_path p a) (covers p a) a ea in
      let lb = joined_look (same_path p b) (covers p b) b eb in
      let both = formed.files (cond (same_path p a) to a) (cond (same_path p b) to b) h in
      (ap is_file la ∙ both.0, la ∙ both.1 ∙ sym lb)

  joined_sym : (ba bb x y : Bool) → x ≡ y → cond (ba || bb) false x ≡ cond (bb || ba) false y
  joined_sym true true x y h = refl
  joined_sym true false x y h = refl
  joined_sym false true x y h = refl
  joined_sym false false x y h = h

  joined_trans : (ba bb bz ab az bz' : Bool) → (ab ≡ true → az ≡ bz') → cond (ba || bb) false ab ≡ true → cond (ba || bz) false az ≡ cond (bb || bz) false bz'
  joined_trans true bb bz ab az bz' f h = cc
  joined_trans false true bz ab az bz' f h = cc
  joined_trans false false true ab az bz' f h = refl
  joined_trans false false false ab az bz' f h = f h

  pub joined_formed : has_parent t p ≡ true → IsPath p → IsImage (joined p to t)
  joined_formed has path = record {
    paths = put_paths p (t.look to) t formed (λ _. path);
    modes = put_modes p (t.look to) t formed (formed.modes to);
    below_dirs = put_below p (t.look to) t formed (λ _. has);
    files = λ a b h. joined_files a b (is_below p a) (is_below p b) refl refl h;
    self = (joined_nodes p to t (record { self = formed.self })).self;
    sym = λ a b. joined_sym (is_below p a) (is_below p b) _ _ (formed.sym _ _);
    trans = λ a b z h. joined_trans (is_below p a) (is_below p b) (is_below p z) _ _ _ (formed.trans _ _ _) h;
  }

module _ (m : ℕ) (p : List ℕ) (t : Image) (formed : IsImage t) where
  none_mode : (n : Bool) (x : Option Entry) → is_none (cond n (with_mode m x) x) ≡ is_none x
  none_mode false x = refl
  none_mode true (Some (Dir o f)) = refl
  none_mode true (Some (File o b)) = refl
  none_mode true (Some (Link g)) = refl
  none_mode true (Some Other) = refl
  none_mode true None = refl

  dir_mode : (n : Bool) (x : Option Entry) → is_dir (cond n (with_mode m x) x) ≡ is_dir x
  dir_mode false x = refl
  dir_mode true x = is_dir-mode m x

  file_mode : (n : Bool) (x : Option Entry) → is_file (cond n (with_mode m x) x) ≡ is_file x
  file_mode false x = refl
  file_mode true x = is_file-mode m x

  twins : (a b : List ℕ) → t.same a b ≡ true → Twins t a b
  twins a b h = record { alike = λ x. formed.sym x a ∙ formed.trans a b x h ∙ formed.sym b x; there = h; back = formed.sym b a ∙ h }

  some_mode : (n : Bool) (x : Option Entry) → is_some (cond n (with_mode m x) x) ≡ is_some x
  some_mode false x = refl
  some_mode true (Some (Dir o f)) = refl
  some_mode true (Some (File o b)) = refl
  some_mode true (Some (Link g)) = refl
  some_mode true (Some Other) = refl
  some_mode true None = refl

  small_moded : m < 4096 → (n : Bool) (x : Option Entry) → has_small_mode x ≡ true → has_small_mode (cond n (with_mode m x) x) ≡ true
  small_moded small false x h = h
  small_moded small true (Some (Dir o f)) h = lt-ltb m 4096 small
  small_moded small true (Some (File o b)) h = lt-ltb m 4096 small
  small_moded small true (Some (Link g)) h = refl
  small_moded small true (Some Other) h = refl
  small_moded small true None h = refl

  pub moded_formed : m < 4096 → IsImage (moded m p t)
  moded_formed small = record {
    paths = λ q some. formed.paths q (sym (some_mode (names t p q) (t.look q)) ∙ some);
    modes = λ q. small_moded small (names t p q) (t.look q) (formed.modes q);
    below_dirs = λ a q c s. ap (λ (x : Bool). x || is_dir ((moded m p t).look a)) (none_mode (names t p q) (t.look q)) ∙ ap (λ (x : Bool). is_none (t.look q) || x) (dir_mode (names t p a) (t.look a)) ∙ formed.below_dirs a q c s;
    files = λ a b h.
        let both = formed.files a b h in
        (file_mode (names t p a) (t.look a) ∙ both.0, ap (λ (x : Option Entry). cond (names t p a) (with_mode m x) x) both.1 ∙ ap (λ (n : Bool). cond n (with_mode m (t.look b)) (t.look b)) (names_twins p t a b (twins a b h)));
    self = (moded_nodes m p t (record { self = formed.self })).self;
    sym = formed.sym;
    trans = formed.trans;
  }

module _ (p more : List ℕ) (t : Image) (formed : IsImage t) (sole : (q : List ℕ) → t.same p q ≡ true → q ≡ p) where
  none_longer : (n : Bool) (x : Option Entry) → is_none (cond n (more_bytes more x) x) ≡ is_none x
  none_longer false x = refl
  none_longer true (Some (Dir o f)) = refl
  none_longer true (Some (File o b)) = refl
  none_longer true (Some (Link g)) = refl
  none_longer true (Some Other) = refl
  none_longer true None = refl

  dir_longer : (n : Bool) (x : Option Entry) → is_dir (cond n (more_bytes more x) x) ≡ is_dir x
  dir_longer false x = refl
  dir_longer true (Some (Dir o f)) = refl
  dir_longer true (Some (File o b)) = refl
  dir_longer true (Some (Link g)) = refl
  dir_longer true (Some Other) = refl
  dir_longer true None = refl

  file_longer : (n : Bool) (x : Option Entry) → is_file (cond n (more_bytes more x) x) ≡ is_file x
  file_longer false x = refl
  file_longer true (Some (Dir o f)) = refl
  file_longer true (Some (File o b)) = refl
  file_longer true (Some (Link g)) = refl
  file_longer true (Some Other) = refl
  file_longer true None = refl

  alike_longer : (a b : List ℕ) → t.same a b ≡ true → (sa : Bool) → same_path p a ≡ sa → (sb : Bool) → same_path p b ≡ sb → (appended p more t).look a ≡ (appended p more t).look b
  alike_longer a b h true ea sb eb =
      let here : p ≡ a = same_path-true p a ea in
      let one : b ≡ p = sole b (ap (λ (x : List ℕ). t.same x b) here ∙ h) in
      ap (appended p more t).look (sym here ∙ sym one)
  alike_longer a b h false ea true eb =
      let here : p ≡ b = same_path-true p b eb in
      let one : a ≡ p = sole a (formed.sym p a ∙ ap (t.same a) here ∙ h) in
      let self : same_path p a ≡ true = ap (same_path p) one ∙ same_path-self p in
      cc
  alike_longer a b h false ea false eb = rw (ea, eb) (formed.files a b h).1

  some_longer : (n : Bool) (x : Option Entry) → is_some (cond n (more_bytes more x) x) ≡ is_some x
  some_longer false x = refl
  some_longer true (Some (Dir o f)) = refl
  some_longer true (Some (File o b)) = refl
  some_longer true (Some (Link g)) = refl
  some_longer true (Some Other) = refl
  some_longer true None = refl

  small_longer : (n : Bool) (x : Option Entry) → has_small_mode (cond n (more_bytes more x) x) ≡ has_small_mode x
  small_longer false x = refl
  small_longer true (Some (Dir o f)) = refl
  small_longer true (Some (File o b)) = refl
  small_longer true (Some (Link g)) = refl
  small_longer true (Some Other) = refl
  small_longer true None = refl

  pub appended_formed : IsImage (appended p more t)
  appended_formed = record {
    paths = λ q some. formed.paths q (sym (some_longer (same_path p q) (t.look q)) ∙ some);
    modes = λ q. small_longer (same_path p q) (t.look q) ∙ formed.modes q;
    below_dirs = λ a q c s. ap (λ (x : Bool). x || is_dir ((appended p more t).look a)) (none_longer (same_path p q) (t.look q)) ∙ ap (λ (x : Bool). is_none (t.look q) || x) (dir_longer (same_path p a) (t.look a)) ∙ formed.below_dirs a q c s;
    files = λ a b h. (file_longer (same_path p a) (t.look a) ∙ (formed.files a b h).0, alike_longer a b h (same_path p a) refl (same_path p b) refl);
    self = λ a h. formed.self a (sym (file_longer (same_path p a) (t.look a)) ∙ h);
    sym = formed.sym;
    trans = formed.trans;
  }

module _ (p : List ℕ) (t : Image) (formed : IsImage t) where
  none_marked : (n : Bool) (x : Option Entry) → is_none (cond n (with_mark x) x) ≡ is_none x
  none_marked false x = refl
  none_marked true (Some (Dir o f)) = refl
  none_marked true (Some (File o b)) = refl
  none_marked true (Some (Link g)) = refl
  none_marked true (Some Other) = refl
  none_marked true None = refl

  some_marked : (n : Bool) (x : Option Entry) → is_some (cond n (with_mark x) x) ≡ is_some x
  some_marked false x = refl
  some_marked true (Some (Dir o f)) = refl
  some_marked true (Some (File o b)) = refl
  some_marked true (Some (Link g)) = refl
  some_marked true (Some Other) = refl
  some_marked true None = refl

  dir_marked : (n : Bool) (x : Option Entry) → is_dir (cond n (with_mark x) x) ≡ is_dir x
  dir_marked false x = refl
  dir_marked true (Some (Dir o f)) = refl
  dir_marked true (Some (File o b)) = refl
  dir_marked true (Some (Link g)) = refl
  dir_marked true (Some Other) = refl
  dir_marked true None = refl

  small_marked : (n : Bool) (x : Option Entry) → has_small_mode (cond n (with_mark x) x) ≡ has_small_mode x
  small_marked false x = refl
  small_marked true (Some (Dir o f)) = refl
  small_marked true (Some (File o b)) = refl
  small_marked true (Some (Link g)) = refl
  small_marked true (Some Other) = refl
  small_marked true None = refl

  -- a file has no mark
  file_unmarked : (n : Bool) (x : Option Entry) → is_file x ≡ true → cond n (with_mark x) x ≡ x
  file_unmarked false x h = refl
  file_unmarked true (Some (Dir o f)) h = cc
  file_unmarked true (Some (File o b)) h = refl
  file_unmarked true (Some (Link g)) h = cc
  file_unmarked true (Some Other) h = cc
  file_unmarked true None h = cc

  file_marked : (n : Bool) (x : Option Entry) → is_file (cond n (with_mark x) x) ≡ is_file x
  file_marked false x = refl
  file_marked true (Some (Dir o f)) = refl
  file_marked true (Some (File o b)) = refl
  file_marked true (Some (Link g)) = refl
  file_marked true (Some Other) = refl
  file_marked true None = refl

  marked_files : (a b : List ℕ) → t.same a b ≡ true → (is_file ((marked p t).look a) ≡ true) × ((marked p t).look a ≡ (marked p t).look b)
  marked_files a b h =
      let both = formed.files a b h in
      let other : is_file (t.look b) ≡ true = ap is_file (sym both.1) ∙ both.0 in
      (file_marked (same_path p a) (t.look a) ∙ both.0, file_unmarked (same_path p a) (t.look a) both.0 ∙ both.1 ∙ sym (file_unmarked (same_path p b) (t.look b) other))

  pub marked_formed : IsImage (marked p t)
  marked_formed = record {
    paths = λ q some. formed.paths q (sym (some_marked (same_path p q) (t.look q)) ∙ some);
    modes = λ q. small_marked (same_path p q) (t.look q) ∙ formed.modes q;
    below_dirs = λ a q c s. ap (λ (x : Bool). x || is_dir ((marked p t).look a)) (none_marked (same_path p q) (t.look q)) ∙ ap (λ (x : Bool). is_none (t.look q) || x) (dir_marked (same_path p a) (t.look a)) ∙ formed.below_dirs a q c s;
    files = marked_files;
    self = λ a h. formed.self a (sym (file_marked (same_path p a) (t.look a)) ∙ h);
    sym = formed.sym;
    trans = formed.trans;
  }
