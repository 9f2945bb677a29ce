-- What is laid by a name is what the steps mean: away from the stage, steps that are laid with contents that have no further
-- names leave what they say with these contents.
use Rattle.std.proofs.Common.{◌≡◌, ◌⊎◌, inl, inr, ⊎_elim, ℕ, ◌+◌, ◌^◌, ◌<◌, ◌≤◌, Bool, true, false, cond, not, ◌&&◌, ◌||◌, ◌==◌, List, [], ◌∷◌, length, Option, Some, None, is_some, is_none, refl, sym, ◌∙◌, ap, subst, arith}
use Rattle.std.proofs.lemmas.Bool.{and_parts, and_from, or_from, eqb-true, false_from_ne_true, not_from_false}
use Rattle.ips_text.specs.Ancestry.{same_path, covers, is_below, parent}
use Rattle.ips_outside.specs.Image.{Entry, Dir, File, Link, Other, Image, IsImage, Agrees, is_dir, is_file, file_bytes, with_mode, has_parent, dir_or_none}
use Rattle.ips_outside.specs.Change.{with_entry_at, joined, moded, names}
use Rattle.ips_outside.specs.State.{nowhere}
use Rattle.ips_steps.specs.Steps.{Step, Gone, Fresh, Mode, Put, Symlink, Hard, Stage, stage_name, stage_path, stage_of, content_bytes, laid, all_laid, can_lay, possible, clear_of, after, feasible}
use Rattle.ips_steps.specs.Private.{is_private, visible}
use Rattle.ips_steps.specs.Journal.{IsJournal, may_name, step_allowed, allowed, numbered}
use Rattle.ips_text.proofs.Ancestry.{same_path-true, same_path-self, covers-self, uncovered, same_covers, parent_covers}
use Rattle.ips_outside.proofs.Images.{HasNodes, joined_nodes, moded_file, moded_nodes}
use Rattle.ips_outside.proofs.Moments.{agrees_less, agrees_self}
use Rattle.ips_steps.proofs.Apart.{all_fewer, can_alike, step_alike}
use Rattle.ips_steps.proofs.Laying.{laid_nodes}
use Rattle.ips_steps.proofs.Linked.{feasible_from}
use Rattle.ips_steps.proofs.Lists.{clash}
use Rattle.ips_steps.proofs.Numbered.{contents_apart, content_parent, content_covered}
use Rattle.ips_steps.proofs.PrivateNames.{all_clear, content_unnamed, file_bytes-mode, private_below, seen_of, stage_private, stage_unnamed, visible_agrees}

-- ---- what is in the stage

-- The contents from this number on stand as they are to be, and none of them has a further name.
record IsStocked (stage : Stage) (from : ℕ) (c : Image) : Type 0 where
  bytes : (n : ℕ) → from ≤ n → file_bytes (c.look (stage_path n)) ≡ stage n
  dir : (n : ℕ) → is_file (c.look (stage_path n)) ≡ true → is_dir (c.look stage_name) ≡ true
  alone : (n : ℕ) (q : List ℕ) → from ≤ n → n < 2 ^ 64 → c.same (stage_path n) q ≡ true → q ≡ stage_path n
  alone_back : (n : ℕ) (q : List ℕ) → from ≤ n → n < 2 ^ 64 → c.same q (stage_path n) ≡ true → q ≡ stage_path n

pub bytes_file : (e : Option Entry) → is_some (file_bytes e) ≡ true → is_file e ≡ true
bytes_file (Some (Dir m f)) is = cc
bytes_file (Some (File m b)) is = refl
bytes_file (Some (Link g)) is = cc
bytes_file (Some Other) is = cc
bytes_file None is = cc

-- the file of these bytes with a mode
file_of : (m : ℕ) (e : Option Entry) → is_file e ≡ true → with_mode m e ≡ Some (File m (content_bytes (file_bytes e)))
file_of m (Some (Dir o f)) is = cc
file_of m (Some (File o b)) is = refl
file_of m (Some (Link g)) is = cc
file_of m (Some Other) is = cc
file_of m None is = cc

dir_mode : (b : Bool) (m : ℕ) (e : Option Entry) → is_dir (cond b (with_mode m e) e) ≡ is_dir e
dir_mode true m (Some (Dir o f)) = refl
dir_mode true m (Some (File o b)) = refl
dir_mode true m (Some (Link g)) = refl
dir_mode true m (Some Other) = refl
dir_mode true m None = refl
dir_mode false m e = refl

bytes_mode : (b : Bool) (m : ℕ) (e : Option Entry) → file_bytes (cond b (with_mode m e) e) ≡ file_bytes e
bytes_mode true m e = file_bytes-mode m e
bytes_mode false m e = refl

-- the same at the next number
stocked_next : (stage : Stage) (from : ℕ) (c : Image) → IsStocked stage from c → IsStocked stage (from + 1) c
stocked_next stage from c s = record {
  bytes = λ n le. s.bytes n (omega (arith, le));
  dir = s.dir;
  alone = λ n q le lt h. s.alone n q (omega (arith, le)) lt h;
  alone_back = λ n q le lt h. s.alone_back n q (omega (arith, le)) lt h;
}

-- ---- a change at a path that isn't in the stage nor above it keeps the stage

kept_at : {A : Type 0} (p q : List ℕ) (e n x : A) → covers p q ≡ false → cond (same_path p q) e (cond (covers p q) n x) ≡ x
kept_at p q e n x off = rw (off, uncovered p q off) refl

-- what shares a file with a path that isn't covered did so before
placed_before : (p : List ℕ) (e : Option Entry) (c : Image) (a q : List ℕ) → covers p a ≡ false → (with_entry_at p e c).same a q ≡ true → c.same a q ≡ true
placed_before p e c a q off h = go (covers p q) (sym at ∙ h)
  where
    at : (with_entry_at p e c).same a q ≡ cond (covers p q) false (c.same a q)
    at = rw (off, uncovered p a off) refl

    go : (b : Bool) → cond b false (c.same a q) ≡ true → c.same a q ≡ true
    go true h = cc
    go false h = h

placed_behind : (p : List ℕ) (e : Option Entry) (c : Image) (a q : List ℕ) → covers p a ≡ false → (with_entry_at p e c).same q a ≡ true → c.same q a ≡ true
placed_behind p e c a q off h = go (covers p q) (same_path p q) (sym at ∙ h)
  where
    at : (with_entry_at p e c).same q a ≡ cond (covers p q || false) (same_path p q && (false && is_file e)) (c.same q a)
    at = rw (off, uncovered p a off) refl

    go : (b s : Bool) → cond (b || false) (s && (false && is_file e)) (c.same q a) ≡ true → c.same q a ≡ true
    go true true h = cc
    go true false h = cc
    go false s h = h

placed_stocked : (stage : Stage) (from : ℕ) (p : List ℕ) (e : Option Entry) (c : Image) → may_name p ≡ true → IsStocked stage from c → IsStocked stage from (with_entry_at p e c)
placed_stocked stage from p e c may s = record {
  bytes = λ n le. ap file_bytes (kept_at p (stage_path n) e None (c.look (stage_path n)) (content_unnamed n p may)) ∙ s.bytes n le;
  dir = λ n is. ap is_dir (kept_at p stage_name e None (c.look stage_name) (stage_unnamed p may))
      ∙ s.dir n (ap is_file (sym (kept_at p (stage_path n) e None (c.look (stage_path n)) (content_unnamed n p may))) ∙ is);
  alone = λ n q le lt h. s.alone n q le lt (placed_before p e c (stage_path n) q (content_unnamed n p may) h);
  alone_back = λ n q le lt h. s.alone_back n q le lt (placed_behind p e c (stage_path n) q (content_unnamed n p may) h);
}

moded_stocked : (stage : Stage) (from m : ℕ) (p : List ℕ) (c : Image) → IsStocked stage from c → IsStocked stage from (moded m p c)
moded_stocked stage from m p c s = record {
  bytes = λ n le. bytes_mode (names c p (stage_path n)) m (c.look (stage_path n)) ∙ s.bytes n le;
  dir = λ n is. dir_mode (names c p stage_name) m (c.look stage_name) ∙ s.dir n (sym (moded_file (names c p (stage_path n)) m (c.look (stage_path n))) ∙ is);
  alone = s.alone;
  alone_back = s.alone_back;
}

joined_before : (p to : List ℕ) (c : Image) (a q : List ℕ) → covers p a ≡ false → (joined p to c).same a q ≡ true → (c.same a to ≡ true) ⊎ (c.same a q ≡ true)
joined_before p to c a q off h = go (is_below p q) (same_path p q) (sym at ∙ h)
  where
    at : (joined p to c).same a q ≡ cond (is_below p q) false (c.same a (cond (same_path p q) to q))
    at = rw (off, uncovered p a off) refl

    go : (b s : Bool) → cond b false (c.same a (cond s to q)) ≡ true → (c.same a to ≡ true) ⊎ (c.same a q ≡ true)
    go true s h = cc
    go false true h = inl h
    go false false h = inr h

joined_behind : (p to : List ℕ) (c : Image) (a q : List ℕ) → covers p a ≡ false → (joined p to c).same q a ≡ true → (c.same to a ≡ true) ⊎ (c.same q a ≡ true)
joined_behind p to c a q off h = go (is_below p q) (same_path p q) (sym at ∙ h)
  where
    at : (joined p to c).same q a ≡ cond (is_below p q || false) false (c.same (cond (same_path p q) to q) a)
    at = rw (off, uncovered p a off) refl

    go : (b s : Bool) → cond (b || false) false (c.same (cond s to q) a) ≡ true → (c.same to a ≡ true) ⊎ (c.same q a ≡ true)
    go true s h = cc
    go false true h = inl h
    go false false h = inr h

-- a further name of a file that is none of these contents
joined_stocked : (stage : Stage) (from : ℕ) (p to : List ℕ) (c : Image) → may_name p ≡ true → ((n : ℕ) → from ≤ n → n < 2 ^ 64 → to ≡ stage_path n → ⊥)
    → IsStocked stage from c → IsStocked stage from (joined p to c)
joined_stocked stage from p to c may other s = record {
  bytes = λ n le. ap file_bytes (kept_at p (stage_path n) (c.look to) None (c.look (stage_path n)) (content_unnamed n p may)) ∙ s.bytes n le;
  dir = λ n is. ap is_dir (kept_at p stage_name (c.look to) None (c.look stage_name) (stage_unnamed p may))
      ∙ s.dir n (ap is_file (sym (kept_at p (stage_path n) (c.look to) None (c.look (stage_path n)) (content_unnamed n p may))) ∙ is);
  alone = λ n q le lt h. ⊎_elim (λ t. absurd (other n le lt (s.alone n to le lt t))) (λ t. s.alone n q le lt t) (joined_before p to c (stage_path n) q (content_unnamed n p may) h);
  alone_back = λ n q le lt h. ⊎_elim (λ t. absurd (other n le lt (s.alone_back n to le lt t))) (λ t. s.alone_back n q le lt t) (joined_behind p to c (stage_path n) q (content_unnamed n p may) h);
}

-- ---- a put

abbrev in_stage : List ℕ → Bool
in_stage q = covers stage_name q

not_staged : (q : List ℕ) → is_private q ≡ false → in_stage q ≡ false
not_staged q seen = false_from_ne_true _ (λ c. clash (is_private q) (stage_private q c) seen)

-- a path that isn't in the stage is no content's
no_content : (n : ℕ) (q : List ℕ) → in_stage q ≡ false → q ≡ stage_path n → ⊥
no_content n q off is = clash (in_stage q) (ap in_stage is ∙ content_covered n) off

not_named : (n : ℕ) (q : List ℕ) → in_stage q ≡ false → same_path (stage_path n) q ≡ false
not_named n q off = false_from_ne_true _ (λ same. no_content n q off (sym (same_path-true (stage_path n) q same)))

module _ (stage : Stage) (n m : ℕ) (p : List ℕ) (a c : Image) (lt : n < 2 ^ 64) (may : may_name p ≡ true) (nodes : HasNodes c) (s : IsStocked stage n c) (there : is_some (stage n) ≡ true)
    (h : Agrees in_stage nowhere a c) where
  abbrev content : List ℕ
  content = stage_path n

  abbrev ready : Image
  ready = moded m content c

  is_there : is_file (c.look content) ≡ true
  is_there = bytes_file (c.look content) (ap is_some (s.bytes n (omega arith)) ∙ there)

  its_file : ready.look content ≡ Some (File m (content_bytes (stage n)))
  its_file = rw (same_path-self content) (file_of m (c.look content) is_there ∙ ap (λ (b : Option (List ℕ)). Some (File m (content_bytes b))) (s.bytes n (omega arith)))

  -- no other path has its mode set
  none_named : (q : List ℕ) → in_stage q ≡ false → names c content q ≡ false
  none_named q off = or_from _ _ (not_named n q off) (false_from_ne_true _ (λ same. no_content n q off (s.alone n q (omega arith) lt same)))

  ready_look : (q : List ℕ) → in_stage q ≡ false → ready.look q ≡ a.look q
  ready_look q off = rw (none_named q off) (h.look q off refl)

  put_look : (q : List ℕ) → in_stage q ≡ false → (joined p content ready).look q ≡ (with_entry_at p (Some (File m (content_bytes (stage n)))) a).look q
  put_look q off = ap (λ (e : Option Entry). cond (same_path p q) e (cond (covers p q) None (ready.look q))) its_file
      ∙ ap (λ (e : Option Entry). cond (same_path p q) (Some (File m (content_bytes (stage n)))) (cond (covers p q) None e)) (ready_look q off)

  put_two : (sx cx sy cy : Bool) (x y : List ℕ) → (sx ≡ true → cx ≡ true) → (sy ≡ true → cy ≡ true) → in_stage x ≡ false → in_stage y ≡ false
      → cond ((cx && not sx) || (cy && not sy)) false (c.same (cond sx content x) (cond sy content y)) ≡ cond (cx || cy) (sx && (sy && true)) (a.same x y)
  put_two true true true true x y hx hy ox oy = nodes.self content is_there
  put_two true true true false x y hx hy ox oy = absurd (let bad = hy refl in cc)
  put_two true true false true x y hx hy ox oy = refl
  put_two true true false false x y hx hy ox oy = false_from_ne_true _ (λ same. no_content n y oy (s.alone n y (omega arith) lt same))
  put_two true false sy cy x y hx hy ox oy = absurd (let bad = hx refl in cc)
  put_two false true sy cy x y hx hy ox oy = refl
  put_two false false true true x y hx hy ox oy = false_from_ne_true _ (λ same. no_content n x ox (s.alone_back n x (omega arith) lt same))
  put_two false false true false x y hx hy ox oy = absurd (let bad = hy refl in cc)
  put_two false false false true x y hx hy ox oy = refl
  put_two false false false false x y hx hy ox oy = h.same x y ox oy

  put_agrees : Agrees in_stage nowhere (with_entry_at p (Some (File m (content_bytes (stage n)))) a) (joined p content ready)
  put_agrees = record {
    look = λ q off l. put_look q off;
    but_mode = λ q off. ap (with_mode 0) (put_look q off);
    same = λ x y ox oy. put_two (same_path p x) (covers p x) (same_path p y) (covers p y) x y (same_covers p x) (same_covers p y) ox oy;
  }

  parent_agrees : (o : Option (List ℕ)) → parent p ≡ o → dir_or_none a o ≡ true → dir_or_none ready o ≡ true
  parent_agrees (Some q) is dir = ap is_dir (ready_look q (not_staged q (false_from_ne_true _ (λ own. clash (is_private p) (private_below q p own (parent_covers p q is)) (seen_of p may))))) ∙ dir
  parent_agrees None is dir = refl

  put_feasible : has_parent a p ≡ true → feasible (Put n m p ∷ []) c ≡ true
  put_feasible above =
      let folder : has_parent c content ≡ true = ap (dir_or_none c) (content_parent n) ∙ s.dir n is_there in
      let file : is_file (ready.look content) ≡ true = ap is_file its_file in
      and_from _ _ folder (and_from _ _ (and_from _ _ (parent_agrees (parent p) refl above) (and_from _ _ (not_from_false _ (content_unnamed n p may)) file)) refl)

  put_stocked : IsStocked stage (n + 1) (joined p content ready)
  put_stocked = joined_stocked stage (n + 1) p content ready may
      (λ k le less same. clash (covers content content) (covers-self content)
      (ap (covers content) same ∙ contents_apart n k lt less (λ e. omega (arith, le, e))))
      (stocked_next stage n ready (moded_stocked stage n m content c s))

-- ---- another step

clear_of_stage : (s : Step) → step_allowed s ≡ true → clear_of in_stage s ≡ true
clear_of_stage s may =
    let one : allowed (s ∷ []) ≡ true = and_from _ _ may refl in
    (and_parts (clear_of in_stage s) true (all_fewer in_stage is_private not_staged (s ∷ []) (all_clear (s ∷ []) one))).0

-- ---- all steps

by_name : (stage : Stage) (from : ℕ) (steps : List Step) (a c : Image) → from + length steps ≤ 2 ^ 64 → allowed steps ≡ true → numbered from steps ≡ true → possible stage steps a ≡ true
    → HasNodes c → IsStocked stage from c → Agrees in_stage nowhere a c → (feasible steps c ≡ true) × Agrees in_stage nowhere (all_laid stage steps a) (after steps c)
by_name stage from [] a c few may num po nodes s h = (refl, h)
by_name stage from (Gone p ∷ rest) a c few may num po nodes s h =
    let mays = and_parts (may_name p) (allowed rest) may in
    by_name stage from rest (laid stage (Gone p) a) (laid stage (Gone p) c) (omega (arith, few)) mays.1 num po
    (laid_nodes stage (Gone p) c nodes) (placed_stocked stage from p None c mays.0 s) (step_alike in_stage stage (Gone p) a c refl h)
by_name stage from (Fresh m p ∷ rest) a c few may num po nodes s h =
    let mays = and_parts (may_name p) (allowed rest) may in
    let cans = and_parts (has_parent a p) _ po in
    let cl = clear_of_stage (Fresh m p) mays.0 in
    let later = by_name stage from rest (laid stage (Fresh m p) a) (laid stage (Fresh m p) c) (omega (arith, few)) mays.1 num cans.1
    (laid_nodes stage (Fresh m p) c nodes) (placed_stocked stage from p _ c mays.0 s) (step_alike in_stage stage (Fresh m p) a c cl h) in
    (and_from _ _ (can_alike in_stage stage (Fresh m p) a c cl h ∙ cans.0) later.0, later.1)
by_name stage from (Mode m p ∷ rest) a c few may num po nodes s h =
    let mays = and_parts (step_allowed (Mode m p)) (allowed rest) may in
    let cans = and_parts (has_parent a p) _ po in
    let cl = clear_of_stage (Mode m p) mays.0 in
    let later = by_name stage from rest (laid stage (Mode m p) a) (laid stage (Mode m p) c) (omega (arith, few)) mays.1 num cans.1
    (laid_nodes stage (Mode m p) c nodes) (moded_stocked stage from m p c s) (step_alike in_stage stage (Mode m p) a c cl h) in
    (and_from _ _ (can_alike in_stage stage (Mode m p) a c cl h ∙ cans.0) later.0, later.1)
by_name stage from (Symlink p target ∷ rest) a c few may num po nodes s h =
    let mays = and_parts (may_name p) (allowed rest) may in
    let cans = and_parts (has_parent a p) _ po in
    let cl = clear_of_stage (Symlink p target) mays.0 in
    let later = by_name stage from rest (laid stage (Symlink p target) a) (laid stage (Symlink p target) c) (omega (arith, few)) mays.1 num cans.1
    (laid_nodes stage (Symlink p target) c nodes) (placed_stocked stage from p _ c mays.0 s) (step_alike in_stage stage (Symlink p target) a c cl h) in
    (and_from _ _ (can_alike in_stage stage (Symlink p target) a c cl h ∙ cans.0) later.0, later.1)
by_name stage from (Hard p to ∷ rest) a c few may num po nodes s h =
    let mays = and_parts (step_allowed (Hard p to)) (allowed rest) may in
    let both = and_parts (may_name p) (may_name to) mays.0 in
    let cans = and_parts (can_lay stage (Hard p to) a) _ po in
    let cl = clear_of_stage (Hard p to) mays.0 in
    let later = by_name stage from rest (laid stage (Hard p to) a) (laid stage (Hard p to) c) (omega (arith, few)) mays.1 num cans.1
    (laid_nodes stage (Hard p to) c nodes)
    (joined_stocked stage from p to c both.0 (λ n le lt is. no_content n to (not_staged to (seen_of to both.1)) is) s)
    (step_alike in_stage stage (Hard p to) a c cl h) in
    (and_from _ _ (can_alike in_stage stage (Hard p to) a c cl h ∙ cans.0) later.0, later.1)
by_name stage from (Put k m p ∷ rest) a c few may num po nodes s h =
    let mays = and_parts (may_name p) (allowed rest) may in
    let nums = and_parts (k == from) (numbered (from + 1) rest) num in
    let cans = and_parts (has_parent a p && is_some (stage k)) _ po in
    let here = and_parts (has_parent a p) (is_some (stage k)) cans.0 in
    let same : from ≡ k = sym (eqb-true k from nums.0) in
    let at : IsStocked stage k c = subst (λ (n : ℕ). IsStocked stage n c) same s in
    let lt : k < 2 ^ 64 = omega (arith, few, same) in
    let later = by_name stage (k + 1) rest (laid stage (Put k m p) a) (after (Put k m p ∷ []) c) (omega (arith, few, same)) mays.1
    (subst (λ (n : ℕ). numbered (n + 1) rest ≡ true) same nums.1) cans.1
    (joined_nodes p (stage_path k) (moded m (stage_path k) c) (moded_nodes m (stage_path k) c nodes))
    (put_stocked stage k m p a c lt mays.0 nodes at here.1 h) (put_agrees stage k m p a c lt mays.0 nodes at here.1 h) in
    (feasible_from (Put k m p) rest c (put_feasible stage k m p a c lt mays.0 nodes at here.1 h here.0) later.0, later.1)

pub apart_names : (n : ℕ) → same_path stage_name (stage_path n) ≡ false
unfolding stage_name
apart_names n = refl

pub means_the_steps : (steps : List Step) (t : Image) → IsImage t → IsJournal steps → possible (stage_of t) steps t ≡ true
    → ((n : ℕ) (q : List ℕ) → n < 2 ^ 64 → t.same (stage_path n) q ≡ true → q ≡ stage_path n)
    → (feasible steps t ≡ true) × (visible (after steps t) ≡ visible (all_laid (stage_of t) steps t))
means_the_steps steps t formed lists po alone =
    let stocked : IsStocked (stage_of t) 0 t = record {
      bytes = λ n le. refl;
      dir = λ n is. folder n is;
      alone = λ n q le lt h. alone n q lt h;
      alone_back = λ n q le lt h. alone n q lt (formed.sym (stage_path n) q ∙ h);
    } in
    let both = by_name (stage_of t) 0 steps t t (omega (arith, lists.count)) lists.names lists.numbers po (record { self = formed.self }) stocked (agrees_self in_stage nowhere t) in
    (both.0, visible_agrees _ _ (agrees_less in_stage nowhere is_private nowhere _ _ not_staged (λ q l. l) both.1))
  where
    absent_or : (n : ℕ) (e : Option Entry) (d : Bool) → is_file e ≡ true → (is_none e || d) ≡ true → d ≡ true
    absent_or n (Some x) d is h = h
    absent_or n None d is h = cc

    folder : (n : ℕ) → is_file (t.look (stage_path n)) ≡ true → is_dir (t.look stage_name) ≡ true
    folder n is = absent_or n (t.look (stage_path n)) (is_dir (t.look stage_name)) is (formed.below_dirs stage_name (stage_path n) (content_covered n) (apart_names n))
