-- A sound list without two steps at a path leaves its outcome.
use Rattle.std.proofs.Common.{◌≡◌, ℕ, Bool, true, false, cond, not, ◌&&◌, ◌||◌, List, [], ◌∷◌, Option, Some, None, refl, sym, ◌∙◌, ap}
use Rattle.std.proofs.lemmas.Bool.{and_parts, and_from, and_right, or_from, not-true, false_from_ne_true}
use Rattle.ips_text.specs.Ancestry.{same_path, covers, parent}
use Rattle.ips_outside.specs.Image.{Entry, Dir, File, Link, Image, is_file, with_mode, has_parent, dir_or_none}
use Rattle.ips_outside.specs.Change.{with_entry_at, joined, moded, names}
use Rattle.ips_steps.specs.Steps.{Step, Gone, Fresh, Mode, Put, Symlink, Hard, Stage, content_bytes, laid, all_laid, can_lay, possible, frees, freed, at_parent, parent_freed, sound_before, sound, path_of, named, distinct}
use Rattle.ips_steps.specs.Outcome.{source, made, with_modes, bare, bare_same, outcome, all_fit}
use Rattle.ips_text.proofs.Ancestry.{same_path-true, uncovered, covers-parent, same_covers}
use Rattle.ips_outside.proofs.Agree.{is_dir-alike, is_file-alike}
use Rattle.ips_outside.proofs.Images.{HasNodes, image_ext}
use Rattle.ips_steps.proofs.Laying.{laid_nodes}
use Rattle.ips_steps.proofs.Lists.{clash, same_path-sym, not_freed, made_unnamed, made_kept, source_kept, modes_alike, modes_still, modes_none, modes_but}

-- another path than one that no later step names
other : (rest : List Step) (p x : List ℕ) → named rest p ≡ false → named rest x ≡ true → same_path p x ≡ false
other rest p x off on = false_from_ne_true _ (λ s. clash (named rest x) on (ap (named rest) (sym (same_path-true p x s)) ∙ off))

pub flip : (p x : List ℕ) → same_path p x ≡ false → same_path x p ≡ false
flip p x off = false_from_ne_true _ (λ s. clash _ (same_path-sym x p s) off)

module _ (stage : Stage) (p : List ℕ) (e : Option Entry) (t : Image) (rest : List Step) (new : named rest p ≡ false) (settled : freed rest p ≡ true → e ≡ None) where
  abbrev wide : List ℕ → Bool
  wide q = covers p q || freed rest q

  unmet : (sx sp cx cr sr f y : Bool) → cr ≡ true → sx ≡ false → sp ≡ false → (sx || cond (cx || cr) (sp && (sr && f)) y) ≡ false
  unmet sx sp true cr sr f y e1 e2 e3 = rw (e2, e3) refl
  unmet sx sp false cr sr f y e1 e2 e3 = rw (e1, e2, e3) refl

  met : (fx cx cr sp sr sx f y : Bool) → cr ≡ false → (sx ≡ true → cx ≡ true → cr ≡ true) → (sp ≡ true → cx ≡ true) → (sr ≡ false)
      → (not fx && (sx || cond (cx || cr) (sp && (sr && f)) y)) ≡ (not (cx || fx) && (sx || y))
  met true true cr sp sr sx f y e1 e2 e3 e4 = refl
  met true false cr sp sr sx f y e1 e2 e3 e4 = refl
  met false true cr true sr true f y e1 e2 e3 e4 = clash cr (e2 refl refl) e1
  met false true cr true sr false f y e1 e2 e3 e4 = rw e4 refl
  met false true cr false sr true f y e1 e2 e3 e4 = clash cr (e2 refl refl) e1
  met false true cr false sr false f y e1 e2 e3 e4 = refl
  met false false cr sp sr true f y e1 e2 e3 e4 = refl
  met false false cr sp sr false f y e1 e2 e3 e4 = rw e1 refl

  pub placed_look : (r : List ℕ) → bare stage rest (with_entry_at p e t) r ≡ cond (wide r) (cond (same_path p r) e (made stage rest r)) (with_modes wide rest t r (t.look r))
  placed_look r = go (freed rest r) refl (covers p r) refl (same_path p r) refl
    where
      go : (f : Bool) → freed rest r ≡ f → (c : Bool) → covers p r ≡ c → (s : Bool) → same_path p r ≡ s
          → cond f (made stage rest r) (with_modes (freed rest) rest (with_entry_at p e t) r (cond s e (cond c None (t.look r)))) ≡ cond (c || f) (cond s e (made stage rest r)) (with_modes wide rest t r (t.look r))
      go true isf true isc true iss =
          let is = same_path-true p r iss in
          ap (made stage rest) (sym is) ∙ made_unnamed stage rest p new ∙ sym (settled (ap (freed rest) is ∙ isf))
      go true isf true isc false iss = refl
      go true isf false isc true iss = clash _ (same_covers p r iss) isc
      go true isf false isc false iss = refl
      go false isf true isc true iss = modes_still (freed rest) (with_entry_at p e t) rest r e (λ x on.
          let apart = other rest p x new on in
          unmet (same_path x r) (same_path p x) (covers p x) (covers p r) (same_path p r) (is_file e) (t.same x r) isc (ap (same_path x) (sym (same_path-true p r iss)) ∙ flip p x apart) apart)
      go false isf true isc false iss = modes_none (freed rest) (with_entry_at p e t) rest r ∙ sym (made_kept stage rest r isf)
      go false isf false isc true iss = clash _ (same_covers p r iss) isc
      go false isf false isc false iss = modes_alike (freed rest) wide (with_entry_at p e t) t rest r r (t.look r) (λ x on.
          met (freed rest x) (covers p x) (covers p r) (same_path p x) (same_path p r) (same_path x r) (is_file e) (t.same x r) isc (λ s c. ap (covers p) (sym (same_path-true x r s)) ∙ c) (same_covers p x) iss)

  table : (fa fb ca cb sa sb x y : Bool) (m : Option Entry) → (fa ≡ false → m ≡ None) → (sa ≡ true → m ≡ None) → (sa ≡ true → fa ≡ true → e ≡ None) → (sa ≡ true → x ≡ sb) → (x ≡ true → fa ≡ fb)
      → cond (fa || fb) (x && is_file m) (cond (ca || cb) (sa && (sb && is_file e)) y) ≡ cond ((ca || fa) || (cb || fb)) (x && is_file (cond sa e m)) y
  table true fb ca cb true sb x y m h1 h2 h3 h4 h5 = side ca
    where
      side : (ca : Bool) → (x && is_file m) ≡ cond ((ca || true) || (cb || fb)) (x && is_file e) y
      side true = rw (h2 refl, h3 refl refl) refl
      side false = rw (h2 refl, h3 refl refl) refl
  table true fb true cb false sb x y m h1 h2 h3 h4 h5 = refl
  table true fb false cb false sb x y m h1 h2 h3 h4 h5 = refl
  table false true ca cb sa sb true y m h1 h2 h3 h4 h5 = absurd (let bad = h5 refl in cc)
  table false true true cb sa sb false y m h1 h2 h3 h4 h5 = refl
  table false true false true sa sb false y m h1 h2 h3 h4 h5 = refl
  table false true false false sa sb false y m h1 h2 h3 h4 h5 = refl
  table false false false false sa sb x y m h1 h2 h3 h4 h5 = refl
  table false false true cb true sb x y m h1 h2 h3 h4 h5 = rw (h4 refl) refl
  table false false true cb false sb x y m h1 h2 h3 h4 h5 = rw (h1 refl) (sym (and_right x false refl))
  table false false false true true sb x y m h1 h2 h3 h4 h5 = rw (h4 refl) refl
  table false false false true false sb x y m h1 h2 h3 h4 h5 = rw (h1 refl) (sym (and_right x false refl))

  pub placed_same : (a b : List ℕ) → bare_same stage rest (with_entry_at p e t) a b ≡ cond (wide a || wide b) (same_path a b && is_file (cond (same_path p a) e (made stage rest a))) (t.same a b)
  placed_same a b = table (freed rest a) (freed rest b) (covers p a) (covers p b) (same_path p a) (same_path p b) (same_path a b) (t.same a b) (made stage rest a)
      (made_kept stage rest a)
      (λ s. ap (made stage rest) (sym (same_path-true p a s)) ∙ made_unnamed stage rest p new)
      (λ s f. settled (ap (freed rest) (same_path-true p a s) ∙ f))
      (λ s. ap (λ (x : List ℕ). same_path x b) (sym (same_path-true p a s)))
      (λ s. ap (freed rest) (same_path-true a b s))

module _ (stage : Stage) (p to : List ℕ) (t : Image) (rest : List Step) (new : named rest p ≡ false) (here : freed rest p ≡ false) (clear : freed rest to ≡ false) (off : covers p to ≡ false)
    (own : t.same to to ≡ true) where
  abbrev freer : List ℕ → Bool
  freer q = covers p q || freed rest q

  abbrev turned : List ℕ → List ℕ
  turned r = cond (same_path p r) to r

  abbrev bare_next : List ℕ → Option Entry
  bare_next x = cond (freer x) (made stage rest x) (with_modes freer rest t x (t.look x))

  abbrev same_next : List ℕ → List ℕ → Bool
  same_next a b = cond (freer a || freer b) (same_path a b && is_file (made stage rest a)) (t.same a b)

  -- a mode meets the new name exactly where it meets the target
  met_new : (fx cx sx so y z : Bool) → sx ≡ false → (so ≡ true → z ≡ true) → y ≡ z → (not fx && (sx || cond ((cx && not false) || false) false y)) ≡ (not (cx || fx) && (so || z))
  met_new true true sx so y z e1 e2 e3 = refl
  met_new true false sx so y z e1 e2 e3 = refl
  met_new false true sx so y z e1 e2 e3 = rw e1 refl
  met_new false false sx true y z e1 e2 e3 = rw (e1, e3) (e2 refl)
  met_new false false sx false y z e1 e2 e3 = rw (e1, e3) refl

  -- and another path as before
  met_old : (fx cx sx y : Bool) → (sx ≡ true → cx ≡ false) → (not fx && (sx || cond ((cx && not false) || (false && not false)) false y)) ≡ (not (cx || fx) && (sx || y))
  met_old true true sx y e = refl
  met_old true false sx y e = refl
  met_old false true true y e = absurd (let bad = e refl in cc)
  met_old false true false y e = refl
  met_old false false sx y e = refl

  strict : (x : List ℕ) → named rest x ≡ true → same_path p x ≡ false
  strict x on = other rest p x new on

  names_new : (r x : List ℕ) → same_path p r ≡ true → covers p r ≡ true → named rest x ≡ true → (not (freed rest x) && names (joined p to t) x r) ≡ (not (freer x) && names t x to)
  names_new r x iss isc on =
      let apart = strict x on in
      let sx : same_path x r ≡ false = ap (same_path x) (sym (same_path-true p r iss)) ∙ flip p x apart in
      let to_own : same_path x to ≡ true → t.same x to ≡ true = λ s. ap (λ (y : List ℕ). t.same y to) (same_path-true x to s) ∙ own in
      rw (apart, iss, isc) (met_new (freed rest x) (covers p x) (same_path x r) (same_path x to) (t.same x to) (t.same x to) sx to_own refl)

  names_old : (r x : List ℕ) → covers p r ≡ false → named rest x ≡ true → (not (freed rest x) && names (joined p to t) x r) ≡ (not (freer x) && names t x r)
  names_old r x isc on =
      let apart = strict x on in
      let no : same_path x r ≡ true → covers p x ≡ false = λ s. ap (covers p) (same_path-true x r s) ∙ isc in
      rw (apart, uncovered p r isc, isc) (met_old (freed rest x) (covers p x) (same_path x r) (t.same x r) no)

  pub joined_look : (r : List ℕ) → bare stage rest (joined p to t) r ≡ bare_next (turned r)
  joined_look r = go (freed rest r) refl (covers p r) refl (same_path p r) refl
    where
      go : (f : Bool) → freed rest r ≡ f → (c : Bool) → covers p r ≡ c → (s : Bool) → same_path p r ≡ s
          → cond f (made stage rest r) (with_modes (freed rest) rest (joined p to t) r (cond s (t.look to) (cond c None (t.look r)))) ≡ bare_next (cond s to r)
      go f isf false isc true iss = clash _ (same_covers p r iss) isc
      go true isf true isc true iss = clash _ (ap (freed rest) (same_path-true p r iss) ∙ isf) here
      go false isf true isc true iss = rw (off, clear) (modes_alike (freed rest) freer (joined p to t) t rest r to (t.look to) (λ x on. names_new r x iss isc on))
      go true isf true isc false iss = rw (isf, isc) refl
      go true isf false isc false iss = rw (isf, isc) refl
      go false isf true isc false iss = rw (isf, isc) (modes_none (freed rest) (joined p to t) rest r ∙ sym (made_kept stage rest r isf))
      go false isf false isc false iss = rw (isf, isc) (modes_alike (freed rest) freer (joined p to t) t rest r r (t.look r) (λ x on. names_old r x isc on))

  pub joined_same : (a b : List ℕ) → bare_same stage rest (joined p to t) a b ≡ same_next (turned a) (turned b)
  joined_same a b = go (freed rest a) refl (freed rest b) refl (covers p a) refl (covers p b) refl (same_path p a) refl (same_path p b) refl
    where
      both : (x : Bool) (m : Option Entry) → m ≡ None → (x && is_file m) ≡ false
      both x m none = rw none (and_right x false refl)

      apart : (x y : List ℕ) → freed rest x ≡ true → freed rest y ≡ false → same_path x y ≡ false
      apart x y fx fy = false_from_ne_true _ (λ s. clash (freed rest x) fx (ap (freed rest) (same_path-true x y s) ∙ fy))

      go : (fa : Bool) → freed rest a ≡ fa → (fb : Bool) → freed rest b ≡ fb → (ca : Bool) → covers p a ≡ ca → (cb : Bool) → covers p b ≡ cb → (sa : Bool) → same_path p a ≡ sa → (sb : Bool) → same_path p b ≡ sb
          → cond (fa || fb) (same_path a b && is_file (made stage rest a)) (cond ((ca && not sa) || (cb && not sb)) false (t.same (cond sa to a) (cond sb to b))) ≡ same_next (cond sa to a) (cond sb to b)
      go true isfa fb isfb ca isca cb iscb true issa sb issb = clash _ (ap (freed rest) (same_path-true p a issa) ∙ isfa) here
      go fa isfa true isfb ca isca cb iscb sa issa true issb = clash _ (ap (freed rest) (same_path-true p b issb) ∙ isfb) here
      go fa isfa fb isfb false isca cb iscb true issa sb issb = clash _ (same_covers p a issa) isca
      go fa isfa fb isfb ca isca false iscb sa issa true issb = clash _ (same_covers p b issb) iscb
      go false isfa false isfb true isca true iscb true issa true issb = rw (off, clear) refl
      go false isfa true isfb true isca true iscb true issa false issb = rw (off, clear, isfb, iscb) (both _ _ (made_kept stage rest a isfa) ∙ sym (both _ _ (made_kept stage rest to clear)))
      go false isfa true isfb true isca false iscb true issa false issb = rw (off, clear, isfb, iscb) (both _ _ (made_kept stage rest a isfa) ∙ sym (both _ _ (made_kept stage rest to clear)))
      go false isfa false isfb true isca true iscb true issa false issb = rw (off, clear, isfb, iscb) (sym (both _ _ (made_kept stage rest to clear)))
      go false isfa false isfb true isca false iscb true issa false issb = rw (off, clear, isfb, iscb) refl
      go true isfa false isfb true isca true iscb false issa true issb = rw (off, clear, isfa, isca, apart a b isfa isfb, apart a to isfa clear) refl
      go true isfa false isfb false isca true iscb false issa true issb = rw (off, clear, isfa, isca, apart a b isfa isfb, apart a to isfa clear) refl
      go false isfa false isfb true isca true iscb false issa true issb = rw (off, clear, isfa, isca) (sym (both _ _ (made_kept stage rest a isfa)))
      go false isfa false isfb false isca true iscb false issa true issb = rw (off, clear, isfa, isca) refl
      go true isfa fb isfb true isca cb iscb false issa false issb = rw (isfa, isca) refl
      go true isfa fb isfb false isca cb iscb false issa false issb = rw (isfa, isca) refl
      go false isfa true isfb true isca cb iscb false issa false issb = rw (isfa, isca) refl
      go false isfa true isfb false isca true iscb false issa false issb = rw (isfa, isca, isfb, iscb) refl
      go false isfa true isfb false isca false iscb false issa false issb = rw (isfa, isca, isfb, iscb) refl
      go false isfa false isfb true isca cb iscb false issa false issb = rw (isfa, isca) (sym (both _ _ (made_kept stage rest a isfa)))
      go false isfa false isfb false isca true iscb false issa false issb = rw (isfa, isca, isfb, iscb) (sym (both _ _ (made_kept stage rest a isfa)))
      go false isfa false isfb false isca false iscb false issa false issb = rw (isfa, isca, isfb, iscb) refl

-- a hard link's target is off its own path, and a file
abbrev pub links : Step → Image → Bool
links (Gone p) t = true
links (Fresh m p) t = true
links (Mode m p) t = true
links (Put n m p) t = true
links (Symlink p target) t = true
links (Hard p to) t = not (covers p to) && is_file (t.look to)

same_none : (stage : Stage) (rest : List Step) (p r : List ℕ) → named rest p ≡ false → cond (same_path p r) None (made stage rest r) ≡ made stage rest r
same_none stage rest p r new = go (same_path p r) refl
  where
    go : (s : Bool) → same_path p r ≡ s → cond s None (made stage rest r) ≡ made stage rest r
    go true is = sym (made_unnamed stage rest p new) ∙ ap (made stage rest) (same_path-true p r is)
    go false is = refl

placed_next : (stage : Stage) (p : List ℕ) (e : Entry) (t : Image) (rest : List Step) → parent_freed rest p ≡ false → named rest p ≡ false → freed rest p ≡ true → Some e ≡ None
placed_next stage p e t rest up new f = clash _ f (not_freed rest p up new)

-- what the rest leaves after a step is what both leave
pub outcome_next : (stage : Stage) (s : Step) (rest : List Step) (t : Image) → HasNodes t → sound_before s rest ≡ true → named rest (path_of s) ≡ false → links s t ≡ true
    → outcome stage rest (laid stage s t) ≡ outcome stage (s ∷ rest) t
outcome_next stage (Gone p) rest t n so new ok = image_ext _ _
    (λ q. placed_look stage p None t rest new (λ _. refl) (source rest q) ∙ ap (λ (x : Option Entry). cond (covers p (source rest q) || freed rest (source rest q)) x (with_modes (freed (Gone p ∷ rest)) rest t (source rest q) (t.look (source rest q)))) (same_none stage rest p (source rest q) new))
    (λ a b. placed_same stage p None t rest new (λ _. refl) (source rest a) (source rest b) ∙ ap (λ (x : Option Entry). cond ((covers p (source rest a) || freed rest (source rest a)) || (covers p (source rest b) || freed rest (source rest b))) (same_path (source rest a) (source rest b) && is_file x) (t.same (source rest a) (source rest b))) (same_none stage rest p (source rest a) new))
outcome_next stage (Fresh m p) rest t n so new ok =
    let settled = placed_next stage p (Dir m false) t rest (not-true _ so) new in
    image_ext _ _ (λ q. placed_look stage p _ t rest new settled (source rest q)) (λ a b. placed_same stage p _ t rest new settled (source rest a) (source rest b))
outcome_next stage (Put k m p) rest t n so new ok =
    let settled = placed_next stage p (File m (content_bytes (stage k))) t rest (not-true _ so) new in
    image_ext _ _ (λ q. placed_look stage p _ t rest new settled (source rest q)) (λ a b. placed_same stage p _ t rest new settled (source rest a) (source rest b))
outcome_next stage (Symlink p target) rest t n so new ok =
    let settled = placed_next stage p (Link target) t rest (not-true _ so) new in
    image_ext _ _ (λ q. placed_look stage p _ t rest new settled (source rest q)) (λ a b. placed_same stage p _ t rest new settled (source rest a) (source rest b))
outcome_next stage (Hard p to) rest t n so new ok =
    let sounds = and_parts _ _ so in
    let oks = and_parts _ _ ok in
    let here = not_freed rest p (not-true _ sounds.0) new in
    let own = n.self to oks.1 in
    image_ext _ _
    (λ q. joined_look stage p to t rest new here (not-true _ sounds.1) (not-true _ oks.0) own (source rest q))
    (λ a b. joined_same stage p to t rest new here (not-true _ sounds.1) (not-true _ oks.0) own (source rest a) (source rest b))
outcome_next stage (Mode m p) rest t n so new ok = image_ext _ _ (λ q. at (source rest q)) (λ a b. refl)
  where
    clear : freed rest p ≡ false
    clear = not-true _ (and_parts (not (parent_freed rest p)) _ so).1

    at : (r : List ℕ) → bare stage rest (moded m p t) r ≡ bare stage (Mode m p ∷ rest) t r
    at r = rw clear (ap (cond (freed rest r) (made stage rest r)) (modes_alike (freed rest) (freed rest) (moded m p t) t rest r r (cond (names t p r) (with_mode m (t.look r)) (t.look r)) (λ x on. refl)))

-- a kept path keeps all but its mode
pub outcome_kept : (stage : Stage) (steps : List Step) (t : Image) (q : List ℕ) → freed steps q ≡ false → with_mode 0 ((outcome stage steps t).look q) ≡ with_mode 0 (t.look q)
outcome_kept stage steps t q off = rw (source_kept steps q off, off) (modes_but (freed steps) t steps q (t.look q))

parent_then : (stage : Stage) (s : Step) (rest : List Step) (t : Image) (p : List ℕ) → ((q : List ℕ) → covers p q ≡ false → frees s q ≡ false) → parent_freed rest p ≡ false → has_parent (outcome stage (s ∷ rest) t) p ≡ true → has_parent t p ≡ true
parent_then stage s rest t p own up has = go (parent p) refl up has
  where
    go : (o : Option (List ℕ)) → parent p ≡ o → at_parent (freed rest) o ≡ false → dir_or_none (outcome stage (s ∷ rest) t) o ≡ true → dir_or_none t o ≡ true
    go (Some q) is fq dir = is_dir-alike (t.look q) ((outcome stage (s ∷ rest) t).look q) (sym (outcome_kept stage (s ∷ rest) t q (or_from (frees s q) (freed rest q) (own q (covers-parent p q is)) fq))) ∙ dir
    go None is fq dir = refl

target_then : (stage : Stage) (p to : List ℕ) (rest : List Step) (t : Image) → freed rest to ≡ false → covers p to ≡ false → is_file ((outcome stage (Hard p to ∷ rest) t).look to) ≡ true → is_file (t.look to) ≡ true
target_then stage p to rest t clear off file = is_file-alike (t.look to) ((outcome stage (Hard p to ∷ rest) t).look to) (sym (outcome_kept stage (Hard p to ∷ rest) t to (or_from (covers p to) (freed rest to) off clear))) ∙ file

-- what a step of a sound list finds at the end it finds at its turn
can_then : (stage : Stage) (s : Step) (rest : List Step) (t : Image) → sound_before s rest ≡ true → can_lay stage s (outcome stage (s ∷ rest) t) ≡ true → can_lay stage s t ≡ true
can_then stage (Gone p) rest t so can = refl
can_then stage (Fresh m p) rest t so can = parent_then stage (Fresh m p) rest t p (λ q c. c) (not-true _ so) can
can_then stage (Mode m p) rest t so can = parent_then stage (Mode m p) rest t p (λ q c. refl) (not-true _ (and_parts (not (parent_freed rest p)) _ so).0) can
can_then stage (Put k m p) rest t so can = let parts = and_parts (has_parent (outcome stage (Put k m p ∷ rest) t) p) _ can in and_from _ _ (parent_then stage (Put k m p) rest t p (λ q c. c) (not-true _ so) parts.0) parts.1
can_then stage (Symlink p target) rest t so can = parent_then stage (Symlink p target) rest t p (λ q c. c) (not-true _ so) can
can_then stage (Hard p to) rest t so can =
    let parts = and_parts (has_parent (outcome stage (Hard p to ∷ rest) t) p) _ can in
    let sounds = and_parts (not (parent_freed rest p)) _ so in
    let more = and_parts (not (covers p to)) _ parts.1 in
    and_from _ _ (parent_then stage (Hard p to) rest t p (λ q c. c) (not-true _ sounds.0) parts.0)
    (and_from _ _ more.0 (target_then stage p to rest t (not-true _ sounds.1) (not-true _ more.0) more.1))

links_of : (stage : Stage) (s : Step) (t : Image) → can_lay stage s t ≡ true → links s t ≡ true
links_of stage (Gone p) t can = refl
links_of stage (Fresh m p) t can = refl
links_of stage (Mode m p) t can = refl
links_of stage (Put k m p) t can = refl
links_of stage (Symlink p target) t can = refl
links_of stage (Hard p to) t can = (and_parts (has_parent t p) _ can).1

-- Laid path by path: a sound list with no two steps at a path, possible on a tree, leaves its outcome.
pub laid_outcome : (stage : Stage) (steps : List Step) (t : Image) → HasNodes t → sound steps ≡ true → distinct steps ≡ true → possible stage steps t ≡ true → all_laid stage steps t ≡ outcome stage steps t
laid_outcome stage [] t n so di po = refl
laid_outcome stage (s ∷ rest) t n so di po =
    let sounds = and_parts (sound_before s rest) (sound rest) so in
    let dis = and_parts (not (named rest (path_of s))) (distinct rest) di in
    let cans = and_parts (can_lay stage s t) (possible stage rest (laid stage s t)) po in
    laid_outcome stage rest (laid stage s t) (laid_nodes stage s t n) sounds.1 dis.1 cans.1 ∙ outcome_next stage s rest t n sounds.0 (not-true _ dis.0) (links_of stage s t cans.0)

-- And it is possible where each step could be laid on its outcome.
pub fits_outcome : (stage : Stage) (steps : List Step) (t : Image) → HasNodes t → sound steps ≡ true → distinct steps ≡ true → all_fit stage steps (outcome stage steps t) ≡ true
    → (possible stage steps t ≡ true) × (all_laid stage steps t ≡ outcome stage steps t)
fits_outcome stage [] t n so di fit = (refl, refl)
fits_outcome stage (s ∷ rest) t n so di fit =
    let sounds = and_parts (sound_before s rest) (sound rest) so in
    let dis = and_parts (not (named rest (path_of s))) (distinct rest) di in
    let fits = and_parts (can_lay stage s (outcome stage (s ∷ rest) t)) (all_fit stage rest (outcome stage (s ∷ rest) t)) fit in
    let now = can_then stage s rest t sounds.0 fits.0 in
    let step = outcome_next stage s rest t n sounds.0 (not-true _ dis.0) (links_of stage s t now) in
    let later = fits_outcome stage rest (laid stage s t) (laid_nodes stage s t n) sounds.1 dis.1 (ap (all_fit stage rest) step ∙ fits.1) in
    (and_from _ _ now later.0, later.1 ∙ step)
