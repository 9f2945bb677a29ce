-- The steps of paths in such an order are a plan.
use Rattle.std.proofs.Common.{◌≡◌, ℕ, ◌+◌, Bool, true, false, cond, not, ◌&&◌, ◌||◌, List, [], ◌∷◌, Option, Some, None, is_some, refl, sym, ◌∙◌, ap}
use Rattle.std.proofs.lemmas.Bool.{and_parts, and_from, and_right, or_parts, or_from, or_right, or_left, not-true, not_from_false, false_from_ne_true}
use Rattle.ips_text.specs.Ancestry.{same_path, covers, parent, is_below}
use Rattle.ips_outside.specs.Image.{Entry, Dir, File, Link, Other, Image, IsImage, is_file}
use Rattle.ips_outside.specs.Change.{names}
use Rattle.ips_steps.specs.Steps.{Stage, content_bytes, freed, at_parent, parent_freed, sound, named, distinct}
use Rattle.ips_steps.specs.Outcome.{with_modes}
use Rattle.ips_after.specs.Change.{Change, Changes, Given, IsPlanned, Joined, Kept, Laid, Removed, change_at, cleared, remoded, replaces, staged, with_given}
use Rattle.ips_after.specs.Lists.{listed, unrepeated}
use Rattle.ips_after.specs.Planned.{IsOrder, Staged, any_precedes, contents_of, file_given, given_files, in_turn, next_step, plain, precedes, reads, steps_of, with_content}
use Rattle.ips_text.proofs.Ancestry.{same_path-true, covers-parent, covers_trans, parent_covers}
use Rattle.ips_steps.proofs.Lists.{clash, not_freed}

-- what is at or above a path's parent is strictly above the path
pub above_parent : (x p r : List ℕ) → parent p ≡ Some r → covers x r ≡ true → is_below x p ≡ true
above_parent x p r is over = and_from _ _ (covers_trans x r p over (parent_covers p r is))
    (not_from_false _ (false_from_ne_true _ (λ same. clash (covers x r) over (ap (λ (y : List ℕ). covers y r) (same_path-true x p same) ∙ covers-parent p r is))))

module _ (change : Changes) where
  -- unlisted paths are not named
  pub unnamed : (k : ℕ) (paths : List (List ℕ)) (q : List ℕ) → listed paths q ≡ false → named (steps_of change k paths) q ≡ false
  unnamed k [] q off = refl
  unnamed k (p ∷ rest) q off = let parts = or_parts (same_path p q) (listed rest q) off in go (change p) parts.0 (λ n. unnamed n rest q parts.1)
    where
      go : (c : Change) → same_path p q ≡ false → ((n : ℕ) → named (steps_of change n rest) q ≡ false) → named (next_step c k p (λ n. steps_of change n rest)) q ≡ false
      go Kept apart rec = rec k
      go Removed apart rec = or_from _ _ apart (rec k)
      go (Laid (Dir m f)) apart rec = or_from _ _ apart (rec k)
      go (Laid (File m b)) apart rec = or_from _ _ apart (rec (k + 1))
      go (Laid (Link g)) apart rec = or_from _ _ apart (rec k)
      go (Laid Other) apart rec = rec k
      go (Joined to) apart rec = or_from _ _ apart (rec k)
      go (Given m) apart rec = or_from _ _ apart (rec k)

  pub apart_steps : (k : ℕ) (paths : List (List ℕ)) → unrepeated paths ≡ true → distinct (steps_of change k paths) ≡ true
  apart_steps k [] once = refl
  apart_steps k (p ∷ rest) once =
      let parts = and_parts (not (listed rest p)) (unrepeated rest) once in
      go (change p) (λ n. not_from_false _ (unnamed n rest p (not-true _ parts.0))) (λ n. apart_steps n rest parts.1)
    where
      go : (c : Change) → ((n : ℕ) → not (named (steps_of change n rest) p) ≡ true) → ((n : ℕ) → distinct (steps_of change n rest) ≡ true) → distinct (next_step c k p (λ n. steps_of change n rest)) ≡ true
      go Kept new rec = rec k
      go Removed new rec = and_from _ _ (new k) (rec k)
      go (Laid (Dir m f)) new rec = and_from _ _ (new k) (rec k)
      go (Laid (File m b)) new rec = and_from _ _ (new (k + 1)) (rec (k + 1))
      go (Laid (Link g)) new rec = and_from _ _ (new k) (rec k)
      go (Laid Other) new rec = rec k
      go (Joined to) new rec = and_from _ _ (new k) (rec k)
      go (Given m) new rec = and_from _ _ (new k) (rec k)

  pub staged_steps : (stage : Stage) (k : ℕ) (paths : List (List ℕ)) → Staged stage k (contents_of change paths) → staged stage (steps_of change k paths) ≡ true
  staged_steps stage k [] has = refl
  staged_steps stage k (p ∷ rest) has = go (change p) has (λ n h. staged_steps stage n rest h)
    where
      go : (c : Change) → Staged stage k (with_content c (contents_of change rest)) → ((n : ℕ) → Staged stage n (contents_of change rest) → staged stage (steps_of change n rest) ≡ true) → staged stage (next_step c k p (λ n. steps_of change n rest)) ≡ true
      go Kept has rec = rec k has
      go Removed has rec = rec k has
      go (Laid (Dir m f)) has rec = rec k has
      go (Laid (File m b)) has rec = and_from _ _ (ap is_some has.0) (rec (k + 1) has.1)
      go (Laid (Link g)) has rec = rec k has
      go (Laid Other) has rec = rec k has
      go (Joined to) has rec = rec k has
      go (Given m) has rec = rec k has

  said : (p q : List ℕ) (rest : List (List ℕ)) (c d r : Change) → change p ≡ c → d ≡ c → r ≡ cond (listed rest q) (change q) Kept → cond (same_path p q) d r ≡ cond (same_path p q || listed rest q) (change q) Kept
  said p q rest c d r is same rec = go (same_path p q) refl
    where
      go : (b : Bool) → same_path p q ≡ b → cond b d r ≡ cond (b || listed rest q) (change q) Kept
      go true at = same ∙ sym is ∙ ap change (same_path-true p q at)
      go false at = rec

  unsaid : (p q : List ℕ) (rest : List (List ℕ)) (r : Change) → change p ≡ Kept → listed rest p ≡ false → r ≡ cond (listed rest q) (change q) Kept → r ≡ cond (same_path p q || listed rest q) (change q) Kept
  unsaid p q rest r is new rec = go (same_path p q) refl
    where
      go : (b : Bool) → same_path p q ≡ b → r ≡ cond (b || listed rest q) (change q) Kept
      go true at =
          let path = same_path-true p q at in
          rec ∙ ap (λ (b : Bool). cond b (change q) Kept) (ap (listed rest) (sym path) ∙ new) ∙ sym is ∙ ap change path
      go false at = rec

  -- the steps say the change of each path
  pub says_steps : (stage : Stage) (k : ℕ) (paths : List (List ℕ)) (q : List ℕ) → ((x : List ℕ) → plain (change x) ≡ true) → unrepeated paths ≡ true → Staged stage k (contents_of change paths)
      → change_at stage (steps_of change k paths) q ≡ cond (listed paths q) (change q) Kept
  says_steps stage k [] q entries once has = refl
  says_steps stage k (p ∷ rest) q entries once has =
      let parts = and_parts (not (listed rest p)) (unrepeated rest) once in
      go (change p) refl (entries p) (not-true _ parts.0) has (λ n h. says_steps stage n rest q entries parts.1 h)
    where
      dir : (m : ℕ) (f : Bool) → not f ≡ true → Laid (Dir m false) ≡ Laid (Dir m f)
      dir m true h = cc
      dir m false h = refl

      go : (c : Change) → change p ≡ c → plain c ≡ true → listed rest p ≡ false → Staged stage k (with_content c (contents_of change rest))
          → ((n : ℕ) → Staged stage n (contents_of change rest) → change_at stage (steps_of change n rest) q ≡ cond (listed rest q) (change q) Kept)
          → change_at stage (next_step c k p (λ n. steps_of change n rest)) q ≡ cond (same_path p q || listed rest q) (change q) Kept
      go Kept is ok new has rec = unsaid p q rest _ is new (rec k has)
      go Removed is ok new has rec = said p q rest Removed Removed _ is refl (rec k has)
      go (Laid (Dir m f)) is ok new has rec = said p q rest (Laid (Dir m f)) _ _ is (dir m f ok) (rec k has)
      go (Laid (File m b)) is ok new has rec = said p q rest (Laid (File m b)) (Laid (File m (content_bytes (stage k)))) _ is (ap (λ (x : Option (List ℕ)). Laid (File m (content_bytes x))) has.0) (rec (k + 1) has.1)
      go (Laid (Link g)) is ok new has rec = said p q rest (Laid (Link g)) _ _ is refl (rec k has)
      go (Laid Other) is ok new has rec = cc
      go (Joined to) is ok new has rec = said p q rest (Joined to) _ _ is refl (rec k has)
      go (Given m) is ok new has rec = said p q rest (Given m) _ _ is refl (rec k has)

  -- what comes behind a path frees nothing that its step reads
  pub unfreed : (k : ℕ) (rest : List (List ℕ)) (p r : List ℕ) → ((x : List ℕ) → covers x r ≡ true → reads (change p) x p ≡ true) → any_precedes change rest p ≡ false → freed (steps_of change k rest) r ≡ false
  unfreed k [] p r hit off = refl
  unfreed k (x ∷ rest) p r hit off =
      let parts = or_parts (precedes change x p) (any_precedes change rest p) off in
      go (change x) parts.0 (λ n. unfreed n rest p r hit parts.1)
    where
      no_cover : reads (change p) x p ≡ false → covers x r ≡ false
      no_cover h = false_from_ne_true _ (λ c. clash _ (hit x c) h)

      go : (c : Change) → (replaces c && reads (change p) x p) ≡ false → ((n : ℕ) → freed (steps_of change n rest) r ≡ false) → freed (next_step c k x (λ n. steps_of change n rest)) r ≡ false
      go Kept h rec = rec k
      go Removed h rec = or_from _ _ (no_cover h) (rec k)
      go (Laid (Dir m f)) h rec = or_from _ _ (no_cover h) (rec k)
      go (Laid (File m b)) h rec = or_from _ _ (no_cover h) (rec (k + 1))
      go (Laid (Link g)) h rec = or_from _ _ (no_cover h) (rec k)
      go (Laid Other) h rec = rec k
      go (Joined to) h rec = or_from _ _ (no_cover h) (rec k)
      go (Given m) h rec = rec k

  up_unfreed : (k : ℕ) (rest : List (List ℕ)) (p : List ℕ) → ((x : List ℕ) → is_below x p ≡ true → reads (change p) x p ≡ true) → any_precedes change rest p ≡ false → parent_freed (steps_of change k rest) p ≡ false
  up_unfreed k rest p hit off = go (parent p) refl
    where
      go : (o : Option (List ℕ)) → parent p ≡ o → at_parent (freed (steps_of change k rest)) o ≡ false
      go (Some r) is = unfreed k rest p r (λ x over. hit x (above_parent x p r is over)) off
      go None is = refl

  pub sound_steps : (k : ℕ) (paths : List (List ℕ)) → unrepeated paths ≡ true → in_turn change paths ≡ true → sound (steps_of change k paths) ≡ true
  sound_steps k [] once turn = refl
  sound_steps k (p ∷ rest) once turn =
      let parts = and_parts (not (listed rest p)) (unrepeated rest) once in
      let turns = and_parts (not (any_precedes change rest p)) (in_turn change rest) turn in
      go (change p) refl (not-true _ parts.0) (not-true _ turns.0) (λ n. sound_steps n rest parts.1 turns.1)
    where
      up : (c : Change) → change p ≡ c → ((x : List ℕ) → is_below x p ≡ true → reads c x p ≡ true) → any_precedes change rest p ≡ false → (n : ℕ) → parent_freed (steps_of change n rest) p ≡ false
      up c is hit off n = up_unfreed n rest p (λ x b. ap (λ (y : Change). reads y x p) is ∙ hit x b) off

      go : (c : Change) → change p ≡ c → listed rest p ≡ false → any_precedes change rest p ≡ false → ((n : ℕ) → sound (steps_of change n rest) ≡ true) → sound (next_step c k p (λ n. steps_of change n rest)) ≡ true
      go Kept is new off rec = rec k
      go Removed is new off rec = rec k
      go (Laid (Dir m f)) is new off rec = and_from _ _ (not_from_false _ (up (Laid (Dir m f)) is (λ x b. b) off k)) (rec k)
      go (Laid (File m b)) is new off rec = and_from _ _ (not_from_false _ (up (Laid (File m b)) is (λ x b. b) off (k + 1))) (rec (k + 1))
      go (Laid (Link g)) is new off rec = and_from _ _ (not_from_false _ (up (Laid (Link g)) is (λ x b. b) off k)) (rec k)
      go (Laid Other) is new off rec = rec k
      go (Joined to) is new off rec =
          and_from _ _ (and_from _ _ (not_from_false _ (up (Joined to) is (λ x b. or_left _ _ b) off k))
          (not_from_false _ (unfreed k rest p to (λ x over. ap (λ (y : Change). reads y x p) is ∙ or_right (is_below x p) (covers x to) over) off))) (rec k)
      go (Given m) is new off rec =
          let above = up (Given m) is (λ x b. b) off k in
          and_from _ _ (and_from _ _ (not_from_false _ above) (not_from_false _ (not_freed (steps_of change k rest) p above (unnamed k rest p new)))) (rec k)

  -- the Modes of the steps are those of the paths
  pub modes_steps : (k : ℕ) (paths : List (List ℕ)) (t : Image) (q : List ℕ) (e : Option Entry) → with_modes (cleared change) (steps_of change k paths) t q e ≡ with_given change paths t q e
  modes_steps k [] t q e = refl
  modes_steps k (p ∷ rest) t q e = go (change p) (λ n x. modes_steps n rest t q x)
    where
      go : (c : Change) → ((n : ℕ) (x : Option Entry) → with_modes (cleared change) (steps_of change n rest) t q x ≡ with_given change rest t q x)
          → with_modes (cleared change) (next_step c k p (λ n. steps_of change n rest)) t q e ≡ with_given change rest t q (remoded c (not (cleared change p) && names t p q) e)
      go Kept rec = rec k e
      go Removed rec = rec k e
      go (Laid (Dir m f)) rec = rec k e
      go (Laid (File m b)) rec = rec (k + 1) e
      go (Laid (Link g)) rec = rec k e
      go (Laid Other) rec = rec k e
      go (Joined to) rec = rec k e
      go (Given m) rec = rec k _

  unmoded : (c : Change) (b : Bool) (e : Option Entry) → b ≡ false → remoded c b e ≡ e
  unmoded Kept b e h = refl
  unmoded Removed b e h = refl
  unmoded (Laid x) b e h = refl
  unmoded (Joined to) b e h = refl
  unmoded (Given m) b e h = rw h refl

  -- a file is met at files alone
  pub given_at_files : (paths : List (List ℕ)) (t : Image) (q : List ℕ) (e : Option Entry) → ((p : List ℕ) → is_file (t.look p) ≡ false → names t p q ≡ false)
      → with_given change paths t q e ≡ with_given change (given_files change t paths) t q e
  given_at_files [] t q e only = refl
  given_at_files (p ∷ rest) t q e only = go (change p) refl (is_file (t.look p)) refl (λ x. given_at_files rest t q x only)
    where
      go : (c : Change) → change p ≡ c → (f : Bool) → is_file (t.look p) ≡ f → ((x : Option Entry) → with_given change rest t q x ≡ with_given change (given_files change t rest) t q x)
          → with_given change rest t q (remoded c (not (cleared change p) && names t p q) e) ≡ with_given change (cond (file_given c f) (p ∷ given_files change t rest) (given_files change t rest)) t q e
      go Kept is f file rec = rec e
      go Removed is f file rec = rec e
      go (Laid x) is f file rec = rec e
      go (Joined to) is f file rec = rec e
      go (Given m) is true file rec = rec _ ∙ ap (λ (c : Change). with_given change (given_files change t rest) t q (remoded c (not (cleared change p) && names t p q) e)) (sym is)
      go (Given m) is false file rec = ap (with_given change rest t q) (unmoded (Given m) _ e (and_right (not (cleared change p)) (names t p q) (only p file))) ∙ rec e

  -- what is no file is met at its own path alone
  pub given_at_once : (paths : List (List ℕ)) (t : Image) (q : List ℕ) (e : Option Entry) → ((p : List ℕ) → same_path p q ≡ false → names t p q ≡ false) → unrepeated paths ≡ true
      → with_given change paths t q e ≡ cond (listed paths q) (remoded (change q) (not (cleared change q) && names t q q) e) e
  given_at_once [] t q e only once = refl
  given_at_once (p ∷ rest) t q e only once =
      let parts = and_parts (not (listed rest p)) (unrepeated rest) once in
      go (same_path p q) refl (not-true _ parts.0) (λ x. given_at_once rest t q x only parts.1)
    where
      go : (b : Bool) → same_path p q ≡ b → listed rest p ≡ false → ((x : Option Entry) → with_given change rest t q x ≡ cond (listed rest q) (remoded (change q) (not (cleared change q) && names t q q) x) x)
          → with_given change rest t q (remoded (change p) (not (cleared change p) && names t p q) e) ≡ cond (b || listed rest q) (remoded (change q) (not (cleared change q) && names t q q) e) e
      go true at new rec =
          let path = same_path-true p q at in
          rec _ ∙ ap (λ (b : Bool). cond b (remoded (change q) (not (cleared change q) && names t q q) (remoded (change p) (not (cleared change p) && names t p q) e)) (remoded (change p) (not (cleared change p) && names t p q) e)) (ap (listed rest) (sym path) ∙ new)
          ∙ ap (λ (x : List ℕ). remoded (change x) (not (cleared change x) && names t x q) e) path
      go false at new rec = ap (with_given change rest t q) (unmoded (change p) _ e (and_right (not (cleared change p)) (names t p q) (only p at))) ∙ rec e

module _ (change : Changes) (paths order : List (List ℕ)) (t : Image) (formed : IsImage t) (good : IsOrder change paths order t) where
  names_file : (q : List ℕ) → is_file (t.look q) ≡ true → (p : List ℕ) → is_file (t.look p) ≡ false → names t p q ≡ false
  names_file q file p none = or_from _ _
      (false_from_ne_true _ (λ s. clash _ file (ap (λ (x : List ℕ). is_file (t.look x)) (sym (same_path-true p q s)) ∙ none)))
      (false_from_ne_true _ (λ s. clash _ (formed.files p q s).0 none))

  names_other : (q : List ℕ) → is_file (t.look q) ≡ false → (p : List ℕ) → same_path p q ≡ false → names t p q ≡ false
  names_other q none p apart = or_from _ _ apart (false_from_ne_true _ (λ s. let both = formed.files p q s in clash _ (ap is_file (sym both.1) ∙ both.0) none))

  pub ranked_order : (q : List ℕ) → with_given change paths t q (t.look q) ≡ with_given change order t q (t.look q)
  ranked_order q = go (is_file (t.look q)) refl
    where
      here : (e : Option Entry) (m : Bool) (c : Change) → change q ≡ c → (b d : Bool) → listed paths q ≡ b → listed order q ≡ d → cond b (remoded c m e) e ≡ cond d (remoded c m e) e
      here e m Kept is true true lb ld = refl
      here e m Kept is true false lb ld = refl
      here e m Kept is false true lb ld = refl
      here e m Kept is false false lb ld = refl
      here e m Removed is true true lb ld = refl
      here e m Removed is true false lb ld = refl
      here e m Removed is false true lb ld = refl
      here e m Removed is false false lb ld = refl
      here e m (Laid x) is true true lb ld = refl
      here e m (Laid x) is true false lb ld = refl
      here e m (Laid x) is false true lb ld = refl
      here e m (Laid x) is false false lb ld = refl
      here e m (Joined to) is true true lb ld = refl
      here e m (Joined to) is true false lb ld = refl
      here e m (Joined to) is false true lb ld = refl
      here e m (Joined to) is false false lb ld = refl
      here e m (Given n) is true true lb ld = refl
      here e m (Given n) is b false lb ld = clash (listed order q) (good.ranked_all q n is) ld
      here e m (Given n) is false true lb ld = absurd (let bad = good.all q lb in cc)

      go : (b : Bool) → is_file (t.look q) ≡ b → with_given change paths t q (t.look q) ≡ with_given change order t q (t.look q)
      go true file =
          given_at_files change paths t q (t.look q) (names_file q file)
          ∙ ap (λ (x : List (List ℕ)). with_given change x t q (t.look q)) good.files
          ∙ sym (given_at_files change order t q (t.look q) (names_file q file))
      go false none =
          given_at_once change paths t q (t.look q) (names_other q none) good.once
          ∙ here (t.look q) (not (cleared change q) && names t q q) (change q) refl (listed paths q) (listed order q) refl refl
          ∙ sym (given_at_once change order t q (t.look q) (names_other q none) good.ranked_once)

  listed_or : (q : List ℕ) → cond (listed paths q) (change q) Kept ≡ change q
  listed_or q = go (listed paths q) refl
    where
      go : (b : Bool) → listed paths q ≡ b → cond b (change q) Kept ≡ change q
      go true is = refl
      go false is = sym (good.all q is)

  -- paths in such an order, with their contents staged, are a plan
  pub ordered : (stage : Stage) → Staged stage 0 (contents_of change paths) → IsPlanned stage (steps_of change 0 paths) change order t
  ordered stage has = record {
    says = λ q. says_steps change stage 0 paths q good.entries good.once has ∙ listed_or q;
    is_sound = sound_steps change 0 paths good.once good.turn;
    apart = apart_steps change 0 paths good.once;
    has_contents = staged_steps change stage 0 paths has;
    ranked = λ q. modes_steps change 0 paths t q (t.look q) ∙ ranked_order q;
  }
