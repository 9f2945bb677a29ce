-- One step on two images that agree, and on names that share a file.
use Rattle.std.proofs.Common.{◌≡◌, ℕ, Bool, true, false, cond, not, ◌&&◌, ◌||◌, List, [], ◌∷◌, Option, Some, None, refl, ◌∙◌, ap}
use Rattle.std.proofs.lemmas.Bool.{and_parts, and_from, or_parts, or_from, not-true}
use Rattle.ips_text.specs.Ancestry.{same_path, covers, parent}
use Rattle.ips_outside.specs.Image.{Entry, Image, Agrees, is_file, has_parent, dir_or_none}
use Rattle.ips_outside.specs.Change.{with_entry_at, joined}
use Rattle.ips_steps.specs.Steps.{Step, Gone, Fresh, Mode, Put, Symlink, Hard, Stage, laid, frees, freed, at_parent, meets, met}
use Rattle.ips_text.proofs.Ancestry.{uncovered, covers-parent}
use Rattle.ips_outside.proofs.Agree.{is_dir-alike, is_file-alike}
use Rattle.ips_outside.proofs.Images.{Twins, names_twins, HasNodes, placed_nodes, moded_nodes, joined_nodes}

-- ---- two names of one file stay so

placed_twin : (cx sx ca sa cb sb f x y : Bool) → ca ≡ false → sa ≡ false → cb ≡ false → sb ≡ false → x ≡ y → cond (cx || ca) (sx && (sa && f)) x ≡ cond (cx || cb) (sx && (sb && f)) y
placed_twin true sx ca sa cb sb f x y e1 e2 e3 e4 e5 = rw (e2, e4) refl
placed_twin false sx ca sa cb sb f x y e1 e2 e3 e4 e5 = rw (e1, e3, e5) refl

placed_twins : (p : List ℕ) (e : Option Entry) (t : Image) (a b : List ℕ) → Twins t a b → covers p a ≡ false → covers p b ≡ false → Twins (with_entry_at p e t) a b
placed_twins p e t a b h ca cb = record {
  alike = λ x. placed_twin (covers p x) (same_path p x) _ _ _ _ (is_file e) _ _ ca (uncovered p a ca) cb (uncovered p b cb) (h.alike x);
  there = rw (ca, cb) h.there;
  back = rw (ca, cb) h.back;
}

joined_twins : (p to : List ℕ) (t : Image) (a b : List ℕ) → Twins t a b → covers p a ≡ false → covers p b ≡ false → Twins (joined p to t) a b
joined_twins p to t a b h ca cb = record {
  alike = λ x. rw (ca, cb, uncovered p a ca, uncovered p b cb, h.alike (cond (same_path p x) to x)) refl;
  there = rw (ca, cb, uncovered p a ca, uncovered p b cb) h.there;
  back = rw (ca, cb, uncovered p a ca, uncovered p b cb) h.back;
}

laid_twins : (stage : Stage) (s : Step) (t : Image) (a b : List ℕ) → Twins t a b → frees s a ≡ false → frees s b ≡ false → Twins (laid stage s t) a b
laid_twins stage (Gone p) t a b h fa fb = placed_twins p None t a b h fa fb
laid_twins stage (Fresh m p) t a b h fa fb = placed_twins p _ t a b h fa fb
laid_twins stage (Mode m p) t a b h fa fb = record { alike = h.alike; there = h.there; back = h.back }
laid_twins stage (Put n m p) t a b h fa fb = placed_twins p _ t a b h fa fb
laid_twins stage (Symlink p target) t a b h fa fb = placed_twins p _ t a b h fa fb
laid_twins stage (Hard p to) t a b h fa fb = joined_twins p to t a b h fa fb

meets_twins : (s : Step) (t : Image) (a b : List ℕ) → Twins t a b → meets s t a ≡ meets s t b
meets_twins (Gone p) t a b h = refl
meets_twins (Fresh m p) t a b h = refl
meets_twins (Mode m p) t a b h = names_twins p t a b h
meets_twins (Put n m p) t a b h = refl
meets_twins (Symlink p target) t a b h = refl
meets_twins (Hard p to) t a b h = refl

-- a mode meets both names or neither, as long as no step frees one of them
pub met_twins : (stage : Stage) (rest : List Step) (t : Image) (a b : List ℕ) → Twins t a b → freed rest a ≡ false → freed rest b ≡ false → met stage rest t a ≡ met stage rest t b
met_twins stage [] t a b h fa fb = refl
met_twins stage (s ∷ rest) t a b h fa fb =
    let pa = or_parts (frees s a) (freed rest a) fa in
    let pb = or_parts (frees s b) (freed rest b) fb in
    let later = met_twins stage rest (laid stage s t) a b (laid_twins stage s t a b h pa.0 pb.0) pa.1 pb.1 in
    ap (λ (x : Bool). x || met stage rest (laid stage s t) a) (meets_twins s t a b h) ∙ ap (λ (x : Bool). meets s t b || x) later

pub laid_nodes : (stage : Stage) (s : Step) (t : Image) → HasNodes t → HasNodes (laid stage s t)
laid_nodes stage (Gone p) t h = placed_nodes p None t h
laid_nodes stage (Fresh m p) t h = placed_nodes p _ t h
laid_nodes stage (Mode m p) t h = moded_nodes m p t h
laid_nodes stage (Put n m p) t h = placed_nodes p _ t h
laid_nodes stage (Symlink p target) t h = placed_nodes p _ t h
laid_nodes stage (Hard p to) t h = joined_nodes p to t h

-- ---- what a step asks for, in two images that agree

-- a path's parent is a directory in both
pub has_parent_agrees : (p : List ℕ) (free loose : List ℕ → Bool) (t u : Image) → Agrees (λ q. covers p q || free q) loose t u → at_parent free (parent p) ≡ false → has_parent t p ≡ true → has_parent u p ≡ true
has_parent_agrees p free loose t u h above here = go (parent p) refl above here
  where
    go : (o : Option (List ℕ)) → parent p ≡ o → at_parent free o ≡ false → dir_or_none t o ≡ true → dir_or_none u o ≡ true
    go (Some q) is fq dir = is_dir-alike (u.look q) (t.look q) (h.but_mode q (or_from _ _ (covers-parent p q is) fq)) ∙ dir
    go None is fq dir = refl

-- the same where the path itself isn't free
pub has_parent_kept : (p : List ℕ) (free loose : List ℕ → Bool) (t u : Image) → Agrees free loose t u → at_parent free (parent p) ≡ false → has_parent t p ≡ true → has_parent u p ≡ true
has_parent_kept p free loose t u h above here = go (parent p) above here
  where
    go : (o : Option (List ℕ)) → at_parent free o ≡ false → dir_or_none t o ≡ true → dir_or_none u o ≡ true
    go (Some q) fq dir = is_dir-alike (u.look q) (t.look q) (h.but_mode q fq) ∙ dir
    go None fq dir = refl

-- a hard link's target is a file in both
pub can_hard : (p to : List ℕ) (f l : List ℕ → Bool) (t u : Image) → Agrees (λ q. covers p q || f q) l t u → f to ≡ false → (not (covers p to) && is_file (t.look to)) ≡ true → (not (covers p to) && is_file (u.look to)) ≡ true
can_hard p to f l t u h ft can =
    let parts = and_parts _ _ can in
    and_from _ _ parts.0 (is_file-alike (u.look to) (t.look to) (h.but_mode to (or_from _ _ (not-true _ parts.0) ft)) ∙ parts.1)
