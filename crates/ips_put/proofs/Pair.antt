-- Two texts that are put.
use Rattle.std.proofs.Common.{◌≡◌, ℕ, ◌+◌, ◌<◌, ◌^◌, Bool, true, false, not, cond, ◌&&◌, List, [], ◌∷◌, length, Option, Some, None, is_some, slice_get, Vec, Global, refl, sym, ap, subst, ◌∙◌, arith}
use Rattle.std.proofs.lemmas.Bool.{and_parts, false_from_ne_true}
use Rattle.ips_text.specs.Ancestry.{covers, same_path, parent}
use Rattle.ips_text.proofs.Ancestry.{same_path-self, uncovered, covers_trans, parent_covers}
use Rattle.ips_outside.specs.Image.{Entry, File, Image, is_dir}
use Rattle.ips_steps.specs.Steps.{Step, Stage, all_laid, possible, sound, content_bytes}
use Rattle.ips_steps.specs.Private.{records_name, gate_name, is_private, visible}
use Rattle.ips_steps.specs.Journal.{IsJournal, may_name}
use Rattle.ips_steps.proofs.Lists.{clash}
use Rattle.ips_steps.proofs.PrivateNames.{seen_of}
use Rattle.ips_journal.specs.declared.staged.Staged.{Staged}
use Rattle.ips_journal.specs.declared.staged.Staged.TheVariants.{Payload, Bytes, Standing}
use Rattle.ips_contents.specs.Contents.{AreStanding}
use Rattle.ips_commit.specs.Staging.{CanStage}
use Rattle.ips_put.specs.Putting.{AreGiven, IsMeant}
use Rattle.ips_put.specs.Two.{two_puts, CanPutTwo}

-- what isn't at or above a path isn't at or above its directory
dir_apart : (p q dir : List ℕ) → covers p q ≡ false → parent q ≡ Some dir → covers p dir ≡ false
dir_apart p q dir apart is = false_from_ne_true (covers p dir) (λ over. clash (covers p q) (covers_trans p dir q over (parent_covers q dir is)) apart)

standing_given : (t : Image) (staged : List Staged) → AreGiven staged → AreStanding t staged
standing_given t staged given n (Payload name) at = absurd (given n (Payload name) at)
standing_given t staged given n (Bytes bytes) at = tt
standing_given t staged given n (Standing path) at = absurd (given n (Standing path) at)

module _ (t : Image) (p q : List ℕ) (h : CanPutTwo t p q) where
  both : (may_name p ≡ true) × (may_name q ≡ true)
  both = and_parts (may_name p) (may_name q) h.named

  pub lists : IsJournal (two_puts p q)
  lists = record {
    count = omega arith;
    proper = ((h.first, omega arith), ((h.second, omega arith), tt));
    names = let m = both.0 in let n = both.1 in rw (m, n) refl;
    numbers = refl;
  }

  is_sound : sound (two_puts p q) ≡ true
  is_sound = let over = dir_apart q p h.first_dir h.second_apart h.first_parent in rw (h.first_parent, h.second_parent, over) refl

  can : (contents : Stage) → is_some (contents 0) ≡ true → is_some (contents 1) ≡ true → possible contents (two_puts p q) t ≡ true
  can contents some more =
      let over = dir_apart p q h.second_dir h.first_apart h.second_parent in
      let other = uncovered p h.second_dir over in
      rw (h.first_parent, h.second_parent, h.first_stands, some, more, other, over, h.second_stands) refl

  pub can_stage : (staged : List Staged) → AreGiven staged → length staged ≡ 2 → is_dir (t.look records_name) ≡ true → t.look gate_name ≡ None → CanStage (two_puts p q) staged t
  can_stage staged given two records shut = record {
    is_sound = is_sound;
    counted = sym two;
    standing = standing_given t staged given;
    can = λ contents all. can contents (all 0 (omega (arith, two))) (all 1 (omega (arith, two)));
    records = records;
    shut = shut;
  }

  -- ---- what is left

  abbrev laid_both : Stage → Image
  laid_both contents = visible (all_laid contents (two_puts p q) t)

  first_left : (contents : Stage) (bytes : List ℕ) → contents 0 ≡ Some bytes → (laid_both contents).look p ≡ Some (File 420 bytes)
  first_left contents bytes is =
      let own = seen_of p both.0 in
      let other = uncovered q p h.second_apart in
      let self = same_path-self p in
      let bytes_are : content_bytes (contents 0) ≡ bytes = ap content_bytes is in
      rw (own, other, h.second_apart, self, bytes_are) refl

  second_left : (contents : Stage) (bytes : List ℕ) → contents 1 ≡ Some bytes → (laid_both contents).look q ≡ Some (File 420 bytes)
  second_left contents bytes is =
      let own = seen_of q both.1 in
      let self = same_path-self q in
      let bytes_are : content_bytes (contents 1) ≡ bytes = ap content_bytes is in
      rw (own, self, bytes_are) refl

  others_left : (contents : Stage) (r : List ℕ) → covers p r ≡ false → covers q r ≡ false → (laid_both contents).look r ≡ (visible t).look r
  others_left contents r off out =
      let first = uncovered p r off in
      let second = uncovered q r out in
      rw (second, out, first, off) refl

  module _ (staged : List Staged) (a : Image) (meant : IsMeant (two_puts p q) staged t a) where
    seen_as : (r : List ℕ) → a.look r ≡ (laid_both meant.contents).look r
    seen_as r = ap (λ (x : Image). x.look r) meant.is

    pub first_put : (given : Vec ℕ Global) → slice_get staged 0 ≡ Some (Bytes given) → a.look p ≡ Some (File 420 given.items)
    first_put given at = seen_as p ∙ first_left meant.contents given.items (meant.are 0 (Bytes given) at)

    pub second_put : (given : Vec ℕ Global) → slice_get staged 1 ≡ Some (Bytes given) → a.look q ≡ Some (File 420 given.items)
    second_put given at = seen_as q ∙ second_left meant.contents given.items (meant.are 1 (Bytes given) at)

    pub others_kept : (r : List ℕ) → covers p r ≡ false → covers q r ≡ false → a.look r ≡ (visible t).look r
    others_kept r off out = seen_as r ∙ others_left meant.contents r off out
