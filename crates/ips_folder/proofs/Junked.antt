-- Junk at the touched names.
use Rattle.std.proofs.Common.{◌≡◌, ◌⊎◌, ⊎_elim, ℕ, Bool, true, false, cond, ◌||◌, List, [], ◌∷◌, Option, Some, None, is_some, inl, inr, refl, sym, ◌∙◌, ap, subst}
use Rattle.std.proofs.lemmas.Bool.{false_from_ne_true}
use Rattle.ips_text.specs.Ancestry.{covers, parent}
use Rattle.ips_text.specs.Path.{IsPath}
use Rattle.ips_text.proofs.Ancestry.{covers_trans}
use Rattle.std.specs.List.{list_any}
use Rattle.ips_outside.specs.Image.{Entry, Dir, File, Image, IsImage, is_dir, is_file, has_parent, dir_or_none}
use Rattle.ips_folder.specs.History.{Moment}
use Rattle.ips_folder.specs.Crash.{without, is_name, junk_in, IsJunked}
use Rattle.ips_folder.specs.Junk.{HasDirs, HasJunk}
use Rattle.ips_folder.proofs.Kept.{IsKept}
use Rattle.ips_folder.proofs.Leavings.{name_touched}
use Rattle.ips_folder.proofs.Junks.{parent_junk, covers_junk, some_or_none}
use Rattle.ips_text.proofs.Truths.{or_true}

-- what stands below a touched path is touched
below_touched : (m : Moment) (p q : List ℕ) → IsKept m → m.state.whole p ≡ true → covers p q ≡ true → m.state.whole q ≡ true
below_touched m p q kept on c = kept.names q ∙ go m.touched (sym (kept.names p) ∙ on)
  where
    go : (ps : List (List ℕ)) → list_any (λ x. covers x p) ps ≡ true → list_any (λ x. covers x q) ps ≡ true
    go [] h = cc
    go (x ∷ ps) h = step (covers x p) refl (go ps) h
      where
        step : (b : Bool) → covers x p ≡ b → (list_any (λ x. covers x p) ps ≡ true → list_any (λ x. covers x q) ps ≡ true) → (b || list_any (λ x. covers x p) ps) ≡ true → (covers x q || list_any (λ x. covers x q) ps) ≡ true
        step true is rest h = ap (λ (b : Bool). b || list_any (λ x. covers x q) ps) (covers_trans x p q is c)
        step false is rest h = rw (rest h) (or_true (covers x q))

module _ (m : Moment) (kept : IsKept m) (is_named : List ℕ → Bool) (same_names : (q : List ℕ) → is_named q ≡ is_name m q) (gone dirs left : Image) (is_gone : gone ≡ without m.state.whole m.zeroed)
    (formed : IsImage dirs) (formed_left : IsImage left) (has_dirs : HasDirs is_named gone dirs) (has_junk : HasJunk is_named dirs left) where
  gone_off : (q : List ℕ) → m.state.whole q ≡ false → gone.look q ≡ m.zeroed.look q
  gone_off q off = ap (λ (t : Image). t.look q) is_gone ∙ rw off refl

  gone_on : (q : List ℕ) → m.state.whole q ≡ true → gone.look q ≡ None
  gone_on q on = ap (λ (t : Image). t.look q) is_gone ∙ rw on refl

  name_on : (q : List ℕ) → is_named q ≡ true → m.state.whole q ≡ true
  name_on q named = name_touched m q kept (sym (same_names q) ∙ named)

  unnamed : (q : List ℕ) → m.state.whole q ≡ false → is_named q ≡ false
  unnamed q off = false_from_ne_true _ (λ named. let on = name_on q named in cc)

  junk_on : (p : List ℕ) → is_named p ≡ true → m.state.whole (junk_in p) ≡ true
  junk_on p named = below_touched m p (junk_in p) kept (name_on p named) (covers_junk p)

  off_none : (q : List ℕ) → m.state.whole q ≡ false → dirs.look q ≡ None → left.look q ≡ None
  off_none q off none = has_junk.nothing_else q none (λ p named dir is. let on : m.state.whole q ≡ true = ap m.state.whole is ∙ junk_on p named in cc)

  untouched : (q : List ℕ) → m.state.whole q ≡ false → left.look q ≡ m.zeroed.look q
  untouched q off =
      ⊎_elim (λ some. has_junk.old q some) (λ none. off_none q off none ∙ sym none) (some_or_none (dirs.look q))
      ∙ has_dirs.untouched q (unnamed q off) ∙ gone_off q off

  same_dir : (q : List ℕ) → is_dir (left.look q) ≡ is_dir (dirs.look q)
  same_dir q = ⊎_elim
      (λ some. ap is_dir (has_junk.old q some))
      (λ none. ⊎_elim (λ still. ap is_dir still) (λ file. ap is_dir file) (has_junk.fresh q none) ∙ sym (ap is_dir none))
      (some_or_none (dirs.look q))

  same_parent : (o : Option (List ℕ)) → dir_or_none left o ≡ dir_or_none dirs o
  same_parent (Some q) = same_dir q
  same_parent None = refl

  names : (q : List ℕ) → is_name m q ≡ true → left.look q ≡ cond (has_parent left q) (Some (Dir 448 false)) None
  names q name = go (has_parent dirs q) refl ∙ sym (ap (λ (b : Bool). cond b (Some (Dir 448 false)) None) (same_parent (parent q)))
    where
      named : is_named q ≡ true
      named = same_names q ∙ name

      at : (b : Bool) → has_parent dirs q ≡ b → dirs.look q ≡ cond b (Some (Dir 448 false)) None
      at b is = has_dirs.names q named ∙ ap (λ (b : Bool). cond b (Some (Dir 448 false)) None) is

      go : (b : Bool) → has_parent dirs q ≡ b → left.look q ≡ cond (has_parent dirs q) (Some (Dir 448 false)) None
      go true is = has_junk.old q (ap is_some (at true is)) ∙ has_dirs.names q named
      go false is = has_junk.nothing_else q (at false is) (λ p n dir one.
          let up : has_parent dirs q ≡ true = ap (has_parent dirs) one ∙ ap (dir_or_none dirs) (parent_junk p) ∙ dir in cc)
          ∙ sym (at false is) ∙ has_dirs.names q named

  dirs_on : (q : List ℕ) → m.state.whole q ≡ true → is_named q ≡ false → dirs.look q ≡ None
  dirs_on q on off = has_dirs.untouched q off ∙ gone_on q on

  junk : (p : List ℕ) → is_name m p ≡ true → is_dir (left.look p) ≡ true → is_name m (junk_in p) ≡ false → IsPath (junk_in p) → left.look (junk_in p) ≡ Some (File 384 [])
  junk p name dir off path =
      let named : is_named p ≡ true = same_names p ∙ name in
      has_junk.junk p named (sym (same_dir p) ∙ dir) path (dirs_on (junk_in p) (junk_on p named) (same_names (junk_in p) ∙ off))

  nothing_else : (q : List ℕ) → m.state.whole q ≡ true → is_name m q ≡ false → ((p : List ℕ) → is_name m p ≡ true → is_dir (left.look p) ≡ true → q ≡ junk_in p → ⊥) → left.look q ≡ None
  nothing_else q on off others = has_junk.nothing_else q (dirs_on q on (same_names q ∙ off)) (λ p named dir is. others p (sym (same_names p) ∙ named) (same_dir p ∙ dir) is)

  gone_same : (a b : List ℕ) → m.state.whole a ≡ false → m.state.whole b ≡ false → gone.same a b ≡ m.zeroed.same a b
  gone_same a b fa fb = ap (λ (t : Image). t.same a b) is_gone ∙ rw (fa, fb) refl

  no_file : (t : Image) (a b : List ℕ) → IsImage t → t.look a ≡ None → t.same a b ≡ false
  no_file t a b image none = false_from_ne_true _ (λ one. let file = (image.files a b one).0 in let plain : is_file (t.look a) ≡ false = ap is_file none in cc)

  same : (a b : List ℕ) → m.state.whole a ≡ false → m.state.whole b ≡ false → left.same a b ≡ m.zeroed.same a b
  same a b fa fb = ⊎_elim
      (λ some. has_junk.same a b some)
      (λ none. no_file left a b formed_left (off_none a fa none) ∙ sym (no_file dirs a b formed none))
      (some_or_none (dirs.look a)) ∙ has_dirs.same a b ∙ gone_same a b fa fb

  plain_on : (a : List ℕ) → m.state.whole a ≡ true → (b : Bool) → is_named a ≡ b → is_file (dirs.look a) ≡ false
  plain_on a on true named = ap is_file (has_dirs.names a named) ∙ either (has_parent dirs a)
    where
      either : (b : Bool) → is_file (cond b (Some (Dir 448 false)) None) ≡ false
      either true = refl
      either false = refl
  plain_on a on false off = ap is_file (dirs_on a on off)

  alone : (a b : List ℕ) → m.state.whole a ≡ true → left.same a b ≡ true → b ≡ a
  alone a b on one = ⊎_elim
      (λ some. absurd (
      let file = (formed_left.files a b one).0 in
      let plain : is_file (left.look a) ≡ false = ap is_file (has_junk.old a some) ∙ plain_on a on (is_named a) refl in
      cc))
      (λ none. has_junk.alone a b none one)
      (some_or_none (dirs.look a))

  pub junked_is : IsJunked m left
  junked_is = record { untouched = untouched; names = names; junk = junk; nothing_else = nothing_else; same = same; alone = alone }
