-- Junk, name by name.
use Rattle.std.proofs.Common.{◌≡◌, ◌⊎◌, inl, inr, ⊎_elim, ℕ, Bool, true, false, cond, ◌&&◌, ◌||◌, ◌==◌, List, [], ◌∷◌, ◌++◌, Vec, Global, Option, Some, None, is_some, codes, refl, sym, ◌∙◌, ap, subst}
use Rattle.std.specs.List.{list_any, AllByRecursion}
use Rattle.std.specs.List.Sorted.{IsStrictlySortedBy}
use Rattle.std.specs.Ordering.{nat_cmp, ordering_then}
use Rattle.std.specs.declared.cmp.Ordering.{Ordering}
use Rattle.std.specs.declared.cmp.Ordering.TheVariants.{Less, Equal, Greater}
use Rattle.std.specs.Cmp.Lexicographic.{slice_cmp}
use Rattle.std.proofs.lemmas.Bool.{and_parts, or_parts, false_from_ne_true, eqb-true, eq-eqb}
use Rattle.std.proofs.lemmas.Cmp.{nat_cmp_total, nat_list_cmp_total, tied_itself}
use Rattle.ips_text.specs.Ancestry.{same_path, covers, parent, behind}
use Rattle.ips_text.specs.Path.{IsPath}
use Rattle.ips_text.proofs.Ancestry.{same_path-true, same_path-self, covers-self, same_covers, uncovered, parent_covers}
use Rattle.ips_outside.specs.Image.{Entry, Dir, File, Link, Other, Image, IsImage, is_dir, is_file, has_parent, dir_or_none}
use Rattle.ips_outside.specs.Change.{with_entry_at}
use Rattle.ips_outside.proofs.Placed.{look_placed, parent_kept}
use Rattle.ips_outside.proofs.Trees.{nothing_below, alone, alone-back}
use Rattle.ips_text.proofs.Ancestry.{covers-parent}
use Rattle.ips_folder.specs.Crash.{junk_in}
use Rattle.ips_folder.specs.Junk.{with_dir, HasDirs, AddsJunk, HasJunk}
use Rattle.ips_folder.proofs.Names.{by_bytes}
use Rattle.ips_text.proofs.Orders.{one_way}

-- ---- order

head_same : (a : ℕ) (p q : List ℕ) → slice_cmp nat_cmp (a ∷ p) (a ∷ q) ≡ slice_cmp nat_cmp p q
head_same a p q = ap (λ (o : Ordering). ordering_then o (slice_cmp nat_cmp p q)) (tied_itself nat_cmp_total a)

above_less : (p q : List ℕ) → covers p q ≡ true → same_path p q ≡ false → slice_cmp nat_cmp p q ≡ Less
above_less [] [] c s = cc
above_less [] (b ∷ q) c s = refl
above_less (a ∷ p) [] c s = cc
above_less (a ∷ p) (b ∷ q) c s =
    let parts = and_parts (a == b) (covers p q) c in
    let is : a ≡ b = eqb-true a b parts.0 in
    let apart : same_path p q ≡ false = sym (ap (λ (x : Bool). x && same_path p q) parts.0) ∙ s in
    subst (λ (x : ℕ). slice_cmp nat_cmp (a ∷ p) (x ∷ q) ≡ Less) is (head_same a p q ∙ above_less p q parts.1 apart)

parent_less : (q r : List ℕ) → parent q ≡ Some r → slice_cmp nat_cmp r q ≡ Less
parent_less q r is = above_less r q (parent_covers q r is) (false_from_ne_true _ (λ same.
    let one : r ≡ q = same_path-true r q same in
    let self : covers q r ≡ true = ap (covers q) one ∙ covers-self q in
    let off = covers-parent q r is in
    cc))

-- ---- what a directory that is put changes

-- the path is one of those that are left
abbrev pub in_list : List (Vec ℕ Global) → List ℕ → Bool
in_list rest q = list_any (λ k. same_path k.items q) rest

put_look : (s c : Bool) (e x : Option Entry) → s ≡ false → (c ≡ true → x ≡ None) → cond s e (cond c None x) ≡ x
put_look s true e x off gone = rw off (sym (gone refl))
put_look s false e x off gone = rw off refl

module _ (t : Image) (p : List ℕ) (formed : IsImage t) (absent : t.look p ≡ None) where
  -- elsewhere nothing changes
  pub placed_other : (e : Option Entry) (q : List ℕ) → same_path p q ≡ false → (with_entry_at p e t).look q ≡ t.look q
  placed_other e q off = put_look (same_path p q) (covers p q) e (t.look q) off (nothing_below t p formed absent q)

  pub dir_same : (m : ℕ) (f : Bool) (a b : List ℕ) → (with_entry_at p (Some (Dir m f)) t).same a b ≡ t.same a b
  dir_same m f a b = go (covers p a) refl (covers p b) refl (same_path p a) (same_path p b)
    where
      go : (ca : Bool) → covers p a ≡ ca → (cb : Bool) → covers p b ≡ cb → (sa sb : Bool) → cond (ca || cb) (sa && (sb && false)) (t.same a b) ≡ t.same a b
      go true ia cb ib sa sb = none sa sb ∙ sym (alone t p formed absent a b ia)
        where
          none : (sa sb : Bool) → (sa && (sb && false)) ≡ false
          none true true = refl
          none true false = refl
          none false sb = refl
      go false ia true ib sa sb = none sa sb ∙ sym (alone-back t p formed absent b a ib)
        where
          none : (sa sb : Bool) → (sa && (sb && false)) ≡ false
          none true true = refl
          none true false = refl
          none false sb = refl
      go false ia false ib sa sb = refl

  with_other : (b : Bool) (q : List ℕ) → same_path p q ≡ false → (cond b (with_entry_at p (Some (Dir 448 false)) t) t).look q ≡ t.look q
  with_other true q off = placed_other (Some (Dir 448 false)) q off
  with_other false q off = refl

  pub with_dir_other : (q : List ℕ) → same_path p q ≡ false → (with_dir p t).look q ≡ t.look q
  with_dir_other q off = with_other (has_parent t p) q off

  with_same : (b : Bool) (x y : List ℕ) → (cond b (with_entry_at p (Some (Dir 448 false)) t) t).same x y ≡ t.same x y
  with_same true x y = dir_same 448 false x y
  with_same false x y = refl

  pub with_dir_same : (x y : List ℕ) → (with_dir p t).same x y ≡ t.same x y
  with_dir_same x y = with_same (has_parent t p) x y

  pub with_dir_here : (with_dir p t).look p ≡ cond (has_parent (with_dir p t) p) (Some (Dir 448 false)) None
  with_dir_here = go (has_parent t p) refl
    where
      go : (b : Bool) → has_parent t p ≡ b → (cond b (with_entry_at p (Some (Dir 448 false)) t) t).look p ≡ cond (has_parent (cond b (with_entry_at p (Some (Dir 448 false)) t) t) p) (Some (Dir 448 false)) None
      go true is = look_placed p (Some (Dir 448 false)) t ∙ sym (ap (λ (b : Bool). cond b (Some (Dir 448 false)) None) (parent_kept p (Some (Dir 448 false)) t is))
      go false is = absent ∙ sym (ap (λ (b : Bool). cond b (Some (Dir 448 false)) None) is)

  -- the parent of what stands before it is another
  pub with_dir_parent : (q : List ℕ) → slice_cmp nat_cmp q p ≡ Less → has_parent (with_dir p t) q ≡ has_parent t q
  with_dir_parent q before = go (parent q) refl
    where
      go : (o : Option (List ℕ)) → parent q ≡ o → dir_or_none (with_dir p t) o ≡ dir_or_none t o
      go (Some r) is = ap is_dir (with_dir_other r (false_from_ne_true _ (λ same.
          let one : p ≡ r = same_path-true p r same in
          one_way q p before (subst (λ (x : List ℕ). slice_cmp nat_cmp x q ≡ Less) (sym one) (parent_less q r is)))))
      go None is = refl

pub head_listed : (p : Vec ℕ Global) (rest : List (Vec ℕ Global)) → in_list (p ∷ rest) p.items ≡ true
head_listed p rest = ap (λ (b : Bool). b || in_list rest p.items) (same_path-self p.items)

-- how far the directories are
abbrev pub DirsSoFar : (List ℕ → Bool) → Image → List (Vec ℕ Global) → Image → Type 0
DirsSoFar is_named t rest u = record {
  sorted : IsStrictlySortedBy by_bytes rest;
  listed : (q : List ℕ) → in_list rest q ≡ true → is_named q ≡ true;
  before : (q : List ℕ) → is_named q ≡ true → in_list rest q ≡ false → AllByRecursion (λ (k : Vec ℕ Global). slice_cmp nat_cmp q k.items ≡ Less) rest;
  done : (q : List ℕ) → is_named q ≡ true → in_list rest q ≡ false → u.look q ≡ cond (has_parent u q) (Some (Dir 448 false)) None;
  todo : (q : List ℕ) → in_list rest q ≡ true → u.look q ≡ None;
  untouched : (q : List ℕ) → is_named q ≡ false → u.look q ≡ t.look q;
  same : (a b : List ℕ) → u.same a b ≡ t.same a b;
}

pub dirs_start : (is_named : List ℕ → Bool) (t : Image) (keys : List (Vec ℕ Global)) → IsStrictlySortedBy by_bytes keys → ((q : List ℕ) → in_list keys q ≡ is_named q) → ((q : List ℕ) → is_named q ≡ true → t.look q ≡ None) → DirsSoFar is_named t keys t
dirs_start is_named t keys sorted same absent = record {
  sorted = sorted;
  listed = λ q here. sym (same q) ∙ here;
  before = λ q named off. absurd (let on = same q ∙ named in cc);
  done = λ q named off. absurd (let on = same q ∙ named in cc);
  todo = λ q here. absent q (sym (same q) ∙ here);
  untouched = λ q off. refl;
  same = λ a b. refl;
}

not_before : (p : Vec ℕ Global) (rest : List (Vec ℕ Global)) (q : List ℕ) → AllByRecursion (λ (k : Vec ℕ Global). slice_cmp nat_cmp p.items k.items ≡ Less) rest → in_list rest q ≡ true → same_path p.items q ≡ false
not_before p [] q all here = cc
not_before p (k ∷ rest) q all here = ⊎_elim
    (λ one. false_from_ne_true _ (λ same.
    let e : k.items ≡ q = same_path-true k.items q one in
    let f : p.items ≡ q = same_path-true p.items q same in
    let less : slice_cmp nat_cmp q q ≡ Less = subst (λ (x : List ℕ). slice_cmp nat_cmp x q ≡ Less) f (subst (λ (x : List ℕ). slice_cmp nat_cmp p.items x ≡ Less) e all.0) in
    one_way q q less less))
    (λ later. not_before p rest q all.1 later)
    (one_of (same_path k.items q) (in_list rest q) here)
  where
    one_of : (a b : Bool) → (a || b) ≡ true → (a ≡ true) ⊎ (b ≡ true)
    one_of true b h = inl refl
    one_of false b h = inr h

module _ (is_named : List ℕ → Bool) (t u : Image) (p : Vec ℕ Global) (rest : List (Vec ℕ Global)) (so_far : DirsSoFar is_named t (p ∷ rest) u) (formed : IsImage u) where
  here_listed : in_list (p ∷ rest) p.items ≡ true
  here_listed = ap (λ (b : Bool). b || in_list rest p.items) (same_path-self p.items)

  absent_here : u.look p.items ≡ None
  absent_here = so_far.todo p.items here_listed

  in_rest : (q : List ℕ) → in_list rest q ≡ true → in_list (p ∷ rest) q ≡ true
  in_rest q here = rw here (last (same_path p.items q))
    where
      last : (b : Bool) → (b || true) ≡ true
      last true = refl
      last false = refl

  off_list : (q : List ℕ) → same_path p.items q ≡ false → in_list rest q ≡ false → in_list (p ∷ rest) q ≡ false
  off_list q off none = rw (off, none) refl

  pub dirs_next : DirsSoFar is_named t rest (with_dir p.items u)
  unfolding IsStrictlySortedBy
  dirs_next = record {
    sorted = so_far.sorted.1;
    listed = λ q here. so_far.listed q (in_rest q here);
    before = λ q named off. before q named off (same_path p.items q) refl;
    done = λ q named off. done q named off (same_path p.items q) refl;
    todo = λ q here. with_dir_other u p.items formed absent_here q (not_before p rest q so_far.sorted.0 here) ∙ so_far.todo q (in_rest q here);
    untouched = λ q off. with_dir_other u p.items formed absent_here q (other q off) ∙ so_far.untouched q off;
    same = λ a b. with_dir_same u p.items formed absent_here a b ∙ so_far.same a b;
  }
    where
      other : (q : List ℕ) → is_named q ≡ false → same_path p.items q ≡ false
      other q off = false_from_ne_true _ (λ same.
          let named = so_far.listed p.items here_listed in
          let e : p.items ≡ q = same_path-true p.items q same in
          let no : is_named p.items ≡ false = ap is_named e ∙ off in
          cc)

      before : (q : List ℕ) → is_named q ≡ true → in_list rest q ≡ false → (s : Bool) → same_path p.items q ≡ s → AllByRecursion (λ (k : Vec ℕ Global). slice_cmp nat_cmp q k.items ≡ Less) rest
      before q named off true same = subst (λ (x : List ℕ). AllByRecursion (λ (k : Vec ℕ Global). slice_cmp nat_cmp x k.items ≡ Less) rest) (same_path-true p.items q same) so_far.sorted.0
      before q named off false same = (so_far.before q named (off_list q same off)).1

      done : (q : List ℕ) → is_named q ≡ true → in_list rest q ≡ false → (s : Bool) → same_path p.items q ≡ s → (with_dir p.items u).look q ≡ cond (has_parent (with_dir p.items u) q) (Some (Dir 448 false)) None
      done q named off true same = subst (λ (x : List ℕ). (with_dir p.items u).look x ≡ cond (has_parent (with_dir p.items u) x) (Some (Dir 448 false)) None) (same_path-true p.items q same) (with_dir_here u p.items formed absent_here)
      done q named off false same =
          let none = off_list q same off in
          with_dir_other u p.items formed absent_here q same ∙ so_far.done q named none
          ∙ sym (ap (λ (b : Bool). cond b (Some (Dir 448 false)) None) (with_dir_parent u p.items formed absent_here q (so_far.before q named none).0))

pub dirs_end : (is_named : List ℕ → Bool) (t u : Image) → DirsSoFar is_named t [] u → HasDirs is_named t u
dirs_end is_named t u so_far = record { untouched = so_far.untouched; names = λ q named. so_far.done q named refl; same = so_far.same }

-- ---- junk

pub parent_junk : (p : List ℕ) → parent (junk_in p) ≡ Some p
parent_junk [] = refl
parent_junk (a ∷ p) = ap (λ (o : Option (List ℕ)). behind a o) (parent_junk p)

pub covers_junk : (p : List ℕ) → covers p (junk_in p) ≡ true
covers_junk [] = refl
covers_junk (a ∷ p) = rw (eq-eqb a a refl) (covers_junk p)

pub junk_parent : (p : List ℕ) (t : Image) → is_dir (t.look p) ≡ true → has_parent t (junk_in p) ≡ true
junk_parent p t dir = ap (dir_or_none t) (parent_junk p) ∙ dir

pub adds_put : (p j : List ℕ) (t u : Image) → j ≡ junk_in p → is_dir (t.look p) ≡ true → u ≡ cond (is_some (t.look j)) t (with_entry_at j (Some (File 384 [])) t) → AddsJunk p t u
adds_put p j t u is dir put = go (t.look (junk_in p)) refl (put ∙ ap (λ (x : List ℕ). cond (is_some (t.look x)) t (with_entry_at x (Some (File 384 [])) t)) is)
  where
    go : (e : Option Entry) → t.look (junk_in p) ≡ e → u ≡ cond (is_some (t.look (junk_in p))) t (with_entry_at (junk_in p) (Some (File 384 [])) t) → AddsJunk p t u
    go (Some e) at made = record {
      only = inl (made ∙ ap (λ (x : Option Entry). cond (is_some x) t (with_entry_at (junk_in p) (Some (File 384 [])) t)) at);
      made = λ d path none. absurd (let no : Some e ≡ None = sym at ∙ none in cc);
    }
    go None at made =
        let one : u ≡ with_entry_at (junk_in p) (Some (File 384 [])) t = made ∙ ap (λ (x : Option Entry). cond (is_some x) t (with_entry_at (junk_in p) (Some (File 384 [])) t)) at in
        record {
          only = inr (dir, at, one);
          made = λ d path none. ap (λ (x : Image). x.look (junk_in p)) one ∙ look_placed (junk_in p) (Some (File 384 [])) t;
        }

-- how far the junk is
abbrev pub JunkSoFar : (List ℕ → Bool) → Image → List (Vec ℕ Global) → Image → Type 0
JunkSoFar is_named t rest u = record {
  listed : (q : List ℕ) → in_list rest q ≡ true → is_named q ≡ true;
  old : (q : List ℕ) → is_some (t.look q) ≡ true → u.look q ≡ t.look q;
  fresh : (q : List ℕ) → t.look q ≡ None → (u.look q ≡ None) ⊎ (u.look q ≡ Some (File 384 []));
  junk : (p : List ℕ) → is_named p ≡ true → in_list rest p ≡ false → is_dir (t.look p) ≡ true → IsPath (junk_in p) → t.look (junk_in p) ≡ None → u.look (junk_in p) ≡ Some (File 384 []);
  nothing_else : (q : List ℕ) → t.look q ≡ None → ((p : List ℕ) → is_named p ≡ true → is_dir (t.look p) ≡ true → q ≡ junk_in p → ⊥) → u.look q ≡ None;
  same : (a b : List ℕ) → is_some (t.look a) ≡ true → u.same a b ≡ t.same a b;
  alone : (a b : List ℕ) → t.look a ≡ None → u.same a b ≡ true → b ≡ a;
}

pub junk_start : (is_named : List ℕ → Bool) (t : Image) (keys : List (Vec ℕ Global)) → IsImage t → ((q : List ℕ) → in_list keys q ≡ is_named q) → JunkSoFar is_named t keys t
junk_start is_named t keys formed same = record {
  listed = λ q here. sym (same q) ∙ here;
  old = λ q some. refl;
  fresh = λ q none. inl none;
  junk = λ p named off. absurd (let on = same p ∙ named in cc);
  nothing_else = λ q none others. none;
  same = λ a b some. refl;
  alone = λ a b none one. absurd (let file = (formed.files a b one).0 in let no : is_file (t.look a) ≡ false = ap is_file none in cc);
}

pub junk_end : (is_named : List ℕ → Bool) (t u : Image) → JunkSoFar is_named t [] u → HasJunk is_named t u
junk_end is_named t u so_far = record { old = so_far.old; fresh = so_far.fresh; junk = λ p named dir path none. so_far.junk p named refl dir path none; nothing_else = so_far.nothing_else; same = so_far.same; alone = so_far.alone }

pub some_or_none : (x : Option Entry) → (is_some x ≡ true) ⊎ (x ≡ None)
some_or_none (Some e) = inl refl
some_or_none None = inr refl

module _ (is_named : List ℕ → Bool) (t u v : Image) (p : Vec ℕ Global) (rest : List (Vec ℕ Global)) (so_far : JunkSoFar is_named t (p ∷ rest) u) (formed : IsImage u) (adds : AddsJunk p.items u v) where
  named_here : is_named p.items ≡ true
  named_here = so_far.listed p.items (ap (λ (b : Bool). b || in_list rest p.items) (same_path-self p.items))

  still_listed : (q : List ℕ) → in_list rest q ≡ true → is_named q ≡ true
  still_listed q here = so_far.listed q (rw here (last (same_path p.items q)))
    where
      last : (b : Bool) → (b || true) ≡ true
      last true = refl
      last false = refl

  -- a directory there now was one before
  was_dir : is_dir (u.look p.items) ≡ true → is_dir (t.look p.items) ≡ true
  was_dir dir = ⊎_elim
      (λ some. sym (ap is_dir (so_far.old p.items some)) ∙ dir)
      (λ none. absurd (⊎_elim
      (λ gone. let no : is_dir (u.look p.items) ≡ false = ap is_dir gone in cc)
      (λ file. let no : is_dir (u.look p.items) ≡ false = ap is_dir file in cc) (so_far.fresh p.items none)))
      (some_or_none (t.look p.items))

  -- what the file at the path of junk becomes
  here_junk : is_dir (t.look p.items) ≡ true → IsPath (junk_in p.items) → t.look (junk_in p.items) ≡ None → v.look (junk_in p.items) ≡ Some (File 384 [])
  here_junk dir path none = ⊎_elim
      (λ gone. adds.made dir_now path gone)
      (λ file. ⊎_elim (λ one. ap (λ (x : Image). x.look (junk_in p.items)) one ∙ file) (λ put. absurd (let gone = put.1 in cc)) adds.only)
      (so_far.fresh (junk_in p.items) none)
    where
      dir_now : is_dir (u.look p.items) ≡ true
      dir_now = ap is_dir (so_far.old p.items (dir_some (t.look p.items) dir)) ∙ dir
        where
          dir_some : (x : Option Entry) → is_dir x ≡ true → is_some x ≡ true
          dir_some (Some e) h = refl
          dir_some None h = cc

  unchanged : v ≡ u → JunkSoFar is_named t rest v
  unchanged one = record {
    listed = still_listed;
    old = λ q some. ap (λ (x : Image). x.look q) one ∙ so_far.old q some;
    fresh = λ q none. subst (λ (x : Image). (x.look q ≡ None) ⊎ (x.look q ≡ Some (File 384 []))) (sym one) (so_far.fresh q none);
    junk = λ q named off dir path none. junk q named off dir path none (same_path p.items q) refl;
    nothing_else = λ q none others. ap (λ (x : Image). x.look q) one ∙ so_far.nothing_else q none others;
    same = λ a b some. ap (λ (x : Image). x.same a b) one ∙ so_far.same a b some;
    alone = λ a b none same. so_far.alone a b none (sym (ap (λ (x : Image). x.same a b) one) ∙ same);
  }
    where
      junk : (q : List ℕ) → is_named q ≡ true → in_list rest q ≡ false → is_dir (t.look q) ≡ true → IsPath (junk_in q) → t.look (junk_in q) ≡ None → (s : Bool) → same_path p.items q ≡ s → v.look (junk_in q) ≡ Some (File 384 [])
      junk q named off dir path none true is =
          let e : q ≡ p.items = sym (same_path-true p.items q is) in
          subst (λ (x : List ℕ). v.look (junk_in x) ≡ Some (File 384 [])) (sym e) (here_junk (subst (λ (x : List ℕ). is_dir (t.look x) ≡ true) e dir) (subst (λ (x : List ℕ). IsPath (junk_in x)) e path) (subst (λ (x : List ℕ). t.look (junk_in x) ≡ None) e none))
      junk q named off dir path none false is = ap (λ (x : Image). x.look (junk_in q)) one ∙ so_far.junk q named (rw (is, off) refl) dir path none

  put : is_dir (u.look p.items) ≡ true → u.look (junk_in p.items) ≡ None → v ≡ with_entry_at (junk_in p.items) (Some (File 384 [])) u → JunkSoFar is_named t rest v
  put dir gone one = record {
    listed = still_listed;
    old = λ q some. other q (some_apart q some) ∙ so_far.old q some;
    fresh = λ q none. fresh q none (same_path j q) refl;
    junk = λ q named off dir path none. junk q named off dir path none (same_path p.items q) refl;
    nothing_else = λ q none others. other q (false_from_ne_true _ (λ same. others p.items named_here (was_dir dir) (sym (same_path-true j q same)))) ∙ so_far.nothing_else q none others;
    same = λ a b some. same a b some (covers j a) refl (covers j b) refl;
    alone = λ a b none one. alone_now a b none one (covers j a) refl (covers j b) refl;
  }
    where
      j : List ℕ
      j = junk_in p.items

      other : (q : List ℕ) → same_path j q ≡ false → v.look q ≡ u.look q
      other q off = ap (λ (x : Image). x.look q) one ∙ placed_other u j formed gone (Some (File 384 [])) q off

      at_here : v.look j ≡ Some (File 384 [])
      at_here = ap (λ (x : Image). x.look j) one ∙ look_placed j (Some (File 384 [])) u

      u_some : (q : List ℕ) → is_some (t.look q) ≡ true → is_some (u.look q) ≡ true
      u_some q some = ap is_some (so_far.old q some) ∙ some

      not_under : (q : List ℕ) → is_some (u.look q) ≡ true → covers j q ≡ false
      not_under q some = false_from_ne_true _ (λ c. let none = nothing_below u j formed gone q c in let no : is_some (u.look q) ≡ false = ap is_some none in cc)

      some_apart : (q : List ℕ) → is_some (t.look q) ≡ true → same_path j q ≡ false
      some_apart q some = uncovered j q (not_under q (u_some q some))

      fresh : (q : List ℕ) → t.look q ≡ None → (s : Bool) → same_path j q ≡ s → (v.look q ≡ None) ⊎ (v.look q ≡ Some (File 384 []))
      fresh q none true is = inr (ap v.look (sym (same_path-true j q is)) ∙ at_here)
      fresh q none false is = subst (λ (x : Option Entry). (x ≡ None) ⊎ (x ≡ Some (File 384 []))) (sym (other q is)) (so_far.fresh q none)

      junk : (q : List ℕ) → is_named q ≡ true → in_list rest q ≡ false → is_dir (t.look q) ≡ true → IsPath (junk_in q) → t.look (junk_in q) ≡ None → (s : Bool) → same_path p.items q ≡ s → v.look (junk_in q) ≡ Some (File 384 [])
      junk q named off dir path none true is =
          let e : p.items ≡ q = same_path-true p.items q is in
          ap (λ (x : List ℕ). v.look (junk_in x)) (sym e) ∙ at_here
      junk q named off dir path none false is =
          let before = so_far.junk q named (rw (is, off) refl) dir path none in
          let some : is_some (u.look (junk_in q)) ≡ true = ap is_some before in
          other (junk_in q) (uncovered j (junk_in q) (not_under (junk_in q) some)) ∙ before

      same_is : (a b : List ℕ) → v.same a b ≡ cond (covers j a || covers j b) (same_path j a && (same_path j b && true)) (u.same a b)
      same_is a b = ap (λ (x : Image). x.same a b) one

      same : (a b : List ℕ) → is_some (t.look a) ≡ true → (ca : Bool) → covers j a ≡ ca → (cb : Bool) → covers j b ≡ cb → v.same a b ≡ t.same a b
      same a b some true ia cb ib = absurd (let no = not_under a (u_some a some) in cc)
      same a b some false ia true ib =
          same_is a b ∙ rw (ia, ib, uncovered j a ia) (sym (alone-back u j formed gone b a ib) ∙ so_far.same a b some)
      same a b some false ia false ib = same_is a b ∙ rw (ia, ib) (so_far.same a b some)

      alone_now : (a b : List ℕ) → t.look a ≡ None → v.same a b ≡ true → (ca : Bool) → covers j a ≡ ca → (cb : Bool) → covers j b ≡ cb → b ≡ a
      alone_now a b none one false ia false ib = so_far.alone a b none (sym (rw (ia, ib) at (same_is a b)) ∙ one)
      alone_now a b none one true ia cb ib =
          let named : (same_path j a && (same_path j b && true)) ≡ true = sym (rw ia at (same_is a b)) ∙ one in
          let parts = and_parts (same_path j a) (same_path j b && true) named in
          sym (same_path-true j b (and_parts (same_path j b) true parts.1).0) ∙ same_path-true j a parts.0
      alone_now a b none one false ia true ib =
          let named : (same_path j a && (same_path j b && true)) ≡ true = sym (rw (ia, ib) at (same_is a b)) ∙ one in
          let parts = and_parts (same_path j a) (same_path j b && true) named in
          sym (same_path-true j b (and_parts (same_path j b) true parts.1).0) ∙ same_path-true j a parts.0

  pub junk_next : JunkSoFar is_named t rest v
  junk_next = ⊎_elim (λ one. unchanged one) (λ done. put done.0 done.1 done.2) adds.only
