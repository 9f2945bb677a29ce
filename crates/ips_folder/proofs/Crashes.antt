-- What calls made once more leave.
use Rattle.std.proofs.Common.{◌≡◌, ℕ, suc, ◌+◌, ◌-◌, ◌<◌, ◌≤◌, Bool, true, false, cond, ◌&&◌, ◌||◌, List, [], ◌∷◌, ◌++◌, length, take, drop, get_or, Option, Some, None, refl, sym, ◌∙◌, ap, subst, arith}
use Rattle.std.specs.List.{list_any, list_all}
use Rattle.std.proofs.lemmas.Bool.{and_parts}
use Rattle.std.proofs.lemmas.List.{take-append-drop, take_all, take_more, length-drop}
use Rattle.std.proofs.lemmas.List.Folds.{list_any-append, list_all-append}
use Rattle.std.proofs.Math.Seq.{drop-cons}
use Rattle.ips_text.specs.Path.{IsPath}
use Rattle.ips_text.proofs.Ancestry.{same_covers, same_path-true}
use Rattle.ips_text.specs.Ancestry.{same_path, covers, parent}
use Rattle.ips_outside.specs.Image.{Entry, Dir, File, Link, Other, Image, is_dir, is_file, has_parent, dir_or_none, with_mode}
use Rattle.ips_outside.specs.Change.{with_entry_at}
use Rattle.ips_outside.specs.Tearing.{IsTorn}
use Rattle.ips_outside.proofs.Agree.{is_dir-alike, is_file-alike}
use Rattle.ips_outside.proofs.Images.{image_ext}
use Rattle.ips_folder.specs.Calls.{CanMake, IsSole, has_mode}
use Rattle.ips_folder.specs.declared.call.Call.{Call}
use Rattle.ips_folder.specs.declared.call.Call.TheVariants as call
use Rattle.ips_folder.specs.History.{Moment, begun, effect, replay, change_of, zeroing, name_of, is_change, CanDo, CanAll, IsSynced}
use Rattle.ips_folder.specs.Crash.{without, touch, touches, name_it, names_it, is_name}
use Rattle.ips_folder.proofs.Replays.{effect_held, replay_append}
use Rattle.ips_folder.proofs.Kept.{Alike, IsKept, begun_kept, replay_kept}

-- ---- with mode 0

pub alike_none : (x y : Option Entry) → with_mode 0 x ≡ with_mode 0 y → y ≡ None → x ≡ None
alike_none (Some (Dir m f)) y e is = let none : with_mode 0 y ≡ None = ap (with_mode 0) is in cc
alike_none (Some (File m b)) y e is = let none : with_mode 0 y ≡ None = ap (with_mode 0) is in cc
alike_none (Some (Link g)) y e is = let none : with_mode 0 y ≡ None = ap (with_mode 0) is in cc
alike_none (Some Other) y e is = let none : with_mode 0 y ≡ None = ap (with_mode 0) is in cc
alike_none None y e is = refl

module _ (t u : Image) (alike : Alike t u) where
  alike_parent : (o : Option (List ℕ)) → dir_or_none u o ≡ dir_or_none t o
  alike_parent (Some q) = is_dir-alike (u.look q) (t.look q) (alike.look q)
  alike_parent None = refl

  alike_make : (p : List ℕ) → CanMake t p → CanMake u p
  alike_make p can = record { absent = alike_none (u.look p) (t.look p) (alike.look p) can.absent; parent = alike_parent (parent p) ∙ can.parent }

  alike_sole : (p : List ℕ) → IsSole t p → IsSole u p
  alike_sole p can = record { file = is_file-alike (u.look p) (t.look p) (alike.look p) ∙ can.file; sole = λ q same. can.sole q (sym (alike.same p q) ∙ same) }

  pub can_zeroing : (c : Call) → CanDo c t → CanDo (zeroing c) u
  can_zeroing (call.MakeDir path mode) can = (alike_make path.bytes can.0, can.1)
  can_zeroing (call.MakeFile path) can = alike_make path.bytes can
  can_zeroing (call.Append path bytes) can = alike_sole path.bytes can
  can_zeroing (call.MakeLink path target) can = alike_make path.bytes can
  can_zeroing (call.MakeHard path to) can = (alike_make path.bytes can.0, is_file-alike (u.look to.bytes) (t.look to.bytes) (alike.look to.bytes) ∙ can.1)
  can_zeroing (call.Remove path) can = tt
  can_zeroing (call.SetMode path mode) can = ((λ i. is_dir-alike (u.look path.bytes) (t.look path.bytes) (alike.look path.bytes) i || is_file-alike (u.look path.bytes) (t.look path.bytes) (alike.look path.bytes) i) ∙ can.0, omega arith)
  can_zeroing call.Sync can = tt

pub zeroed_next : (c : Call) (m : Moment) → is_change c ≡ true → change_of (zeroing c) m.zeroed ≡ (effect c m).zeroed
zeroed_next (call.MakeDir path mode) m is = refl
zeroed_next (call.MakeFile path) m is = refl
zeroed_next (call.Append path bytes) m is = refl
zeroed_next (call.MakeLink path target) m is = refl
zeroed_next (call.MakeHard path to) m is = refl
zeroed_next (call.Remove path) m is = refl
zeroed_next (call.SetMode path mode) m is = refl
zeroed_next call.Sync m is = cc

-- ---- names

whole_next : (c : Call) (m : Moment) (q : List ℕ) → is_change c ≡ true → (effect c m).state.whole q ≡ (touch (name_of c) q || m.state.whole q)
whole_next (call.MakeDir path mode) m q is = refl
whole_next (call.MakeFile path) m q is = refl
whole_next (call.Append path bytes) m q is = refl
whole_next (call.MakeLink path target) m q is = refl
whole_next (call.MakeHard path to) m q is = refl
whole_next (call.Remove path) m q is = refl
whole_next (call.SetMode path mode) m q is = refl
whole_next call.Sync m q is = cc

name_next : (c : Call) (m : Moment) (q : List ℕ) → is_change c ≡ true → is_name (effect c m) q ≡ (name_it (name_of c) q || is_name m q)
name_next (call.MakeDir path mode) m q is = refl
name_next (call.MakeFile path) m q is = refl
name_next (call.Append path bytes) m q is = refl
name_next (call.MakeLink path target) m q is = refl
name_next (call.MakeHard path to) m q is = refl
name_next (call.Remove path) m q is = refl
name_next (call.SetMode path mode) m q is = refl
name_next call.Sync m q is = cc

or_nothing : (b : Bool) → (b || false) ≡ b
or_nothing true = refl
or_nothing false = refl

regroup : (a b c d : Bool) → d ≡ (b || (a || c)) → d ≡ ((a || b) || c)
regroup true true c d e = e
regroup true false c d e = e
regroup false b c d e = e

all_first : (c : Call) (calls : List Call) → list_all is_change (c ∷ calls) ≡ true → (is_change c ≡ true) × (list_all is_change calls ≡ true)
all_first c calls all = and_parts (is_change c) (list_all is_change calls) all

pub whole_all : (calls : List Call) (m : Moment) (q : List ℕ) → list_all is_change calls ≡ true → (replay calls m).state.whole q ≡ (touches calls q || m.state.whole q)
whole_all [] m q all = refl
whole_all (c ∷ calls) m q all =
    let parts = all_first c calls all in
    regroup (touch (name_of c) q) (touches calls q) (m.state.whole q) _ (whole_all calls (effect c m) q parts.1 ∙ ap (λ (b : Bool). touches calls q || b) (whole_next c m q parts.0))

pub name_all : (calls : List Call) (m : Moment) (q : List ℕ) → list_all is_change calls ≡ true → is_name (replay calls m) q ≡ (names_it calls q || is_name m q)
name_all [] m q all = refl
name_all (c ∷ calls) m q all =
    let parts = all_first c calls all in
    regroup (name_it (name_of c) q) (names_it calls q) (is_name m q) _ (name_all calls (effect c m) q parts.1 ∙ ap (λ (b : Bool). names_it calls q || b) (name_next c m q parts.0))

pub path_of_name : (o : Option (List ℕ)) (p q : List ℕ) → o ≡ Some p → IsPath p → name_it o q ≡ true → IsPath q
path_of_name o p q is path it = subst IsPath (same_path-true p q (ap (λ (x : Option (List ℕ)). name_it x q) (sym is) ∙ it)) path

-- ---- a walk over calls

pub all_taken : (calls : List Call) (i : ℕ) → length calls ≤ i → take i calls ≡ calls
all_taken calls i le = take_all i calls le

pub turned : (a b : Bool) → (a || b) ≡ (b || a)
turned true true = refl
turned true false = refl
turned false true = refl
turned false false = refl

pub of_either : (P : Type 0) (a b : Bool) → (a || b) ≡ true → (a ≡ true → P) → (b ≡ true → P) → P
of_either P true b e f g = f refl
of_either P false b e f g = g e

can_parts : (front rest : List Call) (m : Moment) → CanAll (front ++ rest) m.state.held → CanAll front m.state.held × CanAll rest (replay front m).state.held
can_parts [] rest m all = (tt, all)
can_parts (c ∷ front) rest m all =
    let later = can_parts front rest (effect c m) (subst (CanAll (front ++ rest)) (sym (effect_held c m)) all.1) in
    ((all.0, subst (CanAll front) (effect_held c m) later.0), later.1)

module _ (calls : List Call) (t : Image) where
  -- after so many of them
  abbrev pub at_call : ℕ → Moment
  at_call i = replay (take i calls) (begun t)

  pub at_kept : (i : ℕ) → IsKept (at_call i)
  at_kept i = replay_kept (take i calls) (begun t) (begun_kept t)

  pub at_end : (i : ℕ) → length calls ≤ i → at_call i ≡ replay calls (begun t)
  at_end i le = ap (λ (l : List Call). replay l (begun t)) (take_all i calls le)

  module _ (i : ℕ) (c : Call) (lt : i < length calls) (is : c ≡ get_or calls i c) where
    pub taken : take (i + 1) calls ≡ take i calls ++ c ∷ []
    taken = take_more calls i c lt ∙ ap (λ (x : Call). take i calls ++ x ∷ []) (sym is)

    pub at_next : at_call (i + 1) ≡ effect c (at_call i)
    at_next = ap (λ (l : List Call). replay l (begun t)) taken ∙ replay_append (take i calls) (c ∷ []) (begun t)

    left : drop i calls ≡ c ∷ drop (suc i) calls
    left = drop-cons calls i c lt ∙ ap (λ (x : Call). x ∷ drop (suc i) calls) (sym is)

    pub can_item : CanAll calls t → CanDo c (at_call i).state.held
    can_item can =
        let halves = can_parts (take i calls) (drop i calls) (begun t) (subst (λ (l : List Call). CanAll l t) (sym (take-append-drop i calls)) can) in
        (subst (λ (l : List Call). CanAll l (at_call i).state.held) left halves.1).0

    pub is_item : list_all is_change calls ≡ true → is_change c ≡ true
    is_item all =
        let halves = and_parts (list_all is_change (take i calls)) (list_all is_change (drop i calls)) (sym (list_all-append is_change (take i calls) (drop i calls)) ∙ ap (list_all is_change) (take-append-drop i calls) ∙ all) in
        (all_first c (drop (suc i) calls) (ap (list_all is_change) (sym left) ∙ halves.1)).0

    pub touches_next : (q : List ℕ) → touches (take (i + 1) calls) q ≡ (touches (take i calls) q || touch (name_of c) q)
    touches_next q = ap (λ (l : List Call). touches l q) taken ∙ list_any-append (λ (c : Call). touch (name_of c) q) (take i calls) (c ∷ []) ∙ ap (λ (b : Bool). touches (take i calls) q || b) (or_nothing (touch (name_of c) q))

    pub names_next : (q : List ℕ) → names_it (take (i + 1) calls) q ≡ (names_it (take i calls) q || name_it (name_of c) q)
    names_next q = ap (λ (l : List Call). names_it l q) taken ∙ list_any-append (λ (c : Call). name_it (name_of c) q) (take i calls) (c ∷ []) ∙ ap (λ (b : Bool). names_it (take i calls) q || b) (or_nothing (name_it (name_of c) q))

-- ---- taking away

gone_look : (c g : Bool) (x : Option Entry) → cond c None (cond g None x) ≡ cond (g || c) None x
gone_look true true x = refl
gone_look true false x = refl
gone_look false true x = refl
gone_look false false x = refl

gone_same : (c d g h x : Bool) → cond (c || d) false (cond (g || h) false x) ≡ cond ((g || c) || (h || d)) false x
gone_same true d true h x = refl
gone_same true d false h x = refl
gone_same false true true h x = refl
gone_same false true false true x = refl
gone_same false true false false x = refl
gone_same false false true h x = refl
gone_same false false false true x = refl
gone_same false false false false x = refl

pub without_more : (gone more : List ℕ → Bool) (t : Image) → without more (without gone t) ≡ without (λ q. gone q || more q) t
without_more gone more t = image_ext _ _ (λ q. gone_look (more q) (gone q) (t.look q)) (λ a b. gone_same (more a) (more b) (gone a) (gone b) (t.same a b))

pub without_same : (gone more : List ℕ → Bool) (t : Image) → ((q : List ℕ) → more q ≡ gone q) → without more t ≡ without gone t
without_same gone more t same = ap (λ (g : List ℕ → Bool). without g t) (λ i q. same q i)

placed_look : (s c : Bool) (x : Option Entry) → (s ≡ true → c ≡ true) → cond s None (cond c None x) ≡ cond c None x
placed_look true true x sc = refl
placed_look true false x sc = absurd (let no = sc refl in cc)
placed_look false c x sc = refl

placed_same : (c s d x : Bool) → cond c (s && (d && false)) x ≡ cond c false x
placed_same true true true x = refl
placed_same true true false x = refl
placed_same true false d x = refl
placed_same false s d x = refl

pub placed_without : (p : List ℕ) (t : Image) → with_entry_at p None t ≡ without (covers p) t
placed_without p t = image_ext _ _ (λ q. placed_look (same_path p q) (covers p q) (t.look q) (same_covers p q)) (λ a b. placed_same (covers p a || covers p b) (same_path p a) (same_path p b) (t.same a b))

-- ---- since the last sync

module _ (first : Image) (calls : List Call) (count : ℕ) (synced : IsSynced first calls count) (can : CanAll calls first) where
  split : calls ≡ take count calls ++ drop count calls
  split = sym (take-append-drop count calls)

  parts : CanAll (take count calls) first × CanAll (drop count calls) (replay (take count calls) (begun first)).state.held
  parts = can_parts (take count calls) (drop count calls) (begun first) (subst (λ (l : List Call). CanAll l first) split can)

  pub can_until : CanAll (take count calls) first
  can_until = parts.0

  pub safe_until : (replay (take count calls) (begun first)).state.held ≡ (replay calls (begun first)).safe
  safe_until = ap (λ (m : Moment). m.state.held) synced.safe

  pub can_since : CanAll (drop count calls) (replay calls (begun first)).safe
  can_since = subst (CanAll (drop count calls)) safe_until parts.1

  pub since_now : replay (drop count calls) (begun (replay calls (begun first)).safe) ≡ replay calls (begun first)
  since_now = sym (ap (λ (l : List Call). replay l (begun first)) split ∙ replay_append (take count calls) (drop count calls) (begun first) ∙ ap (replay (drop count calls)) synced.safe)

pub all_behind : (n : ℕ) (calls : List Call) → take (length calls - n) (drop n calls) ≡ drop n calls
all_behind n calls = take_all (length calls - n) (drop n calls) (omega (arith, length-drop n calls))

-- ---- what is left

module _ (calls : List Call) (safe : Image) (now : Moment) (all : list_all is_change calls ≡ true) (ends : replay calls (begun safe) ≡ now) where
  pub zeroed_since : (replay calls (begun safe)).zeroed ≡ now.zeroed
  zeroed_since = ap (λ (m : Moment). m.zeroed) ends

  pub whole_since : (q : List ℕ) → touches calls q ≡ now.state.whole q
  whole_since q = sym (or_nothing (touches calls q)) ∙ sym (whole_all calls (begun safe) q all) ∙ ap (λ (m : Moment). m.state.whole q) ends

  pub names_since : (q : List ℕ) → names_it calls q ≡ is_name now q
  names_since q = sym (or_nothing (names_it calls q)) ∙ sym (name_all calls (begun safe) q all) ∙ ap (λ (m : Moment). is_name m q) ends

  pub gone_since : without (touches calls) now.zeroed ≡ without now.state.whole now.zeroed
  gone_since = without_same now.state.whole (touches calls) now.zeroed whole_since

pub torn_as : (is_named named : List ℕ → Bool) (t u left : Image) → t ≡ u → ((q : List ℕ) → is_named q ≡ named q) → IsTorn is_named t left → IsTorn named u left
torn_as is_named named t u left one same torn = subst (λ (x : Image). IsTorn named x left) one (subst (λ (n : List ℕ → Bool). IsTorn n t left) (λ i q. same q i) torn)

pub gone_name : (gone : List ℕ → Bool) (t : Image) (q : List ℕ) → gone q ≡ true → (without gone t).look q ≡ None
gone_name gone t q on = rw on refl
