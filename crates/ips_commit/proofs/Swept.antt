-- Taking away what is left behind a closed gate.
use Rattle.std.proofs.Common.{◌≡◌, ◌⊎◌, inl, inr, ⊎_elim, ℕ, ◌+◌, ◌<◌, Bool, true, false, cond, ◌||◌, ◌&&◌, ◌==◌, List, [], ◌∷◌, ◌++◌, length, take, get_or, Option, None, refl, sym, ◌∙◌, ap, subst}
use Rattle.std.specs.List.{filter, list_all, list_any}
use Rattle.std.specs.Cmp.Lexicographic.{pointwise}
use Rattle.std.proofs.lemmas.Bool.{or_cases, false_from_ne_true}
use Rattle.std.proofs.lemmas.List.{take_more}
use Rattle.std.proofs.lemmas.List.Elements.{filter-append}
use Rattle.std.proofs.lemmas.List.Folds.{list_all-map, list_any_more}
use Rattle.std.proofs.lemmas.List.Sums.{AllPass-from_list_all}
use Rattle.ips_text.specs.Ancestry.{same_path, covers}
use Rattle.ips_text.specs.Kept.{Kept}
use Rattle.ips_outside.specs.Image.{Entry, Image, Agrees}
use Rattle.ips_outside.specs.Change.{with_entry_at}
use Rattle.ips_outside.specs.State.{nowhere}
use Rattle.ips_outside.specs.Outside.{Outside}
use Rattle.ips_outside.specs.Children.{path_bytes}
use Rattle.ips_steps.specs.Steps.{stage_name}
use Rattle.ips_steps.specs.Private.{journal_name, mark_front, begins}
use Rattle.ips_steps.proofs.Lists.{clash}
use Rattle.ips_folder.proofs.Crashes.{alike_none}
use Rattle.ips_rehearse.specs.Tried.{dir_name, Passed}
use Rattle.ips_rehearse.specs.Opening.{LeavesOpen}
use Rattle.ips_rehearse.proofs.Passing.{pass_then}
use Rattle.ips_commit.specs.Pending.{IsSwept, WasOpened}
use Rattle.ips_steps.proofs.PrivateNames.{begins_below}

-- ---- names of marks

pub begins_is : (p s : List ℕ) → pointwise ◌==◌ p (take (length p) s) ≡ begins p s
begins_is [] s = refl
begins_is (a ∷ p) [] = refl
begins_is (a ∷ p) (b ∷ s) = ap (λ (x : Bool). (a == b) && x) (begins_is p s)

-- what isn't a mark's is not at or below a mark
pub off_mark : (p : List ℕ) → begins mark_front p ≡ true → (q : List ℕ) → begins mark_front q ≡ false → covers p q ≡ false
off_mark p own q off = false_from_ne_true _ (λ c. clash (begins mark_front q) (begins_below mark_front p q own c) off)

pub own_at : (marks : List Kept) (i : ℕ) (m : Kept) → list_all (begins mark_front) (path_bytes marks) ≡ true → i < length marks → m ≡ get_or marks i m → begins mark_front m.bytes ≡ true
own_at marks i m own lt is =
    let all : list_all (λ (k : Kept). begins mark_front k.bytes) marks ≡ true = sym (list_all-map (begins mark_front) (λ (k : Kept). k.bytes) marks) ∙ own in
    ap (λ (k : Kept). begins mark_front k.bytes) is ∙ AllPass-from_list_all (λ (k : Kept). begins mark_front k.bytes) marks all i m lt

any_bytes : (q : List ℕ) (marks : List Kept) → list_any (λ m. covers m q) (path_bytes marks) ≡ list_any (λ (k : Kept). covers k.bytes q) marks
any_bytes q [] = refl
any_bytes q (m ∷ marks) = ap (λ (x : Bool). covers m.bytes q || x) (any_bytes q marks)

-- ---- the marks among paths

bytes_more : (paths : List Kept) (i : ℕ) (p : Kept) → i < length paths → p ≡ get_or paths i p → path_bytes (take (i + 1) paths) ≡ path_bytes (take i paths) ++ p.bytes ∷ []
bytes_more paths i p lt is = ap path_bytes (take_more paths i p lt) ∙ bytes_append (take i paths) (get_or paths i p) ∙ ap (λ (k : Kept). path_bytes (take i paths) ++ k.bytes ∷ []) (sym is)
  where
    bytes_append : (front : List Kept) (k : Kept) → path_bytes (front ++ k ∷ []) ≡ path_bytes front ++ k.bytes ∷ []
    bytes_append [] k = refl
    bytes_append (x ∷ front) k = ap (λ (l : List (List ℕ)). x.bytes ∷ l) (bytes_append front k)

module _ (marks paths : List Kept) (i : ℕ) (p : Kept) (lt : i < length paths) (is : p ≡ get_or paths i p) (so_far : path_bytes marks ≡ filter (begins mark_front) (path_bytes (take i paths))) where
  filtered : filter (begins mark_front) (path_bytes (take (i + 1) paths)) ≡ filter (begins mark_front) (path_bytes (take i paths)) ++ cond (begins mark_front p.bytes) (p.bytes ∷ []) []
  filtered = ap (filter (begins mark_front)) (bytes_more paths i p lt is) ∙ filter-append (begins mark_front) (path_bytes (take i paths)) (p.bytes ∷ [])

  pub one_mark_more : (copy : Kept) → begins mark_front p.bytes ≡ true → copy.bytes ≡ p.bytes → path_bytes (marks ++ copy ∷ []) ≡ filter (begins mark_front) (path_bytes (take (i + 1) paths))
  one_mark_more copy own same = appended marks ∙ ap (λ (l : List (List ℕ)). l ++ p.bytes ∷ []) so_far ∙ sym (filtered ∙ ap (λ (b : Bool). filter (begins mark_front) (path_bytes (take i paths)) ++ cond b (p.bytes ∷ []) []) own)
    where
      appended : (front : List Kept) → path_bytes (front ++ copy ∷ []) ≡ path_bytes front ++ p.bytes ∷ []
      appended [] = ap (λ (l : List ℕ). l ∷ []) same
      appended (x ∷ front) = ap (λ (l : List (List ℕ)). x.bytes ∷ l) (appended front)

  pub no_mark_more : begins mark_front p.bytes ≡ false → path_bytes marks ≡ filter (begins mark_front) (path_bytes (take (i + 1) paths))
  no_mark_more other = so_far ∙ sym (filtered ∙ ap (λ (b : Bool). filter (begins mark_front) (path_bytes (take i paths)) ++ cond b (p.bytes ∷ []) []) other ∙ none_behind (filter (begins mark_front) (path_bytes (take i paths))))
    where
      none_behind : (l : List (List ℕ)) → l ++ [] ≡ l
      none_behind [] = refl
      none_behind (x ∷ l) = ap (λ (r : List (List ℕ)). x ∷ r) (none_behind l)

-- ---- what is gone

gone : (s c : Bool) (x : Option Entry) → (x ≡ None) ⊎ (c ≡ true) → cond s None (cond c None x) ≡ None
gone true c x h = refl
gone false true x h = refl
gone false false x (inl none) = none
gone false false x (inr bad) = cc

pub removed_gone : (p q : List ℕ) (t : Image) → covers p q ≡ true → (with_entry_at p None t).look q ≡ None
removed_gone p q t c = gone (same_path p q) (covers p q) (t.look q) (inr c)

pub removed_none : (p q : List ℕ) (t : Image) → t.look q ≡ None → (with_entry_at p None t).look q ≡ None
removed_none p q t none = gone (same_path p q) (covers p q) (t.look q) (inl none)

-- one mark less
pub gone_more : (marks : List Kept) (i : ℕ) (m : Kept) (t u : Image) (q : List ℕ) → i < length marks → m ≡ get_or marks i m → u ≡ with_entry_at m.bytes None t
    → (list_any (λ (k : Kept). covers k.bytes q) (take i marks) ≡ true → t.look q ≡ None) → list_any (λ (k : Kept). covers k.bytes q) (take (i + 1) marks) ≡ true → u.look q ≡ None
gone_more marks i m t u q lt is made before now = ap (λ (v : Image). v.look q) made ∙ gone (same_path m.bytes q) (covers m.bytes q) (t.look q)
    (⊎_elim (λ earlier. inl (before earlier)) (λ here. inr (ap (λ (k : Kept). covers k.bytes q) is ∙ here))
    (or_cases (list_any (λ (k : Kept). covers k.bytes q) (take i marks)) (covers (get_or marks i m).bytes q) (sym (list_any_more (λ (k : Kept). covers k.bytes q) marks i m lt) ∙ now)))

pub all_bytes : (marks : List Kept) (q : List ℕ) → list_any (λ m. covers m q) (path_bytes marks) ≡ true → list_any (λ (k : Kept). covers k.bytes q) marks ≡ true
all_bytes marks q is = sym (any_bytes q marks) ∙ is

pub swept_all : (marks : List (List ℕ)) (t a b c : Image) → a ≡ with_entry_at journal_name None t → b ≡ with_entry_at stage_name None a → ((q : List ℕ) → list_any (λ m. covers m q) marks ≡ true → c.look q ≡ None) → ((q : List ℕ) → b.look q ≡ None → c.look q ≡ None)
    → IsSwept marks t c
swept_all marks t a b c first second rest none = record {
  stage = λ q at. none q (ap (λ (v : Image). v.look q) second ∙ removed_gone stage_name q a at);
  journal = λ q at. none q (ap (λ (v : Image). v.look q) second ∙ removed_none stage_name q a (ap (λ (v : Image). v.look q) first ∙ removed_gone journal_name q t at));
  marks = rest;
  nothing_new = λ q absent. none q (ap (λ (v : Image). v.look q) second ∙ removed_none stage_name q a (ap (λ (v : Image). v.look q) first ∙ removed_none journal_name q t absent));
}

-- ---- what was left, with the directory of a trial opened first

pub swept_behind : (marks : List (List ℕ)) (loose : List ℕ → Bool) (t u v : Image) → Agrees nowhere loose t u → IsSwept marks u v → IsSwept marks t v
swept_behind marks loose t u v h swept = record {
  stage = swept.stage;
  journal = swept.journal;
  marks = swept.marks;
  nothing_new = λ q none. swept.nothing_new q (alike_none (u.look q) (t.look q) (h.but_mode q refl) none);
}

-- it was open in a run behind one that changed nothing
pub opened_behind : {F : Type 0} (o : Outside F) (old mid new : F) → Passed o old mid → (o.state mid).held ≡ (o.state old).held → WasOpened o mid new → WasOpened o old new
opened_behind o old mid new passed same w = record {
  at = w.at;
  since = pass_then o old mid w.at passed w.since;
  until = w.until;
  held = subst (λ (t : Image). LeavesOpen dir_name t (o.state w.at).held) same w.held;
}
