-- A directory is emptied or not by its children.
use Rattle.std.proofs.Common.{◌≡◌, ◌⊎◌, inl, inr, ℕ, Bool, true, false, cond, not, ◌&&◌, ◌||◌, List, Option, Some, None, is_none, is_some, refl, sym, ◌∙◌, ap, subst}
use Rattle.std.specs.List.{list_all, list_any}
use Rattle.std.proofs.lemmas.Bool.{and_from, and_parts, false_from_ne_true, not-true, not_from_false, or_cases, or_left, or_right}
use Rattle.ips_text.specs.Ancestry.{covers, is_below, parent, same_path}
use Rattle.ips_text.proofs.Ancestry.{at_parent_of, covers-self, covers_trans, same_path-self, same_path-true}
use Rattle.ips_outside.specs.Children.{is_child, is_directory, is_foreign}
use Rattle.ips_outside.specs.Image.{Dir, Entry, File, Image, IsImage, Link, Other, is_dir}
use Rattle.ips_steps.proofs.Lists.{clash}
use Rattle.ips_after.specs.After.{IsEmptied, IsFilled, by_itself, change_settled, is_support, linked, linked_as, may_empty, over_or, stays_in, supported, supported_as, unstated, whole_dir}
use Rattle.ips_after.specs.Change.{Changes, Kept, Laid, cleared, makes, replaces}
use Rattle.ips_after.specs.Lists.{listed}
use Rattle.ips_after.specs.Request.{IsRequest, Request, WantDir, WantFile, WantHard, WantLink, Wanted}
use Rattle.ips_after.proofs.Changed.{reach_of, reached_from}
use Rattle.ips_after.proofs.Fits.{any_from, any_of, below_covers, below_of, below_trans}
use Rattle.ips_after.proofs.Ordered.{above_parent}
use Rattle.ips_change.specs.survey.Marks.{holds_below}
use Rattle.ips_emptied.specs.Emptying.{IsEmptiedAt, is_candidate}
use Rattle.ips_emptied.proofs.Remaining.{settled_there}
use Rattle.ips_emptied.proofs.Placed.{all_at, child_of, fails_at}

unstated_kept : (r : Request) (o : Option Wanted) (e : Option Entry) → unstated o ≡ true → by_itself r o None e ≡ Kept
unstated_kept r (Some (WantDir None)) e h = refl
unstated_kept r (Some (WantDir (Some m))) e h = cc
unstated_kept r (Some (WantFile payload m preserve)) e h = cc
unstated_kept r (Some (WantLink g)) e h = cc
unstated_kept r (Some (WantHard to)) e h = cc
unstated_kept r None e h = cc

-- nothing becomes of a directory that may be emptied, but for that
pub kept_at : (r : Request) (t : Image) (q : List ℕ) → may_empty r t q ≡ true → change_settled r t q ≡ Kept
kept_at r t q may =
    let one = and_parts (unstated (r.old.at q)) _ may in
    let two = and_parts (is_none (r.new.at q)) _ one.1 in
    let three = and_parts (whole_dir (t.look q)) _ two.1 in
    let four = and_parts (is_none (r.over.at q)) _ three.1 in
    let new = none_of (r.new.at q) two.0 in
    ap (λ (o : Option (Option Entry)). over_or o (supported r t q)) (none_of (r.over.at q) four.0)
    ∙ ap (supported_as r t q) new
    ∙ ap (λ (b : Bool). cond b (Laid (Dir 493 false)) (linked r t q)) (not-true _ four.1)
    ∙ ap (linked_as r t q) new
    ∙ ap (λ (o : Option Wanted). by_itself r (r.old.at q) o (t.look q)) new
    ∙ unstated_kept r (r.old.at q) (t.look q) one.0
  where
    none_of : {A : Type 0} (o : Option A) → is_none o ≡ true → o ≡ None
    none_of None h = refl
    none_of (Some x) h = cc

-- a directory stands there, whole but for foreign names
whole_is : (e : Option Entry) → whole_dir e ≡ (is_dir e && not (is_foreign e))
whole_is (Some (Dir m f)) = refl
whole_is (Some (File m b)) = refl
whole_is (Some (Link g)) = refl
whole_is (Some Other) = refl
whole_is None = refl

-- a directory that may be emptied stands, without foreign names
pub may_whole : (r : Request) (t : Image) (q : List ℕ) → may_empty r t q ≡ true → (is_dir (t.look q) ≡ true) × (is_foreign (t.look q) ≡ false)
may_whole r t q may =
    let one = and_parts (unstated (r.old.at q)) _ may in
    let two = and_parts (is_none (r.new.at q)) _ one.1 in
    let three = and_parts (whole_dir (t.look q)) _ two.1 in
    let both = and_parts (is_dir (t.look q)) (not (is_foreign (t.look q))) (sym (whole_is (t.look q)) ∙ three.0) in
    (both.0, not-true _ both.1)

-- a directory may be emptied where rows say so and one stands there without foreign names, unless something is made below
pub may_parts : (r : Request) (t : Image) (paths : List (List ℕ)) (q : List ℕ) → holds_below (λ x. makes (change_settled r t x)) paths q ≡ false → may_empty r t q ≡ (is_candidate r t paths q && (is_dir (t.look q) && not (is_foreign (t.look q))))
may_parts r t paths q unmade = go (unstated (r.old.at q)) (is_none (r.new.at q)) (is_none (r.over.at q)) (not (is_support r t q)) (whole_dir (t.look q)) (is_dir (t.look q) && not (is_foreign (t.look q))) (holds_below (λ x. makes (change_settled r t x)) paths q) (whole_is (t.look q)) unmade
  where
    go : (a b c d w f h : Bool) → w ≡ f → h ≡ false → (a && (b && (w && (c && d)))) ≡ ((a && (b && (c && (d && not h)))) && f)
    go a b c d w f true e k = cc
    go false b c d w f false e k = refl
    go true false c d w f false e k = refl
    go true true false d true f false e k = refl
    go true true false d false f false e k = refl
    go true true true false true f false e k = refl
    go true true true false false f false e k = refl
    go true true true true true f false e k = e
    go true true true true false f false e k = e

module _ (r : Request) (t : Image) (paths : List (List ℕ)) (good : IsRequest r) (formed : IsImage t) (quiet : (q : List ℕ) → listed paths q ≡ false → change_settled r t q ≡ Kept) where
  abbrev settled : Changes
  settled = change_settled r t

  abbrev made : List ℕ → Bool
  made q = makes (settled q)

  -- what is made stays
  made_stays : (x : List ℕ) → made x ≡ true → stays_in r t x ≡ true
  made_stays x h = and_from _ _ (settled_there r t good formed x ∙ or_left _ _ h) (not_from_false _ (false_from_ne_true _ (λ m. clash (makes (settled x)) h (ap makes (kept_at r t x m)))))

  -- and so does what stands, where nothing takes it
  stands_stays : (x : List ℕ) → is_some (t.look x) ≡ true → cleared settled x ≡ false → may_empty r t x ≡ false → stays_in r t x ≡ true
  stands_stays x there clear may = and_from _ _ (settled_there r t good formed x ∙ or_right (made x) _ (and_from _ _ (not_from_false _ clear) there)) (not_from_false _ may)

  -- nothing else stays
  record Stays (x : List ℕ) : Type 0 where
    whole : may_empty r t x ≡ false
    how : (made x ≡ true) ⊎ ((not (cleared settled x) && is_some (t.look x)) ≡ true)

  stays_how : (x : List ℕ) → stays_in r t x ≡ true → Stays x
  stays_how x h =
      let parts = and_parts _ (not (may_empty r t x)) h in
      record { whole = not-true _ parts.1; how = or_cases (made x) _ (sym (settled_there r t good formed x) ∙ parts.0) }

  pub not_may : (q : List ℕ) → may_empty r t q ≡ false → IsEmptiedAt r t q false
  not_may q h = record { only = λ e. clash false e refl; empty = λ x e up. clash false e refl; full = λ m e. clash _ m h }

  -- where something is made below, that stays
  pub holds_made : (q : List ℕ) → holds_below made paths q ≡ true → IsEmptiedAt r t q false
  holds_made q h =
      let x = any_of (λ y. is_below q y && made y) paths h in
      let parts = and_parts (is_below q x.path) (made x.path) x.holds in
      record { only = λ e. clash false e refl; empty = λ y e up. clash false e refl; full = λ m e. record { path = x.path; inside = parts.0; left = made_stays x.path parts.1 } }

  unmade : (q x : List ℕ) → holds_below made paths q ≡ false → is_below q x ≡ true → made x ≡ false
  unmade q x none up = false_from_ne_true _ (λ m. go (listed paths x) refl m)
    where
      go : (b : Bool) → listed paths x ≡ b → made x ≡ true → ⊥
      go true on m = clash _ (any_from (λ y. is_below q y && made y) paths x on (and_from _ _ up m)) none
      go false off m = clash (makes (settled x)) m (ap makes (quiet x off))

  -- nothing is left below what goes or is replaced
  pub all_taken : (q : List ℕ) → may_empty r t q ≡ true → holds_below made paths q ≡ false → cleared settled q ≡ true → IsEmptiedAt r t q true
  all_taken q may none gone = record { only = λ e. may; empty = λ x e up. false_from_ne_true _ (λ s. go x up (stays_how x s).how); full = λ m e. clash true refl e }
    where
      go : (x : List ℕ) → is_below q x ≡ true → (made x ≡ true) ⊎ ((not (cleared settled x) && is_some (t.look x)) ≡ true) → ⊥
      go x up (inl m) = clash (made x) m (unmade q x none up)
      go x up (inr s) =
          let z = reach_of (λ p. replaces (settled p)) q gone in
          clash (cleared settled x) (reached_from (λ p. replaces (settled p)) z.at x (covers_trans z.at q x z.over (below_covers q x up)) z.holds) (not-true _ (and_parts (not (cleared settled x)) _ s).0)

  -- a child goes: it is removed or replaced, or emptied
  abbrev Goes : List ℕ → Type 0
  Goes c = (replaces (settled c) ≡ true) ⊎ IsEmptiedAt r t c true

  dir_some : (e : Option Entry) → is_dir e ≡ true → is_some e ≡ true
  dir_some (Some x) h = refl
  dir_some None h = cc

  absent_none : (e : Option Entry) → is_some e ≡ true → is_none e ≡ true → ⊥
  absent_none (Some x) h k = cc
  absent_none None h k = cc

  -- what is above something stands
  there_above : (c x : List ℕ) → covers c x ≡ true → is_some (t.look x) ≡ true → is_some (t.look c) ≡ true
  there_above c x over there = go (same_path c x) refl
    where
      either : (is_none (t.look x) ≡ true) ⊎ (is_dir (t.look c) ≡ true) → is_some (t.look c) ≡ true
      either (inl none) = absurd (absent_none (t.look x) there none)
      either (inr dir) = dir_some (t.look c) dir

      go : (b : Bool) → same_path c x ≡ b → is_some (t.look c) ≡ true
      go true same = ap (λ (y : List ℕ). is_some (t.look y)) (same_path-true c x same) ∙ there
      go false apart = either (or_cases _ _ (formed.below_dirs c x over apart))

  -- where all children go nothing is left
  pub all_gone : (q : List ℕ) → may_empty r t q ≡ true → holds_below made paths q ≡ false → ((c : List ℕ) → is_child t q c ≡ true → Goes c) → IsEmptiedAt r t q true
  all_gone q may none goes = record { only = λ e. may; empty = λ x e up. false_from_ne_true _ (λ s. go x up s (stays_how x s)); full = λ m e. clash true refl e }
    where
      down : (x c : List ℕ) → covers c x ≡ true → stays_in r t x ≡ true → may_empty r t x ≡ false → cleared settled x ≡ false → Goes c → ⊥
      down x c over s whole clear (inl rep) = clash (cleared settled x) (reached_from (λ p. replaces (settled p)) c x over rep) clear
      down x c over s whole clear (inr em) = at (same_path c x) refl
        where
          at : (b : Bool) → same_path c x ≡ b → ⊥
          at true same = clash (may_empty r t x) (ap (may_empty r t) (sym (same_path-true c x same)) ∙ em.only refl) whole
          at false apart = clash (stays_in r t x) s (em.empty x refl (below_of c x over apart))

      stood : (x : List ℕ) → is_below q x ≡ true → stays_in r t x ≡ true → may_empty r t x ≡ false → (not (cleared settled x) && is_some (t.look x)) ≡ true → ⊥
      stood x up s whole h =
          let parts = and_parts (not (cleared settled x)) (is_some (t.look x)) h in
          let way = child_of q x up in
          let child = and_from _ _ (there_above way.child x way.over parts.1) (ap (is_directory q) way.is ∙ same_path-self q) in
          down x way.child way.over s whole (not-true _ parts.0) (goes way.child child)

      go : (x : List ℕ) → is_below q x ≡ true → stays_in r t x ≡ true → Stays x → ⊥
      go x up s how = either how.how
        where
          either : (made x ≡ true) ⊎ ((not (cleared settled x) && is_some (t.look x)) ≡ true) → ⊥
          either (inl m) = clash (made x) m (unmade q x none up)
          either (inr h) = stood x up s how.whole h

  parent_is : (q : List ℕ) (o : Option (List ℕ)) → is_directory q o ≡ true → o ≡ Some q
  parent_is q (Some y) h = ap (λ (x : List ℕ). Some x) (sym (same_path-true q y h))
  parent_is q None h = cc

  -- where a child stays something is left
  pub one_left : (q c : List ℕ) → cleared settled q ≡ false → is_child t q c ≡ true → replaces (settled c) ≡ false → IsEmptiedAt r t c false → IsEmptiedAt r t q false
  one_left q c clear child own left = record { only = λ e. clash false e refl; empty = λ x e up. clash false e refl; full = λ m e. go (may_empty r t c) refl }
    where
      parts : (is_some (t.look c) ≡ true) × (is_directory q (parent c) ≡ true)
      parts = and_parts (is_some (t.look c)) _ child

      up : parent c ≡ Some q
      up = parent_is q (parent c) parts.1

      inside : is_below q c ≡ true
      inside = above_parent q c q up (covers-self q)

      uncleared : cleared settled c ≡ false
      uncleared = false_from_ne_true _ (λ h. let z = reach_of (λ p. replaces (settled p)) c h in at z.at z.over z.holds (same_path z.at c) refl)
        where
          at : (z : List ℕ) → covers z c ≡ true → replaces (settled z) ≡ true → (b : Bool) → same_path z c ≡ b → ⊥
          at z over h true same = clash (replaces (settled c)) (ap (λ (y : List ℕ). replaces (settled y)) (sym (same_path-true z c same)) ∙ h) own
          at z over h false apart =
              let dir = at_parent_of z c over apart in
              let same : Some dir.dir ≡ Some q = sym dir.is ∙ up in
              let one : dir.dir ≡ q = cc in
              clash (cleared settled q) (reached_from (λ p. replaces (settled p)) z q (ap (covers z) (sym one) ∙ dir.up) h) clear

      go : (b : Bool) → may_empty r t c ≡ b → IsFilled r t q
      go true may = let x = left.full may refl in record { path = x.path; inside = below_trans q c x.path inside x.inside; left = x.left }
      go false may = record { path = c; inside = inside; left = stands_stays c parts.0 uncleared may }

  -- what is known of a child by its row's marks
  pub record Known (f : List ℕ → Bool) (c : List ℕ) : Type 0 where
    pub mark : Bool
    pub is : f c ≡ (replaces (settled c) || mark)
    pub at : IsEmptiedAt r t c mark

  -- so the children say whether a directory is emptied above which nothing goes
  pub by_children : (q : List ℕ) (names : List (List ℕ)) (f : List ℕ → Bool) → may_empty r t q ≡ true → holds_below made paths q ≡ false → cleared settled q ≡ false → ((c : List ℕ) → list_any (λ p. same_path p c) names ≡ is_child t q c)
      → ((c : List ℕ) → is_child t q c ≡ true → Known f c) → IsEmptiedAt r t q (list_all f names)
  by_children q names f may none clear each known = go (list_all f names) refl
    where
      goes : (c : List ℕ) → f c ≡ true → Known f c → Goes c
      goes c h k = at (or_cases (replaces (settled c)) k.mark (sym k.is ∙ h))
        where
          at : (replaces (settled c) ≡ true) ⊎ (k.mark ≡ true) → Goes c
          at (inl rep) = inl rep
          at (inr em) = inr (subst (IsEmptiedAt r t c) em k.at)

      neither : (a b : Bool) → (a || b) ≡ false → (a ≡ false) × (b ≡ false)
      neither false false h = (refl, refl)
      neither true b h = cc
      neither false true h = cc

      stays : (c : List ℕ) → is_child t q c ≡ true → f c ≡ false → Known f c → IsEmptiedAt r t q false
      stays c child h k =
          let parts = neither (replaces (settled c)) k.mark (sym k.is ∙ h) in
          one_left q c clear child parts.0 (subst (IsEmptiedAt r t c) parts.1 k.at)

      go : (b : Bool) → list_all f names ≡ b → IsEmptiedAt r t q b
      go true all = all_gone q may none (λ c child. goes c (all_at f names c all (each c ∙ child)) (known c child))
      go false some = let x = fails_at f names some in let child = sym (each x.path) ∙ x.among in stays x.path child x.fails (known x.path child)

-- a test that is right at each path is right
pub each_emptied : (r : Request) (t : Image) (test : List ℕ → Bool) → ((q : List ℕ) → IsEmptiedAt r t q (test q)) → IsEmptied r t test
each_emptied r t test each = record { only = λ q e. (each q).only e; empty = λ q x e up. (each q).empty x e up; full = λ q m e. (each q).full m e }
