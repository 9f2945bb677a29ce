-- Directories, one after the other.
use Rattle.std.proofs.Common.{◌≡◌, ℕ, zero, suc, ◌+◌, ◌<◌, ◌≤◌, Bool, true, false, ◌&&◌, ◌||◌, ◌⊎◌, cond, List, [], ◌∷◌, ◌++◌, length, take, get_or, Option, Some, None, Result, refl, sym, ap, subst, ◌∙◌, inl, inr, arith}
use Rattle.std.specs.Prelude.{codes}
use Rattle.std.specs.List.{list_any}
use Rattle.std.proofs.lemmas.Bool.{cases_Bool, false≢true}
use Rattle.std.proofs.lemmas.List.{take_more}
use Rattle.ips_text.specs.Ancestry.{same_path, covers}
use Rattle.ips_text.specs.Kept.{Kept}
use Rattle.ips_outside.specs.Children.{path_bytes}
use Rattle.ips_outside.specs.Image.{Entry, Dir, Image, IsImage, has_parent}
use Rattle.ips_outside.specs.Change.{with_entry_at}
use Rattle.ips_outside.specs.State.{State, nowhere}
use Rattle.ips_outside.specs.Outside.{Outside, IsOutside, Reads, Rose}
use Rattle.ips_outside.proofs.Placed.{look_placed, parent_kept}
use Rattle.ips_folder.specs.Calls.{CanMake, ChangesOnly, Writes}
use Rattle.ips_folder.proofs.Runs.{keeps_then, keeps_wider, one_read, one_write}
use Rattle.ips_ways.specs.Ways.{CanHave, HasBegun, any_missing, gives_way, is_dir_or_free, is_missing, with_dir, with_dirs}
use Rattle.ips_ways.proofs.Giving.{gives, gives_dir, none_by, none_below}

-- ---- members of a list of paths

pub none_at : (f : List ℕ → Bool) (paths : List Kept) (i : ℕ) (p : Kept) → i < length paths → p ≡ get_or paths i p → list_any f (path_bytes paths) ≡ false → f p.bytes ≡ false
none_at f [] i p lt is none = absurd (omega (arith, lt))
none_at f (x ∷ paths) zero p lt is none = ap (λ (k : Kept). f k.bytes) is ∙ first (f x.bytes) (list_any f (path_bytes paths)) none
  where
    first : (a b : Bool) → (a || b) ≡ false → a ≡ false
    first true b e = e
    first false b e = refl
none_at f (x ∷ paths) (suc i) p lt is none = none_at f paths i p (omega (arith, lt)) is (second (f x.bytes) (list_any f (path_bytes paths)) none)
  where
    second : (a b : Bool) → (a || b) ≡ false → b ≡ false
    second true b e = cc
    second false b e = e

pub some_at : (f : List ℕ → Bool) (paths : List Kept) (i : ℕ) (p : Kept) → i < length paths → p ≡ get_or paths i p → f p.bytes ≡ true → list_any f (path_bytes paths) ≡ true
some_at f paths i p lt is some = elim (cases_Bool (list_any f (path_bytes paths))) [ inl here ↦ here | inr none ↦ (let bad = none_at f paths i p lt is none in cc) ]

-- ---- one directory more

dirs_more : (paths : List (List ℕ)) (p : List ℕ) (t : Image) → with_dirs (paths ++ p ∷ []) t ≡ with_dir p (with_dirs paths t)
dirs_more [] p t = refl
dirs_more (x ∷ paths) p t = dirs_more paths p (with_dir x t)

bytes_then : (paths : List Kept) (p : Kept) → path_bytes (paths ++ p ∷ []) ≡ path_bytes paths ++ p.bytes ∷ []
bytes_then [] p = refl
bytes_then (x ∷ paths) p = ap (λ (l : List (List ℕ)). x.bytes ∷ l) (bytes_then paths p)

pub held_more : (paths : List Kept) (i : ℕ) (p : Kept) (t now new : Image) → i < length paths → p ≡ get_or paths i p → now ≡ with_dirs (path_bytes (take i paths)) t → new ≡ with_dir p.bytes now → new ≡ with_dirs (path_bytes (take (i + 1) paths)) t
held_more paths i p t now new lt is held made =
    let more : take (i + 1) paths ≡ take i paths ++ p ∷ [] = take_more paths i p lt ∙ ap (λ (x : Kept). take i paths ++ x ∷ []) (sym is) in
    let bytes = ap path_bytes more ∙ bytes_then (take i paths) p in
    made ∙ ap (with_dir p.bytes) held ∙ sym (dirs_more (path_bytes (take i paths)) p.bytes t) ∙ sym (ap (λ (l : List (List ℕ)). with_dirs l t) bytes)

-- the next one can be made
pub can_next : (paths : List Kept) (t : Image) (i : ℕ) (p : Kept) → CanHave t (path_bytes paths) → i < length paths → p ≡ get_or paths i p
    → (is_dir_or_free p.bytes ((with_dirs (path_bytes (take i paths)) t).look p.bytes) && has_parent (with_dirs (path_bytes (take i paths)) t) p.bytes) ≡ true
can_next [] t i p can lt is = absurd (omega (arith, lt))
can_next (x ∷ paths) t zero p can lt is = subst (λ (k : Kept). (is_dir_or_free k.bytes (t.look k.bytes) && has_parent t k.bytes) ≡ true) (sym is) can.0
can_next (x ∷ paths) t (suc i) p can lt is = can_next paths (with_dir x.bytes t) i p can.1 (omega (arith, lt)) is

-- ---- nothing vanishes, and nothing more gives way

placed_gives : (c s d : Bool) (e : Option Entry) → gives c (cond s (let o : Option Entry = Some (Dir 493 false) in o) (cond d None e)) ≡ true → (d ≡ true → e ≡ None) → gives c e ≡ true
placed_gives true true d e h below = absurd (false≢true h)
placed_gives false true d e h below = absurd (false≢true h)
placed_gives c false true e h below = none_by c e (below refl)
placed_gives c false false e h below = h

placed_none : (s d : Bool) (e : Option Entry) → cond s (let o : Option Entry = Some (Dir 493 false) in o) (cond d None e) ≡ None → (d ≡ true → e ≡ None) → e ≡ None
placed_none true d e gone below = absurd (let bad : (let o : Option Entry = Some (Dir 493 false) in o) ≡ None = gone in cc)
placed_none false true e gone below = below refl
placed_none false false e gone below = gone

module _ (p q : List ℕ) (t u : Image) (formed : IsImage t) (made : u ≡ with_dir p t) where
  -- what stands there after a directory was made at the path
  look_made : gives_way p (t.look p) ≡ true → u.look q ≡ cond (same_path p q) (Some (Dir 493 false)) (cond (covers p q) None (t.look q))
  look_made room = ap (λ (v : Image). v.look q) made ∙ ap (λ (b : Bool). (cond b (with_entry_at p (Some (Dir 493 false)) t) t).look q) room

  look_stood : gives_way p (t.look p) ≡ false → u.look q ≡ t.look q
  look_stood stands = ap (λ (v : Image). v.look q) made ∙ ap (λ (b : Bool). (cond b (with_entry_at p (Some (Dir 493 false)) t) t).look q) stands

  pub kept_dir : u.look q ≡ None → t.look q ≡ None
  kept_dir gone = elim (cases_Bool (gives_way p (t.look p))) [
    | inl room ↦ elim (cases_Bool (same_path p q)) [
      | inl is ↦ placed_none true (covers p q) (t.look q) (sym (ap (λ (s : Bool). cond s (let o : Option Entry = Some (Dir 493 false) in o) (cond (covers p q) None (t.look q))) is) ∙ sym (look_made room) ∙ gone)
          (λ below. absurd (let bad : (let o : Option Entry = Some (Dir 493 false) in o) ≡ None = sym (ap (λ (s : Bool). cond s (let o : Option Entry = Some (Dir 493 false) in o) (cond (covers p q) None (t.look q))) is) ∙ sym (look_made room) ∙ gone in cc))
      | inr apart ↦ placed_none (same_path p q) (covers p q) (t.look q) (sym (look_made room) ∙ gone) (λ below. none_below t p q formed room below apart)
    ]
    | inr stands ↦ sym (look_stood stands) ∙ gone
  ]

  pub kept_way : gives_way q (u.look q) ≡ true → gives_way q (t.look q) ≡ true
  kept_way way = elim (cases_Bool (gives_way p (t.look p))) [
    | inl room ↦ elim (cases_Bool (same_path p q)) [
      | inl is ↦ absurd (false≢true (sym (gives_dir (covers (codes "publisher") q)) ∙ sym (ap (λ (s : Bool). gives_way q (cond s (let o : Option Entry = Some (Dir 493 false) in o) (cond (covers p q) None (t.look q)))) is) ∙ sym (ap (gives_way q) (look_made room)) ∙ way))
      | inr apart ↦ placed_gives (covers (codes "publisher") q) (same_path p q) (covers p q) (t.look q) (sym (ap (gives_way q) (look_made room)) ∙ way) (λ below. none_below t p q formed room below apart)
    ]
    | inr stands ↦ sym (ap (gives_way q) (look_stood stands)) ∙ way
  ]

-- a path of which nothing is missing isn't below one that is made
pub off_missing : (t now : Image) (paths : List Kept) (i : ℕ) (p : Kept) → i < length paths → p ≡ get_or paths i p → ((q : List ℕ) → gives_way q (now.look q) ≡ true → gives_way q (t.look q) ≡ true)
    → (q : List ℕ) → is_missing t (path_bytes paths) q ≡ false → (gives_way p.bytes (now.look p.bytes) && covers p.bytes q) ≡ false
off_missing t now paths i p lt is room q off = go (gives_way p.bytes (now.look p.bytes)) (gives_way p.bytes (t.look p.bytes)) (covers p.bytes q) (room p.bytes) (none_at (λ r. gives_way r (t.look r) && covers r q) paths i p lt is off)
  where
    go : (a b c : Bool) → (a ≡ true → b ≡ true) → (b && c) ≡ false → (a && c) ≡ false
    go false b c h e = refl
    go true b c h e = subst (λ (x : Bool). (x && c) ≡ false) (h refl) e

pub still_missing : (t now : Image) (paths : List Kept) (i : ℕ) (p : Kept) → i < length paths → p ≡ get_or paths i p → ((q : List ℕ) → gives_way q (now.look q) ≡ true → gives_way q (t.look q) ≡ true)
    → gives_way p.bytes (now.look p.bytes) ≡ true → any_missing t (path_bytes paths) ≡ true
still_missing t now paths i p lt is room free = some_at (λ r. gives_way r (t.look r)) paths i p lt is (room p.bytes free)

-- ---- the calls

-- where something was taken away, something can be made
pub can_new : (p : List ℕ) (t u : Image) → has_parent t p ≡ true → u ≡ with_entry_at p None t → CanMake u p
can_new p t u parent is = subst (λ (v : Image). CanMake v p) (sym is) (record { absent = look_placed p None t; parent = parent_kept p None t parent })

module _ {F : Type 0} (o : Outside F) (sane : IsOutside o) (p : List ℕ) (old mid new : F) where
  -- two writes at one path
  pub wrote_twice : (first second : State) {T E : Type 0} (x y : Result T E) → o.tells old ≡ true → Writes o (covers p) nowhere first old mid x → Writes o (covers p) nowhere second mid new y → ChangesOnly o (covers p) nowhere old new
  wrote_twice first second x y told a b =
      keeps_then o (covers p) nowhere old mid new (one_write o sane old mid (covers p) nowhere first x told a) (one_write o sane mid new (covers p) nowhere second y (a.call.same_kind ∙ told) b)

  and_off : (a b : Bool) → a ≡ true → (a && b) ≡ false → b ≡ false
  and_off true b is off = off
  and_off false b is off = absurd (false≢true is)

  -- behind a look at it, where it gives way
  pub made_behind : (failure : Type 0) → Reads o old mid failure → gives_way p ((o.state old).held.look p) ≡ true → ChangesOnly o (covers p) nowhere mid new
      → ChangesOnly o (λ q. gives_way p ((o.state old).held.look p) && covers p q) nowhere old new
  made_behind failure reads room run =
      let free : List ℕ → Bool = λ q. gives_way p ((o.state old).held.look p) && covers p q in
      keeps_then o free nowhere old mid new (one_read o sane free nowhere old mid failure reads)
      (keeps_wider o (covers p) nowhere free nowhere mid new (λ q off. and_off (gives_way p ((o.state old).held.look p)) (covers p q) room off) (λ q off. off) run)

-- ---- calls that may change something

pub begun_then : (before mid now : ℕ) (a b : Bool) → HasBegun before mid a → HasBegun mid now b → before ≤ mid → mid ≤ now → HasBegun before now (a || b)
begun_then before mid now true b x y le ge = record { none = λ e. cc; some = λ e. later (x.some refl) }
  where
    later : Rose before mid → Rose before now
    later (inl lt) = inl (omega (arith, lt, ge))
    later (inr end) = inr (omega (arith, end, ge))
begun_then before mid now false b x y le ge = record { none = λ e. y.none e ∙ x.none refl; some = λ e. first (y.some e) }
  where
    first : Rose mid now → Rose before now
    first (inl lt) = inl (omega (arith, lt, le))
    first (inr end) = inr end

pub or_first : (m a b : Bool) → a ≡ true → m ≡ true → m ≡ (a || b)
or_first m a b is made = made ∙ sym (ap (λ (x : Bool). x || b) is)

pub or_second : (m a b : Bool) → a ≡ false → m ≡ b → m ≡ (a || b)
or_second m a b is made = made ∙ sym (ap (λ (x : Bool). x || b) is)

pub or_both : (a b : Bool) → (a || b) ≡ false → (a ≡ false) × (b ≡ false)
or_both true b e = cc
or_both false b e = (refl, e)

pub or_either : (a b : Bool) → (a || b) ≡ true → (a ≡ true) ⊎ (b ≡ true)
or_either true b e = inl refl
or_either false b e = inr e
