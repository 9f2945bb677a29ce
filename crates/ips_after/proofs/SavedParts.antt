-- What is saved stands at paths, and has proper parts.
use Rattle.std.proofs.Common.{◌≡◌, ℕ, ◌<◌, ◌++◌, zero, suc, Bool, true, false, cond, not, ◌&&◌, ◌||◌, List, [], ◌∷◌, Option, Some, None, is_some, refl, sym, ◌∙◌, ap, subst, inl, inr, arith, length}
use Rattle.std.proofs.lemmas.Bool.{and_parts, or_parts, ltb-true, not-true}
use Rattle.ips_text.specs.Path.{IsPath}
use Rattle.ips_text.specs.Quote.{AreBytes}
use Rattle.ips_outside.specs.Image.{Entry, Dir, File, Link, Other, Image, IsImage, has_small_mode, is_file}
use Rattle.ips_steps.specs.declared.target.TargetFault.TheVariants.{Empty, TooLong, Nul}
use Rattle.ips_steps.proofs.Lists.{clash}
use Rattle.ips_steps.specs.Targets.{IsTarget, has_nul}
use Rattle.ips_preserve.specs.declared.keep.Keep.{Keep}
use Rattle.ips_preserve.specs.declared.keep.Keep.TheVariants.{Lay, Stay, SalvageLay, SaveOld, LayNew, SaveLegacy, Drop, SalvageDrop}
use Rattle.ips_after.specs.After.{answer_at, was_equal}
use Rattle.ips_after.specs.Planned.{HasEntryParts, HasWantedParts, IsProperRequest}
use Rattle.ips_after.specs.Request.{IsRequest, Request, WantDir, WantFile, WantHard, WantLink, Wanted}
use Rattle.ips_after.specs.Salvage.{Aside, Beside, GoesTo, HasSalvagedBytes, IsAside, IsOwn, Salvage, Side, copied, has_long_side, inside, is_long_path, is_lost, is_unmovable, legacy_suffix, movable, moved, moved_inside, new_suffix, old_suffix, put_beside, salvaged, salvaged_inside, saved, side_as, side_at, side_entry, side_for, side_is, side_name, way_entry, with_suffix}
use Rattle.ips_after.proofs.Behind.{IsButLong, IsSuffix, above_path, behind_path, but_long, not_long, suffixed_path}
use Rattle.ips_after.proofs.Fits.{below_covers}
use Rattle.ips_after.proofs.Saved.{goes_or_way, none_unmovable}

old_is : IsSuffix old_suffix
old_is = record { part = refl; nul = refl; ascii = refl; long = omega arith }

new_is : IsSuffix new_suffix
new_is = record { part = refl; nul = refl; ascii = refl; long = omega arith }

legacy_is : IsSuffix legacy_suffix
legacy_is = record { part = refl; nul = refl; ascii = refl; long = omega arith }

-- a side name has one of the suffixes, and its file a proper mode
record SideParts (side : Side) : Type 0 where
  suffix : IsSuffix side.suffix
  entry : HasEntryParts side.entry

copied_parts : (s : List ℕ) (e : Option Entry) (side : Side) → IsSuffix s → has_small_mode e ≡ true → copied s e ≡ Some side → SideParts side
copied_parts s (Some (Dir m f)) side is small h = cc
copied_parts s (Some (File m b)) side is small h =
    let one : record { suffix = s; entry = File m b } ≡ side = cc in
    subst SideParts one (record { suffix = is; entry = ltb-true m 4096 small })
copied_parts s (Some (Link g)) side is small h = cc
copied_parts s (Some Other) side is small h = cc
copied_parts s None side is small h = cc

new_parts : (m : ℕ) (b : List ℕ) (side : Side) → m < 4096 → (c : Bool) → cond c (Some (record { suffix = new_suffix; entry = File m b })) None ≡ Some side → SideParts side
new_parts m b side small true h =
    let one : record { suffix = new_suffix; entry = File m b } ≡ side = cc in
    subst SideParts one (record { suffix = new_is; entry = small })
new_parts m b side small false h = cc

for_parts : (ans : Keep) (m : ℕ) (b : List ℕ) (e : Option Entry) (side : Side) → m < 4096 → has_small_mode e ≡ true → side_for ans (File m b) e ≡ Some side → SideParts side
for_parts SaveOld m b e side new old h = copied_parts old_suffix e side old_is old h
for_parts SaveLegacy m b e side new old h = copied_parts legacy_suffix e side legacy_is old h
for_parts LayNew m b e side new old h = new_parts m b side new (is_file e) h
for_parts Lay m b e side new old h = cc
for_parts Stay m b e side new old h = cc
for_parts SalvageLay m b e side new old h = cc
for_parts Drop m b e side new old h = cc
for_parts SalvageDrop m b e side new old h = cc

abbrev HasParts_if : Option Wanted → Type 0
HasParts_if (Some w) = HasWantedParts w
HasParts_if None = Unit {0}

as_parts : (r : Request) (was w : Option Wanted) (e : Option Entry) (side : Side) → HasParts_if w → has_small_mode e ≡ true → side_as r was w e ≡ Some side → SideParts side
as_parts r was (Some (WantDir m)) e side new old h = cc
as_parts r was (Some (WantFile payload m preserve)) e side new old h = go (was_equal was (WantFile payload m preserve)) h
  where
    go : (c : Bool) → cond c None (side_for (answer_at r was payload preserve e) (File m (r.bytes payload)) e) ≡ Some side → SideParts side
    go true h = cc
    go false h = for_parts (answer_at r was payload preserve e) m (r.bytes payload) e side new old h
as_parts r was (Some (WantLink g)) e side new old h = cc
as_parts r was (Some (WantHard to)) e side new old h = cc
as_parts r was None e side new old h = cc

wanted_some : (r : Request) (was w : Option Wanted) (e : Option Entry) (side : Side) → side_as r was w e ≡ Some side → (x : Wanted) × (w ≡ Some x)
wanted_some r was (Some x) e side h = (x, refl)
wanted_some r was None e side h = cc

moved_parts : (e : Option Entry) (x : Entry) → movable e ≡ true → has_small_mode e ≡ true → ((g : List ℕ) → e ≡ Some (Link g) → AreBytes g) → moved e ≡ Some x → HasEntryParts x
moved_parts (Some (Dir m f)) x may small bytes h = let one : Dir m false ≡ x = cc in subst HasEntryParts one (ltb-true m 4096 small)
moved_parts (Some (File m b)) x may small bytes h = let one : File m b ≡ x = cc in subst HasEntryParts one (ltb-true m 4096 small)
moved_parts (Some (Link g)) x may small bytes h = let one : Link g ≡ x = cc in subst HasEntryParts one (target, bytes g refl)
  where
    target : IsTarget g
    target Empty none = let parts = and_parts _ _ may in let some = ltb-true 0 (length g) parts.0 in omega (arith, none)
    target TooLong long = let parts = and_parts _ _ (and_parts _ _ may).1 in let short = ltb-true (length g) 4096 parts.0 in omega (arith, long)
    target Nul nul = clash (has_nul g) nul.1 (not-true _ (and_parts _ _ (and_parts _ _ may).1).1)
moved_parts (Some Other) x may small bytes h = cc
moved_parts None x may small bytes h = cc

module _ (r : Request) (t : Image) (a : Aside) (good : IsRequest r) (formed : IsImage t) (own : IsOwn r t a) (is : IsAside r t a) (may : IsProperRequest r) (root : IsPath a.root)
    (none : (x : List ℕ) → is_unmovable r t a x ≡ false) (bytes : HasSalvagedBytes r t) where
  side_parts : (p : List ℕ) (side : Side) → side_at r t p ≡ Some side → SideParts side
  side_parts p side at = as_parts r (r.old.at p) (r.new.at p) (t.look p) side (wanted (r.new.at p) refl) (formed.modes p) at
    where
      wanted : (o : Option Wanted) → r.new.at p ≡ o → HasParts_if o
      wanted (Some w) is = (may.news p w is).1
      wanted None is = cc

  short_salvage : (x : List ℕ) → salvaged r t x ≡ true → is_long_path (a.root ++ 47 ∷ x) ≡ false
  short_salvage x s = go (salvaged r t x) s (or_parts (salvaged r t x && (not (movable (t.look x)) || is_long_path (a.root ++ 47 ∷ x))) _ (none x)).0
    where
      go : (b : Bool) → b ≡ true → (b && (not (movable (t.look x)) || is_long_path (a.root ++ 47 ∷ x))) ≡ false → is_long_path (a.root ++ 47 ∷ x) ≡ false
      go true s h = (or_parts (not (movable (t.look x))) _ h).1
      go false s h = cc

  short_side : (p : List ℕ) (side : Side) → side_at r t p ≡ Some side → is_long_path (side_name r t a p side) ≡ false
  short_side p side at = ap (has_long_side r t a p) (sym at) ∙ (or_parts _ (has_long_side r t a p (side_at r t p)) (or_parts (salvaged r t p && (not (movable (t.look p)) || is_long_path (a.root ++ 47 ∷ p))) _ (none p)).1).1

  some_salvaged : (x : List ℕ) → salvaged r t x ≡ true → is_some (t.look x) ≡ true
  some_salvaged x s = (and_parts (is_some (t.look x)) _ s).0

  suffixes : (n : ℕ) (s q : List ℕ) → IsSuffix s → IsButLong q → IsButLong (with_suffix n s q)
  suffixes zero s q suffix path = path
  suffixes (suc n) s q suffix path = suffixes n s (q ++ s) suffix (suffixed_path q s path suffix)

  -- where something is saved is a path
  goes_path : (q : List ℕ) → GoesTo r t a q → IsPath q
  goes_path _ (Salvage x s) = not_long (a.root ++ 47 ∷ x) (behind_path a.root x (but_long a.root root) (but_long x (formed.paths x (some_salvaged x s)))) (short_salvage x s)
  goes_path _ (Beside p side at) = not_long (side_name r t a p side) (either (is_lost r t (p ++ side.suffix)) refl) (short_side p side at)
    where
      wanted : (x : Wanted) × (r.new.at p ≡ Some x)
      wanted = wanted_some r (r.old.at p) (r.new.at p) (t.look p) side at

      path : IsButLong p
      path = but_long p (may.news p wanted.0 wanted.1).0

      suffix : IsSuffix side.suffix
      suffix = (side_parts p side at).suffix

      either : (b : Bool) → is_lost r t (p ++ side.suffix) ≡ b → IsButLong (cond b (a.lost p) (p ++ side.suffix))
      either false free = suffixed_path p side.suffix path suffix
      either true lost =
          let name = is.names p side at lost in
          subst IsButLong (sym name.name) (suffixes name.times side.suffix ((a.root ++ 47 ∷ p) ++ side.suffix) suffix (suffixed_path (a.root ++ 47 ∷ p) side.suffix (behind_path a.root p (but_long a.root root) path) suffix))

  pub saved_path : (q : List ℕ) → is_some (saved r t a q) ≡ true → IsPath q
  saved_path q h = elim (goes_or_way r t a good formed own is q h) [
    | inl goes ↦ goes_path q goes
    | inr way ↦ let held = (is.ways_only q way).0 in above_path held.at q (goes_path held.at held.goes) (below_covers q held.at held.inside_it)
  ]

  put_parts : (keys : List (List ℕ)) (q : List ℕ) (o : Option Entry) (x : Entry) → ((y : Entry) → o ≡ Some y → HasEntryParts y) → put_beside r t a keys q o ≡ Some x → HasEntryParts x
  put_parts [] q o x rest h = rest x h
  put_parts (p ∷ keys) q o x rest h = go (side_is r t a q p (side_at r t p)) h (put_parts keys q o x rest)
    where
      entry : (s : Option Side) → side_at r t p ≡ s → side_entry s ≡ Some x → HasEntryParts x
      entry (Some side) at h = let one : side.entry ≡ x = cc in subst HasEntryParts one (side_parts p side at).entry
      entry None at h = cc

      go : (c : Bool) → cond c (side_entry (side_at r t p)) (put_beside r t a keys q o) ≡ Some x → (put_beside r t a keys q o ≡ Some x → HasEntryParts x) → HasEntryParts x
      go true h rec = entry (side_at r t p) refl h
      go false h rec = rec h

  way_parts : (b : Bool) (y : Entry) → way_entry b ≡ Some y → HasEntryParts y
  way_parts true y h = let one : Dir 493 false ≡ y = cc in subst HasEntryParts one (let small : 493 < 4096 = omega arith in small)
  way_parts false y h = cc

  -- and has proper parts
  pub saved_parts : (q : List ℕ) (e : Entry) → saved r t a q ≡ Some e → IsPath q × HasEntryParts e
  saved_parts q e at = (saved_path q (ap is_some at), go (inside a.root q) at)
    where
      rest : put_beside r t a r.new.keys q (way_entry (a.ways q)) ≡ Some e → HasEntryParts e
      rest h = put_parts r.new.keys q (way_entry (a.ways q)) e (way_parts (a.ways q)) h

      inner : (x : List ℕ) (c : Bool) → salvaged r t x ≡ c → cond c (moved (t.look x)) (put_beside r t a r.new.keys q (way_entry (a.ways q))) ≡ Some e → HasEntryParts e
      inner x true s h = moved_parts (t.look x) e (none_unmovable r t a none x s) (formed.modes x) (λ g at. bytes x g s at) h
      inner x false s h = rest h

      go : (o : Option (List ℕ)) → cond (salvaged_inside r t o) (moved_inside t o) (put_beside r t a r.new.keys q (way_entry (a.ways q))) ≡ Some e → HasEntryParts e
      go (Some x) h = inner x (salvaged r t x) refl h
      go None h = rest h
