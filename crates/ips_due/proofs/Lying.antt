-- What is salvaged lies apart from what account files and records speak of.
use Rattle.std.proofs.Common.{◌≡◌, ℕ, Bool, true, false, cond, ◌||◌, ◌==◌, List, [], ◌∷◌, ◌++◌, Option, Some, None, is_some, refl, sym, ◌∙◌, ap, subst, inl, inr, ◌⊎◌, arith}
use Rattle.std.specs.Prelude.{codes}
use Rattle.std.proofs.lemmas.Bool.{and_parts, or_cases, or_left, or_right, false_from_ne_true, eqb-true}
use Rattle.ips_text.specs.Ancestry.{same_path, covers, is_below}
use Rattle.ips_text.proofs.Ancestry.{covers-self, covers_trans, same_path-true}
use Rattle.ips_outside.specs.Image.{Dir, Entry, File, Image, IsImage, Link, Other, is_dir}
use Rattle.ips_preserve.specs.declared.keep.Keep.{Keep}
use Rattle.ips_preserve.specs.declared.keep.Keep.TheVariants.{Lay, Stay, SalvageLay, SaveOld, LayNew, SaveLegacy, Drop, SalvageDrop}
use Rattle.ips_steps.specs.Private.{records_name}
use Rattle.ips_steps.proofs.Lists.{clash}
use Rattle.ips_after.specs.After.{answer_at, was_equal}
use Rattle.ips_after.specs.Findings.{is_account_path}
use Rattle.ips_after.specs.Lists.{listed}
use Rattle.ips_after.specs.Request.{IsRequest, Request, WantDir, WantFile, WantHard, WantLink, Wanted, is_dir_wanted}
use Rattle.ips_after.specs.Salvage.{Aside, Beside, GoesTo, IsAside, IsOwn, IsRoot, Salvage, Side, copied, depth, is_lost, legacy_suffix, new_suffix, old_suffix, saved, side_as, side_at, side_for, with_suffix}
use Rattle.ips_after.proofs.Fits.{below_covers, below_of, below_trans, exists_dir}
use Rattle.ips_after.proofs.Names.{depth_below, side_facts}
use Rattle.ips_after.proofs.Places.{root_rest}
use Rattle.ips_after.proofs.Saved.{above_suffix, assoc, below_slash, below_suffix, comparable, sent_or_way}
use Rattle.ips_due.specs.Apart.{LeavesSalvage, lost_path}
use Rattle.ips_due.specs.Due.{is_own}

-- ---- names with a dot

abbrev has_dot : List ℕ → Bool
has_dot [] = false
has_dot (b ∷ q) = (b == 46) || has_dot q

dot_over : (q x : List ℕ) → covers q x ≡ true → has_dot q ≡ true → has_dot x ≡ true
dot_over [] x c d = cc
dot_over (a ∷ q) [] c d = cc
dot_over (a ∷ q) (b ∷ x) c d = let parts = and_parts (a == b) (covers q x) c in go (or_cases (a == 46) (has_dot q) d) (eqb-true a b parts.0) (dot_over q x parts.1)
  where
    go : ((a == 46) ≡ true) ⊎ (has_dot q ≡ true) → a ≡ b → (has_dot q ≡ true → has_dot x ≡ true) → ((b == 46) || has_dot x) ≡ true
    go (inl here) e rec = or_left _ _ (ap (λ (n : ℕ). n == 46) (sym e) ∙ here)
    go (inr more) e rec = or_right (b == 46) _ (rec more)

dot_behind : (p s : List ℕ) → has_dot s ≡ true → has_dot (p ++ s) ≡ true
dot_behind [] s d = d
dot_behind (b ∷ p) s d = or_right (b == 46) _ (dot_behind p s d)

copied_dot : (s : List ℕ) (e : Option Entry) (side : Side) → has_dot s ≡ true → copied s e ≡ Some side → has_dot side.suffix ≡ true
copied_dot s (Some (Dir m f)) side d h = cc
copied_dot s (Some (File m b)) side d h = let one : record { suffix = s; entry = File m b } ≡ side = cc in ap (λ (x : Side). has_dot x.suffix) (sym one) ∙ d
copied_dot s (Some (Link g)) side d h = cc
copied_dot s (Some Other) side d h = cc
copied_dot s None side d h = cc

for_dot : (k : Keep) (new : Entry) (e : Option Entry) (side : Side) → side_for k new e ≡ Some side → has_dot side.suffix ≡ true
for_dot SaveOld new e side h = copied_dot old_suffix e side refl h
for_dot SaveLegacy new e side h = copied_dot legacy_suffix e side refl h
for_dot LayNew new (Some (File m b)) side h = let one : record { suffix = new_suffix; entry = new } ≡ side = cc in ap (λ (x : Side). has_dot x.suffix) (sym one)
for_dot LayNew new (Some (Dir m f)) side h = cc
for_dot LayNew new (Some (Link g)) side h = cc
for_dot LayNew new (Some Other) side h = cc
for_dot LayNew new None side h = cc
for_dot Lay new e side h = cc
for_dot Stay new e side h = cc
for_dot SalvageLay new e side h = cc
for_dot Drop new e side h = cc
for_dot SalvageDrop new e side h = cc

as_dot : (r : Request) (was w : Option Wanted) (e : Option Entry) (side : Side) → side_as r was w e ≡ Some side → has_dot side.suffix ≡ true
as_dot r was (Some (WantDir m)) e side h = cc
as_dot r was (Some (WantFile payload m preserve)) e side h = go (was_equal was (WantFile payload m preserve)) h
  where
    go : (c : Bool) → cond c None (side_for (answer_at r was payload preserve e) (File m (r.bytes payload)) e) ≡ Some side → has_dot side.suffix ≡ true
    go true h = cc
    go false h = for_dot (answer_at r was payload preserve e) (File m (r.bytes payload)) e side h
as_dot r was (Some (WantLink g)) e side h = cc
as_dot r was (Some (WantHard to)) e side h = cc
as_dot r was None e side h = cc

account_dot : (q : List ℕ) → is_account_path q ≡ true → has_dot q ≡ false
account_dot q h = go (or_cases (same_path (codes "etc/passwd") q) _ h)
  where
    last : (same_path (codes "etc/shadow") q ≡ true) ⊎ (same_path (codes "etc/group") q ≡ true) → has_dot q ≡ false
    last (inl s) = ap has_dot (sym (same_path-true (codes "etc/shadow") q s))
    last (inr g) = ap has_dot (sym (same_path-true (codes "etc/group") q g))

    go : (same_path (codes "etc/passwd") q ≡ true) ⊎ ((same_path (codes "etc/shadow") q || same_path (codes "etc/group") q) ≡ true) → has_dot q ≡ false
    go (inl p) = ap has_dot (sym (same_path-true (codes "etc/passwd") q p))
    go (inr more) = last (or_cases (same_path (codes "etc/shadow") q) _ more)

account_off : (q : List ℕ) → is_account_path q ≡ true → covers lost_path q ≡ false
account_off q h = go (or_cases (same_path (codes "etc/passwd") q) _ h)
  where
    last : (same_path (codes "etc/shadow") q ≡ true) ⊎ (same_path (codes "etc/group") q ≡ true) → covers lost_path q ≡ false
    last (inl s) = ap (covers lost_path) (sym (same_path-true (codes "etc/shadow") q s))
    last (inr g) = ap (covers lost_path) (sym (same_path-true (codes "etc/group") q g))

    go : (same_path (codes "etc/passwd") q ≡ true) ⊎ ((same_path (codes "etc/shadow") q || same_path (codes "etc/group") q) ≡ true) → covers lost_path q ≡ false
    go (inl p) = ap (covers lost_path) (sym (same_path-true (codes "etc/passwd") q p))
    go (inr more) = last (or_cases (same_path (codes "etc/shadow") q) _ more)

-- ---- the folder of all salvage folders

front_lost : (z : List ℕ) → covers lost_path (codes "var/pkg/lost+found/" ++ z) ≡ true
front_lost z = refl

front_own : (z : List ℕ) → is_below records_name (codes "var/pkg/lost+found/" ++ z) ≡ true
unfolding records_name
front_own z = refl

records_dot : has_dot records_name ≡ false
unfolding records_name
records_dot = refl

records_deep : depth records_name ≡ 1
unfolding records_name
records_deep = refl

records_lost : covers records_name lost_path ≡ true
unfolding records_name
records_lost = refl

-- no path lies between the folder of the records and that of all salvage folders
none_between : (q : List ℕ) → is_below records_name q ≡ true → is_below q lost_path ≡ true → ⊥
none_between q down up = let one = depth_below records_name q down in let two = depth_below q lost_path up in let three = records_deep in let four : depth lost_path ≡ 2 = refl in omega (arith, one, two, three, four)

module _ (moment : List ℕ) (r : Request) (t : Image) (a : Aside) (good : IsRequest r) (formed : IsImage t) (stands : is_dir (t.look records_name) ≡ true) (wanted : is_dir_wanted (r.new.at records_name) ≡ true)
    (none_old : (q : List ℕ) → is_own q ≡ true → r.old.at q ≡ None) (none_new : (q : List ℕ) → is_own q ≡ true → r.new.at q ≡ None)
    (leaves : LeavesSalvage r.over) (at_root : IsRoot t moment a.root) (is : IsAside r t a) where
  root_lost : covers lost_path a.root ≡ true
  root_lost = let b = root_rest moment at_root.times in ap (covers lost_path) (at_root.name ∙ b.is) ∙ front_lost b.rest

  inside : is_below records_name a.root ≡ true
  inside = let b = root_rest moment at_root.times in ap (is_below records_name) (at_root.name ∙ b.is) ∙ front_own b.rest

  -- nothing in that folder is named
  no_lost : (p : List ℕ) → covers lost_path p ≡ true → listed r.over.keys p ≡ true → ⊥
  no_lost p down l = let k = leaves.only p l in go k.0 (covers_trans lost_path p k.0 down k.1) (leaves.at k.0 k.2)
    where
      go : (q : List ℕ) → covers lost_path q ≡ true → (is_account_path q ≡ true) ⊎ ((is_own q ≡ true) × (covers lost_path q ≡ false)) → ⊥
      go q c (inl acc) = clash (covers lost_path q) c (account_off q acc)
      go q c (inr x) = clash (covers lost_path q) c x.1

  -- nor is a path with a dot that isn't the image's own
  no_dot : (p : List ℕ) → has_dot p ≡ true → is_own p ≡ false → listed r.over.keys p ≡ true → ⊥
  no_dot p d off l = let k = leaves.only p l in go k.0 k.1 (leaves.at k.0 k.2)
    where
      under : (f q : List ℕ) → has_dot f ≡ false → (is_below f p ≡ true → is_own p ≡ true) → covers p q ≡ true → is_below f q ≡ true → ⊥
      under f q bare own up below = turn (comparable p f q up (below_covers f q below))
        where
          at : (s : Bool) → same_path f p ≡ s → covers f p ≡ true → ⊥
          at true same down = clash (has_dot p) d (ap has_dot (sym (same_path-true f p same)) ∙ bare)
          at false apart down = clash (is_own p) (own (below_of f p down apart)) off

          turn : (covers p f ≡ true) ⊎ (covers f p ≡ true) → ⊥
          turn (inl c) = clash (has_dot f) (dot_over p f c d) bare
          turn (inr c) = at (same_path f p) refl c

      folder : (q : List ℕ) → covers p q ≡ true → (is_below records_name q ≡ true) ⊎ (is_below (codes "var/sadm/pkg") q ≡ true) → ⊥
      folder q up (inl b) = under records_name q records_dot (λ x. or_left _ _ x) up b
      folder q up (inr b) = under (codes "var/sadm/pkg") q refl (λ x. or_right (is_below records_name p) _ x) up b

      go : (q : List ℕ) → covers p q ≡ true → (is_account_path q ≡ true) ⊎ ((is_own q ≡ true) × (covers lost_path q ≡ false)) → ⊥
      go q up (inl acc) = clash (has_dot q) (dot_over p q up d) (account_dot q acc)
      go q up (inr x) = folder q up (or_cases (is_below records_name q) _ x.0)

  -- where something is saved: in the salvage folder, beside a path, or on the way
  data Spot (q : List ℕ) : Type 0 where
    Under : covers lost_path q ≡ true → Spot q
    Near : (p : List ℕ) (side : Side) → side_at r t p ≡ Some side → p ++ side.suffix ≡ q → Spot q
    Above : covers q a.root ≡ true → is_dir (t.look q) ≡ false → Spot q

  under_root : (q : List ℕ) → is_below a.root q ≡ true → covers lost_path q ≡ true
  under_root q b = covers_trans lost_path a.root q root_lost (below_covers a.root q b)

  spot_of : (q : List ℕ) → is_some (saved r t a q) ≡ true → Spot q
  spot_of q s = go (sent_or_way r t a q s)
    where
      sent : (q : List ℕ) → GoesTo r t a q → Spot q
      sent q (Salvage p s) = Under (under_root (a.root ++ 47 ∷ p) (below_slash a.root p))
      sent q (Beside p side at) = turn (is_lost r t (p ++ side.suffix)) refl
        where
          turn : (b : Bool) → is_lost r t (p ++ side.suffix) ≡ b → Spot (cond b (a.lost p) (p ++ side.suffix))
          turn true lost =
              let n = is.names p side at lost in
              Under (under_root (a.lost p) (ap (is_below a.root) n.name ∙ ap (λ (x : List ℕ). is_below a.root (with_suffix n.times side.suffix x)) (assoc a.root (47 ∷ p) side.suffix) ∙ below_suffix n.times a.root (p ++ side.suffix) side.suffix))
          turn false free = Near p side at refl

      way : (covers q a.root ≡ true) ⊎ (covers a.root q ≡ true) → is_dir (t.look q) ≡ false → Spot q
      way (inl up) bare = Above up bare
      way (inr down) bare = Under (covers_trans lost_path a.root q root_lost down)

      go : GoesTo r t a q ⊎ (a.ways q ≡ true) → Spot q
      go (inl g) = sent q g
      go (inr w) = let x = is.ways_only q w in way (or_cases (covers q a.root) (covers a.root q) x.2) x.1

  beside_own : (p : List ℕ) (side : Side) → side_at r t p ≡ Some side → (f : List ℕ) → (is_below f p ≡ true → is_own p ≡ true) → is_below f (p ++ side.suffix) ≡ true → ⊥
  beside_own p side at f own b =
      let x = side_facts r t p side at in
      clash (is_some (r.new.at p)) x.1 (ap is_some (none_new p (own (above_suffix f p side.suffix x.0.free x.0.some b))))

  beside_off : (p : List ℕ) (side : Side) → side_at r t p ≡ Some side → is_own (p ++ side.suffix) ≡ false
  beside_off p side at = false_from_ne_true _ (λ own. go (or_cases (is_below records_name (p ++ side.suffix)) _ own))
    where
      go : (is_below records_name (p ++ side.suffix) ≡ true) ⊎ (is_below (codes "var/sadm/pkg") (p ++ side.suffix) ≡ true) → ⊥
      go (inl b) = beside_own p side at records_name (λ x. or_left _ _ x) b
      go (inr b) = beside_own p side at (codes "var/sadm/pkg") (λ x. or_right (is_below records_name p) _ x) b

  dir_above : (q : List ℕ) → covers q records_name ≡ true → is_dir (t.look q) ≡ true
  dir_above q over = go (same_path q records_name) refl
    where
      go : (b : Bool) → same_path q records_name ≡ b → is_dir (t.look q) ≡ true
      go true same = ap (λ (x : List ℕ). is_dir (t.look x)) (same_path-true q records_name same) ∙ stands
      go false same = ap (λ (b : Bool). b || is_dir (t.look q)) (sym (exists_dir t records_name stands)) ∙ formed.below_dirs q records_name over same

  -- a path at or above that folder, below that of the records, is that folder
  at_lost : (q : List ℕ) → is_below records_name q ≡ true → covers q lost_path ≡ true → covers lost_path q ≡ true
  at_lost q down up = go (same_path q lost_path) refl
    where
      go : (b : Bool) → same_path q lost_path ≡ b → covers lost_path q ≡ true
      go true same = ap (covers lost_path) (same_path-true q lost_path same) ∙ covers-self lost_path
      go false apart = absurd (none_between q down (below_of q lost_path up apart))

  apart_at : (q : List ℕ) → Spot q → listed r.over.keys q ≡ true → ⊥
  apart_at q (Under c) l = no_lost q c l
  apart_at q (Near p side at e) l =
      subst (λ (x : List ℕ). listed r.over.keys x ≡ true → ⊥) e (no_dot (p ++ side.suffix) (dot_behind p side.suffix (as_dot r (r.old.at p) (r.new.at p) (t.look p) side at)) (beside_off p side at)) l
  apart_at q (Above up bare) l = turn (comparable q lost_path a.root up root_lost)
    where
      deeper : (covers q records_name ≡ true) ⊎ (covers records_name q ≡ true) → covers q lost_path ≡ true → ⊥
      deeper (inl c) over = clash (is_dir (t.look q)) (dir_above q c) bare
      deeper (inr c) over = go (same_path records_name q) refl
        where
          go : (b : Bool) → same_path records_name q ≡ b → ⊥
          go true same = clash (is_dir (t.look q)) (ap (λ (x : List ℕ). is_dir (t.look x)) (sym (same_path-true records_name q same)) ∙ stands) bare
          go false apart = no_lost q (at_lost q (below_of records_name q c apart) over) l

      turn : (covers q lost_path ≡ true) ⊎ (covers lost_path q ≡ true) → ⊥
      turn (inl c) = deeper (comparable q records_name lost_path c records_lost) c
      turn (inr c) = no_lost q c l

  -- nor is what is above what is saved, in the folder of the records
  above_at : (p q : List ℕ) → Spot p → is_below q p ≡ true → is_below records_name q ≡ true → listed r.over.keys q ≡ true → ⊥
  above_at p q at up down l = go at
    where
      over : (z : List ℕ) → covers lost_path z ≡ true → covers q z ≡ true → ⊥
      over z c u = turn (comparable q lost_path z u c)
        where
          turn : (covers q lost_path ≡ true) ⊎ (covers lost_path q ≡ true) → ⊥
          turn (inl x) = no_lost q (at_lost q down x) l
          turn (inr x) = no_lost q x l

      go : Spot p → ⊥
      go (Under c) = over p c (below_covers q p up)
      go (Near x side at e) = beside_own x side at records_name (λ b. or_left _ _ b) (ap (is_below records_name) e ∙ below_trans records_name q p down up)
      go (Above c bare) = over a.root root_lost (covers_trans q p a.root (below_covers q p up) c)

  -- so the folder of the records is the image's own
  pub own_of : IsOwn r t a
  own_of = record {
    stands = stands;
    wanted = wanted;
    none_new = λ q b. none_new q (or_left _ _ b);
    none_old = λ q b. none_old q (or_left _ _ b);
    inside = inside;
    apart = λ q s. false_from_ne_true _ (apart_at q (spot_of q s));
    above = λ p q s up down. false_from_ne_true _ (above_at p q (spot_of p s) up down);
  }
