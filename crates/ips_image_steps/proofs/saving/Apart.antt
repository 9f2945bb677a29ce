-- No two files that are put beside paths have the same name.
use Rattle.std.proofs.Common.{◌≡◌, ◌⊎◌, inl, inr, ℕ, ◌==◌, Bool, true, false, cond, not, ◌&&◌, List, [], ◌∷◌, ◌++◌, Option, Some, None, refl, sym, ◌∙◌, ap, subst}
use Rattle.std.proofs.lemmas.Bool.{and_parts, false≢true, not-true}
use Rattle.ips_text.specs.Ancestry.{is_below}
use Rattle.ips_outside.specs.Image.{Dir, Entry, File, Image, Link, Other, is_file}
use Rattle.ips_steps.specs.Private.{records_name}
use Rattle.ips_preserve.specs.declared.keep.Keep.{Keep}
use Rattle.ips_preserve.specs.declared.keep.Keep.TheVariants.{Lay, Stay, SalvageLay, SaveOld, LayNew, SaveLegacy, Drop, SalvageDrop}
use Rattle.ips_after.specs.After.{answer_at, was_equal}
use Rattle.ips_after.specs.Request.{Request, WantDir, WantFile, WantHard, WantLink, Wanted}
use Rattle.ips_after.specs.Salvage.{Aside, IsLostName, Lesser, NameTaken, Side, copied, is_lost, legacy_suffix, lesser, new_suffix, old_suffix, side_as, side_at, side_for, side_name}
use Rattle.ips_after.proofs.Fits.{below_trans}
use Rattle.ips_after.proofs.Names.{beside_out, tried_below}
use Rattle.ips_aside.proofs.Ordered.{less_or}

-- ---- what is told of a suffix

abbrev no_dot : List ℕ → Bool
no_dot [] = true
no_dot (b ∷ q) = not (b == 46) && no_dot q

-- a dot, and no other
abbrev is_dotted : List ℕ → Bool
is_dotted [] = false
is_dotted (b ∷ q) = (b == 46) && no_dot q

copied_dotted : (s : List ℕ) (e : Option Entry) (side : Side) → is_dotted s ≡ true → copied s e ≡ Some side → is_dotted side.suffix ≡ true
copied_dotted s (Some (Dir m f)) side dot h = cc
copied_dotted s (Some (File m b)) side dot h = let one : record { suffix = s; entry = File m b } ≡ side = cc in ap (λ (x : Side). is_dotted x.suffix) (sym one) ∙ dot
copied_dotted s (Some (Link g)) side dot h = cc
copied_dotted s (Some Other) side dot h = cc
copied_dotted s None side dot h = cc

new_dotted : (m : ℕ) (b : List ℕ) (side : Side) (c : Bool) → cond c (Some (record { suffix = new_suffix; entry = File m b })) None ≡ Some side → is_dotted side.suffix ≡ true
new_dotted m b side true h = let one : record { suffix = new_suffix; entry = File m b } ≡ side = cc in ap (λ (x : Side). is_dotted x.suffix) (sym one)
new_dotted m b side false h = cc

for_dotted : (ans : Keep) (m : ℕ) (b : List ℕ) (e : Option Entry) (side : Side) → side_for ans (File m b) e ≡ Some side → is_dotted side.suffix ≡ true
for_dotted SaveOld m b e side h = copied_dotted old_suffix e side refl h
for_dotted SaveLegacy m b e side h = copied_dotted legacy_suffix e side refl h
for_dotted LayNew m b e side h = new_dotted m b side (is_file e) h
for_dotted Lay m b e side h = cc
for_dotted Stay m b e side h = cc
for_dotted SalvageLay m b e side h = cc
for_dotted Drop m b e side h = cc
for_dotted SalvageDrop m b e side h = cc

as_dotted : (r : Request) (was w : Option Wanted) (e : Option Entry) (side : Side) → side_as r was w e ≡ Some side → is_dotted side.suffix ≡ true
as_dotted r was (Some (WantDir m)) e side h = cc
as_dotted r was (Some (WantFile payload m preserve)) e side h = go (was_equal was (WantFile payload m preserve)) h
  where
    go : (c : Bool) → cond c None (side_for (answer_at r was payload preserve e) (File m (r.bytes payload)) e) ≡ Some side → is_dotted side.suffix ≡ true
    go true h = cc
    go false h = for_dotted (answer_at r was payload preserve e) m (r.bytes payload) e side h
as_dotted r was (Some (WantLink g)) e side h = cc
as_dotted r was (Some (WantHard to)) e side h = cc
as_dotted r was None e side h = cc

-- ---- names with such suffixes

has_dot : (x s : List ℕ) → is_dotted s ≡ true → no_dot (x ++ s) ≡ true → ⊥
has_dot [] [] dot none = cc
has_dot [] (b ∷ s) dot none = false≢true (sym (not-true (b == 46) (and_parts (not (b == 46)) (no_dot s) none).0) ∙ (and_parts (b == 46) (no_dot s) dot).0)
has_dot (c ∷ x) s dot none = has_dot x s dot (and_parts (not (c == 46)) (no_dot (x ++ s)) none).1

dots_apart : (y : ℕ) (x s u : List ℕ) → is_dotted u ≡ true → is_dotted s ≡ true → u ≡ y ∷ (x ++ s) → ⊥
dots_apart y x s u dot has is = has_dot x s has (and_parts (y == 46) (no_dot (x ++ s)) (ap is_dotted (sym is) ∙ dot)).1

-- a name is cut at its last dot
same_front : (p x s u : List ℕ) → is_dotted s ≡ true → is_dotted u ≡ true → p ++ s ≡ x ++ u → p ≡ x
same_front [] [] s u ds du is = refl
same_front [] (y ∷ x) s u ds du is = absurd (dots_apart y x u s ds du is)
same_front (a ∷ p) [] s u ds du is = absurd (dots_apart a p s u du ds (sym is))
same_front (a ∷ p) (y ∷ x) s u ds du is =
    let first : a ≡ y = cc in
    let rest : p ++ s ≡ x ++ u = cc in
    let same = same_front p x s u ds du rest in
    cc

-- ---- the names of files

module _ (r : Request) (t : Image) (a : Aside) (bare : (q : List ℕ) → is_below records_name q ≡ true → r.new.at q ≡ None) (under : is_below records_name a.root ≡ true)
    (names : (p : List ℕ) (side : Side) → side_at r t p ≡ Some side → is_lost r t (p ++ side.suffix) ≡ true → IsLostName r t a p side) where
  -- a name in the salvage folder isn't one beside a path
  lost_out : (p : List ℕ) (side : Side) → side_at r t p ≡ Some side → is_lost r t (p ++ side.suffix) ≡ true → (x : List ℕ) (other : Side) → side_at r t x ≡ Some other → a.lost p ≡ x ++ other.suffix → ⊥
  lost_out p side at lost x other on same =
      let n = names p side at lost in
      let inner : is_below a.root (a.lost p) ≡ true = ap (is_below a.root) n.name ∙ tried_below a.root n.times p side in
      beside_out r t a.root bare under x other on (ap (is_below records_name) (sym same) ∙ below_trans records_name a.root (a.lost p) under inner)

  -- the name of a file in the salvage folder isn't that of one of a lesser path
  lost_apart : (p : List ℕ) (side : Side) → side_at r t p ≡ Some side → is_lost r t (p ++ side.suffix) ≡ true → (x : List ℕ) (other : Side) → side_at r t x ≡ Some other → side_name r t a x other ≡ a.lost p → lesser x p ≡ true → ⊥
  lost_apart p side at lost x other on same less = (names p side at lost).free (subst (NameTaken r t a p) same (Lesser x other on less))

  pub names_apart : (p : List ℕ) (side : Side) → side_at r t p ≡ Some side → (x : List ℕ) (other : Side) → side_at r t x ≡ Some other → side_name r t a p side ≡ side_name r t a x other → p ≡ x
  names_apart p side at x other on same = go (is_lost r t (p ++ side.suffix)) refl (is_lost r t (x ++ other.suffix)) refl same
    where
      both : is_lost r t (p ++ side.suffix) ≡ true → is_lost r t (x ++ other.suffix) ≡ true → (lesser p x ≡ true) ⊎ ((lesser x p ≡ true) ⊎ (p ≡ x)) → p ≡ x
      both lost gone (inl less) = absurd (lost_apart x other on gone p side at (same ∙ ap (λ (b : Bool). cond b (a.lost x) (x ++ other.suffix)) gone) less)
      both lost gone (inr (inl less)) = absurd (lost_apart p side at lost x other on (sym same ∙ ap (λ (b : Bool). cond b (a.lost p) (p ++ side.suffix)) lost) less)
      both lost gone (inr (inr is)) = is

      go : (b : Bool) → is_lost r t (p ++ side.suffix) ≡ b → (c : Bool) → is_lost r t (x ++ other.suffix) ≡ c → cond b (a.lost p) (p ++ side.suffix) ≡ cond c (a.lost x) (x ++ other.suffix) → p ≡ x
      go true lost true gone e = both lost gone (less_or p x)
      go true lost false free e = absurd (lost_out p side at lost x other on e)
      go false free true gone e = absurd (lost_out x other on gone p side at (sym e))
      go false free false beside e = same_front p x side.suffix other.suffix (as_dotted r (r.old.at p) (r.new.at p) (t.look p) side at) (as_dotted r (r.old.at x) (r.new.at x) (t.look x) other on) e
