-- What can be moved below a folder.
use Rattle.std.proofs.Common.{◌≡◌, inr, ℕ, ◌+◌, Bool, true, false, not, ◌||◌, List, ◌∷◌, ◌++◌, Option, Some, None, length, refl, sym, ◌∙◌, ap, arith, length-append}
use Rattle.std.specs.Prelude.{nat_lt}
use Rattle.std.specs.List.{list_any}
use Rattle.std.proofs.lemmas.Bool.{false_from_ne_true, lt-ltb, ltb-true, or_from}
use Rattle.std.proofs.lemmas.List.Folds.{list_any-append}
use Rattle.ips_text.specs.Path.{IsPath, is_long, parts}
use Rattle.ips_text.specs.declared.path.PathFault.TheVariants.{TooLong}
use Rattle.ips_text.proofs.Fronts.{parts_at}
use Rattle.ips_outside.specs.Image.{Dir, Entry, File, Image, Link, Other}
use Rattle.ips_after.specs.Salvage.{is_long_path, movable}
use Rattle.ips_after.proofs.Changed.{both_ways}
use Rattle.ips_after.proofs.Behind.{behind_path, but_long, not_long}
use Rattle.ips_found.specs.Found.{Found, FoundDir, FoundFile, FoundLink, FoundOther, IsThing, found_of, found_told}
use Rattle.ips_found.specs.declared.found.Thing.{Thing}
use Rattle.ips_movable.specs.Movable.{CanMove, SaysBytes, can_be_made, cannot_move, is_fixed}

-- no part of a path is too long
short_parts : (p : List ℕ) → IsPath p → list_any is_long (parts p) ≡ false
short_parts p path = false_from_ne_true _ (λ h. path TooLong (inr h))

-- a path behind a path is too long just where both have too many bytes
pub long_behind : (root p : List ℕ) → IsPath root → IsPath p → is_long_path (root ++ 47 ∷ p) ≡ nat_lt 1022 (length root + length p)
long_behind root p a b =
    ap (λ (x : Bool). nat_lt 1023 (length (root ++ 47 ∷ p)) || x) (ap (list_any is_long) (parts_at root p) ∙ list_any-append is_long (parts root) (parts p) ∙ or_from _ _ (short_parts root a) (short_parts p b))
    ∙ last (nat_lt 1023 (length (root ++ 47 ∷ p)))
    ∙ both_ways
    (λ h. lt-ltb 1022 (length root + length p) (omega (arith, length-append root (47 ∷ p), ltb-true 1023 (length (root ++ 47 ∷ p)) h)))
    (λ h. lt-ltb 1023 (length (root ++ 47 ∷ p)) (omega (arith, length-append root (47 ∷ p), ltb-true 1022 (length root + length p) h)))
  where
    last : (b : Bool) → (b || false) ≡ b
    last true = refl
    last false = refl

-- a path behind a path that isn't too long is one
pub path_behind : (root p : List ℕ) → IsPath root → IsPath p → is_long_path (root ++ 47 ∷ p) ≡ false → IsPath (root ++ 47 ∷ p)
path_behind root p a b short = not_long (root ++ 47 ∷ p) (behind_path root p (but_long root a) (but_long p b)) short

-- what was found can be made again just where what stands can be moved
made_movable : (e : Option Entry) (f : Found) → Some f ≡ found_of e → can_be_made f ≡ movable e
made_movable (Some (Dir m f)) x is = ap can_be_made (same x (FoundDir m f) is)
  where
    same : (a b : Found) → Some a ≡ Some b → a ≡ b
    same a b e = cc
made_movable (Some (File m b)) x is = ap can_be_made (same x (FoundFile m) is)
  where
    same : (a b : Found) → Some a ≡ Some b → a ≡ b
    same a b e = cc
made_movable (Some (Link g)) x is = ap can_be_made (same x (FoundLink g) is)
  where
    same : (a b : Found) → Some a ≡ Some b → a ≡ b
    same a b e = cc
made_movable (Some Other) x is = ap can_be_made (same x FoundOther is)
  where
    same : (a b : Found) → Some a ≡ Some b → a ≡ b
    same a b e = cc
made_movable None x is = absurd (cc)

pub fixed_seen : (t : Image) (root : List ℕ) (x : Thing) → IsThing t x → is_fixed root x ≡ cannot_move t root x.path.bytes
fixed_seen t root x is = ap (λ (b : Bool). not b || is_long_path (root ++ 47 ∷ x.path.bytes)) (made_movable (t.look x.path.bytes) (found_told x.found) is)

-- a thing that a step can make again can't be moved where its path and the folder's have too many bytes
pub fixed_long : (root : List ℕ) (x : Thing) (a b : List ℕ) (made : Bool) → made ≡ true → made ≡ can_be_made (found_told x.found) → a ≡ root → b ≡ x.path.bytes → IsPath root → IsPath x.path.bytes → nat_lt 1022 (length a + length b) ≡ is_fixed root x
fixed_long root x a b made can told one two front path =
    ap (λ (l : List ℕ). nat_lt 1022 (length l + length b)) one ∙ ap (λ (l : List ℕ). nat_lt 1022 (length root + length l)) two
    ∙ sym (ap (λ (m : Bool). not m || is_long_path (root ++ 47 ∷ x.path.bytes)) (sym told) ∙ ap (λ (m : Bool). not m || is_long_path (root ++ 47 ∷ x.path.bytes)) can ∙ long_behind root x.path.bytes front path)

-- and else it can
pub moves : (root : List ℕ) (x : Thing) (a b : List ℕ) (made : Bool) → made ≡ true → made ≡ can_be_made (found_told x.found) → a ≡ root → b ≡ x.path.bytes → IsPath root → IsPath x.path.bytes → nat_lt 1022 (length a + length b) ≡ false → SaysBytes (found_told x.found) → CanMove root x
moves root x a b made can told one two front path few says =
    let short : is_long_path (root ++ 47 ∷ x.path.bytes) ≡ false = long_behind root x.path.bytes front path
    ∙ sym (ap (λ (l : List ℕ). nat_lt 1022 (length l + length b)) one ∙ ap (λ (l : List ℕ). nat_lt 1022 (length root + length l)) two) ∙ few in
    record {
      made = sym told ∙ can;
      says = says;
      short = short;
      path = path_behind root x.path.bytes front path short;
    }
