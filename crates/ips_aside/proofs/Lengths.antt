-- Names beside paths, and in the salvage folder, that are too long.
use Rattle.std.proofs.Common.{◌≡◌, ◌⊎◌, inl, inr, ℕ, Bool, true, false, cond, ◌&&◌, ◌||◌, List, [], ◌∷◌, ◌++◌, Option, Some, None, length, nat_lt, refl, sym, ◌∙◌, ap, subst}
use Rattle.std.specs.List.{AllByRecursion, list_any}
use Rattle.std.proofs.lemmas.Bool.{and_from, and_parts, false≢true, ltb-true, or_cases, or_left, or_right}
use Rattle.ips_text.specs.Ancestry.{same_path}
use Rattle.ips_text.specs.Path.{Has, is_long, parts}
use Rattle.ips_text.specs.declared.path.PathFault.TheVariants.{TooLong}
use Rattle.ips_text.proofs.Ancestry.{same_path-self, same_path-true}
use Rattle.ips_outside.specs.Image.{Image}
use Rattle.ips_outside.specs.Outside.{readable}
use Rattle.ips_after.specs.Lists.{listed}
use Rattle.ips_after.specs.Request.{Request}
use Rattle.ips_after.specs.Salvage.{Aside, has_long_side, is_long_path, is_lost, side_at, side_name}
use Rattle.ips_after.specs.Salvage as salvage
use Rattle.ips_after.proofs.Changed.{both_ways}
use Rattle.ips_aside.specs.declared.sides.side.Side.{Side}
use Rattle.ips_aside.specs.declared.sides.side.SideName.{SideName}
use Rattle.ips_aside.specs.declared.sides.side.SideName.TheVariants as name
use Rattle.ips_aside.specs.sides.Sides.{IsNameOf, IsSide, ending_of, side_paths, side_put}
use Rattle.ips_aside.specs.declared.lost.LostName.{LostName}
use Rattle.ips_aside.specs.Long.{is_too_long_name, long_name_at, too_long_at}
use Rattle.ips_aside.specs.Lost.{AreNamesOf, HasName, lost_seen}
use Rattle.ips_aside.proofs.Defined.{IsLostSide, Placed, goes_name, listed_side, placed, suffix_put, told}

long_path_fault : (q : List ℕ) → is_long_path q ≡ true → Has TooLong q
long_path_fault q h = go (or_cases (nat_lt 1023 (length q)) (list_any is_long (parts q)) h)
  where
    go : (nat_lt 1023 (length q) ≡ true) ⊎ (list_any is_long (parts q) ≡ true) → Has TooLong q
    go (inl l) = inl (ltb-true 1023 (length q) l)
    go (inr l) = inr l

-- a name that can be used beside its path and is too long is told so
told_long : (r : Request) (t : Image) (q : List ℕ) (n : SideName) → IsNameOf r t q n → is_lost r t q ≡ false → is_long_path q ≡ true → is_too_long_name n ≡ true
told_long r t q (name.Free path) is free long = absurd (is.1 TooLong (long_path_fault q long))
told_long r t q name.Lost is free long = absurd (false≢true (sym free ∙ is.1))
told_long r t q name.TooLong is free long = refl

-- what is told of a file that is put beside a path
sides_long : (r : Request) (t : Image) (sides : List Side) (p : List ℕ) (side : salvage.Side) → AllByRecursion (IsSide r t) sides → listed (side_paths sides) p ≡ true → side_at r t p ≡ Some side → is_lost r t (p ++ side.suffix) ≡ false → is_long_path (p ++ side.suffix) ≡ true
    → too_long_at sides p ≡ true
sides_long r t [] p side all there at free long = cc
sides_long r t (s ∷ sides) p side all there at free long = go (or_cases (same_path s.path.now.bytes p) _ there) (λ h. sides_long r t sides p side all.1 h at free long)
  where
    same : s.path.now.bytes ≡ p → is_too_long_name s.name ≡ true
    same e =
        let seen : Some (side_put r.bytes (readable (t.look s.path.now.bytes)) s.put) ≡ Some side = sym all.0.is ∙ ap (side_at r t) e ∙ at in
        let is : side_put r.bytes (readable (t.look s.path.now.bytes)) s.put ≡ side = cc in
        let ending : ending_of s.put ≡ side.suffix = sym (suffix_put r.bytes (readable (t.look s.path.now.bytes)) s.put) ∙ ap (λ (x : salvage.Side). x.suffix) is in
        let at_name : s.path.now.bytes ++ ending_of s.put ≡ p ++ side.suffix = ap (λ (l : List ℕ). l ++ ending_of s.put) e ∙ ap (λ (l : List ℕ). p ++ l) ending in
        told_long r t (s.path.now.bytes ++ ending_of s.put) s.name all.0.name (ap (is_lost r t) at_name ∙ free) (ap is_long_path at_name ∙ long)

    go : (same_path s.path.now.bytes p ≡ true) ⊎ (listed (side_paths sides) p ≡ true) → (listed (side_paths sides) p ≡ true → too_long_at sides p ≡ true) → too_long_at (s ∷ sides) p ≡ true
    go (inl e) rest = or_left _ _ (and_from _ _ e (same (same_path-true s.path.now.bytes p e)))
    go (inr e) rest = or_right (same_path s.path.now.bytes p && is_too_long_name s.name) _ (rest e)

too_long_side : (r : Request) (t : Image) (a : Aside) (s : Side) → IsSide r t s → is_too_long_name s.name ≡ true → has_long_side r t a s.path.now.bytes (side_at r t s.path.now.bytes) ≡ true
too_long_side r t a s one long = go s.name one.name long
  where
    p : List ℕ
    p = s.path.now.bytes

    side : salvage.Side
    side = side_put r.bytes (readable (t.look p)) s.put

    name_is : p ++ side.suffix ≡ p ++ ending_of s.put
    name_is = ap (λ (l : List ℕ). p ++ l) (suffix_put r.bytes (readable (t.look p)) s.put)

    go : (n : SideName) → IsNameOf r t (p ++ ending_of s.put) n → is_too_long_name n ≡ true → has_long_side r t a p (side_at r t p) ≡ true
    go (name.Free path) is e = cc
    go name.Lost is e = cc
    go name.TooLong is e =
        ap (has_long_side r t a p) one.is ∙ ap (λ (b : Bool). is_long_path (cond b (a.lost p) (p ++ side.suffix))) (ap (is_lost r t) name_is ∙ is.1) ∙ ap is_long_path name_is ∙ is.0

long_side_told : (r : Request) (t : Image) (a : Aside) (sides : List Side) (q : List ℕ) → AllByRecursion (IsSide r t) sides → too_long_at sides q ≡ true → has_long_side r t a q (side_at r t q) ≡ true
long_side_told r t a [] q all h = cc
long_side_told r t a (s ∷ sides) q all h = go (or_cases (same_path s.path.now.bytes q && is_too_long_name s.name) _ h) (long_side_told r t a sides q all.1)
  where
    go : ((same_path s.path.now.bytes q && is_too_long_name s.name) ≡ true) ⊎ (too_long_at sides q ≡ true) → (too_long_at sides q ≡ true → has_long_side r t a q (side_at r t q) ≡ true) → has_long_side r t a q (side_at r t q) ≡ true
    go (inl e) rest =
        let parts = and_parts (same_path s.path.now.bytes q) (is_too_long_name s.name) e in
        subst (λ (l : List ℕ). has_long_side r t a l (side_at r t l) ≡ true) (same_path-true s.path.now.bytes q parts.0) (too_long_side r t a s all.0 parts.1)
    go (inr e) rest = rest e

module _ (r : Request) (t : Image) (a : Aside) (things : List (List ℕ)) (sides : List Side) (names : List LostName) (are : AreNamesOf r t a things sides names) where
  long_name_told : (names : List LostName) (q : List ℕ) → AllByRecursion (λ x. IsLostSide r t (lost_seen x)) names → AllByRecursion (HasName a) names → long_name_at names q ≡ true → has_long_side r t a q (side_at r t q) ≡ true
  long_name_told [] q lost has h = cc
  long_name_told (x ∷ rest) q lost has h = go (or_cases (same_path x.path.now.bytes q && is_long_path x.name.items) _ h) (long_name_told rest q lost.1 has.1)
    where
      here : is_long_path x.name.items ≡ true → has_long_side r t a x.path.now.bytes (side_at r t x.path.now.bytes) ≡ true
      here long = ap (has_long_side r t a x.path.now.bytes) lost.0.at ∙ ap is_long_path (goes_name r t a things sides names are x lost.0 has.0) ∙ long

      go : ((same_path x.path.now.bytes q && is_long_path x.name.items) ≡ true) ⊎ (long_name_at rest q ≡ true) → (long_name_at rest q ≡ true → has_long_side r t a q (side_at r t q) ≡ true) → has_long_side r t a q (side_at r t q) ≡ true
      go (inl e) later =
          let parts = and_parts (same_path x.path.now.bytes q) (is_long_path x.name.items) e in
          subst (λ (l : List ℕ). has_long_side r t a l (side_at r t l) ≡ true) (same_path-true x.path.now.bytes q parts.0) (here parts.1)
      go (inr e) later = later e

  among_long : (front : List LostName) (one : LostName) (back : List LostName) (q : List ℕ) → one.path.now.bytes ≡ q → is_long_path one.name.items ≡ true → long_name_at (front ++ one ∷ back) q ≡ true
  among_long [] one back q e long = or_left _ _ (and_from _ _ (ap (λ (l : List ℕ). same_path l q) e ∙ same_path-self q) long)
  among_long (x ∷ front) one back q e long = or_right (same_path x.path.now.bytes q && is_long_path x.name.items) _ (among_long front one back q e long)

  name_long : (q : List ℕ) (side : salvage.Side) → side_at r t q ≡ Some side → is_long_path (side_name r t a q side) ≡ true → (too_long_at sides q || long_name_at names q) ≡ true
  name_long q side at long = go (is_lost r t (q ++ side.suffix)) refl long
    where
      in_folder : Placed r t a things names q side → is_long_path (a.lost q) ≡ true → long_name_at names q ≡ true
      in_folder one h = subst (λ (l : List LostName). long_name_at l q ≡ true) (sym one.among.there) (among_long one.among.front one.among.one one.among.back q one.among.path (ap is_long_path (sym one.name) ∙ h))

      go : (b : Bool) → is_lost r t (q ++ side.suffix) ≡ b → is_long_path (cond b (a.lost q) (q ++ side.suffix)) ≡ true → (too_long_at sides q || long_name_at names q) ≡ true
      go true lost h = or_right (too_long_at sides q) _ (in_folder (placed r t a things sides names are q side at lost) h)
      go false free h = or_left _ _ (sides_long r t sides q side are.sides_are.each (listed_side r t a things sides names are q side at) at free h)

  -- the name beside a path is too long just where it was told so, or has too long a name in the folder
  pub long_same : (q : List ℕ) → (too_long_at sides q || long_name_at names q) ≡ has_long_side r t a q (side_at r t q)
  long_same q = both_ways (λ h. told_so (or_cases (too_long_at sides q) (long_name_at names q) h)) (λ h. found (side_at r t q) refl h)
    where
      told_so : (too_long_at sides q ≡ true) ⊎ (long_name_at names q ≡ true) → has_long_side r t a q (side_at r t q) ≡ true
      told_so (inl h) = long_side_told r t a sides q are.sides_are.each h
      told_so (inr h) = long_name_told names q (told r t a things sides names are) are.has h

      found : (o : Option salvage.Side) → side_at r t q ≡ o → has_long_side r t a q o ≡ true → (too_long_at sides q || long_name_at names q) ≡ true
      found (Some side) at h = name_long q side at h
      found None at h = cc
