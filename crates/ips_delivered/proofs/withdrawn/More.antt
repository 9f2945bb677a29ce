-- Sets of bytes, some more at a time.
use Rattle.std.proofs.Common.{◌≡◌, ◌∙◌, ◌++◌, ◌∷◌, [], ◌||◌, ◌+◌, ◌<◌, ℕ, Bool, false, cond, List, Vec, Global, map, filter, take, length, get_or, sym, ap, subst}
use Rattle.std.specs.List.{AllByRecursion, list_any}
use Rattle.std.proofs.lemmas.List.{map-append}
use Rattle.ips_text.proofs.Lists.{map_item}
use Rattle.ips_text.proofs.Truths.{or_assoc, or_false}
use Rattle.ips_action.specs.Attrs.{is_same}
use Rattle.ips_conflict.specs.Index.{has_path}
use Rattle.ips_after.specs.Lists.{listed}
use Rattle.ips_after.proofs.Order.{listed_append}
use Rattle.ips_delivered.proofs.delivered.Picked.{picked_more}
use Rattle.ips_fmri.specs.Name.{IsStem}
use Rattle.ips_manifest.specs.declared.package.Package.{Package}
use Rattle.ips_state.specs.Form.{IsPackage}
use Rattle.ips_state.specs.State.{installed}
use Rattle.ips_delivered.specs.withdrawn.Sets.{ByteSet, HasJust, HasMore}

-- nothing more
pub same_has : (set : ByteSet) → HasMore set set []
same_has set q = or_false (has_path set q)

pub more_then : (a b c : ByteSet) (xs ys : List (List ℕ)) → HasMore a b xs → HasMore b c ys → HasMore a c (xs ++ ys)
more_then a b c xs ys h k q =
    k q
    ∙ ap (λ (t : Bool). t || listed ys q) (h q)
    ∙ or_assoc (has_path a q) (listed xs q) (listed ys q)
    ∙ ap (λ (t : Bool). has_path a q || t) (sym (listed_append xs ys q))

pub just_more : (b c : ByteSet) (xs ys : List (List ℕ)) → HasJust b xs → HasMore b c ys → HasJust c (xs ++ ys)
just_more b c xs ys h k q = k q ∙ ap (λ (t : Bool). t || listed ys q) (h q) ∙ sym (listed_append xs ys q)

-- what an empty set has more it has
pub just_from : (a b : ByteSet) (xs : List (List ℕ)) → a.keys ≡ [] → HasMore a b xs → HasJust b xs
just_from a b xs none h q = h q ∙ ap (λ (keys : List (Vec ℕ Global)). list_any (λ k. is_same q k.items) keys || listed xs q) none

-- of what is gone through, one thing more is picked or left
pub pick_more : {X : Type 0} (test : X → Bool) (f : X → List ℕ) (a b c : ByteSet) (xs : List X) (x : X) → HasMore a b (map f (filter test xs)) → HasMore b c (cond (test x) (f x ∷ []) []) → HasMore a c (map f (filter test (xs ++ x ∷ [])))
pick_more test f a b c xs x h k = subst (HasMore a c) (sym (picked_more test f xs x)) (more_then a b c (map f (filter test xs)) (cond (test x) (f x ∷ []) []) h k)

-- of what is told of a list, one thing more
pub just_told : {A B : Type 0} (f : A → B) (g : B → List ℕ) (old new : ByteSet) (xs : List A) (i : ℕ) (x : A) → i < length xs → x ≡ get_or xs i x → HasJust old (map g (map f (take i xs))) → HasMore old new (g (f x) ∷ [])
    → HasJust new (map g (map f (take (i + 1) xs)))
just_told f g old new xs i x lt is so_far one =
    subst (HasJust new) (sym (ap (map g) (map_item f xs i x lt is) ∙ map-append g (map f (take i xs)) (f x ∷ []))) (just_more old new (map g (map f (take i xs))) (g (f x) ∷ []) so_far one)

-- the stems of packages that can be recorded are stems
pub package_stems : (packages : List Package) → AllByRecursion IsPackage (map installed packages) → AllByRecursion (λ (p : Package). IsStem false p.stem) packages
package_stems [] all = tt
package_stems (p ∷ packages) all = (all.0.stem, package_stems packages all.1)
