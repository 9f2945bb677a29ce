-- The first path at which a test holds.
use Rattle.std.proofs.Common.{◌≡◌, ◌⊎◌, inl, inr, ℕ, ◌+◌, ◌<◌, Bool, true, false, ◌&&◌, ◌||◌, ◌==◌, List, [], ◌∷◌, Option, Some, None, Bor, nat_lt, take, length, get_or, refl, sym, ◌∙◌, ap, subst, arith}
use Rattle.std.specs.List.{list_any}
use Rattle.std.specs.Option.{option_map}
use Rattle.std.specs.Ordering.{is_lt, nat_cmp, ordering_reverse}
use Rattle.std.specs.declared.cmp.Ordering.{Ordering}
use Rattle.std.specs.declared.cmp.Ordering.TheVariants.{Equal, Greater, Less}
use Rattle.std.specs.Cmp.Lexicographic.{slice_cmp}
use Rattle.std.proofs.lemmas.Bool.{and_from, and_parts, eq-eqb, eqb-true, eqb-false, false≢true, false_from_ne_true, lt-ltb, ltb-false, ltb-true, or_cases, or_from, or_left, or_right}
use Rattle.std.proofs.lemmas.Cmp.{nat_list_cmp_total}
use Rattle.std.proofs.lemmas.List.Folds.{list_any-append}
use Rattle.ips_text.specs.Ancestry.{same_path}
use Rattle.ips_text.specs.declared.path.RelPath.{RelPath}
use Rattle.ips_text.proofs.Ancestry.{same_path-self, same_path-true}
use Rattle.ips_text.proofs.Lists.{take_item}
use Rattle.ips_text.proofs.Truths.{or_false}
use Rattle.ips_after.specs.Salvage.{lesser}
use Rattle.ips_after.proofs.Names.{lesser_none}
use Rattle.ips_aside.specs.Long.{IsFirstAt}
use Rattle.ips_aside.proofs.Ordered.{less_so}

-- what is less than a path is less than another that isn't less than that
less_too : (q x y : List ℕ) → lesser q x ≡ true → lesser y x ≡ false → lesser q y ≡ true
less_too [] [] y h n = cc
less_too [] (c ∷ x) [] h n = cc
less_too [] (c ∷ x) (d ∷ y) h n = refl
less_too (a ∷ q) [] y h n = cc
less_too (a ∷ q) (c ∷ x) [] h n = cc
less_too (a ∷ q) (c ∷ x) (d ∷ y) h n = go (or_cases (nat_lt a c) ((a == c) && lesser q x) h) (c == d) refl (none (nat_lt d c) ((d == c) && lesser y x) n) (less_too q x y)
  where
    none : (u v : Bool) → (u || v) ≡ false → (u ≡ false) × (v ≡ false)
    none false false e = (refl, refl)
    none false true e = cc
    none true v e = cc

    later : (b : Bool) → b ≡ true → (e : Bool) → (b && e) ≡ false → e ≡ false
    later true one e h = h
    later false one e h = cc

    go : (nat_lt a c ≡ true) ⊎ (((a == c) && lesser q x) ≡ true) → (b : Bool) → (c == d) ≡ b → (nat_lt d c ≡ false) × (((d == c) && lesser y x) ≡ false) → (lesser q x ≡ true → lesser y x ≡ false → lesser q y ≡ true) → lesser (a ∷ q) (d ∷ y) ≡ true
    go (inl l) b e left rec = let one = ltb-true a c l in let two = ltb-false d c left.0 in or_left _ _ (lt-ltb a d (omega (arith, one, two)))
    go (inr r) true e left rec =
        let same = eqb-true c d e in
        let both = and_parts (a == c) (lesser q x) r in
        or_right (nat_lt a d) _ (and_from _ _ (eq-eqb a d (eqb-true a c both.0 ∙ same)) (rec both.1 (later (d == c) (eq-eqb d c (sym same)) (lesser y x) left.1)))
    go (inr r) false e left rec =
        let one = eqb-true a c (and_parts (a == c) (lesser q x) r).0 in
        let two = ltb-false d c left.0 in
        let three = eqb-false c d e in
        or_left _ _ (lt-ltb a d (omega (arith, one, two, three)))

not_back : (a b : List ℕ) → is_lt (slice_cmp nat_cmp b a) ≡ true → lesser a b ≡ false
not_back a b less = false_from_ne_true (lesser a b) (λ h. go (slice_cmp nat_cmp a b) (slice_cmp nat_cmp b a) (less_so a b h) less (nat_list_cmp_total.antisymm a b))
  where
    go : (o p : Ordering) → is_lt o ≡ true → is_lt p ≡ true → o ≡ ordering_reverse p → ⊥
    go Less Less h k e = let bad : Less ≡ Greater = e in cc
    go Less Equal h k e = cc
    go Less Greater h k e = cc
    go Equal p h k e = cc
    go Greater p h k e = cc

-- a test that says the same
pub first_as : (f g : List ℕ → Bool) (o : Option (List ℕ)) → ((q : List ℕ) → f q ≡ g q) → IsFirstAt f o → IsFirstAt g o
first_as f g (Some p) same h = (sym (same p) ∙ h.0, λ q less. sym (same q) ∙ h.1 q less)
first_as f g None same h = λ q. sym (same q) ∙ h q

not_less : (o : Ordering) → (o ≡ Less → ⊥) → is_lt o ≡ false
not_less Less never = absurd (never refl)
not_less Equal never = refl
not_less Greater never = refl

-- the bytes of a path, where there is one
abbrev pub path_of : Option (Bor RelPath) → Option (List ℕ)
path_of o = option_map (λ p. p.now.bytes) o

-- ---- the first of both

pub none_first : (f g : List ℕ → Bool) (o : Option (List ℕ)) → IsFirstAt f None → IsFirstAt g o → IsFirstAt (λ q. f q || g q) o
none_first f g (Some p) none h = (or_right (f p) (g p) h.0, λ q less. or_from (f q) (g q) (none q) (h.1 q less))
none_first f g None none h = λ q. or_from (f q) (g q) (none q) (h q)

pub none_last : (f g : List ℕ → Bool) (p : List ℕ) → IsFirstAt f (Some p) → IsFirstAt g None → IsFirstAt (λ q. f q || g q) (Some p)
none_last f g p h none = (or_left (f p) (g p) h.0, λ q less. or_from (f q) (g q) (h.1 q less) (none q))

pub last_first : (f g : List ℕ → Bool) (a b : List ℕ) → IsFirstAt f (Some a) → IsFirstAt g (Some b) → is_lt (slice_cmp nat_cmp b a) ≡ true → IsFirstAt (λ q. f q || g q) (Some b)
last_first f g a b one other less = (or_right (f b) (g b) other.0, λ q h. or_from (f q) (g q) (one.1 q (less_too q b a h (not_back a b less))) (other.1 q h))

pub first_first : (f g : List ℕ → Bool) (a b : List ℕ) → IsFirstAt f (Some a) → IsFirstAt g (Some b) → is_lt (slice_cmp nat_cmp b a) ≡ false → IsFirstAt (λ q. f q || g q) (Some a)
first_first f g a b one other more = (or_left (f a) (g a) one.0, λ q h. or_from (f q) (g q) (one.1 q h) (other.1 q (less_too q a b h (false_from_ne_true (lesser b a) (λ l. false≢true (sym more ∙ less_so b a l))))))

pub last_of : (f g : List ℕ → Bool) (x y : Option (Bor RelPath)) (a b : Bor RelPath) (o : Ordering) → x ≡ Some a → y ≡ Some b → o ≡ slice_cmp nat_cmp b.now.bytes a.now.bytes → o ≡ Less → IsFirstAt f (path_of x) → IsFirstAt g (path_of y) → IsFirstAt (λ q. f q || g q) (path_of y)
last_of f g x y a b o one other cmp less h k =
    subst (λ (z : Option (Bor RelPath)). IsFirstAt (λ q. f q || g q) (path_of z)) (sym other)
    (last_first f g a.now.bytes b.now.bytes (subst (λ (z : Option (Bor RelPath)). IsFirstAt f (path_of z)) one h) (subst (λ (z : Option (Bor RelPath)). IsFirstAt g (path_of z)) other k) (ap is_lt (sym cmp ∙ less)))

pub first_kept : (f g : List ℕ → Bool) (x y : Option (Bor RelPath)) (a b : Bor RelPath) (o : Ordering) → x ≡ Some a → y ≡ Some b → o ≡ slice_cmp nat_cmp b.now.bytes a.now.bytes → (o ≡ Less → ⊥) → IsFirstAt f (path_of x) → IsFirstAt g (path_of y) → IsFirstAt (λ q. f q || g q) (path_of x)
first_kept f g x y a b o one other cmp more h k =
    subst (λ (z : Option (Bor RelPath)). IsFirstAt (λ q. f q || g q) (path_of z)) (sym one)
    (first_first f g a.now.bytes b.now.bytes (subst (λ (z : Option (Bor RelPath)). IsFirstAt f (path_of z)) one h) (subst (λ (z : Option (Bor RelPath)). IsFirstAt g (path_of z)) other k) (ap is_lt (sym cmp) ∙ not_less o more))

-- ---- one path, and one more

pub only_first : (p : List ℕ) (b : Bool) → b ≡ true → IsFirstAt (λ q. same_path p q && b) (Some p)
only_first p b e = (and_from (same_path p p) b (same_path-self p) e, λ q less. false_from_ne_true _ (λ h. lesser_none p (ap (λ (l : List ℕ). lesser l p) (same_path-true p q (and_parts (same_path p q) b h).0) ∙ less)))

pub not_first : (p : List ℕ) (b : Bool) → b ≡ false → IsFirstAt (λ q. same_path p q && b) None
not_first p b e = λ q. false_from_ne_true _ (λ h. false≢true (sym e ∙ (and_parts (same_path p q) b h).1))

pub any_more : {A : Type 0} (test : A → Bool) (xs : List A) (i : ℕ) (x : A) → i < length xs → x ≡ get_or xs i x → (list_any test (take i xs) || test x) ≡ list_any test (take (i + 1) xs)
any_more test xs i x lt is =
    ap (λ (b : Bool). list_any test (take i xs) || b) (or_false (test x)) ∙ sym (list_any-append test (take i xs) (x ∷ [])) ∙ ap (list_any test) (sym (take_item xs i x lt is))
