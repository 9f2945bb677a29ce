-- Likeness is an equivalence, and of three files two neither overlay the other.
use Rattle.std.proofs.Common.{◌≡◌, ℕ, zero, suc, ◌==◌, ◌&&◌, Bool, true, false, not, cond, List, [], ◌∷◌, Option, Some, None, refl, sym, ap, subst, ◌∙◌, inl, inr}
use Rattle.std.specs.Prelude.{codes}
use Rattle.std.specs.Option.{option_eq}
use Rattle.std.specs.Cmp.Lexicographic.{pointwise}
use Rattle.std.proofs.lemmas.Bool.{true≢false, and_parts, and_from, or_cases, eqb-true, eq-eqb, true_from_ne_false, not_from_false, not-true}
use Rattle.ips_action.specs.declared.kind.ActionKind.{ActionKind}
use Rattle.ips_action.specs.declared.kind.ActionKind.TheVariants.{Set, Depend, Dir, File, Link, Hardlink, User, Group, Driver, License, Legacy, Signature}
use Rattle.ips_action.specs.Attrs.{is_same}
use Rattle.ips_action.specs.Action.{Fields, payload_word}
use Rattle.ips_conflict.specs.declared.placed.Sort.{Sort}
use Rattle.ips_conflict.specs.Key.{first_value, value_of, sort_of, is_link}
use Rattle.ips_conflict.specs.Alike.{kind_place, same_kind, mode_of, same_access, led_to, untagged, same_attr, alike_as, alike, has, takes_place, gives_place, takes_over, are_files, overlaid}
use Rattle.ips_conflict.specs.Verdict.{decision, differ_in_mediator}
use Rattle.ips_action.proofs.KeyOrder.{same_true}

-- what is the same as one thing is the same as one another
abbrev Euclid : {A : Type 0} → (A → A → Bool) → Type 0
Euclid {A} E = (x y z : A) → E x y ≡ true → E x z ≡ true → E y z ≡ true

texts : Euclid is_same
texts x y z a b = subst (λ (t : List ℕ). is_same t z ≡ true) (same_true x y a) b

options : {A : Type 0} (E : A → A → Bool) → Euclid E → Euclid (option_eq E)
options E h None None None a b = refl
options E h None None (Some z) a b = b
options E h None (Some y) z a b = absurd (true≢false (sym a))
options E h (Some x) None z a b = absurd (true≢false (sym a))
options E h (Some x) (Some y) None a b = absurd (true≢false (sym b))
options E h (Some x) (Some y) (Some z) a b = h x y z a b

lists : {A : Type 0} (E : A → A → Bool) → Euclid E → Euclid (pointwise E)
lists E h [] [] [] a b = refl
lists E h [] [] (z ∷ zs) a b = b
lists E h [] (y ∷ ys) zs a b = absurd (true≢false (sym a))
lists E h (x ∷ xs) [] zs a b = absurd (true≢false (sym a))
lists E h (x ∷ xs) (y ∷ ys) [] a b = absurd (true≢false (sym b))
lists E h (x ∷ xs) (y ∷ ys) (z ∷ zs) a b =
    let p = and_parts (E x y) (pointwise E xs ys) a in
    let q = and_parts (E x z) (pointwise E xs zs) b in
    and_from (E y z) (pointwise E ys zs) (h x y z p.0 q.0) (lists E h xs ys zs p.1 q.1)

attrs : Euclid same_attr
attrs x y z a b =
    let p = and_parts (is_same x.key y.key) (pointwise is_same x.values y.values) a in
    let q = and_parts (is_same x.key z.key) (pointwise is_same x.values z.values) b in
    and_from (is_same y.key z.key) (pointwise is_same y.values z.values) (texts x.key y.key z.key p.0 q.0) (lists is_same texts x.values y.values z.values p.1 q.1)

accesses : Euclid same_access
accesses x y z a b =
    let owner : Fields → List ℕ = λ f. value_of (codes "owner") f in
    let group : Fields → List ℕ = λ f. value_of (codes "group") f in
    let p = and_parts ((mode_of x == mode_of y) && is_same (owner x) (owner y)) (is_same (group x) (group y)) a in
    let q = and_parts ((mode_of x == mode_of z) && is_same (owner x) (owner z)) (is_same (group x) (group z)) b in
    let m = and_parts (mode_of x == mode_of y) (is_same (owner x) (owner y)) p.0 in
    let n = and_parts (mode_of x == mode_of z) (is_same (owner x) (owner z)) q.0 in
    and_from ((mode_of y == mode_of z) && is_same (owner y) (owner z)) (is_same (group y) (group z))
    (and_from (mode_of y == mode_of z) (is_same (owner y) (owner z)) (eq-eqb (mode_of y) (mode_of z) (sym (eqb-true (mode_of x) (mode_of y) m.0) ∙ eqb-true (mode_of x) (mode_of z) n.0)) (texts (owner x) (owner y) (owner z) m.1 n.1))
    (texts (group x) (group y) (group z) p.1 q.1)

by_kind : (k : ActionKind) → Euclid (alike_as k)
by_kind Set x y z a b = a
by_kind Depend x y z a b = a
by_kind Dir x y z a b = accesses x y z a b
by_kind File x y z a b = a
by_kind Link x y z a b = texts (value_of (codes "target") x) (value_of (codes "target") y) (value_of (codes "target") z) a b
by_kind Hardlink x y z a b = options is_same texts (led_to x) (led_to y) (led_to z) a b
by_kind User x y z a b = lists same_attr attrs (untagged x.attrs) (untagged y.attrs) (untagged z.attrs) a b
by_kind Group x y z a b = lists same_attr attrs (untagged x.attrs) (untagged y.attrs) (untagged z.attrs) a b
by_kind Driver x y z a b = lists same_attr attrs (untagged x.attrs) (untagged y.attrs) (untagged z.attrs) a b
by_kind License x y z a b = options is_same texts (payload_word x.payload) (payload_word y.payload) (payload_word z.payload) a b
by_kind Legacy x y z a b = lists same_attr attrs (untagged x.attrs) (untagged y.attrs) (untagged z.attrs) a b
by_kind Signature x y z a b = a

-- ---- a kind that has keys is told by its place

kind_at : ℕ → ActionKind
kind_at zero = Dir
kind_at (suc zero) = File
kind_at (suc (suc zero)) = Link
kind_at (suc (suc (suc zero))) = Hardlink
kind_at (suc (suc (suc (suc zero)))) = User
kind_at (suc (suc (suc (suc (suc zero))))) = Group
kind_at (suc (suc (suc (suc (suc (suc zero)))))) = Driver
kind_at (suc (suc (suc (suc (suc (suc (suc zero))))))) = Legacy
kind_at (suc (suc (suc (suc (suc (suc (suc (suc n)))))))) = License

kind_back : (k : ActionKind) (s : Sort) → sort_of k ≡ Some s → kind_at (kind_place k) ≡ k
unfolding kind_at
kind_back Set s e = absurd cc
kind_back Depend s e = absurd cc
kind_back Dir s e = refl
kind_back File s e = refl
kind_back Link s e = refl
kind_back Hardlink s e = refl
kind_back User s e = refl
kind_back Group s e = refl
kind_back Driver s e = refl
kind_back License s e = refl
kind_back Legacy s e = refl
kind_back Signature s e = absurd cc

pub same_kinds : (k l : ActionKind) (s t : Sort) → sort_of k ≡ Some s → sort_of l ≡ Some t → kind_place k ≡ kind_place l → k ≡ l
same_kinds k l s t hk hl e = sym (kind_back k s hk) ∙ ap kind_at e ∙ kind_back l t hl

pub alike_both : (f a b : Fields) (s t : Sort) → sort_of f.kind ≡ Some s → sort_of a.kind ≡ Some t → alike f a ≡ true → alike f b ≡ true → alike a b ≡ true
alike_both f a b s t hf ha x y =
    let p = and_parts (same_kind f a) (alike_as f.kind f a) x in
    let q = and_parts (same_kind f b) (alike_as f.kind f b) y in
    let one = eqb-true (kind_place f.kind) (kind_place a.kind) p.0 in
    let other = eqb-true (kind_place f.kind) (kind_place b.kind) q.0 in
    and_from (same_kind a b) (alike_as a.kind a b) (eq-eqb (kind_place a.kind) (kind_place b.kind) (sym one ∙ other))
    (subst (λ (k : ActionKind). alike_as k a b ≡ true) (same_kinds f.kind a.kind s t hf ha one) (by_kind f.kind f a b p.1 q.1))

-- ---- what is said of two kinds

pub kinds_told : (k l : ℕ) (x o : Bool) → (decision k l x o == 1) ≡ false → (k == l) ≡ true
kinds_told k l x o h = go (k == l) h
  where
    go : (t : Bool) → (cond t (cond (k == 1) (cond o 0 3) (cond x 0 2)) 1 == 1) ≡ false → t ≡ true
    go true h = refl
    go false h = absurd (true≢false h)

pub not_kinds : (k l : ℕ) (x o : Bool) → (k == l) ≡ true → (decision k l x o == 1) ≡ true → ⊥
not_kinds k l x o same h = go (k == 1) x o (subst (λ (t : Bool). (cond t (cond (k == 1) (cond o 0 3) (cond x 0 2)) 1 == 1) ≡ true) same h)
  where
    go : (f x o : Bool) → (cond f (cond o 0 3) (cond x 0 2) == 1) ≡ true → ⊥
    go true x true h = true≢false (sym h)
    go true x false h = true≢false (sym h)
    go false true o h = true≢false (sym h)
    go false false o h = true≢false (sym h)

pub unlike_told : (k l : ℕ) (x o : Bool) → (decision k l x o == 2) ≡ true → ((k == 1) ≡ false) × (x ≡ false)
unlike_told k l x o h = go (k == l) (k == 1) x o h
  where
    go : (t f x o : Bool) → (cond t (cond f (cond o 0 3) (cond x 0 2)) 1 == 2) ≡ true → (f ≡ false) × (x ≡ false)
    go false f x o h = absurd (true≢false (sym h))
    go true true x true h = absurd (true≢false (sym h))
    go true true x false h = absurd (true≢false (sym h))
    go true false true o h = absurd (true≢false (sym h))
    go true false false o h = (refl, refl)

pub like_told : (k l : ℕ) (x o : Bool) → (k == l) ≡ true → (k == 1) ≡ false → (decision k l x o == 2) ≡ false → x ≡ true
like_told k l x o same other h = go x o (subst (λ (f : Bool). (cond f (cond o 0 3) (cond x 0 2) == 2) ≡ false) other (subst (λ (t : Bool). (cond t (cond (k == 1) (cond o 0 3) (cond x 0 2)) 1 == 2) ≡ false) same h))
  where
    go : (x o : Bool) → (cond x 0 2 == 2) ≡ false → x ≡ true
    go true o h = refl
    go false o h = absurd (true≢false h)

pub files_told : (k l : ℕ) (x o : Bool) → (decision k l x o == 3) ≡ true → (k == 1) ≡ true
files_told k l x o h = go (k == l) (k == 1) x o h
  where
    go : (t f x o : Bool) → (cond t (cond f (cond o 0 3) (cond x 0 2)) 1 == 3) ≡ true → f ≡ true
    go false f x o h = absurd (true≢false (sym h))
    go true true x o h = refl
    go true false true o h = absurd (true≢false (sym h))
    go true false false o h = absurd (true≢false (sym h))

pub overlay_told : (k l : ℕ) (x o : Bool) → (k == l) ≡ true → (k == 1) ≡ true → (decision k l x o == 3) ≡ false → o ≡ true
overlay_told k l x o same file h = go x o (subst (λ (f : Bool). (cond f (cond o 0 3) (cond x 0 2) == 3) ≡ false) file (subst (λ (t : Bool). (cond t (cond (k == 1) (cond o 0 3) (cond x 0 2)) 1 == 3) ≡ false) same h))
  where
    go : (x o : Bool) → (cond o 0 3 == 3) ≡ false → o ≡ true
    go x true h = refl
    go x false h = absurd (true≢false h)

-- ---- overlays

-- what takes a place gives none
not_both : (a : Fields) → takes_place a ≡ true → gives_place a ≡ true → ⊥
not_both a t g = go (first_value (codes "overlay") a) t (and_parts (has (codes "overlay") (codes "allow") a) _ g).0
  where
    go : (o : Option (List ℕ)) → option_eq is_same o (Some (codes "true")) ≡ true → option_eq is_same o (Some (codes "allow")) ≡ true → ⊥
    go None t g = true≢false (sym t)
    go (Some v) t g = true≢false (sym (texts v (codes "true") (codes "allow") t g))

over : (a b : Fields) → overlaid a b ≡ true → takes_over a b ≡ true
over a b h = (and_parts (are_files a b) (takes_over a b) (and_parts (are_files a b && takes_over a b) (same_access a b) h).0).1

-- one takes and the other gives
abbrev One : Fields → Fields → Type 0
One a b = (takes_place a ≡ true) × (gives_place b ≡ true)

halves : (a b : Fields) → takes_over a b ≡ true → (P : Type 0) → (One a b → P) → (One b a → P) → P
halves a b h P f g = elim (or_cases (takes_place a && gives_place b) (takes_place b && gives_place a) h) [
  | inl w ↦ f (and_parts (takes_place a) (gives_place b) w)
  | inr w ↦ g (and_parts (takes_place b) (gives_place a) w)
]

pub no_three : (f n a : Fields) → overlaid f n ≡ true → overlaid f a ≡ true → overlaid n a ≡ true → ⊥
no_three f n a x y z =
    halves f n (over f n x) ⊥
    (λ p. halves f a (over f a y) ⊥
    (λ q. halves n a (over n a z) ⊥ (λ r. not_both n r.0 p.1) (λ r. not_both a r.0 q.1))
    (λ q. not_both f p.0 q.1))
    (λ p. halves f a (over f a y) ⊥
    (λ q. not_both f q.0 p.1)
    (λ q. halves n a (over n a z) ⊥ (λ r. not_both a q.0 r.1) (λ r. not_both n p.0 r.1)))

-- ---- mediators

abbrev same_mediator : Fields → Fields → Bool
same_mediator a b = option_eq is_same (first_value (codes "mediator") a) (first_value (codes "mediator") b)

agree : (c d : Fields) → is_link c.kind ≡ true → is_link d.kind ≡ true → differ_in_mediator c d ≡ false → same_mediator c d ≡ true
agree c d lc ld h = true_from_ne_false (same_mediator c d) (λ apart. true≢false (sym (and_from (is_link c.kind && is_link d.kind) (not (same_mediator c d)) (and_from (is_link c.kind) (is_link d.kind) lc ld) (not_from_false (same_mediator c d) apart)) ∙ h))

differ : (c d : Fields) → differ_in_mediator c d ≡ true → same_mediator c d ≡ false
differ c d h = not-true (same_mediator c d) (and_parts (is_link c.kind && is_link d.kind) (not (same_mediator c d)) h).1

pub links_told : (c d : Fields) → differ_in_mediator c d ≡ true → (is_link c.kind ≡ true) × (is_link d.kind ≡ true)
links_told c d h = and_parts (is_link c.kind) (is_link d.kind) (and_parts (is_link c.kind && is_link d.kind) (not (same_mediator c d)) h).0

pub same_mediators : (f a b : Fields) → is_link f.kind ≡ true → differ_in_mediator f a ≡ false → differ_in_mediator f b ≡ false → differ_in_mediator a b ≡ true → ⊥
same_mediators f a b lf x y z =
    let links = links_told a b z in
    let m : Fields → Option (List ℕ) = λ h. first_value (codes "mediator") h in
    true≢false (sym (options is_same texts (m f) (m a) (m b) (agree f a lf links.0 x) (agree f b lf links.1 y)) ∙ differ a b z)
