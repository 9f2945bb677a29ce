-- Stems that are put in, and that are taken out.
use Rattle.std.proofs.Common.{◌≡◌, ℕ, ◌+◌, ◌<◌, Bool, true, false, not, ◌&&◌, ◌||◌, cond, List, [], ◌∷◌, filter, take, length, get_or, refl, sym, ap, ◌∙◌, bytes_eq}
use Rattle.std.proofs.lemmas.Bool.{true≢false}
use Rattle.std.proofs.lemmas.List.Folds.{list_any-append}
use Rattle.std.proofs.lemmas.Slice.Eq.{bytes_eq-Decides}
use Rattle.ips_text.proofs.Lists.{take_item}
use Rattle.ips_text.proofs.Truths.{or_false}
use Rattle.ips_request.specs.Stems.{has}

-- a filter by a test that answers the same
pub filter_alike : {A : Type 0} (p q : A → Bool) (xs : List A) → ((x : A) → p x ≡ q x) → filter p xs ≡ filter q xs
filter_alike p q [] same = refl
filter_alike p q (x ∷ xs) same = ap (λ (b : Bool). cond b (x ∷ filter p xs) (filter p xs)) (same x) ∙ ap (λ l. cond (q x) (x ∷ l) l) (filter_alike p q xs same)

-- one stem more
has_more : (x : List ℕ) (stems : List (List ℕ)) (i : ℕ) (s : List ℕ) → i < length stems → s ≡ get_or stems i s → has x (take (i + 1) stems) ≡ (has x (take i stems) || bytes_eq x s)
has_more x stems i s l at =
    ap (has x) (take_item stems i s l at) ∙ list_any-append (bytes_eq x) (take i stems) (s ∷ []) ∙ ap (λ b. has x (take i stems) || b) (sym (or_false (bytes_eq x s)))

put_absent : (e h t n : Bool) → (e ≡ true → t ≡ false) → (e || ((h && not t) || n)) ≡ (((h || e) && not t) || n)
put_absent true true true n w = absurd (true≢false (w refl))
put_absent true false true n w = absurd (true≢false (w refl))
put_absent true true false n w = refl
put_absent true false false n w = refl
put_absent false true t n w = refl
put_absent false false t n w = refl

left_out : (e h t n : Bool) → (e ≡ true → t ≡ true) → ((h && not t) || n) ≡ (((h || e) && not t) || n)
left_out true true t n w = refl
left_out true false true n w = refl
left_out true false false n w = absurd (true≢false (sym (w refl)))
left_out false true t n w = refl
left_out false false t n w = refl

-- one stem more, which isn't there
pub absent_more : (x s : List ℕ) (stems there init old new : List (List ℕ)) (i : ℕ) → i < length stems → s ≡ get_or stems i s → has s there ≡ false
    → has x old ≡ ((has x (take i stems) && not (has x there)) || has x init) → has x new ≡ (bytes_eq x s || has x old)
    → has x new ≡ ((has x (take (i + 1) stems) && not (has x there)) || has x init)
absent_more x s stems there init old new i l at absent was is =
    is ∙ ap (λ b. bytes_eq x s || b) was
    ∙ put_absent (bytes_eq x s) (has x (take i stems)) (has x there) (has x init) (λ e. ap (λ (y : List ℕ). has y there) ((bytes_eq-Decides x s).0 e) ∙ absent)
    ∙ ap (λ b. (b && not (has x there)) || has x init) (sym (has_more x stems i s l at))

-- one stem more, which is there
pub present_more : (x s : List ℕ) (stems there init old : List (List ℕ)) (i : ℕ) → i < length stems → s ≡ get_or stems i s → has s there ≡ true
    → has x old ≡ ((has x (take i stems) && not (has x there)) || has x init) → has x old ≡ ((has x (take (i + 1) stems) && not (has x there)) || has x init)
present_more x s stems there init old i l at present was =
    was
    ∙ left_out (bytes_eq x s) (has x (take i stems)) (has x there) (has x init) (λ e. ap (λ (y : List ℕ). has y there) ((bytes_eq-Decides x s).0 e) ∙ present)
    ∙ ap (λ b. (b && not (has x there)) || has x init) (sym (has_more x stems i s l at))

-- none are there at first
pub nothing_put : (a b : Bool) → (a || (b || false)) ≡ (a || b)
nothing_put true b = refl
nothing_put false b = sym (or_false b)
