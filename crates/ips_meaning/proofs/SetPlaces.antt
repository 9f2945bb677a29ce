-- Where mediators are set, by their names.
use Rattle.std.proofs.Common.{◌≡◌, ℕ, ◌+◌, ◌<◌, ◌≤◌, Bool, true, false, cond, List, [], ◌∷◌, ◌++◌, get_or, take, length, Option, Some, None, Bor, String, Global, refl, sym, ap, subst, ◌∙◌}
use Rattle.std.specs.Prelude.{slice_get, is_some, IsSome, IfSome, option_map}
use Rattle.std.specs.Map.{lookup}
use Rattle.std.specs.Ordering.{nat_cmp}
use Rattle.std.specs.Cmp.Lexicographic.{slice_cmp}
use Rattle.std.specs.BTreeMap.{get_by_text, is_at}
use Rattle.std.specs.String.{string_bytes}
use Rattle.std.proofs.lemmas.Bool.{true≢false}
use Rattle.std.proofs.lemmas.Option.{none-some, slice_get_within}
use Rattle.std.proofs.lemmas.List.{take_all}
use Rattle.ips_action.specs.Attrs.{is_same}
use Rattle.ips_mediate.specs.declared.set.SetMediator.{SetMediator}
use Rattle.ips_conflict.proofs.Places.{at_index}
use Rattle.ips_meaning.specs.Taken.{set_for}
use Rattle.ips_meaning.specs.Offers.{SetPlaces, IsSetAt, AreSetPlaces, first_place}
use Rattle.ips_text.proofs.Lists.{take_item}
use Rattle.ips_action.proofs.KeyOrder.{same_true}

-- ---- what is put

pub first_kept : (places : SetPlaces) (name : List ℕ) (i : ℕ) (has : Bool) → has ≡ is_some (get_by_text places name) → has ≡ true → (q : List ℕ) → get_by_text places q ≡ first_place (get_by_text places q) (is_same name q) i
first_kept places name i has is found q = go (get_by_text places q) refl (is_same name q) refl
  where
    go : (o : Option ℕ) → get_by_text places q ≡ o → (t : Bool) → is_same name q ≡ t → o ≡ first_place o t i
    go (Some j) at t same = refl
    go None at false same = refl
    go None at true same = absurd (true≢false (sym found ∙ is ∙ ap (λ (n : List ℕ). is_some (get_by_text places n)) (same_true name q same) ∙ ap is_some at))

pub first_put : (old new : SetPlaces) (name : List ℕ) (i : ℕ) (has : Bool) → has ≡ is_some (get_by_text old name) → has ≡ false → ((q : List ℕ) → get_by_text new q ≡ cond (is_same name q) (Some i) (get_by_text old q))
    → (q : List ℕ) → get_by_text new q ≡ first_place (get_by_text old q) (is_same name q) i
first_put old new name i has is none put q = put q ∙ go (get_by_text old q) refl (is_same name q) refl
  where
    go : (o : Option ℕ) → get_by_text old q ≡ o → (t : Bool) → is_same name q ≡ t → cond t (Some i) o ≡ first_place o t i
    go None at t same = refl
    go (Some j) at false same = refl
    go (Some j) at true same = absurd (true≢false (sym (is ∙ ap (λ (n : List ℕ). is_some (get_by_text old n)) (same_true name q same) ∙ ap is_some at) ∙ none))

-- ---- all places

pub places_none : (mediators : List SetMediator) (places : SetPlaces) → places.entries ≡ [] → AreSetPlaces mediators [] places
places_none mediators places e name =
    subst (IsSetAt mediators [] name) (sym (ap (λ (es : List (String Global × ℕ)). lookup (is_at (λ k. slice_cmp nat_cmp name (string_bytes k))) es) e)) refl

set_kept : (front more : List SetMediator) (name : List ℕ) (x : SetMediator) → set_for front name ≡ Some x → set_for (front ++ more) name ≡ Some x
set_kept [] more name x e = absurd (none-some x e)
set_kept (s ∷ front) more name x e = go (is_same s.name name) (set_kept front more name x) e
  where
    go : (t : Bool) → (set_for front name ≡ Some x → set_for (front ++ more) name ≡ Some x) → cond t (Some s) (set_for front name) ≡ Some x → cond t (Some s) (set_for (front ++ more) name) ≡ Some x
    go true rest is = is
    go false rest is = rest is

set_next : (front more : List SetMediator) (name : List ℕ) → set_for front name ≡ None → set_for (front ++ more) name ≡ set_for more name
set_next [] more name e = refl
set_next (s ∷ front) more name e = go (is_same s.name name) (set_next front more name) e
  where
    go : (t : Bool) → (set_for front name ≡ None → set_for (front ++ more) name ≡ set_for more name) → cond t (Some s) (set_for front name) ≡ None → cond t (Some s) (set_for (front ++ more) name) ≡ set_for more name
    go true rest is = absurd (none-some s (sym is))
    go false rest is = rest is

pub places_more : (mediators : List SetMediator) (i : ℕ) (set : SetMediator) (old new : SetPlaces) → i < length mediators → set ≡ get_or mediators i set → AreSetPlaces mediators (take i mediators) old
    → ((q : List ℕ) → get_by_text new q ≡ first_place (get_by_text old q) (is_same set.name q) i) → AreSetPlaces mediators (take (i + 1) mediators) new
places_more mediators i set old new lt e so_far puts q =
    subst (λ (l : List SetMediator). IsSetAt mediators l q (get_by_text new q)) (sym (take_item mediators i set lt e))
    (subst (IsSetAt mediators (take i mediators ++ set ∷ []) q) (sym (puts q)) (go (get_by_text old q) (so_far q) (is_same set.name q) refl))
  where
    go : (o : Option ℕ) → IsSetAt mediators (take i mediators) q o → (t : Bool) → is_same set.name q ≡ t → IsSetAt mediators (take i mediators ++ set ∷ []) q (first_place o t i)
    go (Some j) h t same = (h.0, h.1, set_kept (take i mediators) (set ∷ []) q h.0 h.2)
    go None h true same = (set, at_index mediators i set lt e, set_next (take i mediators) (set ∷ []) q h ∙ ap (λ (t : Bool). cond t (Some set) None) same)
    go None h false same = set_next (take i mediators) (set ∷ []) q h ∙ ap (λ (t : Bool). cond t (Some set) None) same

pub places_done : (mediators : List SetMediator) (i : ℕ) (places : SetPlaces) → length mediators ≤ i → AreSetPlaces mediators (take i mediators) places → AreSetPlaces mediators mediators places
places_done mediators i places past so_far = subst (λ (l : List SetMediator). AreSetPlaces mediators l places) (take_all i mediators past) so_far

-- ---- what is looked up

got_is : (xs : List SetMediator) (i : ℕ) (o : Option (Bor SetMediator)) → i < length xs → IfSome o (λ x. x.now ≡ get_or xs i x.now) → (i < length xs → IsSome o) → option_map (λ x. x.now) o ≡ slice_get xs i
got_is xs i (Some b) lt at some = sym (at_index xs i b.now lt at)
got_is xs i None lt at some = absurd (true≢false (sym (some lt)))

pub set_found : (mediators : List SetMediator) (places : SetPlaces) (name : List ℕ) (i : ℕ) (o : Option (Bor SetMediator)) → AreSetPlaces mediators mediators places → Some i ≡ get_by_text places name → IfSome o (λ x. x.now ≡ get_or mediators i x.now)
    → (i < length mediators → IsSome o) → option_map (λ x. x.now) o ≡ set_for mediators name
set_found mediators places name i o are at item some =
    let h = subst (IsSetAt mediators mediators name) (sym at) (are name) in
    got_is mediators i o (slice_get_within mediators i h.0 h.1) item some ∙ h.1 ∙ sym h.2

pub set_nowhere : (mediators : List SetMediator) (places : SetPlaces) (name : List ℕ) → AreSetPlaces mediators mediators places → None ≡ get_by_text places name → None ≡ set_for mediators name
set_nowhere mediators places name are at = sym (subst (IsSetAt mediators mediators name) (sym at) (are name))
