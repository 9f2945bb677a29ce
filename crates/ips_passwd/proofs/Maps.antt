-- What names and numbers lead to once one more place is noted.
use Rattle.std.proofs.Common.{◌≡◌, ℕ, ◌≤◌, Bool, true, false, cond, ◌||◌, eqb, leb, List, [], ◌∷◌, ◌++◌, Vec, Global, Option, Some, None, Ordering, Less, Equal, Greater, nat_cmp, is_eq, refl, sym, ap, ◌∙◌, arith}
use Rattle.std.specs.List.{list_any}
use Rattle.std.specs.Option.{option_map_or}
use Rattle.std.specs.Map.{lookup}
use Rattle.std.specs.BTreeMap.{get, insert_entry}
use Rattle.std.specs.Cmp.Lexicographic.{slice_cmp}
use Rattle.std.proofs.lemmas.Bool.{true≢false, leb-true, leb-false, le-leb}
use Rattle.std.proofs.lemmas.Cmp.{tied_itself, nat_cmp_total, nat_eq_equiv}
use Rattle.std.proofs.lemmas.Map.Lookups.{exact_unsigned}
use Rattle.std.proofs.lemmas.List.Folds.{list_any-append}
use Rattle.ips_text.proofs.Truths.{or_true}
use Rattle.ips_action.specs.Attrs.{is_same}
use Rattle.ips_action.proofs.KeyOrder.{same_true}
use Rattle.ips_conflict.proofs.Kept.{found_insert, is_same_self}
use Rattle.ips_passwd.specs.Entries.{NamePlaces, kept_place, leads_up_to, NumberPlaces, places_with, leads_by}

-- ---- names

before : (o : Option ℕ) (place i : ℕ) → option_map_or (λ f. leb f place) o false ≡ false → option_map_or (λ f. leb f i) o false ≡ true → place ≤ i
before None place i e f = absurd (true≢false (sym f))
before (Some first) place i e f = let past = leb-false first place e in let up = leb-true first i f in omega (arith, past, up)

pub name_stays : (old new : NamePlaces) (key : Vec ℕ Global) (name other : List ℕ) (place i : ℕ) → key.items ≡ name → new.entries ≡ insert_entry (λ a b. slice_cmp nat_cmp a.items b.items) old.entries key place
    → leads_up_to old name place ≡ false → leads_up_to old other i ≡ true → leads_up_to new other i ≡ true
name_stays old new key name other place i is put past led =
    ap (λ (o : Option ℕ). option_map_or (λ f. leb f i) o false) (ap (λ (es : List (Vec ℕ Global × ℕ)). lookup (λ (k : Vec ℕ Global). is_same other k.items) es) put ∙ found_insert key place other old.entries)
    ∙ go (is_same other key.items) refl
  where
    go : (t : Bool) → is_same other key.items ≡ t → option_map_or (λ f. leb f i) (cond t (Some place) (kept_place old other)) false ≡ true
    go true e = le-leb place i (before (kept_place old name) place i past (ap (λ (n : List ℕ). leads_up_to old n i) (sym (same_true other key.items e ∙ is)) ∙ led))
    go false e = led

pub name_leads : (old new : NamePlaces) (key : Vec ℕ Global) (name : List ℕ) (place : ℕ) → key.items ≡ name → new.entries ≡ insert_entry (λ a b. slice_cmp nat_cmp a.items b.items) old.entries key place → leads_up_to new name place ≡ true
name_leads old new key name place is put =
    ap (λ (o : Option ℕ). option_map_or (λ f. leb f place) o false) (ap (λ (es : List (Vec ℕ Global × ℕ)). lookup (λ (k : Vec ℕ Global). is_same name k.items) es) put ∙ found_insert key place name old.entries)
    ∙ ap (λ (t : Bool). option_map_or (λ f. leb f place) (cond t (Some place) (kept_place old name)) false) (ap (is_same name) is ∙ is_same_self name)
    ∙ le-leb place place (omega arith)

pub same_place : (old new : NamePlaces) (other : List ℕ) (i : ℕ) → new.entries ≡ old.entries → leads_up_to old other i ≡ true → leads_up_to new other i ≡ true
same_place old new other i same led = ap (λ (es : List (Vec ℕ Global × ℕ)). option_map_or (λ f. leb f i) (lookup (λ (k : Vec ℕ Global). is_same other k.items) es) false) same ∙ led

-- ---- numbers

equal_by : (o : Ordering) → is_eq o ≡ true → o ≡ Equal
equal_by Less e = absurd (true≢false (sym e))
equal_by Equal e = refl
equal_by Greater e = absurd (true≢false (sym e))

pub same_number : (a b : ℕ) → is_eq (nat_cmp a b) ≡ true → a ≡ b
same_number a b e = exact_unsigned a b (equal_by (nat_cmp a b) e)

pub number_itself : (a : ℕ) → is_eq (nat_cmp a a) ≡ true
number_itself a = ap is_eq (tied_itself nat_cmp_total a)

-- one more place for a number
abbrev pub OneMore : NumberPlaces → NumberPlaces → ℕ → Vec ℕ Global → Type 0
OneMore old new number v = (q : ℕ) → get nat_cmp new q ≡ cond (is_eq (nat_cmp number q)) (Some v) (get nat_cmp old q)

pub number_stays : (old new : NumberPlaces) (number place : ℕ) (v : Vec ℕ Global) → OneMore old new number v → v.items ≡ places_with old number ++ place ∷ [] → (id i : ℕ) → leads_by old id i ≡ true → leads_by new id i ≡ true
number_stays old new number place v more items id i led =
    ap (λ (o : Option (Vec ℕ Global)). list_any (λ p. eqb p i) (option_map_or (λ v. v.items) o [])) (more id) ∙ go (is_eq (nat_cmp number id)) refl
  where
    go : (t : Bool) → is_eq (nat_cmp number id) ≡ t → list_any (λ p. eqb p i) (option_map_or (λ v. v.items) (cond t (Some v) (get nat_cmp old id)) []) ≡ true
    go true e =
        ap (list_any (λ p. eqb p i)) items ∙ list_any-append (λ p. eqb p i) (places_with old number) (place ∷ [])
        ∙ ap (λ (t : Bool). t || list_any (λ p. eqb p i) (place ∷ [])) (ap (λ (n : ℕ). leads_by old n i) (same_number number id e) ∙ led)
    go false e = led

pub number_leads : (old new : NumberPlaces) (number place : ℕ) (v : Vec ℕ Global) → OneMore old new number v → v.items ≡ places_with old number ++ place ∷ [] → leads_by new number place ≡ true
number_leads old new number place v more items =
    ap (λ (o : Option (Vec ℕ Global)). list_any (λ p. eqb p place) (option_map_or (λ v. v.items) o [])) (more number)
    ∙ ap (λ (t : Bool). list_any (λ p. eqb p place) (option_map_or (λ v. v.items) (cond t (Some v) (get nat_cmp old number)) [])) (number_itself number)
    ∙ ap (list_any (λ p. eqb p place)) items ∙ list_any-append (λ p. eqb p place) (places_with old number) (place ∷ [])
    ∙ ap (λ (t : Bool). list_any (λ p. eqb p place) (places_with old number) || (t || false)) (nat_eq_equiv.refl place)
    ∙ or_true (list_any (λ p. eqb p place) (places_with old number))

-- the same places, written back
pub number_same : (old new : NumberPlaces) (number : ℕ) (v : Vec ℕ Global) → OneMore old new number v → get nat_cmp old number ≡ Some v → (id i : ℕ) → leads_by old id i ≡ true → leads_by new id i ≡ true
number_same old new number v more at id i led =
    ap (λ (o : Option (Vec ℕ Global)). list_any (λ p. eqb p i) (option_map_or (λ v. v.items) o [])) (more id) ∙ go (is_eq (nat_cmp number id)) refl
  where
    go : (t : Bool) → is_eq (nat_cmp number id) ≡ t → list_any (λ p. eqb p i) (option_map_or (λ v. v.items) (cond t (Some v) (get nat_cmp old id)) []) ≡ true
    go true e = ap (λ (o : Option (Vec ℕ Global)). list_any (λ p. eqb p i) (option_map_or (λ v. v.items) o [])) (sym at ∙ ap (get nat_cmp old) (same_number number id e)) ∙ led
    go false e = led
