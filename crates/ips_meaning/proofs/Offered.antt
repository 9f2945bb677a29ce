-- The links of each mediator, and which of them stay.
use Rattle.std.proofs.Common.{◌≡◌, ℕ, zero, suc, ◌+◌, ◌<◌, Bool, true, false, cond, List, [], ◌∷◌, ◌++◌, length, get_or, take, map, Option, Some, None, refl, sym, ap, subst, ◌∙◌, arith, filter, Vec, Global, String}
use Rattle.std.specs.Prelude.{◌↔◌, IfSome, codes}
use Rattle.std.specs.List.{Any, Contains}
use Rattle.std.specs.Option.{option_map_or, option_eq}
use Rattle.std.specs.Map.{lookup}
use Rattle.std.specs.Ordering.{nat_cmp}
use Rattle.std.specs.Cmp.Lexicographic.{slice_cmp}
use Rattle.std.specs.BTreeMap.{get_by_text, is_at}
use Rattle.std.specs.String.{string_bytes}
use Rattle.std.proofs.lemmas.Option.{same_Some, none-some}
use Rattle.std.proofs.lemmas.List.{append-nil}
use Rattle.std.proofs.lemmas.List.Elements.{All-contains, filter-append, Contains-append_right}
use Rattle.ips_action.specs.Attrs.{is_same}
use Rattle.ips_action.specs.Action.{Fields}
use Rattle.ips_mediate.specs.declared.set.SetMediator.{SetMediator}
use Rattle.ips_mediate.specs.Mediation.{link_value, mediation_of}
use Rattle.ips_mediate.specs.Best.{Fits, IsBest}
use Rattle.ips_mediate.proofs.Ranked.{best_is_one}
use Rattle.ips_conflict.specs.declared.placed.Placed.{Placed}
use Rattle.ips_conflict.proofs.Kept.{is_same_self}
use Rattle.ips_meaning.specs.Taken.{links_of, set_for, Stays}
use Rattle.ips_meaning.specs.Offers.{Links, Choices, links_at, offers, AreLinks, IsChoice, AreChoices, GoesWith, IsOfBest, IsThere}
use Rattle.ips_text.proofs.Lists.{map_item}
use Rattle.ips_action.proofs.KeyOrder.{same_true}

-- ---- one more link

pub offers_is : (a : Fields) (name q : List ℕ) → link_value (codes "mediator") a ≡ Some name → offers a q ≡ is_same name q
offers_is a name q e = ap (λ (o : Option (List ℕ)). option_eq is_same o (Some q)) e

pub offers_not : (a : Fields) (q : List ℕ) → link_value (codes "mediator") a ≡ None → offers a q ≡ false
offers_not a q e = ap (λ (o : Option (List ℕ)). option_eq is_same o (Some q)) e

pub put_is : (old mid new : Links) (name : List ℕ) (link : Fields) (before : List Fields) (pushed : Vec Fields Global) → before ≡ links_at old name → ((q : List ℕ) → is_same name q ≡ false → links_at mid q ≡ links_at old q)
    → pushed.items ≡ before ++ link ∷ [] → ((q : List ℕ) → get_by_text new q ≡ cond (is_same name q) (Some pushed) (get_by_text mid q)) → (q : List ℕ) → links_at new q ≡ cond (is_same name q) (links_at old q ++ link ∷ []) (links_at old q)
put_is old mid new name link before pushed taken others items inserted q = go (is_same name q) refl (inserted q)
  where
    go : (t : Bool) → is_same name q ≡ t → get_by_text new q ≡ cond t (Some pushed) (get_by_text mid q) → links_at new q ≡ cond t (links_at old q ++ link ∷ []) (links_at old q)
    go true same e = ap (λ (o : Option (Vec Fields Global)). option_map_or (λ g. g.items) o []) e ∙ items ∙ ap (λ (l : List Fields). l ++ link ∷ []) (taken ∙ ap (links_at old) (same_true name q same))
    go false same e = ap (λ (o : Option (Vec Fields Global)). option_map_or (λ g. g.items) o []) e ∙ others q same

-- ---- all links

pub links_none : (links : Links) (name : List ℕ) → links.entries ≡ [] → links_at links name ≡ []
links_none links name e = ap (λ (es : List (String Global × Vec Fields Global)). option_map_or (λ g. g.items) (lookup (is_at (λ k. slice_cmp nat_cmp name (string_bytes k))) es) []) e

grown : (test : Fields → Bool) (front : List Fields) (a : Fields) (t : Bool) → test a ≡ t → cond t (filter test front ++ a ∷ []) (filter test front) ≡ filter test (front ++ a ∷ [])
grown test front a true e = sym (filter-append test front (a ∷ []) ∙ ap (λ (b : Bool). filter test front ++ cond b (a ∷ []) []) e)
grown test front a false e = sym (filter-append test front (a ∷ []) ∙ ap (λ (b : Bool). filter test front ++ cond b (a ∷ []) []) e ∙ append-nil (filter test front))

pub links_more : (admitted : List Placed) (i : ℕ) (p : Placed) (old new : Links) → i < length admitted → p ≡ get_or admitted i p → ((name : List ℕ) → links_at old name ≡ links_of (take i admitted) name)
    → ((name : List ℕ) → links_at new name ≡ cond (offers p.action name) (links_at old name ++ p.action ∷ []) (links_at old name)) → (name : List ℕ) → links_at new name ≡ links_of (take (i + 1) admitted) name
links_more admitted i p old new lt e so_far puts name =
    let test : Fields → Bool = λ a. offers a name in
    let front : List Fields = map (λ (q : Placed). q.action) (take i admitted) in
    puts name
    ∙ ap (λ (l : List Fields). cond (test p.action) (l ++ p.action ∷ []) l) (so_far name)
    ∙ grown test front p.action (test p.action) refl
    ∙ ap (filter test) (sym (map_item (λ (q : Placed). q.action) admitted i p lt e))

-- ---- an admitted link stands among those of its mediator

there_by : (name : List ℕ) (xs : List Placed) (i : ℕ) (p : Placed) → i < length xs → p ≡ get_or xs i p → offers p.action name ≡ true → Contains (links_of xs name) p.action
there_by name [] i p lt e pass = absurd (omega arith)
there_by name (x ∷ xs) zero p lt e pass =
    let rest = links_of xs name in
    let is : offers x.action name ≡ true = ap (λ (q : Placed). offers q.action name) (sym e) ∙ pass in
    subst (λ (t : Bool). Contains (cond t (x.action ∷ rest) rest) p.action) (sym is) (0, omega arith, ap (λ (q : Placed). q.action) (sym e))
there_by name (x ∷ xs) (suc i) p lt e pass = go (offers x.action name) (there_by name xs i p (omega (arith, lt)) e pass)
  where
    go : (t : Bool) → Contains (links_of xs name) p.action → Contains (cond t (x.action ∷ links_of xs name) (links_of xs name)) p.action
    go true w = Contains-append_right (x.action ∷ []) (links_of xs name) p.action w
    go false w = w

-- ---- which links stay

any_of : (links : List Fields) (a : Fields) → Contains links a → Any (λ l. mediation_of l ≡ mediation_of a) links
any_of links a w = (w.0, a, w.1, w.2, refl)

decided : (links : List Fields) (set : Option SetMediator) (choice : Option Fields) (a : Fields) → IsChoice links set choice → Contains links a → GoesWith choice a ↔ IsBest links set (mediation_of a)
decided links set None a chosen there = (λ g. absurd g, λ best. All-contains (λ l. Fits set (mediation_of l) → ⊥) links a chosen there best.fits)
decided links set (Some link) a chosen there = (
  λ same. subst (IsBest links set) same chosen.1,
  λ best. best_is_one links set (mediation_of link) (mediation_of a) (any_of links link chosen.0) (any_of links a there) chosen.1 best,
)

pub best_by : (mediators : List SetMediator) (links : Links) (a : Fields) (name : List ℕ) (choice : Option Fields) → link_value (codes "mediator") a ≡ Some name → IsThere links a → IsChoice (links_at links name) (set_for mediators name) choice
    → GoesWith choice a ↔ IsOfBest mediators links a
best_by mediators links a name choice is there chosen =
    let d = decided (links_at links name) (set_for mediators name) choice a chosen (there name is) in (
      λ g q e. let same : name ≡ q = same_Some name q (sym is ∙ e) in subst (λ (x : List ℕ). IsBest (links_at links x) (set_for mediators x) (mediation_of a)) same (d.0 g),
      λ best. d.1 (best name is),
    )

pub best_without : (mediators : List SetMediator) (links : Links) (a : Fields) → link_value (codes "mediator") a ≡ None → IsOfBest mediators links a
best_without mediators links a none name e = absurd (none-some name (sym none ∙ e))

-- a choice more is kept
pub choices_more : (mediators : List SetMediator) (links : Links) (old new : Choices) (name : List ℕ) (choice : Option Fields) → AreChoices mediators links old → IsChoice (links_at links name) (set_for mediators name) choice
    → ((q : List ℕ) → get_by_text new q ≡ cond (is_same name q) (Some choice) (get_by_text old q)) → AreChoices mediators links new
choices_more mediators links old new name choice so_far chosen inserted q =
    subst (λ (o : Option (Option Fields)). IfSome o (λ c. IsChoice (links_at links q) (set_for mediators q) c)) (sym (inserted q)) (go (is_same name q) refl)
  where
    go : (t : Bool) → is_same name q ≡ t → IfSome (cond t (Some choice) (get_by_text old q)) (λ c. IsChoice (links_at links q) (set_for mediators q) c)
    go true same = subst (λ (x : List ℕ). IsChoice (links_at links x) (set_for mediators x) choice) (same_true name q same) chosen
    go false same = so_far q

-- what stays by what is looked up is what stays
pub stays_by : (mediators : List SetMediator) (admitted : List Placed) (links : Links) (p : Placed) → AreLinks admitted links → IsOfBest mediators links p.action ↔ Stays mediators admitted p
stays_by mediators admitted links p are = (
  λ h name e. subst (λ (l : List Fields). IsBest l (set_for mediators name) (mediation_of p.action)) (are name) (h name e),
  λ h name e. subst (λ (l : List Fields). IsBest l (set_for mediators name) (mediation_of p.action)) (sym (are name)) (h name e),
)

pub is_there : (admitted : List Placed) (links : Links) (i : ℕ) (p : Placed) → AreLinks admitted links → i < length admitted → p ≡ get_or admitted i p → IsThere links p.action
is_there admitted links i p are lt at name e =
    subst (λ (l : List Fields). Contains l p.action) (sym (are name)) (there_by name admitted i p lt at (offers_is p.action name name e ∙ is_same_self name))
