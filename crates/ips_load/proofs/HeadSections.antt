-- The lines of the file `image`, section by section.
use Rattle.std.proofs.Common.{◌≡◌, ◌⊎◌, ℕ, suc, ◌+◌, ◌<◌, ◌≤◌, Bool, List, [], ◌∷◌, ◌++◌, length, map, Option, Some, None, refl, sym, ◌∙◌, ap, subst, arith, append_assoc}
use Rattle.std.specs.List.{AllByRecursion, flat_map}
use Rattle.std.proofs.lemmas.List.{map-append, append-nil}
use Rattle.std.proofs.lemmas.List.Concat.{flat_map-cons}
use Rattle.std.proofs.lemmas.Grind.{flat_map-append}
use Rattle.ips_text.proofs.Lists.{all_append}
use Rattle.ips_filter.specs.Settings.{AreByName}
use Rattle.ips_records.specs.Form.{IsWord, IfWord}
use Rattle.ips_records.specs.Listed.{Chain}
use Rattle.ips_state.specs.declared.state.Origin.{Origin}
use Rattle.ips_state.specs.State.{Head, Ascend}
use Rattle.ips_state.specs.Lawful.{IsHead, AreOrigins, AreSettings}
use Rattle.ips_state.specs.Text.{head_lines, origin_line, actuator_lines, variant_line, facet_line}
use Rattle.ips_state.proofs.Ordered.{IsBefore, ascends, chains}
use Rattle.ips_load.specs.declared.head_lines.HeadLine.{HeadLine}
use Rattle.ips_load.specs.declared.head_lines.HeadLine.TheVariants as line
use Rattle.ips_load.specs.HeadLines.{head_line_text, IsHeadLine, IsOrigin, IsVariant, IsFacet, rank, FollowsLine, actuator_items, variant_item, facet_item, tail_items, head_items, origin_in, actuator_in, variant_in, facet_in, first_word}

-- ---- kinds of lines, in order

pub lower : (x y : HeadLine) → rank x < rank y → FollowsLine x y
lower (line.Origin o) (line.Origin p) lt = tt
lower (line.Variant n v) (line.Variant m w) lt = absurd (omega (arith, lt))
lower (line.Facet p on) (line.Facet q off) lt = absurd (omega (arith, lt))
lower x y lt = lt

rises : (x y : HeadLine) → FollowsLine x y → rank x ≤ rank y
rises (line.Origin o) (line.Origin p) f = omega arith
rises (line.Variant n v) (line.Variant m w) f = omega arith
rises (line.Facet p on) (line.Facet q off) f = omega arith
rises x y f = omega (arith, f)

abbrev AtLeast : ℕ → List HeadLine → Type 0
AtLeast k xs = AllByRecursion (λ (x : HeadLine). k ≤ rank x) xs

abbrev Below : ℕ → List HeadLine → Type 0
Below k xs = AllByRecursion (λ (x : HeadLine). rank x < k) xs

raised : (j k : ℕ) → j ≤ k → (xs : List HeadLine) → AtLeast k xs → AtLeast j xs
raised j k le [] a = tt
raised j k le (x ∷ xs) a = (omega (arith, le, a.0), raised j k le xs a.1)

later : (x : HeadLine) (xs : List HeadLine) → Chain FollowsLine (x ∷ xs) → AtLeast (rank x) xs
later x [] c = tt
later x (y ∷ ys) c = (rises x y c.0, raised (rank x) (rank y) (rises x y c.0) ys (later y ys c.1))

past : (k : ℕ) (x : HeadLine) (xs : List HeadLine) → ((y : HeadLine) → FollowsLine x y → k ≤ rank y) → Chain FollowsLine (x ∷ xs) → AtLeast k xs
past k x [] up c = tt
past k x (y ∷ ys) up c = (up y c.0, raised k (rank y) (up y c.0) ys (later y ys c.1))

past_actuator : (w : List ℕ) (y : HeadLine) → FollowsLine (line.Actuator w) y → 4 ≤ rank y
past_actuator w (line.Format n) f = omega (arith, f)
past_actuator w (line.Publisher p) f = omega (arith, f)
past_actuator w (line.Origin o) f = omega (arith, f)
past_actuator w (line.Actuator v) f = omega (arith, f)
past_actuator w (line.Variant n v) f = omega arith
past_actuator w (line.Facet p on) f = omega arith

past_publisher : (q : List ℕ) (y : HeadLine) → FollowsLine (line.Publisher q) y → 2 ≤ rank y
past_publisher q (line.Format n) f = omega (arith, f)
past_publisher q (line.Publisher p) f = omega (arith, f)
past_publisher q (line.Origin o) f = omega arith
past_publisher q (line.Actuator v) f = omega arith
past_publisher q (line.Variant n v) f = omega arith
past_publisher q (line.Facet p on) f = omega arith

chain_tail : (x : HeadLine) (xs : List HeadLine) → Chain FollowsLine (x ∷ xs) → Chain FollowsLine xs
chain_tail x [] c = tt
chain_tail x (y ∷ ys) c = c.1

pub behind_publisher : (q : List ℕ) (xs : List HeadLine) → Chain FollowsLine (line.Publisher q ∷ xs) → AtLeast 2 xs × Chain FollowsLine xs
behind_publisher q xs c = (past 2 (line.Publisher q) xs (past_publisher q) c, chain_tail (line.Publisher q) xs c)

-- ---- what isn't there

no_origins : (xs : List HeadLine) → AtLeast 3 xs → flat_map origin_in xs ≡ []
no_origins [] a = refl
no_origins (line.Origin o ∷ xs) a = absurd (omega (arith, a.0))
no_origins (x ∷ xs) a = flat_map-cons origin_in x xs ∙ no_origins xs a.1

no_actuators : (xs : List HeadLine) → AtLeast 4 xs → flat_map actuator_in xs ≡ []
no_actuators [] a = refl
no_actuators (line.Actuator w ∷ xs) a = absurd (omega (arith, a.0))
no_actuators (x ∷ xs) a = flat_map-cons actuator_in x xs ∙ no_actuators xs a.1

no_variants : (xs : List HeadLine) → AtLeast 5 xs → flat_map variant_in xs ≡ []
no_variants [] a = refl
no_variants (line.Variant n v ∷ xs) a = absurd (omega (arith, a.0))
no_variants (x ∷ xs) a = flat_map-cons variant_in x xs ∙ no_variants xs a.1

-- ---- the sections of lines in order

abbrev sections : List Origin → List (List ℕ) → List (List ℕ × List ℕ) → List (List ℕ × Bool) → List HeadLine
sections os ws vs fs = map line.Origin os ++ map line.Actuator ws ++ map variant_item vs ++ map facet_item fs

abbrev regrouped : List HeadLine → List HeadLine
regrouped xs = sections (flat_map origin_in xs) (flat_map actuator_in xs) (flat_map variant_in xs) (flat_map facet_in xs)

one_more : (x : HeadLine) (xs : List HeadLine) → regrouped (x ∷ xs) ≡ sections (origin_in x ++ flat_map origin_in xs) (actuator_in x ++ flat_map actuator_in xs) (variant_in x ++ flat_map variant_in xs) (facet_in x ++ flat_map facet_in xs)
one_more x xs = rw (flat_map-cons origin_in x xs, flat_map-cons actuator_in x xs, flat_map-cons variant_in x xs, flat_map-cons facet_in x xs) refl

grouped : (xs : List HeadLine) → Chain FollowsLine xs → AtLeast 2 xs → regrouped xs ≡ xs
grouped [] c a = refl
grouped (line.Format n ∷ xs) c a = absurd (omega (arith, a.0))
grouped (line.Publisher p ∷ xs) c a = absurd (omega (arith, a.0))
grouped (line.Origin o ∷ xs) c a = one_more (line.Origin o) xs ∙ ap (λ (l : List HeadLine). line.Origin o ∷ l) (grouped xs (chain_tail (line.Origin o) xs c) a.1)
grouped (line.Actuator w ∷ xs) c a =
    let rest = grouped xs (chain_tail (line.Actuator w) xs c) a.1 in
    let behind = past 4 (line.Actuator w) xs (past_actuator w) c in
    let none = no_origins xs (raised 3 4 (omega arith) xs behind) in
    let ws = flat_map actuator_in xs in let vs = flat_map variant_in xs in let fs = flat_map facet_in xs in
    one_more (line.Actuator w) xs ∙ ap (λ (os : List Origin). sections os (w ∷ ws) vs fs) none
    ∙ ap (λ (l : List HeadLine). line.Actuator w ∷ l) (sym (ap (λ (os : List Origin). sections os ws vs fs) none) ∙ rest)
grouped (line.Variant n v ∷ xs) c a =
    let rest = grouped xs (chain_tail (line.Variant n v) xs c) a.1 in
    let behind = later (line.Variant n v) xs c in
    let none = no_origins xs (raised 3 4 (omega arith) xs behind) in
    let idle = no_actuators xs behind in
    let ws = flat_map actuator_in xs in let vs = flat_map variant_in xs in let fs = flat_map facet_in xs in
    one_more (line.Variant n v) xs ∙ ap (λ (os : List Origin). sections os ws ((n, v) ∷ vs) fs) none ∙ ap (λ (us : List (List ℕ)). sections [] us ((n, v) ∷ vs) fs) idle
    ∙ ap (λ (l : List HeadLine). line.Variant n v ∷ l) (sym (ap (λ (os : List Origin). sections os ws vs fs) none ∙ ap (λ (us : List (List ℕ)). sections [] us vs fs) idle) ∙ rest)
grouped (line.Facet p on ∷ xs) c a =
    let rest = grouped xs (chain_tail (line.Facet p on) xs c) a.1 in
    let behind = later (line.Facet p on) xs c in
    let none = no_origins xs (raised 3 5 (omega arith) xs behind) in
    let idle = no_actuators xs (raised 4 5 (omega arith) xs behind) in
    let unset = no_variants xs behind in
    let ws = flat_map actuator_in xs in let vs = flat_map variant_in xs in let fs = flat_map facet_in xs in
    one_more (line.Facet p on) xs ∙ ap (λ (os : List Origin). sections os ws vs ((p, on) ∷ fs)) none ∙ ap (λ (us : List (List ℕ)). sections [] us vs ((p, on) ∷ fs)) idle ∙ ap (λ (ws : List (List ℕ × List ℕ)). sections [] [] ws ((p, on) ∷ fs)) unset
    ∙ ap (λ (l : List HeadLine). line.Facet p on ∷ l) (sym (ap (λ (os : List Origin). sections os ws vs fs) none ∙ ap (λ (us : List (List ℕ)). sections [] us vs fs) idle ∙ ap (λ (ws : List (List ℕ × List ℕ)). sections [] [] ws fs) unset) ∙ rest)

-- ---- chains of parts

chain_left : (xs ys : List HeadLine) → Chain FollowsLine (xs ++ ys) → Chain FollowsLine xs
chain_left [] ys c = tt
chain_left (x ∷ []) ys c = tt
chain_left (x ∷ y ∷ xs) ys c = (c.0, chain_left (y ∷ xs) ys c.1)

chain_right : (xs ys : List HeadLine) → Chain FollowsLine (xs ++ ys) → Chain FollowsLine ys
chain_right [] ys c = c
chain_right (x ∷ xs) ys c = chain_right xs ys (chain_tail x (xs ++ ys) c)

chain_join : (k : ℕ) (xs ys : List HeadLine) → Chain FollowsLine xs → Chain FollowsLine ys → Below k xs → AtLeast k ys → Chain FollowsLine (xs ++ ys)
chain_join k [] ys cx cy bx ay = cy
chain_join k (x ∷ []) [] cx cy bx ay = tt
chain_join k (x ∷ []) (y ∷ ys) cx cy bx ay = (lower x y (omega (arith, bx.0, ay.0)), cy)
chain_join k (x ∷ z ∷ xs) ys cx cy bx ay = (cx.0, chain_join k (z ∷ xs) ys cx.1 cy bx.1 ay)

-- ---- the sections by themselves

variants_rise : (vs : List (List ℕ × List ℕ)) → Chain FollowsLine (map variant_item vs) → Chain (λ (v w : List ℕ × List ℕ). IsBefore v.0 w.0) vs
variants_rise [] c = tt
variants_rise (v ∷ []) c = tt
variants_rise (v ∷ w ∷ vs) c = (c.0, variants_rise (w ∷ vs) c.1)

facets_rise : (fs : List (List ℕ × Bool)) → Chain FollowsLine (map facet_item fs) → Chain (λ (f g : List ℕ × Bool). IsBefore f.0 g.0) fs
facets_rise [] c = tt
facets_rise (f ∷ []) c = tt
facets_rise (f ∷ g ∷ fs) c = (c.0, facets_rise (g ∷ fs) c.1)

variants_chain : (vs : List (List ℕ × List ℕ)) → Chain (λ (v w : List ℕ × List ℕ). IsBefore v.0 w.0) vs → Chain FollowsLine (map variant_item vs)
variants_chain [] c = tt
variants_chain (v ∷ []) c = tt
variants_chain (v ∷ w ∷ vs) c = (c.0, variants_chain (w ∷ vs) c.1)

facets_chain : (fs : List (List ℕ × Bool)) → Chain (λ (f g : List ℕ × Bool). IsBefore f.0 g.0) fs → Chain FollowsLine (map facet_item fs)
facets_chain [] c = tt
facets_chain (f ∷ []) c = tt
facets_chain (f ∷ g ∷ fs) c = (c.0, facets_chain (g ∷ fs) c.1)

origins_chain : (os : List Origin) → Chain FollowsLine (map line.Origin os)
origins_chain [] = tt
origins_chain (o ∷ []) = tt
origins_chain (o ∷ p ∷ os) = (tt, origins_chain (p ∷ os))

actuators_one : (ws : List (List ℕ)) → Chain FollowsLine (map line.Actuator ws) → map line.Actuator ws ≡ actuator_items (first_word ws)
actuators_one [] c = refl
actuators_one (w ∷ []) c = refl
actuators_one (w ∷ v ∷ ws) c = absurd (omega (arith, c.0))

actuator_chain : (w : Option (List ℕ)) → Chain FollowsLine (actuator_items w)
actuator_chain None = tt
actuator_chain (Some w) = tt

-- every line of a section has its rank
all_mapped : {A : Type 0} (f : A → HeadLine) (P : HeadLine → Type 0) → ((x : A) → P (f x)) → (xs : List A) → AllByRecursion P (map f xs)
all_mapped f P each [] = tt
all_mapped f P each (x ∷ xs) = (each x, all_mapped f P each xs)

all_actuator : (P : HeadLine → Type 0) → ((w : List ℕ) → P (line.Actuator w)) → (w : Option (List ℕ)) → AllByRecursion P (actuator_items w)
all_actuator P each None = tt
all_actuator P each (Some w) = (each w, tt)

-- ---- lawful headings have lines in order

rank_below : (j k : ℕ) → j < k → (xs : List HeadLine) → Below (suc j) xs → Below k xs
rank_below j k lt [] a = tt
rank_below j k lt (x ∷ xs) a = (omega (arith, lt, a.0), rank_below j k lt xs a.1)

pub heading_chain : (h : Head) → IsHead h → Chain FollowsLine (head_items h)
heading_chain h lawful =
    let os = map line.Origin h.origins in
    let ws = actuator_items h.actuator in
    let vs = map variant_item h.settings.variants in
    let fs = map facet_item h.settings.facets in
    let two = line.Format h.format ∷ line.Publisher h.publisher ∷ [] in
    let below_os = λ (k : ℕ) (lt : 2 < k). all_mapped line.Origin (λ (x : HeadLine). rank x < k) (λ o. lt) h.origins in
    let below_ws = λ (k : ℕ) (lt : 3 < k). all_actuator (λ (x : HeadLine). rank x < k) (λ w. lt) h.actuator in
    let below_vs = λ (k : ℕ) (lt : 4 < k). all_mapped variant_item (λ (x : HeadLine). rank x < k) (λ v. lt) h.settings.variants in
    let from_os = all_mapped line.Origin (λ (x : HeadLine). 2 ≤ rank x) (λ o. omega arith) h.origins in
    let from_ws = λ (k : ℕ) (le : k ≤ 3). all_actuator (λ (x : HeadLine). k ≤ rank x) (λ w. le) h.actuator in
    let from_vs = λ (k : ℕ) (le : k ≤ 4). all_mapped variant_item (λ (x : HeadLine). k ≤ rank x) (λ v. le) h.settings.variants in
    let from_fs = λ (k : ℕ) (le : k ≤ 5). all_mapped facet_item (λ (x : HeadLine). k ≤ rank x) (λ f. le) h.settings.facets in
    let chain_vs = variants_chain h.settings.variants (chains (λ (v : List ℕ × List ℕ). v.0) h.settings.variants lawful.settings.ordered.variants) in
    let chain_fs = facets_chain h.settings.facets (chains (λ (f : List ℕ × Bool). f.0) h.settings.facets lawful.settings.ordered.facets) in
    let first = chain_join 3 os ws (origins_chain h.origins) (actuator_chain h.actuator) (below_os 3 (omega arith)) (from_ws 3 (omega arith)) in
    let below_four = all_append (λ (x : HeadLine). rank x < 4) os ws (below_os 4 (omega arith)) (below_ws 4 (omega arith)) in
    let second = chain_join 4 (os ++ ws) vs first chain_vs below_four (from_vs 4 (omega arith)) in
    let below_five = all_append (λ (x : HeadLine). rank x < 5) (os ++ ws) vs (all_append (λ (x : HeadLine). rank x < 5) os ws (below_os 5 (omega arith)) (below_ws 5 (omega arith))) (below_vs 5 (omega arith)) in
    let third = chain_join 5 (os ++ ws ++ vs) fs second chain_fs below_five (from_fs 5 (omega arith)) in
    let from_two = all_append (λ (x : HeadLine). 2 ≤ rank x) (os ++ ws ++ vs) fs (all_append (λ (x : HeadLine). 2 ≤ rank x) (os ++ ws) vs (all_append (λ (x : HeadLine). 2 ≤ rank x) os ws from_os (from_ws 2 (omega arith))) (from_vs 2 (omega arith))) (from_fs 2 (omega arith)) in
    chain_join 2 two (tail_items h) (omega arith, tt) third (omega arith, (omega arith, tt)) from_two

all_map : {A : Type 0} (f : A → HeadLine) (P : HeadLine → Type 0) (xs : List A) → AllByRecursion (λ (x : A). P (f x)) xs → AllByRecursion P (map f xs)
all_map f P [] all = tt
all_map f P (x ∷ xs) all = (all.0, all_map f P xs all.1)

actuator_fits : (w : Option (List ℕ)) → IfWord w → AllByRecursion IsHeadLine (actuator_items w)
actuator_fits None h = tt
actuator_fits (Some w) h = (h, tt)

pub heading_fits : (h : Head) → IsHead h → AllByRecursion IsHeadLine (head_items h)
heading_fits h lawful =
    let os = map line.Origin h.origins in
    let ws = actuator_items h.actuator in
    let vs = map variant_item h.settings.variants in
    let fs = map facet_item h.settings.facets in
    let first = all_append IsHeadLine os ws (all_map line.Origin IsHeadLine h.origins lawful.origins.each) (actuator_fits h.actuator lawful.actuator) in
    let second = all_append IsHeadLine (os ++ ws) vs first (all_map variant_item IsHeadLine h.settings.variants lawful.settings.variants) in
    (lawful.format, (lawful.publisher, all_append IsHeadLine (os ++ ws ++ vs) fs second (all_map facet_item IsHeadLine h.settings.facets lawful.settings.facets)))

-- ---- their texts

text_each : {A : Type 0} (f : A → HeadLine) (g : A → List ℕ) → ((x : A) → head_line_text (f x) ≡ g x) → (xs : List A) → map head_line_text (map f xs) ≡ map g xs
text_each f g same [] = refl
text_each f g same (x ∷ xs) = rw (same x, text_each f g same xs) refl

text_actuator : (w : Option (List ℕ)) → map head_line_text (actuator_items w) ≡ actuator_lines w
text_actuator None = refl
text_actuator (Some w) = refl

pub heading_text : (h : Head) → map head_line_text (head_items h) ≡ head_lines h
heading_text h =
    let os = map line.Origin h.origins in
    let ws = actuator_items h.actuator in
    let vs = map variant_item h.settings.variants in
    let fs = map facet_item h.settings.facets in
    let tail : map head_line_text (os ++ ws ++ vs ++ fs) ≡ map origin_line h.origins ++ actuator_lines h.actuator ++ map variant_line h.settings.variants ++ map facet_line h.settings.facets =
    rw (map-append head_line_text (os ++ ws ++ vs) fs, map-append head_line_text (os ++ ws) vs, map-append head_line_text os ws, text_each line.Origin origin_line (λ o. refl) h.origins, text_actuator h.actuator, text_each variant_item variant_line (λ v. refl) h.settings.variants, text_each facet_item facet_line (λ f. refl) h.settings.facets) refl in
    ap (λ (l : List (List ℕ)). head_line_text (line.Format h.format) ∷ head_line_text (line.Publisher h.publisher) ∷ l) tail

-- ---- the heading of lines in order

abbrev pub heading_of : ℕ → List ℕ → List HeadLine → Head
heading_of f p tail = record {
  format = f;
  publisher = p;
  origins = flat_map origin_in tail;
  actuator = first_word (flat_map actuator_in tail);
  settings = record { variants = flat_map variant_in tail; facets = flat_map facet_in tail };
}

module _ (tail : List HeadLine) (chain : Chain FollowsLine tail) (behind : AllByRecursion (λ (x : HeadLine). 2 ≤ rank x) tail) where
  in_sections : Chain FollowsLine (regrouped tail)
  in_sections = subst (Chain FollowsLine) (sym (grouped tail chain behind)) chain

  front_chain : Chain FollowsLine (map line.Origin (flat_map origin_in tail) ++ map line.Actuator (flat_map actuator_in tail) ++ map variant_item (flat_map variant_in tail))
  front_chain = chain_left (map line.Origin (flat_map origin_in tail) ++ map line.Actuator (flat_map actuator_in tail) ++ map variant_item (flat_map variant_in tail)) (map facet_item (flat_map facet_in tail)) in_sections

  actuators_chain : Chain FollowsLine (map line.Actuator (flat_map actuator_in tail))
  actuators_chain = chain_right (map line.Origin (flat_map origin_in tail)) (map line.Actuator (flat_map actuator_in tail)) (chain_left (map line.Origin (flat_map origin_in tail) ++ map line.Actuator (flat_map actuator_in tail)) (map variant_item (flat_map variant_in tail)) front_chain)

  pub variants_by_name : AreByName (flat_map variant_in tail)
  variants_by_name = ascends (λ (v : List ℕ × List ℕ). v.0) (flat_map variant_in tail) (variants_rise (flat_map variant_in tail) (chain_right (map line.Origin (flat_map origin_in tail) ++ map line.Actuator (flat_map actuator_in tail)) (map variant_item (flat_map variant_in tail)) front_chain))

  pub facets_by_name : AreByName (flat_map facet_in tail)
  facets_by_name = ascends (λ (f : List ℕ × Bool). f.0) (flat_map facet_in tail) (facets_rise (flat_map facet_in tail) (chain_right (map line.Origin (flat_map origin_in tail) ++ map line.Actuator (flat_map actuator_in tail) ++ map variant_item (flat_map variant_in tail)) (map facet_item (flat_map facet_in tail)) in_sections))

  -- the lines in sections
  pub tail_sections : tail ≡ map line.Origin (flat_map origin_in tail) ++ map line.Actuator (flat_map actuator_in tail) ++ map variant_item (flat_map variant_in tail) ++ map facet_item (flat_map facet_in tail)
  tail_sections = sym (grouped tail chain behind)

  pub tail_is : (f : ℕ) (p : List ℕ) → tail ≡ tail_items (heading_of f p tail)
  tail_is f p = tail_sections ∙ ap (λ (ws : List HeadLine). map line.Origin (flat_map origin_in tail) ++ ws ++ map variant_item (flat_map variant_in tail) ++ map facet_item (flat_map facet_in tail)) (actuators_one (flat_map actuator_in tail) actuators_chain)

all_in : {B : Type 0} (f : HeadLine → List B) (P : B → Type 0) → ((x : HeadLine) → IsHeadLine x → AllByRecursion P (f x)) → (xs : List HeadLine) → AllByRecursion IsHeadLine xs → AllByRecursion P (flat_map f xs)
all_in f P each [] h = tt
all_in f P each (x ∷ xs) h = subst (AllByRecursion P) (sym (flat_map-cons f x xs)) (all_append P (f x) (flat_map f xs) (each x h.0) (all_in f P each xs h.1))

origin_fits : (x : HeadLine) → IsHeadLine x → AllByRecursion IsOrigin (origin_in x)
origin_fits (line.Origin o) h = (h, tt)
origin_fits x h = tt

pub origins_fit : (xs : List HeadLine) → AllByRecursion IsHeadLine xs → AllByRecursion IsOrigin (flat_map origin_in xs)
origins_fit xs h = all_in origin_in IsOrigin origin_fits xs h

word_fits : (x : HeadLine) → IsHeadLine x → AllByRecursion IsWord (actuator_in x)
word_fits (line.Actuator w) h = (h, tt)
word_fits x h = tt

first_fits : (ws : List (List ℕ)) → AllByRecursion IsWord ws → IfWord (first_word ws)
first_fits [] all = tt
first_fits (w ∷ ws) all = all.0

variant_fits : (x : HeadLine) → IsHeadLine x → AllByRecursion IsVariant (variant_in x)
variant_fits (line.Variant n v) h = (h, tt)
variant_fits x h = tt

facet_fits : (x : HeadLine) → IsHeadLine x → AllByRecursion IsFacet (facet_in x)
facet_fits (line.Facet p on) h = (h, tt)
facet_fits x h = tt

pub heading_lawful : (f : ℕ) (p : List ℕ) (tail : List HeadLine) → IsHeadLine (line.Format f) → IsHeadLine (line.Publisher p) → AllByRecursion IsHeadLine tail → Chain FollowsLine tail → AllByRecursion (λ (x : HeadLine). 2 ≤ rank x) tail
    → AreOrigins f (flat_map origin_in tail) → IsHead (heading_of f p tail)
heading_lawful f p tail hf hp fit chain behind origins = record {
  format = hf;
  publisher = hp;
  origins = origins;
  actuator = first_fits (flat_map actuator_in tail) (all_in actuator_in IsWord word_fits tail fit);
  settings = record {
    ordered = record { variants = variants_by_name tail chain behind; facets = facets_by_name tail chain behind };
    variants = all_in variant_in IsVariant variant_fits tail fit;
    facets = all_in facet_in IsFacet facet_fits tail fit;
  };
}

-- ---- which origins a heading has

unmapped : (os : List Origin) → flat_map origin_in (map line.Origin os) ≡ os
unmapped [] = refl
unmapped (o ∷ os) = flat_map-cons origin_in (line.Origin o) (map line.Origin os) ∙ ap (λ (l : List Origin). o ∷ l) (unmapped os)

none_in : {A : Type 0} (f : A → HeadLine) → ((x : A) → origin_in (f x) ≡ []) → (xs : List A) → flat_map origin_in (map f xs) ≡ []
none_in f none [] = refl
none_in f none (x ∷ xs) = flat_map-cons origin_in (f x) (map f xs) ∙ rw (none x, none_in f none xs) refl

none_actuator : (w : Option (List ℕ)) → flat_map origin_in (actuator_items w) ≡ []
none_actuator None = refl
none_actuator (Some w) = flat_map-cons origin_in (line.Actuator w) []

heading_origins : (h : Head) → flat_map origin_in (tail_items h) ≡ h.origins
heading_origins h =
    let os = map line.Origin h.origins in
    let ws = actuator_items h.actuator in
    let vs = map variant_item h.settings.variants in
    let fs = map facet_item h.settings.facets in
    rw (flat_map-append origin_in (os ++ ws ++ vs) fs, flat_map-append origin_in (os ++ ws) vs, flat_map-append origin_in os ws, unmapped h.origins, none_actuator h.actuator, none_in variant_item (λ v. refl) h.settings.variants, none_in facet_item (λ f. refl) h.settings.facets)
    (append-nil ((h.origins ++ []) ++ []) ∙ append-nil (h.origins ++ []) ∙ append-nil h.origins)

pub origins_begin : (os : List Origin) (more : List HeadLine) (h : Head) → map line.Origin os ++ more ≡ tail_items h → (others : List Origin) × (h.origins ≡ os ++ others)
origins_begin os more h e =
    (flat_map origin_in more, sym (heading_origins h) ∙ ap (flat_map origin_in) (sym e) ∙ flat_map-append origin_in (map line.Origin os) more ∙ ap (λ (l : List Origin). l ++ flat_map origin_in more) (unmapped os))
