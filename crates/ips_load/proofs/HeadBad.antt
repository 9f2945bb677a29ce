-- Where the lines of the file `image` go wrong.
use Rattle.std.proofs.Common.{◌≡◌, ◌⊎◌, inl, inr, ℕ, suc, ◌+◌, ◌<◌, ◌≤◌, take, drop, get_or, Bool, true, false, List, [], ◌∷◌, ◌++◌, length, map, Option, Some, None, refl, sym, ◌∙◌, ap, ap₂, subst, arith, append_assoc}
use Rattle.std.specs.Prelude.{codes}
use Rattle.std.specs.List.{AllByRecursion, flat_map}
use Rattle.std.proofs.lemmas.List.{map-append, append-nil, length-map, take-append-drop}
use Rattle.std.proofs.lemmas.Grind.{flat_map-append}
use Rattle.ips_text.proofs.Lists.{flat_item}
use Rattle.ips_text.specs.Quote.{quoted}
use Rattle.ips_fmri.specs.Name.{IsPublisher}
use Rattle.ips_filter.specs.Settings.{Set}
use Rattle.ips_records.specs.Listed.{Chain}
use Rattle.ips_state.specs.declared.state.Origin.{Origin}
use Rattle.ips_state.specs.State.{Head}
use Rattle.ips_state.specs.Lawful.{IsHead, AreOrigins}
use Rattle.ips_state.proofs.Ordered.{ascends}
use Rattle.ips_load.specs.declared.head_lines.HeadLine.{HeadLine}
use Rattle.ips_load.specs.declared.head_lines.HeadLine.TheVariants as line
use Rattle.ips_load.specs.HeadLines.{IsHeadLine, IsFormat, rank, FollowsLine, variant_item, facet_item, tail_items, head_items, origin_in, actuator_in, variant_in, facet_in, first_word, IsHeadOf, BeginsHead, StopsHead, IsFirstBadItem, IsBadOrigin}
use Rattle.ips_load.proofs.HeadSections.{origins_begin, tail_sections, tail_is, heading_of, heading_lawful}

-- a heading with nothing but origins
abbrev bare : ℕ → List ℕ → List Origin → Head
bare f p os = record { format = f; publisher = p; origins = os; actuator = None; settings = record { variants = []; facets = [] } }

bare_lawful : (f : ℕ) (p : List ℕ) (os : List Origin) → IsFormat f → IsPublisher p → AreOrigins f os → IsHead (bare f p os)
bare_lawful f p os hf hp ho = record {
  format = hf;
  publisher = hp;
  origins = ho;
  actuator = tt;
  settings = record {
    ordered = record { variants = ascends (λ (v : List ℕ × List ℕ). v.0) [] tt; facets = ascends (λ (v : List ℕ × Bool). v.0) [] tt };
    variants = tt;
    facets = tt;
  };
}

no_origins : (f : ℕ) → AreOrigins f []
no_origins f = record { each = tt; once = tt; none = λ e. refl }

some_publisher : IsPublisher (codes "a")
unfolding quoted
some_publisher = record { form = (refl, refl); short = refl }

same_first : {A : Type 0} (x y : A) (xs ys : List A) → x ∷ xs ≡ y ∷ ys → x ≡ y
same_first x y xs ys e = cc

same_rest : {A : Type 0} (x y : A) (xs ys : List A) → x ∷ xs ≡ y ∷ ys → xs ≡ ys
same_rest x y xs ys e = cc

-- no line of a format comes first
pub bad_format : (whole : Bool) (lines : List HeadLine) → ((n : ℕ) (rest : List HeadLine) → lines ≡ line.Format n ∷ rest → ⊥) → IsFirstBadItem whole lines 1
bad_format whole lines none = record {
  front = [];
  rest = lines;
  cut = refl;
  place = refl;
  begins = (head_items (bare 2 (codes "a") []), (bare 2 (codes "a") [], bare_lawful 2 (codes "a") [] (inr refl) some_publisher (no_origins 2), refl));
  stops = go whole lines none;
}
  where
    go : (whole : Bool) (lines : List HeadLine) → ((n : ℕ) (rest : List HeadLine) → lines ≡ line.Format n ∷ rest → ⊥) → StopsHead whole [] lines
    go true [] none = λ h. let e : [] ≡ head_items h.0 = h.2 in absurd cc
    go false [] none = tt
    go whole (x ∷ rest) none = λ b. none b.1.0.format rest (ap (λ (y : HeadLine). y ∷ rest) (same_first x (line.Format b.1.0.format) b.0 _ b.1.2))

-- no line of a publisher comes second
pub bad_publisher : (whole : Bool) (f : ℕ) (behind : List HeadLine) → IsFormat f → ((p : List ℕ) (rest : List HeadLine) → behind ≡ line.Publisher p ∷ rest → ⊥) → IsFirstBadItem whole (line.Format f ∷ behind) 2
bad_publisher whole f behind hf none = record {
  front = line.Format f ∷ [];
  rest = behind;
  cut = refl;
  place = refl;
  begins = (line.Publisher (codes "a") ∷ [], (bare f (codes "a") [], bare_lawful f (codes "a") [] hf some_publisher (no_origins f), refl));
  stops = go whole behind none;
}
  where
    go : (whole : Bool) (lines : List HeadLine) → ((p : List ℕ) (rest : List HeadLine) → lines ≡ line.Publisher p ∷ rest → ⊥) → StopsHead whole (line.Format f ∷ []) lines
    go true [] none = λ h. let e : line.Format f ∷ [] ≡ head_items h.0 = h.2 in absurd cc
    go false [] none = tt
    go whole (x ∷ rest) none = λ b.
        let behind_format = same_rest (line.Format f) (line.Format b.1.0.format) (x ∷ b.0) _ b.1.2 in
        none b.1.0.publisher rest (ap (λ (y : HeadLine). y ∷ rest) (same_first x (line.Publisher b.1.0.publisher) b.0 _ behind_format))

regroup : (a b w v f : List HeadLine) → (((a ++ b) ++ w) ++ v) ++ f ≡ a ++ (((b ++ w) ++ v) ++ f)
regroup a b w v f =
    ap (λ (l : List HeadLine). (l ++ v) ++ f) (append_assoc a b w) ∙ ap (λ (l : List HeadLine). l ++ f) (append_assoc a (b ++ w) v) ∙ append_assoc a ((b ++ w) ++ v) f

same_format : (f g : ℕ) → line.Format f ≡ line.Format g → f ≡ g
same_format f g e = cc

-- an origin can't stand behind those before it
pub bad_origin : (whole : Bool) (f : ℕ) (p : List ℕ) (tail : List HeadLine) (place : ℕ) → IsFormat f → IsPublisher p → Chain FollowsLine tail → AllByRecursion (λ (x : HeadLine). 2 ≤ rank x) tail
    → IsBadOrigin f (flat_map origin_in tail) place → IsFirstBadItem whole (line.Format f ∷ line.Publisher p ∷ tail) (place + 3)
bad_origin whole f p tail place hf hp chain behind bad =
    let two = line.Format f ∷ line.Publisher p ∷ [] in
    let front = map line.Origin bad.front in
    let ws = map line.Actuator (flat_map actuator_in tail) in
    let vs = map variant_item (flat_map variant_in tail) in
    let fs = map facet_item (flat_map facet_in tail) in
    let cut : tail ≡ front ++ (line.Origin bad.origin ∷ (map line.Origin bad.rest ++ ws ++ vs ++ fs)) =
    tail_sections tail chain behind
    ∙ ap (λ (os : List HeadLine). os ++ ws ++ vs ++ fs) (ap (map line.Origin) bad.cut ∙ map-append line.Origin bad.front (bad.origin ∷ bad.rest))
    ∙ regroup front (line.Origin bad.origin ∷ map line.Origin bad.rest) ws vs fs in
    record {
      front = line.Format f ∷ line.Publisher p ∷ front;
      rest = line.Origin bad.origin ∷ (map line.Origin bad.rest ++ ws ++ vs ++ fs);
      cut = ap (λ (l : List HeadLine). line.Format f ∷ line.Publisher p ∷ l) cut;
      place = omega (arith, bad.count, length-map bad.front line.Origin);
      begins = (
        [],
        (
          bare f p bad.front,
          bare_lawful f p bad.front hf hp bad.stand,
          ap (λ (l : List HeadLine). line.Format f ∷ line.Publisher p ∷ l) (append-nil front ∙ sym (append-nil ((front ++ []) ++ []) ∙ append-nil (front ++ []) ∙ append-nil front)),
        ),
      );
      stops = λ b.
          let h = b.1.0 in
          let behind_format = same_rest (line.Format f) (line.Format h.format) (line.Publisher p ∷ ((front ++ line.Origin bad.origin ∷ []) ++ b.0)) (line.Publisher h.publisher ∷ tail_items h) b.1.2 in
          let behind_both = same_rest (line.Publisher p) (line.Publisher h.publisher) ((front ++ line.Origin bad.origin ∷ []) ++ b.0) (tail_items h) behind_format in
          let mapped : map line.Origin (bad.front ++ bad.origin ∷ []) ++ b.0 ≡ tail_items h = ap (λ (l : List HeadLine). l ++ b.0) (map-append line.Origin bad.front (bad.origin ∷ [])) ∙ behind_both in
          let begun = origins_begin (bad.front ++ bad.origin ∷ []) b.0 h mapped in
          let is_format = same_format f h.format (same_first (line.Format f) (line.Format h.format) (line.Publisher p ∷ ((front ++ line.Origin bad.origin ∷ []) ++ b.0)) (line.Publisher h.publisher ∷ tail_items h) b.1.2) in
          bad.never begun.0 (subst (λ (n : ℕ). AreOrigins n (bad.front ++ bad.origin ∷ begun.0)) (sym is_format)
          (subst (AreOrigins h.format) (begun.1 ∙ append_assoc bad.front (bad.origin ∷ []) begun.0) b.1.1.origins));
    }

-- the line behind a whole heading is bad
pub bad_behind : (lines : List HeadLine) (n : ℕ) → n ≡ length lines + 1 → IsHeadOf lines → IsFirstBadItem false lines n
bad_behind lines n place h = record { front = lines; rest = []; cut = sym (append-nil lines); place = place; begins = ([], subst IsHeadOf (sym (append-nil lines)) h); stops = tt }

-- the first actuator word
pub first_set : (lines : List HeadLine) (i : ℕ) (x : HeadLine) (w : List ℕ) → i < length lines → x ≡ get_or lines i x → flat_map actuator_in (take i lines) ≡ [] → x ≡ line.Actuator w → Some w ≡ first_word (flat_map actuator_in lines)
first_set lines i x w lt e none is =
    sym (ap first_word (ap (flat_map actuator_in) (sym (take-append-drop (i + 1) lines)) ∙ flat_map-append actuator_in (take (i + 1) lines) (drop (i + 1) lines)
    ∙ ap (λ (l : List (List ℕ)). l ++ flat_map actuator_in (drop (i + 1) lines)) (flat_item actuator_in lines i x lt e ∙ ap (λ (l : List (List ℕ)). l ++ actuator_in x) none ∙ ap actuator_in is)))

pub bad_publisher_behind : (whole : Bool) (lines : List HeadLine) (f : ℕ) (behind : List HeadLine) → lines ≡ line.Format f ∷ behind → AllByRecursion IsHeadLine lines → ((p : List ℕ) (rest : List HeadLine) → behind ≡ line.Publisher p ∷ rest → ⊥) → IsFirstBadItem whole lines 2
bad_publisher_behind whole lines f behind is fit none = subst (λ (l : List HeadLine). IsFirstBadItem whole l 2) (sym is) (bad_publisher whole f behind (subst (AllByRecursion IsHeadLine) is fit).0 none)

-- the line behind a whole heading of these parts is bad
pub bad_end : (whole : Bool) (f : ℕ) (p : List ℕ) (tail : List HeadLine) → whole ≡ false → IsFormat f → IsPublisher p → AllByRecursion IsHeadLine tail → Chain FollowsLine tail → AllByRecursion (λ (x : HeadLine). 2 ≤ rank x) tail
    → AreOrigins f (flat_map origin_in tail) → IsFirstBadItem whole (line.Format f ∷ line.Publisher p ∷ tail) (length tail + 3)
bad_end whole f p tail some hf hp fit chain behind origins =
    subst (λ (w : Bool). IsFirstBadItem w (line.Format f ∷ line.Publisher p ∷ tail) (length tail + 3)) (sym some)
    (bad_behind (line.Format f ∷ line.Publisher p ∷ tail) (length tail + 3) (omega arith)
    (heading_of f p tail, heading_lawful f p tail hf hp fit chain behind origins, ap (λ (l : List HeadLine). line.Format f ∷ line.Publisher p ∷ l) (tail_is tail chain behind f p)))

module _ (f : ℕ) (p : List ℕ) (tail : List HeadLine) (name : List ℕ) (os : List Origin) (word : Option (List ℕ)) (set : Set)
    (en : name ≡ p) (eo : os ≡ flat_map origin_in tail) (ew : word ≡ first_word (flat_map actuator_in tail)) (ev : set.variants ≡ flat_map variant_in tail) (ef : set.facets ≡ flat_map facet_in tail) where
  same_set : set ≡ (let s : Set = record { variants = flat_map variant_in tail; facets = flat_map facet_in tail } in s)
  same_set = ap₂ (λ (v : List (List ℕ × List ℕ)) (w : List (List ℕ × Bool)). let s : Set = record { variants = v; facets = w } in s) ev ef

  built_is : (let h : Head = record { format = f; publisher = name; origins = os; actuator = word; settings = set } in h) ≡ heading_of f p tail
  built_is = rw (en, eo, ew, same_set) refl

  pub built_lawful : IsFormat f → IsPublisher p → AllByRecursion IsHeadLine tail → Chain FollowsLine tail → AllByRecursion (λ (x : HeadLine). 2 ≤ rank x) tail → AreOrigins f (flat_map origin_in tail)
      → IsHead (record { format = f; publisher = name; origins = os; actuator = word; settings = set })
  built_lawful hf hp fit chain behind origins = subst IsHead (sym built_is) (heading_lawful f p tail hf hp fit chain behind origins)

  pub built_items : Chain FollowsLine tail → AllByRecursion (λ (x : HeadLine). 2 ≤ rank x) tail
      → line.Format f ∷ line.Publisher p ∷ tail ≡ head_items (record { format = f; publisher = name; origins = os; actuator = word; settings = set })
  built_items chain behind = ap (λ (l : List HeadLine). line.Format f ∷ line.Publisher p ∷ l) (tail_is tail chain behind f p) ∙ ap head_items (sym built_is)
