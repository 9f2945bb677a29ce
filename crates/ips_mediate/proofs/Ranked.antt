-- The link that stands highest is of the best mediation.
use Rattle.std.proofs.Common.{◌≡◌, ◌⊎◌, ℕ, zero, suc, ◌+◌, ◌<◌, ◌≤◌, false, List, [], ◌∷◌, ◌++◌, length, get_or, take, Option, Some, None, Bor, refl, sym, ap, subst, ◌∙◌, inl, inr, arith}
use Rattle.std.specs.Prelude.{slice_get}
use Rattle.std.specs.List.{All, Any}
use Rattle.std.specs.declared.cmp.Ordering.{Ordering}
use Rattle.std.specs.declared.cmp.Ordering.TheVariants.{Less, Equal, Greater}
use Rattle.std.specs.Ordering.{is_gt, ordering_reverse, nat_cmp}
use Rattle.std.specs.Cmp.Lexicographic.{slice_cmp}
use Rattle.std.proofs.lemmas.Bool.{cases_lt}
use Rattle.std.proofs.lemmas.Cmp.{upto, tied_itself, nat_list_cmp_total}
use Rattle.std.proofs.lemmas.List.{take_all, take_more, length-take-le}
use Rattle.std.proofs.lemmas.List.Elements.{All-nil, All-cons, All-push, All-weaker}
use Rattle.std.proofs.lemmas.Option.{slice_get_within, get_or_from_slice_get}
use Rattle.ips_action.specs.Action.{Fields}
use Rattle.ips_fmri.specs.Version.{Parts}
use Rattle.ips_fmri.specs.Order.{version_cmp}
use Rattle.ips_fmri.proofs.Orders.{versions_tell}
use Rattle.ips_mediate.specs.declared.set.SetMediator.{SetMediator}
use Rattle.ips_mediate.specs.Mediation.{Mediation, mediation_of, rank_of}
use Rattle.ips_mediate.specs.Best.{IsLessVersion, ComesBefore, HasRank, IsBetter, IsPreferred, Fits, IsBest}
use Rattle.ips_mediate.specs.Order.{link_cmp, Leads}
use Rattle.ips_mediate.proofs.Compared.{link_cmp_total, at_most, rank_at_most, same_or_not}

-- ---- the highest so far

-- the link stands at the place, it fits, and no link that fits stands above it
pub record IsHighest (front : List Fields) (set : Option SetMediator) (i : ℕ) (link : Fields) : Type 0 where
  pub at : slice_get front i ≡ Some link
  pub fits : Fits set (mediation_of link)
  pub highest : All (λ l. Fits set (mediation_of l) → is_gt (link_cmp l link) ≡ false) front

-- what was found among these links
abbrev pub Found : List Fields → Option SetMediator → Option (ℕ × Bor Fields) → Type 0
Found front set None = All (λ l. Fits set (mediation_of l) → ⊥) front
Found front set (Some x) = IsHighest front set x.0 x.1.now

get_front : {X : Type 0} (front : List X) (x y : X) (i : ℕ) → slice_get front i ≡ Some y → slice_get (front ++ x ∷ []) i ≡ Some y
get_front [] x y i e = absurd cc
get_front (z ∷ front) x y zero e = e
get_front (z ∷ front) x y (suc i) e = get_front front x y i e

get_end : {X : Type 0} (front : List X) (x : X) → slice_get (front ++ x ∷ []) (length front) ≡ Some x
get_end [] x = refl
get_end (z ∷ front) x = get_end front x

pub none_found : (set : Option SetMediator) → Found [] set None
none_found set = All-nil (λ l. Fits set (mediation_of l) → ⊥)

below : (l link : Fields) → link_cmp link l ≡ Greater → is_gt (link_cmp l link) ≡ false
below l link above = ap is_gt (link_cmp_total.antisymm l link ∙ ap ordering_reverse above)

itself : (link : Fields) → is_gt (link_cmp link link) ≡ false
itself link = ap is_gt (tied_itself link_cmp_total link)

-- a link that leads is the highest of all up to it
pub leads_now : (front : List Fields) (set : Option SetMediator) (found : Option (ℕ × Bor Fields)) (i : ℕ) (link : Fields) → i ≡ length front → Found front set found → Leads set link found → IsHighest (front ++ link ∷ []) set i link
leads_now front set None i link at none lead = record {
  at = ap (slice_get (front ++ link ∷ [])) at ∙ get_end front link;
  fits = lead.0;
  highest = All-push (λ l. Fits set (mediation_of l) → is_gt (link_cmp l link) ≡ false) front link (All-weaker (λ l. Fits set (mediation_of l) → ⊥) (λ l. Fits set (mediation_of l) → is_gt (link_cmp l link) ≡ false) (λ l never fits. absurd (never fits)) front none) (λ fits. itself link);
}
leads_now front set (Some x) i link at high lead = record {
  at = ap (slice_get (front ++ link ∷ [])) at ∙ get_end front link;
  fits = lead.0;
  highest =
      All-push (λ l. Fits set (mediation_of l) → is_gt (link_cmp l link) ≡ false) front link
      (All-weaker (λ l. Fits set (mediation_of l) → is_gt (link_cmp l x.1.now) ≡ false) (λ l. Fits set (mediation_of l) → is_gt (link_cmp l link) ≡ false) (λ l low fits. upto link_cmp_total l x.1.now link (low fits) (below x.1.now link lead.1)) front high.highest)
      (λ fits. itself link);
}

low_unless : (o : Ordering) → (o ≡ Greater → ⊥) → is_gt o ≡ false
low_unless Less h = refl
low_unless Equal h = refl
low_unless Greater h = absurd (h refl)

-- one that doesn't leaves what was found
pub leads_not : (front : List Fields) (set : Option SetMediator) (found : Option (ℕ × Bor Fields)) (link : Fields) → Found front set found → (Leads set link found → ⊥) → Found (front ++ link ∷ []) set found
leads_not front set None link none not = All-push (λ l. Fits set (mediation_of l) → ⊥) front link none (λ fits. not (fits, tt))
leads_not front set (Some x) link high not = record {
  at = get_front front link x.1.now x.0 high.at;
  fits = high.fits;
  highest = All-push (λ l. Fits set (mediation_of l) → is_gt (link_cmp l x.1.now) ≡ false) front link high.highest (λ fits. low_unless (link_cmp link x.1.now) (λ above. not (fits, above)));
}

-- ---- the priority of a mediation

-- a link of the mediation whose priority none of the others passes
record IsTop (links : List Fields) (m : Mediation) (top : Fields) : Type 0 where
  place : ℕ
  within : place < length links
  here : get_or links place top ≡ top
  same : mediation_of top ≡ m
  greatest : All (λ l. mediation_of l ≡ m → rank_of l ≤ rank_of top) links

top_later : (l top : Fields) (links : List Fields) (m : Mediation) → IsTop links m top → (mediation_of l ≡ m → rank_of l ≤ rank_of top) → IsTop (l ∷ links) m top
top_later l top links m h low = record {
  place = suc h.place;
  within = omega (arith, h.within);
  here = h.here;
  same = h.same;
  greatest = All-cons (λ k. mediation_of k ≡ m → rank_of k ≤ rank_of top) l links low h.greatest;
}

top_first : (l : Fields) (links : List Fields) (m : Mediation) → mediation_of l ≡ m → All (λ k. mediation_of k ≡ m → rank_of k ≤ rank_of l) links → IsTop (l ∷ links) m l
top_first l links m same low = record {
  place = 0;
  within = omega arith;
  here = refl;
  same = same;
  greatest = All-cons (λ k. mediation_of k ≡ m → rank_of k ≤ rank_of l) l links (λ e. omega arith) low;
}

abbrev NoneOf : Mediation → List Fields → Type 0
NoneOf m links = All (λ l. mediation_of l ≡ m → ⊥) links

top_of : (links : List Fields) (m : Mediation) → NoneOf m links ⊎ ((top : Fields) × IsTop links m top)
top_of [] m = inl (All-nil (λ l. mediation_of l ≡ m → ⊥))
top_of (l ∷ links) m =
    elim (same_or_not (mediation_of l) m) [
      | inr ne ↦
          elim (top_of links m) [
            | inl none ↦ inl (All-cons (λ k. mediation_of k ≡ m → ⊥) l links ne none)
            | inr w ↦ inr (w.0, top_later l w.0 links m w.1 (λ e. absurd (ne e)))
          ]
      | inl same ↦
          elim (top_of links m) [
            | inl none ↦ inr (l, top_first l links m same (All-weaker (λ k. mediation_of k ≡ m → ⊥) (λ k. mediation_of k ≡ m → rank_of k ≤ rank_of l) (λ k never e. absurd (never e)) links none))
            | inr w ↦
                elim (cases_lt (rank_of w.0) (rank_of l)) [
                  | inl more ↦ inr (l, top_first l links m same (All-weaker (λ k. mediation_of k ≡ m → rank_of k ≤ rank_of w.0) (λ k. mediation_of k ≡ m → rank_of k ≤ rank_of l) (λ k low e. le_lt (rank_of k) (rank_of w.0) (rank_of l) (low e) more) links w.1.greatest))
                  | inr le ↦ inr (w.0, top_later l w.0 links m w.1 (λ e. le))
                ]
          ]
    ]
  where
    le_lt : (a b c : ℕ) → a ≤ b → b < c → a ≤ c
    le_lt a b c h k = omega arith

ranked : (links : List Fields) (m : Mediation) (top : Fields) → IsTop links m top → HasRank links m (rank_of top)
ranked links m top h = record { some = (h.place, top, h.within, h.here, (h.same, refl)); greatest = h.greatest }

-- ---- the best

worse : (links : List Fields) (set : Option SetMediator) (i : ℕ) (link top : Fields) (m : Mediation) → IsHighest links set i link → HasRank links (mediation_of link) (rank_of link) → IsTop links m top → Fits set m → (m ≡ mediation_of link) ⊎ IsBetter links (mediation_of link) m
worse links set i link top m h mine t fits =
    let F : Mediation → Type 0 = λ n. Fits set n in
    let P : Fields → Type 0 = λ l. Fits set (mediation_of l) → is_gt (link_cmp l link) ≡ false in
    let low : is_gt (link_cmp top link) ≡ false = subst P t.here (h.highest t.place top t.within) (subst F (sym t.same) fits) in
    let its = ranked links m top t in
    elim (at_most top link low) [
      | inl less ↦ inr (record { rank = rank_of link; other = rank_of top; mine = mine; its = its; better = inl less })
      | inr w ↦
          elim w.1 [
            | inl preferred ↦ inr (record { rank = rank_of link; other = rank_of top; mine = mine; its = its; better = inr (sym w.0, let Q : Mediation → Type 0 = λ n. IsPreferred (mediation_of link) n in subst Q t.same preferred) })
            | inr same ↦ inl (sym t.same ∙ same)
          ]
    ]

pub best_found : (links : List Fields) (set : Option SetMediator) (i : ℕ) (link : Fields) → IsHighest links set i link → IsBest links set (mediation_of link)
best_found links set i link h =
    let F : Mediation → Type 0 = λ n. Fits set n in
    let mine : HasRank links (mediation_of link) (rank_of link) = record {
      some = (i, link, slice_get_within links i link h.at, get_or_from_slice_get links i link link h.at, (refl, refl));
      greatest = λ k d lt e. rank_at_most (get_or links k d) link (at_most (get_or links k d) link (h.highest k d lt (subst F (sym e) h.fits)));
    } in record {
      fits = h.fits;
      best = λ k d lt fits.
          elim (top_of links (mediation_of (get_or links k d))) [
            | inl none ↦ absurd (none k d lt refl)
            | inr w ↦ worse links set i link w.0 (mediation_of (get_or links k d)) h mine w.1 fits
          ];
    }

-- ---- one best mediation

version_once : (v w : Option Parts) → IsLessVersion v w → IsLessVersion w v → ⊥
version_once v None h k = h
version_once None (Some w) h k = k
version_once (Some v) (Some w) h k =
    let t = versions_tell v w in
    let less : version_cmp v w ≡ Less = t.less h in
    let greater : version_cmp v w ≡ Greater = t.greater k in absurd cc

text_once : (x y : Option (List ℕ)) → ComesBefore x y → ComesBefore y x → ⊥
text_once x None h k = h
text_once None (Some y) h k = k
text_once (Some x) (Some y) h k =
    let turned : slice_cmp nat_cmp x y ≡ ordering_reverse (slice_cmp nat_cmp y x) = nat_list_cmp_total.antisymm x y in
    let greater : slice_cmp nat_cmp x y ≡ Greater = turned ∙ ap ordering_reverse k in absurd cc

preferred_once : (m n : Mediation) → IsPreferred m n → IsPreferred n m → ⊥
preferred_once m n a b =
    elim a [
      | inl v ↦
          elim b [
            | inl w ↦ version_once n.version m.version v w
            | inr w ↦ version_once m.version m.version (subst (λ (x : Option Parts). IsLessVersion x m.version) w.0 v) (subst (λ (x : Option Parts). IsLessVersion x m.version) w.0 v)
          ]
      | inr v ↦
          elim b [
            | inl w ↦ version_once n.version n.version (subst (λ (x : Option Parts). IsLessVersion x n.version) v.0 w) (subst (λ (x : Option Parts). IsLessVersion x n.version) v.0 w)
            | inr w ↦ text_once m.implementation n.implementation v.1 w.1
          ]
    ]

rank_below : (links : List Fields) (m : Mediation) (p q : ℕ) → HasRank links m p → HasRank links m q → p ≤ q
rank_below links m p q a b =
    let w = a.some in
    let P : Fields → Type 0 = λ l. mediation_of l ≡ m → rank_of l ≤ q in
    let low : rank_of w.1 ≤ q = subst P w.3 (b.greatest w.0 w.1 w.2) w.4.0 in
    omega (arith, w.4.1, low)

not_both : (links : List Fields) (m n : Mediation) → IsBetter links m n → IsBetter links n m → ⊥
not_both links m n a b =
    let up = rank_below links m a.rank b.other a.mine b.its in
    let down = rank_below links m b.other a.rank b.its a.mine in
    let its_up = rank_below links n a.other b.rank a.its b.mine in
    let its_down = rank_below links n b.rank a.other b.mine a.its in
    elim a.better [
      | inl more ↦ elim b.better [ inl other ↦ absurd (omega (arith, more, other, up, down, its_up, its_down)) | inr w ↦ absurd (omega (arith, more, w.0, up, down, its_up, its_down)) ]
      | inr v ↦ elim b.better [ inl other ↦ absurd (omega (arith, v.0, other, up, down, its_up, its_down)) | inr w ↦ preferred_once m n v.1 w.1 ]
    ]

better_or_same : (links : List Fields) (set : Option SetMediator) (m n : Mediation) → Any (λ l. mediation_of l ≡ n) links → IsBest links set m → Fits set n → (n ≡ m) ⊎ IsBetter links m n
better_or_same links set m n w best fits =
    let F : Mediation → Type 0 = λ k. Fits set k in
    let P : Mediation → Type 0 = λ k. (k ≡ m) ⊎ IsBetter links m k in
    let Q : Fields → Type 0 = λ l. Fits set (mediation_of l) → (mediation_of l ≡ m) ⊎ IsBetter links m (mediation_of l) in
    subst P w.4 (subst Q w.3 (best.best w.0 w.1 w.2) (subst F (sym w.4) fits))

pub best_is_one : (links : List Fields) (set : Option SetMediator) (m n : Mediation) → Any (λ l. mediation_of l ≡ m) links → Any (λ l. mediation_of l ≡ n) links → IsBest links set m → IsBest links set n → m ≡ n
best_is_one links set m n v w a b =
    elim (better_or_same links set m n w a b.fits) [
      | inl same ↦ sym same
      | inr better ↦ elim (better_or_same links set n m v b a.fits) [ inl same ↦ same | inr other ↦ absurd (not_both links m n better other) ]
    ]

-- ---- all links are looked at

pub found_all : (links : List Fields) (set : Option SetMediator) (found : Option (ℕ × Bor Fields)) (k : ℕ) → length links ≤ k → Found (take k links) set found → Found links set found
found_all links set found k le h = let P : List Fields → Type 0 = λ l. Found l set found in subst P (take_all k links le) h

pub best_of_found : (links : List Fields) (set : Option SetMediator) (found : Option (ℕ × Bor Fields)) (i : ℕ) (link : Bor Fields) → found ≡ Some (i, link) → Found links set found
    → (x : Fields) × (slice_get links i ≡ Some x) × IsBest links set (mediation_of x)
best_of_found links set found i link is h =
    let P : Option (ℕ × Bor Fields) → Type 0 = λ f. Found links set f in
    let high : IsHighest links set i link.now = subst P is h in (link.now, high.at, best_found links set i link.now high)

pub none_of_found : (links : List Fields) (set : Option SetMediator) (found : Option (ℕ × Bor Fields)) → found ≡ None → Found links set found → All (λ l. Fits set (mediation_of l) → ⊥) links
none_of_found links set found is h = let P : Option (ℕ × Bor Fields) → Type 0 = λ f. Found links set f in subst P is h

-- one more link is looked at
pub one_more : (links : List Fields) (set : Option SetMediator) (next : Option (ℕ × Bor Fields)) (i : ℕ) (link : Fields) → i < length links → link ≡ get_or links i link → Found (take i links ++ link ∷ []) set next → Found (take (i + 1) links) set next
one_more links set next i link lt is h =
    let P : List Fields → Type 0 = λ l. Found l set next in
    subst P (ap (λ (x : Fields). take i links ++ x ∷ []) is ∙ sym (take_more links i link lt)) h

pub lead_more : (links : List Fields) (set : Option SetMediator) (found next : Option (ℕ × Bor Fields)) (i : ℕ) (link : Bor Fields) → next ≡ Some (i, link) → i < length links → link.now ≡ get_or links i link.now
    → Found (take i links) set found → Leads set link.now found → Found (take (i + 1) links) set next
lead_more links set found next i link next_is lt is so_far lead =
    let P : Option (ℕ × Bor Fields) → Type 0 = λ f. Found (take (i + 1) links) set f in
    subst P (sym next_is) (one_more links set (Some (i, link)) i link.now lt is (leads_now (take i links) set found i link.now (sym (length-take-le i links (omega arith))) so_far lead))

pub stay_more : (links : List Fields) (set : Option SetMediator) (found next : Option (ℕ × Bor Fields)) (i : ℕ) (link : Fields) → next ≡ found → i < length links → link ≡ get_or links i link
    → Found (take i links) set found → (Leads set link found → ⊥) → Found (take (i + 1) links) set next
stay_more links set found next i link next_is lt is so_far not =
    let P : Option (ℕ × Bor Fields) → Type 0 = λ f. Found (take (i + 1) links) set f in
    subst P (sym next_is) (one_more links set found i link lt is (leads_not (take i links) set found link so_far not))
