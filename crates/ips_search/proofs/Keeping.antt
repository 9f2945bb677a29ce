-- The nogoods that are kept are nogoods.
use Rattle.std.proofs.Common.{◌≡◌, ℕ, zero, suc, ◌+◌, ◌-◌, ◌<◌, ◌≤◌, ◌⊎◌, inl, inr, Bool, List, [], ◌∷◌, ◌++◌, length, get_or, slice_index, slice_get, take, All, Some, None, Option, refl, sym, ap, ◌∙◌, subst, arith, IsTrue, Vec, Global}
use Rattle.std.specs.Prelude.{IfSome}
use Rattle.std.proofs.lemmas.Bool.{cases_lt}
use Rattle.std.proofs.lemmas.List.{length_push, get_or_push, get_or_append_left, append-nil}
use Rattle.std.proofs.lemmas.List.Elements.{All-push}
use Rattle.std.proofs.lemmas.Option.{none-some, same_Some, slice_get_within, slice_get-get_or}
use Rattle.ips_refute.specs.declared.nogoods.Pair.{Pair}
use Rattle.ips_refute.specs.declared.nogoods.Nogood.{Nogood}
use Rattle.ips_refute.specs.declared.nogoods.Reason.{Reason}
use Rattle.ips_refute.specs.declared.nogoods.Reason.TheVariants.{Test, Earlier}
use Rattle.ips_refute.specs.Meaning.{Meaning, Ascends, IsSubset, OnePerStem, IsOffered}
use Rattle.ips_refute.specs.Refuting.{Explains, ExplainsEach, IsNogood, AreNogoods, EndsEmpty, IsRefutation, IsTidyRefutation}
use Rattle.ips_refute.proofs.Choices.{pair, slice_get-take}
use Rattle.ips_search.specs.Renumbering.{AreTidy, Renames, AreRenamed, IsRenamed}
use Rattle.ips_search.proofs.Walks.{slice_get-left, slice_get-push, slice_get-new, AreNogoods-push}
use Rattle.ips_search.proofs.Shrinking.{all_at}

-- ---- reasons

pub no_reasons : (places : List ℕ) (reasons others : List Reason) → others ≡ [] → (length others ≡ 0) × ((c : ℕ) (r s : Reason) → slice_get reasons c ≡ Some r → slice_get others c ≡ Some s → Renames places r s)
no_reasons places reasons others e = (ap length e, λ c r s a b. absurd (none-some s (subst (λ (l : List Reason). slice_get l c ≡ Some s) e b)))

pub one_reason : (places : List ℕ) (reasons others : List Reason) (i : ℕ) (r s : Reason) → length others ≡ i → slice_get reasons i ≡ Some r → Renames places r s
    → ((c : ℕ) (x y : Reason) → slice_get reasons c ≡ Some x → slice_get others c ≡ Some y → Renames places x y)
    → (c : ℕ) (x y : Reason) → slice_get reasons c ≡ Some x → slice_get (others ++ s ∷ []) c ≡ Some y → Renames places x y
one_reason places reasons others i r s len at new before c x y a b = elim (slice_get-push others s c y b) [
  | inl old ↦ before c x y a old
  | inr (here, same) ↦
      let xr : x ≡ r = same_Some x r (sym a ∙ ap (slice_get reasons) (here ∙ len) ∙ at) in
      subst (λ (z : Reason). Renames places z y) (sym xr) (subst (λ (z : Reason). Renames places r z) (sym same) new)
]

-- ---- what was kept so far

pub record HasKeptSo (ns : List Nogood) (places : List ℕ) (kept : List Nogood) (i : ℕ) : Type 0 where
  pub counted : length places ≡ i
  pub placed : (k : ℕ) → k < length places → 0 < slice_index places k → (g other : Nogood) × (slice_get ns k ≡ Some g) × (slice_get kept (slice_index places k - 1) ≡ Some other) × (other.set.items ≡ g.set.items)
  pub nogoods : (m : Meaning) → AreNogoods m ns → AreTidy ns → AreNogoods m kept × AreTidy kept

pub kept_none : (ns : List Nogood) (places : List ℕ) (kept : List Nogood) → places ≡ [] → kept ≡ [] → HasKeptSo ns places kept 0
kept_none ns places kept e f = record {
  counted = ap length e;
  placed = λ k lt some. absurd (omega (arith, ap length e));
  nogoods = λ m a b. (λ i g at. absurd (none-some g (subst (λ (l : List Nogood). slice_get l i ≡ Some g) f at)), λ k d l. absurd (omega (arith, ap length f)));
}

explains_so : (m : Meaning) (ns : List Nogood) (places : List ℕ) (kept : List Nogood) (i : ℕ) (set : List Pair) (r s : Reason) → HasKeptSo ns places kept i → Renames places r s → Explains m (take i ns) set r → Explains m kept set s
explains_so m ns places kept i set (Test t) s h e why = subst (λ (x : Reason). Explains m kept set x) (sym e) why
explains_so m ns places kept i set (Earlier n) s h (lt, some, e) (g, at, w) =
    let (g0, other, at0, there, same) = h.placed n lt some in
    let eq : g0 ≡ g = same_Some g0 g (sym at0 ∙ (slice_get-take i ns n g at).1) in
    let sets : other.set.items ≡ g.set.items = same ∙ ap (λ (x : Nogood). x.set.items) eq in
    subst (λ (x : Reason). Explains m kept set x) (sym e) (other, there, subst (λ (l : List Pair). IsSubset l set) (sym sets) w)

reason_at : (reasons others : List Reason) (c : ℕ) (s : Reason) → length others ≡ length reasons → slice_get others c ≡ Some s → slice_get reasons c ≡ Some (get_or reasons c s)
reason_at reasons others c s len at = slice_get-get_or reasons c s (omega (arith, len, slice_get_within others c s at))

nogood_so : (m : Meaning) (ns : List Nogood) (places : List ℕ) (kept : List Nogood) (i : ℕ) (g other : Nogood) → HasKeptSo ns places kept i → IsRenamed places g other → IsNogood m (take i ns) g → IsNogood m kept other
nogood_so m ns places kept i g other h same ok =
    let set = other.set.items in
    record {
      offered = subst (λ (l : List Pair). All (IsOffered m) l) (sym same.set) ok.offered;
      one_per_stem = subst (λ (l : List Pair). OnePerStem l) (sym same.set) ok.one_per_stem;
      known = subst (λ (n : ℕ). n < m.stems) (sym same.stem) ok.known;
      free = subst (λ (n : ℕ). All (λ q. q.stem ≡ n → ⊥) set) (sym same.stem) (subst (λ (l : List Pair). All (λ q. q.stem ≡ g.stem → ⊥) l) (sym same.set) ok.free);
      each = same.reasons.each ∙ ok.each ∙ ap m.candidates (sym same.stem);
      explained = λ c s at.
          let r = get_or g.reasons.items c s in
          let was : slice_get g.reasons.items c ≡ Some r = reason_at g.reasons.items other.reasons.items c s same.reasons.each at in
          let old = ok.explained c r was in
          let moved : Explains m (take i ns) (pair other.stem c ∷ set) r =
          subst (λ (n : ℕ). Explains m (take i ns) (pair n c ∷ set) r) (sym same.stem) (subst (λ (l : List Pair). Explains m (take i ns) (pair g.stem c ∷ l) r) (sym same.set) old) in
          explains_so m ns places kept i (pair other.stem c ∷ set) r s h (same.reasons.renames c r s was at) moved;
    }

placed_more : (ns : List Nogood) (places : List ℕ) (kept more : List Nogood) (i p : ℕ) → HasKeptSo ns places kept i
    → (0 < p → (g other : Nogood) × (slice_get ns i ≡ Some g) × (slice_get (kept ++ more) (p - 1) ≡ Some other) × (other.set.items ≡ g.set.items))
    → (k : ℕ) → k < length (places ++ p ∷ []) → 0 < slice_index (places ++ p ∷ []) k → (g other : Nogood) × (slice_get ns k ≡ Some g) × (slice_get (kept ++ more) (slice_index (places ++ p ∷ []) k - 1) ≡ Some other) × (other.set.items ≡ g.set.items)
placed_more ns places kept more i p h new k lt some = elim (cases_lt k (length places)) [
  | inl old ↦
      let at : slice_index (places ++ p ∷ []) k ≡ slice_index places k = get_or_append_left places (p ∷ []) 0 k old in
      let (g, other, a, b, s) = h.placed k old (omega (arith, some, at)) in
      (g, other, a, subst (λ (n : ℕ). slice_get (kept ++ more) (n - 1) ≡ Some other) (sym at) (slice_get-left kept more (slice_index places k - 1) other b), s)
  | inr ge ↦
      let len = length_push places p in
      let here : k ≡ i = omega (arith, h.counted) in
      let at : slice_index (places ++ p ∷ []) k ≡ p = get_or_push places p 0 k (omega (arith, h.counted)) in
      let (g, other, a, b, s) = new (omega (arith, some, at)) in
      (g, other, ap (slice_get ns) here ∙ a, subst (λ (n : ℕ). slice_get (kept ++ more) (n - 1) ≡ Some other) (sym at) b, s)
]

pub kept_not : (ns : List Nogood) (places : List ℕ) (kept : List Nogood) (i : ℕ) → HasKeptSo ns places kept i → HasKeptSo ns (places ++ 0 ∷ []) kept (i + 1)
kept_not ns places kept i h =
    let P : List Nogood → Type 0 = λ l. (k : ℕ) → k < length (places ++ 0 ∷ []) → 0 < slice_index (places ++ 0 ∷ []) k → (g other : Nogood) × (slice_get ns k ≡ Some g) × (slice_get l (slice_index (places ++ 0 ∷ []) k - 1) ≡ Some other) × (other.set.items ≡ g.set.items) in
    record {
      counted = length_push places 0 ∙ ap (λ n. n + 1) h.counted;
      placed = subst P (append-nil kept) (placed_more ns places kept [] i 0 h (λ lt. absurd (omega arith)));
      nogoods = h.nogoods;
    }

pub kept_one : (ns : List Nogood) (places : List ℕ) (kept : List Nogood) (i count : ℕ) (g other : Nogood) → HasKeptSo ns places kept i → slice_get ns i ≡ Some g → IsRenamed places g other → count ≡ length kept + 1 → HasKeptSo ns (places ++ count ∷ []) (kept ++ other ∷ []) (i + 1)
kept_one ns places kept i count g other h at same len =
    let last : slice_get (kept ++ other ∷ []) (count - 1) ≡ Some other =
    ap (slice_get (kept ++ other ∷ [])) (omega (arith, len)) ∙ slice_get-new kept other in
    record {
      counted = length_push places count ∙ ap (λ n. n + 1) h.counted;
      placed = placed_more ns places kept (other ∷ []) i count h (λ lt. (g, other, at, last, same.set));
      nogoods = λ m ok tidy.
          let old = h.nogoods m ok tidy in
          let up : Ascends other.set.items = subst (λ (l : List Pair). Ascends l) (sym same.set) (all_at (λ (x : Nogood). Ascends x.set.items) ns i g tidy at) in (
            AreNogoods-push m kept other old.0 (nogood_so m ns places kept i g other h same (ok i g at)),
            All-push (λ (x : Nogood). Ascends x.set.items) kept other old.1 up,
          );
    }

pub kept_all : (ns kept : List Nogood) (m : Meaning) (b : Bool) → ((m : Meaning) → AreNogoods m ns → AreTidy ns → AreNogoods m kept × AreTidy kept) → (IsTrue b → EndsEmpty kept) → IsTrue b → IsTidyRefutation m ns → IsTidyRefutation m kept
kept_all ns kept m b h ends t ((ok, e), tidy) = let r = h m ok tidy in ((r.0, ends t), r.1)

-- the same, in the words of the calls
pub kept_step : (ns : List Nogood) (places seen places' : List ℕ) (kept kept' : List Nogood) (i count : ℕ) (g other : Nogood) (o : Option Nogood) → HasKeptSo ns places kept i → slice_get ns i ≡ Some g → seen ≡ places → o ≡ Some other
    → IfSome o (λ x. IsRenamed seen g x) → kept' ≡ kept ++ other ∷ [] → count ≡ length kept' → places' ≡ places ++ count ∷ [] → HasKeptSo ns places' kept' (i + 1)
kept_step ns places seen places' kept kept' i count g other o h at e f same ek len ep =
    let renamed : IsRenamed places g other = subst (λ (l : List ℕ). IsRenamed l g other) e (subst (λ (x : Option Nogood). IfSome x (λ y. IsRenamed seen g y)) f same) in
    let more : HasKeptSo ns (places ++ count ∷ []) (kept ++ other ∷ []) (i + 1) = kept_one ns places kept i count g other h at renamed (len ∙ ap length ek ∙ length_push kept other) in
    subst (λ (l : List ℕ). HasKeptSo ns l kept' (i + 1)) (sym ep) (subst (λ (l : List Nogood). HasKeptSo ns (places ++ count ∷ []) l (i + 1)) (sym ek) more)

pub kept_from : (o : Option (Vec Nogood Global)) (seen ns : List Nogood) (kept : Vec Nogood Global) (ends : List Nogood) (b : Bool) → o ≡ Some kept → IfSome o (λ v. (m : Meaning) → AreNogoods m seen → AreTidy seen → AreNogoods m v.items × AreTidy v.items)
    → seen ≡ ns → ends ≡ kept.items → (IsTrue b → EndsEmpty ends) → IsTrue b → (m : Meaning) → IsTidyRefutation m ns → IsTidyRefutation m kept.items
kept_from o seen ns kept ends b f h e g empty t m tidy =
    let so : (m : Meaning) → AreNogoods m seen → AreTidy seen → AreNogoods m kept.items × AreTidy kept.items =
    subst (λ (x : Option (Vec Nogood Global)). IfSome x (λ v. (m : Meaning) → AreNogoods m seen → AreTidy seen → AreNogoods m v.items × AreTidy v.items)) f h in
    let all : IsTidyRefutation m seen = subst (λ (l : List Nogood). IsTidyRefutation m l) (sym e) tidy in
    kept_all seen kept.items m b so (λ u. subst (λ (l : List Nogood). EndsEmpty l) g (empty u)) t all
