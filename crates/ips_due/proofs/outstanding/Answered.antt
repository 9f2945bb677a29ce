-- The answer, from the notes.
use Rattle.std.proofs.Common.{◌≡◌, ℕ, zero, suc, true, not, ◌||◌, List, [], ◌∷◌, map, Vec, Global, Bor, Option, Some, None, nat_cmp, is_eq, refl, sym, ap, ◌∙◌, inl, inr}
use Rattle.std.specs.Prelude.{is_some, slice_get, option_map}
use Rattle.std.specs.List.{AllByRecursion, list_any}
use Rattle.std.specs.List.Sorted.{IsStrictlySortedBy}
use Rattle.std.specs.BTreeSet.{BTreeSet}
use Rattle.std.specs.Cmp.Lexicographic.{slice_cmp}
use Rattle.std.proofs.lemmas.Bool.{and_from, and_parts, cases_Bool, not_from_false, or_left, or_right, true≢false}
use Rattle.std.proofs.lemmas.Option.{same_Some}
use Rattle.std.specs.Map.Iter.{deref}
use Rattle.std.specs.declared.cmp.Ordering.TheVariants.{Less}
use Rattle.std.proofs.lemmas.Cmp.{nat_list_cmp_total}
use Rattle.std.proofs.lemmas.Map.Lookups.{btree_set_from_contains, exact_bytes}
use Rattle.ips_text.specs.Ancestry.{covers, same_path}
use Rattle.ips_text.proofs.Ancestry.{covers-self, covers_trans, same_path-true}
use Rattle.ips_outside.specs.Image.{Entry, Image}
use Rattle.ips_action.specs.Attrs.{is_same}
use Rattle.ips_conflict.specs.Index.{has_path}
use Rattle.ips_conflict.proofs.Kept.{is_same_self, tied}
use Rattle.ips_after.specs.Lists.{listed}
use Rattle.ips_after.specs.Request.{Over}
use Rattle.ips_due.specs.Due.{Due, IsOverOf, said}
use Rattle.ips_change.specs.declared.survey.said.Spoken.{Spoken}
use Rattle.ips_change.specs.survey.Said.{said_as}
use Rattle.ips_change.specs.survey.Tables.{AreSpoken, spoken_paths}
use Rattle.ips_due.specs.declared.outstanding.notes.Notes.{Notes}
use Rattle.ips_due.specs.declared.outstanding.verdict.Named.{Named}
use Rattle.ips_due.specs.declared.outstanding.verdict.Verdict.{Verdict}
use Rattle.ips_due.specs.declared.outstanding.verdict.Verdict.TheVariants as verdict
use Rattle.ips_due.specs.outstanding.Noted.{AreMarked, told}
use Rattle.ips_due.specs.outstanding.Outstanding.{AreOutstanding, over_of}
use Rattle.ips_due.specs.outstanding.Verdicts.{meant, named_paths, said_of}
use Rattle.ips_due.proofs.Same.{alike}
use Rattle.ips_due.proofs.outstanding.Gone.{one_path}
use Rattle.ips_change.specs.wanted.Named.{is_payload_of}
use Rattle.ips_outside.proofs.Looks.{none_or}

pub listed_keys : (ks : List (Vec ℕ Global)) (q : List ℕ) → listed (map (λ k. k.items) ks) q ≡ list_any (λ k. is_same q k.items) ks
listed_keys [] q = refl
listed_keys (k ∷ ks) q = (λ i. one_path k.items q i || listed_keys ks q i)

kept_in : (xs : List (List ℕ)) (q : List ℕ) → list_any (λ k. is_eq (slice_cmp nat_cmp q k)) xs ≡ listed xs q
kept_in [] q = refl
kept_in (k ∷ xs) q = (λ i. (tied q k ∙ sym (one_path k q)) i || kept_in xs q i)

-- two lists in order of which each lists what the other does are one
pub one_order : (xs ys : List (List ℕ)) → IsStrictlySortedBy (slice_cmp nat_cmp) xs → IsStrictlySortedBy (slice_cmp nat_cmp) ys → ((q : List ℕ) → listed xs q ≡ true → listed ys q ≡ true) → ((q : List ℕ) → listed ys q ≡ true → listed xs q ≡ true) → xs ≡ ys
one_order xs ys up_x up_y to from =
    let x_set : BTreeSet (List ℕ) = record { keys = xs } in
    let y_set : BTreeSet (List ℕ) = record { keys = ys } in
    btree_set_from_contains nat_list_cmp_total x_set y_set up_x up_y (λ q. kept_in xs q ∙ alike (listed xs q) (listed ys q) (to q, from q) ∙ sym (kept_in ys q)) exact_bytes

is_meant : (bytes : List ℕ → List ℕ) (due : Due) (v : Option Verdict) → is_some (meant bytes due v) ≡ is_some v
is_meant bytes due (Some v) = refl
is_meant bytes due None = refl

-- what the verdicts mean, by what is told of each path
meant_each : (bytes : List ℕ → List ℕ) (due : Due) (t : Image) (f : List ℕ → Option Verdict) (named : List Named) (paths : List (List ℕ)) → ((q : List ℕ) → meant bytes due (f q) ≡ said bytes is_payload_of due t q) → map (λ n. n.verdict) named ≡ map f paths
    → map (λ n. meant bytes due n.verdict) named ≡ map (said bytes is_payload_of due t) paths
meant_each bytes due t f [] [] is are = refl
meant_each bytes due t f [] (p ∷ paths) is are = cc
meant_each bytes due t f (n ∷ named) [] is are = cc
meant_each bytes due t f (n ∷ named) (p ∷ paths) is are =
    let one : n.verdict ≡ f p = cc in
    let rest : map (λ (x : Named). x.verdict) named ≡ map f paths = cc in
    (λ i. (ap (meant bytes due) one ∙ is p) i ∷ meant_each bytes due t f named paths is rest i)

module _ (bytes : List ℕ → List ℕ) (due : Due) (t : Image) (notes : Notes) (named : List Named) (marked : AreMarked notes) (is : (q : List ℕ) → meant bytes due (told notes q) ≡ said bytes is_payload_of due t q) (keys : named_paths named ≡ map (λ k. k.items) notes.keys.keys) where
  marks : (q : List ℕ) → listed (named_paths named) q ≡ has_path notes.keys q
  marks q = ap (λ (l : List (List ℕ)). listed l q) keys ∙ listed_keys notes.keys.keys q

  says : (q : List ℕ) → is_some (said bytes is_payload_of due t q) ≡ is_some (told notes q)
  says q = ap (λ (o : Option (Option Entry)). is_some o) (sym (is q)) ∙ is_meant bytes due (told notes q)

  pub outstanding_from : IsStrictlySortedBy (slice_cmp nat_cmp) (named_paths named) → map (λ n. n.verdict) named ≡ map (told notes) (named_paths named) → AreOutstanding bytes due t named
  outstanding_from order each = record {
    order = order;
    each = meant_each bytes due t (told notes) named (named_paths named) is each;
    keyed = λ q some. marks q ∙ (marked.keys q).1 (q, sym (says q) ∙ some, covers-self q);
    closed = λ p q up there.
        let w = (marked.keys q).0 (sym (marks q) ∙ there) in
        marks p ∙ (marked.keys p).1 (w.0, w.1, covers_trans p q w.0 (and_parts _ _ up).0 w.2);
    only = λ p there. let w = (marked.keys p).0 (sym (marks p) ∙ there) in (w.0, w.2, says w.0 ∙ w.1);
  }

-- so they say, with these paths as those that they name
pub over_from : (bytes : List ℕ → List ℕ) (due : Due) (t : Image) (named : List Named) → AreOutstanding bytes due t named → IsOverOf bytes is_payload_of due t (over_of bytes due t (named_paths named))
over_from bytes due t named out = record {
  at = λ q. refl;
  accounts = λ q. refl;
  keyed = out.keyed;
  closed = out.closed;
  only = out.only;
  by_bytes = out.order;
}

-- a key is found among the keys
pub key_there : (ks : List (Vec ℕ Global)) (n : ℕ) (k : Vec ℕ Global) → slice_get ks n ≡ Some k → list_any (λ j. is_same k.items j.items) ks ≡ true
key_there [] n k is = cc
key_there (j ∷ ks) zero k is =
    let one : j ≡ k = same_Some j k is in
    or_left (is_same k.items j.items) _ (ap (λ (x : Vec ℕ Global). is_same k.items x.items) one ∙ is_same_self k.items)
key_there (j ∷ ks) (suc n) k is = or_right (is_same k.items j.items) _ (key_there ks n k is)

-- the order of keys is that of their bytes
pub keys_order : (ks : List (Vec ℕ Global)) → IsStrictlySortedBy (λ (a b : Vec ℕ Global). slice_cmp nat_cmp a.items b.items) ks → IsStrictlySortedBy (slice_cmp nat_cmp) (map (λ k. k.items) ks)
unfolding IsStrictlySortedBy
keys_order [] up = tt
keys_order (k ∷ ks) up = (all_less k ks up.0, keys_order ks up.1)
  where
    all_less : (k : Vec ℕ Global) (ks : List (Vec ℕ Global)) → AllByRecursion (λ (y : Vec ℕ Global). slice_cmp nat_cmp k.items y.items ≡ Less) ks → AllByRecursion (λ (y : List ℕ). slice_cmp nat_cmp k.items y ≡ Less) (map (λ j. j.items) ks)
    all_less k [] all = tt
    all_less k (j ∷ ks) all = (all.0, all_less k ks all.1)

pub seen_keys : (ks : List (Bor (Vec ℕ Global))) → map (λ k. k.now.items) ks ≡ map (λ k. k.items) (map deref ks)
seen_keys [] = refl
seen_keys (k ∷ ks) = ap (λ (l : List (List ℕ)). k.now.items ∷ l) (seen_keys ks)

-- ---- what is lent of them

said_meant : (bytes : List ℕ → List ℕ) (due : Due) (v : Option Verdict) → option_map said_of v ≡ said_as (meant bytes due v)
said_meant bytes due None = refl
said_meant bytes due (Some (verdict.Account n)) = refl
said_meant bytes due (Some (verdict.Record n)) = refl
said_meant bytes due (Some verdict.Folder) = refl
said_meant bytes due (Some verdict.Gone) = refl

said_each : (bytes : List ℕ → List ℕ) (due : Due) (says : List ℕ → Option (Option Entry)) (named : List Named) (paths : List (List ℕ)) → map (λ n. meant bytes due n.verdict) named ≡ map says paths → map (λ n. option_map said_of n.verdict) named ≡ map (λ p. said_as (says p)) paths
said_each bytes due says [] [] are = refl
said_each bytes due says [] (p ∷ paths) are = cc
said_each bytes due says (n ∷ named) [] are = cc
said_each bytes due says (n ∷ named) (p ∷ paths) are =
    let one : meant bytes due n.verdict ≡ says p = cc in
    let rest : map (λ (x : Named). meant bytes due x.verdict) named ≡ map says paths = cc in
    (λ i. (said_meant bytes due n.verdict ∙ ap (λ (o : Option (Option Entry)). said_as o) one) i ∷ said_each bytes due says named paths rest i)

map_alike : {A B : Type 0} (f g : A → B) (xs : List A) → ((x : A) → f x ≡ g x) → map f xs ≡ map g xs
map_alike f g [] same = refl
map_alike f g (x ∷ xs) same = (λ i. same x i ∷ map_alike f g xs same i)

module _ (bytes : List ℕ → List ℕ) (due : Due) (t : Image) (o : Over) (named : List Named) (out : AreOutstanding bytes due t named) (is : IsOverOf bytes is_payload_of due t o) where
  to_keys : (q : List ℕ) → listed (named_paths named) q ≡ true → listed o.keys q ≡ true
  to_keys q there =
      let w = out.only q there in
      let key : listed o.keys w.0 ≡ true = is.keyed w.0 (ap (λ (s : Option (Option Entry)). is_some s) (is.at w.0) ∙ w.2) in
      elim (cases_Bool (same_path q w.0)) [
        | inl same ↦ ap (listed o.keys) (same_path-true q w.0 same) ∙ key
        | inr apart ↦ is.closed q w.0 (and_from (covers q w.0) (not (same_path q w.0)) w.1 (not_from_false (same_path q w.0) apart)) key
      ]

  from_keys : (q : List ℕ) → listed o.keys q ≡ true → listed (named_paths named) q ≡ true
  from_keys q there =
      let w = is.only q there in
      let key : listed (named_paths named) w.0 ≡ true = out.keyed w.0 (ap (λ (s : Option (Option Entry)). is_some s) (sym (is.at w.0)) ∙ w.2) in
      elim (cases_Bool (same_path q w.0)) [
        | inl same ↦ ap (listed (named_paths named)) (same_path-true q w.0 same) ∙ key
        | inr apart ↦ out.closed q w.0 (and_from (covers q w.0) (not (same_path q w.0)) w.1 (not_from_false (same_path q w.0) apart)) key
      ]

  same_keys : named_paths named ≡ o.keys
  same_keys = one_order (named_paths named) o.keys out.order is.by_bytes to_keys from_keys

  pub named_from : (spoken : List Spoken) → spoken_paths spoken ≡ named_paths named → map (λ s. s.said) spoken ≡ map (λ n. option_map said_of n.verdict) named → AreSpoken o spoken
  named_from spoken paths says = record {
    paths = paths ∙ same_keys;
    said = says ∙ said_each bytes due (said bytes is_payload_of due t) named (named_paths named) out.each ∙ ap (map (λ p. said_as (said bytes is_payload_of due t p))) same_keys
        ∙ map_alike (λ p. said_as (said bytes is_payload_of due t p)) (λ p. said_as (o.at p)) o.keys (λ p. ap (λ (s : Option (Option Entry)). said_as s) (sym (is.at p)));
    none_else = λ q apart. none_or (o.at q) (λ some. true≢false (sym (is.keyed q some) ∙ apart));
  }
