-- The actions of one key, among those of a group.
use Rattle.std.proofs.Common.{◌≡◌, ℕ, ◌<◌, true, List, get_or, Option, Some, None, sym, ap, subst, ◌∙◌}
use Rattle.std.specs.Prelude.{option_map, All, length}
use Rattle.std.specs.List.{Contains}
use Rattle.std.specs.Option.{option_eq}
use Rattle.std.proofs.lemmas.Option.{none-some, same_Some, slice_get_within}
use Rattle.std.proofs.lemmas.List.Elements.{Contains-get_or}
use Rattle.ips_action.specs.Attrs.{is_same}
use Rattle.ips_conflict.specs.declared.placed.Placed.{Placed}
use Rattle.ips_conflict.specs.declared.placed.Sort.{Sort}
use Rattle.ips_conflict.specs.declared.earliest.Test.{Test}
use Rattle.ips_conflict.specs.Key.{Key, key_of, sort_of, text_of}
use Rattle.ips_conflict.specs.Clash.{HasKey}
use Rattle.ips_conflict.specs.Verdict.{HasPlace}
use Rattle.ips_conflict.specs.Index.{IsGroup, has_text}
use Rattle.ips_conflict.specs.Search.{IsEarliest, MeetsTest, Passes}
use Rattle.ips_conflict.proofs.Places.{one_there}
use Rattle.ips_conflict.proofs.Kept.{is_same_self}
use Rattle.ips_conflict.proofs.Found.{has_place_there}
use Rattle.ips_action.proofs.KeyOrder.{same_true}

sort_by : (o : Option Sort) (p : Placed) (key : Key) → option_map (λ sort. let k : Key = record { sort = sort; text = text_of sort p } in k) o ≡ Some key → (o ≡ Some key.sort) × (text_of key.sort p ≡ key.text)
sort_by None p key e = absurd (none-some key e)
sort_by (Some s) p key e =
    let k : Key = record { sort = s; text = text_of s p } in
    let same : k ≡ key = same_Some k key e in
    let sorts : s ≡ key.sort = ap (λ (x : Key). x.sort) same in
    (ap (λ (x : Sort). Some x) sorts, ap (λ (x : Sort). text_of x p) (sym sorts) ∙ ap (λ (x : Key). x.text) same)

-- an action of the key has its sort, and stands in its group
pub key_sort : (p : Placed) (key : Key) → key_of p ≡ Some key → sort_of p.action.kind ≡ Some key.sort
key_sort p key e = (sort_by (sort_of p.action.kind) p key e).0

pub key_text_is : (p : Placed) (key : Key) → key_of p ≡ Some key → text_of key.sort p ≡ key.text
key_text_is p key e = (sort_by (sort_of p.action.kind) p key e).1

pub key_at : (p : Placed) (sort : Sort) → sort_of p.action.kind ≡ Some sort → key_of p ≡ Some (record { sort = sort; text = text_of sort p })
key_at p sort is = ap (λ (o : Option Sort). option_map (λ s. let k : Key = record { sort = s; text = text_of s p } in k) o) is

pub key_text : (p : Placed) (key : Key) → key_of p ≡ Some key → has_text p key.text ≡ true
key_text p key e = ap (λ (o : Option Key). option_eq is_same (option_map (λ k. k.text) o) (Some key.text)) e ∙ is_same_self key.text

pub key_from : (p : Placed) (sort : Sort) (text : List ℕ) → sort_of p.action.kind ≡ Some sort → has_text p text ≡ true → key_of p ≡ Some (record { sort = sort; text = text })
key_from p sort text is has =
    let key = key_at p sort is in
    let same : text_of sort p ≡ text = same_true (text_of sort p) text (sym (ap (λ (o : Option Key). option_eq is_same (option_map (λ k. k.text) o) (Some text)) key) ∙ has) in
    key ∙ ap (λ (t : List ℕ). let o : Option Key = Some (record { sort = sort; text = t }) in o) same

-- ---- tests among the actions of a key

-- an action of the key stands at the place, and passes the test
pub record Keyed (placed : List Placed) (key : Key) (test : Test) (j : ℕ) : Type 0 where
  pub p : Placed
  pub at : HasKey placed key j p
  pub passes : Passes placed test j p

module _ (placed : List Placed) (sort : Sort) (text : List ℕ) (members : List ℕ) (group : IsGroup placed text members) where
  to_keyed : (test : Test) (j : ℕ) → Contains members j × MeetsTest placed sort test j → Keyed placed (record { sort = sort; text = text }) test j
  to_keyed test j w =
      let g = (group j).0 w.0 in
      let m = w.1 in
      let one : g.0 ≡ m.p = one_there placed j g.0 m.p g.1 m.here in
      record { p = m.p; at = record { here = m.here; key_is = key_from m.p sort text m.of_sort (subst (λ (q : Placed). has_text q text ≡ true) one g.2) }; passes = m.passes }

  from_keyed : (test : Test) (j : ℕ) → Keyed placed (record { sort = sort; text = text }) test j → Contains members j × MeetsTest placed sort test j
  from_keyed test j k = (
    (group j).1 (k.p, k.at.here, key_text k.p (record { sort = sort; text = text }) k.at.key_is),
    record { p = k.p; here = k.at.here; of_sort = key_sort k.p (record { sort = sort; text = text }) k.at.key_is; passes = k.passes },
  )

  -- the earliest of a group is the earliest of the key
  pub keyed_earliest : (test : Test) (found : Option ℕ) → IsEarliest placed (λ j. Contains members j × MeetsTest placed sort test j) found → IsEarliest placed (Keyed placed (record { sort = sort; text = text }) test) found
  keyed_earliest test None none = λ j k. none j (from_keyed test j k)
  keyed_earliest test (Some i) h = (to_keyed test i h.0, λ j k. h.1 j (from_keyed test j k))

  pub members_within : All (λ j. j < length placed) members
  members_within k d lt = let g = (group (get_or members k d)).0 (Contains-get_or members k d lt) in slice_get_within placed (get_or members k d) g.0 g.1

pub keyed_place : (placed : List Placed) (key : Key) (test : Test) (j : ℕ) → Keyed placed key test j → HasPlace placed j
keyed_place placed key test j k = has_place_there placed j k.p key.sort k.at.here (key_sort k.p key k.at.key_is)
