-- A turn of the grammar, under the conversion to data.
use Rattle.std.proofs.Common.{◌≡◌, ℕ, zero, suc, ◌-◌, ◌<◌, ◌≤◌, List, length, Option, Some, None, option_map, option_and_then, refl, ap, ◌∙◌}
use Rattle.json.specs.Token.{Token}
use Rattle.json.specs.Json as json
use Rattle.json.specs.Json.{Parse, parse_map, after_end_array, read_key, items_step, items, members}
use Rattle.json.proofs.Grammar.{items_end, items_more, members_end, members_no_key, members_more}
use Rattle.serde_json.specs.Data.{Data, array, object, no_items, item, Members, no_members, put}
use Rattle.serde_json.specs.Read.{of_json, of_items, of_members, converted}

abbrev or_this : {A : Type 0} → A → Option A → A
or_this a None = a
or_this a (Some b) = b

with_rest : {B : Type 0} (r s : List Token) (o : Option B) (b : B) → option_map {U = B × List Token} (λ x. (x, r)) o ≡ Some (b, s) → (r ≡ s) × (o ≡ Some b)
with_rest r s None b e = absurd cc
with_rest r s (Some x) b e = let same = ap (or_this (x, r)) e in (ap (λ p. p.1) same, ap (λ p. Some p.0) same)

-- what was converted had been read
pub was_read : {A B : Type 0} (f : A → Option B) (o : Option (A × List Token)) (b : B) (r : List Token) → converted f o ≡ Some (b, r) → (a : A) × (o ≡ Some (a, r)) × (f a ≡ Some b)
was_read f None b r e = absurd cc
was_read f (Some p) b r e = let both = with_rest p.1 r (f p.0) b e in (p.0, ap (λ s. Some (p.0, s)) both.0, both.1)

no_value : {B : Type 0} (r : List Token) (o : Option B) → option_map {U = B × List Token} (λ x. (x, r)) o ≡ None → o ≡ None
no_value r None e = refl
no_value r (Some x) e = absurd cc

mapped : {A B : Type 0} (g : A → B) (r : List Token) (o : Option A) → option_map (λ b. (b, r)) (option_map g o) ≡ parse_map g (option_map (λ a. (a, r)) o)
mapped g r None = refl
mapped g r (Some a) = refl

pub array_of : (o : Option (json.Items × List Token)) → converted of_json (parse_map json.array o) ≡ parse_map array (converted of_items o)
array_of None = refl
array_of (Some p) = mapped array p.1 (of_items p.0)

pub object_of : (o : Option (json.Members × List Token)) → converted of_json (parse_map json.object o) ≡ parse_map object (converted (λ js. of_members js no_members) o)
object_of None = refl
object_of (Some p) = mapped object p.1 (of_members p.0 no_members)

item_of : (j : json.Json) (d : Data) → of_json j ≡ Some d → (o : Option (json.Items × List Token)) → converted of_items (parse_map (json.item j) o) ≡ parse_map (item d) (converted of_items o)
item_of j d e None = refl
item_of j d e (Some p) = rw e (mapped (item d) p.1 (of_items p.0))

no_item_of : (j : json.Json) → of_json j ≡ None → (o : Option (json.Items × List Token)) → converted of_items (parse_map (json.item j) o) ≡ None
no_item_of j e None = refl
no_item_of j e (Some p) = rw e

member_of : (k : List ℕ) (j : json.Json) (d : Data) (ms : Members) → of_json j ≡ Some d → (o : Option (json.Members × List Token))
    → converted (λ js. of_members js ms) (parse_map (json.member k j) o) ≡ converted (λ js. of_members js (put k d ms)) o
member_of k j d ms e None = refl
member_of k j d ms e (Some p) = rw e

no_member_of : (k : List ℕ) (j : json.Json) (ms : Members) → of_json j ≡ None → (o : Option (json.Members × List Token)) → converted (λ js. of_members js ms) (parse_map (json.member k j) o) ≡ None
no_member_of k j ms e None = refl
no_member_of k j ms e (Some p) = rw e

module _ (p : Parse json.Json) where
  pub item_turn : (n : ℕ) (ts r : List Token) (d : Data) → 0 < n → after_end_array ts ≡ None → converted of_json (p ts) ≡ Some (d, r)
      → converted of_items (items p n ts) ≡ parse_map (item d) (converted of_items (items p (n - 1) r))
  item_turn n ts r d some going e = let j = was_read of_json (p ts) d r e in ap (converted of_items) (items_more p n ts r j.0 some going j.1) ∙ item_of j.0 d j.2 _

  bad_item : (more : Parse json.Items) (o : Option (json.Json × List Token)) → converted of_json o ≡ None → converted of_items (option_and_then (λ q. parse_map (json.item q.0) (more q.1)) o) ≡ None
  bad_item more None e = refl
  bad_item more (Some q) e = no_item_of q.0 (no_value q.1 (of_json q.0) e) (more q.1)

  pub item_bad : (n : ℕ) (ts : List Token) → after_end_array ts ≡ None → converted of_json (p ts) ≡ None → converted of_items (items p n ts) ≡ None
  unfolding items
  item_bad zero ts going e = refl
  item_bad (suc n) ts going e = ap (λ o. converted of_items (items_step p (items p n) ts o)) going ∙ bad_item (items p n) (p ts) e

  pub items_over : (n : ℕ) (ts r : List Token) → length ts ≤ n → after_end_array ts ≡ Some r → converted of_items (items p n ts) ≡ Some (no_items, r)
  items_over n ts r enough e = ap (converted of_items) (items_end p n ts r enough e)

  module _ (ms : Members) where
    pub member_turn : (n : ℕ) (k : List ℕ) (ts s r : List Token) (d : Data) → 0 < n → read_key ts ≡ Some (Some k, s) → converted of_json (p s) ≡ Some (d, r)
        → converted (λ js. of_members js ms) (members p n ts) ≡ converted (λ js. of_members js (put k d ms)) (members p (n - 1) r)
    member_turn n k ts s r d some key e =
        let j = was_read of_json (p s) d r e in
        ap (converted (λ js. of_members js ms)) (members_more p n k ts s r j.0 some key j.1) ∙ member_of k j.0 d ms j.2 _

    bad_member : (k : List ℕ) (more : Parse json.Members) (o : Option (json.Json × List Token)) → converted of_json o ≡ None
        → converted (λ js. of_members js ms) (option_and_then (λ q. parse_map (json.member k q.0) (more q.1)) o) ≡ None
    bad_member k more None e = refl
    bad_member k more (Some q) e = no_member_of k q.0 ms (no_value q.1 (of_json q.0) e) (more q.1)

    pub member_bad : (n : ℕ) (k : List ℕ) (ts s : List Token) → read_key ts ≡ Some (Some k, s) → converted of_json (p s) ≡ None → converted (λ js. of_members js ms) (members p n ts) ≡ None
    unfolding members
    member_bad zero k ts s key e = refl
    member_bad (suc n) k ts s key e = rw key (bad_member k (members p n) (p s) e)

    pub key_bad : (n : ℕ) (ts : List Token) → read_key ts ≡ None → converted (λ js. of_members js ms) (members p n ts) ≡ None
    key_bad n ts e = ap (converted (λ js. of_members js ms)) (members_no_key p n ts e)

    pub members_over : (n : ℕ) (ts r : List Token) → length ts ≤ n → read_key ts ≡ Some (None, r) → converted (λ js. of_members js ms) (members p n ts) ≡ Some (ms, r)
    members_over n ts r enough e = ap (converted (λ js. of_members js ms)) (members_end p n ts r enough e)
