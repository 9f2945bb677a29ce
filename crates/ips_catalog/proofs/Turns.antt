-- The items of an array and the members of an object, one at a time.
use Rattle.std.proofs.Common.{◌≡◌, ℕ, ◌-◌, ◌<◌, ◌≤◌, List, [], ◌∷◌, ◌++◌, length, Option, Some, None, option_map, refl, ap, ◌∙◌, arith}
use Rattle.json.specs.Token.{Token, begin_array, begin_object}
use Rattle.json.specs.Json as json
use Rattle.json.specs.Json.{parse_map, after_end_array, read_key}
use Rattle.json.proofs.Grammar.{value-begin_array, value-begin_object, skip_value-shorter, read_key-shorter}
use Rattle.serde_json.specs.Data.{Data, array, object, Items, no_items, item, Members, no_members, put}
use Rattle.serde_json.specs.Read.{of_json, of_items, of_members, converted}
use Rattle.serde_json.specs.View.{items_of}
use Rattle.ips_catalog.specs.Outline.{value_at, items_at, members_at}
use Rattle.ips_catalog.proofs.Conversions.{was_read, array_of, object_of, item_turn, item_bad, items_over, member_turn, member_bad, key_bad, members_over}

-- a value takes at least one token
pub value_shorter : (depth : ℕ) (ts r : List Token) (d : Data) → value_at depth ts ≡ Some (d, r) → length r < length ts
value_shorter depth ts r d e =
    let j = was_read of_json (json.value depth ts) d r e in
    skip_value-shorter depth ts r (ap (option_map (λ (p : json.Json × List Token). p.1)) j.1)

-- ---- an array

abbrev front : List Data → Items → Items
front [] rest = rest
front (d ∷ ds) rest = item d (front ds rest)

front_alone : (ds : List Data) → front ds no_items ≡ items_of ds
front_alone [] = refl
front_alone (d ∷ ds) = ap (item d) (front_alone ds)

front_more : (ds : List Data) (d : Data) (rest : Items) → front ds (item d rest) ≡ front (ds ++ d ∷ []) rest
front_more [] d rest = refl
front_more (e ∷ ds) d rest = ap (item e) (front_more ds d rest)

abbrev behind : List Data → Option (Items × List Token) → Option (Items × List Token)
behind ds r = parse_map (front ds) r

behind_nothing : (r : Option (Items × List Token)) → r ≡ behind [] r
behind_nothing None = refl
behind_nothing (Some p) = refl

behind_one_more : (ds : List Data) (d : Data) (r : Option (Items × List Token)) → behind ds (parse_map (item d) r) ≡ behind (ds ++ d ∷ []) r
behind_one_more ds d None = refl
behind_one_more ds d (Some p) = ap (λ (is : Items). Some (is, p.1)) (front_more ds d p.0)

-- these values were read of the items of an array
pub record ItemsRead (depth : ℕ) (all left : List Token) (ds : List Data) : Type 0 where
  pub turns : ℕ
  pub enough : length left ≤ turns
  pub same : items_at depth all ≡ behind ds (converted of_items (json.items (json.value depth) turns left))
  pub fewer : length left ≤ length all

pub items_first : (depth : ℕ) (all : List Token) → ItemsRead depth all all []
items_first depth all = record { turns = length all; enough = omega arith; same = behind_nothing (items_at depth all); fewer = omega arith }

pub items_next : (depth : ℕ) (all left r : List Token) (ds : List Data) (d : Data) → ItemsRead depth all left ds → after_end_array left ≡ None → value_at depth left ≡ Some (d, r) → ItemsRead depth all r (ds ++ d ∷ [])
items_next depth all left r ds d read going e =
    let less = value_shorter depth left r d e in
    record {
      turns = read.turns - 1;
      enough = omega (arith, read.enough);
      same = read.same ∙ ap (behind ds) (item_turn (json.value depth) read.turns left r d (omega (arith, read.enough)) going e) ∙ behind_one_more ds d _;
      fewer = omega (arith, read.fewer);
    }

pub items_refused : (depth : ℕ) (all left : List Token) (ds : List Data) → ItemsRead depth all left ds → after_end_array left ≡ None → value_at depth left ≡ None → items_at depth all ≡ None
items_refused depth all left ds read going e = read.same ∙ ap (behind ds) (item_bad (json.value depth) read.turns left going e)

pub items_end : (depth : ℕ) (all left r : List Token) (ds : List Data) → ItemsRead depth all left ds → after_end_array left ≡ Some r → items_at depth all ≡ Some (items_of ds, r)
items_end depth all left r ds read e =
    read.same ∙ ap (behind ds) (items_over (json.value depth) read.turns left r read.enough e) ∙ ap (λ (is : Items). Some (is, r)) (front_alone ds)

pub array_read : (depth : ℕ) (ts r : List Token) (is : Items) → 0 < depth → items_at (depth - 1) ts ≡ Some (is, r) → value_at depth (begin_array ∷ ts) ≡ Some (array is, r)
array_read depth ts r is some e = ap (converted of_json) (value-begin_array depth ts some) ∙ array_of (json.items (json.value (depth - 1)) (length ts) ts) ∙ ap (parse_map array) e

pub array_refused : (depth : ℕ) (ts : List Token) → 0 < depth → items_at (depth - 1) ts ≡ None → value_at depth (begin_array ∷ ts) ≡ None
array_refused depth ts some e = ap (converted of_json) (value-begin_array depth ts some) ∙ array_of (json.items (json.value (depth - 1)) (length ts) ts) ∙ ap (parse_map array) e

-- ---- an object

-- these members were read of an object
pub record MembersRead (depth : ℕ) (all left : List Token) (ms : Members) : Type 0 where
  pub turns : ℕ
  pub enough : length left ≤ turns
  pub same : members_at depth all ≡ converted (λ (js : json.Members). of_members js ms) (json.members (json.value depth) turns left)
  pub fewer : length left ≤ length all

pub members_first : (depth : ℕ) (all : List Token) → MembersRead depth all all no_members
members_first depth all = record { turns = length all; enough = omega arith; same = refl; fewer = omega arith }

pub members_next : (depth : ℕ) (all left s r : List Token) (ms : Members) (k : List ℕ) (d : Data) → MembersRead depth all left ms → read_key left ≡ Some (Some k, s) → value_at depth s ≡ Some (d, r) → MembersRead depth all r (put k d ms)
members_next depth all left s r ms k d read key e =
    let less = read_key-shorter left (Some k) s key in
    let lesser = value_shorter depth s r d e in
    record {
      turns = read.turns - 1;
      enough = omega (arith, read.enough);
      same = read.same ∙ member_turn (json.value depth) ms read.turns k left s r d (omega (arith, read.enough)) key e;
      fewer = omega (arith, read.fewer);
    }

pub members_smaller : (depth : ℕ) (left s r : List Token) (k : List ℕ) (d : Data) → read_key left ≡ Some (Some k, s) → value_at depth s ≡ Some (d, r) → length r < length left
members_smaller depth left s r k d key e =
    let less = read_key-shorter left (Some k) s key in
    let lesser = value_shorter depth s r d e in omega arith

pub key_fails : (depth : ℕ) (all left : List Token) (ms : Members) → MembersRead depth all left ms → read_key left ≡ None → members_at depth all ≡ None
key_fails depth all left ms read e = read.same ∙ key_bad (json.value depth) ms read.turns left e

pub member_fails : (depth : ℕ) (all left s : List Token) (ms : Members) (k : List ℕ) → MembersRead depth all left ms → read_key left ≡ Some (Some k, s) → value_at depth s ≡ None → members_at depth all ≡ None
member_fails depth all left s ms k read key e = read.same ∙ member_bad (json.value depth) ms read.turns k left s key e

pub members_end : (depth : ℕ) (all left r : List Token) (ms : Members) → MembersRead depth all left ms → read_key left ≡ Some (None, r) → members_at depth all ≡ Some (ms, r)
members_end depth all left r ms read e = read.same ∙ members_over (json.value depth) ms read.turns left r read.enough e

pub object_read : (depth : ℕ) (ts r : List Token) (ms : Members) → 0 < depth → members_at (depth - 1) ts ≡ Some (ms, r) → value_at depth (begin_object ∷ ts) ≡ Some (object ms, r)
object_read depth ts r ms some e = ap (converted of_json) (value-begin_object depth ts some) ∙ object_of (json.members (json.value (depth - 1)) (length ts) ts) ∙ ap (parse_map object) e

pub object_refused : (depth : ℕ) (ts : List Token) → 0 < depth → members_at (depth - 1) ts ≡ None → value_at depth (begin_object ∷ ts) ≡ None
object_refused depth ts some e = ap (converted of_json) (value-begin_object depth ts some) ∙ object_of (json.members (json.value (depth - 1)) (length ts) ts) ∙ ap (parse_map object) e
