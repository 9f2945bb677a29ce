use Rattle.std.proofs.Common.{◌≡◌, ◌∙◌, ℕ, ◌<◌, Bool, true, false, ap, List, Option, Some, None, subst, sym, length, get_or}
use Rattle.std.specs.Prelude.{◌↔◌}
use Rattle.std.specs.List.{All, Contains}
use Rattle.std.proofs.lemmas.Bool.{true≢false}
use Rattle.std.proofs.lemmas.List.Elements.{Contains-get_or}
use Rattle.ips_conflict.specs.declared.placed.Placed.{Placed}
use Rattle.ips_conflict.specs.declared.placed.Sort.TheVariants.{Path}
use Rattle.ips_conflict.specs.declared.earliest.Test.TheVariants.{Obstacle}
use Rattle.ips_conflict.specs.Clash.{path_key, has_legacy, is_held, is_held_by}
use Rattle.ips_conflict.specs.Index.{IsGroup}
use Rattle.ips_conflict.specs.Search.{IsEarliest, MeetsTest}
use Rattle.ips_conflict.proofs.Grouped.{Keyed, keyed_earliest, members_within}
use Rattle.ips_conflict.proofs.OfPaths.{none_obstacle, found_held, nothing_below, none_below, found_below, below_found}
use Rattle.ips_conflict.proofs.paths.first_obstacle.Goals as goal

-- what was found in the group, for the path
found : (placed : List Placed) (text members : List ℕ) → IsGroup placed text members → (o p : Option ℕ) → o ≡ p → IsEarliest placed (λ j. Contains members j × MeetsTest placed Path Obstacle j) o → IsEarliest placed (Keyed placed (path_key text) Obstacle) p
found placed text members group o p e h = keyed_earliest placed Path text members group Obstacle p (subst (IsEarliest placed (λ j. Contains members j × MeetsTest placed Path Obstacle j)) e h)

all_within : (places : List ℕ) (n : ℕ) → ((i : ℕ) → Contains places i ↔ (i < n)) → All (λ j. j < n) places
all_within places n all k d lt = (all (get_or places k d)).0 (Contains-get_or places k d lt)

pub earliest-requires : goal.earliest-requires
earliest-requires c = record { index = c.requires.index; members = members_within c.args.placed.now Path c.args.text.now c.args.members.now c.requires.group; test = tt }

pub returns-in_default : goal.returns-in_default
returns-in_default c = none_obstacle c.args.placed.now c.args.text.now (found c.args.placed.now c.args.text.now c.args.members.now c.requires.group c.in_ok-first.field-0 None c.in_default.is c.in_ok-first.ensures)

-- the image itself keeps something below the path, or doesn't
held_is : (placed : List Placed) (text : List ℕ) (legacy answer wanted : Bool) → legacy ≡ has_legacy placed → answer ≡ is_held_by legacy text → answer ≡ wanted → is_held placed text ≡ wanted
held_is placed text legacy answer wanted same is e = ap (λ (b : Bool). is_held_by b text) (sym same) ∙ sym is ∙ e

pub returns-then-is_held : goal.returns-then-is_held
returns-then-is_held c =
    let f = found c.args.placed.now c.args.text.now c.args.members.now c.requires.group c.in_ok-first.field-0 (Some c.in-Some.first) c.in-Some.is c.in_ok-first.ensures in
    let held = held_is c.args.placed.now c.args.text.now c.args.index.now.legacy c.is_held.result true c.requires.index.legacy c.is_held.ensures c.if-is_held.true in
    found_held c.args.placed.now c.args.text.now c.in-Some.first f held

pub returns-then-not-has_below : goal.returns-then-not-has_below
returns-then-not-has_below c =
    let free = held_is c.args.placed.now c.args.text.now c.args.index.now.legacy c.is_held.result false c.requires.index.legacy c.is_held.ensures c.if-is_held.false in
    nothing_below c.args.placed.now c.args.text.now free (λ below. true≢false (sym ((c.requires.index.above c.args.text.now).1 below) ∙ sym c.has_below.ensures ∙ c.if-not-has_below.true))

pub earliest-requires-2-clause-members : goal.earliest-requires-2-clause-members
earliest-requires-2-clause-members c =
    subst (All (λ j. j < length c.args.placed.now)) (sym c.deref.ensures.value) (all_within c.args.index.now.places.items (length c.args.placed.now) c.requires.index.places)

pub returns-in-Some-2 : goal.returns-in-Some-2
returns-in-Some-2 c =
    let f = found c.args.placed.now c.args.text.now c.args.members.now c.requires.group c.in_ok-first.field-0 (Some c.in-Some.first) c.in-Some.is c.in_ok-first.ensures in
    let free = held_is c.args.placed.now c.args.text.now c.args.index.now.legacy c.is_held.result false c.requires.index.legacy c.is_held.ensures c.if-is_held.false in
    let s = below_found c.args.placed.now c.args.text c.args.index.now.places.items c.requires.index.places c.deref.result.now c.in_ok-second.field-0 (Some c.in-Some-2.second) c.deref.ensures.value c.in-Some-2.is c.in_ok-second.ensures in
    found_below c.args.placed.now c.args.text.now c.in-Some.first c.in-Some-2.second f free s

pub returns-in-None : goal.returns-in-None
returns-in-None c =
    let free = held_is c.args.placed.now c.args.text.now c.args.index.now.legacy c.is_held.result false c.requires.index.legacy c.is_held.ensures c.if-is_held.false in
    none_below c.args.placed.now c.args.text.now free (below_found c.args.placed.now c.args.text c.args.index.now.places.items c.requires.index.places c.deref.result.now c.in_ok-second.field-0 None c.deref.ensures.value c.in-None.is c.in_ok-second.ensures)
