use Rattle.std.specs.Prelude.{◌≡◌, ℕ, List, Option, Some, None}
use Rattle.std.proofs.Common.{refl, sym, subst}
use Rattle.std.proofs.lemmas.Option.{slice_get_within}
use Rattle.std.specs.List.{Contains}
use Rattle.ips_conflict.specs.declared.placed.Placed.{Placed}
use Rattle.ips_conflict.specs.declared.placed.Sort.{Sort}
use Rattle.ips_conflict.specs.declared.clashing.Rule.{Rule}
use Rattle.ips_conflict.specs.declared.clashing.Rule.TheVariants as rule
use Rattle.ips_conflict.specs.declared.earliest.Test.{Test}
use Rattle.ips_conflict.specs.declared.earliest.Test.TheVariants.{After, Against}
use Rattle.ips_conflict.specs.Key.{Key}
use Rattle.ips_conflict.specs.Index.{IsGroup}
use Rattle.ips_conflict.specs.Search.{IsEarliest, IsTest, MeetsTest, domain_of}
use Rattle.ips_conflict.proofs.Grouped.{Keyed, keyed_earliest, keyed_place, members_within}
use Rattle.ips_conflict.proofs.FirstPair.{none_in_domain, found_first, none_after, found_next, none_left}
use Rattle.ips_conflict.proofs.pairs.first_pair.Goals as goal

-- no place is named by where a rule is looked for
is_test : (placed : List Placed) (r : Rule) → IsTest placed (domain_of r)
is_test placed rule.Mediator = tt
is_test placed rule.Kinds = tt
is_test placed rule.Attributes = tt
is_test placed rule.Deliverers = tt
is_test placed rule.Below = tt
is_test placed rule.Target = tt

abbrev key : Sort → List ℕ → Key
key sort text = record { sort = sort; text = text }

-- what was found in the group, for the key
found : (placed : List Placed) (sort : Sort) (text members : List ℕ) → IsGroup placed text members → (t u : Test) → t ≡ u → (o p : Option ℕ) → o ≡ p
    → IsEarliest placed (λ j. Contains members j × MeetsTest placed sort t j) o → IsEarliest placed (Keyed placed (key sort text) u) p
found placed sort text members group t u e o p f h =
    let at : IsEarliest placed (λ j. Contains members j × MeetsTest placed sort t j) p = subst (IsEarliest placed (λ j. Contains members j × MeetsTest placed sort t j)) f h in
    subst (λ (v : Test). IsEarliest placed (Keyed placed (key sort text) v) p) e (keyed_earliest placed sort text members group t p at)

pub earliest-requires : goal.earliest-requires
earliest-requires c = record {
  index = c.requires.index;
  members = members_within c.args.placed.now c.args.sort c.args.text.now c.args.members.now c.requires.group;
  test = subst (IsTest c.args.placed.now) (sym c.domain.ensures) (is_test c.args.placed.now c.args.rule);
}

pub earliest-requires-2 : goal.earliest-requires-2
earliest-requires-2 c =
    let f = found c.args.placed.now c.args.sort c.args.text.now c.args.members.now c.requires.group c.domain.result (domain_of c.args.rule) c.domain.ensures c.in_ok-first.field-0 (Some c.in-Some.first) c.in-Some.is c.in_ok-first.ensures in
    record {
      index = c.requires.index;
      members = members_within c.args.placed.now c.args.sort c.args.text.now c.args.members.now c.requires.group;
      test = keyed_place c.args.placed.now (key c.args.sort c.args.text.now) (domain_of c.args.rule) c.in-Some.first f.0;
    }

pub earliest-requires-3 : goal.earliest-requires-3
earliest-requires-3 c =
    let f = found c.args.placed.now c.args.sort c.args.text.now c.args.members.now c.requires.group c.domain.result (domain_of c.args.rule) c.domain.ensures c.in_ok-first.field-0 (Some c.in-Some.first) c.in-Some.is c.in_ok-first.ensures in
    record {
      index = c.requires.index;
      members = members_within c.args.placed.now c.args.sort c.args.text.now c.args.members.now c.requires.group;
      test = slice_get_within c.args.placed.now c.in-Some.first f.0.p f.0.at.here;
    }

pub earliest-requires-4 : goal.earliest-requires-4
earliest-requires-4 c =
    let a = found c.args.placed.now c.args.sort c.args.text.now c.args.members.now c.requires.group (After c.in-Some.first) (After c.in-Some.first) refl c.in_ok-next.field-0 (Some c.in-Some-3.next) c.in-Some-3.is c.in_ok-next.ensures in
    record {
      index = c.requires.index;
      members = members_within c.args.placed.now c.args.sort c.args.text.now c.args.members.now c.requires.group;
      test = keyed_place c.args.placed.now (key c.args.sort c.args.text.now) (After c.in-Some.first) c.in-Some-3.next a.0;
    }

pub returns-in_default : goal.returns-in_default
returns-in_default c =
    none_in_domain c.args.placed.now (key c.args.sort c.args.text.now) c.args.rule c.requires.pair_rule
    (found c.args.placed.now c.args.sort c.args.text.now c.args.members.now c.requires.group c.domain.result (domain_of c.args.rule) c.domain.ensures c.in_ok-first.field-0 None c.in_default.is c.in_ok-first.ensures)

pub returns-in-Some-2 : goal.returns-in-Some-2
returns-in-Some-2 c =
    let f = found c.args.placed.now c.args.sort c.args.text.now c.args.members.now c.requires.group c.domain.result (domain_of c.args.rule) c.domain.ensures c.in_ok-first.field-0 (Some c.in-Some.first) c.in-Some.is c.in_ok-first.ensures in
    let s = found c.args.placed.now c.args.sort c.args.text.now c.args.members.now c.requires.group (Against c.in-Some.first c.args.rule) (Against c.in-Some.first c.args.rule) refl c.in_ok-second.field-0 (Some c.in-Some-2.second) c.in-Some-2.is
    c.in_ok-second.ensures in
    found_first c.args.placed.now (key c.args.sort c.args.text.now) c.args.rule c.requires.pair_rule c.in-Some.first f c.in-Some-2.second s

pub returns-in_default-3 : goal.returns-in_default-3
returns-in_default-3 c =
    let f = found c.args.placed.now c.args.sort c.args.text.now c.args.members.now c.requires.group c.domain.result (domain_of c.args.rule) c.domain.ensures c.in_ok-first.field-0 (Some c.in-Some.first) c.in-Some.is c.in_ok-first.ensures in
    let n = found c.args.placed.now c.args.sort c.args.text.now c.args.members.now c.requires.group (Against c.in-Some.first c.args.rule) (Against c.in-Some.first c.args.rule) refl c.in_ok-second.field-0 None c.in_default-2.is c.in_ok-second.ensures in
    let a = found c.args.placed.now c.args.sort c.args.text.now c.args.members.now c.requires.group (After c.in-Some.first) (After c.in-Some.first) refl c.in_ok-next.field-0 None c.in_default-3.is c.in_ok-next.ensures in
    none_after c.args.placed.now (key c.args.sort c.args.text.now) c.args.rule c.requires.pair_rule c.in-Some.first f n a

pub returns-in-Some-4 : goal.returns-in-Some-4
returns-in-Some-4 c =
    let f = found c.args.placed.now c.args.sort c.args.text.now c.args.members.now c.requires.group c.domain.result (domain_of c.args.rule) c.domain.ensures c.in_ok-first.field-0 (Some c.in-Some.first) c.in-Some.is c.in_ok-first.ensures in
    let n = found c.args.placed.now c.args.sort c.args.text.now c.args.members.now c.requires.group (Against c.in-Some.first c.args.rule) (Against c.in-Some.first c.args.rule) refl c.in_ok-second.field-0 None c.in_default-2.is c.in_ok-second.ensures in
    let a = found c.args.placed.now c.args.sort c.args.text.now c.args.members.now c.requires.group (After c.in-Some.first) (After c.in-Some.first) refl c.in_ok-next.field-0 (Some c.in-Some-3.next) c.in-Some-3.is c.in_ok-next.ensures in
    let s = found c.args.placed.now c.args.sort c.args.text.now c.args.members.now c.requires.group (Against c.in-Some-3.next c.args.rule) (Against c.in-Some-3.next c.args.rule) refl c.in_ok-second-2.field-0 (Some c.in-Some-4.second) c.in-Some-4.is
    c.in_ok-second-2.ensures in
    found_next c.args.placed.now (key c.args.sort c.args.text.now) c.args.rule c.requires.pair_rule c.in-Some.first f n c.in-Some-3.next a c.in-Some-4.second s

pub returns-in-None : goal.returns-in-None
returns-in-None c =
    let f = found c.args.placed.now c.args.sort c.args.text.now c.args.members.now c.requires.group c.domain.result (domain_of c.args.rule) c.domain.ensures c.in_ok-first.field-0 (Some c.in-Some.first) c.in-Some.is c.in_ok-first.ensures in
    let n = found c.args.placed.now c.args.sort c.args.text.now c.args.members.now c.requires.group (Against c.in-Some.first c.args.rule) (Against c.in-Some.first c.args.rule) refl c.in_ok-second.field-0 None c.in_default-2.is c.in_ok-second.ensures in
    let a = found c.args.placed.now c.args.sort c.args.text.now c.args.members.now c.requires.group (After c.in-Some.first) (After c.in-Some.first) refl c.in_ok-next.field-0 (Some c.in-Some-3.next) c.in-Some-3.is c.in_ok-next.ensures in
    let m = found c.args.placed.now c.args.sort c.args.text.now c.args.members.now c.requires.group (Against c.in-Some-3.next c.args.rule) (Against c.in-Some-3.next c.args.rule) refl c.in_ok-second-2.field-0 None c.in-None.is c.in_ok-second-2.ensures in
    none_left c.args.placed.now (key c.args.sort c.args.text.now) c.args.rule c.requires.pair_rule c.in-Some.first f n c.in-Some-3.next a m c.requires.before
