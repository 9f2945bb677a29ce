-- The first clash is told in one way.
use Rattle.std.proofs.Common.{◌≡◌, ℕ, List, Option, Some, None, refl, ap}
use Rattle.std.specs.Cmp.{IsTotalOrder, on_total, then_total}
use Rattle.std.specs.Cmp.Lexicographic.{options_total, slice_cmp}
use Rattle.std.specs.Option.{option_cmp}
use Rattle.std.specs.Ordering.{nat_cmp, ordering_then}
use Rattle.std.specs.declared.cmp.Ordering.TheVariants.{Equal}
use Rattle.std.proofs.lemmas.Cmp.{nat_cmp_total}
use Rattle.ips_text.proofs.Orders.{number_tie}
use Rattle.ips_action.proofs.KeyOrder.{both_equal, equal_is}
use Rattle.ips_conflict.specs.declared.placed.Placed.{Placed}
use Rattle.ips_conflict.specs.Key.{sort_rank}
use Rattle.ips_conflict.specs.Order.{place_cmp}
use Rattle.ips_conflict.specs.Verdict.{rule_rank}
use Rattle.ips_conflict.specs.Clash.{Conflict, IsFirst, conflict_cmp, key_cmp, name_at, pair_cmp, told}
use Rattle.ips_conflict.proofs.FirstOver.{key_total, same_rule}
use Rattle.ips_conflict.proofs.FirstPair.{place_tie}
use Rattle.ips_conflict.proofs.Ordered.{place_total}
use Rattle.ips_laws.proofs.plan_laws.Ties.{tie}

pair_total : (placed : List Placed) → IsTotalOrder (pair_cmp placed)
pair_total placed = then_total (on_total (λ (c : Conflict). c.first) (place_total placed)) (on_total (λ (c : Conflict). c.second) (options_total (place_total placed)))

conflict_total : (placed : List Placed) → IsTotalOrder (conflict_cmp placed)
conflict_total placed = then_total (then_total (on_total (λ (c : Conflict). c.key) key_total) (on_total (λ (c : Conflict). rule_rank c.rule) nat_cmp_total)) (pair_total placed)

second_one : (placed : List Placed) (o p : Option ℕ) → option_cmp (place_cmp placed) o p ≡ Equal → o ≡ p
second_one placed None None e = refl
second_one placed None (Some j) e = cc
second_one placed (Some i) None e = cc
second_one placed (Some i) (Some j) e = ap (λ (n : ℕ). Some n) (place_tie placed i j e)

told_one : (placed : List Placed) (c d : Conflict) → conflict_cmp placed c d ≡ Equal → told placed c ≡ told placed d
told_one placed c d e =
    let whole = both_equal (ordering_then (key_cmp c.key d.key) (nat_cmp (rule_rank c.rule) (rule_rank d.rule))) (pair_cmp placed c d) e in
    let front = both_equal (key_cmp c.key d.key) (nat_cmp (rule_rank c.rule) (rule_rank d.rule)) whole.0 in
    let key = both_equal (slice_cmp nat_cmp c.key.text d.key.text) (nat_cmp (sort_rank c.key.sort) (sort_rank d.key.sort)) front.0 in
    let pair = both_equal (place_cmp placed c.first d.first) (option_cmp (place_cmp placed) c.second d.second) whole.1 in
    let text : c.key.text ≡ d.key.text = equal_is c.key.text d.key.text key.0 in
    let rule : c.rule ≡ d.rule = same_rule c.rule d.rule (number_tie (rule_rank c.rule) (rule_rank d.rule) front.1) in
    let first : c.first ≡ d.first = place_tie placed c.first d.first pair.0 in
    let second : c.second ≡ d.second = second_one placed c.second d.second pair.1 in
    λ i. record { key = text i; first = name_at placed (Some (first i)); second = name_at placed (second i); rule = rule i }

pub first_one : (placed : List Placed) (c d : Conflict) → IsFirst placed c → IsFirst placed d → told placed c ≡ told placed d
first_one placed c d h k = told_one placed c d (tie (conflict_cmp placed) (conflict_total placed) c d (h.first d k.conflict) (k.first c h.conflict))
