-- One rule after the other, and each by marks.
use Rattle.std.proofs.Common.{◌≡◌, ℕ, zero, suc, ◌+◌, ◌<◌, ◌≤◌, Bool, true, false, cond, ◌&&◌, List, [], ◌∷◌, ◌++◌, map, drop, length, get_or, Option, Some, None, refl, sym, ap, ap₂, subst, ◌∙◌, append_assoc, arith}
use Rattle.std.specs.Prelude.{option_and_then}
use Rattle.std.specs.List.{flat_map, list_all, AllByRecursion}
use Rattle.std.specs.Option.{option_to_list}
use Rattle.std.proofs.lemmas.List.{drop_more}
use Rattle.std.proofs.lemmas.Simd.{map-map}
use Rattle.ips_action.specs.declared.kind.ActionKind.{ActionKind}
use Rattle.ips_rule.specs.declared.line.RuleLine.{RuleLine}
use Rattle.ips_rule.specs.declared.selector.Selector.{Selector}
use Rattle.ips_rule.specs.declared.selector.Selector.TheVariants.{Kind, Criterion}
use Rattle.ips_rule.specs.Rules.{Rule}
use Rattle.ips_transform.specs.declared.matching.Marked.{Marked}
use Rattle.ips_transform.specs.Transformed.{HasPatterns, ActionParts, asks_for, has_match, holds, applies, changed, after_rule, transformed}
use Rattle.ips_transform.specs.Marking.{marked_by_kind, mark, marks, changed_where}
use Rattle.ips_transform.specs.Output.{left_by, left_by_one, rules_of}

-- ---- marks

and_true : (a : Bool) → a ≡ (a && true)
and_true true = refl
and_true false = refl

and_apart : (a b c : Bool) → ((a && b) && c) ≡ (a && (b && c))
and_apart true b c = refl
and_apart false b c = refl

-- what the marks say, and of which parts
pub marks_applies : (selectors : List Selector) (m : Marked) → (marks selectors m).applies ≡ (m.applies && list_all (holds m.parts.pairs) selectors)
marks_applies [] m = and_true m.applies
marks_applies (Kind named ∷ selectors) m = marks_applies selectors m
marks_applies (Criterion key pattern ∷ selectors) m =
    marks_applies selectors (mark (Criterion key pattern) m)
    ∙ and_apart m.applies (has_match key pattern m.parts.pairs) (list_all (holds m.parts.pairs) selectors)

pub marks_parts : (selectors : List Selector) (m : Marked) → (marks selectors m).parts ≡ m.parts
marks_parts [] m = refl
marks_parts (Kind named ∷ selectors) m = marks_parts selectors m
marks_parts (Criterion key pattern ∷ selectors) m = marks_parts selectors (mark (Criterion key pattern) m)

-- what one rule leaves
left_when : (rule : Rule) (parts : ActionParts) (b : Bool) → cond b (option_to_list (changed rule.operation parts)) (parts ∷ []) ≡ option_to_list (cond b (changed rule.operation parts) (Some parts))
left_when rule parts true = refl
left_when rule parts false = refl

pub one_left : (rule : Rule) (parts : ActionParts) → changed_where rule.operation (marks rule.selectors (marked_by_kind rule.selectors parts)) ≡ left_by_one rule parts
one_left rule parts =
    let start : Marked = marked_by_kind rule.selectors parts in
    let leaves : Bool → ActionParts → List ActionParts = λ b p. cond b (option_to_list (changed rule.operation p)) (p ∷ []) in
    ap₂ leaves (marks_applies rule.selectors start) (marks_parts rule.selectors start) ∙ left_when rule parts (applies rule parts)

pub all_left : (rule : Rule) (lines : List ActionParts) → flat_map (changed_where rule.operation) (map (λ p. marks rule.selectors (marked_by_kind rule.selectors p)) lines) ≡ flat_map (left_by_one rule) lines
all_left rule [] = refl
all_left rule (parts ∷ lines) = ap₂ ◌++◌ (one_left rule parts) (all_left rule lines)

pub rule_left : (rule : Rule) (selectors : List Selector) (lines : List ActionParts) (marked : List Marked) → selectors ≡ rule.selectors → marked ≡ map (λ p. marks selectors (marked_by_kind selectors p)) lines
    → flat_map (changed_where rule.operation) marked ≡ flat_map (left_by_one rule) lines
rule_left rule selectors lines marked e f =
    ap (flat_map (changed_where rule.operation)) (f ∙ ap (λ (s : List Selector). map (λ p. marks s (marked_by_kind s p)) lines) e) ∙ all_left rule lines

pub kind_marks : (kind : ActionKind) (lines : List Marked) → lines ≡ map (mark (Kind kind)) lines
kind_marks kind [] = refl
kind_marks kind (m ∷ lines) = ap (λ (l : List Marked). m ∷ l) (kind_marks kind lines)

-- ---- one rule more

one_more : (rules : List Rule) (o : Option ActionParts) (X Y : List ActionParts) → X ≡ flat_map (left_by rules) Y → option_to_list (option_and_then (transformed rules) o) ++ X ≡ flat_map (left_by rules) (option_to_list o ++ Y)
one_more rules None X Y e = e
one_more rules (Some parts) X Y e = ap (λ (l : List ActionParts). left_by rules parts ++ l) e

pub rule_more : (rule : Rule) (rules : List Rule) (lines : List ActionParts) → flat_map (left_by (rule ∷ rules)) lines ≡ flat_map (left_by rules) (flat_map (left_by_one rule) lines)
rule_more rule rules [] = refl
rule_more rule rules (parts ∷ lines) = one_more rules (after_rule rule parts) (flat_map (left_by (rule ∷ rules)) lines) (flat_map (left_by_one rule) lines) (rule_more rule rules lines)

pub no_rule : (lines : List ActionParts) → flat_map (left_by []) lines ≡ lines
no_rule [] = refl
no_rule (parts ∷ lines) = ap (λ (l : List ActionParts). parts ∷ l) (no_rule lines)

-- ---- members of lists

pub all_at : {X : Type 0} (P : X → Type 0) (xs : List X) (k : ℕ) (d : X) → AllByRecursion P xs → k < length xs → P (get_or xs k d)
all_at P [] k d h lt = absurd (omega arith)
all_at P (x ∷ xs) zero d h lt = h.0
all_at P (x ∷ xs) (suc k) d h lt = all_at P xs k d h.1 (omega arith)

drop_end : {X : Type 0} (xs : List X) (i : ℕ) → length xs ≤ i → drop i xs ≡ []
drop_end [] zero le = refl
drop_end [] (suc i) le = refl
drop_end (x ∷ xs) zero le = absurd (omega arith)
drop_end (x ∷ xs) (suc i) le = drop_end xs i (omega arith)

-- ---- selectors, one after the other

pub select_begin : (selectors : List Selector) (lines : List ActionParts) (marked : List Marked) → marked ≡ map (marked_by_kind selectors) lines → map (marks selectors) marked ≡ map (λ p. marks selectors (marked_by_kind selectors p)) lines
select_begin selectors lines marked e = ap (map (marks selectors)) e ∙ map-map (marks selectors) (marked_by_kind selectors) lines

pub select_more : (selectors : List Selector) (i : ℕ) (s : Selector) (marked new total : List Marked) → i < length selectors → s ≡ get_or selectors i s → new ≡ map (mark s) marked
    → map (marks (drop i selectors)) marked ≡ total → map (marks (drop (i + 1) selectors)) new ≡ total
select_more selectors i s marked new total lt e is before =
    let rest : drop i selectors ≡ s ∷ drop (i + 1) selectors = drop_more selectors i s lt ∙ ap (λ (x : Selector). x ∷ drop (i + 1) selectors) (sym e) in
    ap (map (marks (drop (i + 1) selectors))) is
    ∙ map-map (marks (drop (i + 1) selectors)) (mark s) marked
    ∙ ap (λ (l : List Selector). map (marks l) marked) (sym rest)
    ∙ before

marks_none : (marked : List Marked) → map (marks []) marked ≡ marked
marks_none [] = refl
marks_none (m ∷ marked) = ap (λ (l : List Marked). m ∷ l) (marks_none marked)

pub select_end : (selectors : List Selector) (i : ℕ) (marked total : List Marked) → length selectors ≤ i → map (marks (drop i selectors)) marked ≡ total → marked ≡ total
select_end selectors i marked total le before =
    sym (marks_none marked) ∙ ap (λ (l : List Selector). map (marks l) marked) (sym (drop_end selectors i le)) ∙ before

-- ---- rules, one after the other

pub rules_next : (rules : List RuleLine) (i : ℕ) (line : RuleLine) (lines new total : List ActionParts) → i < length rules → line ≡ get_or rules i line → new ≡ flat_map (left_by_one line.rule) lines
    → flat_map (left_by (rules_of (drop i rules))) lines ≡ total → flat_map (left_by (rules_of (drop (i + 1) rules))) new ≡ total
rules_next rules i line lines new total lt e is before =
    let rest : drop i rules ≡ line ∷ drop (i + 1) rules = drop_more rules i line lt ∙ ap (λ (x : RuleLine). x ∷ drop (i + 1) rules) (sym e) in
    ap (flat_map (left_by (rules_of (drop (i + 1) rules)))) is
    ∙ sym (rule_more line.rule (rules_of (drop (i + 1) rules)) lines)
    ∙ ap (λ (l : List RuleLine). flat_map (left_by (rules_of l)) lines) (sym rest)
    ∙ before

pub rules_end : (rules : List RuleLine) (i : ℕ) (lines total : List ActionParts) → length rules ≤ i → flat_map (left_by (rules_of (drop i rules))) lines ≡ total → lines ≡ total
rules_end rules i lines total le before =
    sym (no_rule lines) ∙ ap (λ (l : List RuleLine). flat_map (left_by (rules_of l)) lines) (sym (drop_end rules i le)) ∙ before

pub patterns_at : (rules : List RuleLine) (k : ℕ) (d : RuleLine) → AllByRecursion HasPatterns (rules_of rules) → k < length rules → HasPatterns (get_or rules k d).rule
patterns_at [] k d h lt = absurd (omega arith)
patterns_at (line ∷ rules) zero d h lt = h.0
patterns_at (line ∷ rules) (suc k) d h lt = patterns_at rules k d h.1 (omega arith)
