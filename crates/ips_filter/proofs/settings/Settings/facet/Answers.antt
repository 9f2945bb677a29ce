use Rattle.std.proofs.Common.{rules, ◌≡◌, ◌∙◌, sym, ap, subst, refl, [], ◌∷◌, ◌++◌, List, ℕ, Bool, Option, Some, None, Bor}
use Rattle.std.specs.String.{string_bytes}
use Rattle.std.proofs.lemmas.Bool.{true≢false}
use Rattle.ips_filter.specs.Settings.{Set, AreByName}
use Rattle.ips_filter.specs.View.{found_pattern}
use Rattle.ips_filter.specs.Facet.{IsLongerMatch}
use Rattle.ips_filter.proofs.Views.{seen, seen_ascends}
use Rattle.ips_filter.proofs.Facets.{Facets, Longest, IsFirstOf, longer, stays, moved, whole, decided, free}
use Rattle.ips_filter.proofs.settings.Settings.facet.Goals as goal

pub loop-pattern-init : goal.loop-pattern-init
loop-pattern-init c =
    let start : c.self.inside.facets.entries ≡ c.into_iter-pattern-iterator.result = search rules in
    ([], sym (ap (λ (s : Set). s.facets) c.self.view_is) ∙ ap (seen (λ (b : Bool). b)) start, tt)

pub loop-pattern-preserved-then-is_longer_match : goal.loop-pattern-preserved-then-is_longer_match
loop-pattern-preserved-then-is_longer_match c =
    let e : List ℕ × Bool = (string_bytes c.in-Some.pattern.now, c.in-Some.on.now) in
    let so_far = c.loop-pattern.invariant in
    let better = subst (λ (p : List ℕ). IsLongerMatch (found_pattern c.loop-pattern.longest) p c.args.name.now) c.as_str.ensures.value (c.if-is_longer_match.ensures.0 refl) in (
      so_far.0 ++ e ∷ [],
      moved c.args.self.now.facets so_far.0 (seen (λ (b : Bool). b) c.loop-pattern.pattern-iterator) (seen (λ (b : Bool). b) c.next.new.self) e so_far.1 (ap (seen (λ (b : Bool). b)) c.in-Some.ensures.steps),
      subst (λ (p : List ℕ). IsFirstOf (so_far.0 ++ e ∷ []) c.args.name.now p c.in-Some.on.now) (sym c.as_str-then-is_longer_match.ensures.value) (longer so_far.0 c.args.name.now e (found_pattern c.loop-pattern.longest) better so_far.2),
    )

pub loop-pattern-preserved : goal.loop-pattern-preserved
loop-pattern-preserved c =
    let e : List ℕ × Bool = (string_bytes c.in-Some.pattern.now, c.in-Some.on.now) in
    let so_far = c.loop-pattern.invariant in
    let next : seen (λ (b : Bool). b) c.loop-pattern.pattern-iterator ≡ e ∷ seen (λ (b : Bool). b) c.next.new.self = ap (seen (λ (b : Bool). b)) c.in-Some.ensures.steps in
    let sorted = subst AreByName (so_far.1 ∙ ap (λ (l : Facets). so_far.0 ++ l) next) (subst (λ (s : Set). AreByName s.facets) c.self.view_is (seen_ascends (λ (b : Bool). b) c.self.inside.facets.entries c.self.invariant.1)) in (
      so_far.0 ++ e ∷ [],
      moved c.args.self.now.facets so_far.0 (seen (λ (b : Bool). b) c.loop-pattern.pattern-iterator) (seen (λ (b : Bool). b) c.next.new.self) e so_far.1 next,
      stays so_far.0 (seen (λ (b : Bool). b) c.next.new.self) c.args.name.now e (found_pattern c.loop-pattern.longest)
          (λ better. true≢false (sym (c.is_longer_match.ensures.1 (subst (λ (p : List ℕ). IsLongerMatch (found_pattern c.loop-pattern.longest) p c.args.name.now) (sym c.as_str.ensures.value) better)) ∙ c.if-is_longer_match.false))
          sorted so_far.2,
    )

pub returns-in-Some-longest : goal.returns-in-Some-longest
returns-in-Some-longest c =
    let so_far = c.loop-pattern.invariant in
    let all = whole c.args.self.now.facets so_far.0 (seen (λ (b : Bool). b) c.loop-pattern.pattern-iterator) so_far.1 (ap (seen (λ (b : Bool). b)) c.in-None.ensures.steps.0) in
    let sorted = subst (λ (s : Set). AreByName s.facets) c.self.view_is (seen_ascends (λ (b : Bool). b) c.self.inside.facets.entries c.self.invariant.1) in
    decided c.args.self.now c.args.name.now (c.in-Some-longest.field-0-0.now, c.in-Some-longest.on) sorted
    (subst (λ (l : Facets). Longest l c.args.name.now (found_pattern (Some (c.in-Some-longest.field-0-0, c.in-Some-longest.on)))) all (subst (λ (found : Option (Bor (List ℕ) × Bool)). Longest so_far.0 c.args.name.now (found_pattern found)) c.in-Some-longest.is so_far.2))

pub returns-in-None-longest : goal.returns-in-None-longest
returns-in-None-longest c =
    let so_far = c.loop-pattern.invariant in
    let all = whole c.args.self.now.facets so_far.0 (seen (λ (b : Bool). b) c.loop-pattern.pattern-iterator) so_far.1 (ap (seen (λ (b : Bool). b)) c.in-None.ensures.steps.0) in
    free c.args.self.now c.args.name.now
    (subst (λ (l : Facets). Longest l c.args.name.now None) all (subst (λ (found : Option (Bor (List ℕ) × Bool)). Longest so_far.0 c.args.name.now (found_pattern found)) c.in-None-longest.is so_far.2))
