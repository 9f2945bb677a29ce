use Rattle.std.proofs.Common.{◌≡◌, ◌++◌, ◌∷◌, [], ◌∙◌, true, ℕ, List, ap, map, refl, subst, sym}
use Rattle.std.specs.List.Sorted.{IsStrictlySortedBy}
use Rattle.std.specs.Ordering.{is_lt, nat_cmp}
use Rattle.std.specs.Cmp.Lexicographic.{slice_cmp}
use Rattle.std.specs.declared.cmp.Ordering.{Ordering}
use Rattle.std.specs.declared.cmp.Ordering.TheVariants.{Less, Equal, Greater}
use Rattle.std.proofs.lemmas.Bool.{both_ways}
use Rattle.ips_manifest.specs.declared.package.Package.{Package}
use Rattle.ips_state.specs.State.{Ascend, Installed, installed}
use Rattle.ips_choice_tests.proofs.problem.image.Goals as goal
use Rattle.ips_text.proofs.Orders.{less_is}

two_ascend : (ps : List Package) (first second : Package) → ps ≡ first ∷ second ∷ [] → slice_cmp nat_cmp first.stem second.stem ≡ Less → Ascend (map (λ (p : Installed). p.stem) (map installed ps))
unfolding IsStrictlySortedBy
two_ascend ps first second e less = subst (λ (ps : List Package). Ascend (map (λ (p : Installed). p.stem) (map installed ps))) (sym e) ((less, tt), (tt, tt))

pub returns : goal.returns
returns c = record {
  installed = two_ascend c.push-2.new.self.items c.args.first c.args.second
      (c.in_ok-push-2.ensures.items ∙ ap (λ (ps : List Package). ps ++ c.args.second ∷ []) (c.in_ok-push.ensures.items ∙ ap (λ (ps : List Package). ps ++ c.args.first ∷ []) c.new-installed.ensures.items))
      (sym c.cmp.ensures ∙ less_is c.cmp.result (sym c.is_lt.ensures ∙ c.if-not-is_lt.false));
  avoid = c.in_ok-avoid.ensures;
  freeze = c.in_ok-freeze.ensures.order;
  frozen = c.in_ok-freeze.ensures.frozen;
}
