use Rattle.std.proofs.Common.{ℕ, List, ◌∙◌, refl, ap, subst}
use Rattle.std.specs.List.{AllByRecursion}
use Rattle.ips_digest.specs.declared.name.PayloadName.{PayloadName}
use Rattle.ips_sends.specs.Judged as spec
use Rattle.ips_ready.specs.Plans.{IsPlaced}
use Rattle.ips_ready.proofs.Placed.{names_same}
use Rattle.ips_ready.proofs.planning.plan_of.Goals as goal

pub returns-clause-plan : goal.returns-clause-plan
returns-clause-plan c =
    let a = c.args.asked.now in
    let p = c.args.publication in
    record {
      lines = p.prepared.manifest.lines.items;
      stand = c.requires.stand;
      are = refl;
      utf8 = c.requires.utf8;
      ways = c.requires.ways ∙ ap (λ (names : List PayloadName). spec.ways a.publisher a.stem names) c.requires.contents;
      names = names_same c.in_ok-contents.contents.items p.prepared.contents.items c.in_ok-contents.ensures.sources ∙ c.requires.contents;
      placed = subst (λ (publisher : List ℕ). AllByRecursion (IsPlaced publisher) c.in_ok-contents.contents.items) c.as_str.ensures c.in_ok-contents.ensures.placed;
      first = c.places_are_paths.ensures.manifests a.publisher a.stem a.version c.requires.asked.publisher c.requires.asked.stem c.requires.asked.version;
      second = c.places_are_paths.ensures.catalogs a.publisher c.requires.asked.publisher;
      steps = c.in_ok-steps.ensures;
      texts = c.in_ok-staged.ensures;
    }
